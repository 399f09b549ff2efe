-- Tokens and the texts that they are of.
use Rattle.std.proofs.Common.{ℕ, ◌≤◌, List, length, Option, Some, None, Ok, Err, ◌≢◌, arith, length-append}
use Rattle.sol_tree.specs.declared.token.Token.{Token}
use Rattle.sol_tree.specs.declared.token.TokenKind.{TokenKind}
use Rattle.sol_tree.specs.declared.file.File.{File}
use Rattle.sol_lexer.specs.Tokens.{Tokenizes, TokenizesFrom, token_of}
use Rattle.sol_lexer.specs.Tokens as rule
use Rattle.sol_lexer.proofs.Laws.{piece-some}
use Rattle.sol_parse_expr.specs.Place.{IsPlace}
use Rattle.sol_parser.specs.Trees.{IsTree}
use Rattle.sol_names.specs.declared.NameFault.{NameFault}
use Rattle.sol_names.specs.declared.NameFault.TheVariants as naming
use Rattle.sol_names.specs.declared.Lineage.{Lineage}
use Rattle.sol_names.specs.Orders.{Orders}
use Rattle.sol_first.specs.declared.Contract.{Contract}
use Rattle.sol_reader.specs.Language.{IsFirst}
use Rattle.sol_driver.specs.Refusals.{HasTree, HasNoTree, HasNoLineage}
use Rattle.sol_driver.specs.Stands.{HasContract}

token-one : (at n : ℕ) (k : Option TokenKind) → length (token_of at n k) ≤ 1
token-one at n None = omega arith
token-one at n (Some k) = omega arith

tokens-few-from : {at : ℕ} {t : List ℕ} {ts : List Token} → TokenizesFrom at t ts → length ts ≤ length t
tokens-few-from rule.end = omega arith
tokens-few-from (rule.piece {at} {p} {rest} {k} {ts} x more) =
    omega (arith, length-append p rest, length-append (token_of at (length p) k) ts, token-one at (length p) k, piece-some x, tokens-few-from more)

-- each token takes a byte
pub tokens-few : (text : List ℕ) (ts : List Token) → length text ≤ 262144 → Tokenizes text ts → length ts ≤ 262144
tokens-few text ts l t = omega (arith, tokens-few-from t)

pub has-tree : (text : List ℕ) (ts : List Token) (f : File) → Tokenizes text ts → IsTree f ts → HasTree text f
has-tree text ts f t h = record { tokens = ts; tokenizes = t; tree = h }

pub has-no_tree : (text : List ℕ) (ts : List Token) (at : ℕ) → Tokenizes text ts → ((f : File) → IsTree f ts → ⊥) × IsPlace at ts → HasNoTree text at
has-no_tree text ts at t h = record { tokens = ts; tokenizes = t; none = h.0; place = h.1 }

pub ruleset sources = (tokens-few, has-tree, has-no_tree)

pub has_contract : (name : Option (List ℕ)) (text : List ℕ) (f : File) (l : Lineage) (c : Contract) → HasTree text f → Orders f.units name (Ok l) → IsFirst text f c → HasContract name text c
has_contract name text f l c source ordered first = record { file = f; source = source; lineage = l; ordered = ordered; first = first }

pub ruleset contracts = (has_contract)

pub no_lineage : (name : Option (List ℕ)) (text : List ℕ) (f : File) (e : NameFault) → HasTree text f → Orders f.units name (Err e) → e ≢ naming.NoMemory → HasNoLineage name text e
no_lineage name text f e source cause told = record { file = f; source = source; cause = cause; told = told }

pub ruleset orders = (no_lineage)
