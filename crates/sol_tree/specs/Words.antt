-- What a word or an operator is: a name, an elementary type, a unit or an operator between two operands.
use Rattle.std.specs.Prelude.{ℕ, Bool, true, false, ◌&&◌, not, if◌then◌else◌, List, [], ◌∷◌, Option, Some, None}
use Rattle.std.specs.Str.{bytes_eq}
use Rattle.chc_nums.specs.declared.typed.Ty.{Ty}
use Rattle.sol_tree.specs.declared.expr.BinaryOp.{BinaryOp}
use Rattle.sol_tree.specs.declared.expr.NumberUnit.{NumberUnit}
use denote.Ref.{Bor}
use Rattle.sol_tree.specs.GrammarWords.{words_of_grammar}
use Rattle.sol_tree.specs.Operators.{operator_marks}
use Rattle.sol_tree.specs.Refused.{is_one_of}
use Rattle.sol_tree.specs.Types.{type_words}
use Rattle.sol_tree.specs.Units.{unit_words}

-- what stands beside a text in a table
abbrev pub found : {A : Type 0} → List ℕ → List (List ℕ × A) → Option A
found w [] = None
found w (r ∷ rs) = if bytes_eq w r.0 then Some r.1 else found w rs

-- a table, with what its references point to
abbrev pub rows : {A : Type 0} → List (Bor (List ℕ) × A) → List (List ℕ × A)
rows [] = []
rows (r ∷ rs) = (r.0.now, r.1) ∷ rows rs

-- the elementary type of a name
unfoldable pub elementary_type : List ℕ → Option Ty
elementary_type w = found w type_words

-- the unit of a name
unfoldable pub number_unit : List ℕ → Option NumberUnit
number_unit w = found w unit_words

-- the operator that is spelled so
unfoldable pub operator_of : List ℕ → Option BinaryOp
operator_of m = found m operator_marks

abbrev pub is_none : {A : Type 0} → Option A → Bool
is_none None = true
is_none (Some x) = false

-- the words of the grammar
unfoldable pub grammar_words : List (List ℕ)
grammar_words = words_of_grammar

-- whether a word is a name
unfoldable pub is_name : List ℕ → Bool
is_name w = not (is_one_of w grammar_words) && (is_none (elementary_type w) && is_none (number_unit w))
