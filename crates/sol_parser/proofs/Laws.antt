-- A tree is read exactly where one is spelled, and there is at most one.
use Rattle.std.proofs.Common.{◌≡◌, ◌∙◌, sym, refl, ℕ, suc, max, ◌≤◌, List, Option, Some, None, arith}
use Rattle.sol_tree.specs.declared.token.Token.{Token}
use Rattle.sol_tree.specs.declared.file.File.{File}
use Rattle.sol_parser.specs.Grammar.{SpellsFile}
use Rattle.sol_parser.specs.Heights.{file_height}
use Rattle.sol_parser.specs.Reading.{file_at}
use Rattle.sol_parser.specs.Trees.{IsTree}
use Rattle.sol_parser.proofs.SoundFiles.{sound-file}
use Rattle.sol_parser.proofs.WholeFiles.{whole-file}

pub file-read : (ts : List Token) (f : File) → file_at 127 ts ≡ Some f → IsTree f ts
file-read ts f e = let r = sound-file 127 ts f e in record { spells = r.spells; low = r.low }

pub file-none : (ts : List Token) (f : File) → file_at 127 ts ≡ None → IsTree f ts → ⊥
file-none ts f e t =
    let w : file_at 127 ts ≡ Some f = whole-file 127 f ts t.spells t.low in
    absurd (cc (e, w))

pub ruleset parsing = (file-read, file-none)

same-file : (f g : File) → ◌≡◌ {A = Option File} (Some f) (Some g) → f ≡ g
same-file f g e = cc

-- whatever levels they have, two trees of the same tokens are one
pub one-file : (ts : List Token) (f g : File) → SpellsFile f ts → SpellsFile g ts → f ≡ g
one-file ts f g p q =
    let d : ℕ = max (file_height f) (file_height g) in
    same-file f g (sym (whole-file d f ts p (omega arith)) ∙ whole-file d g ts q (omega arith))

pub one-tree : (f g : File) (ts : List Token) → IsTree f ts → IsTree g ts → f ≡ g
one-tree f g ts p q = one-file ts f g p.spells q.spells

pub ruleset uniqueness = (one-tree)
