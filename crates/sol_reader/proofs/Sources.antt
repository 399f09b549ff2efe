-- Trees and the contracts that they are of.
use Rattle.std.proofs.Common.{◌≡◌, ◌∙◌, sym, subst, ℕ, List, Option, Some, None, Err}
use Rattle.sol_tree.specs.declared.file.File.{File}
use Rattle.sol_first.specs.declared.contract.Contract.{Contract}
use Rattle.sol_reader.specs.declared.fault.ReadFault.{ReadFault}
use Rattle.sol_reader.specs.declared.fault.ReadFault.TheVariants as fault
use Rattle.sol_reader.specs.Language.{IsGood, IsFirst, Reads, variable_names, function_names}
use Rattle.sol_reader.specs.Reading.{Gives, units_of}
use Rattle.sol_reader.proofs.Names.{differ-left, some-is}
use Rattle.sol_reader.proofs.Members.{units-sound, units-complete}

read-of : (text : List ℕ) (f : File) (c : Contract) → IsFirst text f c → units_of text f.units ≡ Some c
read-of text f c s = units-complete text f c (differ-left (variable_names c.variables) (function_names c.functions) s.good.distinct) s.good.few_variables s.tree

pub first-of : (text : List ℕ) (f : File) (c : Contract) → units_of text f.units ≡ Some c → IsGood c → IsFirst text f c
first-of text f c h g = record { tree = units-sound text f.at f.units c h; good = g }

no-contract : (text : List ℕ) (f : File) → units_of text f.units ≡ None → (c : Contract) → IsFirst text f c → ⊥
no-contract text f h c s = let e : ◌≡◌ {A = Option Contract} (Some c) None = sym (read-of text f c s) ∙ h in absurd (cc)

pub unique : (text : List ℕ) (f : File) (c d : Contract) → IsFirst text f c → IsFirst text f d → c ≡ d
unique text f c d s r = some-is c d (sym (read-of text f c s) ∙ read-of text f d r)

pub no-good : (text : List ℕ) (f : File) (d : Contract) → units_of text f.units ≡ Some d → (IsGood d → ⊥) → (c : Contract) → IsFirst text f c → ⊥
no-good text f d h n c s = n (subst IsGood (some-is c d (sym (read-of text f c s) ∙ h)) s.good)

pub reads-fault : (text : List ℕ) (f : File) (e : ReadFault) → Gives {A = Contract} (Err e) (units_of text f.units) → Reads text f (Err e)
reads-fault text f fault.NoMemory h = tt
reads-fault text f fault.NotBuilt h = no-contract text f h

pub ruleset sources = (first-of, reads-fault, no-good)

pub ruleset uniqueness = (unique)
