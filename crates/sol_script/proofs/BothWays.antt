-- A text and its script.
use Rattle.std.proofs.Common.{◌≡◌, ◌∙◌, List, ℕ, Result, Ok, true, ◌&&◌, ap}
use Rattle.std.specs.Prelude.{◌↔◌, nat_lt, ◌^◌, length}
use Rattle.std.proofs.lemmas.Bool.{and_parts}
use Rattle.sol_core.specs.declared.Program.{Program}
use Rattle.sol_core.specs.declared.Script.{Script}
use Rattle.sol_core.specs.Formed.{formed, are_doors, are_ordered, are_variables, are_functions}
use Rattle.sol_script.specs.Reading.{read_script}
use Rattle.sol_script.specs.Told.{is_told, script_text}
use Rattle.sol_script.proofs.Forth.{read-told}
use Rattle.sol_script.proofs.Back.{told-text}

doors-of : (p : Program) → formed p ≡ true → are_doors p p.doors ≡ true
doors-of p h = (and_parts (are_doors p p.doors) (are_ordered p.sites && nat_lt (length p.sites) (2 ^ 31)) (and_parts (are_variables p && are_functions p) (are_doors p p.doors && (are_ordered p.sites && nat_lt (length p.sites) (2 ^ 31))) h).1).0

pub text-law : (p : Program) → formed p ≡ true → (text : List ℕ) (s : Script) → (read_script p text ≡ Ok s) ↔ ((text ≡ script_text p s) × (is_told p s ≡ true))
text-law p h text s = (λ e. told-text p text s e, λ q. ap (read_script p) q.0 ∙ read-told p (doors-of p h) s q.1)

pub ruleset laws = (text-law)
