-- `type(T).min` and `type(T).max`. Of another type than an integer rule 16 is broken at the member, and each name in it that is
-- no interface in scope breaks rule 1, a contract's name rule 2 too.
use Rattle.std.specs.Prelude.{ℕ, List, [], ◌∷◌, ◌++◌, Option, Some, None}
use Rattle.chc_nums.specs.declared.typed.Ty.{Ty}
use Rattle.sol_tree.specs.declared.types.Identifier.{Identifier}
use Rattle.sol_tree.specs.declared.types.Type as types
use Rattle.sol_tree.specs.declared.types.Type.TheOpen.{Type-F}
use Rattle.sol_tree.specs.declared.types.Type.TheFolds.{fold-Type}
use Rattle.sol_judged.specs.declared.rules.Rule.{Rule}
use Rattle.sol_judged.specs.declared.rules.Rule.TheVariants as rule
use Rattle.sol_judged.specs.declared.tables.Meaning.{Meaning}
use Rattle.sol_judged.specs.declared.tables.Meaning.TheVariants as means
use Rattle.sol_judged.specs.Settings.{Setting}
use Rattle.sol_judged.specs.Judged.{Judged, ◌>>=◌}
use Rattle.sol_judged.specs.Found.{Seen, Unknown}
use Rattle.sol_judged.specs.Names.{meaning_of}
use Rattle.sol_judged.specs.Members.{no_member, elementary_member}

-- a name in a type
abbrev pub type_name_faults : ℕ → Option Meaning → List (Rule × ℕ)
type_name_faults at (Some (means.Interface u)) = []
type_name_faults at (Some (means.Contract u)) = (rule.Naming, at) ∷ (rule.DeclaredType, at) ∷ []
type_name_faults at (Some (means.Faulty broken_rule place)) = (broken_rule, place) ∷ []
type_name_faults at _ = (rule.Naming, at) ∷ []

abbrev pub type_faults_step : Setting → Type-F (List (Rule × ℕ)) → List (Rule × ℕ)
type_faults_step w (Type-F.Elementary at t) = []
type_faults_step w (Type-F.Named at name) = type_name_faults at (meaning_of w name)
type_faults_step w (Type-F.Array at element) = element
type_faults_step w (Type-F.Mapping at key key_name value value_name) = key ++ value

-- the faults of the names in a type
abbrev pub type_faults : Setting → types.Type → List (Rule × ℕ)
type_faults w t = fold-Type (List (Rule × ℕ)) (type_faults_step w) t

-- what the type is, where it is elementary
abbrev pub elementary_step : Type-F (Option Ty) → Option Ty
elementary_step (Type-F.Elementary at t) = Some t
elementary_step (Type-F.Named at name) = None
elementary_step (Type-F.Array at element) = None
elementary_step (Type-F.Mapping at key key_name value value_name) = None

abbrev pub elementary_of : types.Type → Option Ty
elementary_of t = fold-Type (Option Ty) elementary_step t

abbrev pub type_member_of : Option Ty → List (Rule × ℕ) → Identifier → Judged Seen
type_member_of (Some t) faults m = elementary_member t m
type_member_of None faults m = no_member m >>= λ s. record { found = Unknown; faults = faults }

unfoldable pub type_member : Setting → types.Type → Identifier → Judged Seen
type_member w t m = type_member_of (elementary_of t) (type_faults w t) m
