-- The elementary type that a written type is.
use Rattle.std.proofs.Common.{◌≡◌, ◌∙◌, sym, ap, ℕ, List, Option, Some, None}
use Rattle.chc_nums.specs.declared.typed.Ty.{Ty}
use Rattle.sol_tree.specs.declared.types.Identifier.{Identifier}
use Rattle.sol_tree.specs.declared.types.Type as types
use Rattle.sol_tree.specs.declared.types.Type.TheVariants.{rolls-Elementary, rolls-Named, rolls-Array, rolls-Mapping}
use Rattle.sol_tree.specs.declared.types.Type.TheOpen.{Type-F}
use Rattle.sol_tree.specs.declared.types.Type.TheFolds.{fold-roll-Type}
use Rattle.sol_judged.specs.TypeMembers.{elementary_step, elementary_of}

pub elementary-Elementary : (at : ℕ) (t : Ty) → elementary_of (types.Elementary at t) ≡ Some t
elementary-Elementary at t = ap elementary_of (sym (rolls-Elementary at t)) ∙ fold-roll-Type (Option Ty) elementary_step (Type-F.Elementary at t)

pub elementary-Named : (at : ℕ) (name : List ℕ) → elementary_of (types.Named at name) ≡ None
elementary-Named at name = ap elementary_of (sym (rolls-Named at name)) ∙ fold-roll-Type (Option Ty) elementary_step (Type-F.Named at name)

pub elementary-Array : (at : ℕ) (element : types.Type) → elementary_of (types.Array at element) ≡ None
elementary-Array at element = ap elementary_of (sym (rolls-Array at element)) ∙ fold-roll-Type (Option Ty) elementary_step (Type-F.Array at element)

pub elementary-Mapping : (at : ℕ) (key : types.Type) (key_name : Option Identifier) (value : types.Type) (value_name : Option Identifier) → elementary_of (types.Mapping at key key_name value value_name) ≡ None
elementary-Mapping at key key_name value value_name = ap elementary_of (sym (rolls-Mapping at key key_name value value_name)) ∙ fold-roll-Type (Option Ty) elementary_step (Type-F.Mapping at key key_name value value_name)

pub ruleset elementary = (elementary-Elementary, elementary-Named, elementary-Array, elementary-Mapping)
