-- The type of each kind of expression.
use Rattle.std.proofs.Common.{◌≡◌, ◌∙◌, sym, ap, refl, ℕ, ◌≤◌, List, [], ◌∷◌, length, map, arith, Bool, true, false, ◌&&◌, Option, Some, slice_get}
use lib.IntN.{ℤ}
use Rattle.chc_nums.specs.declared.Ty.{Ty}
use Rattle.chc_nums.specs.declared.Ty.TheVariants as ty
use Rattle.chc_nums.specs.declared.Op.{Op}
use Rattle.sol_core.specs.declared.program.Cmp.{Cmp}
use Rattle.sol_core.specs.declared.program.PanicSites.{PanicSites}
use Rattle.sol_core.specs.declared.program.Program.{Program}
use Rattle.sol_core.specs.declared.program.Expr.{Expr, Num, Local, Scalar, MapAt, ElemAt, Len, Sender, Arith, Compare, Not, Both, Either, Pick, Cast, Call}
use Rattle.sol_core.specs.declared.program.Expr.TheVariants as rolls
use Rattle.sol_core.specs.declared.program.Expr.TheOpen.{Expr-F}
use Rattle.sol_core.specs.declared.program.Expr.TheFolds.{fold-Expr, fold-roll-Expr}
use Rattle.sol_core.specs.Values.{is_type, is_integer, in_range}
use Rattle.sol_core.specs.TypesOf.{is_place, are_sites, has, have, alike, has_unsigned, when, read_type, call_type, comparable, type_step, type_of}

pub type-Num : (p : Program) (ls : List Ty) (z : ℤ) (t : Ty) → type_of p ls (Num z t) ≡ when (is_type t && in_range t z) (Some t)
unfolding type_of type_step
type-Num p ls z t = ap (fold-Expr (Option Ty) (type_step p ls)) (sym (rolls.rolls-Num z t)) ∙ fold-roll-Expr (Option Ty) (type_step p ls) (Expr-F.Num z t)

pub type-Local : (p : Program) (ls : List Ty) (i : ℕ) → type_of p ls (Local i) ≡ slice_get ls i
unfolding type_of type_step
type-Local p ls i = ap (fold-Expr (Option Ty) (type_step p ls)) (sym (rolls.rolls-Local i)) ∙ fold-roll-Expr (Option Ty) (type_step p ls) (Expr-F.Local i)

pub type-Scalar : (p : Program) (ls : List Ty) (i : ℕ) → type_of p ls (Scalar i) ≡ slice_get p.scalars i
unfolding type_of type_step
type-Scalar p ls i = ap (fold-Expr (Option Ty) (type_step p ls)) (sym (rolls.rolls-Scalar i)) ∙ fold-roll-Expr (Option Ty) (type_step p ls) (Expr-F.Scalar i)

pub type-MapAt : (p : Program) (ls : List Ty) (m : ℕ) (es : List Expr) → type_of p ls (MapAt m es) ≡ read_type (slice_get p.maps m) (map (type_of p ls) es)
unfolding type_of type_step
type-MapAt p ls m es = ap (fold-Expr (Option Ty) (type_step p ls)) (sym (rolls.rolls-MapAt m es)) ∙ fold-roll-Expr (Option Ty) (type_step p ls) (Expr-F.MapAt m es)

pub type-ElemAt : (p : Program) (ls : List Ty) (a : ℕ) (e : Expr) (site : ℕ) → type_of p ls (ElemAt a e site) ≡ when (has_unsigned (type_of p ls e) && is_place p.sites site) (slice_get p.arrays a)
unfolding type_of type_step
type-ElemAt p ls a e site = ap (fold-Expr (Option Ty) (type_step p ls)) (sym (rolls.rolls-ElemAt a e site)) ∙ fold-roll-Expr (Option Ty) (type_step p ls) (Expr-F.ElemAt a e site)

pub type-Len : (p : Program) (ls : List Ty) (a : ℕ) → type_of p ls (Len a) ≡ when (is_place p.arrays a) (Some (ty.Uint 12))
unfolding type_of type_step
type-Len p ls a = ap (fold-Expr (Option Ty) (type_step p ls)) (sym (rolls.rolls-Len a)) ∙ fold-roll-Expr (Option Ty) (type_step p ls) (Expr-F.Len a)

pub type-Sender : (p : Program) (ls : List Ty) → type_of p ls Sender ≡ Some ty.Addr
unfolding type_of type_step
type-Sender p ls = ap (fold-Expr (Option Ty) (type_step p ls)) (sym rolls.rolls-Sender) ∙ fold-roll-Expr (Option Ty) (type_step p ls) Expr-F.Sender

pub type-Arith : (p : Program) (ls : List Ty) (o : Op) (t : Ty) (c : Bool) (a b : Expr) (m : PanicSites) → type_of p ls (Arith o t c a b m) ≡ when (is_integer t && (has t (type_of p ls a) && (has t (type_of p ls b) && are_sites p m))) (Some t)
unfolding type_of type_step
type-Arith p ls o t c a b m = ap (fold-Expr (Option Ty) (type_step p ls)) (sym (rolls.rolls-Arith o t c a b m)) ∙ fold-roll-Expr (Option Ty) (type_step p ls) (Expr-F.Arith o t c a b m)

pub type-Compare : (p : Program) (ls : List Ty) (c : Cmp) (a b : Expr) → type_of p ls (Compare c a b) ≡ when (comparable c (type_of p ls a) (type_of p ls b)) (Some ty.Bool)
unfolding type_of type_step
type-Compare p ls c a b = ap (fold-Expr (Option Ty) (type_step p ls)) (sym (rolls.rolls-Compare c a b)) ∙ fold-roll-Expr (Option Ty) (type_step p ls) (Expr-F.Compare c a b)

pub type-Not : (p : Program) (ls : List Ty) (a : Expr) → type_of p ls (Not a) ≡ when (has ty.Bool (type_of p ls a)) (Some ty.Bool)
unfolding type_of type_step
type-Not p ls a = ap (fold-Expr (Option Ty) (type_step p ls)) (sym (rolls.rolls-Not a)) ∙ fold-roll-Expr (Option Ty) (type_step p ls) (Expr-F.Not a)

pub type-Both : (p : Program) (ls : List Ty) (a b : Expr) → type_of p ls (Both a b) ≡ when (has ty.Bool (type_of p ls a) && has ty.Bool (type_of p ls b)) (Some ty.Bool)
unfolding type_of type_step
type-Both p ls a b = ap (fold-Expr (Option Ty) (type_step p ls)) (sym (rolls.rolls-Both a b)) ∙ fold-roll-Expr (Option Ty) (type_step p ls) (Expr-F.Both a b)

pub type-Either : (p : Program) (ls : List Ty) (a b : Expr) → type_of p ls (Either a b) ≡ when (has ty.Bool (type_of p ls a) && has ty.Bool (type_of p ls b)) (Some ty.Bool)
unfolding type_of type_step
type-Either p ls a b = ap (fold-Expr (Option Ty) (type_step p ls)) (sym (rolls.rolls-Either a b)) ∙ fold-roll-Expr (Option Ty) (type_step p ls) (Expr-F.Either a b)

pub type-Pick : (p : Program) (ls : List Ty) (c a b : Expr) → type_of p ls (Pick c a b) ≡ when (has ty.Bool (type_of p ls c) && alike (type_of p ls a) (type_of p ls b)) (type_of p ls a)
unfolding type_of type_step
type-Pick p ls c a b = ap (fold-Expr (Option Ty) (type_step p ls)) (sym (rolls.rolls-Pick c a b)) ∙ fold-roll-Expr (Option Ty) (type_step p ls) (Expr-F.Pick c a b)

pub type-Cast : (p : Program) (ls : List Ty) (s t : Ty) (a : Expr) → type_of p ls (Cast s t a) ≡ when (is_integer s && (is_integer t && has s (type_of p ls a))) (Some t)
unfolding type_of type_step
type-Cast p ls s t a = ap (fold-Expr (Option Ty) (type_step p ls)) (sym (rolls.rolls-Cast s t a)) ∙ fold-roll-Expr (Option Ty) (type_step p ls) (Expr-F.Cast s t a)

pub type-Call : (p : Program) (ls : List Ty) (f : ℕ) (es : List Expr) → type_of p ls (Call f es) ≡ call_type (slice_get p.funs f) (map (type_of p ls) es)
unfolding type_of type_step
type-Call p ls f es = ap (fold-Expr (Option Ty) (type_step p ls)) (sym (rolls.rolls-Call f es)) ∙ fold-roll-Expr (Option Ty) (type_step p ls) (Expr-F.Call f es)

-- no expressions have types, where there are some
pub have_none : (ts : List Ty) → 1 ≤ length ts → false ≡ have ts []
have_none [] h = absurd (omega arith)
have_none (t ∷ ts) h = refl

pub ruleset typing = (type-Num, type-Local, type-Scalar, type-MapAt, type-ElemAt, type-Len, type-Sender, type-Arith, type-Compare, type-Not, type-Both, type-Either, type-Pick, type-Cast, type-Call)
