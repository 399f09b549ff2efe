-- Types of a size that Solidity has, in a program that is formed.
use Rattle.std.proofs.Common.{◌≡◌, ◌∙◌, sym, ap, refl, ℕ, zero, suc, List, [], ◌∷◌, take, Bool, true, ◌&&◌, Option, Some, None, slice_get, arith, nat_le}
use Rattle.std.specs.List.{list_all}
use Rattle.std.proofs.lemmas.Bool.Decides.{nat_tests}
use Rattle.std.proofs.lemmas.Bool.{and_parts, and_from}
use Rattle.chc_nums.specs.declared.Ty.{Ty}
use Rattle.chc_nums.specs.declared.Ty.TheVariants as ty
use Rattle.chc_nums.specs.Types.{IsType}
use Rattle.sol_core.specs.declared.program.Fun.{Fun}
use Rattle.sol_core.specs.declared.program.Program.{Program}
use Rattle.sol_core.specs.Values.{is_size, is_type}
use Rattle.sol_core.specs.Doors.{fun_at, door, params_of}
use Rattle.sol_core.specs.Formed.{formed, is_fun, are_variables, are_functions, are_doors, are_ordered, are_params, is_map, is_out_fun, is_build}

pub type_size : (t : Ty) → is_type t ≡ true → IsType t
type_size ty.Bool h = tt
type_size (ty.Uint s) h = let p = and_parts (nat_le 1 s) (nat_le s 12) h in (grind (arith, nat_tests), grind (arith, nat_tests))
type_size (ty.Int s) h = let p = and_parts (nat_le 1 s) (nat_le s 12) h in (grind (arith, nat_tests), grind (arith, nat_tests))
type_size ty.Addr h = tt

-- what holds of a list holds of its front, and of each entry
pub front-holds : {A : Type 0} (test : A → Bool) (n : ℕ) (xs : List A) → list_all test xs ≡ true → list_all test (take n xs) ≡ true
front-holds test zero xs h = refl
front-holds test (suc n) [] h = refl
front-holds test (suc n) (x ∷ xs) h = let q = and_parts (test x) (list_all test xs) h in and_from (test x) (list_all test (take n xs)) q.0 (front-holds test n xs q.1)

pub entry-holds : {A : Type 0} (test : A → Bool) (xs : List A) (i : ℕ) (x : A) → list_all test xs ≡ true → slice_get xs i ≡ Some x → test x ≡ true
entry-holds test [] i x h e = absurd (cc)
entry-holds test (y ∷ ys) zero x h e = let p : y ≡ x = cc in let q = and_parts (test y) (list_all test ys) h in rw (← p) q.0
entry-holds test (y ∷ ys) (suc i) x h e = entry-holds test ys i x (and_parts (test y) (list_all test ys) h).1 e

variables : (p : Program) → formed p ≡ true → are_variables p ≡ true
variables p h = (and_parts (are_variables p) (are_functions p) (and_parts (are_variables p && are_functions p) _ h).0).0

functions : (p : Program) → formed p ≡ true → list_all (is_fun p) p.funs ≡ true
functions p h = (and_parts (list_all (is_fun p) p.funs) _ (and_parts (are_variables p) (are_functions p) (and_parts (are_variables p && are_functions p) _ h).0).1).0

pub locals_typed : (p : Program) (f : Fun) → is_fun p f ≡ true → list_all is_type f.locals ≡ true
locals_typed p f h = (and_parts (list_all is_type f.locals) _ h).0

fun-typed : (p : Program) (at : Option ℕ) (f : Fun) → are_params p ≡ true → fun_at p at ≡ Some f → list_all is_type (params_of f) ≡ true
fun-typed p None f h e = absurd (cc)
fun-typed p (Some i) f h e = entry-holds (λ g. list_all is_type (params_of g)) p.funs i f (and_parts (list_all is_type p.params) _ h).1 e

-- the parameters of a function behind a door
pub params_typed : (p : Program) (d : ℕ) (f : Fun) → are_params p ≡ true → door p d ≡ Some f → list_all is_type (params_of f) ≡ true
params_typed p d f h e = fun-typed p (slice_get p.doors d) f h e

-- the parameters of the deployment
pub deployment_typed : (p : Program) → are_params p ≡ true → list_all is_type p.params ≡ true
deployment_typed p h = (and_parts (list_all is_type p.params) _ h).0

-- ---- the parameters of a formed program

deployed-formed : (p : Program) → formed p ≡ true → list_all is_type p.params ≡ true
deployed-formed p h = (and_parts (list_all is_type p.arrays) (list_all is_type p.params) (and_parts (list_all is_map p.maps) _ (and_parts (list_all is_type p.scalars) _ (variables p h)).1).1).1

params-formed : (p : Program) (fs : List Fun) → list_all (is_fun p) fs ≡ true → list_all (λ f. list_all is_type (params_of f)) fs ≡ true
params-formed p [] h = refl
params-formed p (f ∷ fs) h =
    let q = and_parts (is_fun p f) (list_all (is_fun p) fs) h in
    and_from (list_all is_type (params_of f)) _ (front-holds is_type f.params f.locals (locals_typed p f q.0)) (params-formed p fs q.1)

pub formed_params : (p : Program) → formed p ≡ true → are_params p ≡ true
formed_params p h = and_from (list_all is_type p.params) _ (deployed-formed p h) (params-formed p p.funs (functions p h))

pub types_front : (t : Ty) (ts : List Ty) → list_all is_type (t ∷ ts) ≡ true → is_type t ≡ true
types_front t ts h = (and_parts (is_type t) (list_all is_type ts) h).0

pub types_rest : (t : Ty) (ts : List Ty) → list_all is_type (t ∷ ts) ≡ true → list_all is_type ts ≡ true
types_rest t ts h = (and_parts (is_type t) (list_all is_type ts) h).1

pub ruleset types = (type_size, types_front, types_rest)
