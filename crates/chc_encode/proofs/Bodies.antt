-- The statements of a function from its entry on, and the queries of the targets in them.
use Rattle.std.proofs.Common.{◌≡◌, sym, ap, subst, refl, ℕ, zero, suc, ◌+◌, ◌<◌, List, [], ◌∷◌, ◌++◌, length, arith, ◌⊎◌, inl, inr, Option, Some, None, slice_get, option_map, option_to_list}
use lib.IntN.{ℤ}
use Rattle.std.specs.List.{All}
use Rattle.std.proofs.lemmas.List.{length-map}
use Rattle.std.proofs.lemmas.List.Elements.{All-head, All-tail}
use Rattle.std.proofs.lemmas.List.FromFn.{length-range_with_len}
use Rattle.chc_form.specs.declared.Row.{Row}
use Rattle.chc_form.specs.declared.Sort.TheVariants as sort
use Rattle.chc_nums.specs.declared.Ty.TheVariants as ty
use Rattle.chc_form.specs.declared.Query.{Query}
use Rattle.chc_form.specs.Valuations.{HasSorts}
use Rattle.chc_form.specs.Constraints.{ConsAt}
use Rattle.sol_first.specs.declared.Variable.{Variable}
use Rattle.sol_first.specs.declared.Step.{Step}
use Rattle.sol_first.specs.Typed.{StepTyped}
use Rattle.sol_first.specs.Elaborated.{stmt_of, stmts_of, sites_of_step}
use Rattle.sol_meaning.specs.declared.World.{World}
use Rattle.sol_meaning.specs.declared.Got.{Got}
use Rattle.sol_meaning.specs.declared.Got.TheVariants as got
use Rattle.sol_meaning.specs.declared.End.{End}
use Rattle.sol_meaning.specs.declared.End.TheVariants as done
use Rattle.sol_meaning.specs.Frames.{Run, and_then, Frame, plain, number_at}
use Rattle.sol_meaning.specs.Exec.{exec, exec_all, after_end}
use Rattle.chc_encode.specs.declared.path.Path.{Path}
use Rattle.chc_encode.specs.PathRows.{entry, sorts_of, after, after_all, target}
use Rattle.chc_encode.specs.Systems.{at_entry, query_at, own_query, queries_of_steps}
use Rattle.chc_encode.proofs.Valuations.{hold-append}
use Rattle.chc_encode.proofs.Places.{point, entry-sorts, entry-now, cons-hold}
use Rattle.chc_encode.proofs.Queries.{own-count}
use Rattle.chc_encode.proofs.Steps.{Fitting, Agrees, Reached, Stepped, step-done}

-- ---- entry

sorts-count : (vars : List Variable) → length (sorts_of vars) ≡ length vars
sorts-count vars = length-map vars (λ v. sort.Whole (ty.Uint v.size))

-- the values at entry are a point of the path at entry
pub entry-agrees : (vars : List Variable) (ns : List ℤ) → Fitting vars ns → Agrees vars ns (entry vars) (number_at ns) ns
entry-agrees vars ns f =
    let n : length (sorts_of vars) ≡ length vars = sorts-count vars in record {
      rows = tt;
      rows_below = tt;
      sorts = entry-sorts vars (number_at ns) f.ranges;
      room = omega (arith, n);
      first = λ i l. refl;
      count = length-range_with_len 0 (length vars);
      below = λ i l. omega (arith, n, entry-now vars i l);
      values = λ i l. sym (ap (number_at ns) (entry-now vars i l));
      typed = f;
    }

-- ---- a query that is asked at values at entry

pub record Asked (vars : List Variable) (start : List ℤ) (q : Query) (x : ℕ → ℤ) : Type 0 where
  pub sorts : HasSorts (point x) q.vars
  pub cons : ConsAt q.vars (point x) q.cons
  pub body : q.body ≡ at_entry vars ∷ []
  pub first : (i : ℕ) → i < length vars → x i ≡ number_at start i

-- the query is there, and some values make it true
abbrev pub HasPoint : List Variable → List ℤ → Option Query → Type 0
HasPoint vars start None = ⊥
HasPoint vars start (Some q) = (x : ℕ → ℤ) × Asked vars start q x

point-left : (vars : List Variable) (start : List ℤ) (ps qs : List Query) (k : ℕ) → HasPoint vars start (slice_get ps k) → HasPoint vars start (slice_get (ps ++ qs) k)
point-left vars start [] qs k h = absurd h
point-left vars start (p ∷ ps) qs zero h = h
point-left vars start (p ∷ ps) qs (suc k) h = point-left vars start ps qs k h

point-right : (vars : List Variable) (start : List ℤ) (ps qs : List Query) (k j : ℕ) → j ≡ length ps + k → HasPoint vars start (slice_get qs k) → HasPoint vars start (slice_get (ps ++ qs) j)
point-right vars start [] qs k j e h = let q : k ≡ j = omega arith in subst (λ (i : ℕ). HasPoint vars start (slice_get qs i)) q h
point-right vars start (p ∷ ps) qs k zero e h = absurd (omega arith)
point-right vars start (p ∷ ps) qs k (suc j) e h = point-right vars start ps qs k j (omega arith) h

own-point : (vars : List Variable) (start : List ℤ) (t : ℕ) (p : Path) (ns : List ℤ) (o : Option Row) (x : ℕ → ℤ) (qs : List Query) → Agrees vars start p x ns → Reached o x → HasPoint vars start (slice_get (option_to_list (option_map (query_at vars p t) o) ++ qs) 0)
own-point vars start t p ns None x qs a h = absurd h
own-point vars start t p ns (Some r) x qs a h =
    let q : Asked vars start (query_at vars p t r) x = record { sorts = a.sorts; cons = cons-hold p.sorts (point x) (p.rows ++ r ∷ []) (hold-append p.rows (r ∷ []) x a.rows (h, tt)); body = refl; first = a.first } in
    (x, q)

-- ---- what a body does: at its end the values are as they should be; else at most one target is hit, and its query asked

abbrev pub Hit : List Variable → List ℤ → List Query → ℕ → List ℕ → List ℕ → Type 0
Hit vars start qs first hits new = (new ≡ hits) ⊎ ((k : ℕ) × (new ≡ hits ++ (first + k) ∷ []) × HasPoint vars start (slice_get qs k))

abbrev pub BodyRan : List Variable → List ℤ → (List ℤ → Type 0) → List Query → ℕ → List ℕ → Got End × World → Type 0
BodyRan vars start E qs first hits (got.Value done.Normal, v) = (v.hits ≡ hits) × E v.state.scalars
BodyRan vars start E qs first hits (got.Reverted, v) = Hit vars start qs first hits v.hits
BodyRan vars start E qs first hits (got.Cut, v) = v.hits ≡ hits
BodyRan vars start E qs first hits (got.Value done.Broke, v) = ⊥
BodyRan vars start E qs first hits (got.Value done.Continued, v) = ⊥
BodyRan vars start E qs first hits (got.Value done.Left, v) = ⊥

hit-right : (vars : List Variable) (start : List ℤ) (ps qs : List Query) (first next : ℕ) (hits new : List ℕ) → next ≡ first + length ps → Hit vars start qs next hits new → Hit vars start (ps ++ qs) first hits new
hit-right vars start ps qs first next hits new e (inl h) = inl h
hit-right vars start ps qs first next hits new e (inr h) =
    let j : next + h.0 ≡ first + (length ps + h.0) = omega arith in
    inr (length ps + h.0, subst (λ (n : ℕ). new ≡ hits ++ n ∷ []) j h.1, point-right vars start ps qs h.0 (length ps + h.0) refl h.2)

hit-left : (vars : List Variable) (start : List ℤ) (ps qs : List Query) (first : ℕ) (hits new : List ℕ) → Hit vars start ps first hits new → Hit vars start (ps ++ qs) first hits new
hit-left vars start ps qs first hits new (inl h) = inl h
hit-left vars start ps qs first hits new (inr h) = inr (h.0, h.1, point-left vars start ps qs h.0 h.2)

pub ran-right : (vars : List Variable) (start : List ℤ) (E : List ℤ → Type 0) (ps qs : List Query) (first next : ℕ) (hits : List ℕ) (z : Got End × World) → next ≡ first + length ps → BodyRan vars start E qs next hits z → BodyRan vars start E (ps ++ qs) first hits z
ran-right vars start E ps qs first next hits (got.Value done.Normal, v) e h = h
ran-right vars start E ps qs first next hits (got.Reverted, v) e h = hit-right vars start ps qs first next hits v.hits e h
ran-right vars start E ps qs first next hits (got.Cut, v) e h = h
ran-right vars start E ps qs first next hits (got.Value done.Broke, v) e h = h
ran-right vars start E ps qs first next hits (got.Value done.Continued, v) e h = h
ran-right vars start E ps qs first next hits (got.Value done.Left, v) e h = h

pub ran-left : (vars : List Variable) (start : List ℤ) (E : List ℤ → Type 0) (ps qs : List Query) (first : ℕ) (hits : List ℕ) (z : Got End × World) → BodyRan vars start E ps first hits z → BodyRan vars start E (ps ++ qs) first hits z
ran-left vars start E ps qs first hits (got.Value done.Normal, v) h = h
ran-left vars start E ps qs first hits (got.Reverted, v) h = hit-left vars start ps qs first hits v.hits h
ran-left vars start E ps qs first hits (got.Cut, v) h = h
ran-left vars start E ps qs first hits (got.Value done.Broke, v) h = h
ran-left vars start E ps qs first hits (got.Value done.Continued, v) h = h
ran-left vars start E ps qs first hits (got.Value done.Left, v) h = h

-- some values make the path at the end true
abbrev pub EndsAt : List Variable → List ℤ → Path → List ℤ → Type 0
EndsAt vars start p ns = (y : ℕ → ℤ) × Agrees vars start p y ns

-- a statement and then the rest
then-done : (vars : List Variable) (start : List ℤ) (E : List ℤ → Type 0) (s : Step) (ss : List Step) (site : ℕ) (p : Path) (x : ℕ → ℤ) (ns : List ℤ) (hits : List ℕ) (r : Got End × World) (rest : Run End) → Agrees vars start p x ns → Stepped vars start s site p x hits r
    → ((v : World) (y : ℕ → ℤ) → v.hits ≡ hits → Agrees vars start (after vars s p) y v.state.scalars → BodyRan vars start E (queries_of_steps vars (site + length (sites_of_step s)) ss (after vars s p)) (site + length (sites_of_step s)) hits (rest v))
    → BodyRan vars start E (queries_of_steps vars site (s ∷ ss) p) site hits (and_then r (λ e. after_end e rest))
then-done vars start E s ss site p x ns hits (got.Value done.Normal, v) rest a h go =
    ran-right vars start E (own_query vars site s p) (queries_of_steps vars (site + length (sites_of_step s)) ss (after vars s p)) site (site + length (sites_of_step s)) hits (rest v) (omega (arith, own-count vars site s p)) (go v h.1.0 h.0 h.1.1)
then-done vars start E s ss site p x ns hits (got.Reverted, v) rest a (inl h) go = inl h
then-done vars start E s ss site p x ns hits (got.Reverted, v) rest a (inr h) go =
    let e : site ≡ site + 0 = omega arith in
    inr (0, subst (λ (n : ℕ). v.hits ≡ hits ++ n ∷ []) e h.0, own-point vars start site p ns (target vars s p) x (queries_of_steps vars (site + length (sites_of_step s)) ss (after vars s p)) a h.1)
then-done vars start E s ss site p x ns hits (got.Value done.Broke, v) rest a h go = absurd h
then-done vars start E s ss site p x ns hits (got.Value done.Continued, v) rest a h go = absurd h
then-done vars start E s ss site p x ns hits (got.Value done.Left, v) rest a h go = absurd h
then-done vars start E s ss site p x ns hits (got.Cut, v) rest a h go = absurd h

pub body-done : (frame : Frame) (vars : List Variable) (start : List ℤ) (ss : List Step) (first : ℕ) (p : Path) (x : ℕ → ℤ) (w : World) → All (StepTyped vars) ss → Agrees vars start p x w.state.scalars
    → BodyRan vars start (EndsAt vars start (after_all vars ss p)) (queries_of_steps vars first ss p) first w.hits (exec_all (plain frame) (stmts_of vars first ss) w)
body-done frame vars start [] first p x w t a = (refl, (x, a))
body-done frame vars start (s ∷ ss) first p x w t a =
    then-done vars start (EndsAt vars start (after_all vars ss (after vars s p))) s ss first p x w.state.scalars w.hits (exec (plain frame) (stmt_of vars first s) w) (exec_all (plain frame) (stmts_of vars (first + length (sites_of_step s)) ss)) a (step-done frame vars start s first p x w (All-head (StepTyped vars) s ss t) a)
    (λ v y e b. subst (λ (hits : List ℕ). BodyRan vars start (EndsAt vars start (after_all vars ss (after vars s p))) (queries_of_steps vars (first + length (sites_of_step s)) ss (after vars s p)) (first + length (sites_of_step s)) hits (exec_all (plain frame) (stmts_of vars (first + length (sites_of_step s)) ss) v)) e (body-done frame vars start ss (first + length (sites_of_step s)) (after vars s p) y v (All-tail (StepTyped vars) s ss t) b))
