-- The report of a contract stands.
use Rattle.std.proofs.Common.{◌≡◌, ◌∙◌, sym, ap, subst, refl, ℕ, suc, List, [], ◌∷◌, ◌++◌, length, take, take_all, true, Option, Some, None, arith}
use lib.IntN.{ℤ}
use Rattle.std.specs.List.{Contains, list_all}
use Rattle.std.specs.Arc.{arc_value}
use Rattle.chc_nums.specs.declared.limits.TheConstants.{MAX_TURNS}
use Rattle.chc_form.specs.declared.System.{System}
use Rattle.chc_form.specs.declared.Part.TheVariants as part
use Rattle.chc_form.specs.declared.Lemma.{Lemma}
use Rattle.chc_form.specs.Formulas.{FormulaRefuted}
use Rattle.chc_form.specs.Multipliers.{Refutes}
use Rattle.chc_form.specs.Solving as solving
use Rattle.chc_form.specs.Solving.{Solves}
use Rattle.chc_form.specs.WellMade.{well_made, of_system}
use Rattle.chc_reduce.specs.Reduced.{reduced}
use Rattle.chc_reduce.specs.Rows.{rows_of}
use Rattle.chc_reduce.proofs.Ordered.{reduced-ordered}
use Rattle.chc_reduce.proofs.Truthful.{query-shown}
use Rattle.chc_ask.specs.declared.Open.{Open}
use Rattle.chc_ask.specs.declared.Asked.TheVariants as asked
use Rattle.chc_ask.specs.Asked.{asked_of}
use Rattle.chc_ask.specs.Open.{StaysOpen}
use Rattle.chc_ask.proofs.Answers.{asked-refuted, asked-open, open-meets}
use Rattle.chc_houdini.specs.declared.RoundStop.{RoundStop}
use Rattle.chc_encode.specs.Sound.{Sound}
use Rattle.chc_encode.specs.Systems.{system_of}
use Rattle.chc_encode.proofs.Laws.{sound, exact, asks}
use Rattle.chc_templates.specs.Candidates.{candidates_of}
use Rattle.chc_houdini.specs.Drops.{RightDrops, kept}
use Rattle.chc_houdini.specs.declared.Greatest.{Greatest}
use Rattle.pool_state.specs.Content.{Content, IsPool}
use Rattle.sol_core.specs.declared.Program.{Program}
use Rattle.sol_core.specs.declared.Script.{Script}
use Rattle.sol_probe.specs.FirstHit.{IsFirstHit}
use Rattle.sol_probe.proofs.Fitting.{probes-fit}
use Rattle.sol_first.specs.declared.Contract.{Contract}
use Rattle.sol_first.specs.Typed.{IsTyped}
use Rattle.sol_first.specs.Elaborated.{program_of}
use Rattle.sol_report.specs.declared.Stop.{Stop}
use Rattle.sol_report.specs.declared.Verdict.{Verdict}
use Rattle.sol_report.specs.declared.Verdict.TheVariants as verdict
use Rattle.sol_report.specs.declared.Report.{Report}
use Rattle.sol_check.specs.Verdicts.{Basis, query_under, first_of_limit, StopStands, IsSafe, IsUnsafe, IsUnknown, VerdictStands, VerdictsStand, limits}
use Rattle.sol_check.specs.Reports.{IsSystemOf, first_content, IsPoolOf, IsReportOf}
use Rattle.sol_check.specs.Found.{stop_by, VerdictFound, VerdictsFound, IsGreatest, IsReported}

-- what verdicts need of what they rest on: the system is well made and sound, and the pool holds the kept lemmas, which solve it
record Rests (b : Basis) : Type 0 where
  well : well_made b.system ≡ true
  sound : Sound b.system b.program
  of : list_all (of_system b.system) b.pool ≡ true
  solves : Solves b.system b.pool
  same : b.kept ≡ b.pool

take-whole : {A : Type 0} → (xs : List A) (n : ℕ) → n ≡ length xs → take n xs ≡ xs
take-whole xs n e = take_all n xs (omega arith)

-- the formula of a target's query under the pool is refuted, so lemmas refute the query
query-refuted : (s : System) (t : ℕ) (ls : List Lemma) → FormulaRefuted (reduced s (part.Query t) None ls) → solving.Refutes s t ls
query-refuted s t ls r = λ q at v h. query-shown s t q ls v at h r

safe-stands : (b : Basis) (t : ℕ) (ms : List ℤ) (n : ℕ) → Rests b → n ≡ length b.pool → asked_of limits (query_under b t b.pool) ≡ asked.Refuted ms → IsSafe b t ms n
safe-stands b t ms n h e a =
    let both : Refutes ms (rows_of (query_under b t b.pool)) × FormulaRefuted (query_under b t b.pool) = asked-refuted limits (query_under b t b.pool) ms (reduced-ordered b.system (part.Query t) None b.pool h.well) a in
    record {
      within = omega arith;
      refutes = subst (λ (ls : List Lemma). Refutes ms (rows_of (query_under b t ls))) (sym (take-whole b.pool n e)) both.0;
      never = λ x k fit v. h.sound b.pool h.of h.solves t (query-refuted b.system t b.pool both.1) x fit k v;
    }

contains-middle : {A : Type 0} → (before : List A) (x : A) (after : List A) → Contains (before ++ x ∷ after) x
contains-middle [] x after = (0, omega arith, refl)
contains-middle (y ∷ before) x after = let i = contains-middle before x after in (suc i.0, omega (arith, i.1), i.2)

unsafe-stands : (b : Basis) (t : ℕ) (x : Script) (n : ℕ) → n ≡ MAX_TURNS → IsFirstHit b.program t (Some x) → IsUnsafe b t x n
unsafe-stands b t x n e h = record {
  turns = e;
  fits = probes-fit b.program x (subst (λ (ps : List Script). Contains ps x) (sym h.2) (contains-middle h.0 x h.1));
  violates = h.3;
  first = h;
}

stop-stands : (b : Basis) (t : ℕ) (o : Open) (d : Option RoundStop) → first_of_limit b.drops ≡ d → StaysOpen limits (query_under b t b.kept) o → StopStands b t (stop_by d o)
stop-stands b t o None e h = (e, h)
stop-stands b t o (Some d) e h = e

unknown-stands : (b : Basis) (t : ℕ) (s : Stop) (o : Open) (seen tries : ℕ) → Rests b → asked_of limits (query_under b t b.pool) ≡ asked.Open o → IsFirstHit b.program t None → s ≡ stop_by (first_of_limit b.drops) o → seen ≡ 0 → tries ≡ 0 → IsUnknown b t s o seen tries
unknown-stands b t s o seen tries h a none e x y =
    let stays : StaysOpen limits (query_under b t b.pool) o = asked-open limits (query_under b t b.pool) o (reduced-ordered b.system (part.Query t) None b.pool h.well) a in
    let kept_stays : StaysOpen limits (query_under b t b.kept) o = subst (λ (ls : List Lemma). StaysOpen limits (query_under b t ls) o) (sym h.same) stays in
    record {
      under_kept = open-meets limits (query_under b t b.kept) o kept_stays;
      under_pool = open-meets limits (query_under b t b.pool) o stays;
      no_probe = none;
      templates_stop = subst (StopStands b t) (sym e) (stop-stands b t o (first_of_limit b.drops) refl kept_stays);
      pool_stop = stays;
      nothing_seen = x;
      nothing_tried = y;
    }

verdict-stands : (b : Basis) (t : ℕ) (v : Verdict) → Rests b → VerdictFound b.program b.system b.drops b.pool t v → VerdictStands b t v
verdict-stands b t (verdict.Safe ms n) h f = safe-stands b t ms n h f.0 f.1
verdict-stands b t (verdict.Unsafe x n) h f = unsafe-stands b t x n f.0 f.1
verdict-stands b t (verdict.Unknown s o seen tries) h f = unknown-stands b t s o seen tries h f.0 f.1 f.2 f.3 f.4

verdicts-stand : (b : Basis) (t : ℕ) (vs : List (ℕ × Verdict)) → Rests b → VerdictsFound b.program b.system b.drops b.pool t vs → VerdictsStand b t vs
verdicts-stand b t [] h f = tt
verdicts-stand b t (v ∷ vs) h f = (f.0, verdict-stands b t v.1 h f.1, verdicts-stand b (suc t) vs h f.2)

-- what a report says over a system and a program
record RightSo (r : Report) (s : System) (p : Program) : Type 0 where
  system : IsSystemOf s p
  rounds : ℕ
  drops : RightDrops s limits (candidates_of s) r.drops rounds
  pool : IsPoolOf s (kept r.drops (candidates_of s)) r.pool
  verdicts : VerdictsStand (record { program = p; system = s; drops = r.drops; kept = kept r.drops (candidates_of s); pool = r.pool.lemmas }) 0 r.verdicts
  targets : length r.verdicts ≡ length p.sites

-- the pool holds the kept lemmas
first-lemmas : (s : System) (ls : List Lemma) → (first_content s ls).lemmas ≡ ls
first-lemmas s [] = refl
first-lemmas s (l ∷ ls) = refl

first-system : (s : System) (ls : List Lemma) → (first_content s ls).system ≡ s
first-system s [] = refl
first-system s (l ∷ ls) = refl

pool-same : (s : System) (ls : List Lemma) (c : Content) → IsPoolOf s ls c → ls ≡ c.lemmas
pool-same s ls c h = sym (ap (λ (d : Content). d.lemmas) h.holds ∙ first-lemmas s ls)

pool-of : (s : System) (ls : List Lemma) (c : Content) → IsPoolOf s ls c → list_all (of_system s) c.lemmas ≡ true
pool-of s ls c h = subst (λ (t : System). list_all (of_system t) c.lemmas ≡ true) (ap (λ (d : Content). d.system) h.holds ∙ first-system s ls) h.keeps.lemmas_of

system-of : (c : Contract) → IsTyped c → well_made (system_of c) ≡ true → IsSystemOf (system_of c) (program_of c)
system-of c t w = record { well = w; sound = sound c t w; exact = exact c t; asks = asks c }

-- the report of a program and rules that are right for it
right-of : (s : System) (p : Program) (r : Report) → IsSystemOf s p → IsReported p s r → RightSo r s p
right-of s p r system h =
    let b : Basis = record { program = p; system = s; drops = r.drops; kept = kept r.drops (candidates_of s); pool = r.pool.lemmas } in
    record {
      system = system;
      rounds = h.rounds;
      drops = h.drops;
      pool = h.pool;
      verdicts = verdicts-stand (record { program = p; system = s; drops = r.drops; kept = kept r.drops (candidates_of s); pool = r.pool.lemmas }) 0 r.verdicts (record {
        well = system.well;
        sound = system.sound;
        of = pool-of s (kept r.drops (candidates_of s)) r.pool h.pool;
        solves = h.pool.solves;
        same = pool-same s (kept r.drops (candidates_of s)) r.pool h.pool;
      }) h.verdicts;
      targets = h.targets;
    }

report_of : (c : Contract) (r : Report) → r.program ≡ program_of c → RightSo r (arc_value r.system) r.program → IsReportOf c r
report_of c r e h = record {
  program = e;
  system = h.system;
  rounds = h.rounds;
  drops = h.drops;
  pool = h.pool;
  verdicts = h.verdicts;
  targets = h.targets;
}

pub report_found : (c : Contract) (r : Report) → IsTyped c → well_made (system_of c) ≡ true → IsReported (program_of c) (system_of c) r → IsReportOf c r
report_found c r t w h =
    let right : RightSo r (system_of c) (program_of c) = right-of (system_of c) (program_of c) r (system-of c t w) h in
    let same : RightSo r (arc_value r.system) (program_of c) = subst (λ (s : System). RightSo r s (program_of c)) (sym h.system) right in
    report_of c r h.program (subst (RightSo r (arc_value r.system)) (sym h.program) same)

-- ---- what was found

-- the pool of the kept lemmas
pool-found : (s : System) (g : Greatest) (c : Content) → IsGreatest s g → c ≡ first_content s g.lemmas → IsPool c → Solves c.system c.lemmas → IsPoolOf s (kept g.drops (candidates_of s)) c
pool-found s g c h e keeps solves = record {
  holds = e ∙ ap (first_content s) h.kept;
  keeps = keeps;
  solves = subst (λ (t : System). Solves t c.lemmas) (ap (λ (d : Content). d.system) e ∙ first-system s g.lemmas) solves;
}

pub reported_by : (p : Program) (s : System) (g : Greatest) (r : Report) → IsGreatest s g → r.program ≡ p → arc_value r.system ≡ s → r.drops ≡ g.drops → r.pool ≡ first_content s g.lemmas → IsPool r.pool → Solves r.pool.system r.pool.lemmas → VerdictsFound p s r.drops r.pool.lemmas 0 r.verdicts → length r.verdicts ≡ length p.sites → IsReported p s r
reported_by p s g r h a b d e keeps solves v n = record {
  program = a;
  system = b;
  rounds = g.rounds;
  drops = subst (λ (ds : List RoundStop). RightDrops s limits (candidates_of s) ds g.rounds) (sym d) h.right;
  pool = subst (λ (ds : List RoundStop). IsPoolOf s (kept ds (candidates_of s)) r.pool) (sym d) (pool-found s g r.pool h e keeps solves);
  verdicts = v;
  targets = n;
}

pub ruleset founds = (reported_by, report_found)
