-- Lemmas that grew by batches solve the rules, and what a pool keeps as a batch joins.
use Rattle.std.proofs.Common.{◌≡◌, ◌∙◌, sym, ap, subst, refl, ◌≤◌, Bool, true, false, List, [], ◌∷◌, ◌++◌, length, take, drop, arith, if◌then◌else◌}
use Rattle.std.specs.List.{list_all}
use Rattle.std.proofs.Math.Seq.{take-append_seam}
use Rattle.std.proofs.lemmas.List.{take-append-drop, length-append}
use Rattle.std.proofs.lemmas.List.Folds.{list_all-append}
use Rattle.std.proofs.lemmas.Bool.{and_from}
use Rattle.chc_form.specs.declared.system.System.{System}
use Rattle.chc_form.specs.declared.lemma.Lemma.{Lemma}
use Rattle.chc_form.specs.Solving.{Solves, Relative}
use Rattle.chc_form.specs.WellMade.{well_made, of_system}
use Rattle.chc_form.proofs.Joining.{joined}
use Rattle.pool_state.specs.declared.joined.Joined.{Joined}
use Rattle.pool_state.specs.Content.{Batched, Content, Grown, empty, more, IsBatch, IsPool, Fits}

-- grown lemmas solve the rules
pub grown-solves : (s : System) (js : List Joined) (ls : List Lemma) → Grown s js ls → Solves s ls
grown-solves s js ls empty = λ r there v body. tt
grown-solves s js ls (more {js = old} {ls = had} g j batch below same relative) =
    joined s had (take j.base had) (drop j.base had) batch (sym (take-append-drop j.base had)) (grown-solves s old had g) relative

-- ---- what a pool keeps

pool-same : (s : System) (js ks : List Joined) (ls ms : List Lemma) → js ≡ ks → ls ≡ ms → IsPool (record { system = s; batches = js; lemmas = ls }) → IsPool (record { system = s; batches = ks; lemmas = ms })
pool-same s js ks ls ms e f p =
    subst (λ (xs : List Lemma). IsPool (record { system = s; batches = ks; lemmas = xs })) f (subst (λ (xs : List Joined). IsPool (record { system = s; batches = xs; lemmas = ls })) e p)

-- a pool of no lemmas
pub pool-none : (s : System) (js : List Joined) (ls : List Lemma) → well_made s ≡ true → js ≡ [] → ls ≡ [] → IsPool (record { system = s; batches = js; lemmas = ls })
pool-none s js ls made e f = pool-same s [] js [] ls (sym e) (sym f) (record { made = made; lemmas_of = refl; grown = empty })

-- a pool that a batch joins
pub pool-joined : (c : Content) (b : Batched) (j : Joined) → IsPool c → IsBatch b → Fits c b → j.base ≡ length b.base → j.len ≡ length b.lemmas → IsPool (record { system = c.system; batches = c.batches ++ j ∷ []; lemmas = c.lemmas ++ b.lemmas })
pool-joined c b j p q f base len =
    let seam : take j.base c.lemmas ≡ b.base = rw (base, f.prefix) (take-append_seam b.base f.rest) in
    let own : Relative c.system b.base b.lemmas = subst (λ (s : System). Relative s b.base b.lemmas) f.same q.relative in
    let relative : Relative c.system (take j.base c.lemmas) b.lemmas = subst (λ (ls : List Lemma). Relative c.system ls b.lemmas) (sym seam) own in
    let within : j.base ≤ length c.lemmas = omega (arith, ap length f.prefix, length-append b.base f.rest, base) in
    let added : list_all (of_system c.system) b.lemmas ≡ true = subst (λ (s : System). list_all (of_system s) b.lemmas ≡ true) f.same q.lemmas_of in record {
      made = p.made;
      lemmas_of = list_all-append (of_system c.system) c.lemmas b.lemmas ∙ and_from (list_all (of_system c.system) c.lemmas) (list_all (of_system c.system) b.lemmas) p.lemmas_of added;
      grown = more p.grown j b.lemmas within len relative;
    }

-- a pool whether a batch joins or not
pub pool-kept : (t : Bool) (had c : Content) (b : Batched) (j : Joined) (new : List Joined) (have added : List Lemma) → had ≡ c → IsPool had → b.lemmas ≡ added → IsBatch b → Fits c b → j.base ≡ length b.base → j.len ≡ length added → new ≡ (if t then had.batches ++ j ∷ [] else had.batches) → have ≡ (if t then had.lemmas ++ added else had.lemmas) → IsPool (record { system = had.system; batches = new; lemmas = have })
pool-kept true had c b j new have added e p l q f base len n h =
    let fits : Fits had b = subst (λ (x : Content). Fits x b) (sym e) f in
    pool-same had.system (had.batches ++ j ∷ []) new (had.lemmas ++ b.lemmas) have (sym n) (ap (λ (ls : List Lemma). had.lemmas ++ ls) l ∙ sym h) (pool-joined had b j p q fits base (len ∙ ap length (sym l)))
pool-kept false had c b j new have added e p l q f base len n h = pool-same had.system had.batches new had.lemmas have (sym n) (sym h) p

-- a batch with no base fits wherever its system is the pool's
pub fits-free : (c : Content) (b : Batched) → b.system ≡ c.system → b.base ≡ [] → Fits c b
fits-free c b e f = record { same = e; rest = c.lemmas; prefix = ap (λ (ls : List Lemma). ls ++ c.lemmas) (sym f) }

pub ruleset fitting = (fits-free)

pub ruleset growing = (grown-solves, pool-none)
