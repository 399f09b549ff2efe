-- From a table of what each probe violates to the first probe that violates each target.
use Rattle.std.proofs.Common.{◌≡◌, ◌∙◌, sym, refl, ap, subst, slice_get, ℕ, zero, suc, List, [], ◌∷◌, ◌++◌, Bool, true, false, cond, Option, Some, None, eqb, ◌==◌, ◌<◌, get_or, inl, inr, arith, Contains, ◌+◌, ◌≢◌, length, take, length-set, get_or-set_same, get_or-set_other, take_all}
use Rattle.std.specs.Prelude.{IfOk, OnOk, Result, Ok, Err, set, slice_set, replicate, nat_lt, is_none, ◌||◌, ◌&&◌}
use Rattle.std.specs.Option.{option_or}
use Rattle.lists.specs.declared.memory.NoMemory.{NoMemory}
use Rattle.chc_nums.specs.declared.limits.TheConstants.{MAX_TURNS}
use Rattle.std.specs.List.{list_any, find}
use Rattle.std.proofs.lemmas.List.Folds.{find-append}
use Rattle.std.proofs.lemmas.Option.{slice_get_cases, slice_get-get_or}
use Rattle.std.proofs.lemmas.Map.Views.{Contains-from_any}
use Rattle.std.proofs.lemmas.List.{get_or-replicate, length-replicate, take_more}
use Rattle.std.proofs.lemmas.List.Folds.{list_any_at}
use Rattle.std.proofs.lemmas.Bool.{eqb-true, eq-eqb, lt-ltb}
use Rattle.std.proofs.lemmas.List.Elements.{Contains-append_cases}
use Rattle.sol_core.specs.declared.Program.{Program}
use Rattle.sol_core.specs.declared.Script.{Script}
use Rattle.sol_meaning.specs.Run.{run, Violates}
use Rattle.sol_eval.specs.declared.Run.{Run}
use Rattle.sol_eval.specs.Runs.{IsRun}
use Rattle.sol_probe.specs.FirstHit.{IsFirstHit, AreFirstHits, is_hit}
use Rattle.sol_probe.specs.Noted.{noted_at, noted, AreFirstOf}
use Rattle.sol_probe.specs.Probes.{probes}

any-kept : (t : ℕ) (ts : List ℕ) → Contains ts t → list_any (eqb t) ts ≡ true
any-kept t ts h = list_any_at (eqb t) ts h.0 t h.1 (eq-eqb t (get_or ts h.0 t) (sym h.2))

any-found : (t : ℕ) (ts : List ℕ) → list_any (eqb t) ts ≡ true → Contains ts t
any-found t ts h = Contains-from_any {eq = eqb} eqb-true t ts h

same-tests : (a b : Bool) → (a ≡ true → b ≡ true) → (b ≡ true → a ≡ true) → a ≡ b
same-tests true b f g = sym (f refl)
same-tests false true f g = g refl
same-tests false false f g = refl

pub same-hit : (p : Program) (s : Script) (site : ℕ) (r : Run) (b : Bool) → IsRun (run p s MAX_TURNS) r → b ≡ list_any (λ t. site == t) r.hits → b ≡ is_hit p site s
unfolding is_hit
same-hit p s site r b h e =
    e ∙ same-tests (list_any (eqb site) r.hits) (list_any (eqb site) (run p s MAX_TURNS).hits) (λ q. any-kept site (run p s MAX_TURNS).hits ((h.sites site).0 (any-found site r.hits q))) (λ q. any-kept site r.hits ((h.sites site).1 (any-found site (run p s MAX_TURNS).hits q)))

hit-violates : (p : Program) (site : ℕ) (s : Script) → is_hit p site s ≡ true → Violates p site s MAX_TURNS
unfolding is_hit
hit-violates p site s h = any-found site (run p s MAX_TURNS).hits h

violates-hit : (p : Program) (site : ℕ) (s : Script) → Violates p site s MAX_TURNS → is_hit p site s ≡ true
unfolding is_hit
violates-hit p site s h = any-kept site (run p s MAX_TURNS).hits h

-- the first entry that passes a test, with those before it and after it
record First {A : Type 0} (test : A → Bool) (xs : List A) (s : A) : Type 0 where
  before : List A
  after : List A
  parts : xs ≡ before ++ s ∷ after
  passes : test s ≡ true
  fails : (q : A) → Contains before q → test q ≡ false

one-at : {A : Type 0} (x q : A) (k : ℕ) → k < 1 → get_or (x ∷ []) k q ≡ q → x ≡ q
one-at x q zero h e = e
one-at x q (suc k) h e = absurd (omega arith)

one-held : {A : Type 0} (x q : A) → Contains (x ∷ []) q → x ≡ q
one-held x q h = one-at x q h.0 h.1 h.2

none-held : {A : Type 0} (q : A) → Contains [] q → ⊥
none-held q h = let past : h.0 < 0 = h.1 in omega arith

first-step : {A : Type 0} (test : A → Bool) (x : A) (xs : List A) (s : A) (b : Bool) → test x ≡ b → cond b (Some x) (find test xs) ≡ Some s → (find test xs ≡ Some s → First test xs s) → First test (x ∷ xs) s
first-step {A = A} test x xs s true t e ih =
    let same : x ≡ s = cc in
    record { before = []; after = xs; parts = ap (λ (y : A). y ∷ xs) same; passes = ap test (sym same) ∙ t; fails = λ q h. absurd (none-held q h) }
first-step {A = A} test x xs s false t e ih =
    let rest : First test xs s = ih e in
    record {
      before = x ∷ rest.before;
      after = rest.after;
      parts = ap (λ (ys : List A). x ∷ ys) rest.parts;
      passes = rest.passes;
      fails = λ q h. elim (Contains-append_cases (x ∷ []) rest.before q h) [ inl i ↦ ap test (sym (one-held x q i)) ∙ t | inr i ↦ rest.fails q i ];
    }

first : {A : Type 0} (test : A → Bool) (xs : List A) (s : A) → find test xs ≡ Some s → First test xs s
first test [] s e = absurd (cc)
first test (x ∷ xs) s e = first-step test x xs s (test x) refl e (first test xs s)

nothing-step : {A : Type 0} (test : A → Bool) (x : A) (xs : List A) (b : Bool) → test x ≡ b → cond b (Some x) (find test xs) ≡ None → (find test xs ≡ None → (q : A) → Contains xs q → test q ≡ false) → (q : A) → Contains (x ∷ xs) q → test q ≡ false
nothing-step test x xs true t e ih q h = absurd (cc)
nothing-step test x xs false t e ih q h = elim (Contains-append_cases (x ∷ []) xs q h) [ inl i ↦ ap test (sym (one-held x q i)) ∙ t | inr i ↦ ih e q i ]

nothing : {A : Type 0} (test : A → Bool) (xs : List A) → find test xs ≡ None → (q : A) → Contains xs q → test q ≡ false
nothing test [] e q h = absurd (none-held q h)
nothing test (x ∷ xs) e q h = nothing-step test x xs (test x) refl e (nothing test xs) q h

first-found : (p : Program) (site : ℕ) (all : List Script) (o : Option Script) → all ≡ probes p → o ≡ find (is_hit p site) all → IsFirstHit p site o
first-found p site all None e f =
    let none : find (is_hit p site) (probes p) ≡ None = rw e at (sym f) in
    λ s i v. let clear : is_hit p site s ≡ false = nothing (is_hit p site) (probes p) none s i in let hit : is_hit p site s ≡ true = violates-hit p site s v in absurd (cc)
first-found p site all (Some s) e f =
    let some : find (is_hit p site) (probes p) ≡ Some s = rw e at (sym f) in
    let parts : First (is_hit p site) (probes p) s = first (is_hit p site) (probes p) s some in
    (parts.before, parts.after, parts.parts, hit-violates p site s parts.passes, λ q i v. let clear : is_hit p site q ≡ false = parts.fails q i in let hit : is_hit p site q ≡ true = violates-hit p site q v in absurd (cc))

-- a script that is noted at one target
or-none : {A : Type 0} (o : Option A) → option_or o None ≡ o
or-none None = refl
or-none (Some x) = refl

at-other : (b : Bool) (s : Script) (os : List (Option Script)) (t u : ℕ) → u ≢ t → get_or (cond b (slice_set os t (Some s)) os) u None ≡ get_or os u None
at-other true s os t u n = get_or-set_other os t u (Some s) None n
at-other false s os t u n = refl

at-same : (o : Option Script) (s : Script) (os : List (Option Script)) (t : ℕ) → t < length os → get_or os t None ≡ o → get_or (cond (is_none o) (slice_set os t (Some s)) os) t None ≡ option_or o (Some s)
at-same None s os t i e = get_or-set_same os t (Some s) None i
at-same (Some q) s os t i e = e

noted_at-same : (s : Script) (os : List (Option Script)) (t : ℕ) → t < length os → get_or (noted_at s os t) t None ≡ option_or (get_or os t None) (Some s)
noted_at-same s os t i = let below : nat_lt t (length os) ≡ true = lt-ltb t (length os) i in rw below (at-same (get_or os t None) s os t i refl)

noted_at-case : (s : Script) (os : List (Option Script)) (t u : ℕ) (b : Bool) → eqb u t ≡ b → u < length os → get_or (noted_at s os t) u None ≡ option_or (get_or os u None) (cond b (Some s) None)
noted_at-case s os t u true e i = let same : u ≡ t = eqb-true u t e in rw same (noted_at-same s os t (rw same at i))
noted_at-case s os t u false e i =
    let other : u ≢ t = λ same. let hit : eqb u t ≡ true = eq-eqb u t same in absurd (cc) in
    at-other (nat_lt t (length os) && is_none (get_or os t None)) s os t u other ∙ sym (or-none (get_or os u None))

at-length : (b : Bool) (s : Script) (os : List (Option Script)) (t : ℕ) → length (cond b (slice_set os t (Some s)) os) ≡ length os
at-length true s os t = length-set os t (Some s)
at-length false s os t = refl

noted_at-length : (s : Script) (os : List (Option Script)) (t : ℕ) → length (noted_at s os t) ≡ length os
noted_at-length s os t = at-length (nat_lt t (length os) && is_none (get_or os t None)) s os t

-- and at several
or-either : (o : Option Script) (s : Script) (b c : Bool) → option_or (option_or o (cond b (Some s) None)) (cond c (Some s) None) ≡ option_or o (cond (b || c) (Some s) None)
or-either None s true c = refl
or-either None s false c = refl
or-either (Some q) s b c = refl

noted-length : (s : Script) (os : List (Option Script)) (ts : List ℕ) → length (noted s os ts) ≡ length os
noted-length s os [] = refl
noted-length s os (t ∷ ts) = noted-length s (noted_at s os t) ts ∙ noted_at-length s os t

noted-each : (s : Script) (os : List (Option Script)) (ts : List ℕ) (u : ℕ) → u < length os → get_or (noted s os ts) u None ≡ option_or (get_or os u None) (cond (list_any (eqb u) ts) (Some s) None)
noted-each s os [] u i = sym (or-none (get_or os u None))
noted-each s os (t ∷ ts) u i =
    let within : u < length (noted_at s os t) = rw (noted_at-length s os t) i in
    noted-each s (noted_at s os t) ts u within
    ∙ ap (λ (o : Option Script). option_or o (cond (list_any (eqb u) ts) (Some s) None)) (noted_at-case s os t u (eqb u t) refl i)
    ∙ or-either (get_or os u None) s (eqb u t) (list_any (eqb u) ts)

-- the table after one script more
noted-first : (p : Program) (s : Script) (r : Run) (before : List Script) (old new : List (Option Script)) → IsRun (run p s MAX_TURNS) r → new ≡ noted s old r.hits → AreFirstOf p before old → AreFirstOf p (before ++ s ∷ []) new
noted-first p s r before old new h e f =
    let long : length new ≡ length old = ap (length {A = Option Script}) e ∙ noted-length s old r.hits in
    record {
      count = long ∙ f.count;
      each = λ t i.
          let within : t < length old = rw long at i in
          let hit : list_any (eqb t) r.hits ≡ is_hit p t s = same-hit p s t r (list_any (eqb t) r.hits) h refl in
          ap (λ (os : List (Option Script)). get_or os t None) e
          ∙ noted-each s old r.hits t within
          ∙ ap (λ (o : Option Script). option_or o (cond (list_any (eqb t) r.hits) (Some s) None)) (f.each t within)
          ∙ ap (λ (b : Bool). option_or (find (is_hit p t) before) (cond b (Some s) None)) hit
          ∙ sym (find-append (is_hit p t) before (s ∷ []));
    }

pub noted-ok : {E : Type 0} (p : Program) (s : Script) (r : Run) (hits : List ℕ) (old new : List (Option Script)) (o : Result (Unit {0}) E) → IsRun (run p s MAX_TURNS) r → hits ≡ r.hits → OnOk o (new ≡ noted s old hits) → OnOk o ((before : List Script) → AreFirstOf p before old → AreFirstOf p (before ++ s ∷ []) new)
noted-ok p s r hits old new (Ok u) h same e = λ before f. noted-first p s r before old new h (e ∙ ap (noted s old) same) f
noted-ok p s r hits old new (Err x) h same e = tt

-- one script more of a list
pub first-more : (p : Program) (scripts : List Script) (i : ℕ) (s : Script) (old new : List (Option Script)) → i < length scripts → s ≡ get_or scripts i s → AreFirstOf p (take i scripts) old → ((before : List Script) → AreFirstOf p before old → AreFirstOf p (before ++ s ∷ []) new) → AreFirstOf p (take (i + 1) scripts) new
first-more p scripts i s old new l at f go =
    let taken : take (i + 1) scripts ≡ take i scripts ++ s ∷ [] = take_more scripts i s l ∙ ap (λ (x : Script). take i scripts ++ x ∷ []) (sym at) in
    subst (λ (ss : List Script). AreFirstOf p ss new) (sym taken) (go (take i scripts) f)

-- the table of no script
pub first-of-none : (p : Program) (firsts : List (Option Script)) → firsts ≡ replicate (length p.sites) None → AreFirstOf p [] firsts
first-of-none p firsts e =
    let count : length firsts ≡ length p.sites = ap (length {A = Option Script}) e ∙ length-replicate (length p.sites) None in record {
      count = count;
      each = λ t i. ap (λ (os : List (Option Script)). get_or os t None) e ∙ get_or-replicate (length p.sites) t None None (rw count at i);
    }

-- the table of all probes
first-of-all : (p : Program) (firsts : List (Option Script)) → AreFirstOf p (probes p) firsts → AreFirstHits p firsts
first-of-all p firsts h = record {
  count = h.count;
  each = λ t o e. elim (slice_get_cases firsts t).1 [
    | inl there ↦
        let here : slice_get firsts t ≡ Some (get_or firsts t None) = slice_get-get_or firsts t None there.1 in
        let same : o ≡ get_or firsts t None = cc in
        first-found p t (probes p) o refl (same ∙ h.each t there.1)
    | inr past ↦ absurd (cc)
  ];
}

pub hits-found : (p : Program) (all scripts : List Script) (r : Result (List (Option Script)) NoMemory) → scripts ≡ all → all ≡ probes p → IfOk r (AreFirstOf p scripts) → IfOk r (AreFirstHits p)
hits-found p all scripts (Ok firsts) e d h = first-of-all p firsts (subst (λ (ss : List Script). AreFirstOf p ss firsts) (e ∙ d) h)
hits-found p all scripts (Err x) e d h = tt
