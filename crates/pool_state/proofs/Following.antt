-- The batches of a pool as a list, and what follows it.
use Rattle.std.proofs.Common.{◌≡◌, ◌≢◌, true, ◌∙◌, sym, ap, subst, refl, ℕ, ◌+◌, ◌≤◌, List, [], ◌∷◌, ◌++◌, length, take, drop, append_assoc, append-nil, arith}
use Rattle.std.specs.List.{list_all}
use Rattle.std.proofs.Math.Seq.{take-append_seam, drop-append_seam}
use Rattle.std.proofs.lemmas.List.{length-append, take-append-le}
use Rattle.chc_form.specs.declared.system.System.{System}
use Rattle.chc_form.specs.declared.lemma.Lemma.{Lemma}
use Rattle.chc_form.specs.WellMade.{of_system}
use Rattle.pool_lock.specs.Entries.{StartsWith, CopiesPrefix}
use Rattle.pool_lock.proofs.Entries.{starts-length, starts-whole}
use Rattle.pool_state.specs.declared.joined.Joined.{Joined}
use Rattle.pool_state.specs.Content.{Batched, Content, Grown, empty, more, IsPool, Fits, joined_to}
use Rattle.pool_state.specs.Items.{items_from, items_in, lemmas_in, lemmas-append, MayFollow, AreCopies}

-- how many lemmas batches have
abbrev lens : List Joined → ℕ
lens [] = 0
lens (j ∷ js) = j.len + lens js

lens-append : (js ks : List Joined) → lens (js ++ ks) ≡ lens js + lens ks
lens-append [] ks = omega arith
lens-append (j ∷ js) ks = let e = lens-append js ks in omega arith

grown-lens : (s : System) (js : List Joined) (ls : List Lemma) → Grown s js ls → lens js ≡ length ls
grown-lens s js ls empty = refl
grown-lens s js ls (more {js = old} {ls = had} g j batch below same relative) =
    let e = grown-lens s old had g in omega (arith, lens-append old (j ∷ []), length-append had batch, e, same)

items-append : (s : System) (all : List Lemma) (at : ℕ) (js ks : List Joined) → items_from s all at (js ++ ks) ≡ items_from s all at js ++ items_from s all (at + lens js) ks
items-append s all at [] ks = let e : at ≡ at + 0 = omega arith in ap (λ (n : ℕ). items_from s all n ks) e
items-append s all at (j ∷ js) ks =
    let e : at + j.len + lens js ≡ at + (j.len + lens js) = omega arith in
    ap (λ (l : List (ℕ × Batched)). (j.worker, record { system = s; base = take j.base all; lemmas = take j.len (drop at all) }) ∷ l) (items-append s all (at + j.len) js ks ∙ ap (λ (n : ℕ). items_from s all (at + j.len) js ++ items_from s all n ks) e)

-- a batch that joined, as an item
abbrev item : System → List Lemma → Joined → List Lemma → ℕ × Batched
item s had j batch = (j.worker, record { system = s; base = take j.base had; lemmas = batch })

-- one batch more, where what stands behind it doesn't count
one-more : (s : System) (had : List Lemma) (old : List Joined) (j : Joined) (batch rest : List Lemma) → lens old ≡ length had → j.base ≤ length had → j.len ≡ length batch → items_from s (had ++ (batch ++ rest)) 0 old ≡ items_from s had 0 old
    → items_from s (had ++ (batch ++ rest)) 0 (old ++ j ∷ []) ≡ items_from s had 0 old ++ item s had j batch ∷ []
one-more s had old j batch rest whole below same stable =
    let all : List Lemma = had ++ (batch ++ rest) in
    let base : take j.base all ≡ take j.base had = take-append-le j.base had (batch ++ rest) below in
    let none : 0 + lens old ≡ length had = omega (arith, whole) in
    let place : drop (0 + lens old) all ≡ batch ++ rest = ap (λ (n : ℕ). drop n all) none ∙ drop-append_seam had (batch ++ rest) in
    let its : take j.len (drop (0 + lens old) all) ≡ batch = ap (take j.len) place ∙ ap (λ (n : ℕ). take n (batch ++ rest)) same ∙ take-append_seam batch rest in
    items-append s all 0 old (j ∷ [])
    ∙ ap (λ (l : List (ℕ × Batched)). l ++ items_from s all (0 + lens old) (j ∷ [])) stable
    ∙ ap (λ (ls : List Lemma). items_from s had 0 old ++ (j.worker, record { system = s; base = ls; lemmas = take j.len (drop (0 + lens old) all) }) ∷ []) base
    ∙ ap (λ (ls : List Lemma). items_from s had 0 old ++ (j.worker, record { system = s; base = take j.base had; lemmas = ls }) ∷ []) its

last-more : (s : System) (had : List Lemma) (old : List Joined) (j : Joined) (batch : List Lemma) → lens old ≡ length had → j.base ≤ length had → j.len ≡ length batch → items_from s (had ++ batch) 0 old ≡ items_from s had 0 old → items_from s (had ++ batch) 0 (old ++ j ∷ []) ≡ items_from s had 0 old ++ item s had j batch ∷ []
last-more s had old j batch whole below same stable =
    let e : had ++ batch ≡ had ++ (batch ++ []) = ap (λ (ls : List Lemma). had ++ ls) (sym (append-nil batch)) in
    ap (λ (ls : List Lemma). items_from s ls 0 (old ++ j ∷ [])) e ∙ one-more s had old j batch [] whole below same (ap (λ (ls : List Lemma). items_from s ls 0 old) (sym e) ∙ stable)

-- lemmas behind those of the batches don't count
stable : (s : System) (js : List Joined) (ls : List Lemma) → Grown s js ls → (rest : List Lemma) → items_from s (ls ++ rest) 0 js ≡ items_from s ls 0 js
stable s js ls empty rest = refl
stable s js ls (more {js = old} {ls = had} g j batch below same relative) rest =
    ap (λ (all : List Lemma). items_from s all 0 (old ++ j ∷ [])) (append_assoc had batch rest)
    ∙ one-more s had old j batch rest (grown-lens s old had g) below same (stable s old had g (batch ++ rest))
    ∙ sym (last-more s had old j batch (grown-lens s old had g) below same (stable s old had g batch))

grown-lemmas : (s : System) (js : List Joined) (ls : List Lemma) → Grown s js ls → lemmas_in (items_from s ls 0 js) ≡ ls
grown-lemmas s js ls empty = refl
grown-lemmas s js ls (more {js = old} {ls = had} g j batch below same relative) =
    ap lemmas_in (last-more s had old j batch (grown-lens s old had g) below same (stable s old had g batch))
    ∙ lemmas-append (items_from s had 0 old) (item s had j batch ∷ [])
    ∙ ap (λ (ls : List Lemma). ls ++ (batch ++ [])) (grown-lemmas s old had g)
    ∙ ap (λ (ls : List Lemma). had ++ ls) (append-nil batch)

-- the lemmas of a pool are those of its batches
pub pool-lemmas : (c : Content) → IsPool c → lemmas_in (items_in c) ≡ c.lemmas
pool-lemmas c p = grown-lemmas c.system c.batches c.lemmas p.grown

-- a batch that joins is the next item
pub joined-item : (c : Content) (by : ℕ) (b : Batched) → IsPool c → Fits c b → items_in (joined_to c by b) ≡ items_in c ++ (by, b) ∷ []
joined-item c by b p f =
    let j : Joined = record { worker = by; base = length b.base; len = length b.lemmas } in
    let base : take (length b.base) c.lemmas ≡ b.base = ap (take (length b.base)) f.prefix ∙ take-append_seam b.base f.rest in
    let below : length b.base ≤ length c.lemmas = omega (arith, ap length f.prefix, length-append b.base f.rest) in
    last-more c.system c.lemmas c.batches j b.lemmas (grown-lens c.system c.batches c.lemmas p.grown) below refl (stable c.system c.batches c.lemmas p.grown b.lemmas)
    ∙ ap (λ (ls : List Lemma). items_in c ++ (by, record { system = c.system; base = ls; lemmas = b.lemmas }) ∷ []) base
    ∙ ap (λ (s : System). items_in c ++ (by, record { system = s; base = b.base; lemmas = b.lemmas }) ∷ []) (sym f.same)

-- a batch that may follow a pool's batches fits the pool
pub fits-pool : (c : Content) (b : Batched) → IsPool c → MayFollow c.system (items_in c) b → Fits c b
fits-pool c b p h = record { same = h.0; rest = h.1.0; prefix = sym (pool-lemmas c p) ∙ h.1.1 }

-- as many batches are items as joined
pub items-length : (s : System) (all : List Lemma) (at : ℕ) (js : List Joined) → length (items_from s all at js) ≡ length js
items-length s all at [] = refl
items-length s all at (j ∷ js) = let e = items-length s all (at + j.len) js in omega arith

-- ---- copies of a beginning

-- copies of a beginning are the first lemmas
copies-front : (c : Content) (have : List Lemma) → IsPool c → CopiesPrefix (AreCopies c.system) (items_in c) have → StartsWith c.lemmas have
copies-front c have p h = (
  lemmas_in h.1.0,
  sym (pool-lemmas c p) ∙ ap lemmas_in h.1.1 ∙ lemmas-append h.0 h.1.0 ∙ ap (λ (ls : List Lemma). ls ++ lemmas_in h.1.0) (sym h.2.0),
)

copies-all : (c : Content) (have : List Lemma) → IsPool c → have ≡ c.lemmas → AreCopies c.system (items_in c) have
copies-all c have p e = (e ∙ sym (pool-lemmas c p), ap (list_all (of_system c.system)) e ∙ p.lemmas_of)

pub copies-below : (c : Content) (have : List Lemma) → IsPool c → CopiesPrefix (AreCopies c.system) (items_in c) have → length have ≤ length c.lemmas
copies-below c have p h = starts-length c.lemmas have (copies-front c have p h)

-- where they are as many, they are all
pub copies-whole : (c : Content) (have : List Lemma) → IsPool c → CopiesPrefix (AreCopies c.system) (items_in c) have → length have ≡ length c.lemmas → AreCopies c.system (items_in c) have
copies-whole c have p h e = copies-all c have p (sym (starts-whole c.lemmas have (copies-front c have p h) (sym e)))

-- with the other lemmas they are all
pub copies-more : (c : Content) (have news all : List Lemma) → IsPool c → CopiesPrefix (AreCopies c.system) (items_in c) have → news ≡ drop (length have) c.lemmas → all ≡ have ++ news → AreCopies c.system (items_in c) all
copies-more c have news all p h n e =
    let f = copies-front c have p h in
    let rest : drop (length have) c.lemmas ≡ f.0 = ap (drop (length have)) f.1 ∙ drop-append_seam have f.0 in
    copies-all c all p (e ∙ ap (λ (ls : List Lemma). have ++ ls) (n ∙ rest) ∙ sym f.1)

-- where they aren't as many, something is new
pub copies-fewer : (c : Content) (have : List Lemma) → IsPool c → length have ≢ length c.lemmas → AreCopies c.system (items_in c) have → ⊥
copies-fewer c have p ne h = ne (ap length (h.0 ∙ pool-lemmas c p))
