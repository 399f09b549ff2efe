-- Lists of passes.
use Rattle.std.proofs.Common.{◌≡◌, ℕ, suc, zero, ◌+◌, ◌-◌, ◌<◌, ◌≤◌, List, [], ◌∷◌, ◌++◌, length, false, sym, refl, ap, ◌∙◌, subst, inl, inr, append_assoc, append-nil, arith}
use Rattle.atomic_table.specs.Table.{Me}
use Rattle.atomic_table.specs.Seated.{TableId}
use Rattle.pool_lock.specs.Weights.{weigh, upto}
use Rattle.pool_lock.proofs.Sums.{weigh-append}
use Rattle.pool_claims.specs.declared.view.Drawn.{Drawn}
use Rattle.pool_claims.specs.declared.view.Size.{Size}
use Rattle.pool_claims.specs.declared.view.View.{View}
use Rattle.pool_claims.specs.declared.pass.ClaimPass.{ClaimPass}
use Rattle.pool_claims.specs.Views.{all_drawn, ended_of, drawn_as, fresh_passes, view_of, passing, first_of, rest_of, both_of}
use Rattle.pool_claims.specs.Calls.{bit, IsPassOf, ArePassesOf, AreFresh, SomeEnded, drawn_by, all_by}
use Rattle.pool_claims.specs.Gathered.{passes_in}
use Rattle.pool_claims.specs.Counted.{lesser}
use Rattle.pool_claims.proofs.Keeps.{drawn-append, All}

pub passes-front : (id : TableId) (n : ℕ) (ps qs : List ClaimPass) → ArePassesOf id n (ps ++ qs) → ArePassesOf id n ps
passes-front id n [] qs h = tt
passes-front id n (p ∷ ps) qs h = (h.0, passes-front id n ps qs h.1)

pub passes-back : (id : TableId) (n : ℕ) (ps qs : List ClaimPass) → ArePassesOf id n (ps ++ qs) → ArePassesOf id n qs
passes-back id n [] qs h = h
passes-back id n (p ∷ ps) qs h = passes-back id n ps qs h.1

pub in-append : (ps qs : List ClaimPass) → passes_in (ps ++ qs) ≡ passes_in ps ++ passes_in qs
in-append [] qs = refl
in-append (p ∷ ps) qs = ap (λ (l : List Drawn). p.seat.me.0.passes ++ l) (in-append ps qs) ∙ sym (append_assoc p.seat.me.0.passes (passes_in ps) (passes_in qs))

pub fresh-append : (id : TableId) (n : ℕ) (ps qs : List ClaimPass) → AreFresh id n ps → AreFresh id n qs → AreFresh id n (ps ++ qs)
fresh-append id n [] qs h k = k
fresh-append id n (p ∷ ps) qs h k = (h.0, fresh-append id n ps qs h.1 k)

pub drawn-in : (ps : List ClaimPass) → all_drawn (passes_in ps) ≡ all_by ps
drawn-in [] = refl
drawn-in (p ∷ ps) = drawn-append p.seat.me.0.passes (passes_in ps) ∙ ap (λ (l : List ℕ). drawn_by p ++ l) (drawn-in ps)

one-in : (id : TableId) (n : ℕ) (p : ClaimPass) (h : IsPassOf id n p) → p.seat.me.0.passes ≡ drawn_as n h.1 (bit p.ended) ∷ []
one-in id n p h = ap (λ (m : Me (Unit {0}) View). m.0.passes) h.2

pub count-in : (id : TableId) (n : ℕ) (ps : List ClaimPass) → ArePassesOf id n ps → weigh (λ _. 1) (passes_in ps) ≡ length ps
count-in id n [] h = refl
count-in id n (p ∷ ps) h =
    let a = weigh-append (λ (_ : Drawn). 1) p.seat.me.0.passes (passes_in ps) in
    let b : weigh (λ _. 1) p.seat.me.0.passes ≡ 1 = ap (weigh (λ (_ : Drawn). 1)) (one-in id n p h.0) in
    let c = count-in id n ps h.1 in
    omega arith

pub ended-in : (id : TableId) (n : ℕ) (ps : List ClaimPass) → ArePassesOf id n ps → SomeEnded ps → 1 ≤ weigh ended_of (passes_in ps)
ended-in id n [] h e = absurd e
ended-in id n (p ∷ ps) h (inl e) =
    let a = weigh-append ended_of p.seat.me.0.passes (passes_in ps) in
    let b : weigh ended_of p.seat.me.0.passes ≡ bit p.ended + 0 = ap (weigh ended_of) (one-in id n p h.0) in
    let c : bit p.ended ≡ 1 = ap bit e in
    omega arith
ended-in id n (p ∷ ps) h (inr e) =
    let a = weigh-append ended_of p.seat.me.0.passes (passes_in ps) in
    let c = ended-in id n ps h.1 e in
    omega arith

pub all-kept : (new old : List ClaimPass) (other : ClaimPass) (m m' : Me (Unit {0}) View) → old ≡ new ++ other ∷ [] → m' ≡ (both_of m.0 other.seat.me.0, []) → passes_in new ++ m'.0.passes ≡ passes_in old ++ m.0.passes
all-kept new old other m m' e f =
    let its : List Drawn = other.seat.me.0.passes in
    ap (λ (k : Me (Unit {0}) View). passes_in new ++ k.0.passes) f
    ∙ sym (append_assoc (passes_in new) its m.0.passes)
    ∙ ap (λ (l : List Drawn). (passes_in new ++ l) ++ m.0.passes) (sym (append-nil its))
    ∙ ap (λ (l : List Drawn). l ++ m.0.passes) (sym (in-append new (other ∷ [])))
    ∙ ap (λ (l : List ClaimPass). passes_in l ++ m.0.passes) (sym e)

-- the last seat stands for all passes
pub known-all : (ps others : List ClaimPass) (last : ClaimPass) (m : Me (Unit {0}) View) → ps ≡ others ++ last ∷ [] → m ≡ (view_of (passes_in others ++ last.seat.me.0.passes), []) → m.0.passes ≡ passes_in ps
known-all ps others last m e all =
    ap (λ (k : Me (Unit {0}) View). k.0.passes) all
    ∙ ap (λ (l : List Drawn). passes_in others ++ l) (sym (append-nil last.seat.me.0.passes))
    ∙ sym (in-append others (last ∷ []))
    ∙ ap passes_in (sym e)

-- what the last seat tells of all passes
pub record Told (n word : ℕ) (ps : List ClaimPass) : Type 0 where
  pub low : word < n → (h : ℕ → ℕ) → weigh h (all_by ps) ≡ weigh h (upto 0 word)
  pub high : n ≤ word → (h : ℕ → ℕ) → weigh h (all_by ps) ≡ weigh h (upto 0 n)
  pub ended : SomeEnded ps → n ≤ word

pub told : (size : Size) (id : TableId) (n word : ℕ) (ks : List Drawn) (ps : List ClaimPass) → size.numbers ≡ n → All size word ks → ks ≡ passes_in ps → ArePassesOf id n ps → Told n word ps
told size id n word ks ps same a e h =
    let drawn : (f : ℕ → ℕ) → weigh f (all_by ps) ≡ weigh f (upto 0 (lesser word size.numbers)) = λ f. ap (weigh f) (sym (drawn-in ps)) ∙ ap (λ (l : List Drawn). weigh f (all_drawn l)) (sym e) ∙ a.drawn f in
    record {
      low = λ less f. drawn f ∙ ap (λ (m : ℕ). weigh f (upto 0 m)) (a.low (omega arith));
      high = λ past f. drawn f ∙ ap (λ (m : ℕ). weigh f (upto 0 m)) (a.high (omega arith) ∙ same);
      ended = λ some. let one = ended-in id n ps h some in let its : weigh ended_of ks ≡ weigh ended_of (passes_in ps) = ap (weigh ended_of) e in let k = a.least (omega arith) in omega arith;
    }

-- ---- fresh passes

fresh-rest : (n k : ℕ) → 1 ≤ k → fresh_passes n k ≡ drawn_as n [] 0 ∷ fresh_passes n (k - 1)
fresh-rest n zero h = absurd (omega arith)
fresh-rest n (suc k) h = let e : k ≡ suc k - 1 = omega arith in ap (λ (m : ℕ). drawn_as n [] 0 ∷ fresh_passes n m) e

pub split-first : (n k : ℕ) (m m' : Me (Unit {0}) View) → 1 ≤ k → m ≡ (view_of (fresh_passes n k), []) → m' ≡ (first_of m.0, []) → m' ≡ (passing (drawn_as n [] 0), [])
split-first n k m m' some e f = f ∙ ap (λ (q : Me (Unit {0}) View). (first_of q.0, [])) (e ∙ ap (λ (ps : List Drawn). (view_of ps, [])) (fresh-rest n k some))

pub split-rest : (n k k' : ℕ) (m m' : Me (Unit {0}) View) → 1 ≤ k → k - 1 ≡ k' → m ≡ (view_of (fresh_passes n k), []) → m' ≡ (rest_of m.0, []) → m' ≡ (view_of (fresh_passes n k'), [])
split-rest n k k' m m' some less e f =
    f ∙ ap (λ (q : Me (Unit {0}) View). (rest_of q.0, [])) (e ∙ ap (λ (ps : List Drawn). (view_of ps, [])) (fresh-rest n k some))
    ∙ ap (λ (j : ℕ). (view_of (fresh_passes n j), [])) less

pub last-fresh : (n k : ℕ) (m : Me (Unit {0}) View) → k ≡ 1 → m ≡ (view_of (fresh_passes n k), []) → m ≡ (passing (drawn_as n [] 0), [])
last-fresh n k m one e = e ∙ ap (λ (i : ℕ). (view_of (fresh_passes n i), [])) one

-- one more fresh pass
pub spread-one : (id : TableId) (n : ℕ) (ps qs : List ClaimPass) (p : ClaimPass) → AreFresh id n ps → qs ≡ ps ++ p ∷ [] → p.ended ≡ false → p.seat.table_id ≡ id → p.seat.me ≡ (passing (drawn_as n [] 0), []) → AreFresh id n qs
spread-one id n ps qs p h e ended own me = subst (AreFresh id n) (sym e) (fresh-append id n ps (p ∷ []) h ((ended, own, me), tt))

pub ruleset takes = (passes-front, passes-back, in-append)
