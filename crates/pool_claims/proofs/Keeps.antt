-- Each step keeps the rule of claims.
use Rattle.std.proofs.Common.{◌≡◌, ◌≢◌, ℕ, zero, suc, ◌+◌, ◌%◌, ◌^◌, ◌<◌, ◌≤◌, List, [], ◌∷◌, ◌++◌, map, take, drop, get_or, set, if◌then◌else◌, sym, refl, ap, ◌∙◌, subst, ⊎_elim, arith, length-set, get_or-set_same, append_assoc}
use mathlib.Core.Logic.{dite}
use mathlib.Core.Option.{none, some, some-injective, some-ne-none}
use native.Mathlib.Decide.{dec_le}
use lib.ListN.{get_elem?}
use Rattle.atomic_table.specs.Table.{State, Me, step, keeps, stepped, Allows, Splits, Joins, Final, Seen, opening}
use Rattle.atomic_table.proofs.Lists.{at_snoc, set_else}
use Rattle.lists.proofs.Tests.{less-is, less-not}
use Rattle.pool_lock.specs.Weights.{weigh, upto}
use Rattle.pool_lock.proofs.Sums.{weigh-set, weigh-snoc, weigh-two, weigh-le, weigh-alone, weigh-append, upto-snoc, fits-set}
use Rattle.pool_claims.specs.declared.view.Drawn.{Drawn}
use Rattle.pool_claims.specs.declared.view.Size.{Size}
use Rattle.pool_claims.specs.declared.view.View.{View}
use Rattle.pool_claims.specs.Views.{drawn_as, fresh_passes, view_of, passing, beginner, all_drawn, drawn_in, ended_of, ended_in, passes_of, after, claimed, first_of, rest_of, both_of, spent}
use Rattle.pool_claims.specs.Counted.{lesser, KnowBelow, Counted}

lesser-low : (w n : ℕ) → w < n → lesser w n ≡ w
lesser-low w n h = ap (λ b. if b then w else n) (less-is w n h)

lesser-high : (w n : ℕ) → n ≤ w → lesser w n ≡ n
lesser-high w n h = ap (λ b. if b then w else n) (less-not w n h)

lesser-next : (w n : ℕ) → w < n → lesser (w + 1) n ≡ w + 1
lesser-next w n h = dite (dec_le n (w + 1)) (λ le. lesser-high (w + 1) n le ∙ omega arith) (λ gt. lesser-low (w + 1) n (omega arith))

-- a claim that found a number below the count, and one that found none
after-low : (found : ℕ) (p : Drawn) → found < p.below → after found p ≡ drawn_as p.below (p.numbers ++ found ∷ []) p.ended
after-low found p h = ap (λ b. if b then drawn_as p.below (p.numbers ++ found ∷ []) p.ended else drawn_as p.below p.numbers 1) (less-is found p.below h)

after-high : (found : ℕ) (p : Drawn) → p.below ≤ found → after found p ≡ drawn_as p.below p.numbers 1
after-high found p h = ap (λ b. if b then drawn_as p.below (p.numbers ++ found ∷ []) p.ended else drawn_as p.below p.numbers 1) (less-not found p.below h)

ended-le : (n : ℕ) (ps : List Drawn) → KnowBelow n ps → weigh ended_of ps ≤ weigh (λ _. 1) ps
ended-le n [] h = omega arith
ended-le n (p ∷ ps) h = let r = ended-le n ps h.2 in let one = h.1 in omega arith

pub drawn-append : (ps qs : List Drawn) → all_drawn (ps ++ qs) ≡ all_drawn ps ++ all_drawn qs
drawn-append [] qs = refl
drawn-append (p ∷ ps) qs = ap (λ (l : List ℕ). p.numbers ++ l) (drawn-append ps qs) ∙ sym (append_assoc p.numbers (all_drawn ps) (all_drawn qs))

drawn-cut : (h : ℕ → ℕ) (ps : List Drawn) → weigh h (all_drawn ps) ≡ weigh h (all_drawn (take 1 ps)) + weigh h (all_drawn (drop 1 ps))
drawn-cut h [] = refl
drawn-cut h (p ∷ ps) = let a = weigh-append h p.numbers (all_drawn ps) in let b = weigh-append h p.numbers [] in omega arith

weigh-cut : (f : Drawn → ℕ) (ps : List Drawn) → weigh f ps ≡ weigh f (take 1 ps) + weigh f (drop 1 ps)
weigh-cut f [] = refl
weigh-cut f (p ∷ ps) = omega arith

below-first : (n : ℕ) (ps : List Drawn) → KnowBelow n ps → KnowBelow n (take 1 ps)
below-first n [] h = tt
below-first n (p ∷ ps) h = (h.0, h.1, tt)

below-rest : (n : ℕ) (ps : List Drawn) → KnowBelow n ps → KnowBelow n (drop 1 ps)
below-rest n [] h = tt
below-rest n (p ∷ ps) h = h.2

below-append : (n : ℕ) (ps qs : List Drawn) → KnowBelow n ps → KnowBelow n qs → KnowBelow n (ps ++ qs)
below-append n [] qs h k = k
below-append n (p ∷ ps) qs h k = (h.0, h.1, below-append n ps qs h.2 k)

no-passes : (ps : List Drawn) → weigh (λ _. 1) ps ≡ 0 → ps ≡ []
no-passes [] e = refl
no-passes (p ∷ ps) e = absurd (omega arith)

abbrev St : Type 0
St = State (Unit {0}) View

-- ---- a claim

-- the word stays small
word-small : (size : Size) (s : St) → Counted size s → get_or s.words 0 0 ≤ size.numbers + 64
word-small size s r =
    let a = weigh-le ended_in passes_of s.views (λ i v e. ended-le size.numbers v.passes (r.below i v e)) in
    let b = r.passes in
    let c = r.few in
    let d = r.most in
    omega arith

claims-low : (size : Size) (s : St) (r : Counted size s) (id : ℕ) (drawn : List ℕ) → get_elem? s.views id ≡ some (passing (drawn_as size.numbers drawn 0)) → get_or s.words 0 0 < size.numbers
    → Counted size (record { words = set s.words 0 (get_or s.words 0 0 + 1); homes = s.homes; views = set s.views id (passing (drawn_as size.numbers (drawn ++ get_or s.words 0 0 ∷ []) 0)) })
claims-low size s r id drawn at less =
    let x : ℕ = get_or s.words 0 0 in
    let n : ℕ = size.numbers in
    let v : View = passing (drawn_as n drawn 0) in
    let w : View = passing (drawn_as n (drawn ++ x ∷ []) 0) in
    let wide = r.wide in
    let word : get_or (set s.words 0 (x + 1)) 0 0 ≡ x + 1 = get_or-set_same s.words 0 (x + 1) 0 (omega arith) in
    record {
      wide = length-set s.words 0 (x + 1) ∙ wide;
      drawn = λ h.
          let sum = weigh-set (λ (u : View). weigh h (drawn_in u)) s.views id v w at in
          let one : weigh h (drawn_in v) ≡ weigh h drawn + 0 = weigh-append h drawn [] in
          let two : weigh h (drawn_in w) ≡ weigh h (drawn ++ x ∷ []) + 0 = weigh-append h (drawn ++ x ∷ []) [] in
          let three = weigh-append h drawn (x ∷ []) in
          let old : weigh (λ u. weigh h (drawn_in u)) s.views ≡ weigh h (upto 0 x) = r.drawn h ∙ ap (λ (m : ℕ). weigh h (upto 0 m)) (lesser-low x n less) in
          let suc-next : x + 1 ≡ suc x = omega arith in
          let place : h (0 + x) ≡ h x = ap h (omega arith) in
          let more = ap (λ (m : ℕ). weigh h (upto 0 m)) suc-next ∙ upto-snoc h 0 x in
          let new : weigh h (upto 0 (lesser (get_or (set s.words 0 (x + 1)) 0 0) n)) ≡ weigh h (upto 0 (x + 1)) = ap (λ (m : ℕ). weigh h (upto 0 (lesser m n))) word ∙ ap (λ (m : ℕ). weigh h (upto 0 m)) (lesser-next x n less) in
          omega arith;
      most = let sum = weigh-set ended_in s.views id v w at in omega arith;
      least = fits-set (λ (u : View). 1 ≤ ended_in u → n ≤ get_or (set s.words 0 (x + 1)) 0 0) s.views id w (λ one. absurd (omega arith)) (λ j u _ e one. let old = r.least j u e one in omega arith);
      passes = let sum = weigh-set passes_of s.views id v w at in let old = r.passes in omega arith;
      few = r.few;
      below = fits-set (λ (u : View). KnowBelow n u.passes) s.views id w (refl, omega arith, tt) (λ j u _ e. r.below j u e);
      small = r.small;
    }

claims-high : (size : Size) (s : St) (r : Counted size s) (id : ℕ) (drawn : List ℕ) → get_elem? s.views id ≡ some (passing (drawn_as size.numbers drawn 0)) → size.numbers ≤ get_or s.words 0 0
    → Counted size (record { words = set s.words 0 (get_or s.words 0 0 + 1); homes = s.homes; views = set s.views id (passing (drawn_as size.numbers drawn 1)) })
claims-high size s r id drawn at past =
    let x : ℕ = get_or s.words 0 0 in
    let n : ℕ = size.numbers in
    let v : View = passing (drawn_as n drawn 0) in
    let w : View = passing (drawn_as n drawn 1) in
    let wide = r.wide in
    let word : get_or (set s.words 0 (x + 1)) 0 0 ≡ x + 1 = get_or-set_same s.words 0 (x + 1) 0 (omega arith) in
    record {
      wide = length-set s.words 0 (x + 1) ∙ wide;
      drawn = λ h.
          let sum = weigh-set (λ (u : View). weigh h (drawn_in u)) s.views id v w at in
          let old : weigh (λ u. weigh h (drawn_in u)) s.views ≡ weigh h (upto 0 n) = r.drawn h ∙ ap (λ (m : ℕ). weigh h (upto 0 m)) (lesser-high x n past) in
          let new : weigh h (upto 0 (lesser (get_or (set s.words 0 (x + 1)) 0 0) n)) ≡ weigh h (upto 0 n) = ap (λ (m : ℕ). weigh h (upto 0 (lesser m n))) word ∙ ap (λ (m : ℕ). weigh h (upto 0 m)) (lesser-high (x + 1) n (omega arith)) in
          omega arith;
      most = let sum = weigh-set ended_in s.views id v w at in let old = r.most in omega arith;
      least = λ j u e one. omega arith;
      passes = let sum = weigh-set passes_of s.views id v w at in let old = r.passes in omega arith;
      few = r.few;
      below = fits-set (λ (u : View). KnowBelow n u.passes) s.views id w (refl, omega arith, tt) (λ j u _ e. r.below j u e);
      small = r.small;
    }

claims : (size : Size) (slots id : ℕ) (drawn : List ℕ) → Allows (Counted size) slots id (passing (drawn_as size.numbers drawn 0), []) 0 (λ x. (x + 1) % 2 ^ 64) (claimed (step slots 0 1 0 none) (passing (drawn_as size.numbers drawn 0), []))
claims size slots id drawn s r _ at _ =
    let x : ℕ = get_or s.words 0 0 in
    let n : ℕ = size.numbers in
    let p : Drawn = drawn_as n drawn 0 in
    let few = word-small size s r in
    let small = r.small in
    let next : x + 1 ≡ (x + 1) % 2 ^ 64 = omega arith in
    let moved : (q : Drawn) → after x p ≡ q → Counted size (record { words = set s.words 0 (x + 1); homes = s.homes; views = set s.views id (passing q) }) → Counted size (stepped s 0 ((x + 1) % 2 ^ 64) id [] (passing (after x p)) keeps) = λ q e k.
    subst (λ (m : ℕ). Counted size (record { words = set s.words 0 m; homes = s.homes; views = set s.views id (passing (after x p)) })) next
    (subst (λ (d : Drawn). Counted size (record { words = set s.words 0 (x + 1); homes = s.homes; views = set s.views id (passing d) })) (sym e) k) in (
      passing (after x p),
      keeps,
      tt,
      dite (dec_le n x) (λ le. moved (drawn_as n drawn 1) (after-high x p le) (claims-high size s r id drawn at le)) (λ gt. moved (drawn_as n (drawn ++ x ∷ []) 0) (after-low x p (omega arith)) (claims-low size s r id drawn at (omega arith))),
      refl,
    )

pub claims-at : (size : Size) (n slots id : ℕ) (me : Me (Unit {0}) View) → size.numbers ≡ n → (drawn : List ℕ) → me ≡ (passing (drawn_as n drawn 0), []) → Allows (Counted size) slots id me 0 (λ x. (x + 1) % 2 ^ 64) (claimed (step slots 0 1 0 none) me)
claims-at size n slots id me same drawn e = subst (λ (m : Me (Unit {0}) View). Allows (Counted size) slots id m 0 (λ x. (x + 1) % 2 ^ 64) (claimed (step slots 0 1 0 none) m)) (sym (e ∙ ap (λ (k : ℕ). (passing (drawn_as k drawn 0), [])) (sym same))) (claims size slots id drawn)

-- the seat after a claim
pub drew-is : (n : ℕ) (m m' : Me (Unit {0}) View) (found : ℕ) (drawn : List ℕ) → m ≡ (passing (drawn_as n drawn 0), []) → m' ≡ (view_of (map (after found) m.0.passes), m.1) → m' ≡ (passing (after found (drawn_as n drawn 0)), [])
drew-is n m m' found drawn e f = f ∙ ap (λ (k : Me (Unit {0}) View). (view_of (map (after found) k.0.passes), k.1)) e

-- it has drawn the number that it found, or has had none
pub drew-low : (n : ℕ) (m' : Me (Unit {0}) View) (found : ℕ) (drawn : List ℕ) → m' ≡ (passing (after found (drawn_as n drawn 0)), []) → found < n → m' ≡ (passing (drawn_as n (drawn ++ found ∷ []) 0), [])
drew-low n m' found drawn e less = e ∙ ap (λ (p : Drawn). (passing p, [])) (after-low found (drawn_as n drawn 0) less)

pub drew-high : (n : ℕ) (m' : Me (Unit {0}) View) (found : ℕ) (drawn : List ℕ) → m' ≡ (passing (after found (drawn_as n drawn 0)), []) → n ≤ found → m' ≡ (passing (drawn_as n drawn 1), [])
drew-high n m' found drawn e past = e ∙ ap (λ (p : Drawn). (passing p, [])) (after-high found (drawn_as n drawn 0) past)

-- ---- seats that are cut and joined

pub splits : (size : Size) (id : ℕ) (v : View) → Splits (Counted size) id v (rest_of v) (first_of v)
splits size id v s r at =
    let left = rest_of v in
    let right = first_of v in
    let vs = set s.views id left in
    let ended = weigh-cut ended_of v.passes in
    let passes = weigh-cut (λ _. 1) v.passes in
    record {
      wide = r.wide;
      drawn = λ h.
          let a = weigh-snoc (λ (u : View). weigh h (drawn_in u)) vs right in
          let b = weigh-set (λ (u : View). weigh h (drawn_in u)) s.views id v left at in
          let c = drawn-cut h v.passes in
          let old = r.drawn h in
          omega arith;
      most = let a = weigh-snoc ended_in vs right in let b = weigh-set ended_in s.views id v left at in let old = r.most in omega arith;
      least = λ j u e.
          ⊎_elim
          (λ (old : get_elem? vs j ≡ some u). fits-set (λ (z : View). 1 ≤ ended_in z → size.numbers ≤ get_or s.words 0 0) s.views id left (λ one. r.least id v at (omega arith)) (λ i z _ d. r.least i z d) j u old)
          (λ (new : right ≡ u). subst (λ (z : View). 1 ≤ ended_in z → size.numbers ≤ get_or s.words 0 0) new (λ one. r.least id v at (omega arith)))
          (at_snoc vs right u j e);
      passes = let a = weigh-snoc passes_of vs right in let b = weigh-set passes_of s.views id v left at in let old = r.passes in omega arith;
      few = r.few;
      below = λ j u e.
          ⊎_elim
          (λ (old : get_elem? vs j ≡ some u). fits-set (λ (z : View). KnowBelow size.numbers z.passes) s.views id left (below-rest size.numbers v.passes (r.below id v at)) (λ i z _ d. r.below i z d) j u old)
          (λ (new : right ≡ u). subst (λ (z : View). KnowBelow size.numbers z.passes) new (below-first size.numbers v.passes (r.below id v at)))
          (at_snoc vs right u j e);
      small = r.small;
    }

pub joins : (size : Size) (id : ℕ) (v : View) (other : ℕ) (w : View) → Joins (Counted size) id v other w (both_of v w) spent
joins size id v other w s r at ne aw =
    let both = both_of v w in
    let vs = set s.views id both in
    let aw' : get_elem? s.views other ≡ some w = sym (set_else s.views id other both ne) ∙ aw in
    let ended = weigh-append ended_of w.passes v.passes in
    let passes = weigh-append (λ _. 1) w.passes v.passes in
    let least-both : 1 ≤ ended_in both → size.numbers ≤ get_or s.words 0 0 = λ one.
    dite (dec_le 1 (ended_in v)) (λ le. r.least id v at le) (λ gt. r.least other w aw' (omega arith)) in
    let least = fits-set (λ (z : View). 1 ≤ ended_in z → size.numbers ≤ get_or s.words 0 0) s.views id both least-both (λ i z _ d. r.least i z d) in
    let below = fits-set (λ (z : View). KnowBelow size.numbers z.passes) s.views id both (below-append size.numbers w.passes v.passes (r.below other w aw') (r.below id v at)) (λ i z _ d. r.below i z d) in
    record {
      wide = r.wide;
      drawn = λ h.
          let a = weigh-set (λ (u : View). weigh h (drawn_in u)) s.views id v both at in
          let b = weigh-set (λ (u : View). weigh h (drawn_in u)) vs other w spent aw in
          let c : weigh h (drawn_in both) ≡ weigh h (all_drawn w.passes) + weigh h (all_drawn v.passes) = ap (weigh h) (drawn-append w.passes v.passes) ∙ weigh-append h (all_drawn w.passes) (all_drawn v.passes) in
          let old = r.drawn h in
          omega arith;
      most = let a = weigh-set ended_in s.views id v both at in let b = weigh-set ended_in vs other w spent aw in let old = r.most in omega arith;
      least = fits-set (λ (z : View). 1 ≤ ended_in z → size.numbers ≤ get_or s.words 0 0) vs other spent (λ one. absurd (omega arith)) (λ i z _ d. least i z d);
      passes = let a = weigh-set passes_of s.views id v both at in let b = weigh-set passes_of vs other w spent aw in let old = r.passes in omega arith;
      few = r.few;
      below = fits-set (λ (z : View). KnowBelow size.numbers z.passes) vs other spent tt (λ i z _ d. below i z d);
      small = r.small;
    }

-- ---- at the start and at the end

fresh-none : (n k : ℕ) → all_drawn (fresh_passes n k) ≡ []
fresh-none n zero = refl
fresh-none n (suc k) = fresh-none n k

fresh-count : (n k : ℕ) → weigh (λ _. 1) (fresh_passes n k) ≡ k
fresh-count n zero = refl
fresh-count n (suc k) = let r = fresh-count n k in omega arith

fresh-ended : (n k : ℕ) → weigh ended_of (fresh_passes n k) ≡ 0
fresh-ended n zero = refl
fresh-ended n (suc k) = let r = fresh-ended n k in omega arith

fresh-below : (n k : ℕ) → KnowBelow n (fresh_passes n k)
fresh-below n zero = tt
fresh-below n (suc k) = (refl, omega arith, fresh-below n k)

first-only : (P : View → Type 0) (u : View) → P u → (i : ℕ) (v : View) → get_elem? (u ∷ []) i ≡ some v → P v
first-only P u h zero v e = subst P (some-injective u v e) h
first-only P u h (suc i) v e = absurd (some-ne-none v (sym e))

pub opens : (size : Size) → size.passes ≤ 64 → size.numbers < 2 ^ 32 → Counted size (opening (0 ∷ []) [] (beginner size))
opens size few small =
    record {
      wide = refl;
      drawn = λ h.
          let e : weigh h (drawn_in (beginner size)) ≡ 0 = ap (weigh h) (fresh-none size.numbers size.passes) in
          let none : weigh h (upto 0 (lesser 0 size.numbers)) ≡ 0 = dite (dec_le size.numbers 0) (λ le. let z : size.numbers ≡ 0 = omega arith in ap (λ (m : ℕ). weigh h (upto 0 m)) (lesser-high 0 size.numbers le ∙ z)) (λ gt. ap (λ (m : ℕ). weigh h (upto 0 m)) (lesser-low 0 size.numbers (omega arith))) in
          omega arith;
      most = omega arith;
      least = first-only (λ (v : View). 1 ≤ ended_in v → size.numbers ≤ 0) (beginner size) (λ one. let z = fresh-ended size.numbers size.passes in absurd (omega arith));
      passes = let c = fresh-count size.numbers size.passes in omega arith;
      few = few;
      below = first-only (λ (v : View). KnowBelow size.numbers v.passes) (beginner size) (fresh-below size.numbers size.passes);
      small = small;
    }

-- what the seat that stands for all passes knows
pub record All (size : Size) (word : ℕ) (ps : List Drawn) : Type 0 where
  pub drawn : (h : ℕ → ℕ) → weigh h (all_drawn ps) ≡ weigh h (upto 0 (lesser word size.numbers))
  pub least : 1 ≤ weigh ended_of ps → size.numbers ≤ word
  pub low : word < size.numbers → lesser word size.numbers ≡ word
  pub high : size.numbers ≤ word → lesser word size.numbers ≡ size.numbers

closes : (size : Size) (s : St) (id : ℕ) (v : View) → Counted size s → get_elem? s.views id ≡ some v → passes_of v ≡ size.passes → All size (get_or s.words 0 0) v.passes
closes size s id v r at whole =
    let sum = r.passes in
    let none : (j : ℕ) (u : View) → j ≢ id → get_elem? s.views j ≡ some u → u.passes ≡ [] = λ j u ne e. no-passes u.passes (let two = weigh-two passes_of s.views j id u v ne e at in omega arith) in
    record {
      drawn = λ h. sym (weigh-alone (λ (u : View). weigh h (drawn_in u)) s.views id v at (λ j u ne e. ap (λ (l : List Drawn). weigh h (all_drawn l)) (none j u ne e))) ∙ r.drawn h;
      least = r.least id v at;
      low = lesser-low (get_or s.words 0 0) size.numbers;
      high = lesser-high (get_or s.words 0 0) size.numbers;
    }

pub closed-with : (size : Size) (id : ℕ) (me : Me (Unit {0}) View) (words : List ℕ) (slots : List (Unit {0})) (word : ℕ) → Final (Seen (Counted size) id me.0) words slots → get_elem? words 0 ≡ some word → passes_of me.0 ≡ size.passes → All size word me.0.passes
closed-with size id me words slots word f at whole =
    let k = closes size f.0 id me.0 f.1.0 f.1.1 whole in
    let e : get_or words 0 0 ≡ word = first-of words word at in
    subst (λ (m : ℕ). All size m me.0.passes) (ap (λ (ws : List ℕ). get_or ws 0 0) f.2 ∙ e) k
  where
    first-of : (ws : List ℕ) (w : ℕ) → get_elem? ws 0 ≡ some w → get_or ws 0 0 ≡ w
    first-of [] w e = absurd (some-ne-none w (sym e))
    first-of (x ∷ xs) w e = some-injective x w e
