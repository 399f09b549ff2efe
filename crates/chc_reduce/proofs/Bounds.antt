-- How far exact sums of coefficients go.
use Rattle.std.proofs.Common.{◌≡◌, ◌∙◌, sym, ap, Option, Some, ℕ, suc, ◌+◌, ◌-◌, ◌*◌, ◌^◌, ◌≤◌, ◌==◌, pos, neg_ℤ, ◌+ℤ◌, ◌≤ℤ◌, Bool, true, false, cond, List, [], ◌∷◌, length, get_or, take, drop, FitsSigned, arith}
use lib.IntN.{ℤ}
use Rattle.std.specs.Prelude.{nat_lt, if◌then◌else◌}
use Rattle.std.specs.Int.{w128}
use Rattle.std.specs.Ordering.{int_eq}
use Rattle.std.proofs.lemmas.Int.{ints}
use Rattle.std.proofs.Math.Seq.{take-length}
use Rattle.chc_form.specs.declared.system.App.{App}
use Rattle.chc_form.specs.declared.lemma.LitTerm.{LitTerm}
use Rattle.chc_nums.specs.Values.{with_value}
use Rattle.chc_nums.specs.Totals.{IsWithin}
use Rattle.chc_nums.proofs.Fits.{fits-bounds}
use Rattle.chc_reduce.specs.Literals.{put_term, raised, variable_of, terms_onto, AreWithin}

pub within-more : (j k : ℕ) (z : ℤ) → j ≤ k → IsWithin j z → IsWithin k z
within-more j k z l w = (omega (arith, ints, l, w), omega (arith, ints, l, w))

pub all-within-more : (j k : ℕ) (ts : List (ℕ × ℤ)) → j ≤ k → AreWithin j ts → AreWithin k ts
all-within-more j k [] l w = tt
all-within-more j k (t ∷ ts) l w = (within-more j k t.1 l w.0, all-within-more j k ts l w.1)

-- a number more
sum-within : (k : ℕ) (z a : ℤ) → FitsSigned w128 a → IsWithin k z → IsWithin (suc k) (z +ℤ a)
sum-within k z a f w = let b = fits-bounds a f in (omega (arith, ints, b, w), omega (arith, ints, b, w))

own-within : (k : ℕ) (a : ℤ) → FitsSigned w128 a → IsWithin (suc k) a
own-within k a f = let b = fits-bounds a f in (omega (arith, ints, b), omega (arith, ints, b))

if-within : (b : Bool) (k : ℕ) (us vs : List (ℕ × ℤ)) → AreWithin k us → AreWithin k vs → AreWithin k (if b then us else vs)
if-within true k us vs p q = p
if-within false k us vs p q = q

put-within : (k x : ℕ) (a : ℤ) (ts : List (ℕ × ℤ)) → IsWithin k a → AreWithin k ts → AreWithin k (put_term x a ts)
put-within k x a ts w ws = if-within (int_eq a (pos 0)) k ts ((x, a) ∷ ts) ws (w, ws)

pub raised-within : (k x : ℕ) (a : ℤ) (ts : List (ℕ × ℤ)) → FitsSigned w128 a → AreWithin k ts → AreWithin (suc k) (raised x a ts)
raised-within k x a [] f w = put-within (suc k) x a [] (own-within k a f) tt
raised-within k x a (t ∷ ts) f w =
    let more : AreWithin (suc k) (t ∷ ts) = all-within-more k (suc k) (t ∷ ts) (omega arith) w in
    if-within
    (nat_lt x t.0)
    (suc k)
    (put_term x a (t ∷ ts))
    (if x == t.0 then put_term x (t.1 +ℤ a) ts else t ∷ raised x a ts)
    (put-within (suc k) x a (t ∷ ts) (own-within k a f) more)
    (if-within
    (x == t.0)
    (suc k)
    (put_term x (t.1 +ℤ a) ts)
    (t ∷ raised x a ts)
    (put-within (suc k) x (t.1 +ℤ a) ts (sum-within k t.1 a f w.0) more.1)
    (more.0, raised-within k x a ts f w.1))

-- the first of terms, and those after it
pub within_first : (k : ℕ) (ts : List (ℕ × ℤ)) (t : ℕ × ℤ) → AreWithin k ts → 1 ≤ length ts → t ≡ get_or ts 0 t → IsWithin k t.1
within_first k [] t w l e = absurd (omega arith)
within_first k (u ∷ ts) t w l e = let own : t ≡ u = e in rw own w.0

pub within_rest : (k : ℕ) (ts : List (ℕ × ℤ)) → AreWithin k ts → AreWithin k (take (length ts - 1) (drop 1 ts))
within_rest k [] w = tt
within_rest k (u ∷ ts) w =
    let n : length (u ∷ ts) - 1 ≡ length ts = omega arith in
    let all : take (length (u ∷ ts) - 1) (drop 1 (u ∷ ts)) ≡ ts = rw n (take-length ts) in
    rw all w.1

pub ruleset places = (within_first, within_rest)

-- one term more, of as many as there are
pub onward : {T : Type 0} (n x : ℕ) (a : ℤ) (made held more : List (ℕ × ℤ)) (rest : List T) → FitsSigned w128 a → held ≡ made → more ≡ raised x a held → AreWithin (n - length rest) made → length rest ≤ n → 1 ≤ length rest → AreWithin (n - length (take (length rest - 1) (drop 1 rest))) more × (length (take (length rest - 1) (drop 1 rest)) ≤ n)
onward n x a made held more [] f h e w m l = absurd (omega arith)
onward n x a made held more (u ∷ us) f h e w m l =
    let less : length (u ∷ us) - 1 ≡ length us = omega arith in
    let all : take (length (u ∷ us) - 1) (drop 1 (u ∷ us)) ≡ us = rw less (take-length us) in
    let k : suc (n - length (u ∷ us)) ≤ n - length us = omega (arith, m) in
    let there : AreWithin (n - length us) (raised x a made) = all-within-more (suc (n - length (u ∷ us))) (n - length us) (raised x a made) k (raised-within (n - length (u ∷ us)) x a made f w) in
    rw all (rw (e, h) there, omega (arith, m))

pub onto_turn : (atom : App) (x : ℕ) (made held more : List (ℕ × ℤ)) (rest : List (LitTerm × ℤ)) (whole : Option (List (ℕ × ℤ))) (t : LitTerm × ℤ) → held ≡ made → Some x ≡ variable_of atom t.0 → more ≡ raised x t.1 held → terms_onto atom made rest ≡ whole → 1 ≤ length rest → t ≡ get_or rest 0 t → terms_onto atom more (take (length rest - 1) (drop 1 rest)) ≡ whole
onto_turn atom x made held more [] whole t h s r i l e = absurd (omega arith)
onto_turn atom x made held more (u ∷ us) whole t h s r i l e =
    let own : t ≡ u = e in
    let v : variable_of atom u.0 ≡ Some x = sym (s ∙ ap (λ (q : LitTerm × ℤ). variable_of atom q.0) own) in
    let m : more ≡ raised x u.1 made = r ∙ ap (λ (ts : List (ℕ × ℤ)). raised x t.1 ts) h ∙ ap (λ (q : LitTerm × ℤ). raised x q.1 made) own in
    let less : length (u ∷ us) - 1 ≡ length us = omega arith in
    let all : take (length (u ∷ us) - 1) (drop 1 (u ∷ us)) ≡ us = rw less (take-length us) in
    let step : terms_onto atom made (u ∷ us) ≡ terms_onto atom (raised x u.1 made) us = ap (λ (o : Option ℕ). with_value o (λ y. terms_onto atom (raised y u.1 made) us)) v in
    rw all (ap (λ (ts : List (ℕ × ℤ)). terms_onto atom ts us) m ∙ sym step ∙ i)

pub ruleset sums = (all-within-more)
