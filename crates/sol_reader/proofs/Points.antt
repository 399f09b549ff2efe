-- The places where lines begin tell the line and the column of each place.
use Rattle.std.proofs.Common.{◌≡◌, ap, refl, ℕ, zero, suc, ◌+◌, ◌-◌, min, ◌<◌, ◌≤◌, ◌==◌, Bool, true, false, leb, List, [], ◌∷◌, length, take, get_or, arith, if◌then◌else◌}
use Rattle.std.specs.List.Sorted.{IsNonDecreasingBy, IsPartitionPoint}
use Rattle.std.proofs.lemmas.Bool.{le-leb, lt-leb, leb-true}
use Rattle.std.proofs.lemmas.List.{take_min}
use Rattle.sol_reader.specs.Places.{line_after, column_after, line_of, column_of}
use Rattle.sol_reader.specs.Starts.{AreStarts, with_start, starts_from, begun, last_of}

-- ---- they rise

above-start : (t : Bool) (k : ℕ) (ss : List ℕ) → ((j d : ℕ) → j < length ss → k + 1 < get_or ss j d) → (j d : ℕ) → j < length (with_start t (k + 1) ss) → k < get_or (with_start t (k + 1) ss) j d
above-start true k ss h zero d l = omega arith
above-start true k ss h (suc j) d l = let g : k + 1 < get_or ss j d = h j d (omega arith) in omega arith
above-start false k ss h j d l = let g : k + 1 < get_or ss j d = h j d l in omega arith

-- each is after the bytes that stand before the text
above : (k : ℕ) (text : List ℕ) (j d : ℕ) → j < length (starts_from k text) → k < get_or (starts_from k text) j d
above k [] j d l = absurd (omega arith)
above k (b ∷ bs) j d l = above-start (b == 10) k (starts_from (k + 1) bs) (above (k + 1) bs) j d l

rise-start : (t : Bool) (k : ℕ) (ss : List ℕ) → ((j d : ℕ) → j < length ss → k < get_or ss j d) → IsNonDecreasingBy (λ s. s) ss → (i j d : ℕ) → i ≤ j → j < length (with_start t k ss) → get_or (with_start t k ss) i d ≤ get_or (with_start t k ss) j d
rise-start false k ss h r i j d l m = r i j d l m
rise-start true k ss h r zero zero d l m = omega arith
rise-start true k ss h r zero (suc j) d l m = let g : k < get_or ss j d = h j d (omega arith) in omega arith
rise-start true k ss h r (suc i) zero d l m = absurd (omega arith)
rise-start true k ss h r (suc i) (suc j) d l m = r i j d (omega arith) (omega arith)

pub starts-rise : (k : ℕ) (text : List ℕ) → IsNonDecreasingBy (λ s. s) (starts_from k text)
starts-rise k [] = λ i j d l m. absurd (omega arith)
starts-rise k (b ∷ bs) = rise-start (b == 10) (k + 1) (starts_from (k + 1) bs) (above (k + 1) bs) (starts-rise (k + 1) bs)

pub are-rising : (starts text : List ℕ) → AreStarts starts text → IsNonDecreasingBy (λ s. s) starts
are-rising starts text a = rw a.places (starts-rise 0 text)

-- ---- how many are not after a place

pub begun-point : (ss : List ℕ) (at p : ℕ) → p ≤ length ss → ((k : ℕ) → k < p → leb (get_or ss k 0) at ≡ true) → ((k : ℕ) → p ≤ k → k < length ss → leb (get_or ss k 0) at ≡ false) → p ≡ begun ss at
begun-point [] at p l h g = omega arith
begun-point (s ∷ ss) at zero l h g = let e : leb s at ≡ false = g 0 (omega arith) (omega arith) in rw e refl
begun-point (s ∷ ss) at (suc p) l h g =
    let e : leb s at ≡ true = h 0 (omega arith) in
    rw e (ap suc (begun-point ss at p (omega arith) (λ k m. h (suc k) (omega arith)) (λ k m n. g (suc k) (omega arith) (omega arith))))

-- a search that tells the places up to one from those after it gives their count
pub begun-search : (ss : List ℕ) (at p : ℕ) → p ≤ length ss → IsPartitionPoint (λ s. leb s at ≡ true) (λ s. leb s at ≡ false) ss p → p ≡ begun ss at
begun-search ss at p l h = begun-point ss at p l (λ k m. h.0 k 0 (omega arith) m) (λ k m n. h.1 k 0 m n)

pub rising-splits : (ss : List ℕ) (at : ℕ) → IsNonDecreasingBy (λ s. s) ss → (i j d : ℕ) → i ≤ j → j < length ss → leb (get_or ss j d) at ≡ true → leb (get_or ss i d) at ≡ true
rising-splits ss at r i j d l m h =
    let a : get_or ss i d ≤ get_or ss j d = r i j d l m in
    let b : get_or ss j d ≤ at = leb-true (get_or ss j d) at h in
    le-leb (get_or ss i d) at (omega arith)

begun-none : (ss : List ℕ) (at : ℕ) → (0 < length ss → at < get_or ss 0 0) → begun ss at ≡ 0
begun-none [] at h = refl
begun-none (s ∷ ss) at h = let g : at < s = h (omega arith) in rw (lt-leb s at g) refl

-- ---- the last one not after a place

pub last-at : (first : ℕ) (ss : List ℕ) (n : ℕ) → 0 < n → n ≤ length ss → last_of first ss n ≡ get_or ss (n - 1) 0
last-at first ss zero h l = absurd (omega arith)
last-at first [] (suc n) h l = absurd (omega arith)
last-at first (s ∷ ss) (suc zero) h l = refl
last-at first (s ∷ ss) (suc (suc n)) h l =
    let e : suc (suc n) - 1 ≡ suc n = omega arith in
    let f : suc n - 1 ≡ n = omega arith in
    let g : last_of s ss (suc n) ≡ get_or ss (suc n - 1) 0 = last-at s ss (suc n) (omega arith) (omega arith) in
    rw e (rw f at g)

pub last-none : (first : ℕ) (ss : List ℕ) (n : ℕ) → n ≡ 0 → last_of first ss n ≡ first
last-none first ss n h = rw h refl

last-tested : (t : Bool) (first s : ℕ) (ss : List ℕ) (at : ℕ) → leb s at ≡ t → first ≤ at → (s ≤ at → last_of s ss (begun ss at) ≤ at) → last_of first (s ∷ ss) (if t then suc (begun ss at) else 0) ≤ at
last-tested true first s ss at e h g = g (leb-true s at e)
last-tested false first s ss at e h g = h

last-below : (first : ℕ) (ss : List ℕ) (at : ℕ) → first ≤ at → last_of first ss (begun ss at) ≤ at
last-below first [] at h = h
last-below first (s ∷ ss) at h = last-tested (leb s at) first s ss at refl h (λ g. last-below s ss at g)

pub last-within : (ss : List ℕ) (at : ℕ) → last_of 0 ss (begun ss at) ≤ at
last-within ss at = last-below 0 ss at (omega arith)

pub ruleset lasts = (last-at, last-none, last-within)

-- ---- lines

line-step : (t : Bool) (line k at : ℕ) (ss bs : List ℕ) → ((l : ℕ) → line_after l bs ≡ l + begun ss ((k + 1) + at)) → line_after (if t then line + 1 else line) bs ≡ line + begun (with_start t (k + 1) ss) (k + suc at)
line-step true line k at ss bs h =
    let e : (k + 1) + at ≡ k + suc at = omega arith in
    let f : leb (k + 1) (k + suc at) ≡ true = le-leb (k + 1) (k + suc at) (omega arith) in
    let g : line_after (line + 1) bs ≡ (line + 1) + begun ss (k + suc at) = rw e at (h (line + 1)) in
    rw f (omega (arith, g))
line-step false line k at ss bs h =
    let e : (k + 1) + at ≡ k + suc at = omega arith in
    rw e at (h line)

line-from : (text : List ℕ) (line k at : ℕ) → line_after line (take at text) ≡ line + begun (starts_from k text) (k + at)
line-from text line k zero =
    let e : k + 0 ≡ k = omega arith in
    let f : begun (starts_from k text) k ≡ 0 = begun-none (starts_from k text) k (λ l. above k text 0 0 l) in
    rw (e, f) (omega arith)
line-from [] line k (suc at) = omega arith
line-from (b ∷ bs) line k (suc at) = line-step (b == 10) line k at (starts_from (k + 1) bs) (take at bs) (λ l. line-from bs l (k + 1) at)

-- ---- columns

column-step : (t : Bool) (first k at : ℕ) (ss bs : List ℕ) → first ≤ k → ((f : ℕ) → f ≤ k + 1 → column_after ((k + 1 - f) + 1) bs ≡ (((k + 1) + at) - last_of f ss (begun ss ((k + 1) + at))) + 1) → column_after (if t then 1 else ((k - first) + 1) + 1) bs ≡ ((k + suc at) - last_of first (with_start t (k + 1) ss) (begun (with_start t (k + 1) ss) (k + suc at))) + 1
column-step true first k at ss bs l h =
    let e : (k + 1) + at ≡ k + suc at = omega arith in
    let f : leb (k + 1) (k + suc at) ≡ true = le-leb (k + 1) (k + suc at) (omega arith) in
    let z : (k + 1 - (k + 1)) + 1 ≡ 1 = omega arith in
    let g = rw (e, z) at (h (k + 1) (omega arith)) in
    rw f g
column-step false first k at ss bs l h =
    let e : (k + 1) + at ≡ k + suc at = omega arith in
    let z : (k + 1 - first) + 1 ≡ ((k - first) + 1) + 1 = omega arith in
    rw (e, z) at (h first (omega arith))

column-from : (text : List ℕ) (first k at : ℕ) → first ≤ k → at ≤ length text → column_after ((k - first) + 1) (take at text) ≡ ((k + at) - last_of first (starts_from k text) (begun (starts_from k text) (k + at))) + 1
column-from text first k zero l m =
    let e : k + 0 ≡ k = omega arith in
    let f : begun (starts_from k text) k ≡ 0 = begun-none (starts_from k text) k (λ l. above k text 0 0 l) in
    rw (e, f) refl
column-from [] first k (suc at) l m = absurd (omega arith)
column-from (b ∷ bs) first k (suc at) l m = column-step (b == 10) first k at (starts_from (k + 1) bs) (take at bs) l (λ f n. column-from bs f (k + 1) at n (omega arith))

-- ---- of a whole text

start-count : (t : Bool) (k : ℕ) (ss : List ℕ) (n : ℕ) → length ss ≤ n → length (with_start t k ss) ≤ suc n
start-count true k ss n h = omega arith
start-count false k ss n h = omega arith

starts-count : (k : ℕ) (text : List ℕ) → length (starts_from k text) ≤ length text
starts-count k [] = omega arith
starts-count k (b ∷ bs) = start-count (b == 10) (k + 1) (starts_from (k + 1) bs) (length bs) (starts-count (k + 1) bs)

-- places fit 32 bits
pub starts-few : (starts text : List ℕ) → AreStarts starts text → length starts ≤ 262144
starts-few starts text a =
    let e : length starts ≡ length (starts_from 0 text) = ap length a.places in
    omega (arith, starts-count 0 text, a.short)

pub line-at : (starts text : List ℕ) (at : ℕ) → AreStarts starts text → begun starts (min at (length text)) + 1 ≡ line_of text at
unfolding line_of
line-at starts text at a =
    let e : 0 + min at (length text) ≡ min at (length text) = omega arith in
    let f : line_after 1 (take at text) ≡ 1 + begun (starts_from 0 text) (min at (length text)) = rw (take_min, e) at (line-from text 1 0 (min at (length text))) in
    rw (a.places, f) (omega arith)

pub column-at : (starts text : List ℕ) (at : ℕ) → AreStarts starts text → (min at (length text) - last_of 0 starts (begun starts (min at (length text)))) + 1 ≡ column_of text at
unfolding column_of
column-at starts text at a =
    let e : 0 + min at (length text) ≡ min at (length text) = omega arith in
    let z : (0 - 0) + 1 ≡ 1 = omega arith in
    let f : column_after 1 (take at text) ≡ (min at (length text) - last_of 0 (starts_from 0 text) (begun (starts_from 0 text) (min at (length text)))) + 1 = rw (take_min, e, z) at (column-from text 0 0 (min at (length text)) (omega arith) (omega arith)) in
    rw (a.places, f) refl

pub ruleset of_text = (starts-few, line-at, column-at)
