-- Going from the last member of a name to the one before it finds the last that is sought.
use Rattle.std.proofs.Common.{◌≡◌, ℕ, zero, suc, ◌+◌, ◌<◌, ◌≤◌, List, [], ◌∷◌, ◌++◌, length, map, Option, Some, None, Bool, true, false, ◌&&◌, refl, sym, ap, subst, ◌∙◌, ◌⊎◌, inl, inr, arith}
use Rattle.std.specs.Prelude.{bytes_eq, if◌then◌else◌, slice_get, unwrap_or}
use Rattle.std.specs.Option.{option_or}
use Rattle.sol_judged.specs.declared.tables.Member.{Member}
use Rattle.sol_judged.specs.declared.tables.Meaning.{Meaning}
use Rattle.sol_judged.specs.declared.linked.Sought.{Sought}
use Rattle.sol_judged.specs.Names.{is_sought, last_member}
use Rattle.std.proofs.lemmas.Slice.Eq.{bytes_eq-Decides}
use Rattle.std.proofs.lemmas.List.{length-append}
use Rattle.indexmap.specs.IndexMap.{IndexMap}
use denote.Ref.{Bor}
use Rattle.lists.proofs.Places.{less-or-same}
use Rattle.sol_judged.specs.Listed.{listed}
use Rattle.sol_judged.specs.Linked.{has_name, last_below, ArePrevious, number_of}

cases : (b : Bool) → (b ≡ true) ⊎ (b ≡ false)
cases true = inl refl
cases false = inr refl

-- what one member adds to what is found before it
abbrev one_more : Sought → List ℕ → List ℕ → Option Member → Option Meaning → Option Meaning
one_more s us q None other = other
one_more s us q (Some m) other = if bytes_eq m.name.now q && is_sought s us (listed m) then Some m.meaning else other

-- the meaning of the last sought one of a name among so many members, from the back
unfoldable pub last_from : Sought → List ℕ → List Member → List ℕ → ℕ → Option Meaning
last_from s us ms q zero = None
last_from s us ms q (suc k) = one_more s us q (slice_get ms k) (last_from s us ms q k)

if-or : {A : Type 0} (b : Bool) (x : A) (y h : Option A) → (if b then Some x else option_or y h) ≡ option_or (if b then Some x else y) h
if-or true x y h = refl
if-or false x y h = refl

more-or : (s : Sought) (us : List ℕ) (q : List ℕ) (o : Option Member) (y h : Option Meaning) → one_more s us q o (option_or y h) ≡ option_or (one_more s us q o y) h
more-or s us q None y h = refl
more-or s us q (Some m) y h = if-or (bytes_eq m.name.now q && is_sought s us (listed m)) m.meaning y h

front : (s : Sought) (us : List ℕ) (m : Member) (ms : List Member) (q : List ℕ) (k : ℕ) → last_from s us (m ∷ ms) q (suc k) ≡ option_or (last_from s us ms q k) (if bytes_eq m.name.now q && is_sought s us (listed m) then Some m.meaning else None)
unfolding last_from
front s us m ms q zero = refl
front s us m ms q (suc k) = ap (one_more s us q (slice_get ms k)) (front s us m ms q k) ∙ more-or s us q (slice_get ms k) (last_from s us ms q k) (if bytes_eq m.name.now q && is_sought s us (listed m) then Some m.meaning else None)

-- from the front and from the back the same is found
pub last-back : (s : Sought) (us : List ℕ) (ms : List Member) (q : List ℕ) → last_from s us ms q (length ms) ≡ last_member s us (map listed ms) q
unfolding last_from
last-back s us [] q = refl
last-back s us (m ∷ ms) q = front s us m ms q (length ms) ∙ ap (λ (o : Option Meaning). option_or o (if bytes_eq m.name.now q && is_sought s us (listed m) then Some m.meaning else None)) (last-back s us ms q)

-- ---- from one to the one before it

other-name : (s : Sought) (us : List ℕ) (q : List ℕ) (o : Option Member) (y : Option Meaning) → has_name o q ≡ false → one_more s us q o y ≡ y
other-name s us q None y h = refl
other-name s us q (Some m) y h = rw h refl

pub walk-none : (s : Sought) (us : List ℕ) (ms : List Member) (q : List ℕ) (k : ℕ) → last_below ms q k ≡ None → last_from s us ms q k ≡ None
unfolding last_from last_below
walk-none s us ms q zero h = refl
walk-none s us ms q (suc k) h =
    elim (cases (has_name (slice_get ms k) q)) [
      | inl t ↦ (let e : Some k ≡ None = rw t at h in absurd (cc))
      | inr f ↦ (let e : last_below ms q k ≡ None = rw f at h in other-name s us q (slice_get ms k) (last_from s us ms q k) f ∙ walk-none s us ms q k e)
    ]

back-from : (s : Sought) (us : List ℕ) (ms : List Member) (q : List ℕ) (k : ℕ) → has_name (slice_get ms k) q ≡ false → last_from s us ms q (suc k) ≡ last_from s us ms q k
unfolding last_from
back-from s us ms q k f = other-name s us q (slice_get ms k) (last_from s us ms q k) f

pub walk-some : (s : Sought) (us : List ℕ) (ms : List Member) (q : List ℕ) (k i : ℕ) → last_below ms q k ≡ Some i → last_from s us ms q k ≡ last_from s us ms q (suc i)
unfolding last_below
walk-some s us ms q zero i h = absurd (cc)
walk-some s us ms q (suc k) i h =
    elim (cases (has_name (slice_get ms k) q)) [
      | inl t ↦ (let e : Some k ≡ Some i = rw t at h in let n : k ≡ i = cc in ap (λ (j : ℕ). last_from s us ms q (suc j)) n)
      | inr f ↦ (let e : last_below ms q k ≡ Some i = rw f at h in back-from s us ms q k f ∙ walk-some s us ms q k i e)
    ]

pub walk-within : (ms : List Member) (q : List ℕ) (k i : ℕ) → last_below ms q k ≡ Some i → i < k
unfolding last_below
walk-within ms q zero i h = absurd (cc)
walk-within ms q (suc k) i h =
    elim (cases (has_name (slice_get ms k) q)) [
      | inl t ↦ (let e : Some k ≡ Some i = rw t at h in let n : k ≡ i = cc in omega arith)
      | inr f ↦ (let e : last_below ms q k ≡ Some i = rw f at h in omega (arith, walk-within ms q k i e))
    ]

pub walk-named : (ms : List Member) (q : List ℕ) (k i : ℕ) → last_below ms q k ≡ Some i → has_name (slice_get ms i) q ≡ true
unfolding last_below
walk-named ms q zero i h = absurd (cc)
walk-named ms q (suc k) i h =
    elim (cases (has_name (slice_get ms k) q)) [
      | inl t ↦ (let e : Some k ≡ Some i = rw t at h in let n : k ≡ i = cc in rw (sym n) t)
      | inr f ↦ (let e : last_below ms q k ≡ Some i = rw f at h in walk-named ms q k i e)
    ]

-- one step of the way: the member at a place, and the place of the one before it
pub walk-missing : (ms : List Member) (q : List ℕ) (k i : ℕ) → Some i ≡ last_below ms q k → slice_get ms i ≡ None → ⊥
walk-missing ms q k i h n =
    let t : has_name (slice_get ms i) q ≡ true = walk-named ms q k i (sym h) in
    let f : has_name None q ≡ true = rw n at t in
    absurd (cc)

pub walk-found : (s : Sought) (us : List ℕ) (ms : List Member) (q : List ℕ) (k i : ℕ) (m : Member) (t : Option Meaning) → Some i ≡ last_below ms q k → last_from s us ms q k ≡ t → slice_get ms i ≡ Some m → is_sought s us (listed m) ≡ true → Some m.meaning ≡ t
unfolding last_from
walk-found s us ms q k i m t h e g y =
    let n : has_name (slice_get ms i) q ≡ true = walk-named ms q k i (sym h) in
    let b : bytes_eq m.name.now q ≡ true = rw g at n in
    let w : last_from s us ms q (suc i) ≡ Some m.meaning = rw (g, b, y) refl in
    sym w ∙ sym (walk-some s us ms q k i (sym h)) ∙ e

pub walk-on : (s : Sought) (us : List ℕ) (ms : List Member) (q : List ℕ) (k i : ℕ) (m : Member) (t : Option Meaning) → Some i ≡ last_below ms q k → last_from s us ms q k ≡ t → slice_get ms i ≡ Some m → is_sought s us (listed m) ≡ false → last_from s us ms q i ≡ t
unfolding last_from
walk-on s us ms q k i m t h e g y =
    let n : has_name (slice_get ms i) q ≡ true = walk-named ms q k i (sym h) in
    let b : bytes_eq m.name.now q ≡ true = rw g at n in
    let w : last_from s us ms q (suc i) ≡ last_from s us ms q i = rw (g, b, y) refl in
    sym w ∙ sym (walk-some s us ms q k i (sym h)) ∙ e

same-name : (ms : List Member) (q : List ℕ) (k i : ℕ) (m : Member) → Some i ≡ last_below ms q k → slice_get ms i ≡ Some m → m.name.now ≡ q
same-name ms q k i m h g =
    let n : has_name (slice_get ms i) q ≡ true = walk-named ms q k i (sym h) in
    let b : bytes_eq m.name.now q ≡ true = rw g at n in
    (bytes_eq-Decides m.name.now q).0 b

before : (ms : List Member) (previous : List (Option ℕ)) (q : List ℕ) (k i : ℕ) (m : Member) → ArePrevious ms previous (length ms) → k ≤ length ms → Some i ≡ last_below ms q k → slice_get ms i ≡ Some m → slice_get previous i ≡ Some (last_below ms q i)
before ms previous q k i m p l h g =
    let w = walk-within ms q k i (sym h) in
    let n = same-name ms q k i m h g in
    rw (sym n) (p i m (omega arith) g)

pub walk-next : (ms : List Member) (previous : List (Option ℕ)) (q : List ℕ) (k i : ℕ) (m : Member) → ArePrevious ms previous (length ms) → k ≤ length ms → Some i ≡ last_below ms q k → slice_get ms i ≡ Some m → unwrap_or (slice_get previous i) None ≡ last_below ms q i
walk-next ms previous q k i m p l h g = ap (λ (o : Option (Option ℕ)). unwrap_or o None) (before ms previous q k i m p l h g)

pub walk-less : (ms : List Member) (q : List ℕ) (k i : ℕ) → Some i ≡ last_below ms q k → i < k
walk-less ms q k i h = walk-within ms q k i (sym h)

pub walk-end : (s : Sought) (us : List ℕ) (ms : List Member) (q : List ℕ) (k : ℕ) (t : Option Meaning) → None ≡ last_below ms q k → last_from s us ms q k ≡ t → None ≡ t
walk-end s us ms q k t h e = sym (walk-none s us ms q k (sym h)) ∙ e

pub ruleset walking = (last-back, walk-missing, walk-found, walk-on, walk-next, walk-less, walk-end)

-- ---- how the links are made

pub record Links {S : Type 0} (ms : List Member) (i : ℕ) (previous : List (Option ℕ)) (last : IndexMap (Bor (List ℕ)) ℕ S) : Type 0 where
  pub as_long : length previous ≡ i
  pub last_is : (q : List ℕ) → number_of last q ≡ last_below ms q i
  pub previous_are : ArePrevious ms previous i

at-old : {A : Type 0} (xs : List A) (x : A) (j : ℕ) (y : A) → slice_get xs j ≡ Some y → slice_get (xs ++ x ∷ []) j ≡ Some y
at-old {A} [] x j y h = absurd (cc)
at-old {A} (z ∷ xs) x zero y h = h
at-old {A} (z ∷ xs) x (suc j) y h = at-old xs x j y h

at-new : {A : Type 0} (xs : List A) (x : A) → slice_get (xs ++ x ∷ []) (length xs) ≡ Some x
at-new {A} [] x = refl
at-new {A} (z ∷ xs) x = at-new xs x

last-next : (ms : List Member) (q : List ℕ) (i : ℕ) (m : Member) → slice_get ms i ≡ Some m → last_below ms q (suc i) ≡ (if bytes_eq m.name.now q then Some i else last_below ms q i)
unfolding last_below
last-next ms q i m g = rw g refl

pub links-next : {S T : Type 0} (ms : List Member) (i : ℕ) (previous after : List (Option ℕ)) (last : IndexMap (Bor (List ℕ)) ℕ S) (next : IndexMap (Bor (List ℕ)) ℕ T) (m : Member) (o : Option ℕ) (k : ℕ) → Links ms i previous last → slice_get ms i ≡ Some m → after ≡ previous ++ o ∷ [] → o ≡ number_of last m.name.now → ((q : List ℕ) → number_of next q ≡ (if bytes_eq m.name.now q then Some k else number_of last q)) → k ≡ i → Links ms (suc i) after next
links-next {S} {T} ms i previous after last next m o k l g a n u c = record {
  as_long = rw (a, length-append previous (o ∷ []), l.as_long) (omega arith);
  last_is = λ q. u q ∙ ap (λ (x : ℕ). if bytes_eq m.name.now q then Some x else number_of last q) c ∙ ap (λ (x : Option ℕ). if bytes_eq m.name.now q then Some i else x) (l.last_is q) ∙ sym (last-next ms q i m g);
  previous_are = λ j x b h. elim (less-or-same j i (omega arith)) [
    | inl less ↦ rw a (at-old previous o j (last_below ms x.name.now j) (l.previous_are j x less h))
    | inr same ↦ (let e : slice_get previous i ≡ slice_get previous j = ap (slice_get previous) (sym same) in
        let w : Some m ≡ Some x = sym g ∙ ap (slice_get ms) (sym same) ∙ h in
        let v : m ≡ x = cc in
        let w2 : o ≡ last_below ms x.name.now j = n ∙ l.last_is m.name.now ∙ rw (v, same) refl in
        rw (a, sym w2, same, sym l.as_long) (at-new previous o))
  ];
}

pub links-first : {S : Type 0} (ms : List Member) (previous : List (Option ℕ)) (last : IndexMap (Bor (List ℕ)) ℕ S) → previous ≡ [] → ((q : List ℕ) → number_of last q ≡ None) → Links ms 0 previous last
unfolding last_below
links-first {S} ms previous last p n = record {
  as_long = ap length p;
  last_is = λ q. n q;
  previous_are = λ i m h e. absurd (omega arith);
}

-- the same where the next place is a sum
pub links-on : {S : Type 0} {ms : List Member} {i j : ℕ} {after : List (Option ℕ)} {next : IndexMap (Bor (List ℕ)) ℕ S} → j ≡ i + 1 → Links ms (suc i) after next → Links ms j after next
links-on {S} {ms} {i} {j} {after} {next} e l = let k : suc i ≡ j = omega arith in subst (λ (n : ℕ). Links ms n after next) k l
