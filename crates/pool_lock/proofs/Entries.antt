-- Lists that grow, and the items of one number in them.
use Rattle.std.proofs.Common.{◌≡◌, ◌≢◌, ℕ, zero, suc, ◌+◌, ◌<◌, ◌≤◌, List, [], ◌∷◌, ◌++◌, length, drop, slice_get, Some, sym, refl, ap, ◌∙◌, subst, append_assoc, append-nil, add-zero, arith}
use Rattle.std.proofs.lemmas.List.{length-append, length-drop, drop-append-le}
use Rattle.std.proofs.Math.Seq.{drop-append_seam}
use mathlib.Core.Logic.{dite}
use native.Mathlib.Decide.{ℕ_discrete}
use Rattle.lists.proofs.Tests.{same-is, same-not}
use Rattle.pool_lock.specs.Entries.{StartsWith, AllStand, AllBelow, items_of, items_behind}

pub starts-same : {A : Type 0} (xs : List A) → StartsWith xs xs
starts-same xs = ([], sym (append-nil xs))

pub starts-none : {A : Type 0} (xs : List A) → StartsWith xs []
starts-none xs = (xs, refl)

pub starts-more : {A : Type 0} (all front more : List A) → StartsWith all front → StartsWith (all ++ more) front
starts-more {A = A} all front more h = (h.0 ++ more, ap (λ (xs : List A). xs ++ more) h.1 ∙ append_assoc front h.0 more)

pub starts-through : {A : Type 0} (all middle front : List A) → StartsWith all middle → StartsWith middle front → StartsWith all front
starts-through {A = A} all middle front h k = subst (λ (xs : List A). StartsWith xs front) (sym h.1) (starts-more middle front h.0 k)

pub starts-length : {A : Type 0} (all front : List A) → StartsWith all front → length front ≤ length all
starts-length all front h = let l : length all ≡ length (front ++ h.0) = ap length h.1 in omega (arith, l, length-append front h.0)

-- a list is a beginning of it that is as long
pub starts-whole : {A : Type 0} (all front : List A) → StartsWith all front → length all ≡ length front → all ≡ front
starts-whole all front h e =
    let l : length all ≡ length (front ++ h.0) = ap length h.1 in
    let none : length h.0 ≡ 0 = omega (arith, l, e, length-append front h.0) in
    h.1 ∙ ap (λ xs. front ++ xs) (length-none h.0 none) ∙ append-nil front
  where
    length-none : {A : Type 0} (xs : List A) → length xs ≡ 0 → xs ≡ []
    length-none [] e = refl
    length-none (x ∷ xs) e = absurd (omega arith)

get-longer : {A : Type 0} (xs ys : List A) (i : ℕ) (a : A) → slice_get xs i ≡ Some a → slice_get (xs ++ ys) i ≡ Some a
get-longer [] ys zero a e = absurd (cc)
get-longer [] ys (suc i) a e = absurd (cc)
get-longer (x ∷ xs) ys zero a e = e
get-longer (x ∷ xs) ys (suc i) a e = get-longer xs ys i a e

get-last : {A : Type 0} (xs : List A) (a : A) → slice_get (xs ++ a ∷ []) (length xs) ≡ Some a
get-last [] a = refl
get-last (x ∷ xs) a = get-last xs a

module _ {X : Type 0} where
  pub items-own : (k n : ℕ) (e : ℕ × X) (es : List (ℕ × X)) → e.0 ≡ k → items_of k n (e ∷ es) ≡ (n, e.1) ∷ items_of k (n + 1) es
  items-own k n e es h = rw (same-is e.0 k h) refl

  pub items-else : (k n : ℕ) (e : ℕ × X) (es : List (ℕ × X)) → e.0 ≢ k → items_of k n (e ∷ es) ≡ items_of k (n + 1) es
  items-else k n e es h = rw (same-not e.0 k h) refl

  pub items-append : (k n : ℕ) (xs ys : List (ℕ × X)) → items_of k n (xs ++ ys) ≡ items_of k n xs ++ items_of k (n + length xs) ys
  items-append k n [] ys = ap (λ (m : ℕ). items_of k m ys) (sym (add-zero n))
  items-append k n (x ∷ xs) ys =
      let e : (n + 1) + length xs ≡ n + suc (length xs) = omega arith in
      let rest : items_of k (n + 1) (xs ++ ys) ≡ items_of k (n + 1) xs ++ items_of k (n + suc (length xs)) ys = items-append k (n + 1) xs ys ∙ ap (λ (m : ℕ). items_of k (n + 1) xs ++ items_of k m ys) e in
      dite (ℕ_discrete x.0 k)
      (λ h. items-own k n x (xs ++ ys) h ∙ ap (λ (l : List (ℕ × X)). (n, x.1) ∷ l) rest ∙ ap (λ (l : List (ℕ × X)). l ++ items_of k (n + suc (length xs)) ys) (sym (items-own k n x xs h)))
      (λ h. items-else k n x (xs ++ ys) h ∙ rest ∙ ap (λ (l : List (ℕ × X)). l ++ items_of k (n + suc (length xs)) ys) (sym (items-else k n x xs h)))

  -- items of one number stand at their places
  pub items-stand : (k : ℕ) (front es : List (ℕ × X)) → AllStand k (front ++ es) (items_of k (length front) es)
  items-stand k front [] = tt
  items-stand k front (e ∷ es) =
      let whole : (front ++ e ∷ []) ++ es ≡ front ++ e ∷ es = append_assoc front (e ∷ []) es in
      let n : length (front ++ e ∷ []) ≡ length front + 1 = length-append front (e ∷ []) in
      let more = subst (λ (m : ℕ). AllStand k (front ++ e ∷ es) (items_of k m es)) n (subst (λ (ys : List (ℕ × X)). AllStand k ys (items_of k (length (front ++ e ∷ [])) es)) whole (items-stand k (front ++ e ∷ []) es)) in
      dite (ℕ_discrete e.0 k)
      (λ h.
      let here : slice_get (front ++ e ∷ es) (length front) ≡ Some (k, e.1) = subst (λ (ys : List (ℕ × X)). slice_get ys (length front) ≡ Some (e.0, e.1)) whole (get-longer (front ++ e ∷ []) es (length front) e (get-last front e)) ∙ ap (λ (m : ℕ). Some (m, e.1)) h in
      subst (AllStand k (front ++ e ∷ es)) (sym (items-own k (length front) e es h)) (here, more))
      (λ h. subst (AllStand k (front ++ e ∷ es)) (sym (items-else k (length front) e es h)) more)

  -- what stands behind the opening list, where more comes
  pub behind-more : (start current more : List (ℕ × X)) (k : ℕ) → StartsWith current start → items_behind start (current ++ more) k ≡ items_behind start current k ++ items_of k (length current) more
  behind-more start current more k begun =
      let n : ℕ = length start in
      let le = starts-length current start begun in
      let place : n + length (drop n current) ≡ length current = omega (arith, length-drop n current) in
      ap (items_of k n) (drop-append-le n current more le) ∙ items-append k n (drop n current) more ∙ ap (λ (m : ℕ). items_of k n (drop n current) ++ items_of k m more) place

  -- one item more, by this number and by another
  pub behind-own : (start current : List (ℕ × X)) (k : ℕ) (x : X) → StartsWith current start → items_behind start (current ++ (k, x) ∷ []) k ≡ items_behind start current k ++ (length current, x) ∷ []
  behind-own start current k x begun = behind-more start current ((k, x) ∷ []) k begun ∙ ap (λ (l : List (ℕ × X)). items_behind start current k ++ l) (items-own k (length current) (k, x) [] refl)

  pub behind-else : (start current : List (ℕ × X)) (j k : ℕ) (x : X) → StartsWith current start → k ≢ j → items_behind start (current ++ (k, x) ∷ []) j ≡ items_behind start current j
  behind-else start current j k x begun ne = behind-more start current ((k, x) ∷ []) j begun ∙ ap (λ (l : List (ℕ × X)). items_behind start current j ++ l) (items-else j (length current) (k, x) [] ne) ∙ append-nil (items_behind start current j)

  pub behind-stand : (start all : List (ℕ × X)) (k : ℕ) → StartsWith all start → AllStand k all (items_behind start all k)
  behind-stand start all k begun =
      let past : drop (length start) all ≡ begun.0 = ap (drop (length start)) begun.1 ∙ drop-append_seam start begun.0 in
      subst (λ (ys : List (ℕ × X)). AllStand k ys (items_behind start all k)) (sym begun.1)
      (subst (λ (ys : List (ℕ × X)). AllStand k (start ++ begun.0) (items_of k (length start) ys)) (sym past) (items-stand k start begun.0))

  below-append : (n : ℕ) (xs ys : List (ℕ × X)) → AllBelow n xs → AllBelow n ys → AllBelow n (xs ++ ys)
  below-append n [] ys h k = k
  below-append n (x ∷ xs) ys h k = (h.0, below-append n xs ys h.1 k)

  -- one item more behind the opening list, by a number below n
  pub below-more : (n k : ℕ) (x : X) (start current : List (ℕ × X)) → StartsWith current start → k < n → AllBelow n (drop (length start) current) → AllBelow n (drop (length start) (current ++ (k, x) ∷ []))
  below-more n k x start current begun less h =
      subst (AllBelow n) (sym (drop-append-le (length start) current ((k, x) ∷ []) (starts-length current start begun))) (below-append n (drop (length start) current) ((k, x) ∷ []) h (less, tt))
