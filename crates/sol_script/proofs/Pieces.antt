-- A text and its pieces.
use Rattle.std.proofs.Common.{◌≡◌, ◌≢◌, ◌∙◌, refl, sym, ap, subst, take_all, length-drop, ℕ, zero, suc, ◌+◌, ◌-◌, ◌<◌, ◌≤◌, List, [], ◌∷◌, ◌++◌, length, take, drop, get_or, Some, None, Bool, true, false, not, ◌&&◌, ◌==◌, if◌then◌else◌, arith}
use Rattle.std.proofs.lemmas.List.{append_assoc, append-nil}
use Rattle.std.proofs.lemmas.Bool.{and_parts, and_from}
use Rattle.lists.proofs.Tests.{same-is, same-true, same-not, same-false}
use Rattle.sol_script.specs.Pieces.{ended, tail, pieces, before_first, before_tail}
use Rattle.sol_script.specs.Cuts.{IsCut}

-- the pieces that a byte ends, with it, and then a tail
abbrev pub glued : ℕ → List (List ℕ) → List ℕ → List ℕ
glued b [] rest = rest
glued b (piece ∷ more) rest = piece ++ b ∷ glued b more rest

glued-first : (b x : ℕ) (ps : List (List ℕ)) (t : List ℕ) → glued b (before_first x ps) (before_tail x ps t) ≡ x ∷ glued b ps t
glued-first b x [] t = refl
glued-first b x (p ∷ ps) t = refl

pub glued-ended : (b : ℕ) (text : List ℕ) → glued b (ended b text) (tail b text) ≡ text
glued-ended b [] = refl
glued-ended b (x ∷ xs) = step (x == b) refl (glued-ended b xs)
  where
    step : (t : Bool) → (x == b) ≡ t → glued b (ended b xs) (tail b xs) ≡ xs → glued b (if t then [] ∷ ended b xs else before_first x (ended b xs)) (if t then tail b xs else before_tail x (ended b xs) (tail b xs)) ≡ x ∷ xs
    step true is rest = ap (λ y. y ∷ glued b (ended b xs) (tail b xs)) (sym (same-true x b is)) ∙ ap (λ ys. x ∷ ys) rest
    step false is rest = glued-first b x (ended b xs) (tail b xs) ∙ ap (λ ys. x ∷ ys) rest

-- no byte of a text is this one
abbrev pub lacks : ℕ → List ℕ → Bool
lacks b [] = true
lacks b (x ∷ xs) = not (x == b) && lacks b xs

pub lacks-append : (b : ℕ) (xs ys : List ℕ) → lacks b xs ≡ true → lacks b ys ≡ true → lacks b (xs ++ ys) ≡ true
lacks-append b [] ys h k = k
lacks-append b (x ∷ xs) ys h k = let q = and_parts (not (x == b)) (lacks b xs) h in and_from (not (x == b)) (lacks b (xs ++ ys)) q.0 (lacks-append b xs ys q.1 k)

not-same : (x b : ℕ) → not (x == b) ≡ true → (x == b) ≡ false
not-same x b h = step (x == b) h
  where
    step : (t : Bool) → not t ≡ true → t ≡ false
    step true k = absurd (cc)
    step false k = refl

pub ended-line : (b : ℕ) (line rest : List ℕ) → lacks b line ≡ true → ended b (line ++ b ∷ rest) ≡ line ∷ ended b rest
ended-line b [] rest h = rw (same-is b b refl) refl
ended-line b (x ∷ xs) rest h =
    let q = and_parts (not (x == b)) (lacks b xs) h in
    rw (not-same x b q.0, ended-line b xs rest q.1) refl

pub tail-line : (b : ℕ) (line rest : List ℕ) → lacks b line ≡ true → tail b (line ++ b ∷ rest) ≡ tail b rest
tail-line b [] rest h = rw (same-is b b refl) refl
tail-line b (x ∷ xs) rest h =
    let q = and_parts (not (x == b)) (lacks b xs) h in
    rw (not-same x b q.0, ended-line b xs rest q.1) (tail-line b xs rest q.1)

pub ended-none : (b : ℕ) (text : List ℕ) → lacks b text ≡ true → ended b text ≡ []
ended-none b [] h = refl
ended-none b (x ∷ xs) h =
    let q = and_parts (not (x == b)) (lacks b xs) h in
    rw (not-same x b q.0, ended-none b xs q.1) refl

pub tail-none : (b : ℕ) (text : List ℕ) → lacks b text ≡ true → tail b text ≡ text
tail-none b [] h = refl
tail-none b (x ∷ xs) h =
    let q = and_parts (not (x == b)) (lacks b xs) h in
    rw (not-same x b q.0, ended-none b xs q.1) (ap (λ ys. x ∷ ys) (tail-none b xs q.1))

-- ---- pieces

pub pieces-one : (b : ℕ) (text : List ℕ) → lacks b text ≡ true → pieces b text ≡ text ∷ []
pieces-one b text h = rw (ended-none b text h, tail-none b text h) refl

pub pieces-more : (b : ℕ) (piece rest : List ℕ) → lacks b piece ≡ true → pieces b (piece ++ b ∷ rest) ≡ piece ∷ pieces b rest
pieces-more b piece rest h = rw (ended-line b piece rest h, tail-line b piece rest h) refl

-- words behind others, each after the byte
abbrev pub behind : ℕ → List (List ℕ) → List ℕ
behind b [] = []
behind b (piece ∷ more) = b ∷ (piece ++ behind b more)

-- words, with the byte between each two
abbrev pub between : ℕ → List (List ℕ) → List ℕ
between b [] = []
between b (piece ∷ more) = piece ++ behind b more

behind-last : (b : ℕ) (ps : List (List ℕ)) (t : List ℕ) → behind b (ps ++ t ∷ []) ≡ b ∷ between b (ps ++ t ∷ [])
behind-last b [] t = refl
behind-last b (p ∷ ps) t = refl

between-ended : (b : ℕ) (ps : List (List ℕ)) (t : List ℕ) → between b (ps ++ t ∷ []) ≡ glued b ps t
between-ended b [] t = append-nil t
between-ended b (p ∷ ps) t = ap (λ ys. p ++ ys) (behind-last b ps t ∙ ap (λ ys. b ∷ ys) (between-ended b ps t))

pub between-pieces : (b : ℕ) (text : List ℕ) → between b (pieces b text) ≡ text
between-pieces b text = between-ended b (ended b text) (tail b text) ∙ glued-ended b text

-- no word has the byte
abbrev pub all_lack : ℕ → List (List ℕ) → Bool
all_lack b [] = true
all_lack b (piece ∷ more) = lacks b piece && all_lack b more

pub pieces-between : (b : ℕ) (piece : List ℕ) (more : List (List ℕ)) → lacks b piece ≡ true → all_lack b more ≡ true → pieces b (between b (piece ∷ more)) ≡ piece ∷ more
pieces-between b piece [] h k = ap (pieces b) (append-nil piece) ∙ pieces-one b piece h
pieces-between b piece (next ∷ more) h k =
    let q = and_parts (lacks b next) (all_lack b more) k in
    pieces-more b piece (next ++ behind b more) h ∙ ap (λ ps. piece ∷ ps) (pieces-between b next more q.0 q.1)

-- another byte that no word has
pub lacks-behind : (a b : ℕ) (ps : List (List ℕ)) → (b == a) ≡ false → all_lack a ps ≡ true → lacks a (behind b ps) ≡ true
lacks-behind a b [] e h = refl
lacks-behind a b (p ∷ ps) e h =
    let q = and_parts (lacks a p) (all_lack a ps) h in
    and_from (not (b == a)) (lacks a (p ++ behind b ps)) (ap not e) (lacks-append a p (behind b ps) q.0 (lacks-behind a b ps e q.1))

pub lacks-between : (a b : ℕ) (ps : List (List ℕ)) → (b == a) ≡ false → all_lack a ps ≡ true → lacks a (between b ps) ≡ true
lacks-between a b [] e h = refl
lacks-between a b (p ∷ ps) e h = let q = and_parts (lacks a p) (all_lack a ps) h in lacks-append a p (behind b ps) q.0 (lacks-behind a b ps e q.1)

-- ---- a cut at a place

pub cut-none : (b : ℕ) (text : List ℕ) → lacks b text ≡ true → IsCut b text None
cut-none b text h = (ended-none b text h, tail-none b text h)

split-at : (text : List ℕ) (at : ℕ) → at < length text → text ≡ take at text ++ get_or text at 0 ∷ drop (suc at) text
split-at [] at h = absurd (omega arith)
split-at (x ∷ xs) zero h = refl
split-at (x ∷ xs) (suc at) h = ap (λ ys. x ∷ ys) (split-at xs at (omega arith))

pub cut-at : (b : ℕ) (text : List ℕ) (at : ℕ) → lacks b (take at text) ≡ true → at < length text → get_or text at 0 ≡ b → IsCut b text (Some (take at text, drop (suc at) text))
cut-at b text at h less is =
    let e : text ≡ take at text ++ b ∷ drop (suc at) text = split-at text at less ∙ ap (λ y. take at text ++ y ∷ drop (suc at) text) is in
    (e, ap (ended b) e ∙ ended-line b (take at text) (drop (suc at) text) h, ap (tail b) e ∙ tail-line b (take at text) (drop (suc at) text) h)

pub lacks-next : (b : ℕ) (text : List ℕ) (at : ℕ) → lacks b (take at text) ≡ true → at < length text → get_or text at 0 ≢ b → lacks b (take (suc at) text) ≡ true
lacks-next b [] at h less other = absurd (omega arith)
lacks-next b (x ∷ xs) zero h less other = and_from (not (x == b)) true (ap not (same-not x b other)) refl
lacks-next b (x ∷ xs) (suc at) h less other =
    let q = and_parts (not (x == b)) (lacks b (take at xs)) h in
    and_from (not (x == b)) (lacks b (take (suc at) xs)) q.0 (lacks-next b xs at q.1 (omega arith) other)

pub lacks-whole : (b : ℕ) (text : List ℕ) (at : ℕ) → lacks b (take at text) ≡ true → length text ≤ at → lacks b text ≡ true
lacks-whole b [] at h le = refl
lacks-whole b (x ∷ xs) zero h le = absurd (omega arith)
lacks-whole b (x ∷ xs) (suc at) h le =
    let q = and_parts (not (x == b)) (lacks b (take at xs)) h in
    and_from (not (x == b)) (lacks b xs) q.0 (lacks-whole b xs at q.1 (omega arith))

take-drop : (text : List ℕ) (k : ℕ) → take (length text - k) (drop k text) ≡ drop k text
take-drop text k = take_all (length text - k) (drop k text) (omega (arith, length-drop k text))

pub cut-found : (b : ℕ) (text : List ℕ) (at : ℕ) → lacks b (take at text) ≡ true → at < length text → get_or text at 0 ≡ b → IsCut b text (Some (take at text, take (length text - (at + 1)) (drop (at + 1) text)))
cut-found b text at h less is =
    let next : suc at ≡ at + 1 = omega arith in
    subst (λ back. IsCut b text (Some (take at text, back))) (sym (take-drop text (at + 1) ∙ ap (λ k. drop k text) (sym next))) (cut-at b text at h less is)

pub ruleset cuts = (cut-none, cut-at, lacks-next, lacks-whole)
