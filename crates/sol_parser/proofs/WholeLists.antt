-- Each list is read from the tokens that spell it.
use Rattle.std.proofs.Common.{◌≡◌, ◌∙◌, sym, ap, subst, refl, ℕ, zero, suc, ◌+◌, ◌-◌, ◌<◌, ◌≤◌, max, List, [], ◌∷◌, ◌++◌, length, append_assoc, append-nil, length-append, Option, Some, None, codes, arith}
use Rattle.sol_tree.specs.declared.token.Token.{Token}
use Rattle.sol_tree.specs.declared.token.TokenKind.TheVariants as kind
use Rattle.sol_parse_expr.specs.Grammar.{IsMark}
use Rattle.sol_parse_expr.specs.Heights.{greatest}
use Rattle.sol_parse_expr.specs.Reading.{Measured, mark_at}
use Rattle.sol_parse_expr.proofs.Tokens.{mark-here, mark-not}
use Rattle.sol_parser.specs.Grammar.{Separated, MaySeparated, Repeated, Enclosed}
use Rattle.sol_parser.specs.Heights.{greatest_by}
use Rattle.sol_parser.specs.Reading.{repeated_at, many_at, next_at, separated_at, may_separated_at, enclosed_at}
use Rattle.sol_parser.proofs.Turns.{repeated-stop, repeated-turn}

-- what is spelled with d levels at most is read, where what follows does not go on with it
abbrev pub Whole : {A : Type 0} → (A → ℕ) → (A → List Token → Type 0) → ℕ → Measured A → (List Token → Type 0) → Type 0
Whole {A} height_of P d one Stop = (x : A) (us : List Token) → P x us → height_of x ≤ d → (rest : List Token) → Stop rest → one (us ++ rest) ≡ Some (x, height_of x, rest)

-- what is spelled so begins with tokens that do not go on with what stands before
abbrev pub Begins : {A : Type 0} → (A → List Token → Type 0) → (List Token → Type 0) → Type 0
Begins {A} P Stop = (x : A) (us : List Token) → P x us → (rest : List Token) → Stop (us ++ rest)

-- what is spelled so has a token
abbrev pub Filled : {A : Type 0} → (A → List Token → Type 0) → Type 0
Filled {A} P = (x : A) (us : List Token) → P x us → 0 < length us

longer-first : {A : Type 0} (acc xs : List A) (x : A) (h n m : ℕ) (rest : List Token) → ◌≡◌ {A = Option (List A × ℕ × List Token)} (Some ((acc ++ (x ∷ [])) ++ xs, max (max h n) m, rest)) (Some (acc ++ (x ∷ xs), max h (max n m), rest))
longer-first {A} acc xs x h n m rest =
    let e : max (max h n) m ≡ max h (max n m) = omega arith in
    rw (append_assoc, e) refl

same-list : {A : Type 0} (acc : List A) (h : ℕ) (rest : List Token) → ◌≡◌ {A = Option (List A × ℕ × List Token)} (Some (acc, h, rest)) (Some (acc ++ [], max h 0, rest))
same-list {A} acc h rest =
    let e : max h 0 ≡ h = omega arith in
    rw (append-nil, e) refl

-- so does a list of them, where what stands behind it does not
pub follows : {A : Type 0} (P : A → List Token → Type 0) (Stop : List Token → Type 0) → Begins P Stop → (xs : List A) (us : List Token) → Repeated P xs us → (rest : List Token) → Stop rest → Stop (us ++ rest)
follows P Stop begins xs us Repeated.ended rest s = s
follows P Stop begins zs us (Repeated.another {x} {xs} {ts} {us = ws} p q) rest s = rw append_assoc (begins x ts p (ws ++ rest))

-- the loop reads what is spelled, after what it has
repeated-all : {A : Type 0} (height_of : A → ℕ) (P : A → List Token → Type 0) (d : ℕ) (one : Measured A) (Stop : List Token → Type 0) → Whole height_of P d one Stop → Begins P Stop → Filled P → (xs : List A) (us : List Token) → Repeated P xs us → greatest_by height_of xs ≤ d → (k : ℕ) (acc : List A) (h : ℕ) (rest : List Token) → length (us ++ rest) ≤ k → Stop rest → one rest ≡ None → repeated_at one k acc h (us ++ rest) ≡ Some (acc ++ xs, max h (greatest_by height_of xs), rest)
repeated-all height_of P d one Stop whole begins filled xs us Repeated.ended low k acc h rest l s e = repeated-stop one k acc h rest e ∙ same-list acc h rest
repeated-all height_of P d one Stop whole begins filled zs us (Repeated.another {x} {xs} {ts} {us = ws} p q) low k acc h rest l s e =
    let n : 0 < length ts = filled x ts p in
    let same : length ((ts ++ ws) ++ rest) ≡ length ts + length (ws ++ rest) = simp (length-append) (omega arith) in
    let small : height_of x ≤ d = omega (arith, low) in
    let others : greatest_by height_of xs ≤ d = omega (arith, low) in
    let some_turn : 0 < k = omega (arith, l, same, n) in
    let fits : length (ws ++ rest) ≤ k - 1 = omega (arith, l, same, n) in
    let head = whole x ts p small (ws ++ rest) (follows P Stop begins xs ws q rest s) in
    let turn = repeated-turn one k acc h (ts ++ (ws ++ rest)) x (height_of x) (ws ++ rest) some_turn head in
    rw append_assoc (turn ∙ repeated-all height_of P d one Stop whole begins filled xs ws q others (k - 1) (acc ++ (x ∷ [])) (max h (height_of x)) rest fits s e ∙ longer-first acc xs x h (height_of x) (greatest_by height_of xs) rest)

pub whole-many : {A : Type 0} (height_of : A → ℕ) (P : A → List Token → Type 0) (d : ℕ) (one : Measured A) (Stop : List Token → Type 0) → Whole height_of P d one Stop → Begins P Stop → Filled P → (xs : List A) (us : List Token) → Repeated P xs us → greatest_by height_of xs ≤ d → (rest : List Token) → Stop rest → one rest ≡ None → many_at one (us ++ rest) ≡ Some (xs, greatest_by height_of xs, rest)
unfolding many_at
whole-many height_of P d one Stop whole begins filled xs us r low rest s e =
    let z : max 0 (greatest_by height_of xs) ≡ greatest_by height_of xs = omega arith in
    rw z at (repeated-all height_of P d one Stop whole begins filled xs us r low (length (us ++ rest)) [] 0 rest (omega arith) s e)

-- ---- lists with commas

abbrev pub AtComma : (List Token → Type 0) → Type 0
AtComma Stop = (c : Token) (ts : List Token) → IsMark (codes ",") c → Stop (c ∷ ts)

next-here : {A : Type 0} (one : Measured A) (c : Token) (ts : List Token) → IsMark (codes ",") c → next_at one (c ∷ ts) ≡ one ts
unfolding next_at
next-here one c ts m = rw (mark-here (codes ",") c ts m) refl

next-stop : {A : Type 0} (one : Measured A) (ts : List Token) → mark_at (codes ",") ts ≡ None → next_at one ts ≡ None
unfolding next_at
next-stop one ts e = rw e refl

-- the loop after a comma
commas-all : {A : Type 0} (height_of : A → ℕ) (P : A → List Token → Type 0) (d : ℕ) (one : Measured A) (Stop : List Token → Type 0) → Whole height_of P d one Stop → AtComma Stop → (xs : List A) (us : List Token) → Separated P xs us → greatest_by height_of xs ≤ d → (c : Token) → IsMark (codes ",") c → (k : ℕ) (acc : List A) (h : ℕ) (rest : List Token) → length us < k → Stop rest → mark_at (codes ",") rest ≡ None → repeated_at (next_at one) k acc h (c ∷ (us ++ rest)) ≡ Some (acc ++ xs, max h (greatest_by height_of xs), rest)
commas-all height_of P d one Stop whole comma zs us (Separated.last {x} {ts} p) low c m k acc h rest l s e =
    let small : height_of x ≤ d = omega (arith, low) in
    let some_turn : 0 < k = omega (arith, l) in
    let head = next-here one c (ts ++ rest) m ∙ whole x ts p small rest s in
    repeated-turn (next_at one) k acc h (c ∷ (ts ++ rest)) x (height_of x) rest some_turn head ∙ repeated-stop (next_at one) (k - 1) (acc ++ (x ∷ [])) (max h (height_of x)) rest (next-stop one rest e) ∙ (let z : max (height_of x) 0 ≡ height_of x = omega arith in rw z refl)
commas-all height_of P d one Stop whole comma zs us (Separated.next {x} {xs} n {ts} {us = ws} p o q) low c m k acc h rest l s e =
    let small : height_of x ≤ d = omega (arith, low) in
    let others : greatest_by height_of xs ≤ d = omega (arith, low) in
    let same : length (ts ++ (n ∷ ws)) ≡ length ts + suc (length ws) = simp (length-append) refl in
    let some_turn : 0 < k = omega (arith, l) in
    let fits : length ws < k - 1 = omega (arith, l, same) in
    let head = next-here one c (ts ++ (n ∷ (ws ++ rest))) m ∙ whole x ts p small (n ∷ (ws ++ rest)) (comma n (ws ++ rest) o) in
    let turn = repeated-turn (next_at one) k acc h (c ∷ (ts ++ (n ∷ (ws ++ rest)))) x (height_of x) (n ∷ (ws ++ rest)) some_turn head in
    rw append_assoc (turn ∙ commas-all height_of P d one Stop whole comma xs ws q others n o (k - 1) (acc ++ (x ∷ [])) (max h (height_of x)) rest fits s e ∙ longer-first acc xs x h (height_of x) (greatest_by height_of xs) rest)

pub whole-separated : {A : Type 0} (height_of : A → ℕ) (P : A → List Token → Type 0) (d : ℕ) (one : Measured A) (Stop : List Token → Type 0) → Whole height_of P d one Stop → AtComma Stop → (xs : List A) (us : List Token) → Separated P xs us → greatest_by height_of xs ≤ d → (rest : List Token) → Stop rest → mark_at (codes ",") rest ≡ None → separated_at one (us ++ rest) ≡ Some (xs, greatest_by height_of xs, rest)
unfolding separated_at
whole-separated height_of P d one Stop whole comma zs us (Separated.last {x} {ts} p) low rest s e =
    let small : height_of x ≤ d = omega (arith, low) in
    let z : max (height_of x) 0 ≡ height_of x = omega arith in
    rw (whole x ts p small rest s) (rw z (repeated-stop (next_at one) (length rest) (x ∷ []) (height_of x) rest (next-stop one rest e)))
whole-separated height_of P d one Stop whole comma zs us (Separated.next {x} {xs} n {ts} {us = ws} p o q) low rest s e =
    let small : height_of x ≤ d = omega (arith, low) in
    let others : greatest_by height_of xs ≤ d = omega (arith, low) in
    let fits : length ws < suc (length (ws ++ rest)) = simp (length-append) (omega arith) in
    let head = whole x ts p small (n ∷ (ws ++ rest)) (comma n (ws ++ rest) o) in
    rw append_assoc (rw head (commas-all height_of P d one Stop whole comma xs ws q others n o (suc (length (ws ++ rest))) (x ∷ []) (height_of x) rest fits s e))

-- ---- lists in parentheses

abbrev pub AtClose : (List Token → Type 0) → Type 0
AtClose Stop = (c : Token) (ts : List Token) → IsMark (codes ")") c → Stop (c ∷ ts)

abbrev pub NoneAtClose : {A : Type 0} → Measured A → Type 0
NoneAtClose one = (c : Token) (ts : List Token) → IsMark (codes ")") c → one (c ∷ ts) ≡ None

separated-none : {A : Type 0} (one : Measured A) (ts : List Token) → one ts ≡ None → separated_at one ts ≡ None
unfolding separated_at
separated-none one ts e = rw e refl

may_separated-all : {A : Type 0} (height_of : A → ℕ) (P : A → List Token → Type 0) (d : ℕ) (one : Measured A) (Stop : List Token → Type 0) → Whole height_of P d one Stop → AtComma Stop → AtClose Stop → NoneAtClose one → (xs : List A) (us : List Token) → MaySeparated P xs us → greatest_by height_of xs ≤ d → (c : Token) (rest : List Token) → IsMark (codes ")") c → may_separated_at one (us ++ (c ∷ rest)) ≡ Some (xs, greatest_by height_of xs, c ∷ rest)
unfolding may_separated_at
may_separated-all height_of P d one Stop whole comma close away xs us MaySeparated.none low c rest m = rw (separated-none one (c ∷ rest) (away c rest m)) refl
may_separated-all height_of P d one Stop whole comma close away xs us (MaySeparated.some q) low c rest m = rw (whole-separated height_of P d one Stop whole comma xs us q low (c ∷ rest) (close c rest m) (mark-not (codes ",") (kind.Mark (codes ")")) c rest m refl)) refl

pub whole-enclosed : {A : Type 0} (height_of : A → ℕ) (P : A → List Token → Type 0) (d : ℕ) (one : Measured A) (Stop : List Token → Type 0) → Whole height_of P d one Stop → AtComma Stop → AtClose Stop → NoneAtClose one → (xs : List A) (us : List Token) → Enclosed P xs us → greatest_by height_of xs ≤ d → (rest : List Token) → enclosed_at one (us ++ rest) ≡ Some (xs, greatest_by height_of xs, rest)
unfolding enclosed_at
whole-enclosed height_of P d one Stop whole comma close away xs us (Enclosed.between o c {ts} io ms ic) low rest =
    let read = may_separated-all height_of P d one Stop whole comma close away xs ts ms low c rest ic in
    rw append_assoc (rw (mark-here (codes "(") o (ts ++ (c ∷ rest)) io, read, mark-here (codes ")") c rest ic) refl)
