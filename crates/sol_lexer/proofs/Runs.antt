-- Runs of bytes of a class, and tests on bytes.
use Rattle.std.proofs.Common.{◌≡◌, ℕ, ◌+◌, Bool, true, false, List, [], ◌∷◌, ◌++◌, length, refl, ap, arith}
use Rattle.sol_lexer.specs.Bytes.{Each, begins}
use Rattle.sol_lexer.specs.Reading.{run}

-- a text in two parts, where the first is the longest run
abbrev pub Parts : (ℕ → Bool) → List ℕ → Type 0
Parts class t = (s : List ℕ) × (rest : List ℕ) × (t ≡ s ++ rest) × (run class t ≡ length s) × Each class s × (begins class rest ≡ false)

parts-more : (class : ℕ → Bool) (b : ℕ) (bs : List ℕ) (c : Bool) → class b ≡ c → Parts class bs → Parts class (b ∷ bs)
parts-more class b bs true h p =
    let long : run class bs + 1 ≡ length (b ∷ p.0) = omega (arith, p.3) in
    (b ∷ p.0, p.1, ap (λ (xs : List ℕ). b ∷ xs) p.2, rw h long, (h, p.4), p.5)
parts-more class b bs false h p = ([], b ∷ bs, refl, rw h refl, tt, h)

pub parts : (class : ℕ → Bool) (t : List ℕ) → Parts class t
parts class [] = ([], [], refl, refl, tt, refl)
parts class (b ∷ bs) = parts-more class b bs (class b) refl (parts class bs)

run-none : (class : ℕ → Bool) (rest : List ℕ) → begins class rest ≡ false → run class rest ≡ 0
run-none class [] h = refl
run-none class (b ∷ bs) h = rw h refl

-- the run of a text in two parts
pub run-is : (class : ℕ → Bool) (s rest : List ℕ) → Each class s → begins class rest ≡ false → run class (s ++ rest) ≡ length s
run-is class [] rest e h = run-none class rest h
run-is class (b ∷ s) rest e h =
    let i : run class (s ++ rest) ≡ length s = run-is class s rest e.1 h in
    let long : run class (s ++ rest) + 1 ≡ length (b ∷ s) = omega (arith, i) in
    rw e.0 long
