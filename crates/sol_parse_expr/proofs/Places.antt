-- Where a place in a list of tokens may be.
use Rattle.std.proofs.Common.{◌≡◌, refl, ap, ℕ, zero, suc, ◌<◌, List, [], ◌∷◌, length, get_or, inl, inr, arith}
use Rattle.sol_tree.specs.declared.token.Token.{Token}
use Rattle.sol_parse_expr.specs.Place.{IsPlace, end_of}

pub place_got : (ts : List Token) (at : ℕ) (t : Token) → at < length ts → t ≡ get_or ts at t → IsPlace t.at ts
place_got [] at t l e = absurd (omega (arith, l))
place_got (x ∷ []) zero t l e = inl (ap (λ (y : Token). y.at) e)
place_got (x ∷ []) (suc n) t l e = absurd (omega (arith, l))
place_got (x ∷ (y ∷ ys)) zero t l e = inl (ap (λ (z : Token). z.at) e)
place_got (x ∷ (y ∷ ys)) (suc n) t l e = inr (place_got (y ∷ ys) n t (omega (arith, l)) e)

pub place_last : (ts : List Token) (n : ℕ) (t : Token) → length ts ≡ suc n → t ≡ get_or ts n t → IsPlace (end_of t) ts
place_last [] n t l e = absurd (omega (arith, l))
place_last (x ∷ []) zero t l e = inr (ap end_of e)
place_last (x ∷ []) (suc n) t l e = absurd (omega (arith, l))
place_last (x ∷ (y ∷ ys)) zero t l e = absurd (omega (arith, l))
place_last (x ∷ (y ∷ ys)) (suc n) t l e = inr (place_last (y ∷ ys) n t (omega (arith, l)) e)

pub place_none : (ts : List Token) → length ts ≡ 0 → IsPlace 0 ts
place_none [] e = refl
place_none (x ∷ xs) e = absurd (omega (arith, e))
