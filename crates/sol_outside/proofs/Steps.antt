-- Parts of bytes in memory, read.
use Rattle.std.proofs.Common.{◌≡◌, ◌∙◌, sym, ap, refl, ℕ, ◌+◌, ◌-◌, ◌<◌, ◌≤◌, List, [], ◌++◌, length, take, drop, length-drop, take-append-drop, inl, inr, arith}
use Rattle.std.proofs.lemmas.List.{drop-drop, take_rest, drop_all}
use Rattle.std.proofs.lemmas.Bool.{cases_lt}

-- what is left after some of it was read
given-left : (bytes part : List ℕ) (at n : ℕ) → take n part ≡ take n (drop at bytes) → drop at bytes ≡ take n part ++ drop (at + n) bytes
given-left bytes part at n e = sym (take-append-drop n (drop at bytes)) ∙ ap (λ (xs : List ℕ). xs ++ drop n (drop at bytes)) (sym e) ∙ ap (λ (xs : List ℕ). take n part ++ xs) (drop-drop n at bytes)

-- a read that gave nothing had nothing to give
given-nothing : (bytes : List ℕ) (at n room : ℕ) → (0 < length (drop at bytes) → 0 < room → 0 < n) → n ≡ 0 → 0 < room → drop (at + n) bytes ≡ []
given-nothing bytes at n room some none more =
    elim (cases_lt 0 (length (drop at bytes))) [
      | inl h ↦ absurd (omega (arith, some h more, none))
      | inr h ↦ drop_all (at + n) bytes (omega (arith, length-drop at bytes, h, none))
    ]

pub read-step : (before : ℕ) (bytes part : List ℕ) (at n room : ℕ) → take n part ≡ take n (take (length bytes - at) (drop at bytes)) → (0 < length (take (length bytes - at) (drop at bytes)) → 0 < room → 0 < n) → n ≤ length part → (before ≡ before) × (n ≤ length part) × (drop at bytes ≡ take n part ++ drop (at + n) bytes) × (n ≡ 0 → 0 < room → drop (at + n) bytes ≡ [])
read-step before bytes part at n room same some within =
    let rest : take (length bytes - at) (drop at bytes) ≡ drop at bytes = take_rest bytes at in
    let same' : take n part ≡ take n (drop at bytes) = rw rest at same in
    let some' : 0 < length (drop at bytes) → 0 < room → 0 < n = rw rest at some in
    (refl, within, given-left bytes part at n same', given-nothing bytes at n room some')
