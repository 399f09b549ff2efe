-- The graph of bases has places of units alone.
use Rattle.std.proofs.Common.{◌≡◌, sym, refl, subst, ℕ, ◌+◌, ◌<◌, List, [], ◌∷◌, ◌++◌, map, reverse, length, Bool, true, false, cond, Option, Some, None, arith}
use Rattle.std.specs.List.{filter_map, cons_option, position_from}
use Rattle.std.proofs.lemmas.List.{reverse-append}
use Rattle.sol_tree.specs.declared.file.Unit as units
use Rattle.sol_tree.specs.declared.file.Base.{Base}
use Rattle.sol_names.specs.Units.{bases}
use Rattle.sol_names.specs.Tails.{Below, AllBelow}
use Rattle.sol_names.specs.Orders.{is_contract_of, contract_named, base_places, base_graph}

position-below : {A : Type 0} (test : A → Bool) (i : ℕ) (xs : List A) (k : ℕ) → position_from test i xs ≡ Some k → k < i + length xs
position-below test i [] k e = absurd (cc)
position-below {A} test i (x ∷ xs) k e = position-at (test x) e (position-below test (i + 1) xs k)
  where
    position-at : (b : Bool) → cond b (Some i) (position_from test (i + 1) xs) ≡ Some k → (position_from test (i + 1) xs ≡ Some k → k < (i + 1) + length xs) → k < i + length (x ∷ xs)
    position-at true f go = let same : i ≡ k = cc in omega arith
    position-at false f go = omega (arith, go f)

below-append : (n : ℕ) (xs ys : List ℕ) → Below n xs → Below n ys → Below n (xs ++ ys)
below-append n [] ys h k = k
below-append n (x ∷ xs) ys h k = (h.0, below-append n xs ys h.1 k)

below-reverse : (n : ℕ) (xs : List ℕ) → Below n xs → Below n (reverse xs)
below-reverse n [] h = tt
below-reverse n (x ∷ xs) h =
    let turned : reverse (x ∷ xs) ≡ reverse xs ++ x ∷ [] = reverse-append (x ∷ []) xs in
    subst (Below n) (sym turned) (below-append n (reverse xs) (x ∷ []) (below-reverse n xs h.1) (h.0, tt))

below-option : (n : ℕ) (o : Option ℕ) (xs : List ℕ) → ((k : ℕ) → o ≡ Some k → k < n) → Below n xs → Below n (cons_option o xs)
below-option n None xs h b = b
below-option n (Some k) xs h b = (h k refl, b)

named-below : (us : List units.Unit) (bs : List Base) → Below (length us) (filter_map (λ b. contract_named b.name.name us) bs)
named-below us [] = tt
named-below us (b ∷ bs) =
    below-option (length us) (contract_named b.name.name us) (filter_map (λ c. contract_named c.name.name us) bs)
    (λ k e. let h = position-below (is_contract_of b.name.name) 0 us k e in omega (arith, h))
    (named-below us bs)

each-below : (us vs : List units.Unit) → AllBelow (length us) (map (base_places us) vs)
each-below us [] = tt
each-below us (v ∷ vs) = (below-reverse (length us) _ (named-below us (bases v)), each-below us vs)

size : (us vs : List units.Unit) → length (map (base_places us) vs) ≡ length vs
size us [] = refl
size us (v ∷ vs) = omega (arith, size us vs)

pub graph-below : (us : List units.Unit) (g : List (List ℕ)) → g ≡ base_graph us → AllBelow (length g) g
graph-below us g e = subst (λ (h : List (List ℕ)). AllBelow (length h) h) (sym e) (subst (λ (n : ℕ). AllBelow n (base_graph us)) (sym (size us us)) (each-below us us))
