-- Words of the grammar, which are neither names nor elementary types.
use Rattle.std.proofs.Common.{◌≡◌, refl, ℕ, List, [], ◌∷◌, Bool, true, false, ◌||◌, not, Option, Some, None, codes}
use Rattle.std.specs.Prelude.{◌&&◌}
use Rattle.std.specs.Str.{bytes_eq}
use Rattle.std.proofs.lemmas.Slice.Eq.{bytes_eq-Decides}
use Rattle.sol_tree.specs.Refused.{is_one_of}
use Rattle.sol_tree.specs.Words.{elementary_type, number_unit, is_none, is_name, grammar_words}

-- ---- tests of all texts of a list

abbrev pub every : (List ℕ → Bool) → List (List ℕ) → Bool
every p [] = true
every p (w ∷ ws) = p w && every p ws

both : (a b : Bool) → (a && b) ≡ true → (a ≡ true) × (b ≡ true)
both true b h = (refl, h)
both false b h = absurd (cc)

pub not-true : (a : Bool) → not a ≡ true → a ≡ false
not-true true h = absurd (cc)
not-true false h = refl

no-some : {A : Type 0} (o : Option A) → is_none o ≡ true → o ≡ None
no-some None h = refl
no-some (Some x) h = absurd (cc)

here-or : (p : List ℕ → Bool) (w v : List ℕ) (b c : Bool) → bytes_eq w v ≡ b → p v ≡ true → (c ≡ true → p w ≡ true) → (b || c) ≡ true → p w ≡ true
here-or p w v true c e h k i = rw ((bytes_eq-Decides w v).0 e) h
here-or p w v false c e h k i = k i

-- what passes for all passes for each
pub listed : (p : List ℕ → Bool) (w : List ℕ) (ws : List (List ℕ)) → every p ws ≡ true → is_one_of w ws ≡ true → p w ≡ true
listed p w [] h i = absurd (cc)
listed p w (v ∷ vs) h i = let x = both (p v) (every p vs) h in here-or p w v (bytes_eq w v) (is_one_of w vs) refl x.0 (λ j. listed p w vs x.1 j) i

-- ---- the words

abbrev pub keywords : List (List ℕ)
keywords = codes "public" ∷ codes "internal" ∷ codes "private" ∷ codes "constant" ∷ codes "immutable" ∷ codes "override" ∷ codes "external" ∷ codes "view" ∷ codes "pure" ∷ codes "virtual" ∷ codes "function" ∷ codes "returns" ∷ codes "constructor" ∷ codes "modifier" ∷ codes "event" ∷ codes "anonymous" ∷ codes "indexed" ∷ codes "is" ∷ codes "mapping" ∷ codes "true" ∷ codes "false" ∷ codes "type" ∷ codes "msg" ∷ codes "super" ∷ codes "delete" ∷ codes "else" ∷ []

abbrev is_keyword : List ℕ → Bool
is_keyword w = not (is_name w) && is_none (elementary_type w)

every-keyword : every is_keyword keywords ≡ true
unfolding is_name grammar_words elementary_type number_unit
every-keyword = refl

pub record Keyword (w : List ℕ) : Type 0 where
  pub no_name : is_name w ≡ false
  pub no_type : elementary_type w ≡ None

pub keyword : (w : List ℕ) → is_one_of w keywords ≡ true → Keyword w
keyword w h =
    let x = both (not (is_name w)) (is_none (elementary_type w)) (listed is_keyword w keywords every-keyword h) in
    record { no_name = not-true (is_name w) x.0; no_type = no-some (elementary_type w) x.1 }
