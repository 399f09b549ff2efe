-- The numbers that a system compares a variable with, by their distance from 0. Numbers are exact.
use Rattle.std.specs.Prelude.{◌≡◌, true, List, [], ◌∷◌, ◌++◌, take, pos, ◌+ℤ◌, ◌-ℤ◌, neg_ℤ, unsigned_abs, Bool, not, ◌&&◌, ◌||◌, ◌==◌, nat_lt, if◌then◌else◌, ℕ}
use Rattle.std.specs.List.{flat_map}
use Rattle.std.specs.Ordering.{int_eq}
use lib.IntN.{ℤ, negsuc}
use lib.Signed.{lt_z}
use Rattle.chc_form.specs.declared.system.Con.{Con}
use Rattle.chc_form.specs.declared.system.Con.TheVariants as con
use Rattle.chc_form.specs.declared.system.System.{System}

-- ---- the numbers of a constraint

-- x + c is at most 0 where x is at most v: v and v + 1
abbrev pub upper : ℤ → List ℤ
upper c = neg_ℤ c ∷ (neg_ℤ c +ℤ pos 1) ∷ []

-- - x + c is at most 0 where x is at least v: v and v - 1
abbrev pub lower : ℤ → List ℤ
lower c = c ∷ (c -ℤ pos 1) ∷ []

abbrev pub bound : ℤ → ℤ → List ℤ
bound a c = if int_eq a (pos 1) then upper c else (if int_eq a (negsuc 0) then lower c else [])

-- of one variable with coefficient 1 or -1, and none of others
abbrev pub bounds : List (ℕ × ℤ) → ℤ → List ℤ
bounds [] c = []
bounds (t ∷ []) c = bound t.1 c
bounds (t ∷ u ∷ ts) c = []

-- x + c or - x + c is not 0 where x is not v: v
abbrev pub hole : ℤ → ℤ → List ℤ
hole a c = if int_eq a (pos 1) then neg_ℤ c ∷ [] else (if int_eq a (negsuc 0) then c ∷ [] else [])

abbrev pub holes : List (ℕ × ℤ) → ℤ → List ℤ
holes [] c = []
holes (t ∷ []) c = hole t.1 c
holes (t ∷ u ∷ ts) c = []

abbrev pub con_constants : Con → List ℤ
con_constants (con.Le l) = bounds l.terms l.konst
con_constants (con.Differ l) = holes l.terms l.konst
con_constants (con.Mul a b w) = []
con_constants (con.Div a b q) = []
con_constants (con.Rem a b r) = []
con_constants (con.Sel m ks x) = []
con_constants (con.Sto n m ks e) = []
con_constants (con.Zero m) = []

-- of the rules, and then of the queries
abbrev pub constants_in : System → List ℤ
constants_in s = flat_map (λ r. flat_map con_constants r.cons) s.rules ++ flat_map (λ q. flat_map con_constants q.cons) s.queries

-- ---- their order

-- nearer to 0, or as near and not negative where the other is
abbrev pub is_before : ℤ → ℤ → Bool
is_before x y = nat_lt (unsigned_abs x) (unsigned_abs y) || ((unsigned_abs x == unsigned_abs y) && (not (lt_z x (pos 0)) && lt_z y (pos 0)))

-- numbers in order with one more where it belongs, unless it is there
abbrev pub placed : ℤ → List ℤ → List ℤ
placed x [] = x ∷ []
placed x (y ∷ ys) = if is_before x y then x ∷ y ∷ ys else (if int_eq x y then y ∷ ys else y ∷ placed x ys)

-- numbers in order with all of some numbers
unfoldable pub placed_all : List ℤ → List ℤ → List ℤ
placed_all ys [] = ys
placed_all ys (x ∷ xs) = placed_all (placed x ys) xs

-- distinct numbers in order
abbrev pub ordered : List ℤ → List ℤ
ordered xs = placed_all [] xs

-- 0, 1 and the numbers of the constraints: the first sixteen in order
abbrev pub constants_of : System → List ℤ
constants_of s = take 16 (ordered (pos 0 ∷ pos 1 ∷ constants_in s))

-- ---- what the order is

-- a number is before each of some numbers
abbrev pub BeforeAll : ℤ → List ℤ → Type 0
BeforeAll x [] = Unit {0}
BeforeAll x (y ∷ ys) = (is_before x y ≡ true) × BeforeAll x ys

-- each number is before all that follow it
abbrev pub InOrder : List ℤ → Type 0
InOrder [] = Unit {0}
InOrder (x ∷ xs) = BeforeAll x xs × InOrder xs
