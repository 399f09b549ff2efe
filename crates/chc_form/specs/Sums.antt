-- The sums that a constraint has.
use Rattle.std.specs.Prelude.{List, [], ◌∷◌}
use Rattle.chc_form.specs.declared.linear.Lin.{Lin}
use Rattle.chc_form.specs.declared.system.Con.{Con}
use Rattle.chc_form.specs.declared.system.Con.TheVariants as con

abbrev pub sums_of : Con → List Lin
sums_of (con.Le l) = l ∷ []
sums_of (con.Differ l) = l ∷ []
sums_of (con.Mul a b w) = a ∷ b ∷ []
sums_of (con.Div a b q) = a ∷ b ∷ []
sums_of (con.Rem a b r) = a ∷ b ∷ []
sums_of (con.Sel m ks x) = ks
sums_of (con.Sto n m ks e) = e ∷ ks
sums_of (con.Zero m) = []
