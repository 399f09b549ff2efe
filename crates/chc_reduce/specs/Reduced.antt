-- The formula that has to be refuted, so that a lemma is true at a rule's head, or a query is refuted, under lemmas.
-- It is one `And`, in this order: each variable of a type in its range, the lower bound first; with a lemma to show, the
-- opposite of each of its literals at the head; the constraints; and for each atom of the body, each lemma on its predicate,
-- as the `Or` of its literals at the atom. What is left out makes the formula say less: constraints but inequalities,
-- literals that speak of bound keys or mappings or leave 128 bits, and lemmas with bound keys.
use Rattle.std.specs.Prelude.{ℕ, suc, ◌==◌, List, [], ◌∷◌, ◌++◌, map, Option, Some, None, pos, neg_ℤ, if◌then◌else◌, slice_get}
use lib.IntN.{negsuc}
use Rattle.chc_nums.specs.declared.Ty.{Ty}
use Rattle.chc_nums.specs.Types.{least, greatest}
use Rattle.chc_form.specs.declared.linear.Lin.{Lin}
use Rattle.chc_form.specs.declared.formula.Formula.{Formula, Le, And, Or}
use Rattle.chc_form.specs.declared.system.Sort.{Sort}
use Rattle.chc_form.specs.declared.system.Sort.TheVariants as sort
use Rattle.chc_form.specs.declared.system.Con.{Con}
use Rattle.chc_form.specs.declared.system.Con.TheVariants as con
use Rattle.chc_form.specs.declared.system.App.{App}
use Rattle.chc_form.specs.declared.system.Rule.{Rule}
use Rattle.chc_form.specs.declared.system.Query.{Query}
use Rattle.chc_form.specs.declared.system.System.{System}
use Rattle.chc_form.specs.declared.system.Part.{Part}
use Rattle.chc_form.specs.declared.system.Part.TheVariants as part
use Rattle.chc_form.specs.declared.lemma.Lit.{Lit}
use Rattle.chc_form.specs.declared.lemma.Lemma.{Lemma}
use Rattle.chc_reduce.specs.Literals.{literal_sum, opposite_sum}

-- ---- ranges

-- least - x <= 0
abbrev pub lower : ℕ → Ty → Lin
lower x t = record { terms = (x, negsuc 0) ∷ []; konst = least t }

-- x - greatest <= 0
abbrev pub upper : ℕ → Ty → Lin
upper x t = record { terms = (x, pos 1) ∷ []; konst = neg_ℤ (greatest t) }

abbrev pub range_of : ℕ → Ty → Formula
range_of x t = And (Le (lower x t) ∷ Le (upper x t) ∷ [])

-- the ranges of variables, from number x on
abbrev pub ranges : ℕ → List Sort → List Formula
ranges x [] = []
ranges x (sort.Whole t ∷ ss) = range_of x t ∷ ranges (suc x) ss
ranges x (sort.Free ∷ ss) = ranges (suc x) ss
ranges x (sort.Map ks v ∷ ss) = ranges (suc x) ss

-- ---- literals

-- what is left out stands as the empty `And`, which is true
abbrev pub at_most : Option Lin → Formula
at_most None = And []
at_most (Some l) = Le l

-- a literal is false at the head
abbrev pub refuted : App → Lit → Formula
refuted head l = at_most (opposite_sum head l)

-- a literal is true at an atom
abbrev pub granted : App → Lit → Formula
granted a l = at_most (literal_sum a l)

abbrev pub goal_parts : App → Option Lemma → List Formula
goal_parts head None = []
goal_parts head (Some l) = map (refuted head) l.lits

-- ---- constraints

abbrev pub constraint : Con → Formula
constraint (con.Le l) = Le l
constraint (con.Differ l) = And []
constraint (con.Mul a b w) = And []
constraint (con.Div a b q) = And []
constraint (con.Rem a b r) = And []
constraint (con.Sel m ks x) = And []
constraint (con.Sto n m ks e) = And []
constraint (con.Zero m) = And []

-- ---- lemmas of the body's atoms

-- a lemma at an atom; one with bound keys is left out
abbrev pub instance_of : App → Lemma → List Ty → List Formula
instance_of a l [] = Or (map (granted a) l.lits) ∷ []
instance_of a l (k ∷ ks) = []

abbrev pub instances_at : App → List Lemma → List Formula
instances_at a [] = []
instances_at a (l ∷ ls) = (if l.pred == a.pred then instance_of a l l.keys else []) ++ instances_at a ls

abbrev pub instances : List App → List Lemma → List Formula
instances [] ls = []
instances (a ∷ more) ls = instances_at a ls ++ instances more ls

-- ---- the whole

-- under lemmas, a rule's head refutes a lemma
unfoldable pub reduced_rule : Rule → Option Lemma → List Lemma → Formula
reduced_rule r goal ls = And (ranges 0 r.vars ++ (goal_parts r.head goal ++ (map constraint r.cons ++ instances r.body ls)))

-- under lemmas, a query holds
unfoldable pub reduced_query : Query → List Lemma → Formula
reduced_query q ls = And (ranges 0 q.vars ++ (map constraint q.cons ++ instances q.body ls))

abbrev pub reduced_rule_at : Option Rule → Option Lemma → List Lemma → Formula
reduced_rule_at None goal ls = And []
reduced_rule_at (Some r) goal ls = reduced_rule r goal ls

abbrev pub reduced_query_at : Option Query → List Lemma → Formula
reduced_query_at None ls = And []
reduced_query_at (Some q) ls = reduced_query q ls

abbrev pub reduced : System → Part → Option Lemma → List Lemma → Formula
reduced s (part.Rule i) goal ls = reduced_rule_at (slice_get s.rules i) goal ls
reduced s (part.Query i) goal ls = reduced_query_at (slice_get s.queries i) ls
