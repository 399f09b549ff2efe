-- A rule under lemmas with a place for a goal: what its formula is around each goal.
use Rattle.std.specs.Prelude.{◌≡◌, ℕ, List, ◌++◌, map, Some}
use Rattle.chc_form.specs.declared.formula.Formula.{Formula, And}
use Rattle.chc_form.specs.declared.system.App.{App}
use Rattle.chc_form.specs.declared.system.Rule.{Rule}
use Rattle.chc_form.specs.declared.system.System.{System}
use Rattle.chc_form.specs.declared.system.Part.TheVariants as part
use Rattle.chc_form.specs.declared.lemma.Lemma.{Lemma}
use Rattle.chc_form.specs.Linear.{AllAscend, lins}
use Rattle.chc_reduce.specs.Reduced.{ranges, refuted, constraint, instances, reduced}
use Rattle.chc_reduce.specs.Rows.{rows_of, is_plain, branch_of}
use Rattle.chc_reduce.specs.declared.premises.Premises.{Premises}

-- a goal is false at a head
abbrev pub goal_part : App → Lemma → Formula
goal_part head goal = And (map (refuted head) goal.lits)

-- the parts beside the goal
abbrev pub ranges_part : Rule → Formula
ranges_part r = And (ranges 0 r.vars)

abbrev pub premises_part : Rule → List Lemma → Formula
premises_part r ls = And (map constraint r.cons ++ instances r.body ls)

-- the two parts beside the goal, as rows
pub record AreMadeOf (r : Rule) (ls : List Lemma) (g : Premises) : Type 0 where
  pub head : g.head ≡ r.head
  pub before : lins g.before ≡ rows_of (ranges_part r)
  pub after : lins g.after ≡ rows_of (premises_part r ls)
  pub branch : g.branch ≡ branch_of (premises_part r ls)
  pub plain : g.plain ≡ is_plain (premises_part r ls)

-- whatever the goal, the formula's rows are those before the goal's, the goal's and those after them, and its choices don't
-- come from the goal
pub record ArePremises (s : System) (i : ℕ) (ls : List Lemma) (g : Premises) : Type 0 where
  pub rows : (goal : Lemma) → rows_of (reduced s (part.Rule i) (Some goal) ls) ≡ lins g.before ++ (rows_of (goal_part g.head goal) ++ lins g.after)
  pub branch : (goal : Lemma) → branch_of (reduced s (part.Rule i) (Some goal) ls) ≡ g.branch
  pub plain : (goal : Lemma) → is_plain (reduced s (part.Rule i) (Some goal) ls) ≡ g.plain

-- the rows are in order
pub record InOrder (g : Premises) : Type 0 where
  pub before : AllAscend (lins g.before)
  pub after : AllAscend (lins g.after)
