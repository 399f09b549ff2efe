-- The rows of the formula of a rule or query are in order.
use Rattle.std.proofs.Common.{◌≡◌, ◌≢◌, sym, subst, refl, ℕ, suc, List, [], ◌∷◌, ◌++◌, ◌==◌, Bool, true, false, map, Option, Some, None, slice_get, pos, arith, if◌then◌else◌}
use Rattle.std.specs.List.{Contains}
use Rattle.std.proofs.lemmas.Int.{ints}
use lib.IntN.{negsuc}
use Rattle.chc_nums.specs.declared.Ty.{Ty}
use Rattle.chc_form.specs.declared.linear.Lin.{Lin}
use Rattle.chc_form.specs.declared.formula.Formula.{Formula, Le, And, Or}
use Rattle.chc_form.specs.declared.system.Sort.{Sort}
use Rattle.chc_form.specs.declared.system.Sort.TheVariants as sort
use Rattle.chc_form.specs.declared.system.Con.{Con}
use Rattle.chc_form.specs.declared.system.Con.TheVariants as con
use Rattle.chc_form.specs.declared.system.App.{App}
use Rattle.chc_form.specs.declared.system.Rule.{Rule}
use Rattle.chc_form.specs.declared.system.Query.{Query}
use Rattle.chc_form.specs.declared.system.System.{System}
use Rattle.chc_form.specs.declared.system.Part.{Part}
use Rattle.chc_form.specs.declared.system.Part.TheVariants as part
use Rattle.chc_form.specs.declared.lemma.Lit.{Lit}
use Rattle.chc_form.specs.declared.lemma.Lemma.{Lemma}
use Rattle.chc_form.specs.Linear.{Ascend, AllAscend}
use Rattle.chc_form.specs.Sums.{sums_of}
use Rattle.chc_form.specs.WellMade.{well_made}
use Rattle.chc_form.proofs.Orders.{rule-ascends, query-ascends}
use Rattle.chc_form.proofs.Entries.{got-contained, contains-first, contains-later}
use Rattle.chc_reduce.specs.Literals.{literal_sum, opposite_sum}
use Rattle.chc_reduce.specs.Reduced.{lower, upper, ranges, at_most, refuted, granted, goal_parts, constraint, instance_of, instances_at, instances, reduced_rule, reduced_query, reduced_rule_at, reduced_query_at, reduced}
use Rattle.chc_reduce.specs.Rows.{joined, only, rows_of}
use Rattle.chc_reduce.proofs.Shapes.{rows_of-Le, rows_of-And, rows_of-Or}
use Rattle.chc_reduce.proofs.Sums.{literal-ascends, opposite-sum-ascends}

-- the rows of each formula are in order
abbrev pub AllOrdered : List Formula → Type 0
AllOrdered [] = Unit {0}
AllOrdered (f ∷ fs) = AllAscend (rows_of f) × AllOrdered fs

pub ascend-append : (ks ls : List Lin) → AllAscend ks → AllAscend ls → AllAscend (ks ++ ls)
ascend-append [] ls h k = k
ascend-append (l ∷ ks) ls h k = (h.0, ascend-append ks ls h.1 k)

pub ordered-append : (fs gs : List Formula) → AllOrdered fs → AllOrdered gs → AllOrdered (fs ++ gs)
ordered-append [] gs h k = k
ordered-append (f ∷ fs) gs h k = (h.0, ordered-append fs gs h.1 k)

joined-ordered : (fs : List Formula) → AllOrdered fs → AllAscend (joined (map rows_of fs))
joined-ordered [] h = tt
joined-ordered (f ∷ fs) h = ascend-append (rows_of f) (joined (map rows_of fs)) h.0 (joined-ordered fs h.1)

pub and-ordered : (fs : List Formula) → AllOrdered fs → AllAscend (rows_of (And fs))
and-ordered fs h = subst AllAscend (sym (rows_of-And fs)) (joined-ordered fs h)

le-ordered : (l : Lin) → Ascend l.terms → AllAscend (rows_of (Le l))
le-ordered l h = subst AllAscend (sym (rows_of-Le l)) (h, tt)

only-ordered : (fs : List Formula) → AllOrdered fs → AllAscend (only (map rows_of fs) [] (λ r. r))
only-ordered [] h = tt
only-ordered (f ∷ []) h = h.0
only-ordered (f ∷ g ∷ more) h = tt

or-ordered : (fs : List Formula) → AllOrdered fs → AllAscend (rows_of (Or fs))
or-ordered fs h = subst AllAscend (sym (rows_of-Or fs)) (only-ordered fs h)

one-not_zero : pos 1 ≢ pos 0
one-not_zero e = absurd (omega (arith, ints, e))

minus-not_zero : negsuc 0 ≢ pos 0
minus-not_zero e = absurd (omega (arith, ints, e))

pub ranges-ordered : (x : ℕ) (ss : List Sort) → AllOrdered (ranges x ss)
ranges-ordered x [] = tt
ranges-ordered x (sort.Whole t ∷ ss) = (and-ordered (Le (lower x t) ∷ Le (upper x t) ∷ []) (le-ordered (lower x t) (minus-not_zero, tt), (le-ordered (upper x t) (one-not_zero, tt), tt)), ranges-ordered (suc x) ss)
ranges-ordered x (sort.Free ∷ ss) = ranges-ordered (suc x) ss
ranges-ordered x (sort.Map ks v ∷ ss) = ranges-ordered (suc x) ss

at_most-ordered : (p : App) (l : Lit) (o : Option Lin) → literal_sum p l ≡ o → AllAscend (rows_of (at_most o))
at_most-ordered p l None e = and-ordered [] tt
at_most-ordered p l (Some s) e = le-ordered s (literal-ascends p l s e)

refuted-by : (p : App) (l : Lit) (o : Option Lin) → opposite_sum p l ≡ o → AllAscend (rows_of (at_most o))
refuted-by p l None e = and-ordered [] tt
refuted-by p l (Some s) e = le-ordered s (opposite-sum-ascends p l s e)

pub refuted-ordered : (p : App) (ls : List Lit) → AllOrdered (map (refuted p) ls)
refuted-ordered p [] = tt
refuted-ordered p (l ∷ ls) = (refuted-by p l (opposite_sum p l) refl, refuted-ordered p ls)

granted-ordered : (p : App) (ls : List Lit) → AllOrdered (map (granted p) ls)
granted-ordered p [] = tt
granted-ordered p (l ∷ ls) = (at_most-ordered p l (literal_sum p l) refl, granted-ordered p ls)

goal-ordered : (p : App) (goal : Option Lemma) → AllOrdered (goal_parts p goal)
goal-ordered p None = tt
goal-ordered p (Some l) = refuted-ordered p l.lits

constraint-ordered : (c : Con) → AllAscend (sums_of c) → AllAscend (rows_of (constraint c))
constraint-ordered (con.Le l) h = le-ordered l h.0
constraint-ordered (con.Differ l) h = and-ordered [] tt
constraint-ordered (con.Mul a b w) h = and-ordered [] tt
constraint-ordered (con.Div a b q) h = and-ordered [] tt
constraint-ordered (con.Rem a b r) h = and-ordered [] tt
constraint-ordered (con.Sel m ks x) h = and-ordered [] tt
constraint-ordered (con.Sto n m ks e) h = and-ordered [] tt
constraint-ordered (con.Zero m) h = and-ordered [] tt

pub constraints-ordered : (cs : List Con) → ((c : Con) → Contains cs c → AllAscend (sums_of c)) → AllOrdered (map constraint cs)
constraints-ordered [] h = tt
constraints-ordered (c ∷ cs) h = (constraint-ordered c (h c (contains-first c cs)), constraints-ordered cs (λ d i. h d (contains-later c d cs i)))

instance-ordered : (p : App) (l : Lemma) (keys : List Ty) → AllOrdered (instance_of p l keys)
instance-ordered p l [] = (or-ordered (map (granted p) l.lits) (granted-ordered p l.lits), tt)
instance-ordered p l (k ∷ ks) = tt

either-ordered : (b : Bool) (fs : List Formula) → AllOrdered fs → AllOrdered (if b then fs else [])
either-ordered true fs h = h
either-ordered false fs h = tt

instances_at-ordered : (p : App) (ls : List Lemma) → AllOrdered (instances_at p ls)
instances_at-ordered p [] = tt
instances_at-ordered p (l ∷ ls) =
    ordered-append (if l.pred == p.pred then instance_of p l l.keys else []) (instances_at p ls) (either-ordered (l.pred == p.pred) (instance_of p l l.keys) (instance-ordered p l l.keys)) (instances_at-ordered p ls)

pub instances-ordered : (body : List App) (ls : List Lemma) → AllOrdered (instances body ls)
instances-ordered [] ls = tt
instances-ordered (p ∷ body) ls = ordered-append (instances_at p ls) (instances body ls) (instances_at-ordered p ls) (instances-ordered body ls)

rule-ordered : (r : Rule) (goal : Option Lemma) (ls : List Lemma) → ((c : Con) → Contains r.cons c → AllAscend (sums_of c)) → AllAscend (rows_of (reduced_rule r goal ls))
unfolding reduced_rule
rule-ordered r goal ls h =
    and-ordered (ranges 0 r.vars ++ (goal_parts r.head goal ++ (map constraint r.cons ++ instances r.body ls)))
    (ordered-append (ranges 0 r.vars) _ (ranges-ordered 0 r.vars) (ordered-append (goal_parts r.head goal) _ (goal-ordered r.head goal) (ordered-append (map constraint r.cons) (instances r.body ls) (constraints-ordered r.cons h) (instances-ordered r.body ls))))

query-ordered : (q : Query) (ls : List Lemma) → ((c : Con) → Contains q.cons c → AllAscend (sums_of c)) → AllAscend (rows_of (reduced_query q ls))
unfolding reduced_query
query-ordered q ls h =
    and-ordered (ranges 0 q.vars ++ (map constraint q.cons ++ instances q.body ls))
    (ordered-append (ranges 0 q.vars) _ (ranges-ordered 0 q.vars) (ordered-append (map constraint q.cons) (instances q.body ls) (constraints-ordered q.cons h) (instances-ordered q.body ls)))

rule-at-ordered : (s : System) (i : ℕ) (o : Option Rule) (goal : Option Lemma) (ls : List Lemma) → well_made s ≡ true → slice_get s.rules i ≡ o → AllAscend (rows_of (reduced_rule_at o goal ls))
rule-at-ordered s i None goal ls w e = and-ordered [] tt
rule-at-ordered s i (Some r) goal ls w e = rule-ordered r goal ls (λ c j. rule-ascends s r c w (got-contained s.rules i r e) j)

query-at-ordered : (s : System) (i : ℕ) (o : Option Query) (ls : List Lemma) → well_made s ≡ true → slice_get s.queries i ≡ o → AllAscend (rows_of (reduced_query_at o ls))
query-at-ordered s i None ls w e = and-ordered [] tt
query-at-ordered s i (Some q) ls w e = query-ordered q ls (λ c j. query-ascends s q c w (got-contained s.queries i q e) j)

pub reduced-ordered : (s : System) (p : Part) (goal : Option Lemma) (ls : List Lemma) → well_made s ≡ true → AllAscend (rows_of (reduced s p goal ls))
reduced-ordered s (part.Rule i) goal ls w = rule-at-ordered s i (slice_get s.rules i) goal ls w refl
reduced-ordered s (part.Query i) goal ls w = query-at-ordered s i (slice_get s.queries i) ls w refl

-- a goal's own rows
pub goal-rows-ordered : (p : App) (goal : Lemma) → AllAscend (rows_of (And (map (refuted p) goal.lits)))
goal-rows-ordered p goal = and-ordered (map (refuted p) goal.lits) (refuted-ordered p goal.lits)

pub ruleset orders = (reduced-ordered)
