-- The answers of `order` exclude each other.
use Rattle.std.proofs.Common.{◌≡◌, ◌∙◌, sym, ap, refl, subst, ℕ, zero, suc, ◌≤◌, min, List, [], ◌∷◌, true, false, Option, Some, None, Ok, Err, arith, ◌⊎◌, inl, inr}
use Rattle.std.specs.List.{Contains}
use Rattle.std.proofs.lemmas.Bool.{cases_lt}
use Rattle.sol_tree.specs.declared.file.Unit as units
use Rattle.sol_names.specs.declared.lineage.Lineage.{Lineage}
use Rattle.sol_names.specs.declared.fault.NameFault.{NameFault}
use Rattle.sol_names.specs.declared.fault.NameFault.TheVariants as fault
use Rattle.sol_names.specs.Linearization.{Linearizes}
use Rattle.sol_names.specs.Least.{lesser, least_from, least_in}
use Rattle.sol_names.specs.Orders.{base_graph, is_abstract, name_place, IsReady, Orders}
use Rattle.sol_names.proofs.Ordering.{linear-unique}

pub order-unique : (g : List (List ℕ)) (u : ℕ) (o p : List ℕ) → Linearizes g u o → Linearizes g u p → o ≡ p
order-unique g u o p l m = linear-unique l m

one-unit : (us : List units.Unit) (name : Option (List ℕ)) (u v : ℕ) → IsReady us name u → IsReady us name v → u ≡ v
one-unit us name u v r s = let a : Some u ≡ Some v = sym r.choice ∙ s.choice in cc

same-order : (us : List units.Unit) (name : Option (List ℕ)) (u v : ℕ) (o p : List ℕ) → IsReady us name u → IsReady us name v → Linearizes (base_graph us) u o → Linearizes (base_graph us) v p → o ≡ p
same-order us name u v o p r s l m = linear-unique l (subst (λ (w : ℕ). Linearizes (base_graph us) w p) (one-unit us name v u s r) m)

pub one-lineage : (us : List units.Unit) (name : Option (List ℕ)) (l m : Lineage) → Orders us name (Ok l) → Orders us name (Ok m) → l ≡ m
one-lineage us name l m (u, r, o, a) (v, s, p, b) = ap (λ (us : List ℕ). record { units = us }) (same-order us name u v l.units m.units r s o p)

deployed : (us : List units.Unit) (u v : ℕ) (o p : List ℕ) → u ≡ v → o ≡ p → is_abstract us u o ≡ false → is_abstract us v p ≡ true → ⊥
deployed us u v o p e f a b = let c : is_abstract us v p ≡ false = subst (λ (w : ℕ). is_abstract us w p ≡ false) e (subst (λ (q : List ℕ). is_abstract us u q ≡ false) f a) in absurd (cc)

pub lineage-or-fault : (us : List units.Unit) (name : Option (List ℕ)) (l : Lineage) (e : NameFault) → Orders us name (Ok l) → Orders us name (Err e) → e ≡ fault.NoMemory
lineage-or-fault us name l (fault.TwiceNamed at) (u, r, o, a) e = let f : None ≡ Some at = sym r.once ∙ e in absurd (cc)
lineage-or-fault us name l fault.NoContract (u, r, o, a) (e, f) = let g : Some u ≡ None = sym r.choice ∙ f in absurd (cc)
lineage-or-fault us name l (fault.UnknownBase at) (u, r, o, a) (v, e, f, g) = let h : None ≡ Some at = sym r.known ∙ g in absurd (cc)
lineage-or-fault us name l (fault.NoOrder at) (u, r, o, a) (v, s, n, e) = absurd (n l.units (subst (λ (w : ℕ). Linearizes (base_graph us) w l.units) (one-unit us name u v r s) o))
lineage-or-fault us name l (fault.Abstract at) (u, r, o, a) (v, p, s, m, b, e) = absurd (deployed us u v l.units p (one-unit us name u v r s) (same-order us name u v l.units p r s o m) a b)
lineage-or-fault us name l fault.NoMemory h e = refl

abbrev Same : NameFault → NameFault → Type 0
Same d e = (d ≡ e) ⊎ ((d ≡ fault.NoMemory) ⊎ (e ≡ fault.NoMemory))

pub one-fault : (us : List units.Unit) (name : Option (List ℕ)) (d e : NameFault) → Orders us name (Err d) → Orders us name (Err e) → Same d e
one-fault us name (fault.TwiceNamed a) (fault.TwiceNamed b) e1 e2 = let s : Some a ≡ Some b = sym e1 ∙ e2 in let same : a ≡ b = cc in inl (ap fault.TwiceNamed same)
one-fault us name (fault.TwiceNamed a) fault.NoContract e1 (e2, f2) = let s : Some a ≡ None = sym e1 ∙ e2 in absurd (cc)
one-fault us name (fault.TwiceNamed a) (fault.UnknownBase b) e1 (u2, e2, f2, g2) = let s : Some a ≡ None = sym e1 ∙ e2 in absurd (cc)
one-fault us name (fault.TwiceNamed a) (fault.NoOrder b) e1 (u2, r2, n2, p2) = let s : Some a ≡ None = sym e1 ∙ r2.once in absurd (cc)
one-fault us name (fault.TwiceNamed a) (fault.Abstract b) e1 (u2, o2, r2, l2, b2, p2) = let s : Some a ≡ None = sym e1 ∙ r2.once in absurd (cc)
one-fault us name (fault.TwiceNamed a) fault.NoMemory e1 h2 = inr (inr refl)
one-fault us name fault.NoContract (fault.TwiceNamed b) (e1, f1) e2 = let s : Some b ≡ None = sym e2 ∙ e1 in absurd (cc)
one-fault us name fault.NoContract fault.NoContract (e1, f1) (e2, f2) = inl refl
one-fault us name fault.NoContract (fault.UnknownBase b) (e1, f1) (u2, e2, f2, g2) = let s : None ≡ Some u2 = sym f1 ∙ f2 in absurd (cc)
one-fault us name fault.NoContract (fault.NoOrder b) (e1, f1) (u2, r2, n2, p2) = let s : None ≡ Some u2 = sym f1 ∙ r2.choice in absurd (cc)
one-fault us name fault.NoContract (fault.Abstract b) (e1, f1) (u2, o2, r2, l2, b2, p2) = let s : None ≡ Some u2 = sym f1 ∙ r2.choice in absurd (cc)
one-fault us name fault.NoContract fault.NoMemory (e1, f1) h2 = inr (inr refl)
one-fault us name (fault.UnknownBase a) (fault.TwiceNamed b) (u1, e1, f1, g1) e2 = let s : Some b ≡ None = sym e2 ∙ e1 in absurd (cc)
one-fault us name (fault.UnknownBase a) fault.NoContract (u1, e1, f1, g1) (e2, f2) = let s : None ≡ Some u1 = sym f2 ∙ f1 in absurd (cc)
one-fault us name (fault.UnknownBase a) (fault.UnknownBase b) (u1, e1, f1, g1) (u2, e2, f2, g2) = let s : Some a ≡ Some b = sym g1 ∙ g2 in let same : a ≡ b = cc in inl (ap fault.UnknownBase same)
one-fault us name (fault.UnknownBase a) (fault.NoOrder b) (u1, e1, f1, g1) (u2, r2, n2, p2) = let s : Some a ≡ None = sym g1 ∙ r2.known in absurd (cc)
one-fault us name (fault.UnknownBase a) (fault.Abstract b) (u1, e1, f1, g1) (u2, o2, r2, l2, b2, p2) = let s : Some a ≡ None = sym g1 ∙ r2.known in absurd (cc)
one-fault us name (fault.UnknownBase a) fault.NoMemory (u1, e1, f1, g1) h2 = inr (inr refl)
one-fault us name (fault.NoOrder a) (fault.TwiceNamed b) (u1, r1, n1, p1) e2 = let s : Some b ≡ None = sym e2 ∙ r1.once in absurd (cc)
one-fault us name (fault.NoOrder a) fault.NoContract (u1, r1, n1, p1) (e2, f2) = let s : None ≡ Some u1 = sym f2 ∙ r1.choice in absurd (cc)
one-fault us name (fault.NoOrder a) (fault.UnknownBase b) (u1, r1, n1, p1) (u2, e2, f2, g2) = let s : Some b ≡ None = sym g2 ∙ r1.known in absurd (cc)
one-fault us name (fault.NoOrder a) (fault.NoOrder b) (u1, r1, n1, p1) (u2, r2, n2, p2) = inl (ap fault.NoOrder (p1 ∙ ap (name_place us) (one-unit us name u1 u2 r1 r2) ∙ sym p2))
one-fault us name (fault.NoOrder a) (fault.Abstract b) (u1, r1, n1, p1) (u2, o2, r2, l2, b2, p2) = absurd (n1 o2 (subst (λ (w : ℕ). Linearizes (base_graph us) w o2) (one-unit us name u2 u1 r2 r1) l2))
one-fault us name (fault.NoOrder a) fault.NoMemory (u1, r1, n1, p1) h2 = inr (inr refl)
one-fault us name (fault.Abstract a) (fault.TwiceNamed b) (u1, o1, r1, l1, b1, p1) e2 = let s : Some b ≡ None = sym e2 ∙ r1.once in absurd (cc)
one-fault us name (fault.Abstract a) fault.NoContract (u1, o1, r1, l1, b1, p1) (e2, f2) = let s : None ≡ Some u1 = sym f2 ∙ r1.choice in absurd (cc)
one-fault us name (fault.Abstract a) (fault.UnknownBase b) (u1, o1, r1, l1, b1, p1) (u2, e2, f2, g2) = let s : Some b ≡ None = sym g2 ∙ r1.known in absurd (cc)
one-fault us name (fault.Abstract a) (fault.NoOrder b) (u1, o1, r1, l1, b1, p1) (u2, r2, n2, p2) = absurd (n2 o1 (subst (λ (w : ℕ). Linearizes (base_graph us) w o1) (one-unit us name u1 u2 r1 r2) l1))
one-fault us name (fault.Abstract a) (fault.Abstract b) (u1, o1, r1, l1, b1, p1) (u2, o2, r2, l2, b2, p2) = inl (ap fault.Abstract (p1 ∙ ap (name_place us) (one-unit us name u1 u2 r1 r2) ∙ sym p2))
one-fault us name (fault.Abstract a) fault.NoMemory (u1, o1, r1, l1, b1, p1) h2 = inr (inr refl)
one-fault us name fault.NoMemory (fault.TwiceNamed b) h1 e2 = inr (inl refl)
one-fault us name fault.NoMemory fault.NoContract h1 (e2, f2) = inr (inl refl)
one-fault us name fault.NoMemory (fault.UnknownBase b) h1 (u2, e2, f2, g2) = inr (inl refl)
one-fault us name fault.NoMemory (fault.NoOrder b) h1 (u2, r2, n2, p2) = inr (inl refl)
one-fault us name fault.NoMemory (fault.Abstract b) h1 (u2, o2, r2, l2, b2, p2) = inr (inl refl)
one-fault us name fault.NoMemory fault.NoMemory h1 h2 = inr (inl refl)

-- ---- the least of numbers

abbrev Holds : Option ℕ → List ℕ → ℕ → Type 0
Holds o ns n = (o ≡ Some n) ⊎ Contains ns n

first : (n : ℕ) (ns : List ℕ) → Contains (n ∷ ns) n
first n ns = (0, omega arith, refl)

later : (n m : ℕ) (ns : List ℕ) → Contains ns m → Contains (n ∷ ns) m
later n m ns i = (suc i.0, omega (arith, i.1), i.2)

min-is : (m n : ℕ) → (min m n ≡ m) ⊎ (min m n ≡ n)
min-is m n = elim (cases_lt m n) [ inl h ↦ inl (omega arith) | inr h ↦ inr (omega arith) ]

lesser-holds : (o : Option ℕ) (n k : ℕ) (ns : List ℕ) → lesser o n ≡ Some k → Holds o (n ∷ ns) k
lesser-holds None n k ns e = let same : n ≡ k = cc in inr (subst (Contains (n ∷ ns)) same (first n ns))
lesser-holds (Some m) n k ns e =
    let same : min m n ≡ k = cc in
    elim (min-is m n) [
      | inl f ↦ let own : m ≡ k = sym f ∙ same in inl (ap Some own)
      | inr f ↦ inr (subst (Contains (n ∷ ns)) (sym f ∙ same) (first n ns))
    ]

from-holds : (o : Option ℕ) (ns : List ℕ) (k : ℕ) → least_from o ns ≡ Some k → Holds o ns k
from-holds o [] k e = inl e
from-holds o (n ∷ ns) k e =
    elim (from-holds (lesser o n) ns k e) [
      | inl f ↦ lesser-holds o n k ns f
      | inr i ↦ inr (later n k ns i)
    ]

pub least-there : (ns : List ℕ) (n : ℕ) → least_in ns ≡ Some n → Contains ns n
least-there ns n e = elim (from-holds None ns n e) [ inl f ↦ absurd (cc) | inr i ↦ i ]

-- a number is at least what was found, and something was found
abbrev AtLeast : Option ℕ → ℕ → Type 0
AtLeast None m = ⊥
AtLeast (Some n) m = n ≤ m

lesser-more : (o : Option ℕ) (n m : ℕ) → AtLeast o m → AtLeast (lesser o n) m
lesser-more None n m h = absurd h
lesser-more (Some k) n m h = omega arith

lesser-own : (o : Option ℕ) (n : ℕ) → AtLeast (lesser o n) n
lesser-own None n = omega arith
lesser-own (Some k) n = omega arith

from-more : (o : Option ℕ) (ns : List ℕ) (m : ℕ) → AtLeast o m → AtLeast (least_from o ns) m
from-more o [] m h = h
from-more o (n ∷ ns) m h = from-more (lesser o n) ns m (lesser-more o n m h)

from-each : (o : Option ℕ) (ns : List ℕ) (m : ℕ) → Contains ns m → AtLeast (least_from o ns) m
from-each o [] m (k, l, e) = absurd (omega arith)
from-each o (n ∷ ns) m (zero, l, e) = from-more (lesser o n) ns m (subst (AtLeast (lesser o n)) e (lesser-own o n))
from-each o (n ∷ ns) m (suc k, l, e) = from-each (lesser o n) ns m (k, omega arith, e)

pub least-below : (ns : List ℕ) (n m : ℕ) → least_in ns ≡ Some n → Contains ns m → n ≤ m
least-below ns n m e i = subst (λ (o : Option ℕ). AtLeast o m) e (from-each None ns m i)

pub least-none : (ns : List ℕ) (m : ℕ) → least_in ns ≡ None → Contains ns m → ⊥
least-none ns m e i = subst (λ (o : Option ℕ). AtLeast o m) e (from-each None ns m i)

pub ruleset answers = (order-unique, one-lineage, lineage-or-fault, one-fault, least-there)
