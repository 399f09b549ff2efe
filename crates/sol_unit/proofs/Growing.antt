-- Events and errors that stand in the tables stay at their places when members are added.
use Rattle.std.proofs.Common.{◌≡◌, ◌∙◌, sym, ap, refl, ℕ, List, [], ◌∷◌, ◌++◌, reverse, Bool, true, false, append_assoc}
use Rattle.std.proofs.lemmas.List.{append-nil}
use Rattle.sol_tree.specs.declared.file.Error.{Error}
use Rattle.sol_tree.specs.declared.file.Event.{Event}
use Rattle.sol_tree.specs.declared.file.Fun.{Fun}
use Rattle.sol_tree.specs.declared.file.Member.{Member}
use Rattle.sol_tree.specs.declared.file.Member.TheVariants as member
use Rattle.sol_tree.specs.declared.file.Modifier as modifiers
use Rattle.sol_tree.specs.declared.file.Unit as units
use Rattle.sol_tree.specs.declared.file.Var.{Var}
use Rattle.sol_judged.specs.declared.tables.Declared.{Declared}
use Rattle.sol_judged.specs.declared.types.ValueType.{ValueType}
use Rattle.sol_judged.specs.Settings.{Setting}
use Rattle.sol_declared.specs.declared.state_types.StateType.{StateType}
use Rattle.sol_declared.specs.declared.state_types.StateType.TheVariants as state
use Rattle.sol_unit.specs.declared.tables.Tables.{Tables}
use Rattle.sol_unit.specs.Reads.{Read, Readable, Unreadable}
use Rattle.sol_unit.specs.Added.{Added, added_if_read}
use Rattle.sol_unit.specs.Listing.{members_at}
use Rattle.sol_unit.specs.Variables.{added_value, added_state, variable}
use Rattle.sol_unit.specs.Functions.{added_function, function, constructor}
use Rattle.sol_unit.specs.Parameters.{added_modifier, modifier, added_event, event, added_error, error}
use Rattle.sol_unit.specs.Lineages.{Making, read_in, added_member, declared_member, declared_unit, declared_units, declared_lineage}

pub record Grows (s t : Tables) : Type 0 where
  pub more_events : List (List ValueType)
  pub more_errors : List (List ValueType)
  pub events : t.events ≡ s.events ++ more_events
  pub errors : t.errors ≡ s.errors ++ more_errors

stays : (s t : Tables) → t.events ≡ s.events → t.errors ≡ s.errors → Grows s t
stays s t p q = record { more_events = []; more_errors = []; events = p ∙ sym (append-nil s.events); errors = q ∙ sym (append-nil s.errors) }

chained : (s t u : Tables) → Grows s t → Grows t u → Grows s u
chained s t u a b = record {
  more_events = a.more_events ++ b.more_events;
  more_errors = a.more_errors ++ b.more_errors;
  events = b.events ∙ ap (λ (xs : List (List ValueType)). xs ++ b.more_events) a.events ∙ append_assoc s.events a.more_events b.more_events;
  errors = b.errors ∙ ap (λ (xs : List (List ValueType)). xs ++ b.more_errors) a.errors ∙ append_assoc s.errors a.more_errors b.more_errors;
}

if_read : {A : Type 0} (r : Read A) (add : A → Tables → Added Tables) (t : Tables) → ((a : A) → Grows t (add a t).tables) → Grows t (added_if_read r add t).tables
if_read {A} (Readable a) add t h = h a
if_read {A} (Unreadable rule at) add t h = stays t t refl refl

state-grows : (c : Bool) (s : StateType) (t : Tables) → Grows t (added_state c s t).tables
unfolding added_state
state-grows true (state.Value v) t = stays t _ refl refl
state-grows false (state.Value v) t = stays t _ refl refl
state-grows c (state.Array v) t = stays t _ refl refl
state-grows c (state.Mapping k l v) t = stays t _ refl refl

event-grows : (ps : List ValueType) (t : Tables) → Grows t (added_event ps t).tables
event-grows ps t = record { more_events = ps ∷ []; more_errors = []; events = refl; errors = sym (append-nil t.errors) }

error-grows : (ps : List ValueType) (t : Tables) → Grows t (added_error ps t).tables
error-grows ps t = record { more_events = []; more_errors = ps ∷ []; events = sym (append-nil t.events); errors = refl }

member-grows : (w : Setting) (m : Member) (t : Tables) → Grows t (added_member w m t).tables
unfolding added_member variable function added_function modifier event error
member-grows w (member.Var at v) t = if_read _ (added_state _) t (λ s. state-grows _ s t)
member-grows w (member.Fun at f) t = if_read _ (added_function f) t (λ o. stays t _ refl refl)
member-grows w (member.Constructor at c) t = stays t _ refl refl
member-grows w (member.Modifier at m) t = if_read _ (added_modifier _) t (λ ps. stays t _ refl refl)
member-grows w (member.Event at e) t = if_read _ added_event t (λ ps. event-grows ps t)
member-grows w (member.Error at e) t = if_read _ added_error t (λ ps. error-grows ps t)

step-grows : (d : Declared) (u : ℕ) (t : Making Tables) (m : Member) → Grows t.tables (declared_member d u t m).tables
unfolding declared_member
step-grows d u t m = member-grows (read_in d u) m t.tables

unit-grows : (d : Declared) (u : ℕ) (t : Making Tables) (ms : List Member) → Grows t.tables (declared_unit d u t ms).tables
unit-grows d u t [] = stays t.tables t.tables refl refl
unit-grows d u t (m ∷ ms) = chained t.tables (declared_member d u t m).tables _ (step-grows d u t m) (unit-grows d u (declared_member d u t m) ms)

units-grow : (d : Declared) (us : List units.Unit) (t : Making Tables) (os : List ℕ) → Grows t.tables (declared_units d us t os).tables
units-grow d us t [] = stays t.tables t.tables refl refl
units-grow d us t (u ∷ os) = chained t.tables (declared_unit d u t (members_at us u)).tables _ (unit-grows d u t (members_at us u)) (units-grow d us (declared_unit d u t (members_at us u)) os)

pub lineage-grows : (d : Declared) (us : List units.Unit) (order : List ℕ) (t : Tables) → Grows t (declared_lineage d us order t).tables
unfolding declared_lineage
lineage-grows d us order t = units-grow d us (record { entries = []; tables = t }) (reverse order)
