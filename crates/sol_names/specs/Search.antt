-- The search for the units that a unit needs: a stack of units from the first down to the one that is gone through, each with
-- those of its bases that are left.
use Rattle.std.specs.Prelude.{◌≡◌, ◌<◌, ◌+◌, ℕ, List, [], ◌∷◌, ◌++◌, map, length, Option, Some, None, slice_get, slice_set, Bool, true, false, ◌⊎◌}
use Rattle.sol_names.specs.declared.schedule.Visit.{Visit}
use Rattle.sol_names.specs.declared.schedule.Visit.TheVariants as visit
use Rattle.sol_names.specs.declared.schedule.Frame.{Frame}
use Rattle.sol_names.specs.Linearization.{Linearizes}
use Rattle.sol_names.specs.Schedule.{has, IsNeeded, AreBehind, IsSchedule}

-- a unit of the stack, and those of its bases that are left
abbrev pub frames : List Frame → List (ℕ × List ℕ)
frames fs = map (λ f. (f.unit, f.left.now)) fs

abbrev pub units : List (ℕ × List ℕ) → List ℕ
units fs = map (λ f. f.0) fs

-- what is done with a base, by how far it is
abbrev pub Goes : List (List ℕ) → List (ℕ × List ℕ) → List Visit → ℕ → ℕ → List ℕ → Option Visit → Bool → List (ℕ × List ℕ) → List Visit → Type 0
Goes g fs vs w x xs None b new_fs new_vs = ⊥
Goes g fs vs w x xs (Some visit.New) b new_fs new_vs = (bs : List ℕ) × (slice_get g x ≡ Some bs) × (b ≡ true) × (new_fs ≡ (fs ++ (w, x ∷ xs) ∷ []) ++ (x, bs) ∷ []) × (new_vs ≡ slice_set vs x visit.Open)
Goes g fs vs w x xs (Some visit.Open) b new_fs new_vs = b ≡ false
Goes g fs vs w x xs (Some visit.Done) b new_fs new_vs = (b ≡ true) × (new_fs ≡ fs ++ (w, xs) ∷ []) × (new_vs ≡ vs)

-- one step with the unit on top of the stack, which has these bases left: whether no circle was found
abbrev pub Turns : List (List ℕ) → List (ℕ × List ℕ) → List Visit → List ℕ → ℕ → List ℕ → Bool → List (ℕ × List ℕ) → List Visit → List ℕ → Type 0
Turns g fs vs ds w [] b new_fs new_vs new_ds = (b ≡ true) × (new_fs ≡ fs) × (new_vs ≡ slice_set vs w visit.Done) × (new_ds ≡ ds ++ w ∷ [])
Turns g fs vs ds w (x ∷ xs) b new_fs new_vs new_ds = (new_ds ≡ ds) × Goes g fs vs w x xs (slice_get vs x) b new_fs new_vs

-- ---- what the search keeps

abbrev pub AllIn : List ℕ → List ℕ → Type 0
AllIn ds [] = Unit {0}
AllIn ds (b ∷ bs) = (has b ds ≡ true) × AllIn ds bs

-- the bases before those that are left are done, and the unit is needed
abbrev pub IsFramed : List (List ℕ) → ℕ → List ℕ → ℕ × List ℕ → Type 0
IsFramed g u ds f = (passed : List ℕ) × (slice_get g f.0 ≡ Some (passed ++ f.1)) × AllIn ds passed × IsNeeded g u f.0

abbrev pub AllFramed : List (List ℕ) → ℕ → List ℕ → List (ℕ × List ℕ) → Type 0
AllFramed g u ds [] = Unit {0}
AllFramed g u ds (f ∷ fs) = IsFramed g u ds f × AllFramed g u ds fs

-- where one unit has a linearization, another has a shorter one
abbrev pub IsDeeper : List (List ℕ) → ℕ → ℕ → Type 0
IsDeeper g v w = (o : List ℕ) → Linearizes g v o → (p : List ℕ) × Linearizes g w p × (length p < length o)

abbrev pub AllDeeper : List (List ℕ) → ℕ → List ℕ → Type 0
AllDeeper g v [] = Unit {0}
AllDeeper g v (w ∷ ws) = IsDeeper g v w × AllDeeper g v ws

-- each unit of a list leads deeper than all before it
abbrev pub Deepens : List (List ℕ) → List ℕ → Type 0
Deepens g [] = Unit {0}
Deepens g (v ∷ vs) = AllDeeper g v vs × Deepens g vs

pub record Searching (g : List (List ℕ)) (u : ℕ) (fs : List (ℕ × List ℕ)) (vs : List Visit) (ds : List ℕ) : Type 0 where
  pub size : length vs ≡ length g
  pub framed : AllFramed g u ds fs
  pub deepens : Deepens g (units fs)
  pub open_ones : (w : ℕ) → slice_get vs w ≡ Some visit.Open → has w (units fs) ≡ true
  pub done_ones : (w : ℕ) → slice_get vs w ≡ Some visit.Done → has w ds ≡ true
  pub needed : (w : ℕ) → has w ds ≡ true → IsNeeded g u w
  pub behind : AreBehind g [] ds
  pub own : (has u ds ≡ true) ⊎ (has u (units fs) ≡ true)

-- no circle was found, or the unit has no linearization
abbrev pub Searches : List (List ℕ) → ℕ → Bool → List ℕ → Type 0
Searches g u true ds = IsSchedule g u ds
Searches g u false ds = (o : List ℕ) → Linearizes g u o → ⊥

-- ---- how many steps are left

abbrev pub work : List (List ℕ) → List Visit → ℕ
work [] vs = 0
work (bs ∷ g) [] = 0
work (bs ∷ g) (visit.New ∷ vs) = (length bs + 2) + work g vs
work (bs ∷ g) (visit.Open ∷ vs) = work g vs
work (bs ∷ g) (visit.Done ∷ vs) = work g vs

abbrev pub stack_work : List (ℕ × List ℕ) → ℕ
stack_work [] = 0
stack_work (f ∷ fs) = (length f.1 + 1) + stack_work fs
