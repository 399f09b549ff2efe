-- The pool as its workers see it: what it holds, and what each worker has seen of it.
use Rattle.std.specs.Prelude.{◌≡◌, ℕ, zero, suc, List, [], ◌∷◌}
use Rattle.chc_form.specs.declared.system.System.{System}
use Rattle.pool_lock.specs.Entries.{StartsWith}
use Rattle.pool_state.specs.Content.{Content, IsPool}

pub record Core : Type 0 where
  pub pool : Content
  -- by the workers' numbers
  pub seen : List Content

-- a pool with no batches
abbrev pub nothing : System → Content
nothing s = record { system = s; batches = []; lemmas = [] }

-- so many workers have seen nothing
abbrev pub unseen : System → ℕ → List Content
unseen s zero = []
unseen s (suc n) = nothing s ∷ unseen s n

abbrev pub beginning : System → ℕ → Core
beginning s n = record { pool = nothing s; seen = unseen s n }

-- one pool is a prefix of another: of the same system, and the batches and the lemmas of the other begin with its own
pub record IsFront (front whole : Content) : Type 0 where
  pub system : front.system ≡ whole.system
  pub batches : StartsWith whole.batches front.batches
  pub lemmas : StartsWith whole.lemmas front.lemmas

-- each is a pool, and a prefix of this one
abbrev pub AreFronts : Content → List Content → Type 0
AreFronts whole [] = Unit {0}
AreFronts whole (had ∷ more) = (IsFront had whole × IsPool had) × AreFronts whole more

-- what every core keeps
pub record IsCore (c : Core) : Type 0 where
  pub pool : IsPool c.pool
  pub seen : AreFronts c.pool c.seen
