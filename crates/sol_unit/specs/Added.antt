-- What a declaration adds to tables: what its name means, and what stands in the tables after it. Numbers count
-- what stands before.
use Rattle.std.specs.Prelude.{◌≡◌, Result, Ok, Err}
use Rattle.lists.specs.declared.memory.NoMemory.{NoMemory}
use Rattle.sol_judged.specs.declared.tables.Meaning.{Meaning}
use Rattle.sol_judged.specs.declared.tables.Meaning.TheVariants as means
use Rattle.sol_unit.specs.Reads.{Read, Readable, Unreadable}

pub record Added (T : Type 0) : Type 0 where
  pub meaning : Meaning
  pub tables : T

-- Ok with the meaning, and the tables as they are then; or no memory
abbrev pub Adds : {T : Type 0} → Added T → Result Meaning NoMemory → T → Type 0
Adds a (Ok m) new = a ≡ record { meaning = m; tables = new }
Adds a (Err e) new = Unit {0}

-- while declared types are read, a member is a thing that is no type
abbrev pub no_type : Meaning
no_type = means.Modifier 0

-- what is read is added; else the name tells what is broken
abbrev pub added_if_read : {A T : Type 0} → Read A → (A → T → Added T) → T → Added T
added_if_read (Readable a) add t = add a t
added_if_read (Unreadable broken_rule at) add t = record { meaning = means.Faulty broken_rule at; tables = t }
