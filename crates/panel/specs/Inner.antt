-- Only the contracts of inner functions speak of this: the readings whose numbers of rows and procedures a code has room for.
use Rattle.std.specs.Prelude.{◌≤◌, Result, Ok, Err}
use Rattle.numbers.specs.Sizes.{ours, row_ceiling}
use Rattle.numbers.specs.declared.Refusal.{Refusal}
use Rattle.table.specs.declared.Room.{Room}

-- A reading that the ceilings allow.
abbrev pub WithinCeilings : Result Room Refusal → Type 0
WithinCeilings (Ok kept) = (kept.rows ≤ row_ceiling) × (kept.roots ≤ ours.procs)
WithinCeilings (Err r) = Unit {0}
