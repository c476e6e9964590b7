-- How a reply is one number for a caller in C: the refusal's number above a value. Number 0 is success.
use Rattle.std.specs.Prelude.{ℕ, ◌+◌, ◌*◌, ◌^◌, Result, Ok, Err}
use Rattle.numbers.specs.Refusals.{refusal_number, refusal_place}
use Rattle.numbers.specs.declared.Refusal.{Refusal}
use Rattle.table.specs.declared.Room.{Room}

-- A refusal's number counts in units of 2^32, and so stands above every place, count and length.
abbrev pub number_unit : ℕ
number_unit = 2 ^ 32

-- The number of procedures counts in units of 65,536, and so stands above the number of rows.
abbrev pub procs_unit : ℕ
procs_unit = 65536

-- A refusal: its published number and its place.
abbrev pub refusal_code : Refusal → ℕ
refusal_code r = refusal_number r * number_unit + refusal_place r

-- A reply whose success is a number, the rounds or a length: that number, or the refusal.
abbrev pub reply_code : Result ℕ Refusal → ℕ
reply_code (Ok n) = n
reply_code (Err r) = refusal_code r

-- Reading: the rows and, above them, the procedures, or the refusal.
abbrev pub read_code : Result Room Refusal → ℕ
read_code (Ok kept) = kept.rows + procs_unit * kept.roots
read_code (Err r) = refusal_code r
