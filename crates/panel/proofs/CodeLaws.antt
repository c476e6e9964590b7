-- No reading passes the ceilings, since each row and each root takes a place.
-- Assumes nothing.
use mathlib.Core.List.{List}
use Prim.Native.Nat.{ℕ, min}
use native.Mathlib.Omega.{arith}
use Rattle.numbers.specs.Sizes.{ours, row_ceiling}
use Rattle.table.specs.Reading.{Reading, table, refused, reply_of}
use Rattle.sheet.specs.Reading.{read_sheet}
use Rattle.sheet.proofs.SheetForms.{InRoom, sheet_within}
use Rattle.panel.specs.Inner.{WithinCeilings}

reply_within : (R P : ℕ) (w : Reading) → InRoom (min row_ceiling R) (min ours.procs P) w → WithinCeilings (reply_of w)
reply_within R P (table rows roots) c = (omega (arith, c.rows), omega (arith, c.roots))
reply_within R P (refused why) c = tt

pub reading_within : (rowsLent rootsLent : ℕ) (bytes : List ℕ) → WithinCeilings (reply_of (read_sheet ours rowsLent rootsLent bytes))
reading_within rowsLent rootsLent bytes =
    reply_within rowsLent rootsLent (read_sheet ours rowsLent rootsLent bytes) (sheet_within ours rowsLent rootsLent bytes)
