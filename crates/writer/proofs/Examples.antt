-- The definitions at small tables, worked out by computation: what is written, and which refusal is due first.
-- Assumes nothing.
use mathlib.Core.List.{List, [], ◌∷◌}
use mathlib.Core.Path.{◌≡◌, refl}
use lib.ListN.{replicate}
use Rattle.std.specs.Prelude.{Ok, Err}
use Rattle.numbers.specs.General.{lowest, in_turn}
use Rattle.numbers.specs.Sizes.{ours}
use Rattle.numbers.specs.declared.Refusal.TheVariants.{Sizes, UnknownKind, ShortBytes, LongOperand, LongRoot}
use Rattle.recipe.specs.Rules.{judged_by}
use Rattle.recipe.specs.Tables.{Table, table_of}
use Rattle.sheet.specs.Form.{spelled_row, spelled_root, spell}
use Rattle.text.specs.Bytes.{ascii}
use Rattle.text.specs.Numbers.{spelled_in, spelled}
use Rattle.writer.specs.Replies.{written, bytes_written}
use Rattle.writer.specs.Rules.{sizes_writable, writable}
use Rattle.writer.specs.Sheets.{sheet_of}

-- ---- what is written

-- No rows and no procedures are a sheet of no bytes, which fits no bytes.
nothing_written :
    (written ours (table_of [] [] [] []) 0 ≡ Ok 0)
    × (written ours (table_of [] [] [] []) 5 ≡ Ok 0)
    × (bytes_written ours (table_of [] [] [] []) (7 ∷ 8 ∷ []) ≡ 7 ∷ 8 ∷ [])
unfolding written bytes_written writable judged_by lowest in_turn sizes_writable sheet_of spell mathlib.Core.List.flat_map
nothing_written = (refl, refl, refl)

-- A step, a sequence and two procedures.
abbrev small : Table
small = table_of (1 ∷ 2 ∷ []) (63 ∷ 1 ∷ []) (0 ∷ 2 ∷ []) (1 ∷ 10 ∷ [])

-- Byte for byte: x stands before y, and the roots stand behind the rows.
both_ways : sheet_of small ≡ ascii "R\tstep\t63\t0\nR\tseq\t1\t2\nP\t1\nP\t10\n"
unfolding in_turn sheet_of spell mathlib.Core.List.flat_map spelled_row spelled_root spelled spelled_in
both_ways = refl

-- The sheet stands in front, and the bytes behind it stay.
stays_behind : bytes_written ours (table_of [] [] [] (7 ∷ [])) (1 ∷ 2 ∷ 3 ∷ 4 ∷ 5 ∷ 6 ∷ []) ≡ 80 ∷ 9 ∷ 55 ∷ 10 ∷ 5 ∷ 6 ∷ []
unfolding bytes_written writable judged_by lowest in_turn sizes_writable sheet_of spell mathlib.Core.List.flat_map spelled_row spelled_root spelled spelled_in
stays_behind = refl

-- The room is tried last: one byte less than is needed, and as many.
room_last : (written ours small 30 ≡ Err ShortBytes) × (written ours small 31 ≡ Ok 31)
unfolding written writable judged_by lowest in_turn sizes_writable sheet_of spell mathlib.Core.List.flat_map spelled_row spelled_root spelled spelled_in
room_last = (refl, refl)

-- A table that is not admitted is written all the same, if fields hold its numbers: a label above the ceiling, and a y that no kind uses.
label_written :
    (written ours (table_of (1 ∷ []) (9999 ∷ []) (7 ∷ []) []) 14 ≡ Ok 14)
    × (sheet_of (table_of (1 ∷ []) (9999 ∷ []) (7 ∷ []) []) ≡ ascii "R\tstep\t9999\t7\n")
unfolding written writable judged_by lowest in_turn sizes_writable sheet_of spell mathlib.Core.List.flat_map spelled_row spelled_root spelled spelled_in
label_written = (refl, refl)

-- ---- which refusal is due first

-- The operand of row 0 is too long and the kind of row 1 is unknown: the kind is due.
kind_first : written ours (table_of (0 ∷ 7 ∷ []) (10000 ∷ 0 ∷ []) (0 ∷ 0 ∷ []) (0 ∷ [])) 0 ≡ Err (UnknownKind (record { 0 = 1 }))
unfolding written writable judged_by lowest sizes_writable
kind_first = refl

-- A second operand that its kind does not use is too long, and a root is: the row is due.
rows_first : written ours (table_of (0 ∷ 0 ∷ []) (0 ∷ 0 ∷ []) (0 ∷ 10000 ∷ []) (10000 ∷ [])) 0 ≡ Err (LongOperand (record { 0 = 1 }))
unfolding written writable judged_by lowest sizes_writable
rows_first = refl

-- A root is too long, whatever the room.
root_long : written ours (table_of [] [] [] (9999 ∷ 10000 ∷ [])) 0 ≡ Err (LongRoot (record { 0 = 1 }))
unfolding written writable judged_by lowest sizes_writable
root_long = refl

-- Row 0 has a y and row 1 an x that is too long: the lower row is due, whichever operand it is.
lowest_row : written ours (table_of (0 ∷ 0 ∷ []) (0 ∷ 10000 ∷ []) (10000 ∷ 0 ∷ []) []) 0 ≡ Err (LongOperand (record { 0 = 0 }))
unfolding written writable judged_by lowest sizes_writable
lowest_row = refl

-- One operand is lacking or left over, and a kind is unknown: the sizes are due.
unequal :
    (written ours (table_of (7 ∷ []) (0 ∷ []) [] []) 100 ≡ Err Sizes)
    × (written ours (table_of (7 ∷ []) [] (0 ∷ []) []) 100 ≡ Err Sizes)
    × (written ours (table_of (7 ∷ []) (0 ∷ 0 ∷ []) (0 ∷ []) []) 100 ≡ Err Sizes)
    × (written ours (table_of (7 ∷ []) (0 ∷ []) (0 ∷ 0 ∷ []) []) 100 ≡ Err Sizes)
unfolding written writable judged_by lowest sizes_writable
unequal = (refl, refl, refl, refl)

-- One procedure is too many, and a kind is unknown: the sizes are due.
too_many_procedures : written ours (table_of (7 ∷ []) (0 ∷ []) (0 ∷ []) (replicate 65 0)) 100 ≡ Err Sizes
unfolding written writable judged_by lowest sizes_writable
too_many_procedures = refl
