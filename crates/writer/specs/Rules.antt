-- When a table can be written into so many bytes, and in which order that is tried.
use Rattle.std.specs.Prelude.{Bool, not, ◌&&◌, ◌||◌, List, [], ◌∷◌, ◌++◌, ℕ, eqb, leb, ltb, length, Result}
use Rattle.numbers.specs.Sizes.{Size, row_ceiling}
use Rattle.numbers.specs.declared.Refusal.TheVariants.{Sizes, ShortBytes, LongOperand, LongRoot}
use Rattle.numbers.specs.declared.Refusal.{Refusal}
use Rattle.recipe.specs.Rules.{Rule, kind_rule, judged_by}
use Rattle.recipe.specs.Tables.{Table, rows, procs, x_at, y_at, root_at}
use Rattle.writer.specs.Sheets.{sheet_of}

-- Whether rows and procedures are not too many, and there are as many of each operand as rows. No rows, no procedures or neither is right too.
unfoldable pub sizes_writable : Size → ℕ → ℕ → ℕ → ℕ → Bool
sizes_writable z rows xs ys procs = leb rows row_ceiling && leb procs z.procs && eqb xs rows && eqb ys rows

-- Whether a number is above what a field of a sheet can hold.
abbrev pub too_long : ℕ → Bool
too_long n = ltb 9999 n

-- The sizes can be written.
abbrev pub sizes_rule : Size → Table → Rule
sizes_rule z t =
    record {
      places = 1;
      breaks = λ i. not (sizes_writable z (rows t) (length t.xs) (length t.ys) (procs t));
      refusal = λ i. Sizes;
    }

-- Each operand has a field that holds it, whether its kind uses it or not.
abbrev pub operand_rule : Table → Rule
operand_rule t =
    record { places = rows t; breaks = λ i. too_long (x_at t i) || too_long (y_at t i); refusal = λ i. LongOperand (record { 0 = i }) }

-- Each root has a field that holds it.
abbrev pub root_rule : Table → Rule
root_rule t = record { places = procs t; breaks = λ f. too_long (root_at t f); refusal = λ f. LongRoot (record { 0 = f }) }

-- The sheet fits so many bytes.
abbrev pub room_rule : Table → ℕ → Rule
room_rule t room = record { places = 1; breaks = λ i. ltb room (length (sheet_of t)); refusal = λ i. ShortBytes }

-- The rules of a table that is to be written, in the order in which they are tried.
abbrev pub table_rules : Size → Table → List Rule
table_rules z t = sizes_rule z t ∷ kind_rule t ∷ operand_rule t ∷ root_rule t ∷ []

-- The rules of a table that is to be written into so many bytes: the room is tried last.
abbrev pub writer_rules : Size → Table → ℕ → List Rule
writer_rules z t room = table_rules z t ++ (room_rule t room ∷ [])

-- What the writer's judge replies to a table and so many bytes.
unfoldable pub writable : Size → Table → ℕ → Result Unit Refusal
writable z t room = judged_by (writer_rules z t room)
