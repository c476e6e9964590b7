-- The sheet of a table, and how long it can be.
use Rattle.std.specs.Prelude.{List, [], ◌∷◌, ℕ}
use Rattle.numbers.specs.General.{in_turn}
use Rattle.recipe.specs.Tables.{Table, rows, kind_at, x_at, y_at}
use Rattle.recipe.specs.declared.Row.{Row}
use Rattle.sheet.specs.Form.{spell}

-- Row i as a record.
abbrev pub row_at : Table → ℕ → Row
row_at t i = record { kind = kind_at t i; x = x_at t i; y = y_at t i }

-- The rows of a table as records, in order.
abbrev pub records_of : Table → List Row
records_of t = in_turn (rows t) (λ i. row_at t i ∷ [])

-- The sheet of a table.
unfoldable pub sheet_of : Table → List ℕ
sheet_of t = spell (records_of t) t.roots

-- No sheet that can be written at our size has more bytes, and one has as many.
abbrev pub longest_sheet : ℕ
longest_sheet = 19904
