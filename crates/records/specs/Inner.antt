-- Only the contracts of inner functions speak of these: a reply and what is lent after it, as one name.
use Rattle.std.specs.Prelude.{◌≡◌, List, ℕ, length, Result}
use Rattle.numbers.specs.General.{laid}
use Rattle.numbers.specs.Sizes.{Size}
use Rattle.numbers.specs.declared.Refusal.{Refusal}
use Rattle.recipe.specs.Records.{table_of_rows}
use Rattle.recipe.specs.declared.Row.{Row}
use Rattle.analysis.specs.Replies.{analysed, matrix_after}
use Rattle.listing.specs.Replies.{listed, matrix_listed, bytes_listed}
use Rattle.table.specs.Reading.{rows_of, roots_of, reply_of}
use Rattle.table.specs.declared.Room.{Room}
use Rattle.records.specs.Records.{read_records}

-- The reply r to these rows, these roots and the matrix m, and the matrix m' after it.
abbrev pub Answers : Size → List Row → List ℕ → List ℕ → Result ℕ Refusal → List ℕ → Type 0
Answers z rows roots m r m' =
    let t = table_of_rows rows roots in (r ≡ analysed z t (length m)) × (m' ≡ matrix_after z t m)

-- The listing's reply r to these rows, these roots, the matrix m and the bytes b, and the matrix m' and the bytes b' after it.
abbrev pub Lists : Size → List Row → List ℕ → List ℕ → List ℕ → Result ℕ Refusal → List ℕ → List ℕ → Type 0
Lists z rows roots m b r m' b' =
    let t = table_of_rows rows roots in
    (r ≡ listed z t (length m) (length b)) × (m' ≡ matrix_listed z t m (length b)) × (b' ≡ bytes_listed z t (length m) b)

-- The reply r to a sheet's bytes, and the records and the roots after it.
abbrev pub Reads : Size → List ℕ → List Row → List ℕ → Result Room Refusal → List Row → List ℕ → Type 0
Reads z bytes rows roots r rows' roots' =
    let w = read_records z bytes rows roots in
    (r ≡ reply_of w) × (rows' ≡ laid (rows_of w) rows) × (roots' ≡ laid (roots_of w) roots)
