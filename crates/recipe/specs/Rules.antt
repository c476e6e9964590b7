-- The rules of a table of some size, and the order in which they are tried.
use Rattle.std.specs.Prelude.{ℕ, ◌+◌, ◌≡◌, Bool, false, cond, not, ◌&&◌, List, [], ◌∷◌, length, eqb, ltb, leb, Result, Ok, Err}
use Rattle.numbers.specs.General.{one_if, sum_below, lowest}
use Rattle.numbers.specs.Sizes.{Size, row_ceiling, label_ceiling, matrix_words}
use Rattle.recipe.specs.Tables.{Table, Kind, kind_of, rows, procs, kind_at, x_at, y_at, root_at}
use Rattle.numbers.specs.declared.Refusal.{Refusal}
use Rattle.numbers.specs.declared.Refusal.TheVariants.{Sizes, ShortMatrix, UnknownKind, WrongOperand, NoSuchRow, UsedAgain, Unused}

-- Whether n lies from 1 to the ceiling.
abbrev pub from_one_to : ℕ → ℕ → Bool
from_one_to top n = leb 1 n && leb n top

-- Whether rows and procedures are neither none nor too many, and each row has both its operands.
unfoldable pub sizes_right : Size → ℕ → ℕ → ℕ → ℕ → Bool
sizes_right z rows xs ys procs = from_one_to row_ceiling rows && from_one_to z.procs procs && eqb xs rows && eqb ys rows

-- Whether the table's sizes are right.
abbrev pub sizes_fit : Size → Table → Bool
sizes_fit z t = sizes_right z (rows t) (length t.xs) (length t.ys) (procs t)

-- Whether a kind's number is above 6.
abbrev pub kind_unknown : ℕ → Bool
kind_unknown kind = ltb 6 kind

-- Whether the operands x and y suit a row of this kind, with this number, in a table with so many procedures.
unfoldable pub operands_right : Size → Kind → ℕ → ℕ → ℕ → ℕ → Bool
operands_right z Kind.skip x y row procs = eqb x 0 && eqb y 0
operands_right z Kind.step x y row procs = ltb x (label_ceiling z.words) && eqb y 0
operands_right z Kind.seq x y row procs = ltb x row && ltb y row
operands_right z Kind.loop x y row procs = ltb x row && eqb y 0
operands_right z Kind.async x y row procs = ltb x row && eqb y 0
operands_right z Kind.finish x y row procs = ltb x row && eqb y 0
operands_right z Kind.call x y row procs = ltb x procs && eqb y 0
operands_right z Kind.unknown x y row procs = false

-- Whether an operand of row i breaks the rule of the row's kind.
abbrev pub operand_wrong : Size → Table → ℕ → Bool
operand_wrong z t i = not (operands_right z (kind_of (kind_at t i)) (x_at t i) (y_at t i) i (procs t))

-- Whether a root is not a row, of so many rows.
abbrev pub root_missing : ℕ → ℕ → Bool
root_missing rows root = leb rows root

-- How often row i stands as a child of a row of this kind with the operands x and y.
unfoldable pub uses_by : Kind → ℕ → ℕ → ℕ → ℕ
uses_by Kind.skip x y i = 0
uses_by Kind.step x y i = 0
uses_by Kind.seq x y i = one_if (eqb x i) + one_if (eqb y i)
uses_by Kind.loop x y i = one_if (eqb x i)
uses_by Kind.async x y i = one_if (eqb x i)
uses_by Kind.finish x y i = one_if (eqb x i)
uses_by Kind.call x y i = 0
uses_by Kind.unknown x y i = 0

-- How often row i stands as a child, in the first n rows.
abbrev pub child_uses : Table → ℕ → ℕ → ℕ
child_uses t n i = sum_below n (λ j. uses_by (kind_of (kind_at t j)) (x_at t j) (y_at t j) i)

-- How often row i stands as a root, in the first n procedures.
abbrev pub root_uses : Table → ℕ → ℕ → ℕ
root_uses t n i = sum_below n (λ f. one_if (eqb (root_at t f) i))

-- How often row i is used, as a child or as the root of a procedure, called or not.
abbrev pub uses : Table → ℕ → ℕ
uses t i = child_uses t (rows t) i + root_uses t (procs t) i

-- Whether row i is used more than once.
abbrev pub used_again : Table → ℕ → Bool
used_again t i = ltb 1 (uses t i)

-- Whether row i is used by nobody.
abbrev pub unused : Table → ℕ → Bool
unused t i = eqb (uses t i) 0

-- A rule of a table: how many places it has, whether a place breaks it, and the refusal of such a place.
pub record Rule : Type 0 where
  pub places : ℕ
  pub breaks : ℕ → Bool
  pub refusal : ℕ → Refusal

-- The sizes are right.
abbrev pub sizes_rule : Size → Table → Rule
sizes_rule z t = record { places = 1; breaks = λ i. not (sizes_fit z t); refusal = λ i. Sizes }

-- A lent matrix of so many words is whole.
abbrev pub matrix_rule : Size → ℕ → Rule
matrix_rule z words = record { places = 1; breaks = λ i. ltb words (matrix_words z.words); refusal = λ i. ShortMatrix }

-- Each kind is one of the seven.
abbrev pub kind_rule : Table → Rule
kind_rule t = record { places = rows t; breaks = λ i. kind_unknown (kind_at t i); refusal = λ i. UnknownKind (record { 0 = i }) }

-- Each row has operands that suit its kind.
abbrev pub operand_rule : Size → Table → Rule
operand_rule z t = record { places = rows t; breaks = operand_wrong z t; refusal = λ i. WrongOperand (record { 0 = i }) }

-- Each root is a row.
abbrev pub root_rule : Table → Rule
root_rule t = record { places = procs t; breaks = λ f. root_missing (rows t) (root_at t f); refusal = λ f. NoSuchRow (record { 0 = f }) }

-- No row is used more than once.
abbrev pub once_rule : Table → Rule
once_rule t = record { places = rows t; breaks = used_again t; refusal = λ i. UsedAgain (record { 0 = i }) }

-- No row is used by nobody.
abbrev pub used_rule : Table → Rule
used_rule t = record { places = rows t; breaks = unused t; refusal = λ i. Unused (record { 0 = i }) }

-- What is tried once the sizes are right, in this order.
abbrev pub further_rules : Size → Table → List Rule
further_rules z t = kind_rule t ∷ operand_rule z t ∷ root_rule t ∷ once_rule t ∷ used_rule t ∷ []

-- The rules of a table.
abbrev pub rules_of : Size → Table → List Rule
rules_of z t = sizes_rule z t ∷ further_rules z t

-- The rules of a table that comes with a lent matrix of so many words.
abbrev pub rules_with : Size → Table → ℕ → List Rule
rules_with z t words = sizes_rule z t ∷ matrix_rule z words ∷ further_rules z t

-- The reply where rules are tried one after the other, each over all its places: the first that is broken refuses its lowest place.
unfoldable pub judged_by : List Rule → Result Unit Refusal
judged_by [] = Ok tt
judged_by (r ∷ more) =
    let place = lowest r.places r.breaks in
    cond (ltb place r.places) (Err (r.refusal place)) (judged_by more)

-- What the judge replies to a table.
unfoldable pub judged : Size → Table → Result Unit Refusal
judged z t = judged_by (rules_of z t)

-- What it replies for whoever is lent a matrix of so many words.
unfoldable pub judged_with : Size → Table → ℕ → Result Unit Refusal
judged_with z t words = judged_by (rules_with z t words)

-- The table is admitted.
abbrev pub IsAdmitted : Size → Table → Type 0
IsAdmitted z t = judged z t ≡ Ok tt
