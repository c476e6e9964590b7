-- The definitions at small tables, worked out by computation.
-- Assumes nothing.
use Prim.Native.Nat.{ℕ}
use mathlib.Core.Bool.{true, false}
use mathlib.Core.List.{[], ◌∷◌}
use mathlib.Core.Path.{◌≡◌, refl}
use Rattle.numbers.specs.Sizes.{ours}
use Rattle.numbers.specs.General.{sum_below, lowest}
use Rattle.calculus.specs.Syntax.{Stmt}
use Rattle.recipe.specs.Tables.{Table, table_of}
use Rattle.recipe.specs.Rules.{sizes_right, operands_right, uses_by, judged_by, judged, IsAdmitted}
use Rattle.recipe.specs.Statements.{row_statement, statement_to, statement_at, program_of}
use Rattle.numbers.specs.declared.Refusal.TheVariants.{Sizes, UnknownKind, WrongOperand, NoSuchRow, UsedAgain, Unused}
use Rattle.std.specs.Prelude.{Err}

-- A table of one row, which is main.
abbrev one : ℕ → ℕ → ℕ → Table
one kind x y = table_of (kind ∷ []) (x ∷ []) (y ∷ []) (0 ∷ [])

-- A table of a skip and one row more, with one procedure.
abbrev two : ℕ → ℕ → ℕ → ℕ → Table
two kind x y root = table_of (0 ∷ kind ∷ []) (0 ∷ x ∷ []) (0 ∷ y ∷ []) (root ∷ [])

-- The limits: labels end below the ceiling, children stand below their row, calls name a procedure, operands without use are 0.
limits :
    IsAdmitted ours (one 1 63 0)
    × (judged ours (one 1 64 0) ≡ Err (WrongOperand (record { 0 = 0 })))
    × IsAdmitted ours (one 6 0 0)
    × (judged ours (one 6 1 0) ≡ Err (WrongOperand (record { 0 = 0 })))
    × (judged ours (one 0 0 1) ≡ Err (WrongOperand (record { 0 = 0 })))
    × (judged ours (one 7 0 0) ≡ Err (UnknownKind (record { 0 = 0 })))
    × IsAdmitted ours (two 3 0 0 1)
    × (judged ours (two 3 1 0 1) ≡ Err (WrongOperand (record { 0 = 1 })))
    × (judged ours (two 3 0 0 2) ≡ Err (NoSuchRow (record { 0 = 0 })))
    × (judged ours (two 2 0 0 1) ≡ Err (UsedAgain (record { 0 = 0 })))
    × (judged ours (two 0 0 0 1) ≡ Err (Unused (record { 0 = 0 })))
    × (judged ours (table_of [] [] [] []) ≡ Err Sizes)
    × (judged ours (table_of (0 ∷ []) [] (0 ∷ []) (0 ∷ [])) ≡ Err Sizes)
unfolding judged judged_by lowest sizes_right operands_right uses_by sum_below
limits = (refl, refl, refl, refl, refl, refl, refl, refl, refl, refl, refl, refl, refl)

-- Where two rules are broken the first of the list decides, wherever the other is broken: here the operand of row 0 and the kind of row 1.
order : judged ours (table_of (0 ∷ 7 ∷ []) (1 ∷ 0 ∷ []) (0 ∷ 0 ∷ []) (0 ∷ [])) ≡ Err (UnknownKind (record { 0 = 1 }))
unfolding judged judged_by lowest sizes_right operands_right uses_by sum_below
order = refl

-- Of two rows that break a rule the lower one is named.
lower : judged ours (table_of (0 ∷ 0 ∷ []) (1 ∷ 1 ∷ []) (0 ∷ 0 ∷ []) (0 ∷ [])) ≡ Err (WrongOperand (record { 0 = 0 }))
unfolding judged judged_by lowest sizes_right operands_right uses_by sum_below
lower = refl

-- Each ceiling, and one more; no rows, no procedures, and operands that do not match the rows.
ceilings :
    (sizes_right ours 1024 1024 1024 64 ≡ true)
    × (sizes_right ours 1025 1025 1025 64 ≡ false)
    × (sizes_right ours 1024 1024 1024 65 ≡ false)
    × (sizes_right ours 0 0 0 1 ≡ false)
    × (sizes_right ours 1 1 1 0 ≡ false)
    × (sizes_right ours 1 2 1 1 ≡ false)
    × (sizes_right ours 1 1 2 1 ≡ false)
unfolding sizes_right
ceilings = (refl, refl, refl, refl, refl, refl, refl)

-- A second operand where there is none, for each kind that has none.
second_operands :
    (judged ours (one 0 0 1) ≡ Err (WrongOperand (record { 0 = 0 })))
    × (judged ours (one 1 0 1) ≡ Err (WrongOperand (record { 0 = 0 })))
    × (judged ours (two 3 0 1 1) ≡ Err (WrongOperand (record { 0 = 1 })))
    × (judged ours (two 4 0 1 1) ≡ Err (WrongOperand (record { 0 = 1 })))
    × (judged ours (two 5 0 1 1) ≡ Err (WrongOperand (record { 0 = 1 })))
    × (judged ours (one 6 0 1) ≡ Err (WrongOperand (record { 0 = 0 })))
unfolding judged judged_by lowest sizes_right operands_right uses_by sum_below
second_operands = (refl, refl, refl, refl, refl, refl)

-- Each rule is tried before the next: of two neighbours that are both broken the first decides.
neighbours :
    (judged ours (table_of (7 ∷ []) [] (0 ∷ []) (0 ∷ [])) ≡ Err Sizes)
    × (judged ours (one 7 64 0) ≡ Err (UnknownKind (record { 0 = 0 })))
    × (judged ours (table_of (1 ∷ []) (64 ∷ []) (0 ∷ []) (1 ∷ [])) ≡ Err (WrongOperand (record { 0 = 0 })))
    × (judged ours (two 2 0 0 2) ≡ Err (NoSuchRow (record { 0 = 0 })))
    × (judged ours (table_of (0 ∷ 0 ∷ 2 ∷ []) (0 ∷ 0 ∷ 1 ∷ []) (0 ∷ 0 ∷ 1 ∷ []) (2 ∷ [])) ≡ Err (UsedAgain (record { 0 = 1 })))
unfolding judged judged_by lowest sizes_right operands_right uses_by sum_below
neighbours = (refl, refl, refl, refl, refl)

-- A table with each of the seven kinds: main is async {step 0}; step 1, then come call 1 and finish {loop {skip}}.
abbrev seven : Table
seven =
    table_of (1 ∷ 4 ∷ 1 ∷ 2 ∷ 6 ∷ 0 ∷ 3 ∷ 5 ∷ []) (0 ∷ 0 ∷ 1 ∷ 1 ∷ 1 ∷ 0 ∷ 5 ∷ 6 ∷ [])
    (0 ∷ 0 ∷ 0 ∷ 2 ∷ 0 ∷ 0 ∷ 0 ∷ 0 ∷ []) (3 ∷ 4 ∷ 7 ∷ [])

seven_admitted : IsAdmitted ours seven
unfolding judged judged_by lowest sizes_right operands_right uses_by sum_below
seven_admitted = refl

seven_read :
    program_of seven
    ≡ Stmt.seq (Stmt.async (Stmt.step 0)) (Stmt.step 1) ∷ Stmt.call 1 ∷ Stmt.finish (Stmt.loop Stmt.skip) ∷ []
unfolding statement_at statement_to row_statement
seven_read = refl
