-- A recipe table as four lists of numbers, and how its entries are read.
use Rattle.std.specs.Prelude.{ℕ, List, [], ◌∷◌, length, get_or, Result, Ok, Err}
use Rattle.recipe.specs.declared.Kind as coded
use Rattle.recipe.specs.declared.Kind.TheVariants as coded_as
use Rattle.recipe.specs.declared.UnknownKind.{UnknownKind}
use Rattle.recipe.specs.declared.Table as lent

-- The seven kinds of row, and what a number above 6 stands for.
pub data Kind : Type 0 where
  skip step seq loop async finish call unknown : Kind

-- The kinds in the order of their numbers: 0 is skip, and so on to 6, which is call.
abbrev pub numbered_kinds : List Kind
numbered_kinds = Kind.skip ∷ Kind.step ∷ Kind.seq ∷ Kind.loop ∷ Kind.async ∷ Kind.finish ∷ Kind.call ∷ []

-- The kind that a number stands for.
abbrev pub kind_of : ℕ → Kind
kind_of n = get_or numbered_kinds n Kind.unknown

-- The kind that a number was read as, or that it is none of the seven.
abbrev pub meant : Result coded.Kind UnknownKind → Kind
meant (Ok coded_as.Skip) = Kind.skip
meant (Ok coded_as.Step) = Kind.step
meant (Ok coded_as.Seq) = Kind.seq
meant (Ok coded_as.Loop) = Kind.loop
meant (Ok coded_as.Async) = Kind.async
meant (Ok coded_as.Finish) = Kind.finish
meant (Ok coded_as.Call) = Kind.call
meant (Err none) = Kind.unknown

-- The kinds, first operands and second operands of the rows, and the root row of each procedure.
pub record Table : Type 0 where
  pub kinds : List ℕ
  pub xs : List ℕ
  pub ys : List ℕ
  pub roots : List ℕ

-- The table of four lists.
abbrev pub table_of : List ℕ → List ℕ → List ℕ → List ℕ → Table
table_of kinds xs ys roots = record { kinds = kinds; xs = xs; ys = ys; roots = roots }

-- The lists that a table in lent slices holds.
abbrev pub lists_of : lent.Table → Table
lists_of t = table_of t.kinds.now t.xs.now t.ys.now t.roots.now

-- The number of rows.
abbrev pub rows : Table → ℕ
rows t = length t.kinds

-- The number of procedures.
abbrev pub procs : Table → ℕ
procs t = length t.roots

-- The number of the kind of row i.
abbrev pub kind_at : Table → ℕ → ℕ
kind_at t i = get_or t.kinds i 0

-- The first operand of row i.
abbrev pub x_at : Table → ℕ → ℕ
x_at t i = get_or t.xs i 0

-- The second operand of row i.
abbrev pub y_at : Table → ℕ → ℕ
y_at t i = get_or t.ys i 0

-- The root row of procedure f.
abbrev pub root_at : Table → ℕ → ℕ
root_at t f = get_or t.roots f 0
