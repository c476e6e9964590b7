-- A row's statement is read off the rows alone, to any depth, so the roots do not matter to it. Assumes nothing.
use Prim.Native.Nat.{ℕ, zero, suc, ◌+◌}
use mathlib.Core.List.{List}
use mathlib.Core.Path.{◌≡◌, refl, ap, fun_ext}
use lib.ListN.{get_or}
use Rattle.calculus.specs.Syntax.{Stmt}
use Rattle.recipe.specs.Tables.{table_of, kind_of}
use Rattle.recipe.specs.Statements.{row_statement, statement_to, statement_at}

module _ (kinds xs ys roots roots' : List ℕ) where
  same_to : (depth : ℕ) → statement_to depth (table_of kinds xs ys roots) ≡ statement_to depth (table_of kinds xs ys roots')
  unfolding statement_to
  same_to zero = refl
  same_to (suc depth) =
      fun_ext (λ i. ap (row_statement (kind_of (get_or kinds i 0)) (get_or xs i 0) (get_or ys i 0)) (same_to depth))

  pub same_statement : (i : ℕ) → statement_at (table_of kinds xs ys roots) i ≡ statement_at (table_of kinds xs ys roots') i
  unfolding statement_at
  same_statement i = ap (λ (at : ℕ → Stmt). at i) (same_to (i + 1))
