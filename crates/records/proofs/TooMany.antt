-- More rows than a table can have are refused for their sizes, and leave the matrix and the bytes, since the judge tries the sizes first.
-- Assumes nothing.
use mathlib.Core.Path.{◌≡◌, refl, sym}
use mathlib.Core.Bool.{Bool, true, false}
use mathlib.Core.List.{List}
use Prim.Native.Nat.{ℕ, ◌<◌}
use native.Mathlib.Omega.{arith}
use lib.ListN.{length, length-map}
use Rattle.std.specs.Prelude.{Err}
use Rattle.numbers.specs.Sizes.{Size, row_ceiling}
use Rattle.recipe.specs.Records.{table_of_rows}
use Rattle.recipe.specs.Rules.{sizes_fit, judged_with}
use Rattle.recipe.specs.Tables.{Table, rows, procs}
use Rattle.numbers.specs.declared.Refusal.TheVariants.{Sizes}
use Rattle.recipe.specs.declared.Row.{Row}
use Rattle.recipe.proofs.Judging.{sized}
use Rattle.recipe.proofs.WithMatrix.{wrong_sizes}
use Rattle.analysis.specs.Replies.{analysed, matrix_after}
use Rattle.listing.specs.Replies.{listed, matrix_listed, bytes_listed}
use Rattle.records.specs.Inner.{Answers, Lists}

module _ (z : Size) where
  wrong : (t : Table) → row_ceiling < rows t → sizes_fit z t ≡ false
  wrong t h = go (sizes_fit z t) refl
    where
      go : (b : Bool) → sizes_fit z t ≡ b → b ≡ false
      go true e = absurd (omega (arith, (sized z (rows t) (length t.xs) (length t.ys) (procs t) e).few_rows_lem))
      go false e = refl

module _ (z : Size) (rows : List Row) (roots m : List ℕ) (h : row_ceiling < length rows) where
  judged_so : judged_with z (table_of_rows rows roots) (length m) ≡ Err Sizes
  judged_so =
      let t = table_of_rows rows roots in
      sym (wrong_sizes z t (length m) (wrong z t (omega (arith, length-map rows (λ (r : Row). r.kind)))))

  pub too_many : Answers z rows roots m (Err Sizes) m
  unfolding analysed matrix_after
  too_many = rw judged_so (refl, refl)

  pub too_many_listed : (b : List ℕ) → Lists z rows roots m b (Err Sizes) m b
  unfolding listed matrix_listed bytes_listed
  too_many_listed b = rw judged_so (refl, refl, refl)

  -- Each part apart.
  pub too_many_reply : Err Sizes ≡ analysed z (table_of_rows rows roots) (length m)
  too_many_reply = too_many.0

  pub too_many_pairs : m ≡ matrix_after z (table_of_rows rows roots) m
  too_many_pairs = too_many.1

  pub too_many_listed_reply : (b : List ℕ) → Err Sizes ≡ listed z (table_of_rows rows roots) (length m) (length b)
  too_many_listed_reply b = (too_many_listed b).0

  pub too_many_listed_pairs : (b : List ℕ) → m ≡ matrix_listed z (table_of_rows rows roots) m (length b)
  too_many_listed_pairs b = (too_many_listed b).1

  pub too_many_listed_bytes : (b : List ℕ) → b ≡ bytes_listed z (table_of_rows rows roots) (length m) b
  too_many_listed_bytes b = (too_many_listed b).2

-- What too many rows come to, in the analysis and in the listing.
pub ruleset analysing_too_many = (too_many_reply, too_many_pairs)

pub ruleset listing_too_many = (too_many_listed_reply, too_many_listed_pairs, too_many_listed_bytes)
