-- What is done with a line, and why: each case of the definition once, with the tests that lead to it; and that reading goes on by it.
-- Assumes nothing.
use mathlib.Core.Path.{◌≡◌, refl, sym, ap}
use mathlib.Core.List.{List, [], ◌∷◌}
use Prim.Native.Nat.{ℕ, zero, suc, ◌+◌, ◌-◌, ◌≤◌, ◌<◌, min}
use native.Mathlib.Decide.{dec_lt}
use native.Mathlib.Omega.{arith}
use lib.ListN.{length}
use borrow.Author.Tests.{lt-ltb, le-ltb, le-leb, lt-leb}
use Rattle.numbers.specs.Sizes.{Size, row_ceiling, sheet_ceiling}
use Rattle.numbers.specs.declared.Refusal.TheVariants.{LongSheet}
use Rattle.recipe.specs.declared.Row.{Row}
use Rattle.table.specs.Reading.{refused}
use Rattle.sheet.specs.Lines.{Line, line_at, no_line, row_line, root_line, wrong_line}
use Rattle.sheet.specs.Reading.{Step, done, refuse, keep_row, keep_root, wrong_form, no_room, step_of, after_step, read_lines, read_sheet}
use Rattle.sheet.proofs.LineLaws.{no_bytes}

pub data Stepped (R P n m : ℕ) (line : Line) : Step → Type 0 where
  ends : line ≡ no_line → Stepped R P n m line done
  misformed : line ≡ wrong_line → Stepped R P n m line (refuse (wrong_form (n + m)))
  late : {row : Row} {t : List ℕ} → line ≡ row_line row t → 0 < m → Stepped R P n m line (refuse (wrong_form (n + m)))
  row_lacks_lem : {row : Row} {t : List ℕ} → line ≡ row_line row t → m ≡ 0 → R ≤ n → Stepped R P n m line (refuse (no_room (n + m)))
  root_lacks_lem : {root : ℕ} {t : List ℕ} → line ≡ root_line root t → P ≤ m → Stepped R P n m line (refuse (no_room (n + m)))
  row_kept : {row : Row} {t : List ℕ} → line ≡ row_line row t → m ≡ 0 → n < R → Stepped R P n m line (keep_row row t)
  root_kept : {root : ℕ} {t : List ℕ} → line ≡ root_line root t → m < P → Stepped R P n m line (keep_root root t)

module _ (R P n m : ℕ) where
  pub wrong_line_lem : step_of R P n m wrong_line ≡ refuse (wrong_form (n + m))
  unfolding step_of
  wrong_line_lem = refl

  pub late_row : (row : Row) (t : List ℕ) → 0 < m → step_of R P n m (row_line row t) ≡ refuse (wrong_form (n + m))
  unfolding step_of
  late_row row t h = rw (lt-ltb 0 m h)

  pub row_is_kept : (row : Row) (t : List ℕ) → m ≡ 0 → n < R → step_of R P n m (row_line row t) ≡ keep_row row t
  unfolding step_of
  row_is_kept row t z h = rw (le-ltb 0 m (omega arith), lt-ltb n R h)

  pub row_lacks_room : (row : Row) (t : List ℕ) → m ≡ 0 → R ≤ n → step_of R P n m (row_line row t) ≡ refuse (no_room (n + m))
  unfolding step_of
  row_lacks_room row t z h = rw (le-ltb 0 m (omega arith), le-ltb n R h)

  pub root_is_kept : (root : ℕ) (t : List ℕ) → m < P → step_of R P n m (root_line root t) ≡ keep_root root t
  unfolding step_of
  root_is_kept root t h = rw (lt-ltb m P h)

  pub root_lacks_room : (root : ℕ) (t : List ℕ) → P ≤ m → step_of R P n m (root_line root t) ≡ refuse (no_room (n + m))
  unfolding step_of
  root_lacks_room root t h = rw (le-ltb m P h)

  pub stepped : (line : Line) → Stepped R P n m line (step_of R P n m line)
  unfolding step_of
  stepped no_line = ends refl
  stepped wrong_line = misformed refl
  stepped (row_line row t) = by_tests (dec_lt 0 m) (dec_lt n R)
    where
      by_tests : Dec (0 < m) → Dec (n < R) → Stepped R P n m (row_line row t) (step_of R P n m (row_line row t))
      by_tests (yes h) room = rw (late_row row t h) (late refl h)
      by_tests (no h) (yes g) = rw (row_is_kept row t (omega arith) g) (row_kept refl (omega arith) g)
      by_tests (no h) (no g) = rw (row_lacks_room row t (omega arith) (omega arith)) (row_lacks_lem refl (omega arith) (omega arith))
  stepped (root_line root t) = by_test (dec_lt m P)
    where
      by_test : Dec (m < P) → Stepped R P n m (root_line root t) (step_of R P n m (root_line root t))
      by_test (yes h) = rw (root_is_kept root t h) (root_kept refl h)
      by_test (no h) = rw (root_lacks_room root t (omega arith)) (root_lacks_lem refl (omega arith))

-- Reading goes on by what is done with the line, where no more bytes are left than lines may be read: no bytes are no line.
module _ (R P : ℕ) where
  pub reads_on :
      (k : ℕ) (rows : List Row) (roots s : List ℕ) → length s ≤ k
      → read_lines R P k rows roots s ≡ after_step (read_lines R P (k - 1)) rows roots (step_of R P (length rows) (length roots) (line_at s))
  unfolding read_lines step_of
  reads_on zero rows roots [] h = rw no_bytes
  reads_on zero rows roots (b ∷ s) h = absurd (omega arith)
  reads_on (suc k) rows roots s h =
      let less : suc k - 1 ≡ k = omega arith in
      ap (λ (j : ℕ). after_step (read_lines R P j) rows roots (step_of R P (length rows) (length roots) (line_at s))) (sym less)

-- A sheet by its size.
module _ (z : Size) (rowsLent rootsLent : ℕ) (bytes : List ℕ) where
  pub sheet_too_long : sheet_ceiling < length bytes → read_sheet z rowsLent rootsLent bytes ≡ refused LongSheet
  unfolding read_sheet
  sheet_too_long h = rw (lt-leb (length bytes) sheet_ceiling h, read_sheet)

  pub sheet_opened :
      {R P : ℕ} → length bytes ≤ sheet_ceiling → R ≡ min row_ceiling rowsLent → P ≡ min z.procs rootsLent
      → read_sheet z rowsLent rootsLent bytes ≡ read_lines R P (length bytes) [] [] bytes
  unfolding read_sheet
  sheet_opened h r p = rw (r, p, le-leb (length bytes) sheet_ceiling h, read_sheet)
