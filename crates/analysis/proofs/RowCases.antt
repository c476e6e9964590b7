-- A row's summary, kind by kind: the children's pairs are marked one after the other, which is marking the row's own all at once.
-- Assumes nothing.
use mathlib.Core.Path.{◌≡◌, refl, sym, ap, ap₂, ◌∙◌}
use mathlib.Core.List.{List}
use Prim.Native.Nat.{ℕ, ◌<◌}
use native.Mathlib.Omega.{arith}
use lib.ListN.{length}
use Rattle.numbers.specs.Sizes.{Size, ours, matrix_words}
use Rattle.labels.specs.Words.{Words}
use Rattle.labels.specs.Sets.{none, single, union}
use Rattle.matrix.specs.Matrix.{merged, crossed}
use Rattle.matrix.specs.Inner.{cleared}
use Rattle.calculus.specs.Syntax.{Stmt, skip, step, seq, loop, async, finish, call}
use Rattle.recipe.specs.Rules.{IsAdmitted}
use Rattle.recipe.specs.Statements.{statement_at}
use Rattle.recipe.specs.Tables.{Table, Kind, kind_of, rows, kind_at, x_at, y_at, lists_of, procs}
use Rattle.recipe.specs.Inner.{RightSizes}
use Rattle.recipe.proofs.Admitted.{sizes_right_lem, seq_children, loop_child}
use Rattle.recipe.proofs.EachRow.{calls_below}
use Rattle.recipe.proofs.Readings.{statement_skip, statement_step, statement_seq, statement_loop, statement_async, statement_finish, statement_call}
use Rattle.analysis.specs.Summaries.{WordSummary, followed_words, looped_words, spawned_words, waited_words, words_of}
use Rattle.analysis.specs.declared.turn.Turn.{Turn}
use Rattle.analysis.specs.declared.summary.Summary.{Summary}
use Rattle.analysis.specs.Inner.{Whole, marked_into, held_for, row_words}
use Rattle.analysis.proofs.Shape.{Sized, Shaped, by_parts, sized_joined, shaped_called}
use Rattle.analysis.proofs.Into.{crossed_into, merged_into, self_into, none_into, cleared_into}

module _ (z : Size) (t : Table) {held : List Summary} (ok : IsAdmitted z t) (state : Whole z held) (i : ℕ) (there : i < rows t) where
  -- where every procedure has a whole summary, so has every row of an admitted table
  pub shaped_row : Shaped z.words (row_words z.words t held i)
  shaped_row =
      shaped_called z.words (held_for held) (statement_at t i)
      (λ f c. state.of f (calls_below z t ok i there f c))

  -- from nothing, what is marked besides is the statement's own
  pub body_row :
      {s : WordSummary} (m : List ℕ) → length m ≡ matrix_words z.words
      → s ≡ marked_into z.words (cleared z.words m) (row_words z.words t held i) → s ≡ row_words z.words t held i
  body_row m size e = e ∙ by_parts (cleared_into z.words m size shaped_row.M) refl refl

-- A row of an admitted table, worked out from whole summaries into a whole matrix.
pub record Standing (z : Size) (t : Table) (pairs : List ℕ) (held : List Summary) (row : ℕ) : Type 0 where
  pub ok : IsAdmitted z t
  pub state : Whole z held
  pub there : row < rows t
  pub matrix : Sized (matrix_words z.words) pairs

module _ {z : Size} {t : Table} {pairs : List ℕ} {held : List Summary} {row : ℕ} (a : Standing z t pairs held row) where
  abbrev w : ℕ
  w = z.words

  abbrev at : ℕ → Stmt
  at = statement_at t

  abbrev of : ℕ → WordSummary
  of = row_words w t held

  abbrev x : ℕ
  x = x_at t row

  abbrev y : ℕ
  y = y_at t row

  abbrev Is : Kind → Type 0
  Is k = kind_of (kind_at t row) ≡ k

  shaped_child : (i : ℕ) → i < row → Shaped w (of i)
  shaped_child i h = shaped_row z t a.ok a.state i (omega (arith, a.there))

  -- ---- kind by kind

  module _ {s : WordSummary} where
    by_statement : (u : Stmt) → at row ≡ u → s ≡ marked_into w pairs (words_of w (held_for held) u) → s ≡ marked_into w pairs (of row)
    by_statement u e h = h ∙ sym (ap (λ (v : Stmt). marked_into w pairs (words_of w (held_for held) v)) e)

    pub skip_row : Is Kind.skip → s.M ≡ pairs → s.O ≡ none w → s.L ≡ none w → s ≡ marked_into w pairs (of row)
    skip_row k m o l = by_statement skip (statement_skip z t a.ok row a.there k) (by_parts (m ∙ sym (none_into w a.matrix)) o l)

    pub step_row_lem : Is Kind.step → s.M ≡ pairs → s.O ≡ none w → s.L ≡ single w x → s ≡ marked_into w pairs (of row)
    step_row_lem k m o l = by_statement (step x) (statement_step z t a.ok row a.there k) (by_parts (m ∙ sym (none_into w a.matrix)) o l)

    pub call_row_lem : Is Kind.call → s ≡ marked_into w pairs (held_for held x) → s ≡ marked_into w pairs (of row)
    call_row_lem k e = by_statement (call x) (statement_call z t a.ok row a.there k) e

    module _ {u : WordSummary} (p : u ≡ marked_into w pairs (of x)) where
      -- the second is marked besides the first, and what is joined has the pairs of both
      pub seq_row_lem :
          {v : WordSummary} → Is Kind.seq → v ≡ marked_into w u.M (of y)
          → s ≡ followed_words w (record { M = v.M; O = u.O; L = u.L }) v → s ≡ marked_into w pairs (of row)
      seq_row_lem {v} k q e =
          let smaller = seq_children z t a.ok row a.there k in
          let X = shaped_child x smaller.0 in
          let Y = shaped_child y smaller.1 in
          by_statement (seq (at x) (at y)) (statement_seq z t a.ok row a.there k)
          (e
          ∙ by_parts
          (ap₂ (λ (c d : List ℕ). crossed w c d (merged w v.M v.M)) (ap (λ (r : WordSummary). r.O) p) (ap (λ (r : WordSummary). r.L) q)
          ∙ ap (crossed w (of x).O (of y).L)
          (ap (λ (n : List ℕ). merged w n n) (ap (λ (r : WordSummary). r.M) q ∙ ap (λ (r : WordSummary). merged w r.M (of y).M) p)
          ∙ self_into w (merged w (merged w pairs (of x).M) (of y).M)
          ∙ merged_into w a.matrix X.M Y.M)
          ∙ crossed_into w X.O Y.L a.matrix (sized_joined X.M Y.M))
          (ap₂ (λ (c d : WordSummary). union w c.O d.O) p q)
          (ap₂ (λ (c d : WordSummary). union w c.L d.L) p q))

      pub loop_row_lem : Is Kind.loop → s ≡ looped_words w u → s ≡ marked_into w pairs (of row)
      loop_row_lem k e =
          let X = shaped_child x (loop_child z t a.ok row a.there k) in
          by_statement (loop (at x)) (statement_loop z t a.ok row a.there k) (e ∙ ap (looped_words w) p ∙ by_parts (crossed_into w X.O X.L a.matrix X.M) refl refl)

      pub async_row_lem : Is Kind.async → s ≡ spawned_words u → s ≡ marked_into w pairs (of row)
      async_row_lem k e = by_statement (async (at x)) (statement_async z t a.ok row a.there k) (e ∙ ap spawned_words p)

      pub finish_row_lem : Is Kind.finish → s ≡ waited_words w u → s ≡ marked_into w pairs (of row)
      finish_row_lem k e = by_statement (finish (at x)) (statement_finish z t a.ok row a.there k) (e ∙ ap (waited_words w) p)

-- ---- the table that a round works on

abbrev pub on : Turn → Table
on u = lists_of u.recipe.table

pub right_sizes : (u : Turn) → RightSizes ours (rows (on u)) (length (on u).xs) (length (on u).ys) (procs (on u))
right_sizes u = sizes_right_lem ours (on u) u.recipe.admitted

pub standing :
    (u : Turn) {pairs : List ℕ} {row : ℕ} → row < rows (on u) → length pairs ≡ matrix_words ours.words → Words pairs
    → Standing ours (on u) pairs u.held.now row
standing u there size words =
    record { ok = u.recipe.admitted; state = u.whole; there = there; matrix = record { size = size; words = words } }
