-- Every summary that the rules give has w words a set and a whole matrix, and each is a word: the rules only join and cross.
-- Assumes nothing.
use mathlib.Core.Path.{◌≡◌, refl, ◌∙◌}
use mathlib.Core.Logic.{inl, inr}
use mathlib.Core.List.{List}
use Prim.Native.Nat.{ℕ, zero, suc}
use lib.ListN.{length-replicate}
use Rattle.numbers.specs.Sizes.{matrix_words}
use Rattle.labels.specs.Sets.{none, single, joined}
use Rattle.labels.proofs.SetLaws.{length_joined, words_joined, words_none, length_single, words_single}
use Rattle.matrix.specs.Matrix.{crossed}
use Rattle.matrix.proofs.MatrixLaws.{length_crossed, words_crossed}
use Rattle.calculus.specs.Syntax.{Stmt, skip, step, seq, loop, async, finish, call, Program, body}
use Rattle.calculus.specs.Calls.{CallsIn}
use Rattle.analysis.specs.Summaries.{WordSummary, empty_words, words_of}
use Rattle.analysis.specs.Rounds.{after}
pub use Rattle.analysis.specs.Inner.{Sized, Shaped}

-- a summary is its three parts
pub by_parts : {x y : WordSummary} → x.M ≡ y.M → x.O ≡ y.O → x.L ≡ y.L → x ≡ y
by_parts m o l = λ i. record { M = m i; O = o i; L = l i }

pub sized_none : (n : ℕ) → Sized n (none n)
sized_none n = record { size = length-replicate n 0; words = words_none n }

pub sized_joined : {n : ℕ} {a b : List ℕ} → Sized n a → Sized n b → Sized n (joined n a b)
sized_joined {n} {a} {b} x y =
    record { size = length_joined n a b ∙ x.size; words = words_joined n a b x.words y.words }

pub sized_crossed :
    {w : ℕ} {a b m : List ℕ} → Sized w a → Sized w b → Sized (matrix_words w) m → Sized (matrix_words w) (crossed w a b m)
sized_crossed {w} {a} {b} {m} x y z =
    record { size = length_crossed w a b m ∙ z.size; words = words_crossed w a b m x.words y.words z.words }

sized_single : (w l : ℕ) → Sized w (single w l)
sized_single w l = record { size = length_single w l; words = words_single w l }

pub shaped_empty : (w : ℕ) → Shaped w (empty_words w)
shaped_empty w = record { M = sized_none (matrix_words w); O = sized_none w; L = sized_none w }

-- only the procedures that the statement calls matter
pub shaped_called : (w : ℕ) (B : ℕ → WordSummary) (s : Stmt) → ((f : ℕ) → CallsIn s f → Shaped w (B f)) → Shaped w (words_of w B s)
shaped_called w B skip b = shaped_empty w
shaped_called w B (step l) b = record { M = sized_none (matrix_words w); O = sized_none w; L = sized_single w l }
shaped_called w B (seq s t) b =
    let x = shaped_called w B s (λ f h. b f (inl h)) in
    let y = shaped_called w B t (λ f h. b f (inr h)) in
    record {
      M = sized_crossed x.O y.L (sized_joined x.M y.M);
      O = sized_joined x.O y.O;
      L = sized_joined x.L y.L;
    }
shaped_called w B (loop s) b =
    let x = shaped_called w B s b in
    record { M = sized_crossed x.O x.L x.M; O = x.O; L = x.L }
shaped_called w B (async s) b = let x = shaped_called w B s b in record { M = x.M; O = x.L; L = x.L }
shaped_called w B (finish s) b =
    let x = shaped_called w B s b in record { M = search (x.M, sized_none); O = sized_none w; L = x.L }
shaped_called w B (call f) b = b f refl

pub shaped : (w : ℕ) (B : ℕ → WordSummary) → ((f : ℕ) → Shaped w (B f)) → (s : Stmt) → Shaped w (words_of w B s)
shaped w B b s = shaped_called w B s (λ f h. b f)

pub shaped_after : (w : ℕ) (p : Program) (k f : ℕ) → Shaped w (after w p k f)
unfolding after
shaped_after w p zero f = shaped_empty w
shaped_after w p (suc k) f = shaped w (after w p k) (shaped_after w p k) (body p f)
