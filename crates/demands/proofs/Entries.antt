-- Demands 2 and 3 of every entry that is lent a matrix, from an admitted recipe and 64 words on: each contract gives the reply and the later words that
-- `Reported` speaks of, the listing's where the listing fits the lent bytes. And what the verdict exact means there, of any recipe: a reply that is a length tells
-- that the recipe is admitted, the matrix whole and the listing in front of the bytes. `Post` is a contract itself; `Answers`, `Lists` and `Analyses` are what
-- contracts state (`records` and `panel`, proofs/Unique.antt). Assumes nothing.
use mathlib.Core.Path.{◌≡◌, refl, sym, ap, ◌∙◌, subst}
use mathlib.Core.Logic.{◌↔◌}
use mathlib.Core.Bool.{Bool, false}
use mathlib.Core.List.{List, ◌++◌}
use Prim.Native.Nat.{ℕ, ◌≤◌, ◌<◌}
use native.Mathlib.Omega.{arith}
use lib.ListN.{length}
use Rattle.std.specs.Prelude.{Result, Ok, Err}
use Rattle.numbers.specs.General.{laid}
use Rattle.numbers.specs.declared.Refusal.{Refusal}
use Rattle.numbers.specs.Sizes.{Size, ours, matrix_words}
use Rattle.matrix.specs.Matrix.{pairs_at_or_above}
use Rattle.calculus.specs.Syntax.{Program}
use Rattle.calculus.specs.Calls.{NoSelfCall}
use Rattle.recipe.specs.Records.{table_of_rows}
use Rattle.recipe.specs.Rules.{IsAdmitted, judged_with}
use Rattle.recipe.specs.Statements.{program_of}
use Rattle.recipe.specs.Tables.{Table, table_of, lists_of}
use Rattle.recipe.specs.declared.Row.{Row}
use Rattle.recipe.proofs.WithMatrix.{admitted_with, admitted_still}
use Rattle.calls.proofs.ReachedLaws.{exact_no_self_call, no_self_call_exact}
use Rattle.analysis.specs.Replies.{rounds, main_pairs, analysed}
use Rattle.listing.specs.Listing.{opening}
use Rattle.listing.specs.Replies.{listing_of, listed_as, listed, matrix_listed, bytes_listed}
use Rattle.listing.proofs.ReplyLaws.{fits}
use Rattle.listing.proofs.OpeningSays.{program_says, program_opens}
use Rattle.listing.proofs.Sizes.{listed_held}
use Rattle.listing.proofs.list_pairs.Reads.{Post as list-pairs-post}
use Rattle.records.specs.Inner.{Answers, Lists}
use Rattle.panel.specs.Codes.{number_unit, reply_code}
use Rattle.panel.proofs.ReadBack.{success_told}
use Rattle.panel.proofs.Unique as panel
use Rattle.panel.proofs.bushkalote_analyse.Reads.{Post as c-analyse-post}
use Rattle.panel.proofs.bushkalote_list_pairs.Reads.{Post as c-list-pairs-post}
use Rattle.demands.specs.Demanded.{Demanded}
use Rattle.demands.specs.Exact.{SaysExact, ExactMeans}
use Rattle.demands.proofs.Reported.{reported_reply, reported_demands}

-- ---- a listing that fits

module _
    (t : Table)
    (ok : IsAdmitted ours t)
    (m b : List ℕ)
    (room : matrix_words ours.words ≤ length m)
    (long : length (listing_of ours (program_of t)) ≤ length b)
  where
    -- the reply is the listing's length, and no refusal
    pub listed_reply : listed ours t (length m) (length b) ≡ Ok (length (listing_of ours (program_of t)))
    unfolding listed
    listed_reply =
        ap (listed_as ours (program_of t) (length b)) (admitted_still ours t (length m) ok room) ∙ sym (fits (listing_of ours (program_of t)) (length b) long)

    -- the words are those of the analysis
    pub listed_demands : (m' : List ℕ) → m' ≡ matrix_listed ours t m (length b) → Demanded (program_of t) m m'
    listed_demands m' held =
        reported_demands t ok m room m' (held ∙ (listed_held ours t m b (length (listing_of ours (program_of t))) listed_reply).0)

-- ---- a reply that is a length

-- it is given of an admitted table with a whole matrix only
pub length_of_admitted :
    (z : Size) (t : Table) (words room n : ℕ) → listed z t words room ≡ Ok n → IsAdmitted z t × (matrix_words z.words ≤ words)
unfolding listed
length_of_admitted z t words room n e = go (judged_with z t words) refl
  where
    go : (j : Result Unit Refusal) → judged_with z t words ≡ j → IsAdmitted z t × (matrix_words z.words ≤ words)
    go (Ok _) j = admitted_with z t words j
    go (Err r) j = let n : ◌≡◌ {A = ℕ} 0 1 = cc (ap (listed_as z (program_of t) room) j) in absurd (omega arith)

-- in C, it is a number below the unit of a refusal
length_of_number : (x : Result ℕ Refusal) (n : ℕ) → n ≡ reply_code x → n < number_unit → x ≡ Ok n
length_of_number (Ok k) n e h = ap Ok (sym e)
length_of_number (Err r) n e h = success_told n r h e

-- bytes that begin with a listing say exact exactly where no procedure that main can reach, main included, can reach itself
pub listing_exactly : (p : Program) (b : List ℕ) → SaysExact (laid (listing_of ours p) b) ↔ NoSelfCall p
listing_exactly p b = (
  λ says. exact_no_self_call p (program_says ours p b says.count says.rounds false says.rest says.bytes),
  λ none.
      let own = program_opens ours p b in
      let count = pairs_at_or_above ours.words (main_pairs ours.words p) in
      record {
        count = count;
        rounds = rounds ours.words p;
        rest = own.0;
        bytes = own.1 ∙ ap (λ (wide : Bool). opening count (rounds ours.words p) wide ++ own.0) (no_self_call_exact p none);
      },
)

-- what the verdict exact then means of the later words and bytes
pub listed_exact :
    (t : Table) (m b : List ℕ) (n : ℕ) → listed ours t (length m) (length b) ≡ Ok n
    → (m' b' : List ℕ) → m' ≡ matrix_listed ours t m (length b) → b' ≡ bytes_listed ours t (length m) b → ExactMeans (program_of t) m' b'
listed_exact t m b n said m' b' matrix bytes =
    record { exactly = exactly; met = λ says. demanded.met (exactly.0 says) }
  where
    exactly : SaysExact b' ↔ NoSelfCall (program_of t)
    exactly =
        subst (λ (x : List ℕ). SaysExact x ↔ NoSelfCall (program_of t)) (sym (bytes ∙ (listed_held ours t m b n said).1))
        (listing_exactly (program_of t) b)

    demanded : Demanded (program_of t) m m'
    demanded =
        let whole = length_of_admitted ours t (length m) (length b) n said in
        reported_demands t whole.0 m whole.1 m' (matrix ∙ (listed_held ours t m b n said).0)

-- ---- the listing of three slices

module _ (κs a r s : _) (met : list-pairs-post κs a r s) where
  abbrev t : Table
  t = lists_of a.0.now

  abbrev lent : List ℕ
  lent = a.1.0.now

  abbrev bytes : List ℕ
  bytes = a.1.1.0.now

  pub list_pairs_exact : (n : ℕ) → r ≡ Ok n → ExactMeans (program_of t) s.1.0.now s.1.1.0.now
  list_pairs_exact n done =
      listed_exact t lent bytes n (sym met.0 ∙ done) s.1.0.now s.1.1.0.now met.1.0 met.1.1

  module _
      (ok : IsAdmitted ours t)
      (room : matrix_words ours.words ≤ length lent)
      (long : length (listing_of ours (program_of t)) ≤ length bytes)
    where
      pub list_pairs_reply : r ≡ Ok (length (listing_of ours (program_of t)))
      list_pairs_reply = met.0 ∙ listed_reply t ok lent bytes room long

      pub list_pairs_demands : Demanded (program_of t) lent s.1.0.now
      list_pairs_demands = listed_demands t ok lent bytes room long s.1.0.now met.1.0

-- ---- the entries on records

module _
    (rows : List Row)
    (roots m : List ℕ)
    (ok : IsAdmitted ours (table_of_rows rows roots))
    (room : matrix_words ours.words ≤ length m)
  where
    abbrev program : Program
    program = program_of (table_of_rows rows roots)

    pub analyse_rows_reply : (r : Result ℕ Refusal) (m' : List ℕ) → Answers ours rows roots m r m' → r ≡ Ok (rounds ours.words program)
    analyse_rows_reply r m' met = reported_reply (table_of_rows rows roots) ok m room r met.0

    pub analyse_rows_demands : (r : Result ℕ Refusal) (m' : List ℕ) → Answers ours rows roots m r m' → Demanded program m m'
    analyse_rows_demands r m' met = reported_demands (table_of_rows rows roots) ok m room m' met.1

    pub list_rows_reply :
        (b : List ℕ) (r : Result ℕ Refusal) (m' b' : List ℕ) → Lists ours rows roots m b r m' b' → length (listing_of ours program) ≤ length b
        → r ≡ Ok (length (listing_of ours program))
    list_rows_reply b r m' b' met long = met.0 ∙ listed_reply (table_of_rows rows roots) ok m b room long

    pub list_rows_demands :
        (b : List ℕ) (r : Result ℕ Refusal) (m' b' : List ℕ) → Lists ours rows roots m b r m' b' → length (listing_of ours program) ≤ length b → Demanded program m m'
    list_rows_demands b r m' b' met long = listed_demands (table_of_rows rows roots) ok m b room long m' met.1

    -- the same two for a caller in C, whose number is the count of rounds, or the length
    pub c_analyse_rows_reply : (n : ℕ) (m' : List ℕ) → panel.Analyses rows roots m n m' → n ≡ rounds ours.words program
    c_analyse_rows_reply n m' met =
        met.0 ∙ ap reply_code (reported_reply (table_of_rows rows roots) ok m room (analysed ours (table_of_rows rows roots) (length m)) refl)

    pub c_analyse_rows_demands : (n : ℕ) (m' : List ℕ) → panel.Analyses rows roots m n m' → Demanded program m m'
    c_analyse_rows_demands n m' met = reported_demands (table_of_rows rows roots) ok m room m' met.1

    pub c_list_rows_reply :
        (b : List ℕ) (n : ℕ) (m' b' : List ℕ) → panel.Lists rows roots m b n m' b' → length (listing_of ours program) ≤ length b
        → n ≡ length (listing_of ours program)
    c_list_rows_reply b n m' b' met long = met.0 ∙ ap reply_code (listed_reply (table_of_rows rows roots) ok m b room long)

    pub c_list_rows_demands :
        (b : List ℕ) (n : ℕ) (m' b' : List ℕ) → panel.Lists rows roots m b n m' b' → length (listing_of ours program) ≤ length b → Demanded program m m'
    c_list_rows_demands b n m' b' met long = listed_demands (table_of_rows rows roots) ok m b room long m' met.1

module _ (rows : List Row) (roots m b : List ℕ) (n : ℕ) (m' b' : List ℕ) where
  abbrev recorded : Table
  recorded = table_of_rows rows roots

  pub list_rows_exact : Lists ours rows roots m b (Ok n) m' b' → ExactMeans (program_of recorded) m' b'
  list_rows_exact met = listed_exact recorded m b n (sym met.0) m' b' met.1 met.2

  pub c_list_rows_exact : panel.Lists rows roots m b n m' b' → n < number_unit → ExactMeans (program_of recorded) m' b'
  c_list_rows_exact met done =
      listed_exact recorded m b n (length_of_number (listed ours recorded (length m) (length b)) n met.0 done) m' b' met.1 met.2

-- ---- the entries on slices for a caller in C

module _ (κs a n s : _) (met : c-analyse-post κs a n s) where
  abbrev c_t : Table
  c_t = table_of a.0.now a.1.0.now a.1.1.0.now a.1.1.1.0.now

  abbrev c_lent : List ℕ
  c_lent = a.1.1.1.1.0.now

  pub c_analyse_reply : IsAdmitted ours c_t → matrix_words ours.words ≤ length c_lent → n ≡ rounds ours.words (program_of c_t)
  c_analyse_reply ok room = met.0 ∙ ap reply_code (reported_reply c_t ok c_lent room (analysed ours c_t (length c_lent)) refl)

  pub c_analyse_demands : IsAdmitted ours c_t → matrix_words ours.words ≤ length c_lent → Demanded (program_of c_t) c_lent s.1.1.1.1.0.now
  c_analyse_demands ok room = reported_demands c_t ok c_lent room s.1.1.1.1.0.now met.1

module _ (κs a n s : _) (met : c-list-pairs-post κs a n s) where
  abbrev l_t : Table
  l_t = table_of a.0.now a.1.0.now a.1.1.0.now a.1.1.1.0.now

  abbrev l_lent : List ℕ
  l_lent = a.1.1.1.1.0.now

  abbrev l_bytes : List ℕ
  l_bytes = a.1.1.1.1.1.0.now

  pub c_list_pairs_exact : n < number_unit → ExactMeans (program_of l_t) s.1.1.1.1.0.now s.1.1.1.1.1.0.now
  c_list_pairs_exact done =
      listed_exact l_t l_lent l_bytes n (length_of_number (listed ours l_t (length l_lent) (length l_bytes)) n met.0 done) s.1.1.1.1.0.now
      s.1.1.1.1.1.0.now met.1.0 met.1.1

  module _
      (ok : IsAdmitted ours l_t)
      (room : matrix_words ours.words ≤ length l_lent)
      (long : length (listing_of ours (program_of l_t)) ≤ length l_bytes)
    where
      pub c_list_pairs_reply : n ≡ length (listing_of ours (program_of l_t))
      c_list_pairs_reply = met.0 ∙ ap reply_code (listed_reply l_t ok l_lent l_bytes room long)

      pub c_list_pairs_demands : Demanded (program_of l_t) l_lent s.1.1.1.1.0.now
      c_list_pairs_demands = listed_demands l_t ok l_lent l_bytes room long s.1.1.1.1.0.now met.1.0
