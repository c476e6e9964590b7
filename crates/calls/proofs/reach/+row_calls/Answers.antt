-- The kind that the number was read as says what the row's statement calls by its children's, and the row number falls at each call.
use Rattle.std.proofs.Common.{◌≡◌, ℕ, ◌<◌, [], ◌∷◌, refl, sym, ap, ap₂, ◌∙◌, arith}
use Rattle.std.specs.Int.Bits.{bit_or}
use Rattle.calculus.specs.Syntax.{Stmt}
use Rattle.labels.specs.Sets.{single}
use Rattle.labels.proofs.OneWord.{single_one}
use Rattle.numbers.specs.Sizes.{ours}
use Rattle.recipe.specs.Rules.{IsAdmitted}
use Rattle.recipe.specs.Tables.{Table, Kind, kind_of, lists_of, rows, kind_at, x_at}
use Rattle.recipe.proofs.Admitted.{sizes_right_lem, kind_there, seq_children, loop_child, async_child, finish_child, call_target}
use Rattle.recipe.proofs.Readings.{statement_skip, statement_step, statement_seq, statement_loop, statement_async, statement_finish, statement_call}
use Rattle.calls.specs.Inner.{calls_of}
use Rattle.calls.proofs.reach.+row_calls.Goals as goal

-- What a call for a smaller row requires.
smaller : {row rows t : ℕ} → row ≡ t → row < rows → (i : ℕ) → i < row → (i < t) × (i < rows)
smaller e there i h = (omega arith, omega arith)

-- A word that is the calls of what the row stands for.
told : {s s' : Stmt} {v : ℕ} → v ≡ calls_of s → s' ≡ s → v ≡ calls_of s'
told e d = e ∙ sym (ap calls_of d)

-- A call names a procedure that has a bit, and the set of that procedure alone is the calls of its call.
target : (t : Table) → IsAdmitted ours t → (i : ℕ) → i < rows t → kind_of (kind_at t i) ≡ Kind.call → x_at t i < ours.procs
target t ok i l k = omega (arith, call_target ours t ok i l k, (sizes_right_lem ours t ok).few_procs_lem)

sole : {v f : ℕ} → f < ours.procs → v ∷ [] ≡ single ours.words f → v ≡ calls_of (Stmt.call f)
unfolding calls_of
sole {v} {f} h e = let one = single_one f h in cc

pub bounds-table-i : goal.bounds-table-i
bounds-table-i t c =
    omega (arith, (sizes_right_lem ours (lists_of c.args.recipe.now.table) c.args.recipe.now.admitted).xs_match)

pub bounds-table-i-2 : goal.bounds-table-i-2
bounds-table-i-2 t c =
    omega (arith, (sizes_right_lem ours (lists_of c.args.recipe.now.table) c.args.recipe.now.admitted).ys_match)

pub row_calls-requires : goal.row_calls-requires
row_calls-requires t c =
    let k = rw (c.in-Ok-Seq.is, c.in-Ok-Seq.field-0-is) at c.try_from.ensures in
    smaller c.decreases c.requires _ ((seq_children ours (lists_of c.args.recipe.now.table) c.args.recipe.now.admitted c.args.row.0 c.requires k).0)

pub row_calls-requires-in-Ok-Seq : goal.row_calls-requires-in-Ok-Seq
row_calls-requires-in-Ok-Seq t c =
    let k = rw (c.in-Ok-Seq.is, c.in-Ok-Seq.field-0-is) at c.try_from.ensures in
    smaller c.decreases c.requires _ ((seq_children ours (lists_of c.args.recipe.now.table) c.args.recipe.now.admitted c.args.row.0 c.requires k).1)

pub row_calls-requires-in-Ok-Loop : goal.row_calls-requires-in-Ok-Loop
row_calls-requires-in-Ok-Loop t c =
    let k = rw (c.in-Ok-Loop.is, c.in-Ok-Loop.field-0-is) at c.try_from.ensures in
    smaller c.decreases c.requires _ (loop_child ours (lists_of c.args.recipe.now.table) c.args.recipe.now.admitted c.args.row.0 c.requires k)

pub row_calls-requires-in-Ok-Async : goal.row_calls-requires-in-Ok-Async
row_calls-requires-in-Ok-Async t c =
    let k = rw (c.in-Ok-Async.is, c.in-Ok-Async.field-0-is) at c.try_from.ensures in
    smaller c.decreases c.requires _ (async_child ours (lists_of c.args.recipe.now.table) c.args.recipe.now.admitted c.args.row.0 c.requires k)

pub row_calls-requires-in-Ok-Finish : goal.row_calls-requires-in-Ok-Finish
row_calls-requires-in-Ok-Finish t c =
    let k = rw (c.in-Ok-Finish.is, c.in-Ok-Finish.field-0-is) at c.try_from.ensures in
    smaller c.decreases c.requires _ (finish_child ours (lists_of c.args.recipe.now.table) c.args.recipe.now.admitted c.args.row.0 c.requires k)

pub returns-in-Ok-Skip : goal.returns-in-Ok-Skip
unfolding calls_of
returns-in-Ok-Skip t c =
    let k = rw (c.in-Ok-Skip.is, c.in-Ok-Skip.field-0-is) at c.try_from.ensures in
    told refl (statement_skip ours (lists_of c.args.recipe.now.table) c.args.recipe.now.admitted c.args.row.0 c.requires k)

pub returns-in-Ok-Step : goal.returns-in-Ok-Step
unfolding calls_of
returns-in-Ok-Step t c =
    let k = rw (c.in-Ok-Step.is, c.in-Ok-Step.field-0-is) at c.try_from.ensures in
    told refl (statement_step ours (lists_of c.args.recipe.now.table) c.args.recipe.now.admitted c.args.row.0 c.requires k)

pub returns-in-Ok-Seq : goal.returns-in-Ok-Seq
unfolding calls_of
returns-in-Ok-Seq t c =
    let k = rw (c.in-Ok-Seq.is, c.in-Ok-Seq.field-0-is) at c.try_from.ensures in
    told (ap₂ bit_or c.row_calls.ensures c.row_calls-in-Ok-Seq.ensures) (statement_seq ours (lists_of c.args.recipe.now.table) c.args.recipe.now.admitted c.args.row.0 c.requires k)

pub returns-in-Ok-Loop : goal.returns-in-Ok-Loop
unfolding calls_of
returns-in-Ok-Loop t c =
    let k = rw (c.in-Ok-Loop.is, c.in-Ok-Loop.field-0-is) at c.try_from.ensures in
    told c.row_calls-in-Ok-Loop.ensures (statement_loop ours (lists_of c.args.recipe.now.table) c.args.recipe.now.admitted c.args.row.0 c.requires k)

pub returns-in-Ok-Async : goal.returns-in-Ok-Async
unfolding calls_of
returns-in-Ok-Async t c =
    let k = rw (c.in-Ok-Async.is, c.in-Ok-Async.field-0-is) at c.try_from.ensures in
    told c.row_calls-in-Ok-Async.ensures (statement_async ours (lists_of c.args.recipe.now.table) c.args.recipe.now.admitted c.args.row.0 c.requires k)

pub returns-in-Ok-Finish : goal.returns-in-Ok-Finish
unfolding calls_of
returns-in-Ok-Finish t c =
    let k = rw (c.in-Ok-Finish.is, c.in-Ok-Finish.field-0-is) at c.try_from.ensures in
    told c.row_calls-in-Ok-Finish.ensures (statement_finish ours (lists_of c.args.recipe.now.table) c.args.recipe.now.admitted c.args.row.0 c.requires k)

pub returns-in-Ok-Call : goal.returns-in-Ok-Call
returns-in-Ok-Call t c =
    let k = rw (c.in-Ok-Call.is, c.in-Ok-Call.field-0-is) at c.try_from.ensures in
    let table = lists_of c.args.recipe.now.table in
    let ok = c.args.recipe.now.admitted in
    told (sole (target table ok c.args.row.0 c.requires k) c.alone.ensures) (statement_call ours table ok c.args.row.0 c.requires k)

pub returns-in-Err : goal.returns-in-Err
returns-in-Err t c =
    let k = rw c.in-Err.is at c.try_from.ensures in
    absurd (kind_there ours (lists_of c.args.recipe.now.table) c.args.recipe.now.admitted c.args.row.0 c.requires k)
