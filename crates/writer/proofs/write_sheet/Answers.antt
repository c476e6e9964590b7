-- A refusal of the judge is handed on, the length of an admitted table's sheet is known before anything is written, and what fits is put.
use Rattle.std.proofs.Common.{ℕ, ◌≡◌, ◌≤◌, length, sym, ap, ◌∙◌, Ok, arith}
use Rattle.std.proofs.lemmas.Result.{err_from_is_err_and}
use Rattle.numbers.specs.Sizes.{ours}
use Rattle.writer.specs.Sheets.{sheet_of}
use Rattle.recipe.specs.Tables.{Table, lists_of}
use Rattle.text.specs.Sinks.{Counts}
use Rattle.text.proofs.PutLaws.{put_front}
use Rattle.text.proofs.Takes.{counted}
use Rattle.writer.specs.Inner.{IsWritable}
use Rattle.writer.proofs.Sizes.{writable_short}
use Rattle.writer.proofs.ReplyLaws.{refused_writing, short_writing, fitting_writing}
use Rattle.writer.proofs.write_sheet.Goals as goal

-- A sheet that can be written is short enough to be counted.
exact : (t : Table) {n : ℕ} → IsWritable ours t → Counts 0 (sheet_of t) n → n ≡ length (sheet_of t)
exact t ok c = counted c (omega (arith, writable_short t ok))

pub returns-in_err-judge-clause-reply : goal.returns-in_err-judge-clause-reply
returns-in_err-judge-clause-reply c =
    let why = err_from_is_err_and c.from_residual.result c.from_residual.ensures.1 in
    rw (why.1, why.2) (refused_writing ours (lists_of c.args.table.now) c.args.bytes.now _ (sym c.in_err-judge.ensures)).0

pub returns-in_err-judge-clause-text : goal.returns-in_err-judge-clause-text
returns-in_err-judge-clause-text c =
    (refused_writing ours (lists_of c.args.table.now) c.args.bytes.now _ (sym c.in_err-judge.ensures)).1

pub returns-then-bytes-needed-clause-reply : goal.returns-then-bytes-needed-clause-reply
returns-then-bytes-needed-clause-reply c =
    (short_writing ours (lists_of c.args.table.now) c.args.bytes.now (sym c.in_ok-judge.ensures)
    (rw (exact (lists_of c.args.table.now) (sym c.in_ok-judge.ensures) c.tell.ensures) at c.if-bytes-needed.true)).0

pub returns-then-bytes-needed-clause-text : goal.returns-then-bytes-needed-clause-text
returns-then-bytes-needed-clause-text c =
    (short_writing ours (lists_of c.args.table.now) c.args.bytes.now (sym c.in_ok-judge.ensures)
    (rw (exact (lists_of c.args.table.now) (sym c.in_ok-judge.ensures) c.tell.ensures) at c.if-bytes-needed.true)).1

pub returns-clause-reply : goal.returns-clause-reply
returns-clause-reply c =
    let t = lists_of c.args.table.now in
    let long = exact t (sym c.in_ok-judge.ensures) c.tell.ensures in
    let fits : length (sheet_of t) ≤ length c.args.bytes.now = rw long at c.if-bytes-needed.false in
    ap Ok long ∙ (fitting_writing ours t c.args.bytes.now (sym c.in_ok-judge.ensures) fits).0

pub returns-clause-text : goal.returns-clause-text
returns-clause-text c =
    let t = lists_of c.args.table.now in
    let long = exact t (sym c.in_ok-judge.ensures) c.tell.ensures in
    let fits : length (sheet_of t) ≤ length c.args.bytes.now = rw long at c.if-bytes-needed.false in
    let stands = put_front fits c.tell-2.ensures.1 in
    let same = sym c.tell-2.ensures.0 in
    let written = (fitting_writing ours t c.args.bytes.now (sym c.in_ok-judge.ensures) fits).1 in
    grind (arith, stands, same, written)
