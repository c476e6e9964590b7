-- The line is put to a place of its own, which has room for it, and copied from there to the front of the bytes.
use Rattle.std.proofs.Common.{Ok, length, ap, ◌∙◌, arith}
use Rattle.text.proofs.PutLaws.{put_front, put_length}
use Rattle.listing.proofs.ReplyLaws.{fits}
use Rattle.answer.specs.Answer.{refusal_line}
use Rattle.answer.proofs.ReadLaws.{front_taken}
use Rattle.answer.proofs.refuse.Goals as goal

pub returns : goal.returns
returns c =
    let given = c.put_refusal-needed.ensures in
    let counted = put_length given.short given.line in
    let stands = front_taken (record { old = _; over = put_front given.short given.line }) counted in
    record {
      said = ap Ok counted ∙ fits (refusal_line c.args.refusal) (length c.args.bytes.now) (omega (arith, counted, c.if-bytes-needed.false));
      held = cc (counted, stands, c.copy_from_slice.ensures.after);
    }
