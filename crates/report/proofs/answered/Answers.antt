-- With room for the longest listing the answer is never refused, and stands at the front of the bytes.
use Rattle.std.proofs.Common.{◌≡◌, ℕ, List, Result, length, take, sym, ap, ◌∙◌}
use Rattle.std.specs.Result.{result_unwrap_or}
use Rattle.numbers.specs.General.{laid}
use Rattle.numbers.specs.Sizes.{ours}
use Rattle.numbers.specs.declared.Refusal.{Refusal}
use Rattle.io.specs.Counts.{IsPrefixLen}
use Rattle.answer.specs.Answer.{answer_to}
use Rattle.answer.proofs.ReadLaws.{Begins, front_within, front_taken}
use Rattle.answer.proofs.Short.{answer_stands}
use Rattle.report.proofs.answered.Goals as goal

-- A text that was laid at the front of some bytes, by its length.
front-given : (text old : List ℕ) {n : ℕ} {new : List ℕ} → n ≡ length text → new ≡ laid text old → (take n new ≡ text) × IsPrefixLen n new
front-given text old {n} {new} counted f =
    let b : Begins text new = record { old = old; over = f } in
    (front_taken b counted, (front_within b counted, counted ∙ sym (ap length (front_taken b counted))))

pub returns : goal.returns
returns c =
    let stands = answer_stands c.args.sheet.now c.args.bytes.now c.requires c.answer.ensures in
    let counted = c.unwrap_or.ensures ∙ ap (λ (r : Result ℕ Refusal). result_unwrap_or r 0) stands.0 in
    front-given (answer_to ours c.args.sheet.now) c.args.bytes.now counted stands.1
