-- Each turn reads one digit, and ten times a number below a thousand fits with a digit more.
use Rattle.std.proofs.Common.{get_or, sym, ◌∙◌, arith}
use Rattle.text.proofs.DigitLaws.{digit_bounds, std_digit}
use Rattle.text.proofs.FieldLoops.{digits_begin, room_for_a_digit, digits_end, digits_stopped}
use Rattle.text.proofs.FieldLoops.{too_many_digits, no_digit, one_digit_more}
use Rattle.text.proofs.digits_at.Goals as goal
use Rattle.text.proofs.digits_at.Goals.{then-i-most-via-then-i-most, then-i-most-via-else-i-most+then-not-is_ascii_digit}

pub loop-i-init : goal.loop-i-init
loop-i-init c = digits_begin _ _ _ _ c.requires

pub returns-then-b-stop-clause-field : goal.returns-then-b-stop-clause-field
returns-then-b-stop-clause-field c = digits_stopped c.loop-i.invariant c.loop-i-test.true c.if-b-stop.true

pub returns-then-i-most-clause-field : goal.returns-then-i-most-clause-field
returns-then-i-most-clause-field c =
    elim c.then-i-most.branch [
      | then-i-most-via-then-i-most w ↦ too_many_digits c.loop-i.invariant c.loop-i-test.true c.if-b-stop.false w.if-i-most.true
      | then-i-most-via-else-i-most+then-not-is_ascii_digit w ↦
          no_digit c.loop-i.invariant c.loop-i-test.true c.if-b-stop.false (sym (w.if-not-is_ascii_digit.ensures.value ∙ std_digit _))
    ]

pub overflow_mul-n : goal.overflow_mul-n
overflow_mul-n c = omega (arith, room_for_a_digit c.loop-i.invariant c.if-i-most.false)

pub overflow_add-n : goal.overflow_add-n
overflow_add-n c =
    omega (
      arith,
      c.from.ensures,
      room_for_a_digit c.loop-i.invariant c.if-i-most.false,
      digit_bounds (get_or c.args.bytes.now c.loop-i.i 0) (sym (c.if-not-is_ascii_digit.ensures.value ∙ std_digit _)),
    )

pub loop-i-preserved : goal.loop-i-preserved
loop-i-preserved c =
    rw c.from.ensures
    (one_digit_more c.loop-i.invariant c.loop-i-test.true c.if-b-stop.false c.if-i-most.false
    (sym (c.if-not-is_ascii_digit.ensures.value ∙ std_digit _)))

pub returns-clause-field : goal.returns-clause-field
returns-clause-field c = digits_end c.loop-i.invariant c.loop-i-test.false
