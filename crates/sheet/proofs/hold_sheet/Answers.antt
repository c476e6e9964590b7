-- Whatever line stands at the place, what is done with it is right; and the sheet is short enough, so its reading is that of its lines.
use Rattle.std.proofs.Common.{◌≡◌, ◌≤◌, ℕ, List, length, min, sym, ap, ◌∙◌, arith, Ok, Err, Some, None}
use Rattle.std.proofs.lemmas.Result.{err_from_is_err_and}
use Rattle.numbers.specs.Sizes.{ours, row_ceiling, sheet_ceiling}
use Rattle.table.specs.Inner.{held_of}
use Rattle.sheet.specs.declared.lines.Line.TheVariants.{Row, Root}
use Rattle.sheet.specs.Reading.{read_sheet}
use Rattle.sheet.proofs.StepLaws.{sheet_too_long, sheet_opened}
use Rattle.sheet.proofs.Keeping.{whole, nothing_kept, kept_on}
use Rattle.sheet.proofs.hold_sheet.Goals as goal

pub returns-then-bytes-gt-CEILING : goal.returns-then-bytes-gt-CEILING
returns-then-bytes-gt-CEILING c =
    ap held_of (sym (sheet_too_long ours c.args.places.rows c.args.places.roots c.args.bytes.now (omega arith)))

pub loop-line-init : goal.loop-line-init
loop-line-init c = nothing_kept _ _ _ _ (omega arith) (omega arith) c.empty-held.ensures

-- The reading of a short sheet is that of its lines, with room for what is lent up to the ceilings.
opened :
    (bytes : List ℕ) (rowsLent rootsLent : ℕ) {R P : ℕ} → length bytes ≤ sheet_ceiling
    → (R ≡ min row_ceiling rowsLent) × (P ≡ min ours.procs rootsLent) → read_sheet ours rowsLent rootsLent bytes ≡ whole bytes R P
opened bytes rowsLent rootsLent short fits = sheet_opened ours rowsLent rootsLent bytes short fits.0 fits.1

pub returns-in_err-line : goal.returns-in_err-line
returns-in_err-line c =
    let p = err_from_is_err_and c.from_residual.result c.from_residual.ensures.1 in
    rw (p.1, p.2)
    (ap held_of
    (sym (opened c.args.bytes.now c.args.places.rows c.args.places.roots (omega arith) c.within_ceilings-room.ensures
    ∙ kept_on c.loop-line.invariant (Err c.in_err-line.field-0.0) c.in_err-line.ensures)))

pub bounds-held-kept : goal.bounds-held-kept
bounds-held-kept c =
    let step = rw (c.in-Some.is, c.in-Row.is) at c.in_ok-line.ensures in
    omega (arith, (kept_on c.loop-line.invariant (Ok (Some (Row c.in-Row.row, c.in-Some.next))) step).0)

pub loop-line-smaller-in-Row : goal.loop-line-smaller-in-Row
loop-line-smaller-in-Row c =
    let step = rw (c.in-Some.is, c.in-Row.is) at c.in_ok-line.ensures in
    omega (arith, (kept_on c.loop-line.invariant (Ok (Some (Row c.in-Row.row, c.in-Some.next))) step).0)

pub loop-line-preserved-in-Row : goal.loop-line-preserved-in-Row
loop-line-preserved-in-Row c =
    let step = rw (c.in-Some.is, c.in-Row.is) at c.in_ok-line.ensures in
    (kept_on c.loop-line.invariant (Ok (Some (Row c.in-Row.row, c.in-Some.next))) step).1

pub bounds-held-kept-in-Root : goal.bounds-held-kept-in-Root
bounds-held-kept-in-Root c =
    let step = rw (c.in-Some.is, c.in-Root.is) at c.in_ok-line.ensures in
    omega (arith, (kept_on c.loop-line.invariant (Ok (Some (Root c.in-Root.root, c.in-Some.next))) step).0)

pub loop-line-smaller : goal.loop-line-smaller
loop-line-smaller c =
    let step = rw (c.in-Some.is, c.in-Root.is) at c.in_ok-line.ensures in
    omega (arith, (kept_on c.loop-line.invariant (Ok (Some (Root c.in-Root.root, c.in-Some.next))) step).0)

pub loop-line-preserved : goal.loop-line-preserved
loop-line-preserved c =
    let step = rw (c.in-Some.is, c.in-Root.is) at c.in_ok-line.ensures in
    (kept_on c.loop-line.invariant (Ok (Some (Root c.in-Root.root, c.in-Some.next))) step).1

pub returns : goal.returns
returns c =
    let step = rw c.in_default.is at c.in_ok-line.ensures in
    kept_on c.loop-line.invariant (Ok None) step
    ∙ ap held_of (sym (opened c.args.bytes.now c.args.places.rows c.args.places.roots (omega arith) c.within_ceilings-room.ensures))
