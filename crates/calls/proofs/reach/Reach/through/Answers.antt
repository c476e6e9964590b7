-- A turn joins the set of k, as it was before the first turn, to one more set that k is in.
use Rattle.std.proofs.Common.{ℕ, List, ◌≡◌, cond, get_or, ap, ◌∙◌, arith}
use Rattle.std.specs.Int.Bits.{bit_or}
use Rattle.labels.proofs.InPlace.{begins, goes_on_lem, part_ends}
use Rattle.calls.proofs.SetLaws.{joined_if}
use Rattle.calls.proofs.reach.Reach.through.Goals as goal
use Rattle.calls.proofs.reach.Reach.through.Goals.{then-is_in, else-is_in}

pub loop-set-init : goal.loop-set-init
loop-set-init c = begins (omega arith)

pub loop-set-preserved : goal.loop-set-preserved
loop-set-preserved c =
    let set = get_or c.loop-set.set-items c.loop-set.set-index 0 in
    let via = get_or c.args.self.now.sets c.args.k.0 0 in
    let e : c.if-is_in.more ≡ cond c.is_in.result via 0 = elim c.if-is_in.branch [ then-is_in w ↦ rw w.if-is_in.true w.more-is | else-is_in w ↦ rw w.if-is_in.false w.more-is ] in
    goes_on_lem c.loop-set.invariant (omega arith)
    (ap (bit_or set) (e ∙ ap (λ b. cond b via 0) c.is_in.ensures ∙ joined_if set c.args.k.0 via (omega (arith, c.requires, c.args.self.now.procs.few))))

pub returns : goal.returns
returns c =
    let self = c.args.self.now in
    ap (λ (sets : List ℕ). record self { sets = sets })
    (part_ends self.procs.number self.sets (omega arith) c.loop-set.invariant c.loop-set-test.false)
