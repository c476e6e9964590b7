-- The answer is no at the first procedure that is in both, and yes past all.
use Rattle.std.proofs.Common.{◌≡◌, ◌≤◌, ◌<◌, ◌∙◌, ℕ, List, Bool, [], ◌∷◌, sym, ap, not, get_or, length, take, arith}
use Rattle.std.specs.Prelude.{eqb}
use Rattle.std.proofs.lemmas.List.{get_or-take, length-take}
use Rattle.std.specs.Int.Bits.{bit_and}
use Rattle.labels.specs.Sets.{member}
use Rattle.labels.specs.Words.{bit}
use Rattle.numbers.proofs.EveryLaws.{every_none}
use Rattle.calls.proofs.SetLaws.{every_more, fails_every, unset}
use Rattle.calls.proofs.reach.Reach.none_in_both.Goals as goal

pub loop-f-init : goal.loop-f-init
loop-f-init c = every_none _

-- Whether f is not in both sets, by what was found of the one that was read.
told :
    (sets : List ℕ) (n f : ℕ) {found : Bool} → f < length (take n sets) → n ≤ 64
    → found ≡ eqb (member (bit_and (get_or sets 0 0) (get_or (take n sets) f 0) ∷ []) f) 1
    → eqb (bit (bit_and (get_or sets 0 0) (get_or sets f 0)) f) 0 ≡ not found
told sets n f l few e =
    let below : f < n = omega (arith, length-take n sets) in
    ap (λ (set : ℕ). eqb (bit (bit_and (get_or sets 0 0) set) f) 0) (sym (get_or-take n sets f 0 below)) ∙ unset _ f (omega arith) ∙ ap not (sym e)

pub returns-then-is_in : goal.returns-then-is_in
returns-then-is_in c =
    let self = c.args.self.now in
    sym (fails_every _ _ c.loop-f.f (omega (arith, length-take self.procs.number self.sets))
    (told self.sets self.procs.number c.loop-f.f c.loop-f-test.true self.procs.few c.is_in.ensures ∙ ap not c.if-is_in.true))

pub loop-f-preserved : goal.loop-f-preserved
loop-f-preserved c =
    let self = c.args.self.now in
    every_more _ c.loop-f.f c.loop-f.invariant
    (told self.sets self.procs.number c.loop-f.f c.loop-f-test.true self.procs.few c.is_in.ensures ∙ ap not c.if-is_in.false)
