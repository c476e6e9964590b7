-- As many turns as there are rows and places store as many rows.
use Rattle.std.proofs.Common.{◌≡◌, ℕ, List, ◌∙◌, min, length, ◌<◌, ◌≤◌, map, refl, arith}
use Rattle.std.proofs.lemmas.List.{length-take, length-map}
use Rattle.recipe.specs.declared.Row.{Row}
use Rattle.table.specs.Inner.{blank, overlaid}
use Rattle.table.specs.Reading.{row_places}
use Rattle.table.proofs.Overlaid.{overlaid_next, overlaid_as_many}
use Rattle.table.proofs.store_rows.Goals as goal

pub loop-i-init : goal.loop-i-init
unfolding overlaid
loop-i-init c = (refl, refl, refl)

pub loop-i-preserved : goal.loop-i-preserved
loop-i-preserved c =
    let a = c.args in
    let next = λ (f : Row → ℕ) (old held : List ℕ) (e : held ≡ overlaid c.loop-i.i (map f a.rows.now) old) (q : c.loop-i.i < length old).
    overlaid_next f blank c.loop-i.i c.least-m.result a.rows.now old e c.loop-i-test.true q in
    let in-m : c.loop-i.i < c.least-m.result = omega (arith, length-take c.least-m.result a.rows.now) in (
      next (λ (row : Row). row.kind) a.kinds.now _ c.loop-i.invariant.0 (omega arith),
      next (λ (row : Row). row.x) a.xs.now _ c.loop-i.invariant.1 (omega arith),
      next (λ (row : Row). row.y) a.ys.now _ c.loop-i.invariant.2 (omega arith),
    )

-- Where as many are stored as there are rows and places, no more fit.
no_more : (n places rows old : ℕ) → places ≤ old → min (min (min (min n places) rows) rows) old ≡ min (min (min n places) rows) old
no_more n places rows old fits = omega arith

pub returns : goal.returns
returns c =
    let a = c.args in
    let rows = a.rows.now in
    let places = row_places a.kinds.now a.xs.now a.ys.now in
    let all : c.loop-i.i ≡ min (min a.n places) (length rows) = omega (arith, length-take c.least-m.result rows) in
    let ended = λ (f : Row → ℕ) (old held : List ℕ) (e : held ≡ overlaid c.loop-i.i (map f rows) old) (fits : places ≤ length old).
    e
    ∙ overlaid_as_many c.loop-i.i (min a.n places) (map f rows) old
    (rw (length-map rows f, all) (no_more a.n places (length rows) (length old) fits)) in (
      ended (λ (row : Row). row.kind) a.kinds.now _ c.loop-i.invariant.0 (omega arith),
      ended (λ (row : Row). row.x) a.xs.now _ c.loop-i.invariant.1 (omega arith),
      ended (λ (row : Row). row.y) a.ys.now _ c.loop-i.invariant.2 (omega arith),
    )
