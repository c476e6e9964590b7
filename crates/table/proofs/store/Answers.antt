-- As many elements are copied as both sides have.
use Rattle.std.proofs.Common.{◌≡◌, sym, length, min, arith}
use Rattle.table.proofs.Overlaid.{overlaid_is}
use Rattle.table.proofs.store.Goals as goal

pub returns : goal.returns
returns g c =
    let a = c.args in
    let m : c.least-m.result ≡ min (min a.n (length a.kept.now)) (length a.lent.now) = omega arith in
    rw (c.copy_from_slice.ensures.after, m) (sym (overlaid_is a.n a.kept.now a.lent.now))
