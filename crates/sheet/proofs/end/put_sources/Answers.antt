-- That `put_sources` of src/end.rt keeps its contract.
use Prim.Native.Nat.{ℕ}
use Rattle.sheet.proofs.OrderLaws.{order-fits}
use Rattle.sheet.proofs.PageLaws.{laid-taken}
use Rattle.sheet.specs.End.{sources_of, sources_part}
use Rattle.text.proofs.WriteLaws.{laid-fits}
use Rattle.text.specs.Text.{write}
use lib.Seq.{length-take-le}
use mathlib.Core.List.{List}
use mathlib.Core.Path.{◌∙◌, ap, sym}
use Rattle.sheet.proofs.end.put_sources.Goals as goal

pub slice_bounds-room-end : goal.slice_bounds-room-end
slice_bounds-room-end c = laid-fits _ _ _ c.put_order-n.ensures

pub slice_bounds-put_ordered-end : goal.slice_bounds-put_ordered-end
slice_bounds-put_ordered-end c = sym (length-take-le _ _ (laid-fits _ _ _ c.put_order-n.ensures))

pub returns : goal.returns
unfolding sources_part
returns c =
    let a = c.args in
    c.put_ordered.ensures
    ∙ ap (λ (is : List ℕ). write (a.out.now, a.at) (sources_of is a.board.now.table a.board.now.names a.board.now.lengths a.s))
    (laid-taken _ _ _ c.put_order-n.ensures (order-fits a.board.now.table a.s.used))
