-- That `read_table` of src/lib.rt keeps its contract.
use Prim.Native.Nat.{ℕ}
use mathlib.Core.Path.{sym, ap, ◌∙◌}
use lib.Seq.{length-take-le}
use lib.ListN.{replicate, length-replicate}
use Rattle.tables.proofs.ReadLaws.{too_long_lem, not_long}
use Rattle.tables.proofs.NameLaws.{length-cleared, written-whole, written-fits}
use Rattle.tables.specs.Reading.{read_bare}
use Rattle.tables.proofs.read_table.Goals as goal

pub returns-then-text-gt-MOST : goal.returns-then-text-gt-MOST
returns-then-text-gt-MOST c = too_long_lem _ _ c.if-text-gt-MOST.true c.refused_at.ensures

pub slice_bounds-clear-end : goal.slice_bounds-clear-end
slice_bounds-clear-end c = sym (length-replicate {0} {A = ℕ} 65536 0)

pub slice_bounds-room-end : goal.slice_bounds-room-end
slice_bounds-room-end c = written-fits _ _ _ c.clear-n.ensures

pub slice_bounds-read_bare-end : goal.slice_bounds-read_bare-end
slice_bounds-read_bare-end c = sym (length-take-le _ _ (written-fits _ _ _ c.clear-n.ensures))

pub returns : goal.returns
returns c =
    let s = c.args.text.now in
    let l = c.if-text-gt-MOST.false in
    not_long s _ l (c.read_bare.ensures ∙ ap read_bare (written-whole _ (replicate 65536 0) _ (rw (length-cleared s, length-replicate {0} {A = ℕ} 65536 0) l) c.clear-n.ensures))
