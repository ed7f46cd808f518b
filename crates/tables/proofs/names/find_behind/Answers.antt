-- That `find_behind` of src/names.rt keeps its contract.
use Prim.Native.Nat.{ℕ, ◌+◌, ◌*◌}
use mathlib.Core.Path.{sym, ap, ◌∙◌}
use mathlib.Core.List.{List}
use lib.Seq.{length-take-le}
use lib.ListN.{replicate, length-replicate}
use Rattle.tables.specs.Typed.{nth_start}
use Rattle.tables.specs.Names.{behind}
use Rattle.tables.proofs.BareLaws.{bare-whole, bare-fits}
use Rattle.tables.proofs.names.find_behind.Goals as goal

pub slice_bounds-strip-end : goal.slice_bounds-strip-end
slice_bounds-strip-end c = sym (length-replicate {0} {A = ℕ} 65536 0)

pub slice_bounds-room-end : goal.slice_bounds-room-end
slice_bounds-room-end c = bare-fits _ _ _ c.strip-n.ensures

pub slice_bounds-nth_start-end : goal.slice_bounds-nth_start-end
slice_bounds-nth_start-end c = sym (length-take-le _ _ (bare-fits _ _ _ c.strip-n.ensures))

pub returns : goal.returns
unfolding behind
returns c =
    c.nth_start.ensures ∙ ap (λ (x : List ℕ). nth_start x (3 * c.args.i + 3)) (bare-whole c.args.text.now (replicate 65536 0) _ (rw (length-replicate {0} {A = ℕ} 65536 0) c.requires.0) c.strip-n.ensures)
