-- That `clear` of src/names.rt keeps its contract.
use Prim.Native.Nat.{ℕ}
use native.Mathlib.Omega.{arith}
use mathlib.Core.Path.{sym, ap, ◌∙◌}
use lib.Seq.{length-take-le}
use lib.ListN.{length, replicate, length-replicate}
use Rattle.text.specs.Text.{write}
use Rattle.tables.proofs.NameLaws.{written-whole, written-fits, took-length, front_fits, front-cleared}
use Rattle.tables.proofs.names.clear.Goals as goal

pub slice_bounds-put_all-end : goal.slice_bounds-put_all-end
slice_bounds-put_all-end c = sym (length-replicate {0} {A = ℕ} 65536 0)

pub slice_bounds-room-end : goal.slice_bounds-room-end
slice_bounds-room-end c = written-fits _ _ _ c.put_all-n.ensures

pub slice_bounds-take_names-end : goal.slice_bounds-take_names-end
slice_bounds-take_names-end c = sym (length-take-le _ _ (written-fits _ _ _ c.put_all-n.ensures))

pub take_names-requires : goal.take_names-requires
take_names-requires c =
    omega (arith, c.requires, ap length (written-whole c.args.text.now (replicate 65536 0) _ (rw (length-replicate {0} {A = ℕ} 65536 0) c.requires) c.put_all-n.ensures))

pub slice_bounds-room-end-2 : goal.slice_bounds-room-end-2
slice_bounds-room-end-2 c =
    let p = c.put_all-n in
    let x = c.take_names.new.text in
    front_fits x p.new.out p.result (took-length x p.new.out p.result (written-fits _ _ _ p.ensures) c.take_names.ensures.0)

pub slice_bounds-strip-end : goal.slice_bounds-strip-end
slice_bounds-strip-end c =
    let p = c.put_all-n in
    let x = c.take_names.new.text in
    sym (length-take-le _ _ (front_fits x p.new.out p.result (took-length x p.new.out p.result (written-fits _ _ _ p.ensures) c.take_names.ensures.0)))

pub returns : goal.returns
returns c =
    let p = c.put_all-n in
    c.strip.ensures
    ∙ ap (write _) (front-cleared c.args.text.now _ p.new.out p.result (written-fits _ _ _ p.ensures) (written-whole c.args.text.now (replicate 65536 0) _ (rw (length-replicate {0} {A = ℕ} 65536 0) c.requires) p.ensures) c.take_names.ensures.0)
