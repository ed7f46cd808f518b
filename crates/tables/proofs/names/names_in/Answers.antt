-- That `names_in` of src/names.rt keeps its contract.
use Prim.Native.Nat.{ℕ}
use native.Mathlib.Omega.{arith}
use mathlib.Core.Path.{sym, ap, ◌∙◌}
use mathlib.Core.List.{List}
use lib.Seq.{length-take-le}
use lib.ListN.{length, replicate, length-replicate}
use Rattle.tables.specs.Named.{place_of}
use Rattle.tables.proofs.NameLaws.{written-whole, written-fits, names_are}
use Rattle.tables.proofs.names.names_in.Goals as goal

pub slice_bounds-put_all-end : goal.slice_bounds-put_all-end
slice_bounds-put_all-end c = sym (length-replicate {0} {A = ℕ} 65536 0)

pub slice_bounds-room-end : goal.slice_bounds-room-end
slice_bounds-room-end c = written-fits _ _ _ c.put_all-n.ensures

pub slice_bounds-take_names-end : goal.slice_bounds-take_names-end
slice_bounds-take_names-end c = sym (length-take-le _ _ (written-fits _ _ _ c.put_all-n.ensures))

pub take_names-places-requires : goal.take_names-places-requires
take_names-places-requires c =
    omega (arith, c.requires, ap length (written-whole c.args.text.now (replicate 65536 0) _ (rw (length-replicate {0} {A = ℕ} 65536 0) c.requires) c.put_all-n.ensures))

pub returns : goal.returns
returns c =
    let s = c.args.text.now in
    let p = c.take_names-places in
    let e = written-whole s (replicate 65536 0) _ (rw (length-replicate {0} {A = ℕ} 65536 0) c.requires) c.put_all-n.ensures in
    c.names_at.ensures ∙ names_are s p.result (λ i l. p.ensures.1 i l ∙ ap (λ (x : List ℕ). place_of x i) e)
