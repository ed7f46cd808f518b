-- That `put_slip` of src/slips.rt keeps its contract.
use Prim.Native.Nat.{ℕ}
use mathlib.Core.Path.{sym, ap, ◌∙◌}
use native.Mathlib.Omega.{arith}
use lib.Seq.{length-take-le}
use lib.ListN.{length, replicate, length-replicate}
use borrow.Author.Tests.{lt-ltb, le-ltb}
use Rattle.words.proofs.ChoiceLaws.{pick_true, pick-false}
use Rattle.text.specs.Text.{laid}
use Rattle.text.proofs.WriteLaws.{write-laid}
use Rattle.text.specs.Phrases.{bytes}
use Rattle.tables.specs.Names.{cleared}
use Rattle.tables.proofs.NameLaws.{length-cleared, written-whole, written-fits}
use Rattle.tables.specs.Slips.{slip_in, slip_line}
use Rattle.tables.proofs.slips.put_slip.Goals as goal

pub returns-then-text-gt-MOST : goal.returns-then-text-gt-MOST
unfolding slip_line bytes
returns-then-text-gt-MOST c = c.put_all.ensures ∙ write-laid _ _ ∙ ap (laid _) (pick_true _ (lt-ltb _ _ c.if-text-gt-MOST.true))

pub slice_bounds-clear-end : goal.slice_bounds-clear-end
slice_bounds-clear-end c = sym (length-replicate {0} {A = ℕ} 65536 0)

pub slice_bounds-room-end : goal.slice_bounds-room-end
slice_bounds-room-end c = written-fits _ _ _ c.clear-n.ensures

pub slice_bounds-put_slip_in-end : goal.slice_bounds-put_slip_in-end
slice_bounds-put_slip_in-end c = sym (length-take-le _ _ (written-fits _ _ _ c.clear-n.ensures))

pub put_slip_in-requires : goal.put_slip_in-requires
put_slip_in-requires c =
    let s = c.args.text.now in
    let l = c.if-text-gt-MOST.false in
    omega (arith, length-cleared s, ap length (written-whole (cleared s) (replicate 65536 0) _ (rw (length-cleared s, length-replicate {0} {A = ℕ} 65536 0) l) c.clear-n.ensures))

pub returns : goal.returns
unfolding slip_line
returns c =
    let s = c.args.text.now in
    let l = c.if-text-gt-MOST.false in
    c.put_slip_in.ensures ∙ write-laid _ _
    ∙ ap (laid _) (ap (slip_in s) (written-whole (cleared s) (replicate 65536 0) _ (rw (length-cleared s, length-replicate {0} {A = ℕ} 65536 0) l) c.clear-n.ensures) ∙ pick-false _ (le-ltb _ _ l))
