-- That `moved_word` of src/lib.rt keeps its contract.
use mathlib.Core.Path.{◌≡◌, ◌∙◌}
use borrow.Author.Tests.{lt-ltb, le-ltb}
use Rattle.words.specs.Word.{with_bit}
use Rattle.words.proofs.ChoiceLaws.{pick_true, pick-false}
use Rattle.coreinterrupt_room.proofs.moved_word.Goals.{then-high, else-high}
use Rattle.coreinterrupt_room.proofs.moved_word.Goals as goal

pub returns-then-k-n : goal.returns-then-k-n
returns-then-k-n c =
    let a = c.args in
    let moved : c.if-high.moved ≡ with_bit a.w a.k a.high = elim c.if-high.branch [
      | then-high w ↦ rw (w.if-high.true, w.moved-is, c.with_bit-on.ensures)
      | else-high w ↦ rw (w.if-high.false, w.moved-is, c.with_bit-off.ensures)
    ] in
    moved ∙ pick_true _ (lt-ltb _ _ c.if-k-n.true)

pub returns-else-k-n : goal.returns-else-k-n
returns-else-k-n c = pick-false _ (le-ltb _ _ c.if-k-n.false)
