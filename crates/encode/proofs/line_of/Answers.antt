-- That `line_of` of src/lib.rt keeps its contract.
use mathlib.Core.Path.{ap, ◌∙◌}
use borrow.Author.Tests.{lt-ltb, le-ltb}
use Rattle.words.proofs.ChoiceLaws.{pick_true, pick-false}
use Rattle.encode.specs.Encode.{room_for, line_of}
use Rattle.encode.proofs.line_of.Goals as goal

pub returns-then-end-gt-LONGEST_TEXT : goal.returns-then-end-gt-LONGEST_TEXT
unfolding line_of
returns-then-end-gt-LONGEST_TEXT c = c.expects.ensures ∙ pick_true _ (lt-ltb _ _ c.if-end-gt-LONGEST_TEXT.true)

pub returns : goal.returns
unfolding line_of
returns c =
    let a = c.args in
    c.room_for.ensures ∙ ap (room_for a.size) c.statement_of.ensures ∙ pick-false _ (le-ltb _ _ c.if-end-gt-LONGEST_TEXT.false)
