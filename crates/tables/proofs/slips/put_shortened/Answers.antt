-- That `put_shortened` of src/slips.rt keeps its contract.
use mathlib.Core.Path.{sym, ap, ◌∙◌}
use native.Mathlib.Omega.{arith}
use lib.Seq.{length-take-le}
use borrow.Author.Tests.{le-leb, lt-leb}
use Rattle.words.proofs.ChoiceLaws.{pick_true, pick-false}
use Rattle.text.specs.Text.{write}
use Rattle.text.proofs.WriteLaws.{and_then}
use Rattle.text.specs.Phrases.{bytes}
use Rattle.tables.specs.Slips.{shortened}
use Rattle.tables.proofs.slips.put_shortened.Goals as goal

pub returns-then-word-le20 : goal.returns-then-word-le20
unfolding shortened bytes
returns-then-word-le20 c = c.put_all.ensures ∙ ap (write _) (pick_true _ (le-leb _ _ c.if-word-le20.true))

pub slice_bounds-put_all-end : goal.slice_bounds-put_all-end
slice_bounds-put_all-end c = let s = c.args.word.now in sym (length-take-le 20 s (omega (arith, c.if-word-le20.false)))

pub returns : goal.returns
unfolding shortened bytes
returns c =
    and_then _ _ _ c.put_all-next.ensures c.put_all-2.ensures
    ∙ ap (write _) (pick-false _ (lt-leb _ _ c.if-word-le20.false))
