-- That `put_entry` of src/lib.rt keeps its contract.
use mathlib.Core.Path.{ap, ◌∙◌}
use Rattle.text.specs.Text.{write}
use Rattle.text.proofs.WriteLaws.{nothing}
use borrow.Author.Tests.{lt-ltb, le-ltb}
use Rattle.words.proofs.ChoiceLaws.{pick_true, pick-false}
use Rattle.text.specs.Phrases.{bytes}
use Rattle.deeds.specs.Deeds.{entry_words}
use Rattle.deeds.proofs.TextLaws.{opened_text, closed_text, ends-true, ends-false}
use Rattle.deeds.proofs.put_entry.Goals as goal

pub returns-then-s-t : goal.returns-then-s-t
unfolding entry_words
returns-then-s-t c =
    opened_text _ _ _ _ _ _ c.put_opened.ensures c.last_source-opened.ensures c.last_level-level.ensures
    ∙ ap (write _) (pick_true _ (lt-ltb _ _ c.if-s-t.true))

pub returns-then-t-s : goal.returns-then-t-s
unfolding entry_words
returns-then-t-s c =
    closed_text _ _ _ _ c.put_closed.ensures c.last_source-closed.ensures
    ∙ ap (write _) (pick_true _ (lt-ltb _ _ c.if-t-s.true) ∙ pick-false _ (le-ltb _ _ c.if-s-t.false))

pub returns-then-close-s : goal.returns-then-close-s
unfolding entry_words bytes
returns-then-close-s c =
    c.put_all.ensures
    ∙ ap (write _) (ends-true _ _ _ _ c.ends-close.ensures c.if-close-s.true ∙ pick-false _ (le-ltb _ _ c.if-t-s.false) ∙ pick-false _ (le-ltb _ _ c.if-s-t.false))

pub returns : goal.returns
unfolding entry_words
returns c =
    nothing _
    ∙ ap (write _) (ends-false _ _ _ _ c.ends-close.ensures c.if-close-s.false ∙ pick-false _ (le-ltb _ _ c.if-t-s.false) ∙ pick-false _ (le-ltb _ _ c.if-s-t.false))
