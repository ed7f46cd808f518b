-- That `put_beyond` of src/lib.rt keeps its contract.
use mathlib.Core.Path.{ap, ◌∙◌}
use Rattle.text.specs.Text.{write}
use borrow.Author.Tests.{lt-ltb, le-ltb}
use Rattle.words.proofs.ChoiceLaws.{pick_true, pick-false}
use Rattle.text.specs.Phrases.{bytes}
use Rattle.register_words.specs.Registers.{beyond_words}
use Rattle.register_words.proofs.put_beyond.Goals as goal

pub returns-then-o-lt32 : goal.returns-then-o-lt32
unfolding beyond_words bytes
returns-then-o-lt32 c =
    c.put_all.ensures
    ∙ ap (write _) (pick_true _ (lt-ltb _ _ c.if-o-lt32.true))

pub returns-then-o-lt48 : goal.returns-then-o-lt48
unfolding beyond_words bytes
returns-then-o-lt48 c =
    c.put_all-then-o-lt48.ensures
    ∙ ap (write _) (pick_true _ (lt-ltb _ _ c.if-o-lt48.true)
    ∙ pick-false _ (le-ltb _ _ c.if-o-lt32.false))

pub returns-then-o-lt1024 : goal.returns-then-o-lt1024
unfolding beyond_words bytes
returns-then-o-lt1024 c =
    c.put_all-then-o-lt1024.ensures
    ∙ ap (write _) (pick_true _ (lt-ltb _ _ c.if-o-lt1024.true)
    ∙ pick-false _ (le-ltb _ _ c.if-o-lt48.false)
    ∙ pick-false _ (le-ltb _ _ c.if-o-lt32.false))

pub returns-then-o-lt2048 : goal.returns-then-o-lt2048
unfolding beyond_words bytes
returns-then-o-lt2048 c =
    c.put_all-then-o-lt2048.ensures
    ∙ ap (write _) (pick_true _ (lt-ltb _ _ c.if-o-lt2048.true)
    ∙ pick-false _ (le-ltb _ _ c.if-o-lt1024.false)
    ∙ pick-false _ (le-ltb _ _ c.if-o-lt48.false)
    ∙ pick-false _ (le-ltb _ _ c.if-o-lt32.false))

pub returns-then-o-lt2304 : goal.returns-then-o-lt2304
unfolding beyond_words bytes
returns-then-o-lt2304 c =
    c.put_all-then-o-lt2304.ensures
    ∙ ap (write _) (pick_true _ (lt-ltb _ _ c.if-o-lt2304.true)
    ∙ pick-false _ (le-ltb _ _ c.if-o-lt2048.false)
    ∙ pick-false _ (le-ltb _ _ c.if-o-lt1024.false)
    ∙ pick-false _ (le-ltb _ _ c.if-o-lt48.false)
    ∙ pick-false _ (le-ltb _ _ c.if-o-lt32.false))

pub returns : goal.returns
unfolding beyond_words bytes
returns c =
    c.put_all-2.ensures
    ∙ ap (write _) (pick-false _ (le-ltb _ _ c.if-o-lt2304.false)
    ∙ pick-false _ (le-ltb _ _ c.if-o-lt2048.false)
    ∙ pick-false _ (le-ltb _ _ c.if-o-lt1024.false)
    ∙ pick-false _ (le-ltb _ _ c.if-o-lt48.false)
    ∙ pick-false _ (le-ltb _ _ c.if-o-lt32.false))
