-- That `put_cic` of src/fields.rt keeps its contract.
use mathlib.Core.Path.{ap, ◌∙◌}
use Rattle.text.specs.Text.{write}
use Rattle.text.proofs.WriteLaws.{nothing}
use borrow.Author.Tests.{lt-ltb, le-ltb}
use Rattle.words.proofs.ChoiceLaws.{pick_true, pick-false}
use Rattle.text.specs.Phrases.{bytes}
use Rattle.register_words.specs.Fields.{cic_fields}
use Rattle.register_words.proofs.fields.put_cic.Goals as goal

pub returns-then-o-lt512 : goal.returns-then-o-lt512
unfolding cic_fields bytes
returns-then-o-lt512 c =
    c.put_cic_single.ensures
    ∙ ap (write _) (pick_true _ (lt-ltb _ _ c.if-o-lt512.true))

pub returns-then-o-lt1024 : goal.returns-then-o-lt1024
unfolding cic_fields bytes
returns-then-o-lt1024 c =
    c.put_share.ensures
    ∙ ap (write _) (pick_true _ (lt-ltb _ _ c.if-o-lt1024.true)
    ∙ pick-false _ (le-ltb _ _ c.if-o-lt512.false))

pub returns-then-o-lt2048 : goal.returns-then-o-lt2048
unfolding cic_fields bytes
returns-then-o-lt2048 c =
    c.put_map.ensures
    ∙ ap (write _) (pick_true _ (lt-ltb _ _ c.if-o-lt2048.true)
    ∙ pick-false _ (le-ltb _ _ c.if-o-lt1024.false)
    ∙ pick-false _ (le-ltb _ _ c.if-o-lt512.false))

pub returns-then-o-lt2304 : goal.returns-then-o-lt2304
unfolding cic_fields bytes
returns-then-o-lt2304 c =
    c.put_map-then-o-lt2304.ensures
    ∙ ap (write _) (pick_true _ (lt-ltb _ _ c.if-o-lt2304.true)
    ∙ pick-false _ (le-ltb _ _ c.if-o-lt2048.false)
    ∙ pick-false _ (le-ltb _ _ c.if-o-lt1024.false)
    ∙ pick-false _ (le-ltb _ _ c.if-o-lt512.false))

pub returns-then-o-lt5376 : goal.returns-then-o-lt5376
unfolding cic_fields bytes
returns-then-o-lt5376 c =
    nothing _
    ∙ ap (write _) (pick_true _ (lt-ltb _ _ c.if-o-lt5376.true)
    ∙ pick-false _ (le-ltb _ _ c.if-o-lt2304.false)
    ∙ pick-false _ (le-ltb _ _ c.if-o-lt2048.false)
    ∙ pick-false _ (le-ltb _ _ c.if-o-lt1024.false)
    ∙ pick-false _ (le-ltb _ _ c.if-o-lt512.false))

pub returns-then-o-lt5408 : goal.returns-then-o-lt5408
unfolding cic_fields bytes
returns-then-o-lt5408 c =
    c.put_share-then-o-lt5408.ensures
    ∙ ap (write _) (pick_true _ (lt-ltb _ _ c.if-o-lt5408.true)
    ∙ pick-false _ (le-ltb _ _ c.if-o-lt5376.false)
    ∙ pick-false _ (le-ltb _ _ c.if-o-lt2304.false)
    ∙ pick-false _ (le-ltb _ _ c.if-o-lt2048.false)
    ∙ pick-false _ (le-ltb _ _ c.if-o-lt1024.false)
    ∙ pick-false _ (le-ltb _ _ c.if-o-lt512.false))

pub returns : goal.returns
unfolding cic_fields bytes
returns c =
    nothing _
    ∙ ap (write _) (pick-false _ (le-ltb _ _ c.if-o-lt5408.false)
    ∙ pick-false _ (le-ltb _ _ c.if-o-lt5376.false)
    ∙ pick-false _ (le-ltb _ _ c.if-o-lt2304.false)
    ∙ pick-false _ (le-ltb _ _ c.if-o-lt2048.false)
    ∙ pick-false _ (le-ltb _ _ c.if-o-lt1024.false)
    ∙ pick-false _ (le-ltb _ _ c.if-o-lt512.false))
