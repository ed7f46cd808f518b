-- That `remember` of src/effects.rt keeps its contract.
use mathlib.Core.Path.{ap, ◌∙◌}
use mathlib.Core.Bool.{true}
use Prim.Native.Nat.{ℕ}
use Rattle.words.specs.Word.{with_bit}
use Rattle.words.proofs.ChoiceLaws.{by-true, by-false}
use Rattle.aic_room.proofs.CellLaws.{memory-is}
use Rattle.aic_room.proofs.effects.remember.Goals as goal

pub returns-then-rises : goal.returns-then-rises
returns-then-rises c =
    λ a h. c.with_bit.ensures ∙ ap (λ (w : ℕ). with_bit w c.args.k true) (memory-is h) ∙ by-true _ (c.rises.ensures a h) c.if-rises.true

pub returns : goal.returns
returns c = λ a h. memory-is h ∙ by-false _ (c.rises.ensures a h) c.if-rises.false
