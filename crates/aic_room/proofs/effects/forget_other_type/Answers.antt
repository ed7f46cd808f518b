-- That `forget_other_type` of src/effects.rt keeps its contract.
use mathlib.Core.Path.{ap, ◌∙◌}
use mathlib.Core.Bool.{false}
use Prim.Native.Nat.{ℕ}
use Rattle.words.specs.Word.{with_bit}
use Rattle.words.proofs.ChoiceLaws.{pick_true, pick-false}
use Rattle.aic_room.proofs.CellLaws.{memory-is}
use Rattle.aic_room.proofs.EffectLaws.{type-other, type-same}
use Rattle.aic_room.proofs.effects.forget_other_type.Goals as goal

pub returns-then-type_of : goal.returns-then-type_of
returns-then-type_of c =
    λ a h. c.with_bit.ensures ∙ ap (λ (w : ℕ). with_bit w c.args.k false) (memory-is h) ∙ pick_true _ (type-other h _ c.requires _ _ _ c.type_of.ensures c.type_of-2.ensures c.if-type_of.true)

pub returns : goal.returns
returns c =
    λ a h. memory-is h ∙ pick-false _ (type-same h _ c.requires _ _ _ c.type_of.ensures c.type_of-2.ensures c.if-type_of.false)
