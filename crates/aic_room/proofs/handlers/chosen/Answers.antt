-- That `chosen` of src/handlers.rt keeps its contract.
use mathlib.Core.Path.{sym, ap, ◌∙◌}
use Prim.Native.Nat.{ℕ}
use Rattle.words.specs.Counting.{lowest_below}
use Rattle.words.specs.Word.{bit}
use Rattle.aic_sources.proofs.OrderLaws.{chosen_none}
use Rattle.aic_room.proofs.CellLaws.{level_word-is}
use Rattle.aic_room.proofs.HandlerLaws.{none_anywhere, none_above, some-above}
use Rattle.aic_room.proofs.handlers.chosen.Goals as goal

pub returns-then-top-ge8 : goal.returns-then-top-ge8
returns-then-top-ge8 c = λ a h. sym (chosen_none a (none_anywhere a _ (c.highest-top.ensures a h) c.if-top-ge8.true))

pub returns-then-may_start : goal.returns-then-may_start
returns-then-may_start c =
    λ a h. (some-above a _ (c.highest-top.ensures a h) c.if-top-ge8.false (sym (c.may_start.ensures a h) ∙ c.if-may_start.true) _
    (c.lowest.ensures ∙ ap (λ (w : ℕ). lowest_below 32 (bit w)) (level_word-is h _ c.if-top-ge8.false))).is

pub returns : goal.returns
returns c =
    λ a h. sym (chosen_none a (none_above a _ (c.highest-top.ensures a h) c.if-top-ge8.false (sym (c.may_start.ensures a h) ∙ c.if-may_start.false)))
