use mathlib.Core.Path.{◌∙◌}
use Rattle.words.proofs.ChoiceLaws.{pick_true, pick-false}
use borrow.Author.Tests.{lt-ltb, le-ltb}
use Rattle.explain.specs.Stated.{offset_digits}
use Rattle.explain.proofs.offset_digits.Goals as goal

-- src/lib.rt:349:9
pub returns-then-v-lt4096 : goal.returns-then-v-lt4096
unfolding offset_digits
returns-then-v-lt4096 c = pick_true _ (lt-ltb _ _ c.if-v-lt4096.true)

-- src/lib.rt:352:9
pub returns-then-v-lt65536 : goal.returns-then-v-lt65536
unfolding offset_digits
returns-then-v-lt65536 c = pick_true _ (lt-ltb _ _ c.if-v-lt65536.true) ∙ pick-false _ (le-ltb _ _ c.if-v-lt4096.false)

-- src/lib.rt:355:9
pub returns-then-v-lt1048576 : goal.returns-then-v-lt1048576
unfolding offset_digits
returns-then-v-lt1048576 c = pick_true _ (lt-ltb _ _ c.if-v-lt1048576.true) ∙ pick-false _ (le-ltb _ _ c.if-v-lt65536.false) ∙ pick-false _ (le-ltb _ _ c.if-v-lt4096.false)

-- src/lib.rt:358:9
pub returns-then-v-lt16777216 : goal.returns-then-v-lt16777216
unfolding offset_digits
returns-then-v-lt16777216 c = pick_true _ (lt-ltb _ _ c.if-v-lt16777216.true) ∙ pick-false _ (le-ltb _ _ c.if-v-lt1048576.false) ∙ pick-false _ (le-ltb _ _ c.if-v-lt65536.false) ∙ pick-false _ (le-ltb _ _ c.if-v-lt4096.false)

-- src/lib.rt:361:9
pub returns-then-v-lt268435456 : goal.returns-then-v-lt268435456
unfolding offset_digits
returns-then-v-lt268435456 c = pick_true _ (lt-ltb _ _ c.if-v-lt268435456.true) ∙ pick-false _ (le-ltb _ _ c.if-v-lt16777216.false) ∙ pick-false _ (le-ltb _ _ c.if-v-lt1048576.false) ∙ pick-false _ (le-ltb _ _ c.if-v-lt65536.false) ∙ pick-false _ (le-ltb _ _ c.if-v-lt4096.false)

-- src/lib.rt:345:1
pub returns : goal.returns
unfolding offset_digits
returns c = pick-false _ (le-ltb _ _ c.if-v-lt268435456.false) ∙ pick-false _ (le-ltb _ _ c.if-v-lt16777216.false) ∙ pick-false _ (le-ltb _ _ c.if-v-lt1048576.false) ∙ pick-false _ (le-ltb _ _ c.if-v-lt65536.false) ∙ pick-false _ (le-ltb _ _ c.if-v-lt4096.false)
