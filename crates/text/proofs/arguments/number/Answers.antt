-- That `number` of src/arguments.rt keeps its contract.
use borrow.Author.Rules.{rules}
use mathlib.Core.Path.{refl, sym, ◌∙◌}
use Rattle.text.specs.Typed.{typed}
use Rattle.text.proofs.TypedLaws.{digit_of, typed_on, typed-off, typed-done}
use Rattle.text.proofs.arguments.number.Goals as goal

pub loop-b-init : goal.loop-b-init
unfolding typed
loop-b-init c = refl

pub returns-then-not-goes_on : goal.returns-then-not-goes_on
returns-then-not-goes_on c = typed-off c.args.text.now _ c.loop-b.b-index (search rules) (sym c.goes_on.ensures ∙ c.if-not-goes_on.true) ∙ c.loop-b.invariant

pub loop-b-preserved : goal.loop-b-preserved
loop-b-preserved c =
    typed_on c.args.text.now _ c.loop-b.b-index _ c.with_digit-v.ensures (search rules) (sym c.goes_on.ensures ∙ c.if-not-goes_on.false) ∙ c.loop-b.invariant

pub with_digit-v-requires : goal.with_digit-v-requires
with_digit-v-requires c = digit_of _ _ (sym c.goes_on.ensures ∙ c.if-not-goes_on.false)

pub returns : goal.returns
returns c = typed-done c.args.text.now _ c.loop-b.b-index (search rules) ∙ c.loop-b.invariant
