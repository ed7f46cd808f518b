-- That `put_told` of src/fields.rt keeps its contract.
use mathlib.Core.Path.{refl, ap, ◌∙◌}
use native.Mathlib.Omega.{arith}
use Rattle.words.specs.Counting.{one}
use Rattle.text.specs.Text.{write}
use Rattle.text.proofs.WriteLaws.{same_length as same_len, and_then, nothing}
use Rattle.register_words.proofs.FieldLaws.{told_none, told_more, lower-none, lower-more, one_bit, told-all}
use Rattle.register_words.proofs.fields.put_told.Goals as goal

pub loop-n-init : goal.loop-n-init
loop-n-init c = (omega arith, omega arith, lower-none _, nothing _ ∙ ap (write _) (told_none _ _), refl)

pub put_bit-next-requires : goal.put_bit-next-requires
put_bit-next-requires c = c.loop-n.invariant.2

pub overflow_add-told : goal.overflow_add-told
overflow_add-told c =
    let l = c.loop-n in
    omega (arith, l.invariant.0, l.invariant.1, one_bit _ _ _ (c.one_if-told.ensures ∙ ap one c.has-set.ensures))

pub loop-n-preserved : goal.loop-n-preserved
loop-n-preserved c =
    let l = c.loop-n in (
      omega (arith, c.loop-n-test.true),
      omega (arith, l.invariant.1, one_bit _ _ _ (c.one_if-told.ensures ∙ ap one c.has-set.ensures)),
      lower-more _ _ _ _ l.invariant.2 (c.one_if-told.ensures ∙ ap one c.has-set.ensures),
      and_then _ _ _ l.invariant.3 c.put_bit-next.ensures ∙ ap (write _) (told_more _ _ _),
      same_len _ _ _ c.put_bit-next.ensures ∙ l.invariant.4,
    )

pub returns : goal.returns
returns c =
    let l = c.loop-n in
    told-all _ _ _ _ _ (omega (arith, l.invariant.0, c.loop-n-test.false)) l.invariant.3
