-- That `put_ending` of src/lib.rt keeps its contract.
use mathlib.Core.Path.{ap, ◌∙◌}
use borrow.Author.Tests.{eq-eqb, ne_eqb}
use Rattle.words.proofs.ChoiceLaws.{pick_true, pick-false}
use Rattle.text.specs.Text.{write}
use Rattle.text.proofs.WriteLaws.{and_then, nothing}
use Rattle.text.specs.Phrases.{bytes}
use Rattle.vcd.specs.Dump.{ending}
use Rattle.vcd.proofs.put_ending.Goals as goal

pub returns-then-refusal-eq0 : goal.returns-then-refusal-eq0
unfolding ending
returns-then-refusal-eq0 c = nothing _ ∙ ap (write _) (pick_true _ (eq-eqb _ _ c.if-refusal-eq0.true))

pub returns : goal.returns
unfolding ending bytes
returns c =
    and_then _ _ _ (and_then _ _ _ (and_then _ _ _ c.put_all-a.ensures c.put_field-b.ensures) c.put_field-c.ensures) c.put_all.ensures
    ∙ ap (write _) (pick-false _ (ne_eqb _ _ c.if-refusal-eq0.false))
