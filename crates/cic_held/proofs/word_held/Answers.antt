-- That `word_held` of src/lib.rt keeps its contract.
use mathlib.Core.Path.{refl, ap, ◌∙◌}
use native.Mathlib.Omega.{arith}
use borrow.Author.Tests.{ne_eqb}
use Rattle.words.specs.Choice.{pick}
use Rattle.words.proofs.ChoiceLaws.{pick-false}
use Rattle.cic_record.specs.declared.System.{System}
use Rattle.cic_held.specs.Held.{word_held}
use Rattle.cic_held.proofs.word_held.Goals as goal

pub returns-in-0 : goal.returns-in-0
unfolding word_held pick
returns-in-0 c = rw c.in-0.is refl

pub returns-in-1 : goal.returns-in-1
unfolding word_held pick
returns-in-1 c = rw c.in-1.is refl

pub returns-in_default : goal.returns-in_default
unfolding word_held
returns-in_default c =
    c.from.ensures ∙ ap (λ (n : System). n.0) c.system_held.ensures ∙ pick-false _ (ne_eqb c.args.x 1 (λ e. omega (arith, e)))
