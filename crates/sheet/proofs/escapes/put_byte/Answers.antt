-- That `put_byte` of src/escapes.rt keeps its contract.
use Rattle.text.specs.Phrases.{bytes}
use Rattle.sheet.specs.Names.{escape}
use Rattle.text.specs.Text.{write}
use Rattle.words.proofs.ChoiceLaws.{pick-false}
use Rattle.words.specs.Choice.{pick}
use borrow.Author.Tests.{ne_eqb}
use mathlib.Core.Path.{◌≡◌, ◌∙◌, ap}
use native.Mathlib.Omega.{arith}
use Rattle.sheet.proofs.escapes.put_byte.Goals as goal

pub returns-in-38 : goal.returns-in-38
unfolding escape bytes pick
returns-in-38 c = rw c.in-38.is c.put_all.ensures

pub returns-in-60 : goal.returns-in-60
unfolding escape bytes pick
returns-in-60 c = rw c.in-60.is c.put_all-in-60.ensures

pub returns-in-62 : goal.returns-in-62
unfolding escape bytes pick
returns-in-62 c = rw c.in-62.is c.put_all-in-62.ensures

pub returns-in-34 : goal.returns-in-34
unfolding escape bytes pick
returns-in-34 c = rw c.in-34.is c.put_all-in-34.ensures

pub returns-in-92 : goal.returns-in-92
unfolding escape bytes pick
returns-in-92 c = rw c.in-92.is c.put_all-in-92.ensures

pub returns-in_default : goal.returns-in_default
unfolding escape
returns-in_default c =
    c.put_plain.ensures
    ∙ ap (write _) (pick-false _ (ne_eqb _ _ (λ (e : c.args.b ≡ 92). omega arith)) ∙ pick-false _ (ne_eqb _ _ (λ (e : c.args.b ≡ 34). omega arith)) ∙ pick-false _ (ne_eqb _ _ (λ (e : c.args.b ≡ 62). omega arith)) ∙ pick-false _ (ne_eqb _ _ (λ (e : c.args.b ≡ 60). omega arith)) ∙ pick-false _ (ne_eqb _ _ (λ (e : c.args.b ≡ 38). omega arith)))
