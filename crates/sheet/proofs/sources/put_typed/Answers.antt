-- That `put_typed` of src/sources.rt keeps its contract.
use Rattle.text.specs.Phrases.{bytes}
use Rattle.sheet.specs.Sources.{typed}
use Rattle.text.specs.Text.{write}
use Rattle.words.proofs.ChoiceLaws.{pick-false}
use Rattle.words.specs.Choice.{pick}
use borrow.Author.Tests.{ne_eqb}
use mathlib.Core.Path.{◌≡◌, ◌∙◌, ap}
use native.Mathlib.Omega.{arith}
use Rattle.sheet.proofs.sources.put_typed.Goals as goal

pub returns-in-0 : goal.returns-in-0
unfolding typed bytes pick
returns-in-0 c = rw c.in-0.is c.put_all.ensures

pub returns-in-1 : goal.returns-in-1
unfolding typed bytes pick
returns-in-1 c = rw c.in-1.is c.put_all-in-1.ensures

pub returns-in-2 : goal.returns-in-2
unfolding typed bytes pick
returns-in-2 c = rw c.in-2.is c.put_all-in-2.ensures

pub returns-in_default : goal.returns-in_default
unfolding typed bytes
returns-in_default c =
    c.put_all-in_default.ensures
    ∙ ap (write _) (pick-false _ (ne_eqb _ _ (λ (e : c.args.kind ≡ 2). omega arith)) ∙ pick-false _ (ne_eqb _ _ (λ (e : c.args.kind ≡ 1). omega arith)) ∙ pick-false _ (ne_eqb _ _ (λ (e : c.args.kind ≡ 0). omega arith)))
