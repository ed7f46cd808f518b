-- That `put_reason` of src/rows.rt keeps its contract.
use Rattle.text.specs.Phrases.{bytes}
use Rattle.sheet.specs.Rows.{reason}
use Rattle.text.proofs.WriteLaws.{and_then}
use Rattle.text.specs.Text.{write}
use Rattle.words.proofs.ChoiceLaws.{pick-false}
use Rattle.words.specs.Choice.{pick}
use borrow.Author.Tests.{ne_eqb}
use mathlib.Core.Path.{◌≡◌, ◌∙◌, ap}
use native.Mathlib.Omega.{arith}
use Rattle.sheet.proofs.rows.put_reason.Goals as goal

pub returns-in-16 : goal.returns-in-16
unfolding reason bytes pick
returns-in-16 c = rw c.in-16.is c.put_all.ensures

pub returns-in-17 : goal.returns-in-17
unfolding reason bytes pick
returns-in-17 c = rw c.in-17.is c.put_all-in-17.ensures

pub returns-in_default : goal.returns-in_default
unfolding reason bytes
returns-in_default c =
    and_then _ _ _ (and_then _ _ _ c.put_counted-a.ensures c.put_counted-b.ensures) c.put_all-in_default.ensures
    ∙ ap (write _) (pick-false _ (ne_eqb _ _ (λ (e : c.args.refusal ≡ 17). omega arith)) ∙ pick-false _ (ne_eqb _ _ (λ (e : c.args.refusal ≡ 16). omega arith)))
