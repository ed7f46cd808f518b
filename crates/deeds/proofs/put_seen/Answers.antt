-- That `put_seen` of src/lib.rt keeps its contract.
use mathlib.Core.Path.{ap, ◌∙◌}
use Rattle.text.specs.Text.{write}
use Rattle.text.proofs.WriteLaws.{nothing}
use native.Mathlib.Omega.{arith}
use borrow.Author.Rules.{rules}
use borrow.Author.Tests.{eq-eqb, ne_eqb}
use Rattle.words.proofs.ChoiceLaws.{pick_true, pick-false, by-true, by-false}
use Rattle.text.specs.Phrases.{bytes}
use Rattle.deeds.specs.Deeds.{seen_words}
use Rattle.deeds.proofs.put_seen.Goals as goal

pub returns-then-same_seen : goal.returns-then-same_seen
unfolding seen_words
returns-then-same_seen c = nothing _ ∙ ap (write _) (by-true _ c.same_seen.ensures c.if-same_seen.true)

pub returns-in-0 : goal.returns-in-0
unfolding seen_words bytes
returns-in-0 c =
    c.put_all.ensures ∙ ap (write _) (pick_true _ (eq-eqb _ _ c.in-0.is) ∙ by-false _ c.same_seen.ensures c.if-same_seen.false)

pub returns-in-1 : goal.returns-in-1
unfolding seen_words bytes
returns-in-1 c =
    c.put_counted.ensures
    ∙ ap (write _) (pick_true _ (eq-eqb _ _ c.in-1.is) ∙ pick-false _ (ne_eqb _ _ (λ z. omega (arith, z, c.in-1.is))) ∙ by-false _ c.same_seen.ensures c.if-same_seen.false)

pub returns-in_default : goal.returns-in_default
unfolding seen_words bytes
returns-in_default c =
    c.put_all-in_default.ensures
    ∙ ap (write _) (pick-false _ (ne_eqb _ _ (search rules)) ∙ pick-false _ (ne_eqb _ _ (search rules)) ∙ by-false _ c.same_seen.ensures c.if-same_seen.false)
