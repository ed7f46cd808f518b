-- That `words_of` of src/looked.rt keeps its contract.
use mathlib.Core.Path.{ap, ◌∙◌}
use borrow.Author.Tests.{eq-eqb, ne_eqb}
use Rattle.words.proofs.ChoiceLaws.{pick_true, pick-false}
use Rattle.cic_held.specs.declared.Prioritised.{Prioritised}
use Rattle.cic_prioritised.specs.declared.looked.Looked.{Looked}
use Rattle.cic_prioritised.specs.Looking.{look_at}
use Rattle.player.specs.After.{words_of}
use Rattle.player.proofs.looked.words_of.Goals as goal

pub returns-then-m-ne-INDEXED : goal.returns-then-m-ne-INDEXED
unfolding words_of
returns-then-m-ne-INDEXED c = pick-false _ (ne_eqb c.args.m.kind 4 c.if-m-ne-INDEXED.true)

pub returns : goal.returns
unfolding words_of
returns c =
    let a = c.args in
    ap (λ (l : Looked). l.words) (c.look_at.ensures ∙ ap (λ (p : Prioritised). look_at p a.offset) c.indexed.ensures)
    ∙ pick_true 0 (eq-eqb a.m.kind 4 c.if-m-ne-INDEXED.false)
