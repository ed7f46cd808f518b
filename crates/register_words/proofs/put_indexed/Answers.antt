-- That `put_indexed` of src/lib.rt keeps its contract.
use mathlib.Core.Path.{ap, ◌∙◌}
use Rattle.text.specs.Text.{write}
use borrow.Author.Tests.{eq-eqb, ne_eqb}
use Rattle.words.proofs.ChoiceLaws.{pick_true, pick-false}
use Rattle.register_names.specs.declared.Sizes.{Sizes}
use Rattle.register_names.specs.Rows.{place_in}
use Rattle.register_names.specs.Maps.{cic_rows, index_rows}
use Rattle.register_words.proofs.put_indexed.Goals as goal

pub returns-then-m-eq1 : goal.returns-then-m-eq1
returns-then-m-eq1 c =
    c.put_indices.ensures
    ∙ ap (write _) (ap (λ (n : Sizes). place_in (index_rows c.args.written n.systems n.channels n.hosts) c.args.o) c.sizes_of-n.ensures
    ∙ pick_true _ (eq-eqb _ _ c.if-m-eq1.true))

pub returns : goal.returns
returns c =
    c.put_cic.ensures
    ∙ ap (write _) (ap (λ (n : Sizes). place_in (cic_rows c.args.written n.systems n.channels n.hosts) c.args.o) c.sizes_of-n.ensures
    ∙ pick-false _ (ne_eqb _ _ c.if-m-eq1.false))
