-- That `put_register` of src/lib.rt keeps its contract.
use mathlib.Core.Path.{ap, ◌∙◌}
use borrow.Author.Rules.{rules}
use Rattle.text.specs.Text.{write}
use Rattle.text.proofs.WriteLaws.{nothing}
use Rattle.kinds.proofs.KindLaws.{at_aic, at_core, at-cic, at_aintc, at_indexed, at_none}
use Rattle.register_names.specs.declared.Sizes.{Sizes}
use Rattle.register_names.specs.Rows.{place_in}
use Rattle.register_names.specs.Maps.{cic_rows}
use Rattle.register_words.specs.Registers.{register_words}
use Rattle.register_words.proofs.put_register.Goals as goal

pub returns-in-0 : goal.returns-in-0
unfolding register_words
returns-in-0 c =
    c.put_aic.ensures ∙ ap (write _) (at_aic _ _ c.in-0.is)

pub returns-in-1 : goal.returns-in-1
unfolding register_words
returns-in-1 c =
    c.put_core.ensures ∙ ap (write _) (at_core _ _ c.in-1.is)

pub returns-in-2 : goal.returns-in-2
unfolding register_words
returns-in-2 c =
    c.put_cic.ensures ∙ ap (write _) (ap (λ (n : Sizes). place_in (cic_rows c.args.written n.systems n.channels n.hosts) c.args.o) c.sizes_of.ensures ∙ at-cic _ _ c.in-2.is)

pub returns-in-3 : goal.returns-in-3
unfolding register_words
returns-in-3 c =
    c.put_aintc.ensures ∙ ap (write _) (at_aintc _ _ c.in-3.is)

pub returns-in-4 : goal.returns-in-4
unfolding register_words
returns-in-4 c =
    c.put_indexed.ensures ∙ ap (write _) (at_indexed _ _ c.in-4.is)

pub returns-in_default : goal.returns-in_default
unfolding register_words
returns-in_default c = nothing _ ∙ ap (write _) (at_none _ _ (search rules) (search rules) (search rules) (search rules) (search rules))
