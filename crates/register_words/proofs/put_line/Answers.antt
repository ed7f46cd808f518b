-- That `put_line` of src/lib.rt keeps its contract.
use mathlib.Core.Path.{ap, ◌∙◌}
use borrow.Author.Rules.{rules}
use Rattle.text.specs.Text.{write}
use Rattle.text.proofs.WriteLaws.{nothing}
use Rattle.kinds.proofs.KindLaws.{at_aic, at_core, at-cic, at_aintc, at_indexed, at_none}
use Rattle.text.specs.Phrases.{bytes}
use Rattle.register_words.specs.Registers.{line_words}
use Rattle.register_words.proofs.put_line.Goals as goal

pub returns-in-0 : goal.returns-in-0
unfolding line_words bytes
returns-in-0 c =
    c.put_below.ensures ∙ ap (write _) (at_aic _ _ c.in-0.is)

pub returns-in-1 : goal.returns-in-1
unfolding line_words bytes
returns-in-1 c =
    c.put_input.ensures ∙ ap (write _) (at_core _ _ c.in-1.is)

pub returns-in-2 : goal.returns-in-2
unfolding line_words bytes
returns-in-2 c =
    c.put_below-in-2.ensures ∙ ap (write _) (at-cic _ _ c.in-2.is)

pub returns-in-3 : goal.returns-in-3
unfolding line_words bytes
returns-in-3 c =
    c.put_below-in-3.ensures ∙ ap (write _) (at_aintc _ _ c.in-3.is)

pub returns-in-4 : goal.returns-in-4
unfolding line_words bytes
returns-in-4 c =
    c.put_below-in-4.ensures ∙ ap (write _) (at_indexed _ _ c.in-4.is)

pub returns-in_default : goal.returns-in_default
unfolding line_words bytes
returns-in_default c = nothing _ ∙ ap (write _) (at_none _ _ (search rules) (search rules) (search rules) (search rules) (search rules))
