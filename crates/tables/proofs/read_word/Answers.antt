-- That `read_word` of src/lib.rt keeps its contract.
use mathlib.Core.Path.{sym, ap, ◌∙◌}
use Rattle.tables.specs.Passes.{read_digits}
use Rattle.tables.proofs.NumberLaws.{hex_prefix, word-hex, word-plain}
use Rattle.tables.proofs.read_word.Goals as goal

pub returns-in-Some : goal.returns-in-Some
returns-in-Some c =
    let w = c.args.word.now in
    let h = c.in-Some.ensures.cases in
    c.read_digits.ensures ∙ ap (read_digits 16) h.1 ∙ word-hex w (sym (hex_prefix w) ∙ h.0)

pub returns-in-None : goal.returns-in-None
returns-in-None c =
    let w = c.args.word.now in
    c.read_digits-in-None.ensures ∙ word-plain w (sym (hex_prefix w) ∙ c.in-None.ensures.cases)
