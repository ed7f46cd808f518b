-- That `add` of src/sheets.rt keeps its contract.
use mathlib.Core.Path.{sym, ap, ◌∙◌}
use Rattle.totals.specs.declared.sheets.Sheet.{Sheet}
use Rattle.totals.specs.Sheet.{counted}
use Rattle.totals.proofs.SheetLaws.{strayed, kept_on}
use Rattle.totals.proofs.sheets.add.Goals as goal

pub returns-then-t-lt32 : goal.returns-then-t-lt32
returns-then-t-lt32 c =
    let a = c.args in
    ap (λ (x : Sheet). record { refusal = 18; sheet = x }) (c.counted.ensures ∙ ap (counted a.s a.s.full a.s.unopened) c.more.ensures)
    ∙ sym (strayed a.s a.t c.if-t-lt32.true)

pub returns : goal.returns
returns c = c.sum_up.ensures ∙ sym (kept_on _ _ c.if-t-lt32.false)
