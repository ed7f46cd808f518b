-- That `unopened` of src/sheets.rt keeps its contract.
use Prim.Native.Nat.{ℕ}
use mathlib.Core.Path.{ap, ◌∙◌}
use Rattle.totals.specs.Sheet.{counted, left_unopened}
use Rattle.totals.proofs.sheets.unopened.Goals as goal

pub returns : goal.returns
unfolding left_unopened
returns c = let s = c.args.s in
    c.counted.ensures ∙ ap (λ (n : ℕ). counted s s.full n s.unkept) c.more.ensures
