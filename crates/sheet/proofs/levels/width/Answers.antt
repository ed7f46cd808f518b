-- That `width` of src/levels.rt keeps its contract.
use Rattle.sheet.proofs.PageLaws.{width_small}
use Rattle.sheet.specs.Levels.{width}
use borrow.Author.Rules.{rules}
use mathlib.Core.Path.{refl}
use native.Mathlib.Nat.{le-max_left}
use native.Mathlib.Omega.{arith}
use Rattle.sheet.proofs.levels.width.Goals as goal

pub nonzero_div-result : goal.nonzero_div-result
nonzero_div-result c = omega (arith, c.larger.ensures, le-max_left 1 c.args.most)

pub returns : goal.returns
unfolding width
returns c =
    let a = c.args in
    rw c.larger.ensures (refl, unfold width in (width_small a.most a.b (search rules)))
