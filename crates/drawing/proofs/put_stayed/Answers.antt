-- That `put_stayed` of src/lib.rt keeps its contract.
use Rattle.drawing.proofs.BarLaws.{stayed-none, stayed-more}
use Rattle.drawing.specs.Bars.{stayed}
use Rattle.drawing.specs.Drawing.{bar_texts}
use Rattle.text.proofs.WriteLaws.{same_length as same_len}
use Rattle.text.specs.Text.{write}
use Rattle.words.proofs.CountingLaws.{at_end}
use native.Mathlib.Omega.{arith}
use mathlib.Core.Path.{ap, ◌∙◌}
use Prim.Native.Nat.{ℕ}
use borrow.Author.Rules.{rules}
use Rattle.drawing.proofs.put_stayed.Goals as goal

pub loop-place-init : goal.loop-place-init
loop-place-init c = (omega arith, stayed-none _ _ _ _)

pub loop-place-preserved : goal.loop-place-preserved
loop-place-preserved c =
    let a = c.args in
    (search rules, stayed-more _ _ _ a.ws.now a.source.now a.level.now c.loop-place.place c.loop-place.invariant.1 c.put_stay-next.ensures)

pub shape_of-out : goal.shape_of-out
shape_of-out c = same_len _ _ _ c.loop-place.invariant.1

pub returns : goal.returns
returns c =
    let a = c.args in
    at_end (λ n. write (a.out.now, a.at) (bar_texts (stayed n a.ws.now a.source.now a.level.now))) _ _ c.loop-place.invariant.0 c.loop-place-test.false c.loop-place.invariant.1
    ∙ ap (λ (n : ℕ). write (a.out.now, a.at) (bar_texts (stayed n a.ws.now a.source.now a.level.now))) c.stay-n.ensures
