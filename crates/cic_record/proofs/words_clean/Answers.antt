-- That `words_clean` of src/lib.rt keeps its contract.
use mathlib.Core.Path.{ap, ◌∙◌}
use Rattle.words.specs.Word.{clean}
use lib.ListN.{get_or}
use Prim.Native.Nat.{ℕ}
use Rattle.words.specs.Array.{clean_below}
use native.Mathlib.Omega.{arith}
use Rattle.words.proofs.ArrayLaws.{clean-none_yet, clean-more}
use Rattle.words.proofs.CountingLaws.{at_end}
use Rattle.cic_record.proofs.words_clean.Goals as goal

pub loop-w-init : goal.loop-w-init
loop-w-init c = (omega arith, (omega arith, clean-none_yet _ _))

pub loop-w-preserved : goal.loop-w-preserved
loop-w-preserved c =
    let l = c.loop-w in
    let a = c.args in
    (omega arith, (c.after_word-left.ensures ∙ omega (arith, l.invariant.1.0), clean-more a.n a.ws.now l.w-index l.invariant.1.1 (c.is_clean-ok.ensures ∙ ap (λ (r : ℕ). clean r (get_or a.ws.now l.w-index 0)) l.invariant.1.0)))

pub returns : goal.returns
returns c = at_end (λ k. clean_below k c.args.n c.args.ws.now) c.loop-w.w-index _ c.loop-w.invariant.0 c.loop-w-test.false c.loop-w.invariant.1.1
