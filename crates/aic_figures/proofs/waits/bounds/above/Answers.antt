-- That `above` of src/waits/bounds.rt keeps its contract.
use Prim.Native.Nat.{ℕ}
use mathlib.Core.Path.{ap, ◌∙◌}
use native.Mathlib.Omega.{arith}
use Rattle.words.specs.Word.{word_of}
use Rattle.aic_figures.proofs.BoundLaws.{between, class-is, above-none, above_more, above-all}
use Rattle.aic_figures.proofs.waits.bounds.above.Goals as goal

pub loop-q-init : goal.loop-q-init
loop-q-init c = (omega arith, omega (arith, c.requires), λ t h. above-none t c.args.p)

pub loop-q-preserved : goal.loop-q-preserved
loop-q-preserved c =
    let l = c.loop-q in
    let a = c.args in
    let q = c.loop-q-test.true in
    (omega (arith, l.invariant.0), omega (arith, q), λ t h. above_more t a.p l.q l.invariant.0 (l.invariant.2 t h) (class-is h l.q q) c.join-w.ensures)

pub returns : goal.returns
returns c =
    let l = c.loop-q in
    let a = c.args in
    λ t h. above-all t a.p (l.invariant.2 t h ∙ ap (λ (n : ℕ). word_of 32 (between t a.p n)) (omega (arith, l.invariant.1, c.loop-q-test.false)))
