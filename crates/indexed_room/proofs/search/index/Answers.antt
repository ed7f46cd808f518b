-- That `index` of src/search.rt keeps its contract.
use mathlib.Core.Path.{ap}
use native.Mathlib.Omega.{arith}
use Rattle.words.proofs.HopLaws.{lowest_in}
use Rattle.cic_record.specs.declared.System.{System}
use Rattle.cic_indexed.proofs.SoundLaws.{sound-cic}
use Rattle.indexed_room.proofs.AskLaws.{none_more, lowest-busy, index_here, index-ended}
use Rattle.indexed_room.proofs.FirstLaws.{idle_host}
use Rattle.indexed_room.proofs.search.index.Goals as goal

pub returns-then-every-room : goal.returns-then-every-room
returns-then-every-room c = λ p ok l. idle_host {p = p} l _ _ (sound-cic p ok) c.requires c.if-every-room.true

pub loop-w-init : goal.loop-w-init
loop-w-init c = (omega arith, λ p ok l k b. absurd (omega (arith, b)))

pub overflow_add-w : goal.overflow_add-w
overflow_add-w c =
    let l = c.loop-w in
    omega (arith, c.loop-w-test.true, (lowest_in _ _ c.asked_word-some.ensures.0 c.if-some-ne0.true c.lowest-j.ensures).0)

pub overflow_cast-w : goal.overflow_cast-w
overflow_cast-w c =
    omega (arith, c.loop-w-test.true, (lowest_in _ _ c.asked_word-some.ensures.0 c.if-some-ne0.true c.lowest-j.ensures).0)

pub first_of-s-requires : goal.first_of-s-requires
first_of-s-requires c =
    omega (arith, c.loop-w-test.true, (lowest_in _ _ c.asked_word-some.ensures.0 c.if-some-ne0.true c.lowest-j.ensures).0)

pub returns-then-some-ne0 : goal.returns-then-some-ne0
returns-then-some-ne0 c =
    let a = c.asked_word-some.ensures in
    let l = c.loop-w in
    let j = c.lowest-j.ensures in
    let n = c.if-some-ne0.true in
    λ p ok h.
    index_here p.cic _ _ l.w _ _ (sound-cic p ok) (l.invariant.1 p ok h) (a.1 p ok h) a.0 n j _
    (ap (λ (s : System). s.0) (c.first_of-s.ensures p ok h (lowest-busy p.cic _ _ l.w _ _ (sound-cic p ok) (l.invariant.1 p ok h) (a.1 p ok h) a.0 n j)))

pub loop-w-smaller : goal.loop-w-smaller
loop-w-smaller c = omega (arith, c.loop-w-test.true)

pub loop-w-preserved : goal.loop-w-preserved
loop-w-preserved c =
    let l = c.loop-w in
    (omega (arith, c.loop-w-test.true), λ p ok h. none_more p.cic _ _ l.w _ (l.invariant.1 p ok h) (c.asked_word-some.ensures.1 p ok h) c.if-some-ne0.false)

pub returns : goal.returns
returns c =
    let l = c.loop-w in λ p ok h. index-ended p.cic _ _ l.w (sound-cic p ok) (omega (arith, l.invariant.0, c.loop-w-test.false)) (l.invariant.1 p ok h)
