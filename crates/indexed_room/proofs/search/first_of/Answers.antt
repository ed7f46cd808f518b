-- That `first_of` of src/search.rt keeps its contract.
use mathlib.Core.Path.{refl, sym, ap, subst}
use Prim.Native.Nat.{ℕ, ◌-◌, ◌^◌, ◌<◌}
use native.Mathlib.Omega.{arith}
use Rattle.words.specs.Counting.{lowest_below}
use Rattle.words.specs.Word.{bit}
use Rattle.words.proofs.HopLaws.{lowest_in, hop_less}
use Rattle.words.proofs.TruthLaws.{clash}
use Rattle.words.proofs.WordLaws.{with_bit_lt}
use Rattle.cic_record.specs.Kinds.{system}
use Rattle.cic_indexed.proofs.SoundLaws.{sound-cic}
use Rattle.indexed_room.proofs.FirstLaws.{left-first, first_found, first_on, first_never}
use Rattle.indexed_room.proofs.search.first_of.Goals as goal

pub loop-left-init : goal.loop-left-init
loop-left-init c = (c.fits-room _, λ p h. left-first {p = p} h _ _ c.requires refl)

pub lit_word-some-requires : goal.lit_word-some-requires
lit_word-some-requires c =
    let l = c.loop-left in (lowest_in l.left _ l.invariant.0 c.loop-left-test.true c.lowest-w.ensures).0

pub overflow_mul-result : goal.overflow_mul-result
overflow_mul-result c =
    let l = c.loop-left in
    omega (arith, (lowest_in l.left _ l.invariant.0 c.loop-left-test.true c.lowest-w.ensures).0)

pub overflow_add-result : goal.overflow_add-result
overflow_add-result c =
    let l = c.loop-left in
    omega (arith, (lowest_in l.left _ l.invariant.0 c.loop-left-test.true c.lowest-w.ensures).0, (lowest_in _ _ c.lit_word-some.ensures.0 c.if-some-ne0.true c.lowest-i.ensures).0)

pub overflow_cast-result : goal.overflow_cast-result
overflow_cast-result c =
    let l = c.loop-left in
    omega (arith, (lowest_in l.left _ l.invariant.0 c.loop-left-test.true c.lowest-w.ensures).0, (lowest_in _ _ c.lit_word-some.ensures.0 c.if-some-ne0.true c.lowest-i.ensures).0)

pub returns-then-some-ne0 : goal.returns-then-some-ne0
returns-then-some-ne0 c =
    let l = c.loop-left in
    let y = c.lit_word-some.ensures in
    λ p ok h b. ap system (first_found p.cic _ l.left _ _ (l.invariant.1 p h) l.invariant.0 c.loop-left-test.true c.lowest-w.ensures (y.1 p h) _ (sound-cic p ok) y.0 c.if-some-ne0.true c.lowest-i.ensures)

pub loop-left-smaller : goal.loop-left-smaller
loop-left-smaller c =
    let l = c.loop-left in
    subst (λ (n : ℕ). 32 - lowest_below 32 (bit n) < 32 - lowest_below 32 (bit l.left)) (sym c.with_bit-left.ensures)
    (hop_less l.left _ l.invariant.0 c.loop-left-test.true c.lowest-w.ensures)

pub loop-left-preserved : goal.loop-left-preserved
loop-left-preserved c =
    let l = c.loop-left in
    let y = c.lit_word-some.ensures in (
      subst (λ (n : ℕ). n < 2 ^ 32) (sym c.with_bit-left.ensures) (with_bit_lt _ _ _),
      λ p h. first_on p.cic _ l.left _ _ (l.invariant.1 p h) l.invariant.0 c.loop-left-test.true c.lowest-w.ensures (y.1 p h) _ c.if-some-ne0.false c.with_bit-left.ensures,
    )

pub returns : goal.returns
returns c = λ p ok h b. clash b (first_never p.cic _ c.loop-left.left (sound-cic p ok) (c.loop-left.invariant.1 p h) c.loop-left-test.false)
