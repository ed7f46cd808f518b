-- That `first_of` of src/indices.rt keeps its contract.
use Rattle.cic_held.proofs.SearchLaws.{there_is, there_is_none, hop_found, hop_missed, hop_none}
use Rattle.words.proofs.HopLaws.{lowest_in, hop_less}
use Rattle.words.proofs.WordLaws.{with_bit_lt}
use Rattle.words.specs.Counting.{lowest_below}
use Rattle.words.specs.Word.{bit}
use Rattle.cic_record.specs.Kinds.{system, channel_in}
use lib.Dec.{eqb}
use mathlib.Core.Path.{refl, sym, subst, ◌∙◌}
use native.Mathlib.Omega.{arith}
use Prim.Native.Nat.{ℕ, ◌+◌, ◌-◌, ◌^◌, ◌<◌}
use borrow.Author.Rules.{rules}
use Rattle.cic_held.proofs.indices.first_of.Goals as goal

pub loop-left-init : goal.loop-left-init
loop-left-init c = (search rules, refl)

pub overflow_cast-i : goal.overflow_cast-i
overflow_cast-i c = let m = lowest_in c.loop-left.left c.lowest-i.result c.loop-left.invariant.0 c.loop-left-test.true c.lowest-i.ensures in omega (arith, m.0)

pub overflow_add-base : goal.overflow_add-base
overflow_add-base c = let m = lowest_in c.loop-left.left c.lowest-i.result c.loop-left.invariant.0 c.loop-left-test.true c.lowest-i.ensures in omega (arith, m.0, c.requires)

pub is_of-requires : goal.is_of-requires
is_of-requires c = let m = lowest_in c.loop-left.left c.lowest-i.result c.loop-left.invariant.0 c.loop-left-test.true c.lowest-i.ensures in omega (arith, m.0, c.requires)

pub returns-then-is_of : goal.returns-then-is_of
returns-then-is_of c =
    let l = c.loop-left in
    let a = c.args in
    let i = c.lowest-i.result in
    let m = lowest_in l.left i l.invariant.0 c.loop-left-test.true c.lowest-i.ensures in
    there_is 32 _ i m.0
    (hop_found l.left i (λ j. eqb (channel_in a.channel.now (system (a.base + j))).0 a.k.0) l.invariant.0 c.loop-left-test.true c.lowest-i.ensures (sym c.is_of.ensures ∙ c.if-is_of.true)
    ∙ l.invariant.1)

pub loop-left-smaller : goal.loop-left-smaller
loop-left-smaller c =
    let l = c.loop-left in
    subst (λ (w : ℕ). 32 - lowest_below 32 (bit w) < 32 - lowest_below 32 (bit l.left)) (sym c.with_bit-left.ensures)
    (hop_less l.left c.lowest-i.result l.invariant.0 c.loop-left-test.true c.lowest-i.ensures)

pub loop-left-preserved : goal.loop-left-preserved
loop-left-preserved c =
    let l = c.loop-left in
    let a = c.args in
    let i = c.lowest-i.result in
    let m = lowest_in l.left i l.invariant.0 c.loop-left-test.true c.lowest-i.ensures in (
      subst (λ (x : ℕ). x < 2 ^ 32) (sym c.with_bit-left.ensures) (with_bit_lt _ _ _),
      hop_missed l.left _ i (λ j. eqb (channel_in a.channel.now (system (a.base + j))).0 a.k.0) m.0 c.with_bit-left.ensures (sym c.is_of.ensures ∙ c.if-is_of.false) ∙ l.invariant.1,
    )

pub returns : goal.returns
returns c =
    let l = c.loop-left in
    let a = c.args in
    there_is_none 32 _ (hop_none l.left (λ j. eqb (channel_in a.channel.now (system (a.base + j))).0 a.k.0) c.loop-left-test.false ∙ l.invariant.1)
