-- That `scan` of src/hosts.rt keeps its contract.
use Rattle.cic_registers.proofs.ScanLaws.{hopped, no_hop}
use Rattle.words.proofs.HopLaws.{lowest_in, hop_less}
use Rattle.words.proofs.WordLaws.{with_bit_lt}
use Rattle.words.specs.Counting.{lowest_below}
use Rattle.words.specs.Word.{bit}
use Rattle.cic_record.specs.Kinds.{system, channel_in, host_in}
use lib.Dec.{eqb}
use mathlib.Core.Path.{refl, sym, subst}
use native.Mathlib.Omega.{arith}
use Prim.Native.Nat.{ℕ, ◌+◌, ◌-◌, ◌^◌, ◌<◌}
use borrow.Author.Rules.{rules}
use Rattle.cic_registers.proofs.hosts.scan.Goals as goal

pub loop-left-init : goal.loop-left-init
loop-left-init c = (search rules, (c.requires.out_len, λ h. refl))

pub overflow_cast-i : goal.overflow_cast-i
overflow_cast-i c = let m = lowest_in c.loop-left.left c.lowest-i.result c.loop-left.invariant.0 c.loop-left-test.true c.lowest-i.ensures in omega (arith, m.0)

pub overflow_add-base : goal.overflow_add-base
overflow_add-base c = let m = lowest_in c.loop-left.left c.lowest-i.result c.loop-left.invariant.0 c.loop-left-test.true c.lowest-i.ensures in omega (arith, m.0, c.requires.base_bound)

pub visit-requires : goal.visit-requires
visit-requires c =
    let m = lowest_in c.loop-left.left c.lowest-i.result c.loop-left.invariant.0 c.loop-left-test.true c.lowest-i.ensures in
    record { s_bound = omega (arith, m.0, c.requires.base_bound); out_len = c.loop-left.invariant.1.0 }

pub loop-left-smaller : goal.loop-left-smaller
loop-left-smaller c =
    let l = c.loop-left in
    subst (λ (w : ℕ). 32 - lowest_below 32 (bit w) < 32 - lowest_below 32 (bit l.left)) (sym c.with_bit-left.ensures)
    (hop_less l.left c.lowest-i.result l.invariant.0 c.loop-left-test.true c.lowest-i.ensures)

pub loop-left-preserved : goal.loop-left-preserved
loop-left-preserved c =
    let a = c.args in
    let l = c.loop-left in
    let i = c.lowest-i.result in
    let m = lowest_in l.left i l.invariant.0 c.loop-left-test.true c.lowest-i.ensures in (
      subst (λ (x : ℕ). x < 2 ^ 32) (sym c.with_bit-left.ensures) (with_bit_lt _ _ _),
      (
        c.visit.ensures.long,
        λ h.
            hopped l.left _ i (λ j. eqb (host_in a.host.now (channel_in a.channel.now (system (a.base + j)))).0 h) _ _ _ m.0 m.1 c.with_bit-left.ensures
            (c.visit.ensures.bits h) (l.invariant.1.1 h),
      ),
    )

pub returns : goal.returns
returns c =
    let a = c.args in
    let l = c.loop-left in record {
      bits = λ h. no_hop l.left (λ j. eqb (host_in a.host.now (channel_in a.channel.now (system (a.base + j)))).0 h) _ _ c.loop-left-test.false (l.invariant.1.1 h);
      long = l.invariant.1.0;
    }
