-- That `only_in` of src/lib.rt keeps its contract.
use Rattle.words.proofs.ArrayLaws.{filled}
use Rattle.words.specs.Word.{without}
use Rattle.deeds.proofs.TextLaws.{bit_at-without}
use borrow.Author.Count.{below_none}
use lib.ListN.{get_or, length-set}
use mathlib.Core.Path.{refl}
use native.Mathlib.Omega.{arith}
use Prim.Native.Nat.{◌/◌}
use Rattle.deeds.proofs.only_in.Goals as goal

pub loop-k-init : goal.loop-k-init
loop-k-init c = (omega arith, (refl, below_none _))

pub loop-k-preserved : goal.loop-k-preserved
loop-k-preserved c =
    let l = c.loop-k in
    let a = c.args in (
      omega arith,
      (simp length-set l.invariant.1.0, filled l.out (λ i. without (get_or a.a i 0) (get_or a.b i 0)) l.k (omega arith) l.invariant.1.1 _ c.drop_bits.ensures),
    )

pub returns : goal.returns
returns c = λ h l. bit_at-without c.loop-k.out c.args.a c.args.b h (c.loop-k.invariant.1.1 (h / 32) (omega arith))
