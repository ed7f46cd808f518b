-- That `put_numbers` of src/lib.rt keeps its contract.
use Prim.Native.Nat.{◌+◌, ◌-◌}
use mathlib.Core.Path.{◌≡◌, refl, ◌∙◌}
use native.Mathlib.Omega.{arith}
use Rattle.text.proofs.WriteLaws.{same_length as same-length-of}
use Rattle.explain.proofs.StatedLaws.{numbers-turn, numbers-done}
use Rattle.explain.proofs.put_numbers.Goals as goal

pub loop-k-init : goal.loop-k-init
loop-k-init c =
    let e : c.args.n - 0 ≡ c.args.n = omega arith in
    (rw e, refl)

pub loop-k-preserved : goal.loop-k-preserved
loop-k-preserved c =
    let l = c.loop-k in
    let e : c.args.n - (l.k + 1) ≡ c.args.n - l.k - 1 = omega arith in
    let some : c.args.n - l.k ≡ 0 → ⊥ = λ z. omega (arith, c.loop-k-test.true) in (
      rw e (numbers-turn _ _ _ _ _ _ _ _ some c.read_at-v.ensures.0 c.read_at-v.ensures.1 c.put_field-to.ensures l.invariant.0),
      same-length-of _ _ _ c.put_field-to.ensures ∙ l.invariant.1,
    )

pub returns : goal.returns
returns c = numbers-done _ _ _ _ _ (omega (arith, c.loop-k-test.false)) c.loop-k.invariant.0
