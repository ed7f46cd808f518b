-- That `configuration_at` of src/lib.rt keeps its contract.
use Prim.Native.Nat.{ℕ, ◌+◌, ◌-◌}
use mathlib.Core.Path.{◌≡◌, sym, ap, ◌∙◌}
use native.Mathlib.Omega.{arith}
use Rattle.std.specs.declared.result.Result.TheVariants.{Err}
use Rattle.kinds.specs.Kinds.{wanted}
use Rattle.kinds.specs.Configuration.{no_numbers, with_number}
use Rattle.beginning.specs.Begin.{setup_from, setup_of}
use Rattle.beginning.proofs.BeginLaws.{setup-done, setup-damaged, setup-beyond, setup-taken}
use Rattle.beginning.proofs.configuration_at.Goals as goal

pub loop-nth-init : goal.loop-nth-init
unfolding setup_of
loop-nth-init c =
    let a = c.args in
    let e : wanted a.kind - 0 ≡ wanted a.kind = omega arith in
    rw c.no_numbers-c.ensures (ap (λ (left : ℕ). setup_from a.kind left 0 a.trace.now no_numbers a.start) e, omega arith)

pub returns-in_err-v : goal.returns-in_err-v
returns-in_err-v c =
    let h : c.from_residual.result ≡ Err c.in_err-v.field-0.0 = grind arith in
    let l = c.loop-nth in
    let some : wanted c.args.kind - l.nth ≡ 0 → ⊥ = λ z. omega (arith, c.loop-nth-test.true, c.wanted-nth-end.ensures) in
    h ∙ setup-damaged _ _ _ _ _ _ _ _ some (sym c.read_number.ensures ∙ c.in_err-v.was) ∙ l.invariant.0

pub returns-then-not-within : goal.returns-then-not-within
returns-then-not-within c =
    let l = c.loop-nth in
    let some : wanted c.args.kind - l.nth ≡ 0 → ⊥ = λ z. omega (arith, c.loop-nth-test.true, c.wanted-nth-end.ensures) in
    setup-beyond _ _ _ _ _ _ _ _ some (sym c.read_number.ensures ∙ c.in_ok-v.was) (sym c.within.ensures ∙ c.if-not-within.true) ∙ l.invariant.0

pub loop-nth-preserved : goal.loop-nth-preserved
loop-nth-preserved c =
    let l = c.loop-nth in
    let some : wanted c.args.kind - l.nth ≡ 0 → ⊥ = λ z. omega (arith, c.loop-nth-test.true, c.wanted-nth-end.ensures) in
    let e : wanted c.args.kind - (l.nth + 1) ≡ wanted c.args.kind - l.nth - 1 = omega arith in (
      rw c.with_number-c.ensures
          (ap (λ (left : ℕ). setup_from c.args.kind left (l.nth + 1) c.args.trace.now (with_number l.c l.nth c.in_ok-v.v.value) c.in_ok-v.v.next) e
          ∙ setup-taken _ _ _ _ _ _ _ _ some (sym c.read_number.ensures ∙ c.in_ok-v.was) (sym c.within.ensures ∙ c.if-not-within.false) ∙ l.invariant.0),
      omega (arith, c.loop-nth-test.true, c.wanted-nth-end.ensures),
    )

pub returns : goal.returns
returns c = setup-done _ _ _ _ _ _ (omega (arith, c.loop-nth-test.false, c.wanted-nth-end.ensures)) ∙ c.loop-nth.invariant.0
