-- That `step_at` of src/lib.rt keeps its contract.
use mathlib.Core.Path.{◌≡◌, sym, ap, ◌∙◌}
use native.Mathlib.Omega.{arith}
use borrow.Author.Tests.{eq-eqb}
use Rattle.words.proofs.ChoiceLaws.{pick_true}
use Rattle.std.specs.declared.result.Result.TheVariants.{Err}
use Rattle.steps.specs.declared.Recorded.{Recorded}
use Rattle.trace.specs.declared.Turn.TheVariants.{Found}
use Rattle.trace.specs.Steps.{by_kind, step_at, made_turn}
use Rattle.trace.proofs.StepLaws.{kind-fault, first-fault, one_number_lem, second-fault, two_numbers_lem, third-fault, three_numbers}
use Rattle.trace.proofs.step_at.Goals as goal

pub returns-in_err-kind : goal.returns-in_err-kind
returns-in_err-kind c =
    let h : c.from_residual.result ≡ Err c.in_err-kind.field-0.0 = grind arith in
    ap made_turn h ∙ sym (kind-fault _ _ _ _ (sym c.read_number.ensures ∙ c.in_err-kind.was))

pub returns-then-wanted-eq0 : goal.returns-then-wanted-eq0
unfolding step_at
returns-then-wanted-eq0 c =
    pick_true _ (eq-eqb _ 0 (sym c.operands-wanted.ensures ∙ c.if-wanted-eq0.true))
    ∙ ap (by_kind c.args.told c.args.trace.now c.args.at) (sym (sym c.read_number.ensures ∙ c.in_ok-kind.was))

pub returns-in_err-x : goal.returns-in_err-x
returns-in_err-x c =
    let h : c.from_residual-in_err-x.result ≡ Err c.in_err-x.field-0.0 = grind arith in
    ap made_turn h
    ∙ sym (first-fault _ _ _ _ _ _ (sym c.read_number.ensures ∙ c.in_ok-kind.was) (omega (arith, c.operands-wanted.ensures, c.if-wanted-eq0.false))
    (sym c.read_number-2.ensures ∙ c.in_err-x.was))

pub returns-then-wanted-eq1 : goal.returns-then-wanted-eq1
returns-then-wanted-eq1 c =
    ap (λ (x : Recorded). Found x c.in_ok-x.x.next) c.plain.ensures
    ∙ sym (one_number_lem _ _ _ _ _ _ _ (sym c.read_number.ensures ∙ c.in_ok-kind.was) (sym c.operands-wanted.ensures ∙ c.if-wanted-eq1.true)
    (sym c.read_number-2.ensures ∙ c.in_ok-x.was))

pub returns-in_err-y : goal.returns-in_err-y
returns-in_err-y c =
    let h : c.from_residual-in_err-y.result ≡ Err c.in_err-y.field-0.0 = grind arith in
    ap made_turn h
    ∙ sym (second-fault _ _ _ _ _ _ _ _ (sym c.read_number.ensures ∙ c.in_ok-kind.was)
    (omega (arith, c.operands-wanted.ensures, c.if-wanted-eq0.false, c.if-wanted-eq1.false))
    (sym c.read_number-2.ensures ∙ c.in_ok-x.was) (sym c.read_number-3.ensures ∙ c.in_err-y.was))

pub returns-then-wanted-eq2 : goal.returns-then-wanted-eq2
returns-then-wanted-eq2 c =
    ap (λ (x : Recorded). Found x c.in_ok-y.y.next) c.two_numbers.ensures
    ∙ sym (two_numbers_lem _ _ _ _ _ _ _ _ _ (sym c.read_number.ensures ∙ c.in_ok-kind.was) (sym c.operands-wanted.ensures ∙ c.if-wanted-eq2.true)
    (sym c.read_number-2.ensures ∙ c.in_ok-x.was) (sym c.read_number-3.ensures ∙ c.in_ok-y.was))

pub returns-in_err-z : goal.returns-in_err-z
returns-in_err-z c =
    let h : c.from_residual-in_err-z.result ≡ Err c.in_err-z.field-0.0 = grind arith in
    ap made_turn h
    ∙ sym (third-fault _ _ _ _ _ _ _ _ _ _ (sym c.read_number.ensures ∙ c.in_ok-kind.was)
    (omega (arith, c.operands-wanted.ensures, c.if-wanted-eq0.false, c.if-wanted-eq1.false, c.if-wanted-eq2.false))
    (sym c.read_number-2.ensures ∙ c.in_ok-x.was) (sym c.read_number-3.ensures ∙ c.in_ok-y.was) (sym c.read_number-4.ensures ∙ c.in_err-z.was))

pub returns : goal.returns
returns c =
    sym (three_numbers _ _ _ _ _ _ _ _ _ _ _ (sym c.read_number.ensures ∙ c.in_ok-kind.was)
    (omega (arith, c.operands-wanted.ensures, c.if-wanted-eq0.false, c.if-wanted-eq1.false, c.if-wanted-eq2.false))
    (sym c.read_number-2.ensures ∙ c.in_ok-x.was) (sym c.read_number-3.ensures ∙ c.in_ok-y.was) (sym c.read_number-4.ensures ∙ c.in_ok-z.was))
