-- That `set_up` of src/lib.rt keeps its contract.
use mathlib.Core.Path.{◌≡◌, sym, ap, ◌∙◌}
use native.Mathlib.Omega.{arith}
use borrow.Author.Tests.{lt-ltb, le-ltb}
use Rattle.std.specs.declared.result.Result.TheVariants.{Err}
use Rattle.words.proofs.ChoiceLaws.{pick_true, pick-false, by-true, by-false}
use Rattle.beginning.specs.Begin.{begun_by, by_setup, by_controller, begin_of}
use Rattle.beginning.proofs.set_up.Goals as goal

pub returns-then-trace-gt-LONGEST : goal.returns-then-trace-gt-LONGEST
unfolding begin_of
returns-then-trace-gt-LONGEST c = pick_true _ (lt-ltb _ _ c.if-trace-gt-LONGEST.true)

pub returns-in_err-kind : goal.returns-in_err-kind
unfolding begin_of
returns-in_err-kind c =
    let h : c.from_residual.result ≡ Err c.in_err-kind.field-0.0 = grind arith in
    ap begun_by h ∙ ap (by_controller c.args.trace.now) (sym (sym c.read_number.ensures ∙ c.in_err-kind.was)) ∙ pick-false _ (le-ltb _ _ c.if-trace-gt-LONGEST.false)

pub returns-then-not-is_kind : goal.returns-then-not-is_kind
unfolding begin_of
returns-then-not-is_kind c =
    by-false _ c.is_kind.ensures c.if-not-is_kind.true ∙ ap (by_controller c.args.trace.now) (sym (sym c.read_number.ensures ∙ c.in_ok-kind.was))
    ∙ pick-false _ (le-ltb _ _ c.if-trace-gt-LONGEST.false)

pub returns-in_err-t : goal.returns-in_err-t
unfolding begin_of by_setup
returns-in_err-t c =
    let h : c.from_residual-in_err-t.result ≡ Err c.in_err-t.field-0.0 = grind arith in
    let k = c.in_ok-kind.kind.value in
    ap begun_by h ∙ ap (by_setup k) (sym c.in_err-t.was ∙ c.configuration_at.ensures) ∙ by-true _ c.is_kind.ensures c.if-not-is_kind.false
    ∙ ap (by_controller c.args.trace.now) (sym (sym c.read_number.ensures ∙ c.in_ok-kind.was)) ∙ pick-false _ (le-ltb _ _ c.if-trace-gt-LONGEST.false)

pub returns : goal.returns
unfolding begin_of
returns c =
    let k = c.in_ok-kind.kind.value in
    ap (by_setup k) (sym c.in_ok-t.was ∙ c.configuration_at.ensures) ∙ by-true _ c.is_kind.ensures c.if-not-is_kind.false
    ∙ ap (by_controller c.args.trace.now) (sym (sym c.read_number.ensures ∙ c.in_ok-kind.was)) ∙ pick-false _ (le-ltb _ _ c.if-trace-gt-LONGEST.false)
