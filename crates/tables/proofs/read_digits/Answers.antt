-- That `read_digits` of src/lib.rt keeps its contract.
use Prim.Native.Nat.{◌+◌, ◌*◌}
use mathlib.Core.Path.{sym, ◌∙◌}
use native.Mathlib.Omega.{arith}
use Rattle.tables.proofs.NumberLaws.{capped_small, worth-turn, digit_some, digits_empty, digits_fault, digits_more, digits-done}
use borrow.Author.Rules.{rules}
use Rattle.tables.proofs.read_digits.Goals as goal

pub returns-then-is_empty : goal.returns-then-is_empty
returns-then-is_empty c = digits_empty c.args.base c.args.digits.now (search rules)

pub returns-in_err-d : goal.returns-in_err-d
returns-in_err-d c =
    c.from_residual.ensures ∙ digits_fault c.args.base c.loop-b.b-index c.args.digits.now (search rules) (sym c.in_err-d.ensures)

pub loop-b-preserved : goal.loop-b-preserved
loop-b-preserved c =
    let l = c.loop-b in
    let a = c.args in
    let v = c.capped_at-worth.ensures in
    let d = digit_some a.base _ c.in_ok-d.d (sym c.in_ok-d.ensures) in (
      omega (arith, v, capped_small (a.base * l.worth + c.in_ok-d.d)),
      worth-turn a.base l.worth c.in_ok-d.d _ l.b-index a.digits.now _ c.requires.0 (search rules) d.0 v l.invariant.1,
      digits_more a.base c.in_ok-d.d l.b-index a.digits.now d.0 d.1 l.invariant.2,
    )

pub returns : goal.returns
returns c =
    let l = c.loop-b in
    let a = c.args in
    digits-done a.base l.worth l.b-index a.digits.now (omega arith) (search rules) l.invariant.0 l.invariant.1 l.invariant.2
