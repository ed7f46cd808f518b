-- That `by_numbers` of src/statements.rt keeps its contract.
use Prim.Native.Nat.{◌^◌, ◌<◌}
use native.Mathlib.Omega.{arith}
use Rattle.encode.specs.Passes.{opened}
use Rattle.encode.proofs.ByteLaws.{groups-most}
use Rattle.encode.proofs.NumberLaws.{size_least, by_missing, by-more, by_said}
use borrow.Author.Rules.{rules}
use Rattle.encode.proofs.statements.by_numbers.Goals as goal

pub returns-in-Err : goal.returns-in-Err
returns-in-Err c = by_missing c.args.line.now (opened c.args.o) _ _ c.in-Err.ensures c.expects.ensures

pub returns-then-n-line : goal.returns-then-n-line
returns-then-n-line c = by-more c.args.line.now (opened c.args.o) c.in-Ok.n _ c.in-Ok.ensures c.if-n-line.true c.expects-then-n-line.ensures

pub overflow_add-result-2 : goal.overflow_add-result-2
overflow_add-result-2 c =
    let a = c.args in
    let h : a.o.numbers < 2 ^ 32 = search rules in
    omega (arith, size_least a.line.now a.o.numbers c.in-Ok.n c.in-Ok.ensures, c.size_of.ensures, groups-most 5 a.o.first)

pub returns : goal.returns
returns c = by_said c.args.line.now (opened c.args.o) c.in-Ok.n _ c.in-Ok.ensures c.if-n-line.false c.size_of.ensures
