-- That `row_of` of src/lib.rt keeps its contract.
use Prim.Native.Nat.{ℕ}
use mathlib.Core.List.{List}
use mathlib.Core.Path.{ap, ◌∙◌}
use native.Mathlib.Omega.{arith}
use borrow.Author.Rules.{rules}
use Rattle.register_names.specs.Table.{stands_at}
use Rattle.register_names.proofs.TableLaws.{row_begin, row_found, row-turn, row-none}
use Rattle.register_names.proofs.row_of.Goals as goal

pub loop-k-init : goal.loop-k-init
loop-k-init c = (row_begin _ _ _ _, omega arith)

pub returns-then-stands_at : goal.returns-then-stands_at
returns-then-stands_at c =
    let a = c.args in
    row_found a.table.now a.n a.o c.loop-k.k _ _ c.loop-k-test.true (c.stands_at.ensures ∙ ap (λ (r : List ℕ). stands_at r a.n a.o) c.row.ensures.0) c.if-stands_at.true c.loop-k.invariant.0

pub loop-k-preserved : goal.loop-k-preserved
loop-k-preserved c =
    let a = c.args in
    (row-turn a.table.now a.n a.o c.loop-k.k _ _ c.loop-k-test.true (c.stands_at.ensures ∙ ap (λ (r : List ℕ). stands_at r a.n a.o) c.row.ensures.0) c.if-stands_at.false c.loop-k.invariant.0, search rules)

pub returns : goal.returns
returns c =
    let a = c.args in
    row-none a.table.now a.n a.o c.loop-k.k _ _ c.loop-k-test.false c.loop-k.invariant.0
