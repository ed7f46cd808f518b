-- That `name_at` of src/names.rt keeps its contract.
use Prim.Native.Nat.{◌+◌}
use native.Mathlib.Omega.{arith}
use mathlib.Core.Path.{sym, ◌∙◌}
use Rattle.tables.proofs.NameLaws.{run-most, named_as, named-yes, named_no}
use Rattle.tables.proofs.names.name_at.Goals as goal

pub overflow_add-at-2 : goal.overflow_add-at-2
overflow_add-at-2 c = omega (arith, c.requires, c.run_of-n.ensures, run-most c.args.text.now (c.args.at + 1))

pub overflow_add-at-3 : goal.overflow_add-at-3
overflow_add-at-3 c = omega (arith, c.requires, c.run_of-n.ensures, run-most c.args.text.now (c.args.at + 1))

pub overflow_add-at-4 : goal.overflow_add-at-4
overflow_add-at-4 c = omega (arith, c.requires, c.run_of-n.ensures, run-most c.args.text.now (c.args.at + 1))

pub overflow_add-at-5 : goal.overflow_add-at-5
overflow_add-at-5 c = omega (arith, c.requires, c.run_of-n.ensures, run-most c.args.text.now (c.args.at + 1))

pub returns-then-is_name : goal.returns-then-is_name
returns-then-is_name c =
    let a = c.args in
    let n = c.run_of-n in
    named-yes a.text.now a.at _ n.ensures (sym (named_as a.text.now a.at n.result _ _ _ _ n.ensures c.byte_or-opening.ensures c.byte_or-closing.ensures c.byte_or-next.ensures c.is_name.ensures) ∙ c.if-is_name.true)

pub returns : goal.returns
returns c =
    let a = c.args in
    let n = c.run_of-n in
    named_no a.text.now a.at (sym (named_as a.text.now a.at n.result _ _ _ _ n.ensures c.byte_or-opening.ensures c.byte_or-closing.ensures c.byte_or-next.ensures c.is_name.ensures) ∙ c.if-is_name.false)
