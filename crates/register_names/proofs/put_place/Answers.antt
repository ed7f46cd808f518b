-- That `put_place` of src/lib.rt keeps its contract.
use Prim.Native.Nat.{ℕ}
use mathlib.Core.List.{List}
use mathlib.Core.Path.{sym, ap, ◌∙◌}
use native.Mathlib.Omega.{arith}
use Rattle.text.specs.Text.{write}
use Rattle.register_names.specs.Table.{words_at}
use Rattle.register_names.proofs.TableLaws.{row_below, placed, unplaced}
use Rattle.register_names.proofs.put_place.Goals as goal

pub row-requires : goal.row-requires
row-requires c =
    let a = c.args in
    omega (arith, row_below a.table.now a.n a.o _ 0 (sym c.row_of.ensures ∙ c.in-Some.is))

pub returns-in-Some : goal.returns-in-Some
returns-in-Some c =
    let a = c.args in
    placed a.table.now a.n a.written a.o _ _ _ (sym c.row_of.ensures ∙ c.in-Some.is)
    (c.put_row.ensures ∙ ap (write _) (ap (λ (r : List ℕ). words_at r a.written a.o) c.row.ensures.0))

pub returns-in-None : goal.returns-in-None
returns-in-None c =
    let a = c.args in
    unplaced a.table.now a.n a.written a.o (a.out.now, a.at) (a.out.now, a.at) 0 (sym c.row_of.ensures ∙ c.in-None.is)
