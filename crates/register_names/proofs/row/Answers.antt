-- That `row` of src/lib.rt keeps its contract.
use mathlib.Core.Path.{ap, ◌∙◌}
use Prim.Native.Nat.{ℕ}
use mathlib.Core.List.{List}
use lib.ListN.{length}
use Rattle.register_names.proofs.TableLaws.{row_bytes}
use Rattle.register_names.proofs.row.Goals as goal

pub returns : goal.returns
returns c =
    let b = row_bytes c.args.table.now c.args.k c.requires in
    (b.0, ap (λ (l : List ℕ). length l) b.0 ∙ b.1)
