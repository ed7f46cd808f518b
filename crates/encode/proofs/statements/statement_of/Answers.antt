-- That `statement_of` of src/statements.rt keeps its contract.
use Prim.Native.Nat.{ℕ}
use mathlib.Core.Path.{sym, ap, ◌∙◌}
use native.Mathlib.Omega.{arith}
use lib.ListN.{take}
use lib.Seq.{length-take-le}
use Rattle.encode.specs.Statements.{uncommented, statement_in, statement_of}
use Rattle.encode.proofs.PlaceLaws.{place-within}
use Rattle.encode.proofs.statements.statement_of.Goals as goal

pub slice_bounds-statement_in-end : goal.slice_bounds-statement_in-end
slice_bounds-statement_in-end c =
    let a = c.args in
    sym (length-take-le _ _ (omega (arith, c.find-stop.ensures, place-within 35 a.line.now 0 (omega arith))))

pub returns : goal.returns
unfolding statement_of uncommented
returns c =
    let a = c.args in
    c.statement_in.ensures ∙ ap (λ (n : ℕ). statement_in a.kind (take n a.line.now)) c.find-stop.ensures
