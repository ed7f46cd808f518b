-- That `put_statement` of src/statements.rt keeps its contract.
use Prim.Native.Nat.{ℕ}
use mathlib.Core.Path.{sym, ap, ◌∙◌}
use native.Mathlib.Omega.{arith}
use lib.ListN.{take}
use lib.Seq.{length-take-le}
use Rattle.text.specs.Text.{write}
use Rattle.encode.specs.Bytes.{bytes_of}
use Rattle.encode.specs.Statements.{uncommented, numbers_of, bytes_in}
use Rattle.encode.proofs.PlaceLaws.{place-within}
use Rattle.encode.proofs.statements.put_statement.Goals as goal

pub slice_bounds-put_words-end : goal.slice_bounds-put_words-end
slice_bounds-put_words-end c =
    let a = c.args in
    sym (length-take-le _ _ (omega (arith, c.find-stop.ensures, place-within 35 a.line.now 0 (omega arith))))

pub returns : goal.returns
unfolding bytes_in uncommented
returns c =
    let a = c.args in
    c.put_words.ensures
    ∙ ap (write _) (ap (λ (n : ℕ). bytes_of (numbers_of (take n a.line.now) a.first a.words)) c.find-stop.ensures)
