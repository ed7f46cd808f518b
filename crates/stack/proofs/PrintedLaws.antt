-- The line of an answer, byte by byte.
use Prim.Native.Nat.{◌≤◌}
use mathlib.Core.Path.{◌≡◌, refl, sym}
use mathlib.Core.List.{[], ◌∷◌, ◌++◌}
use mathlib.Core.Logic.{◌≢◌, ◌⊎◌, inl, inr}
use native.Mathlib.Omega.{arith}
use lib.ListN.{length, length-append}
use borrow.Author.Tests.{eq-eqb, ne_eqb}
use Rattle.words.specs.Choice.{pick}
use Rattle.words.proofs.ChoiceLaws.{pick_true, pick-false}
use Rattle.steps.specs.Refusals.{carried_out}
use Rattle.text.specs.Text.{decimal_of, decimal, field}
use Rattle.text.proofs.DigitLaws.{length-below}
use Rattle.stack.specs.declared.Table.{Table}
use Rattle.stack.specs.declared.Needed.{Needed}
use Rattle.stack.specs.Bytes.{stack_bytes, needed}
use Rattle.stack.specs.Printed.{in_bytes, figure_line, number_line, text_of}
use Rattle.stack.specs.Promises.{Beyond}
use Rattle.stack.proofs.FigureLaws.{beyond_or, needed-beyond, answered-is, most}

pub figure_text : (n : Needed) → n.refusal ≡ 0 → text_of n ≡ decimal n.bytes ++ in_bytes
unfolding text_of figure_line
figure_text n e = sym (pick_true _ (eq-eqb n.refusal carried_out e))

pub number_text : (n : Needed) → n.refusal ≢ 0 → text_of n ≡ 69 ∷ 32 ∷ (decimal n.refusal ++ (10 ∷ []))
unfolding text_of number_line field
number_text n d = sym (pick-false _ (ne_eqb n.refusal carried_out d))

pub printed : (t : Table) → (Beyond t → ⊥) → text_of (needed t) ≡ decimal (stack_bytes t) ++ in_bytes
printed t n = rw (answered-is t n) (figure_text (record { refusal = 0; bytes = stack_bytes t }) refl)

pub printed-refused : (t : Table) → Beyond t → text_of (needed t) ≡ 69 ∷ 32 ∷ 49 ∷ 52 ∷ 10 ∷ []
unfolding text_of number_line field decimal_of pick
printed-refused t b = rw (needed-beyond t b)

pub printed-most : (t : Table) → length (text_of (needed t)) ≤ 13
printed-most t = go (beyond_or t)
  where
    go : Beyond t ⊎ (Beyond t → ⊥) → length (text_of (needed t)) ≤ 13
    go (inl b) = rw (printed-refused t b) (omega arith)
    go (inr n) =
        rw (printed t n, length-append (decimal (stack_bytes t)) in_bytes)
        (omega (arith, length-below 20 6 (stack_bytes t) (omega arith) (omega (arith, most t n))))
