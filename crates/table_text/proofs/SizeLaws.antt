-- How long the text is at most.
use Prim.Native.Nat.{ℕ, zero, suc, ◌+◌, ◌*◌, ◌≤◌, ◌<◌}
use mathlib.Core.Path.{◌≡◌}
use mathlib.Core.List.{List}
use native.Mathlib.Omega.{arith}
use lib.Dec.{eqb}
use lib.ListN.{length, get_or, length-append}
use Rattle.words.proofs.ChoiceLaws.{pick_cases}
use Rattle.steps.specs.Refusals.{carried_out}
use Rattle.text.specs.Text.{decimal, field}
use Rattle.text.proofs.DigitLaws.{length-hex, length-below, length-field}
use Rattle.text.specs.Phrases.{bytes, counted}
use Rattle.aic_record.specs.declared.Aic.{Aic}
use Rattle.aic_record.specs.Mode.{priority_of, type_of}
use Rattle.kinds.specs.Kinds.{aic_kind}
use Rattle.beginning.specs.Begin.{begin_of}
use Rattle.table_text.specs.Text.{heading, source_line, source_lines, last_lines, table_text, no_beginning, no_table, text_of}

one-digit : (n : ℕ) → n < 10 → length (decimal n) ≤ 1
one-digit n h = length-below 20 1 n (omega arith) (omega (arith, h))

line-most : (mode i : ℕ) → i < 32 → length (source_line mode i) ≤ 18
unfolding source_line field counted bytes
line-most mode i l =
    simp length-append (omega (arith, one-digit (priority_of mode) (omega arith), one-digit (type_of mode) (omega arith), length-below 20 2 i (omega arith) (omega (arith, l))))

lines-most : (modes : List ℕ) (k i : ℕ) → i + k ≡ 32 → length (source_lines modes k i) ≤ 18 * k
unfolding source_lines
lines-most modes zero i e = omega arith
lines-most modes (suc k) i e =
    simp length-append (omega (arith, line-most (get_or modes i 0) i (omega (arith, e)), lines-most modes k (i + 1) (omega (arith, e))))

last-most : (forced : ℕ) → length (last_lines forced) ≤ 57
unfolding last_lines bytes
last-most forced = simp length-append (omega (arith, length-hex 8 forced))

heading-most : length heading ≤ 117
unfolding heading bytes
heading-most = omega arith

pub table-most : (a : Aic) → length (table_text a) ≤ 750
unfolding table_text
table-most a =
    simp length-append (omega (arith, heading-most, lines-most a.mode 32 0 (omega arith), last-most a.forced))

beginning-most : (refusal offset : ℕ) → length (no_beginning refusal offset) ≤ 750
unfolding no_beginning bytes
beginning-most refusal offset = simp length-append (omega (arith, length-field refusal, length-field offset))

none-most : length no_table ≤ 750
unfolding no_table bytes
none-most = omega arith

pub text-most : (s : List ℕ) → length (text_of s) ≤ 750
unfolding text_of
text-most s =
    pick_cases (λ (l : List ℕ). length l ≤ 750) (eqb (begin_of s).refusal carried_out)
    (λ _. pick_cases (λ (l : List ℕ). length l ≤ 750) (eqb (begin_of s).machine.kind aic_kind) (λ _. table-most _) (λ _. none-most))
    (λ _. beginning-most (begin_of s).refusal (begin_of s).place)
