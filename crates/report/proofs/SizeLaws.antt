-- How long the lines are at most.
use Prim.Native.Nat.{ℕ, zero, suc, ◌+◌, ◌*◌, ◌<◌, ◌≤◌, ◌^◌}
use mathlib.Core.Path.{◌≡◌}
use mathlib.Core.List.{List}
use native.Mathlib.Omega.{arith}
use lib.Dec.{eqb}
use lib.ListN.{length, length-append, get_or}
use Rattle.words.proofs.ChoiceLaws.{pick_cases}
use Rattle.steps.specs.Refusals.{carried_out}
use Rattle.text.specs.Text.{field}
use Rattle.text.proofs.DigitLaws.{length-field}
use Rattle.text.specs.Phrases.{bytes, counted}
use Rattle.text.proofs.SizeLaws.{length_word, length-counted, length_few}
use Rattle.totals.specs.declared.Totals.{Totals}
use Rattle.report.specs.Printed.{named, ended_at, trace_line, left_out_line, source_line, source_lines}
use Rattle.report.specs.Promises.{Words}

length-named : (name : List ℕ) → length (named name) ≡ length name + 3
unfolding named bytes
length-named name = simp length-append (omega arith)

length-ended : (refusal offset : ℕ) → refusal < 2 ^ 32 → length (ended_at refusal offset) ≤ 35
unfolding ended_at bytes
length-ended refusal offset h =
    pick_cases (λ (l : List ℕ). length l ≤ 35) (eqb refusal carried_out) (λ e. omega arith)
    (λ e. simp length-append (omega (arith, small, length-field offset)))
  where
    small : length (field refusal) ≤ 11
    small = unfold field in (omega (arith, length_word refusal h))

pub length_trace : (played refused refusal offset : ℕ) (name : List ℕ) → played < 2 ^ 32 → refused < 2 ^ 32 → refusal < 2 ^ 32
    → length (trace_line played refused refusal offset name) ≤ length name + 87
unfolding trace_line bytes
length_trace played refused refusal offset name p q r =
    simp length-append
    (omega (arith, length-counted (bytes "steps played ") played p, length-counted (bytes ", steps refused ") refused q, length-ended refusal offset r, length-named name))

pub length-left_out : (refusal : ℕ) (name : List ℕ) → refusal < 2 ^ 32 → length (left_out_line refusal name) ≤ length name + 21
unfolding left_out_line bytes
length-left_out refusal name r = simp length-append (omega (arith, length-counted (bytes "refusal ") refusal r, length-named name))

length_number : (i : ℕ) → i < 32 → length (counted (bytes "source ") i) ≤ 9
unfolding bytes
length_number i l = length_few (bytes "source ") i 2 (omega arith) (omega arith)

length_source : (i started waited entries : ℕ) → i < 32 → started < 2 ^ 32 → waited < 2 ^ 32 → entries < 2 ^ 32
    → length (source_line i started waited entries) ≤ 137
unfolding source_line bytes
length_source i started waited entries l p q r =
    simp length-append
    (omega (arith, length_number i l, length-counted (bytes ": handlers started ") started p, length-counted (bytes ", most handlers started while it waited ") waited q, length-counted (bytes ", most entries open while it was open ") entries r))

length_lines : (n : ℕ) (t : Totals) → n ≤ 32 → Words 32 t → length (source_lines n t) ≤ 137 * n
unfolding source_lines
length_lines zero t l w = omega arith
length_lines (suc n) t l w =
    let here = length_source n (get_or t.started n 0) (get_or t.waited n 0) (get_or t.entries n 0) (omega arith) (w.started n (omega arith)) (w.waited n (omega arith)) (w.entries n (omega arith)) in
    simp length-append (omega (arith, here, length_lines n t (omega arith) w))

pub length_sources : (t : Totals) → Words 32 t → length (source_lines 32 t) ≤ 4384
length_sources t w = omega (arith, length_lines 32 t (omega arith) w)
