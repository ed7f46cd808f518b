-- How long a dump is at most.
use Prim.Native.Nat.{ℕ, ◌+◌, ◌*◌, ◌^◌, ◌<◌, ◌≤◌}
use mathlib.Core.List.{List, [], ◌∷◌}
use native.Mathlib.Nat.{mul-suc}
use native.Mathlib.Omega.{arith}
use lib.Dec.{eqb}
use lib.ListN.{length, get_or, length-append}
use Rattle.words.specs.Choice.{pick}
use Rattle.words.proofs.ChoiceLaws.{pick_cases}
use Rattle.text.specs.Text.{decimal_of}
use Rattle.text.proofs.DigitLaws.{length-below, length-field}
use Rattle.text.specs.Phrases.{bytes}
use Rattle.vcd.specs.Dump.{change, values_from, changes_from, tick, first_tick, next_tick, ticks_from, ending, ticks}
use Rattle.vcd.specs.Promises.{most_bytes}
use Rattle.vcd.proofs.BinaryLaws.{length_binary}

length-change : (w k v : ℕ) → length (change w k v) ≤ w + 4
unfolding change
length-change w k v =
    pick_cases (λ (l : List ℕ). length l ≤ w + 4) (eqb w 1) (λ e. omega arith) (λ e. simp length-append (omega (arith, length_binary w v)))

length-values : (ws now : List ℕ) (k : ℕ) → length (values_from k ws now) ≤ most_bytes ws
unfolding values_from most_bytes
length-values [] now k = omega arith
length-values (w ∷ ws) now k = simp length-append (omega (arith, length-change w k (get_or now k 0), length-values ws now (k + 1)))

length_changes : (ws before now : List ℕ) (k : ℕ) → length (changes_from k ws before now) ≤ most_bytes ws
unfolding changes_from most_bytes
length_changes [] before now k = omega arith
length_changes (w ∷ ws) before now k =
    let h : length (pick (eqb (get_or before k 0) (get_or now k 0)) [] (change w k (get_or now k 0))) ≤ w + 4 =
    pick_cases (λ (l : List ℕ). length l ≤ w + 4) (eqb (get_or before k 0) (get_or now k 0)) (λ e. omega arith) (λ e. length-change w k (get_or now k 0)) in
    simp length-append (omega (arith, h, length_changes ws before now (k + 1)))

pub length_next : (n d : ℕ) (ws before now : List ℕ) → 0 < d → n < 10 ^ d → length (next_tick n ws before now) ≤ d + 2 + most_bytes ws
unfolding next_tick tick
length_next n d ws before now p h = simp length-append (omega (arith, length-below 20 d n p h, length_changes ws before now 0))

pub length-first : (ws now : List ℕ) → length (first_tick ws now) ≤ 18 + most_bytes ws
unfolding first_tick tick bytes decimal_of pick
length-first ws now = simp length-append (omega (arith, length-values ws now 0))

pub length-ending : (refusal offset : ℕ) → length (ending refusal offset) ≤ 58
unfolding ending bytes
length-ending refusal offset =
    pick_cases (λ (l : List ℕ). length l ≤ 58) (eqb refusal 0) (λ e. omega arith)
    (λ e. simp length-append (omega (arith, length-field refusal, length-field offset)))

length_rest : (d n : ℕ) (ws before : List ℕ) (rest : List (List ℕ)) → 0 < d → n + length rest < 10 ^ d
    → length (ticks_from n ws before rest) ≤ (d + 2 + most_bytes ws) * length rest
unfolding ticks_from
length_rest d n ws before [] p h = omega arith
length_rest d n ws before (now ∷ rest) p h =
    let here = length_next (n + 1) d ws before now p (omega arith) in
    let more = length_rest d (n + 1) ws now rest p (omega arith) in
    rw mul-suc (simp length-append (omega (arith, here, more)))

pub length-ticks : (d : ℕ) (ws first : List ℕ) (rest : List (List ℕ)) (refusal offset : ℕ) → 0 < d → length rest < 10 ^ d
    → length (ticks ws first rest refusal offset) ≤ (d + 2 + most_bytes ws) * length rest + most_bytes ws + 76
unfolding ticks
length-ticks d ws first rest refusal offset p h =
    simp length-append (omega (arith, length-first ws first, length_rest d 0 ws first rest p (omega arith), length-ending refusal offset))
