-- How long a listing is at most.
use Prim.Native.Nat.{ℕ, ◌+◌, ◌*◌, ◌^◌, ◌<◌, ◌≤◌}
use mathlib.Core.Path.{◌≡◌, refl, sym}
use mathlib.Core.List.{List, [], ◌∷◌, ◌++◌}
use native.Mathlib.Nat.{mul-suc, mul-le-mul_left}
use native.Mathlib.Decide.{ℕ_discrete}
use native.Mathlib.Omega.{arith}
use lib.ListN.{length, length-append}
use lib.Dec.{eqb}
use Rattle.words.proofs.ChoiceLaws.{pick_cases}
use Rattle.steps.specs.Refusals.{carried_out}
use Rattle.steps.specs.declared.Recorded.{Recorded}
use Rattle.text.specs.Text.{field}
use Rattle.text.proofs.DigitLaws.{length-hex, length-below, length-field}
use Rattle.trace.specs.Trace.{Trace}
use Rattle.machine.specs.declared.record.Columns.{Columns}
use Rattle.machine.specs.declared.record.Machine.{Machine}
use Rattle.kinds.proofs.Promises.{kept as kinds}
use Rattle.machine.specs.RecordPromises.{Ready, Small}
use Rattle.machine.specs.Shown.{shown}
use Rattle.machine.specs.Steps.{step}
use Rattle.machine.proofs.ShownLaws.{small}
use Rattle.machine.proofs.StepLaws.{step-ready}
use Rattle.beginning.specs.declared.Begun.{Begun}
use Rattle.beginning.specs.Begin.{begin_of}
use Rattle.beginning.specs.Play.{records_of}
use Rattle.beginning.proofs.PlayLaws.{records_limited}
use Rattle.beginning.proofs.BeginningLaws.{begin-ready}
use Rattle.lines.specs.Listing.{letter, shown_value, line_of, step_line, lines_from, joined, end_line, end_of, text_from, name_line, listing_of}
use Rattle.lines.proofs.LineLaws.{listing-refused}

-- a number up to 256 takes at most four bytes with its space
field_small : (n : ℕ) → n ≤ 256 → length (field n) ≤ 4
unfolding field
field_small n h = omega (arith, length-below 20 3 n (omega arith) (omega arith))

-- a line takes at most 24 bytes and the digits of its number
length-line : (d n l v : ℕ) (c : Columns) → 0 < d → n < 10 ^ d → Small c → length (line_of n l v c) ≤ d + 24
unfolding line_of
length-line d n l v c p h s =
    simp length-append
    (omega (arith, length-below 20 d n p h, length-hex 8 v, field_small c.first s.0, field_small c.second s.1, field_small c.third s.2))

-- the lines of steps whose last number has at most d digits
length_lines : (d n : ℕ) (m : Machine) (xs : List Recorded) → 0 < d → n + length xs < 10 ^ d → Ready m → length (joined (lines_from n m xs)) ≤ (d + 24) * length xs
unfolding lines_from joined
length_lines d n m [] p h r = omega arith
length_lines d n m (x ∷ xs) p h r =
    let a = step m x in
    let q = step-ready m x r in
    let one : length (step_line (n + 1) x.step a) ≤ d + 24 = length-line d (n + 1) (letter x.step a.refusal) (shown_value a.refusal a.value) (shown a.machine) p (omega arith) (small a.machine q.0) in
    let rest : length (joined (lines_from (n + 1) a.machine xs)) ≤ (d + 24) * length xs = length_lines d (n + 1) a.machine xs p (omega arith) q in
    simp (length-append, mul-suc) (omega arith)

length_end : (refusal offset : ℕ) → length (end_of refusal offset) ≤ 44
unfolding end_of end_line
length_end refusal offset =
    pick_cases (λ (l : List ℕ). length l ≤ 44) (eqb refusal carried_out) (λ e. omega arith)
    (λ e. simp length-append (omega (arith, length-field refusal, length-field offset)))

length-name-line : (b : Begun) → length (name_line b) ≤ 14
unfolding name_line
length-name-line b = pick_cases (λ (l : List ℕ). length l ≤ 14) (eqb b.refusal carried_out) (λ e. kinds.name_length b.machine.kind) (λ e. omega arith)

-- the whole of it
pub length_listing : (s : List ℕ) (limit d : ℕ) → 0 < d → limit < 10 ^ d → length (listing_of s limit) ≤ (d + 24) * limit + 58
unfolding listing_of text_from
length_listing s limit d p h = go (ℕ_discrete (begin_of s).refusal carried_out)
  where
    b : Begun
    b = begin_of s

    t : Trace
    t = records_of s limit

    go : Dec ((begin_of s).refusal ≡ carried_out) → length (name_line (begin_of s) ++ (joined (lines_from 0 (begin_of s).machine (records_of s limit).steps) ++ end_of (records_of s limit).refusal (records_of s limit).offset)) ≤ (d + 24) * limit + 58
    go (yes e) =
        let few : length t.steps ≤ limit = records_limited limit s b in
        let long : length (joined (lines_from 0 b.machine t.steps)) ≤ (d + 24) * length t.steps = length_lines d 0 b.machine t.steps p (omega arith) (begin-ready s b refl e) in
        let most : (d + 24) * length t.steps ≤ (d + 24) * limit = mul-le-mul_left (d + 24) few in
        simp length-append (omega (arith, length-name-line b, length_end t.refusal t.offset))
    go (no e) = rw (sym (listing-refused s limit b refl e)) (omega (arith, length_end b.refusal b.place))
