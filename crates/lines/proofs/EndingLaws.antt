-- How many lines end in a listing: one for each line that it is made of.
use Prim.Native.Nat.{ℕ, zero, suc, ◌+◌, ◌/◌, ◌%◌}
use mathlib.Core.Path.{◌≡◌, refl, sym, ap, ◌∙◌}
use mathlib.Core.Bool.{Bool, true}
use mathlib.Core.Logic.{⊎_elim}
use mathlib.Core.List.{List, [], ◌∷◌, ◌++◌}
use native.Mathlib.Nat.{zero-add}
use native.Mathlib.Omega.{arith}
use lib.Dec.{eqb, ltb}
use lib.ListN.{length}
use borrow.Author.Tests.{ne_eqb}
use Rattle.words.specs.Choice.{pick}
use Rattle.words.specs.Counting.{one}
use Rattle.words.proofs.ChoiceLaws.{pick_cases, pick-ap}
use Rattle.words.proofs.TruthLaws.{clash, told}
use Rattle.steps.specs.Refusals.{carried_out}
use Rattle.steps.specs.declared.Recorded.{Recorded}
use Rattle.steps.specs.declared.Step.{Step}
use Rattle.steps.specs.declared.Step.TheVariants.{Read, Write, Line}
use Rattle.text.specs.Text.{newline, hex_digit, hex_of, decimal_of, field}
use Rattle.machine.specs.declared.record.Columns.{Columns}
use Rattle.machine.specs.declared.record.Machine.{Machine}
use Rattle.kinds.specs.Kinds.{is_kind, name}
use Rattle.kinds.specs.Promises.{endings}
use Rattle.kinds.proofs.Promises.{kept as kinds}
use Rattle.machine.specs.Machine.{sound}
use Rattle.machine.specs.Shown.{shown}
use Rattle.machine.specs.Steps.{step}
use Rattle.machine.proofs.RecordPromises.{kept as machine}
use Rattle.lines.specs.Listing.{letter_of, letter, shown_value, line_of, step_line, lines_from, joined, end_line, end_of}

-- ---- bytes

pub endings_append : (a b : List ℕ) → endings (a ++ b) ≡ endings a + endings b
unfolding endings
endings_append [] b = sym (zero-add (endings b))
endings_append (x ∷ a) b = let h = endings_append a b in omega arith

-- a byte that is no newline
plain : (b : ℕ) → (b ≡ newline → ⊥) → endings (b ∷ []) ≡ 0
unfolding endings
plain b h = ap (λ (t : Bool). one t + 0) (ne_eqb b newline h)

-- ---- digits

digit-plain : (d : ℕ) → endings (hex_digit d ∷ []) ≡ 0
unfolding hex_digit
digit-plain d =
    pick_cases (λ (b : ℕ). endings (b ∷ []) ≡ 0) (ltb d 10) (λ e. plain (48 + d) (λ z. omega arith)) (λ e. plain (55 + d) (λ z. omega arith))

hex-plain : (k v : ℕ) → endings (hex_of k v) ≡ 0
unfolding hex_of endings
hex-plain zero v = refl
hex-plain (suc k) v = omega (arith, endings_append (hex_of k (v / 16)) (hex_digit (v % 16) ∷ []), hex-plain k (v / 16), digit-plain (v % 16))

decimal-plain : (k n : ℕ) → endings (decimal_of k n) ≡ 0
unfolding decimal_of endings
decimal-plain zero n = refl
decimal-plain (suc k) n =
    let last : endings ((48 + n % 10) ∷ []) ≡ 0 = plain (48 + n % 10) (λ z. omega arith) in
    let h = decimal-plain k (n / 10) in
    pick_cases (λ (l : List ℕ). endings l ≡ 0) (ltb n 10) (λ e. last) (λ e. endings_append (decimal_of k (n / 10)) ((48 + n % 10) ∷ []) ∙ omega arith)

field_plain : (n : ℕ) → endings (field n) ≡ 0
unfolding field
field_plain n = endings_append (32 ∷ []) (decimal_of 20 n) ∙ omega (arith, plain 32 (λ z. omega arith), decimal-plain 20 n)

letter-plain : (x : Step) (refusal : ℕ) → endings (letter x refusal ∷ []) ≡ 0
unfolding letter
letter-plain x refusal = pick_cases (λ (b : ℕ). endings (b ∷ []) ≡ 0) (eqb refusal carried_out) (λ e. by x) (λ e. plain 88 (λ z. omega arith))
  where
    by : (y : Step) → endings (letter_of y ∷ []) ≡ 0
    by (Read o) = plain 82 (λ z. omega arith)
    by (Write o v) = plain 87 (λ z. omega arith)
    by (Line k l) = plain 76 (λ z. omega arith)

-- ---- lines

newline-ends : endings (newline ∷ []) ≡ 1
unfolding endings
newline-ends = refl

line-ends : (n l v : ℕ) (c : Columns) → endings (l ∷ []) ≡ 0 → endings (line_of n l v c) ≡ 1
unfolding line_of
line-ends n l v c h =
    simp endings_append
    (omega (arith, h, decimal-plain 20 n, plain 32 (λ z. omega arith), hex-plain 8 v, field_plain c.first, field_plain c.second, field_plain c.third, newline-ends))

pub lines_end : (n : ℕ) (m : Machine) (xs : List Recorded) → endings (joined (lines_from n m xs)) ≡ length xs
unfolding lines_from joined endings
lines_end n m [] = refl
lines_end n m (x ∷ xs) =
    let a = step m x in
    endings_append (step_line (n + 1) x.step a) (joined (lines_from (n + 1) a.machine xs))
    ∙ omega (
      arith,
      line-ends (n + 1) (letter x.step a.refusal) (shown_value a.refusal a.value) (shown a.machine) (letter-plain x.step a.refusal),
      lines_end (n + 1) a.machine xs,
    )

end-line-ends : (refusal offset : ℕ) → endings (end_line refusal offset) ≡ 1
unfolding end_line
end-line-ends refusal offset =
    simp endings_append (omega (arith, plain 69 (λ z. omega arith), field_plain refusal, field_plain offset, newline-ends))

pub end-ends : (refusal offset : ℕ) → endings (end_of refusal offset) ≡ pick (eqb refusal carried_out) 0 1
unfolding end_of endings
end-ends refusal offset =
    pick-ap endings (eqb refusal carried_out) [] (end_line refusal offset) ∙ ap (pick (eqb refusal carried_out) 0) (end-line-ends refusal offset)

pub name-ends : (m : Machine) → sound m ≡ true → endings (name m.kind) ≡ 1
name-ends m s = ⊎_elim (kinds.name_line m.kind) (λ e. clash s (machine.none_sound m e)) (told (is_kind m.kind))
