-- Traces at both sides of each rule, computed by the definition.
use mathlib.Core.Path.{◌≡◌, refl}
use mathlib.Core.Bool.{true, false}
use mathlib.Core.List.{[], ◌∷◌}
use Rattle.words.specs.Choice.{pick}
use Rattle.words.specs.Counting.{any_below, sum_below, lowest_below}
use Rattle.steps.specs.declared.Step.TheVariants.{Read, Write, Line}
use Rattle.numbers.specs.Number.{size_at, worth_at, faulty, number_at}
use Rattle.trace.specs.Steps.{operands_of, plain, two_numbers, step_at}
use Rattle.trace.specs.Trace.{ends, turn_at, steps_from}
use Rattle.trace.specs.Promises.{made}

-- a read, a write and a line, and nothing after them: 0 and the length
whole : steps_from false 20000 (1 ∷ 128 ∷ 2 ∷ 2 ∷ 20 ∷ 35 ∷ 3 ∷ 5 ∷ 1 ∷ []) 0
    ≡ record { steps = plain (Read 256) ∷ plain (Write 20 35) ∷ plain (Line 5 1) ∷ []; refusal = 0; offset = 9 }
unfolding pick any_below sum_below lowest_below size_at worth_at faulty number_at operands_of two_numbers step_at turn_at steps_from
whole = refl

-- an offset of three bytes, and a limit of two steps
pub three-bytes : steps_from false 2 (1 ∷ 229 ∷ 142 ∷ 38 ∷ 3 ∷ 5 ∷ 1 ∷ 2 ∷ 20 ∷ 35 ∷ []) 0 ≡ record { steps = plain (Read 624485) ∷ plain (Line 5 1) ∷ []; refusal = 7; offset = 7 }
unfolding pick any_below sum_below lowest_below size_at worth_at faulty number_at operands_of two_numbers step_at turn_at steps_from
three-bytes = refl

-- a step cut short is refused at the number that is missing, and is no step
cut : steps_from false 20000 (1 ∷ 4 ∷ 2 ∷ 20 ∷ []) 0 ≡ record { steps = plain (Read 4) ∷ []; refusal = 8; offset = 4 }
unfolding pick any_below sum_below lowest_below size_at worth_at faulty number_at operands_of two_numbers step_at turn_at steps_from
cut = refl

-- the kind 83 01 is no kind
unknown-kind : steps_from false 20000 (131 ∷ 1 ∷ 255 ∷ []) 0 ≡ ends 9 0
unfolding pick any_below sum_below lowest_below size_at worth_at faulty number_at operands_of two_numbers step_at turn_at steps_from
unknown-kind = refl

-- 83 00 is 3, a line; without its numbers it is refused where they would begin (02, 1/12)
padded-kind : steps_from false 20000 (131 ∷ 0 ∷ 5 ∷ 129 ∷ 0 ∷ []) 0 ≡ record { steps = plain (Line 5 1) ∷ []; refusal = 0; offset = 5 }
unfolding pick any_below sum_below lowest_below size_at worth_at faulty number_at operands_of two_numbers step_at turn_at steps_from
padded-kind = refl

padded_cut : steps_from false 20000 (131 ∷ 0 ∷ []) 0 ≡ ends 8 2
unfolding pick any_below sum_below lowest_below size_at worth_at faulty number_at operands_of two_numbers step_at turn_at steps_from
padded_cut = refl

-- the offset 0 in one byte, in two and in five; six are too many, at the first of them (02, 1/12)
padded_offsets : steps_from false 20000 (1 ∷ 0 ∷ 1 ∷ 128 ∷ 0 ∷ 1 ∷ 128 ∷ 128 ∷ 128 ∷ 128 ∷ 0 ∷ 1 ∷ 128 ∷ 128 ∷ 128 ∷ 128 ∷ 128 ∷ 0 ∷ []) 0
    ≡ record { steps = plain (Read 0) ∷ plain (Read 0) ∷ plain (Read 0) ∷ []; refusal = 8; offset = 12 }
unfolding pick any_below sum_below lowest_below size_at worth_at faulty number_at operands_of two_numbers step_at turn_at steps_from
padded_offsets = refl

-- the largest value is taken, 33 bits are not
largest : steps_from false 20000 (2 ∷ 20 ∷ 255 ∷ 255 ∷ 255 ∷ 255 ∷ 15 ∷ 2 ∷ 20 ∷ 128 ∷ 128 ∷ 128 ∷ 128 ∷ 16 ∷ []) 0
    ≡ record { steps = plain (Write 20 4294967295) ∷ []; refusal = 8; offset = 9 }
unfolding pick any_below sum_below lowest_below size_at worth_at faulty number_at operands_of two_numbers step_at turn_at steps_from
largest = refl

-- with the limit reached, a byte more is 7 whatever it is, and no byte more is no refusal
one_more : steps_from false 1 (1 ∷ 4 ∷ 255 ∷ []) 0 ≡ record { steps = plain (Read 4) ∷ []; refusal = 7; offset = 2 }
unfolding pick any_below sum_below lowest_below size_at worth_at faulty number_at operands_of two_numbers step_at turn_at steps_from
one_more = refl

no-more : steps_from false 1 (1 ∷ 4 ∷ []) 0 ≡ record { steps = plain (Read 4) ∷ []; refusal = 0; offset = 2 }
unfolding pick any_below sum_below lowest_below size_at worth_at faulty number_at operands_of two_numbers step_at turn_at steps_from
no-more = refl

-- where privilege is told it comes after the offset, and a line step has none; one over 1 is read as any other number (02, 2/12)
pub privileges : steps_from true 20000 (1 ∷ 64 ∷ 0 ∷ 2 ∷ 72 ∷ 1 ∷ 35 ∷ 3 ∷ 5 ∷ 1 ∷ 1 ∷ 64 ∷ 2 ∷ 1 ∷ 64 ∷ []) 0
    ≡ record { steps = made (Read 64) 0 ∷ made (Write 72 35) 1 ∷ plain (Line 5 1) ∷ made (Read 64) 2 ∷ []; refusal = 8; offset = 15 }
unfolding pick any_below sum_below lowest_below size_at worth_at faulty number_at operands_of two_numbers step_at turn_at steps_from
privileges = refl

-- a privilege of 33 bits is damaged where it stands, and so is the value that is missing after one
damaged_privilege : steps_from true 20000 (2 ∷ 72 ∷ 128 ∷ 128 ∷ 128 ∷ 128 ∷ 16 ∷ 3 ∷ []) 0 ≡ ends 8 2
unfolding pick any_below sum_below lowest_below size_at worth_at faulty number_at operands_of two_numbers step_at turn_at steps_from
damaged_privilege = refl

missing-value : steps_from true 20000 (2 ∷ 72 ∷ 1 ∷ []) 0 ≡ ends 8 3
unfolding pick any_below sum_below lowest_below size_at worth_at faulty number_at operands_of two_numbers step_at turn_at steps_from
missing-value = refl
