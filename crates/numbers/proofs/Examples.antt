-- Numbers at both sides of each rule, computed by the definition.
use Prim.Native.Nat.{◌-◌, ◌^◌}
use mathlib.Core.Path.{◌≡◌, refl}
use mathlib.Core.List.{[], ◌∷◌}
use Rattle.words.specs.Choice.{pick}
use Rattle.words.specs.Counting.{any_below, sum_below, lowest_below}
use Rattle.steps.specs.Refusals.{damaged}
use Rattle.numbers.specs.Number.{Value, Refused, size_at, worth_at, faulty, number_at}

-- the lowest group comes first: A0 01 is 160
two-groups : number_at (160 ∷ 1 ∷ []) 0 ≡ Value 160 2
unfolding pick any_below sum_below lowest_below size_at worth_at faulty number_at
two-groups = refl

pub three-groups : number_at (7 ∷ 229 ∷ 142 ∷ 38 ∷ 1 ∷ []) 1 ≡ Value 624485 4
unfolding pick any_below sum_below lowest_below size_at worth_at faulty number_at
three-groups = refl

-- 0 in one byte, in two and in five (02, 1/12)
zero_one : number_at (0 ∷ []) 0 ≡ Value 0 1
unfolding pick any_below sum_below lowest_below size_at worth_at faulty number_at
zero_one = refl

zero-two : number_at (128 ∷ 0 ∷ []) 0 ≡ Value 0 2
unfolding pick any_below sum_below lowest_below size_at worth_at faulty number_at
zero-two = refl

zero_five : number_at (128 ∷ 128 ∷ 128 ∷ 128 ∷ 0 ∷ []) 0 ≡ Value 0 5
unfolding pick any_below sum_below lowest_below size_at worth_at faulty number_at
zero_five = refl

-- 83 00 is 3
three-two : number_at (131 ∷ 0 ∷ []) 0 ≡ Value 3 2
unfolding pick any_below sum_below lowest_below size_at worth_at faulty number_at
three-two = refl

-- 32 bits are taken, 33 are not
largest : number_at (255 ∷ 255 ∷ 255 ∷ 255 ∷ 15 ∷ []) 0 ≡ Value (2 ^ 32 - 1) 5
unfolding pick any_below sum_below lowest_below size_at worth_at faulty number_at
largest = refl

too_large : number_at (128 ∷ 128 ∷ 128 ∷ 128 ∷ 16 ∷ []) 0 ≡ Refused damaged 0
unfolding pick any_below sum_below lowest_below size_at worth_at faulty number_at
too_large = refl

-- six bytes are too many, whatever they are worth: here 0 (02, 1/12)
too_long : number_at (128 ∷ 128 ∷ 128 ∷ 128 ∷ 128 ∷ 0 ∷ []) 0 ≡ Refused damaged 0
unfolding pick any_below sum_below lowest_below size_at worth_at faulty number_at
too_long = refl

-- one begun and not ended is refused where it begins, one not begun at the length
not-ended : number_at (7 ∷ 128 ∷ []) 1 ≡ Refused damaged 1
unfolding pick any_below sum_below lowest_below size_at worth_at faulty number_at
not-ended = refl

not-begun : number_at (7 ∷ []) 1 ≡ Refused damaged 1
unfolding pick any_below sum_below lowest_below size_at worth_at faulty number_at
not-begun = refl
