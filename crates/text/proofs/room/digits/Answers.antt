-- That `digits` of src/room.rt keeps its contract.
use Prim.Native.Nat.{◌+◌, ◌/◌}
use native.Mathlib.Omega.{arith}
use lib.Bits.{and_le_r}
use Rattle.text.proofs.DigitsLaws.{turned, spaced, halved, eight}
use borrow.Author.Rules.{rules}
use Rattle.text.proofs.room.digits.Goals as goal

pub overflow_mul-c : goal.overflow_mul-c
overflow_mul-c c = record { fits = omega (arith, and_le_r (turned c.args.v / 256) 0x000000FF000000FF, and_le_r (turned c.args.v) 0x000000FF000000FF) }

pub overflow_add-c : goal.overflow_add-c
overflow_add-c c = record { fits = omega (arith, and_le_r (turned c.args.v / 256) 0x000000FF000000FF, and_le_r (turned c.args.v) 0x000000FF000000FF) }

pub overflow_mul-d : goal.overflow_mul-d
overflow_mul-d c = record { fits = omega (arith, and_le_r (spaced c.args.v / 16) 0x000F000F000F000F, and_le_r (spaced c.args.v) 0x000F000F000F000F) }

pub overflow_add-d : goal.overflow_add-d
overflow_add-d c = record { fits = omega (arith, and_le_r (spaced c.args.v / 16) 0x000F000F000F000F, and_le_r (spaced c.args.v) 0x000F000F000F000F) }

pub overflow_add-letters : goal.overflow_add-letters
overflow_add-letters c = record { fits = omega (arith, and_le_r (spaced c.args.v / 16) 0x000F000F000F000F, and_le_r (spaced c.args.v) 0x000F000F000F000F) }

pub overflow_add-result : goal.overflow_add-result
overflow_add-result c = record { fits = omega (arith, and_le_r (spaced c.args.v / 16) 0x000F000F000F000F, and_le_r (spaced c.args.v) 0x000F000F000F000F) }

pub overflow_mul-result : goal.overflow_mul-result
overflow_mul-result c = record { fits = omega (arith, and_le_r ((halved c.args.v + 0x0606060606060606) / 16) 0x0101010101010101) }

pub overflow_add-result-2 : goal.overflow_add-result-2
overflow_add-result-2 c = record { fits = omega (arith, and_le_r (spaced c.args.v / 16) 0x000F000F000F000F, and_le_r (spaced c.args.v) 0x000F000F000F000F, and_le_r ((halved c.args.v + 0x0606060606060606) / 16) 0x0101010101010101) }

pub returns : goal.returns
returns c = eight c.args.v (search rules)
