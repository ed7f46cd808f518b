-- That `put_eight` of src/levels.rt keeps its contract.
use Prim.Native.Nat.{◌≤◌}
use Rattle.sheet.specs.Levels.{bar, tallest}
use Rattle.sheet.specs.Texts.{down}
use Rattle.stack.specs.Bytes.{level_bytes}
use Rattle.text.specs.Text.{write}
use lib.ListN.{length}
use mathlib.Core.Path.{◌≡◌}
use Rattle.sheet.proofs.levels.put_eight.Given as goal

abbrev pub invariant-loop-l : goal.invariant-loop-l
invariant-loop-l live = (live.l ≤ 8) × (write (live.out, live.next) (down (λ l. bar (tallest live.t 8) (level_bytes live.t l) l) live.l) ≡ write (live.initial.out, live.at) (down (λ l. bar (tallest live.t 8) (level_bytes live.t l) l) 8)) × (length live.out ≡ length live.initial.out)
