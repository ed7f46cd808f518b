-- That `priority_word` of src/layout.rt keeps its contract.
use mathlib.Core.Path.{◌≡◌}
use Prim.Native.Nat.{◌+◌, ◌*◌, ◌≤◌}
use lib.ListN.{get_or}
use Rattle.words.specs.Word.{bit, word_of}
use Rattle.aintc_record.specs.Route.{priority_of}
use Rattle.aintc_room.proofs.layout.priority_word.Given as goal

abbrev pub invariant-loop-i : goal.invariant-loop-i
invariant-loop-i l = (l.i ≤ 32) × (l.w ≡ word_of l.i (λ j. bit (priority_of (get_or l.routes (32 * l.n + j) 0)) l.b))
