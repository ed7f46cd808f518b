-- That `route_word` of src/choice.rt keeps its contract.
use Prim.Native.Nat.{◌+◌, ◌≤◌}
use mathlib.Core.Path.{◌≡◌}
use lib.Dec.{eqb}
use lib.ListN.{get_or}
use Rattle.words.specs.Word.{word_of}
use Rattle.aintc_record.specs.Route.{route_of}
use Rattle.aintc_registers.proofs.choice.route_word.Given as goal

abbrev pub invariant-loop-i : goal.invariant-loop-i
invariant-loop-i l = (l.i ≤ 32) × (l.w ≡ word_of l.i (λ j. eqb (route_of (get_or l.routes (l.base + j) 0)) l.side))
