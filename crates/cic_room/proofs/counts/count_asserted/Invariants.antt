-- That `count_asserted` of src/counts.rt keeps its contract.
use mathlib.Core.Path.{◌≡◌}
use Prim.Native.Nat.{ℕ, ◌*◌, ◌≤◌}
use Rattle.words.specs.Counting.{count_below}
use Rattle.cic_record.specs.declared.Cic.{Cic}
use Rattle.cic_room.specs.Room.{Frame, permitted, reached, some_word}
use Rattle.cic_room.specs.Tables.{Held, Tables}
use Rattle.cic_room.proofs.counts.count_asserted.Given as goal

abbrev pub invariant-loop-k : goal.invariant-loop-k
invariant-loop-k l =
    (l.k ≤ 8)
    × ((l.sum ≤ 32 * l.k)
    × ((f : Frame) (d : Cic) (n b a u x g : ℕ → ℕ) → Held f d l.room → Tables n (some_word g) b a u x l.room → l.sum ≡ count_below (32 * l.k) (reached (permitted d) g)))
