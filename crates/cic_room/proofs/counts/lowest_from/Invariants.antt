-- That `lowest_from` of src/counts.rt keeps its contract.
use mathlib.Core.Path.{◌≡◌}
use mathlib.Core.Bool.{false}
use Prim.Native.Nat.{ℕ, ◌*◌, ◌<◌, ◌≤◌}
use Rattle.cic_record.specs.declared.Cic.{Cic}
use Rattle.cic_room.specs.Room.{Frame, permitted, reached, some_word}
use Rattle.cic_room.specs.Tables.{Held, Tables}
use Rattle.cic_room.proofs.counts.lowest_from.Given as goal

abbrev pub invariant-loop-k : goal.invariant-loop-k
invariant-loop-k l =
    (l.k ≤ 8)
    × ((f : Frame) (d : Cic) (n b a u x g : ℕ → ℕ) → Held f d l.room → Tables n (some_word g) b a u x l.room → ((h : ℕ) → h < 32 * l.from → reached (permitted d) g h ≡ false)
    → (h : ℕ) → h < 32 * l.k → reached (permitted d) g h ≡ false)
