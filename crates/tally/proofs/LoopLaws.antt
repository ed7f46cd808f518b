-- What holds at each turn of the loop of figures, and that a step keeps it.
use Prim.Native.Nat.{ℕ, ◌+◌, ◌-◌, ◌≤◌, ◌<◌}
use mathlib.Core.Bool.{Bool, true, false, not}
use mathlib.Core.List.{List}
use mathlib.Core.Path.{◌≡◌, refl, ap, ◌∙◌}
use native.Mathlib.Omega.{arith}
use lib.Dec.{eqb}
use lib.ListN.{length, get_or}
use Rattle.words.specs.Counting.{one}
use Rattle.words.proofs.CountingLaws.{one_le}
use Rattle.steps.specs.declared.Recorded.{Recorded}
use Rattle.steps.specs.Refusals.{carried_out}
use Rattle.trace.specs.Trace.{turn_at, steps_from}
use Rattle.trace.specs.declared.turns.Told.{Told}
use Rattle.trace.specs.Turns.{ended_kind, recorded_of, turn_of}
use Rattle.trace.proofs.TurnLaws.{finds, found_here}
use Rattle.rooms.specs.Reply.{Reply}
use Rattle.kinds.specs.Kinds.{aic_kind}
use Rattle.aic_room.proofs.CellLaws.{depth_is}
use Rattle.aic_waits.specs.Following.{Figures, no_figures}
use Rattle.machine.specs.declared.record.Machine.{Machine}
use Rattle.machine.specs.Machine.{sound}
use Rattle.machine.specs.RecordPromises.{Ready}
use Rattle.machine.specs.Steps.{step}
use Rattle.machine_room.specs.Room.{Laid, Done}
use Rattle.player.proofs.LoopLaws.{Standing, next, done}
use Rattle.tally.specs.Following.{followed_by, tallied, Followed}
use Rattle.tally.proofs.LengthLaws.{found_far}
use Rattle.tally.proofs.TurnLaws.{tallied_found}

-- what is left from here gives the whole; the steps played and those left are the limit, and no more than the bytes read
pub record Tallying (trace : List ℕ) (limit : ℕ) (told : Bool) (start : ℕ) (first : Machine) (count refused left at : ℕ) (room book : List ℕ) : Type 0 where
  pub stood : Standing false first room
  pub figures : Figures
  pub followed : Followed figures stood.machine count book
  pub whole : tallied count refused figures stood.machine (steps_from told left trace at) ≡ tallied 0 0 no_figures first (steps_from told limit trace start)
  pub counted : count + left ≡ limit
  pub few : refused ≤ count
  pub far : count ≤ at

-- one step more
module _ {trace : List ℕ} {limit : ℕ} {told : Bool} {start : ℕ} {first : Machine} {count refused left at : ℕ} {room book : List ℕ} (t : Told)
    (g : Tallying trace limit told start first count refused left at room book) (short : length trace ≤ 65536)
    (e : turn_of t ≡ turn_at told trace at left) (n : t.kind ≡ ended_kind → ⊥) where
  pub small : count < 65536
  small = omega (arith, g.far, short, (found_far told trace at left _ t.next (finds t told trace at left e n)).0, (found_far told trace at left _ t.next (finds t told trace at left e n)).1)

  pub tallies_on : (room' book' : List ℕ) (q : Reply) (d : (k : Bool) (m : Machine) → sound m ≡ true → Laid k m room → Done k (step m (recorded_of t)) room' q)
      (o r : ℕ) → o ≡ one (not (eqb r carried_out)) → r ≡ q.0
      → ((f : Figures) (m : Machine) (k : ℕ) (x : Recorded) → Ready m → k < 4294967290 → (m.kind ≡ aic_kind → get_or room 7 0 ≡ m.aic.depth) → Followed f m k book
      → Laid false (step m x).machine room' → Followed (followed_by f m x) (step m x).machine (k + 1) book')
      → Tallying trace limit told start first (count + 1) (refused + o) (left - 1) t.next room' book'
  unfolding next step
  tallies_on room' book' q d o r eo er f =
      let s = g.stood in
      let m = s.machine in
      let x = recorded_of t in
      let w = done s t.kind t.x t.y t.privilege d in
      let b = f g.figures m count x s.ready (omega (arith, small)) (λ z. depth_is (s.laid.aic z)) g.followed w.0 in
      record {
        stood = next s t.kind t.x t.y t.privilege d;
        figures = followed_by g.figures m x;
        followed = b;
        whole = tallied_found count refused g.figures m told left trace at x t.next (step m x) _ o _ (finds t told trace at left e n) refl refl
            (eo ∙ ap (λ (k : ℕ). one (not (eqb k carried_out))) (er ∙ ap (λ (p : Reply). p.0) w.1)) g.whole;
        counted = omega (arith, g.counted, (found_here t told trace at left e n).1.0);
        few = omega (arith, g.few, eo, one_le (not (eqb r carried_out)));
        far = omega (arith, g.far, (found_far told trace at left _ t.next (finds t told trace at left e n)).0);
      }
