-- What is changed where nothing is refused, and that a sound board stays sound.
use Prim.Native.Nat.{ℕ, ◌+◌, ◌*◌, ◌<◌, ◌≤◌}
use mathlib.Core.Path.{◌≡◌, refl, ap, ◌∙◌}
use mathlib.Core.Bool.{Bool, true, false, ◌&&◌}
use mathlib.Core.Logic.{inl, inr}
use native.Mathlib.Decide.{dec_lt, dec_le}
use native.Mathlib.Omega.{arith}
use borrow.Author.Tests.{ltb-true, leb-true}
use lib.Dec.{ltb, leb}
use lib.ListN.{length-set}
use lib.Seq.{get_or-set_same, get_or-set_other}
use Rattle.words.specs.Choice.{pick}
use Rattle.words.proofs.TruthLaws.{and_left, and_right}
use Rattle.steps.specs.Refusals.{carried_out, upward}
use Rattle.coreinterrupt.specs.declared.Begun.{Begun}
use Rattle.coreinterrupt.specs.declared.Core.{Core}
use Rattle.coreinterrupt.specs.Model as CoreInterrupt
use Rattle.coreinterrupt.proofs.Promises.{kept as alone-kept}
use Rattle.board_wires.specs.declared.Board.{Board}
use Rattle.board_wires.specs.declared.Wire.{Wire}
use Rattle.board_wires.specs.declared.Wire.TheVariants.{Nothing, Pin, Irq, Fiq}
use Rattle.board_wires.specs.Wires.{wire_of, wire_number, wire_at}
use Rattle.board_wires.proofs.NumberLaws.{of-nothing, of_pin, of-irq, of-fiq, number-nothing, number_pin, number-irq, number-fiq, wire_there, no-input}
use Rattle.board.specs.RecordPromises.{Shaped}
use Rattle.board.specs.Record.{with_controller, with_wire, with_pin, answered}
use Rattle.board.specs.Sound.{low, sound, lower}
use Rattle.board.proofs.RecordLaws.{core-put, core-other, core-more, wire-put, wire-other}
use Rattle.board.proofs.SoundLaws.{sound-parts, sound-rules, lines-low, number_rule, pin-sound, wire-sound, controller-sound}
use Rattle.board.specs.declared.record.Answer.{Answer}
use Rattle.board.specs.Model.{checked, is_there, is_named, upward_refusal, add, connect, put_pin}
use Rattle.board.specs.Tables.{Adds, Wires, Pins}
use Rattle.board.proofs.AnswerLaws.{either_way, done, none-given, there-is}
use Rattle.board.proofs.NumberLaws.{configured}

-- ---- a controller is added

module _ (f i fl il : ℕ) where
  -- the CoreInterrupt of a configuration within its limits
  abbrev made : Core
  made =
      record {
        fiq = record { count = f; level = fl; inputs = 0; soft = 0; enable = 0 };
        irq = record { count = i; level = il; inputs = 0; soft = 0; enable = 0 };
      }

  limited : (n m : ℕ) → (m < n → ⊥) → n ≤ m
  limited n m h = go (dec_le n m)
    where
      go : Dec (n ≤ m) → n ≤ m
      go (yes l) = l
      go (no l) = absurd (h (omega arith))

  start-made : (CoreInterrupt.start f i fl il).refusal ≡ 0 → (CoreInterrupt.start f i fl il).core ≡ made
  start-made e =
      let n = (configured f i fl il).0 e in
      ap (λ (x : Begun). x.core)
      (alone-kept.start_taken f i fl il (limited f 8 (λ l. n (inl l))) (limited i 32 (λ l. n (inr (inl l)))) (limited fl 1 (λ l. n (inr (inr (inl l)))))
      (limited il 1 (λ l. n (inr (inr (inr l))))))

  made-low : (CoreInterrupt.start f i fl il).refusal ≡ 0 → low (CoreInterrupt.start f i fl il).core ≡ true
  made-low e =
      let k = start-made e in
      lines-low (CoreInterrupt.start f i fl il).core (ap (λ (x : Core). x.fiq.inputs) k) (ap (λ (x : Core). x.irq.inputs) k)

  pub add-sound : (b : Board) → sound b ≡ true → sound (add b f i fl il).board ≡ true
  unfolding add
  add-sound b e =
      either_way (λ (a : Answer). sound a.board ≡ true) b (checked b (ltb b.controllers 8) (CoreInterrupt.start f i fl il).refusal) _
      (λ z. let g = none-given b (ltb b.controllers 8) (CoreInterrupt.start f i fl il).refusal z in
      controller-sound b (CoreInterrupt.start f i fl il).core e (ltb-true b.controllers 8 g.1.0) (alone-kept.start_sound f i fl il) (made-low g.1.1))
      e

  pub add_shaped : (b : Board) → Shaped b → Shaped (add b f i fl il).board
  unfolding add with_controller
  add_shaped b s =
      either_way (λ (a : Answer). Shaped a.board) b (checked b (ltb b.controllers 8) (CoreInterrupt.start f i fl il).refusal) _
      (λ _. (s.0, s.1, length-set b.core b.controllers (CoreInterrupt.start f i fl il).core ∙ s.2)) s

  pub add_does : (b : Board) → Shaped b → (add b f i fl il).refusal ≡ 0 → Adds b made (add b f i fl il)
  unfolding add with_controller
  add_does b s z = rw d.0 (adds (none-given b (ltb b.controllers 8) (CoreInterrupt.start f i fl il).refusal d.1))
    where
      k : Core
      k = (CoreInterrupt.start f i fl il).core

      d : (add b f i fl il ≡ answered (with_controller b (CoreInterrupt.start f i fl il).core) b.controllers)
          × (checked b (ltb b.controllers 8) (CoreInterrupt.start f i fl il).refusal ≡ 0)
      d = done b (checked b (ltb b.controllers 8) (CoreInterrupt.start f i fl il).refusal) (answered (with_controller b (CoreInterrupt.start f i fl il).core) b.controllers) refl z

      adds : (sound b ≡ true) × ((ltb b.controllers 8 ≡ true) × ((CoreInterrupt.start f i fl il).refusal ≡ 0))
          → Adds b made (answered (with_controller b (CoreInterrupt.start f i fl il).core) b.controllers)
      adds g =
          let l = ltb-true b.controllers 8 g.1.0 in
          record {
            value = refl;
            count = refl;
            new = core-more b k b.controllers ∙ core-put b b.controllers k l (omega (arith, l, s.2)) ∙ start-made g.1.1;
            unwired = λ i. nothing i (dec_lt i 40);
            others = λ c n. core-more b k c ∙ core-other b b.controllers c k n;
            wires = refl;
            pins = refl;
          }
        where
          nothing : (i : ℕ) → Dec (i < 40) → wire_at b b.controllers i ≡ Nothing
          nothing i (yes m) =
              let l = ltb-true b.controllers 8 g.1.0 in
              wire_there b.wire b.controllers i l m ∙ ap wire_of ((sound-rules b g.0).unwired b.controllers i (omega arith) l m) ∙ of-nothing
          nothing i (no m) = no-input b.wire b.controllers i (omega arith)

-- ---- an input is wired

-- the number of a wire that names what the board has stands for that wire
named_number : (b : Board) (w : Wire) → sound b ≡ true → is_named b w ≡ true → (wire_of (wire_number w) ≡ w) × (wire_number w < 337)
unfolding is_named
named_number b Nothing s e = (ap wire_of number-nothing ∙ of-nothing, omega (arith, number-nothing))
named_number b (Pin p) s e =
    let l = ltb-true p 320 e in
    (ap wire_of (number_pin p l) ∙ of_pin p l, omega (arith, l, number_pin p l))
named_number b (Irq d) s e =
    let l : d < 8 = omega (arith, there-is b d e, (sound-parts b s).counted) in
    (ap wire_of (number-irq d l) ∙ of-irq d l, omega (arith, l, number-irq d l))
named_number b (Fiq d) s e =
    let l : d < 8 = omega (arith, there-is b d e, (sound-parts b s).counted) in
    (ap wire_of (number-fiq d l) ∙ of-fiq d l, omega (arith, l, number-fiq d l))

upward-none : (c : ℕ) (w : Wire) → upward_refusal c w ≡ 0 → lower c w ≡ true
unfolding upward_refusal pick
upward-none c w = go (lower c w)
  where
    go : (t : Bool) → pick t carried_out upward ≡ 0 → t ≡ true
    go true e = refl
    go false e = absurd (omega arith)

module _ (b : Board) (c i : ℕ) (w : Wire) where
  abbrev within : Bool
  within = is_there b c && ltb i 40 && is_named b w

  -- what the checks of a wire that is taken have let through
  record Taken : Type 0 where
    pub whole : sound b ≡ true
    pub there : c < b.controllers
    pub inside : i < 40
    pub named : is_named b w ≡ true
    pub lowered : lower c w ≡ true

  wire-taken : checked b within (upward_refusal c w) ≡ 0 → Taken
  wire-taken z =
      let g = none-given b within (upward_refusal c w) z in
      let h = and_left (is_there b c && ltb i 40) (is_named b w) g.1.0 in
      record {
        whole = g.0;
        there = there-is b c (and_left (is_there b c) (ltb i 40) h);
        inside = ltb-true i 40 (and_right (is_there b c) (ltb i 40) h);
        named = and_right (is_there b c && ltb i 40) (is_named b w) g.1.0;
        lowered = upward-none c w g.1.1;
      }

  pub connect-sound : sound b ≡ true → sound (connect b c i w).board ≡ true
  unfolding connect
  connect-sound e =
      either_way (λ (a : Answer). sound a.board ≡ true) b (checked b within (upward_refusal c w)) _
      (λ z. let t = wire-taken z in
      let n = named_number b w e t.named in
      wire-sound b c i w e t.inside (number_rule b.controllers c (wire_number w) t.there n.1 (ap (lower c) n.0 ∙ t.lowered)))
      e

  pub connect_shaped : Shaped b → Shaped (connect b c i w).board
  unfolding connect with_wire
  connect_shaped s =
      either_way (λ (a : Answer). Shaped a.board) b (checked b within (upward_refusal c w)) _
      (λ _. (length-set b.wire (40 * c + i) (wire_number w) ∙ s.0, s.1, s.2)) s

  pub connect_does : Shaped b → (connect b c i w).refusal ≡ 0 → Wires b c i w (connect b c i w)
  unfolding connect with_wire
  connect_does s z = rw d.0 (wires (wire-taken d.1))
    where
      d : (connect b c i w ≡ answered (with_wire b c i w) 0) × (checked b within (upward_refusal c w) ≡ 0)
      d = done b (checked b within (upward_refusal c w)) (answered (with_wire b c i w) 0) refl z

      wires : Taken → Wires b c i w (answered (with_wire b c i w) 0)
      wires t =
          let l : c < 8 = omega (arith, t.there, (sound-parts b t.whole).counted) in
          record {
            value = refl;
            new = wire-put b c i w l t.inside (omega (arith, l, t.inside, s.0)) ∙ (named_number b w t.whole t.named).0;
            others = λ d j n. wire-other b c i w d j t.inside n;
            count = refl;
            pins = refl;
            cores = refl;
          }

-- ---- a pin is put

module _ (b : Board) (p l : ℕ) where
  pub pin-put-sound : sound b ≡ true → sound (put_pin b p l).board ≡ true
  unfolding put_pin
  pin-put-sound e =
      either_way (λ (a : Answer). sound a.board ≡ true) b (checked b (ltb p 320 && leb l 1) 0) _
      (λ z. pin-sound b p l e (leb-true l 1 (and_right (ltb p 320) (leb l 1) (none-given b (ltb p 320 && leb l 1) 0 z).1.0))) e

  pub pin_shaped : Shaped b → Shaped (put_pin b p l).board
  unfolding put_pin with_pin
  pin_shaped s =
      either_way (λ (a : Answer). Shaped a.board) b (checked b (ltb p 320 && leb l 1) 0) _ (λ _. (s.0, length-set b.pin p l ∙ s.1, s.2)) s

  pub pin_does : Shaped b → (put_pin b p l).refusal ≡ 0 → Pins b p l (put_pin b p l)
  unfolding put_pin with_pin
  pin_does s z = rw d.0 pins
    where
      d : (put_pin b p l ≡ answered (with_pin b p l) 0) × (checked b (ltb p 320 && leb l 1) 0 ≡ 0)
      d = done b (checked b (ltb p 320 && leb l 1) 0) (answered (with_pin b p l) 0) refl z

      below : p < 320
      below = ltb-true p 320 (and_left (ltb p 320) (leb l 1) (none-given b (ltb p 320 && leb l 1) 0 d.1).1.0)

      pins : Pins b p l (answered (with_pin b p l) 0)
      pins =
          record {
            value = refl;
            new = get_or-set_same b.pin p l 0 (omega (arith, below, s.1));
            others = λ q n. get_or-set_other b.pin p q l 0 n;
            count = refl;
            wires = refl;
            cores = refl;
          }
