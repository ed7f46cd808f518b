-- What a board answers of a controller: its registers, its outputs, its inputs and the chain below it.
use Prim.Native.Nat.{ℕ, ◌+◌, ◌*◌, ◌<◌}
use mathlib.Core.Path.{◌≡◌, sym, ap, ◌∙◌}
use mathlib.Core.Bool.{Bool, true, false, ◌&&◌}
use mathlib.Core.Logic.{◌↔◌, ◌≢◌}
use native.Mathlib.Decide.{dec_lt, ℕ_discrete}
use native.Mathlib.Omega.{arith}
use borrow.Author.Tests.{eq-eqb, ne_eqb, lt-ltb}
use lib.Dec.{ltb}
use lib.ListN.{get_or}
use Rattle.words.specs.Counting.{one}
use Rattle.words.proofs.ChoiceLaws.{pick_true, pick-false}
use Rattle.words.proofs.TruthLaws.{and_both, same_test, not-holds}
use Rattle.steps.specs.declared.Step.TheVariants.{Read}
use Rattle.coreinterrupt.specs.declared.Answer as alone
use Rattle.coreinterrupt.specs.declared.Core.{Core}
use Rattle.coreinterrupt.specs.declared.Signals.{Signals}
use Rattle.coreinterrupt.specs.Model as CoreInterrupt
use Rattle.coreinterrupt.proofs.Promises.{kept as alone-kept}
use Rattle.board_wires.specs.declared.Board.{Board}
use Rattle.board_wires.specs.declared.Wire.{Wire}
use Rattle.board_wires.specs.declared.Wire.TheVariants.{Nothing, Pin, Irq, Fiq}
use Rattle.board_wires.specs.Chain.{chain as chain_below}
use Rattle.board_wires.specs.Promises.{Raised, Alike}
use Rattle.board_wires.specs.Wires.{wire_of, wire_number, wire_at, pin_of, core_at, activity, input_value, wired_core}
use Rattle.board_wires.proofs.Promises.{kept as wired}
use Rattle.board.specs.Sound.{sound}
use Rattle.board.proofs.SoundLaws.{sound-rules}
use Rattle.board.specs.declared.record.Answer.{Answer}
use Rattle.board.specs.declared.Reply.{Reply}
use Rattle.board.specs.Record.{answered}
use Rattle.board.specs.Model.{checked, is_there, read, silent, outputs, input, chain}
use Rattle.board.proofs.AnswerLaws.{carried, stopped, is_there_lem, through, reply-done}
use Rattle.board.proofs.NumberLaws.{outputs_number}
use Rattle.board.proofs.WiredLaws.{wired-sound}

-- ---- a read

pub read_is : (b : Board) (c o : ℕ) → sound b ≡ true → c < b.controllers
    → read b c o ≡ record { refusal = (CoreInterrupt.read (wired_core b c) o).refusal; value = (CoreInterrupt.read (wired_core b c) o).value; board = b }
unfolding read
read_is b c o e l = go (ℕ_discrete R.refusal 0)
  where
    R : alone.Answer
    R = CoreInterrupt.read (wired_core b c) o

    n : ℕ
    n = checked b (is_there b c) R.refusal

    same : checked b (is_there b c) (CoreInterrupt.read (wired_core b c) o).refusal ≡ (CoreInterrupt.read (wired_core b c) o).refusal
    same = through b (is_there b c) R.refusal e (is_there_lem b c l)

    go : Dec ((CoreInterrupt.read (wired_core b c) o).refusal ≡ 0)
        → read b c o ≡ record { refusal = (CoreInterrupt.read (wired_core b c) o).refusal; value = (CoreInterrupt.read (wired_core b c) o).value; board = b }
    go (yes z) = sym (carried b n (same ∙ z)) ∙ ap (λ (m : ℕ). record { refusal = m; value = R.value; board = b }) (sym z)
    go (no z) = sym (stopped b n (answered b R.value) (λ q. z (sym same ∙ q))) ∙ rw same (ap (λ (m : ℕ). record { refusal = R.refusal; value = m; board = b }) (sym (ap (λ (a : alone.Answer). a.value) (alone-kept.refused_same (wired_core b c) (Read o) z))))

-- ---- the outputs

pub outputs-is : (b : Board) (c : ℕ) → sound b ≡ true → c < b.controllers → outputs b c ≡ CoreInterrupt.outputs (wired_core b c)
unfolding outputs
outputs-is b c e l = sym (pick_true (silent (checked b (is_there b c) 0)) (eq-eqb (checked b (is_there b c) 0) 0 (through b (is_there b c) 0 e (is_there_lem b c l))))

pub outputs-refused : (b : Board) (c : ℕ) → (outputs b c).refusal ≢ 0 → outputs b c ≡ silent (outputs b c).refusal
unfolding outputs
outputs-refused b c d =
    let n = outputs_number b c in
    sym (pick-false (CoreInterrupt.outputs (wired_core b c)) (ne_eqb (checked b (is_there b c) 0) 0 (λ z. d (n ∙ z)))) ∙ ap silent (sym n)

irq-shown : (b : Board) (c : ℕ) → sound b ≡ true → c < b.controllers → (outputs b c).irq ≡ activity b c false
irq-shown b c e l =
    ap (λ (s : Signals). s.irq) (outputs-is b c e l ∙ alone-kept.outputs_sound (wired_core b c) (wired-sound b c e l)) ∙ sym (wired.irq_is b c)

fiq-shown : (b : Board) (c : ℕ) → sound b ≡ true → c < b.controllers → (outputs b c).fiq ≡ activity b c true
fiq-shown b c e l =
    ap (λ (s : Signals). s.fiq) (outputs-is b c e l ∙ alone-kept.outputs_sound (wired_core b c) (wired-sound b c e l)) ∙ sym (wired.fiq_is b c)

module _ (b : Board) (c : ℕ) (e : sound b ≡ true) (l : c < b.controllers) where
  pub irq-active : ((outputs b c).irq ≡ true) ↔ Raised (core_at b c).irq (λ k. input_value b c k)
  irq-active = rw (irq-shown b c e l) (wired.irq_active b c ((sound-rules b e).controllers c l))

  pub fiq-active : ((outputs b c).fiq ≡ true) ↔ Raised (core_at b c).fiq (λ k. input_value b c (32 + k))
  fiq-active = rw (fiq-shown b c e l) (wired.fiq_active b c ((sound-rules b e).controllers c l))

  -- ---- the chain

  pub chain-is : chain b c ≡ record { refusal = 0; value = chain_below b c }
  unfolding chain
  chain-is = reply-done (checked b (is_there b c) 0) (chain_below b c) (through b (is_there b c) 0 e (is_there_lem b c l))

  -- ---- an input

  module _ (i : ℕ) (m : i < 40) where
    pub input-is : input b c i ≡ record { refusal = 0; value = one (input_value b c i) }
    unfolding input
    input-is =
        reply-done (checked b (is_there b c && ltb i 40) 0) (one (input_value b c i))
        (through b (is_there b c && ltb i 40) 0 e (and_both (is_there_lem b c l) (lt-ltb i 40 m)))

    value-is : (t : Bool) → input_value b c i ≡ t → (input b c i).value ≡ one t
    value-is t h = ap (λ (r : Reply). r.value) input-is ∙ ap one h

    pub value-nothing : wire_at b c i ≡ Nothing → (input b c i).value ≡ 0
    value-nothing w = value-is false (wired.value_nothing b c i w)

    -- a pin that a wire of the board names is one of the 320
    pin-below : (p : ℕ) → wire_at b c i ≡ Pin p → p < 320
    pin-below p w = go (dec_lt p 320)
      where
        n : ℕ
        n = get_or b.wire (40 * c + i) 0

        at : wire_of (get_or b.wire (40 * c + i) 0) ≡ Pin p
        at = sym (wired.wire_is b c i (omega (arith, l, (sound-rules b e).counted)) m) ∙ w

        kind : Wire → ℕ
        kind Nothing = 0
        kind (Pin q) = 1
        kind (Irq q) = 2
        kind (Fiq q) = 3

        go : Dec (p < 320) → p < 320
        go (yes h) = h
        go (no h) =
            let z : n ≡ 0 = sym (wired.number_back n ((sound-rules b e).numbers c i l m)) ∙ ap wire_number at ∙ wired.pin_else p (omega arith) in
            let k : ◌≡◌ {A = ℕ} 0 1 = ap kind (sym wired.number_nothing.0 ∙ sym (ap wire_of z) ∙ at) in
            absurd (omega (arith, k))

    level-one : (p : ℕ) → p < 320 → one (pin_of b p) ≡ get_or b.pin p 0
    level-one p h = go (ℕ_discrete (get_or b.pin p 0) 1)
      where
        go : Dec (get_or b.pin p 0 ≡ 1) → one (pin_of b p) ≡ get_or b.pin p 0
        go (yes q) = ap one ((wired.pin_is b p).1 (h, q)) ∙ sym q
        go (no q) =
            let z : get_or b.pin p 0 ≡ 0 = omega (arith, q, (sound-rules b e).pins p h) in
            ap one (not-holds (pin_of b p) (λ t. q ((wired.pin_is b p).0 t).1)) ∙ sym z

    pub value_pin : (p : ℕ) → wire_at b c i ≡ Pin p → (input b c i).value ≡ get_or b.pin p 0
    value_pin p w = value-is (pin_of b p) (wired.value_pin b c i p w) ∙ level-one p (pin-below p w)

    pub value-irq : (d : ℕ) → wire_at b c i ≡ Irq d → (input b c i).value ≡ one (outputs b d).irq
    value-irq d w =
        let k = ((sound-rules b e).lower c i d l m).0 w in
        value-is (outputs b d).irq
        (same_test (input_value b c i) (activity b d false) (λ h. ((wired.value_irq b c i d w).0 h).1) (λ h. (wired.value_irq b c i d w).1 (k, h))
        ∙ sym (irq-shown b d e (omega (arith, k, l))))

    pub value-fiq : (d : ℕ) → wire_at b c i ≡ Fiq d → (input b c i).value ≡ one (outputs b d).fiq
    value-fiq d w =
        let k = ((sound-rules b e).lower c i d l m).1 w in
        value-is (outputs b d).fiq
        (same_test (input_value b c i) (activity b d true) (λ h. ((wired.value_fiq b c i d w).0 h).1) (λ h. (wired.value_fiq b c i d w).1 (k, h))
        ∙ sym (fiq-shown b d e (omega (arith, k, l))))

-- ---- boards that differ in the wires of unused inputs

pub unused-same : (x y : Board) → Alike x y → sound x ≡ true → sound y ≡ true → (c : ℕ) → c < x.controllers → c < y.controllers
    → (outputs x c ≡ outputs y c) × ((o : ℕ) → ((read x c o).refusal ≡ (read y c o).refusal) × ((read x c o).value ≡ (read y c o).value))
unused-same x y a e f c l m =
    let k = wired.unused_same x y a c in (
      outputs-is x c e l ∙ ap CoreInterrupt.outputs k ∙ sym (outputs-is y c f m),
      (λ o. (
        ap (λ (r : Answer). r.refusal) (read_is x c o e l) ∙ ap (λ (z : Core). (CoreInterrupt.read z o).refusal) k ∙ sym (ap (λ (r : Answer). r.refusal) (read_is y c o f m)),
        ap (λ (r : Answer). r.value) (read_is x c o e l) ∙ ap (λ (z : Core). (CoreInterrupt.read z o).value) k ∙ sym (ap (λ (r : Answer). r.value) (read_is y c o f m)),
      )),
    )
