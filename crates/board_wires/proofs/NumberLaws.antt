-- The numbers of wires in the record, and what is read there.
use Prim.Native.Nat.{ℕ, ◌+◌, ◌-◌, ◌*◌, ◌≤◌, ◌<◌}
use mathlib.Core.Path.{◌≡◌, refl, sym, ap, ◌∙◌}
use mathlib.Core.Bool.{Bool, true, ◌&&◌, and-false}
use mathlib.Core.List.{List}
use mathlib.Core.Logic.{◌↔◌}
use native.Mathlib.Omega.{arith}
use native.Mathlib.Decide.{ℕ_discrete, dec_lt}
use lib.Dec.{eqb, ltb}
use lib.ListN.{get_or}
use borrow.Author.Tests.{lt-ltb, le-ltb, ltb-true, eq-eqb, ne_eqb, eqb-true}
use Rattle.words.specs.Choice.{pick}
use Rattle.words.proofs.ChoiceLaws.{pick-false}
use Rattle.words.proofs.TruthLaws.{and_left, and_right, and_both}
use Rattle.coreinterrupt.specs.Side.{idle}
use Rattle.coreinterrupt.specs.Model.{core_of}
use Rattle.board_wires.specs.declared.Board.{Board}
use Rattle.board_wires.specs.declared.Wire.{Wire}
use Rattle.board_wires.specs.declared.Wire.TheVariants.{Nothing, Pin, Irq, Fiq}
use Rattle.board_wires.specs.Wires.{wire_of, wire_number, wire_in, pin_in, core_at}

pub of-nothing : wire_of 0 ≡ Nothing
unfolding wire_of pick
of-nothing = refl

pub of_pin : (p : ℕ) → p < 320 → wire_of (1 + p) ≡ Pin p
unfolding wire_of pick
of_pin p l = rw (ne_eqb (1 + p) 0 (λ e. omega arith), lt-ltb (1 + p) 321 (omega arith)) (ap Pin (omega arith))

pub of-irq : (d : ℕ) → d < 8 → wire_of (321 + d) ≡ Irq d
unfolding wire_of pick
of-irq d l =
    rw (ne_eqb (321 + d) 0 (λ e. omega arith), le-ltb (321 + d) 321 (omega arith), lt-ltb (321 + d) 329 (omega arith)) (ap Irq (omega arith))

pub of-fiq : (d : ℕ) → d < 8 → wire_of (329 + d) ≡ Fiq d
unfolding wire_of pick
of-fiq d l =
    rw (ne_eqb (329 + d) 0 (λ e. omega arith), le-ltb (329 + d) 321 (omega arith), le-ltb (329 + d) 329 (omega arith), lt-ltb (329 + d) 337 (omega arith))
    (ap Fiq (omega arith))

pub of_else : (w : ℕ) → 337 ≤ w → wire_of w ≡ Nothing
unfolding wire_of pick
of_else w l = rw (ne_eqb w 0 (λ e. omega arith), le-ltb w 321 (omega arith), le-ltb w 329 (omega arith), le-ltb w 337 l)

pub number-nothing : wire_number Nothing ≡ 0
unfolding wire_number
number-nothing = refl

pub number_pin : (p : ℕ) → p < 320 → wire_number (Pin p) ≡ 1 + p
unfolding wire_number pick
number_pin p l = rw (lt-ltb p 320 l)

pub number-irq : (d : ℕ) → d < 8 → wire_number (Irq d) ≡ 321 + d
unfolding wire_number pick
number-irq d l = rw (lt-ltb d 8 l)

pub number-fiq : (d : ℕ) → d < 8 → wire_number (Fiq d) ≡ 329 + d
unfolding wire_number pick
number-fiq d l = rw (lt-ltb d 8 l)

pub no_pin : (p : ℕ) → 320 ≤ p → wire_number (Pin p) ≡ 0
unfolding wire_number pick
no_pin p l = rw (le-ltb p 320 l)

pub no_output : (d : ℕ) → 8 ≤ d → (wire_number (Irq d) ≡ 0) × (wire_number (Fiq d) ≡ 0)
unfolding wire_number pick
no_output d l = (rw (le-ltb d 8 l), rw (le-ltb d 8 l))

-- each number below 337 is that of its wire
pub number_back : (w : ℕ) → w < 337 → wire_number (wire_of w) ≡ w
number_back w l = go (ℕ_discrete w 0) (dec_lt w 321) (dec_lt w 329)
  where
    back : (n : ℕ) (x : Wire) → n ≡ w → wire_of n ≡ x → wire_number x ≡ n → wire_number (wire_of w) ≡ w
    back n x e f g = rw (← e, f) g

    go : Dec (w ≡ 0) → Dec (w < 321) → Dec (w < 329) → wire_number (wire_of w) ≡ w
    go (yes e) p q = back 0 Nothing (omega arith) of-nothing number-nothing
    go (no e) (yes p) q = back (1 + (w - 1)) (Pin (w - 1)) (omega arith) (of_pin (w - 1) (omega arith)) (number_pin (w - 1) (omega arith))
    go (no e) (no p) (yes q) = back (321 + (w - 321)) (Irq (w - 321)) (omega arith) (of-irq (w - 321) (omega arith)) (number-irq (w - 321) (omega arith))
    go (no e) (no p) (no q) = back (329 + (w - 329)) (Fiq (w - 329)) (omega arith) (of-fiq (w - 329) (omega arith)) (number-fiq (w - 329) (omega arith))

-- ---- what is read in the record

pub wire_there : (ws : List ℕ) (c i : ℕ) → c < 8 → i < 40 → wire_in ws c i ≡ wire_of (get_or ws (40 * c + i) 0)
unfolding wire_in pick
wire_there ws c i l m = rw (lt-ltb c 8 l, lt-ltb i 40 m)

-- a controller beyond the eight has no wire
pub no_wire : (ws : List ℕ) (c i : ℕ) → 8 ≤ c → wire_in ws c i ≡ Nothing
unfolding wire_in pick
no_wire ws c i l = rw (le-ltb c 8 l)

pub no-input : (ws : List ℕ) (c i : ℕ) → 40 ≤ i → wire_in ws c i ≡ Nothing
unfolding wire_in
no-input ws c i l = sym (pick-false _ (ap (λ (t : Bool). ltb c 8 && t) (le-ltb i 40 l) ∙ and-false (ltb c 8)))

pub pin-high : (ps : List ℕ) (p : ℕ) → (pin_in ps p ≡ true) ↔ ((p < 320) × (get_or ps p 0 ≡ 1))
unfolding pin_in
pin-high ps p = (
  (λ e. (ltb-true p 320 (and_left (ltb p 320) (eqb (get_or ps p 0) 1) e), eqb-true (get_or ps p 0) 1 (and_right (ltb p 320) (eqb (get_or ps p 0) 1) e))),
  (λ h. and_both (lt-ltb p 320 h.0) (eq-eqb (get_or ps p 0) 1 h.1)),
)

pub core_else : (b : Board) (c : ℕ) → 8 ≤ c → core_at b c ≡ core_of (idle 0 0) (idle 0 0)
unfolding core_at pick
core_else b c l = rw (le-ltb c 8 l)

pub core_there : (b : Board) (c : ℕ) → c < 8 → core_at b c ≡ get_or b.core c (core_of (idle 0 0) (idle 0 0))
unfolding core_at pick
core_there b c l = rw (lt-ltb c 8 l)
