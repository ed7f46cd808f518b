-- The parts of a board put anew: what stands there then, and what stands elsewhere.
use Prim.Native.Nat.{ℕ, ◌+◌, ◌*◌, ◌<◌, ◌≤◌}
use mathlib.Core.Path.{◌≡◌, refl, sym, ap, ◌∙◌}
use mathlib.Core.List.{List}
use mathlib.Core.Logic.{◌≢◌, ◌⊎◌, ⊎_elim}
use native.Mathlib.Decide.{dec_lt}
use native.Mathlib.Omega.{arith}
use lib.ListN.{get_or, set, length}
use lib.Seq.{get_or-set_same, get_or-set_other, set_out}
use Rattle.coreinterrupt.specs.declared.Core.{Core}
use Rattle.board_wires.specs.declared.Board.{Board}
use Rattle.board_wires.specs.declared.Wire.{Wire}
use Rattle.board_wires.specs.Wires.{wire_of, wire_number, wire_at, core_at}
use Rattle.board_wires.proofs.NumberLaws.{wire_there, no_wire, no-input, core_there, core_else}
use Rattle.board.specs.Record.{with_controller, with_core, with_wire, with_pin}
use Rattle.board.specs.RecordPromises.{zeros}

-- ---- past the end of an array nothing is put

pub wire_out : (b : Board) (c i : ℕ) (w : Wire) → length b.wire ≤ 40 * c + i → b ≡ with_wire b c i w
unfolding with_wire
wire_out b c i w l = rw (set_out b.wire (40 * c + i) (wire_number w) l)

pub pin_out : (b : Board) (p l : ℕ) → length b.pin ≤ p → b ≡ with_pin b p l
unfolding with_pin
pin_out b p l h = rw (set_out b.pin p l h)

-- ---- the controllers

-- a controller is told by the array of controllers alone
pub core-same : (x y : Board) (c : ℕ) → x.core ≡ y.core → core_at x c ≡ core_at y c
core-same x y c e = go (dec_lt c 8)
  where
    go : Dec (c < 8) → core_at x c ≡ core_at y c
    go (yes l) = core_there x c l ∙ ap (λ (ks : List Core). get_or ks c zeros) e ∙ sym (core_there y c l)
    go (no l) = core_else x c (omega arith) ∙ sym (core_else y c (omega arith))

pub core-put : (b : Board) (c : ℕ) (k : Core) → c < 8 → c < length b.core → core_at (with_core b c k) c ≡ k
unfolding with_core
core-put b c k l m = core_there (with_core b c k) c l ∙ get_or-set_same b.core c k zeros m

pub core-past : (b : Board) (c : ℕ) (k : Core) (d : ℕ) → length b.core ≤ c → core_at (with_core b c k) d ≡ core_at b d
unfolding with_core
core-past b c k d l = core-same (with_core b c k) b d (set_out b.core c k l)

pub core-other : (b : Board) (c d : ℕ) (k : Core) → d ≢ c → core_at (with_core b c k) d ≡ core_at b d
unfolding with_core
core-other b c d k n = go (dec_lt d 8)
  where
    go : Dec (d < 8) → core_at (with_core b c k) d ≡ core_at b d
    go (yes l) = core_there (with_core b c k) d l ∙ get_or-set_other b.core c d k zeros n ∙ sym (core_there b d l)
    go (no l) = core_else (with_core b c k) d (omega arith) ∙ sym (core_else b d (omega arith))

-- one controller more is put at the next number
pub core-more : (b : Board) (k : Core) (d : ℕ) → core_at (with_controller b k) d ≡ core_at (with_core b b.controllers k) d
unfolding with_controller with_core
core-more b k d = core-same (with_controller b k) (with_core b b.controllers k) d refl

-- ---- the wires

pub wire-put : (b : Board) (c i : ℕ) (w : Wire) → c < 8 → i < 40 → 40 * c + i < length b.wire → wire_at (with_wire b c i w) c i ≡ wire_of (wire_number w)
unfolding with_wire
wire-put b c i w l m h =
    wire_there (set b.wire (40 * c + i) (wire_number w)) c i l m ∙ ap wire_of (get_or-set_same b.wire (40 * c + i) (wire_number w) 0 h)

pub wire-other : (b : Board) (c i : ℕ) (w : Wire) (d j : ℕ) → i < 40 → (d ≢ c) ⊎ (j ≢ i) → wire_at (with_wire b c i w) d j ≡ wire_at b d j
unfolding with_wire
wire-other b c i w d j m n = go (dec_lt d 8) (dec_lt j 40)
  where
    ws : List ℕ
    ws = set b.wire (40 * c + i) (wire_number w)

    apart : j < 40 → 40 * d + j ≢ 40 * c + i
    apart h = ⊎_elim (λ (p : d ≢ c) (e : 40 * d + j ≡ 40 * c + i). p (omega arith)) (λ (p : j ≢ i) (e : 40 * d + j ≡ 40 * c + i). p (omega arith)) n

    go : Dec (d < 8) → Dec (j < 40) → wire_at (with_wire b c i w) d j ≡ wire_at b d j
    go (yes l) (yes h) =
        wire_there ws d j l h ∙ ap wire_of (get_or-set_other b.wire (40 * c + i) (40 * d + j) (wire_number w) 0 (apart h))
        ∙ sym (wire_there b.wire d j l h)
    go (yes l) (no h) = no-input ws d j (omega arith) ∙ sym (no-input b.wire d j (omega arith))
    go (no l) h = no_wire ws d j (omega arith) ∙ sym (no_wire b.wire d j (omega arith))
