-- Controllers with the wired values as their lines: told by the wires, the pins and the controllers of lower numbers.
use Prim.Native.Nat.{ℕ, zero, suc, ◌+◌, ◌<◌}
use mathlib.Core.Path.{◌≡◌, refl, sym, ap, ap₂, ◌∙◌}
use mathlib.Core.Bool.{true, false}
use mathlib.Core.List.{List}
use native.Mathlib.Decide.{dec_lt}
use native.Mathlib.Omega.{arith}
use Rattle.words.proofs.TruthLaws.{same_test}
use Rattle.words.proofs.WordLaws.{same_word}
use Rattle.coreinterrupt.specs.Side.{active}
use Rattle.coreinterrupt.specs.declared.Core.{Core}
use Rattle.coreinterrupt.specs.Model.{core_of, sound as sound_core}
use Rattle.board_wires.specs.declared.Board.{Board}
use Rattle.board_wires.specs.declared.Wire.{Wire}
use Rattle.board_wires.specs.declared.Wire.TheVariants.{Nothing, Pin, Irq, Fiq}
use Rattle.board_wires.specs.Wires.{wire_in, wire_at, pin_in, core_at, activity, input_value, wired_core}
use Rattle.board_wires.proofs.Promises.{kept as wired}
use Rattle.board.specs.Sound.{sound}
use Rattle.board.proofs.SoundLaws.{sound-rules}
use Rattle.board.proofs.LineLaws.{lined}

-- ---- of a sound board

-- every controller, there or not, has its lines low in the record
pub lines-low-all : (b : Board) → sound b ≡ true → (c : ℕ) → ((core_at b c).fiq.inputs ≡ 0) × ((core_at b c).irq.inputs ≡ 0)
lines-low-all b e c = go (dec_lt c b.controllers) (dec_lt c 8)
  where
    go : Dec (c < b.controllers) → Dec (c < 8) → ((core_at b c).fiq.inputs ≡ 0) × ((core_at b c).irq.inputs ≡ 0)
    go (yes l) h = (sound-rules b e).lines c l
    go (no l) (yes h) =
        let z = (sound-rules b e).spare c (omega arith) h in
        (ap (λ (k : Core). k.fiq.inputs) z, ap (λ (k : Core). k.irq.inputs) z)
    go (no l) (no h) =
        let z = wired.core_else b c (omega arith) in
        (ap (λ (k : Core). k.fiq.inputs) z, ap (λ (k : Core). k.irq.inputs) z)

pub wired-sound : (b : Board) (c : ℕ) → sound b ≡ true → c < b.controllers → sound_core (wired_core b c) ≡ true
wired-sound b c e l = wired.wired_sound b c ((sound-rules b e).controllers c l)

-- only its lines are not those of the record
pub wired-lined : (b : Board) (c : ℕ) → wired_core b c ≡ lined (core_at b c) (wired_core b c).fiq.inputs (wired_core b c).irq.inputs
wired-lined b c = ap₂ core_of (wired.fiq_lines b c) (wired.irq_lines b c)

-- ---- two boards with the same wires and pins, all lines low in their records

module _ (x y : Board) (ws : x.wire ≡ y.wire) (ps : x.pin ≡ y.pin) (e : sound x ≡ true) (f : sound y ≡ true) where
  -- where the controllers of lower numbers are the same, so is the value of an input
  pub value_same : (c : ℕ) → ((d : ℕ) → d < c → wired_core x d ≡ wired_core y d) → (i : ℕ) → input_value x c i ≡ input_value y c i
  value_same c low i = go (wire_at y c i) (ap (λ (v : List ℕ). wire_in v c i) ws) refl
    where
      irq-same : (d : ℕ) → d < c → activity x d false ≡ activity y d false
      irq-same d l = wired.irq_is x d ∙ ap (λ (k : Core). active k.irq) (low d l) ∙ sym (wired.irq_is y d)

      fiq-same : (d : ℕ) → d < c → activity x d true ≡ activity y d true
      fiq-same d l = wired.fiq_is x d ∙ ap (λ (k : Core). active k.fiq) (low d l) ∙ sym (wired.fiq_is y d)

      go : (w : Wire) → wire_at x c i ≡ w → wire_at y c i ≡ w → input_value x c i ≡ input_value y c i
      go Nothing p q = wired.value_nothing x c i p ∙ sym (wired.value_nothing y c i q)
      go (Pin n) p q = wired.value_pin x c i n p ∙ ap (λ (v : List ℕ). pin_in v n) ps ∙ sym (wired.value_pin y c i n q)
      go (Irq d) p q =
          same_test (input_value x c i) (input_value y c i)
          (λ h. let z = (wired.value_irq x c i d p).0 h in (wired.value_irq y c i d q).1 (z.0, sym (irq-same d z.0) ∙ z.1))
          (λ h. let z = (wired.value_irq y c i d q).0 h in (wired.value_irq x c i d p).1 (z.0, irq-same d z.0 ∙ z.1))
      go (Fiq d) p q =
          same_test (input_value x c i) (input_value y c i)
          (λ h. let z = (wired.value_fiq x c i d p).0 h in (wired.value_fiq y c i d q).1 (z.0, sym (fiq-same d z.0) ∙ z.1))
          (λ h. let z = (wired.value_fiq y c i d q).0 h in (wired.value_fiq x c i d p).1 (z.0, fiq-same d z.0 ∙ z.1))

  -- the lines of a controller are told by its counts and the values of its inputs
  module _ (c : ℕ) (low : (d : ℕ) → d < c → wired_core x d ≡ wired_core y d) where
    pub irq-same_lines : (core_at x c).irq.count ≡ (core_at y c).irq.count → (wired_core x c).irq.inputs ≡ (wired_core y c).irq.inputs
    irq-same_lines n =
        same_word 32 (wired_core x c).irq.inputs (wired_core y c).irq.inputs ((wired.lines_word x c).0 (omega (arith, (lines-low-all x e c).1)))
        ((wired.lines_word y c).0 (omega (arith, (lines-low-all y f c).1)))
        (λ k l. wired.irq_line x c k l ∙ rw (n, value_same c low k, (lines-low-all x e c).1 ∙ sym (lines-low-all y f c).1) (sym (wired.irq_line y c k l)))

    pub fiq-same_lines : (core_at x c).fiq.count ≡ (core_at y c).fiq.count → (wired_core x c).fiq.inputs ≡ (wired_core y c).fiq.inputs
    fiq-same_lines n =
        same_word 32 (wired_core x c).fiq.inputs (wired_core y c).fiq.inputs ((wired.lines_word x c).1 (omega (arith, (lines-low-all x e c).0)))
        ((wired.lines_word y c).1 (omega (arith, (lines-low-all y f c).0)))
        (λ k l. wired.fiq_line x c k l ∙ rw (n, value_same c low (32 + k), (lines-low-all x e c).0 ∙ sym (lines-low-all y f c).0) (sym (wired.fiq_line y c k l)))

  -- so controllers that are the same up to a number are the same with their lines
  pub same-below : (n : ℕ) → ((d : ℕ) → d < n → core_at x d ≡ core_at y d) → (d : ℕ) → d < n → wired_core x d ≡ wired_core y d
  same-below zero h d l = absurd (omega arith)
  same-below (suc n) h d l = go (dec_lt d n) (same-below n (λ j m. h j (omega arith)))
    where
      last : ((j : ℕ) → j < n → wired_core x j ≡ wired_core y j) → wired_core x n ≡ wired_core y n
      last low =
          let k = h n (omega arith) in
          wired-lined x n
          ∙ rw (k, irq-same_lines n low (ap (λ (z : Core). z.irq.count) k), fiq-same_lines n low (ap (λ (z : Core). z.fiq.count) k)) (sym (wired-lined y n))

      go : Dec (d < n) → ((j : ℕ) → j < n → wired_core x j ≡ wired_core y j) → wired_core x d ≡ wired_core y d
      go (yes m) low = low d m
      go (no m) low =
          let q : d ≡ n = omega arith in
          ap (wired_core x) q ∙ last low ∙ sym (ap (wired_core y) q)
