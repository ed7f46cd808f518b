-- Laws of what the wires carry: the activities of the lower numbers, and an input by its wire.
use Prim.Native.Nat.{ℕ, zero, suc, ◌≤◌, ◌<◌}
use mathlib.Core.Path.{◌≡◌, refl, sym, ◌∙◌}
use mathlib.Core.Bool.{Bool, true, false, ◌&&◌}
use mathlib.Core.List.{List}
use mathlib.Core.Logic.{◌↔◌}
use native.Mathlib.Omega.{arith}
use native.Mathlib.Decide.{ℕ_discrete, dec_lt}
use lib.Dec.{eqb, ltb}
use borrow.Author.Tests.{lt-ltb, le-ltb, eq-eqb, ne_eqb}
use Rattle.words.specs.Choice.{pick}
use Rattle.words.proofs.TruthLaws.{clash}
use Rattle.board_wires.specs.declared.Board.{Board}
use Rattle.board_wires.specs.declared.Wire.{Wire}
use Rattle.board_wires.specs.declared.Wire.TheVariants.{Nothing, Pin, Irq, Fiq}
use Rattle.board_wires.specs.Wires.{wire_at, pin_in, pin_of, wired, active_by, below, activity, input_value}

-- what is told of the numbers below n is their activity
pub below-is : (b : Board) (n d : ℕ) (fast : Bool) → d < n → below b n d fast ≡ activity b d fast
unfolding below activity pick
below-is b zero d fast l = absurd (omega arith)
below-is b (suc n) d fast l = go (ℕ_discrete d n) (below-is b n d fast)
  where
    go : Dec (d ≡ n) → (d < n → below b n d fast ≡ activity b d fast) → pick (eqb d n) (active_by b (below b n) n fast) (below b n d fast) ≡ active_by b (below b d) d fast
    go (yes e) ih = rw (eq-eqb d n e, e)
    go (no e) ih = rw (ne_eqb d n e) (unfold activity in (ih (omega arith)))

-- ---- what a wire carries, where g tells the activities of the lower numbers

module _ (ps : List ℕ) (g : ℕ → Bool → Bool) (c : ℕ) (w : Wire) where
  pub carries-nothing : w ≡ Nothing → false ≡ wired ps g c w
  unfolding wired
  carries-nothing e = rw e

  pub carries_pin : (p : ℕ) (x : Bool) → w ≡ Pin p → x ≡ pin_in ps p → x ≡ wired ps g c w
  unfolding wired
  carries_pin p x e h = rw e h

  pub carries-irq : (d : ℕ) (x : Bool) → w ≡ Irq d → x ≡ g d false → (ltb d c && x) ≡ wired ps g c w
  unfolding wired
  carries-irq d x e h = rw (e, h)

  pub carries-fiq : (d : ℕ) (x : Bool) → w ≡ Fiq d → x ≡ g d true → (ltb d c && x) ≡ wired ps g c w
  unfolding wired
  carries-fiq d x e h = rw (e, h)

-- ---- the value of an input by its wire

module _ (b : Board) (c i : ℕ) (w : Wire) (at : w ≡ wire_at b c i) where
  pub from_nothing : w ≡ Nothing → false ≡ input_value b c i
  unfolding input_value wired
  from_nothing e = rw (← at, e)

  pub from_pin : (p : ℕ) (x : Bool) → w ≡ Pin p → x ≡ pin_of b p → x ≡ input_value b c i
  unfolding input_value wired
  from_pin p x e h = rw (← at, e) h

  pub from-irq : (d : ℕ) (x : Bool) → w ≡ Irq d → d < c → x ≡ activity b d false → x ≡ input_value b c i
  unfolding input_value wired
  from-irq d x e l h = rw (← at, e, lt-ltb d c l, below-is b c d false l) h

  pub from-fiq : (d : ℕ) (x : Bool) → w ≡ Fiq d → d < c → x ≡ activity b d true → x ≡ input_value b c i
  unfolding input_value wired
  from-fiq d x e l h = rw (← at, e, lt-ltb d c l, below-is b c d true l) h

  pub irq-above : (d : ℕ) → w ≡ Irq d → c ≤ d → false ≡ input_value b c i
  unfolding input_value wired
  irq-above d e l = rw (← at, e, le-ltb d c l)

  pub fiq-above : (d : ℕ) → w ≡ Fiq d → c ≤ d → false ≡ input_value b c i
  unfolding input_value wired
  fiq-above d e l = rw (← at, e, le-ltb d c l)

-- ---- two tellers that agree on what is asked

-- what is not below c is not asked
lower-same : (g h : ℕ → Bool → Bool) (c d : ℕ) (fast : Bool) → ((d : ℕ) (fast : Bool) → d < c → g d fast ≡ h d fast) → (ltb d c && g d fast) ≡ (ltb d c && h d fast)
lower-same g h c d fast e = go (dec_lt d c)
  where
    go : Dec (d < c) → (ltb d c && g d fast) ≡ (ltb d c && h d fast)
    go (yes l) = rw (e d fast l)
    go (no l) = rw (le-ltb d c (omega arith))

-- a wire asks only the lower numbers
pub wired-same : (ps : List ℕ) (g h : ℕ → Bool → Bool) (c : ℕ) (w : Wire) → ((d : ℕ) (fast : Bool) → d < c → g d fast ≡ h d fast) → wired ps g c w ≡ wired ps h c w
unfolding wired
wired-same ps g h c Nothing e = refl
wired-same ps g h c (Pin p) e = refl
wired-same ps g h c (Irq d) e = lower-same g h c d false e
wired-same ps g h c (Fiq d) e = lower-same g h c d true e

-- ---- the value of an input, exactly

lower-value : (v a : Bool) (d c : ℕ) → (d < c → a ≡ v) → (c ≤ d → false ≡ v) → (v ≡ true) ↔ ((d < c) × (a ≡ true))
lower-value v a d c f g = ((λ e. there e (dec_lt d c)), (λ h. sym (f h.0) ∙ h.1))
  where
    there : v ≡ true → Dec (d < c) → (d < c) × (a ≡ true)
    there e (yes l) = (l, f l ∙ e)
    there e (no l) = clash e (sym (g (omega arith)))

pub irq-value : (b : Board) (c i d : ℕ) → wire_at b c i ≡ Irq d → (input_value b c i ≡ true) ↔ ((d < c) × (activity b d false ≡ true))
irq-value b c i d e =
    lower-value (input_value b c i) (activity b d false) d c (λ l. from-irq b c i (wire_at b c i) refl d (activity b d false) e l refl)
    (irq-above b c i (wire_at b c i) refl d e)

pub fiq-value : (b : Board) (c i d : ℕ) → wire_at b c i ≡ Fiq d → (input_value b c i ≡ true) ↔ ((d < c) × (activity b d true ≡ true))
fiq-value b c i d e =
    lower-value (input_value b c i) (activity b d true) d c (λ l. from-fiq b c i (wire_at b c i) refl d (activity b d true) e l refl)
    (fiq-above b c i (wire_at b c i) refl d e)
