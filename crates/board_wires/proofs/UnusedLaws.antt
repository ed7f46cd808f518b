-- Boards that differ in the wires of unused inputs only have the same controllers.
use Prim.Native.Nat.{ℕ, zero, suc, ◌<◌}
use mathlib.Core.Path.{◌≡◌, refl, ap, ap₂, ◌∙◌}
use mathlib.Core.Bool.{Bool, true, false}
use mathlib.Core.List.{List}
use lib.Dec.{eqb, ltb}
use lib.ListN.{get_or}
use Rattle.words.specs.Choice.{pick}
use Rattle.coreinterrupt.specs.Side.{idle, active}
use Rattle.coreinterrupt.specs.declared.Core.{Core}
use Rattle.coreinterrupt.specs.Model.{core_of, side}
use Rattle.board_wires.specs.declared.Board.{Board}
use Rattle.board_wires.specs.declared.Wire.{Wire}
use Rattle.board_wires.specs.Wires.{wire_at, core_at, inputs_of, place_of, wired, side_in, side_by, active_by, below, wired_core}
use Rattle.board_wires.specs.Promises.{Alike}
use Rattle.board_wires.proofs.WireLaws.{wired-same}
use Rattle.board_wires.proofs.InputLaws.{side_used}

module _ (x y : Board) (a : Alike x y) where
  core-alike : (c : ℕ) → core_at x c ≡ core_at y c
  unfolding core_at
  core-alike c = ap (λ (ks : List Core). pick (ltb c 8) (get_or ks c (core_of (idle 0 0) (idle 0 0))) (core_of (idle 0 0) (idle 0 0))) a.cores

  wire-alike : (c : ℕ) (fast : Bool) (k : ℕ) → k < (side (core_at x c) fast).count → wire_at x c (place_of fast k) ≡ wire_at y c (place_of fast k)
  unfolding side pick
  wire-alike c true k l = a.fiqs c k l
  wire-alike c false k l = a.irqs c k l

  side-alike : (g h : ℕ → Bool → Bool) → ((d : ℕ) (f : Bool) → g d f ≡ h d f) → (c : ℕ) (fast : Bool) (n : ℕ) → side_by x g c fast n ≡ side_by y h c fast n
  side-alike g h e c fast n =
      side_used x.wire y.wire x.pin y.pin g h c fast (side (core_at x c) fast) n
      (λ k l.
      ap₂ (λ (ps : List ℕ) (w : Wire). wired ps g c w) a.pins (wire-alike c fast k l)
      ∙ wired-same y.pin g h c (wire_at y c (place_of fast k)) (λ d f _. e d f))
      ∙ ap (λ (k : Core). side_in y.wire y.pin h c fast (side k fast) n) (core-alike c)

  active-alike : (g h : ℕ → Bool → Bool) → ((d : ℕ) (f : Bool) → g d f ≡ h d f) → (c : ℕ) (fast : Bool) → active_by x g c fast ≡ active_by y h c fast
  unfolding active_by
  active-alike g h e c fast = ap active (side-alike g h e c fast (inputs_of fast))

  below_alike : (n d : ℕ) (fast : Bool) → below x n d fast ≡ below y n d fast
  unfolding below
  below_alike zero d fast = refl
  below_alike (suc n) d fast =
      ap₂ (λ (u v : Bool). pick (eqb d n) u v) (active-alike (below x n) (below y n) (below_alike n) n fast) (below_alike n d fast)

  pub core_unused : (c : ℕ) → wired_core x c ≡ wired_core y c
  unfolding wired_core
  core_unused c =
      ap₂ core_of (side-alike (below x c) (below y c) (below_alike c) c true 8) (side-alike (below x c) (below y c) (below_alike c) c false 32)
