-- What the parts of a tick come to.
use Prim.Native.Nat.{ℕ}
use mathlib.Core.Path.{◌≡◌, ap, ◌∙◌}
use mathlib.Core.List.{List, ◌++◌}
use Rattle.steps.specs.declared.Step.{Step}
use Rattle.text.specs.Text.{write}
use Rattle.text.proofs.WriteLaws.{and_then}
use Rattle.vcd.specs.Dump.{heading, first_tick, next_tick}
use Rattle.kinds.specs.Kinds.{name}
use Rattle.machine.specs.declared.record.Machine.{Machine}
use Rattle.lines.specs.Listing.{letter}
use Rattle.waves.specs.Signals.{moment, signals, widths, values, eleven}
use Rattle.waves.proofs.PaddingLaws.{same, padded, first-same, next-same}

-- a heading and tick 0
pub started : (o p q : List ℕ × ℕ) (m : Machine) (v : List ℕ) → v ≡ eleven (values (moment 0 0 0 m))
    → p ≡ write o (heading (name m.kind) (signals m.kind)) → q ≡ write p (first_tick (widths m.kind) v)
    → q ≡ write o (heading (name m.kind) (signals m.kind) ++ first_tick (widths m.kind) (values (moment 0 0 0 m)))
started o p q m v ev e f =
    and_then o _ _ e
    (f ∙ ap (λ (u : List ℕ). write p (first_tick (widths m.kind) u)) ev ∙ ap (write p) (first-same (widths m.kind) _ _ (padded (values (moment 0 0 0 m)))))

-- the values and the tick of a step, of which the letter is known
module _ (x : Step) (refusal value l : ℕ) (m : Machine) (v : List ℕ) (el : l ≡ letter x refusal) (ev : v ≡ eleven (values (moment refusal value l m))) where
  pub lettered : v ≡ eleven (values (moment refusal value (letter x refusal) m))
  lettered = ev ∙ ap (λ (k : ℕ). eleven (values (moment refusal value k m))) el

  pub stepped : (o q : List ℕ × ℕ) (n : ℕ) (before : List ℕ) → q ≡ write o (next_tick n (widths m.kind) before v)
      → q ≡ write o (next_tick n (widths m.kind) before (values (moment refusal value (letter x refusal) m)))
  stepped o q n before e =
      e ∙ ap (λ (u : List ℕ). write o (next_tick n (widths m.kind) before u)) lettered
      ∙ ap (write o) (next-same n (widths m.kind) before before _ _ (same before) (padded (values (moment refusal value (letter x refusal) m))))
