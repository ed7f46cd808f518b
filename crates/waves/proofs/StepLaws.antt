-- What is left to write in each of the ways that a turn goes.
use Prim.Native.Nat.{ℕ, ◌+◌, ◌-◌}
use mathlib.Core.Path.{◌≡◌, refl, sym, ap, ◌∙◌}
use mathlib.Core.Bool.{Bool}
use mathlib.Core.List.{List, ◌++◌, map, append_assoc}
use Rattle.steps.specs.declared.Recorded.{Recorded}
use Rattle.text.specs.Text.{write}
use Rattle.text.proofs.WriteLaws.{rest_of}
use Rattle.trace.specs.declared.Turn.TheVariants.{Found, Ended}
use Rattle.trace.specs.Trace.{Trace, ends, after as after_step, turn_at, steps_from}
use Rattle.trace.proofs.TraceLaws.{trace-ended, trace_found}
use Rattle.vcd.specs.Dump.{next_tick, ticks_from, ending}
use Rattle.machine.specs.declared.record.Machine.{Machine}
use Rattle.machine.specs.declared.Answer.{Answer}
use Rattle.machine.specs.Steps.{step}
use Rattle.machine.proofs.Promises.{kept as machine}
use Rattle.waves.specs.Signals.{widths, values, eleven}
use Rattle.waves.proofs.PaddingLaws.{Same, padded, ticks-same}
use Rattle.waves.specs.Moments.{after, moments_from, rest_from}

-- nothing follows
rest-ends : (n : ℕ) (before : List ℕ) (m : Machine) (refusal offset : ℕ) → ending refusal offset ≡ rest_from n before m (ends refusal offset)
unfolding rest_from moments_from ticks_from
rest-ends n before m refusal offset = refl

-- the values before may have zeros behind them
pub rest-same : (n : ℕ) (a b : List ℕ) (m : Machine) (t : Trace) → Same a b → rest_from n a m t ≡ rest_from n b m t
unfolding rest_from
rest-same n a b m t h = ap (λ (l : List ℕ). l ++ ending t.refusal t.offset) (ticks-same n (widths m.kind) a b (map values (moments_from m t.steps)) h)

-- a step, and the rest
rest-after : (n : ℕ) (before : List ℕ) (m : Machine) (x : Recorded) (t : Trace)
    → next_tick (n + 1) (widths m.kind) before (values (after x (step m x))) ++ rest_from (n + 1) (values (after x (step m x))) (step m x).machine t
    ≡ rest_from n before m (after_step x t)
unfolding rest_from moments_from ticks_from
rest-after n before m x t =
    let v = values (after x (step m x)) in
    let rest = map values (moments_from (step m x).machine t.steps) in
    ap (λ (k : ℕ). next_tick (n + 1) (widths m.kind) before v ++ (ticks_from (n + 1) (widths k) v rest ++ ending t.refusal t.offset)) (machine.step_kind m x)
    ∙ sym (append_assoc (next_tick (n + 1) (widths m.kind) before v) (ticks_from (n + 1) (widths m.kind) v rest) (ending t.refusal t.offset))

-- the two ways of a turn: the end; a step
module _ (n : ℕ) (before : List ℕ) (m : Machine) (told : Bool) (left : ℕ) (s : List ℕ) (at : ℕ) where
  pub rest_ended : (refusal p : ℕ) → turn_at told s at left ≡ Ended refusal p → ending refusal p ≡ rest_from n before m (steps_from told left s at)
  rest_ended refusal p e = rest-ends n before m refusal p ∙ ap (rest_from n before m) (sym (trace-ended told left s at refusal p e))

  -- the tick of a step, with what its answer shows
  tick-made : (x : Recorded) (a : Answer) → a ≡ step m x
      → next_tick (n + 1) (widths a.machine.kind) before (values (after x a)) ≡ next_tick (n + 1) (widths m.kind) before (values (after x (step m x)))
  tick-made x a g =
      ap (λ (b : Answer). next_tick (n + 1) (widths b.machine.kind) before (values (after x b))) g
      ∙ ap (λ (k : ℕ). next_tick (n + 1) (widths k) before (values (after x (step m x)))) (machine.step_kind m x)

  rest-made : (x : Recorded) (a : Answer) (v : List ℕ) (t : Trace) → a ≡ step m x → v ≡ eleven (values (after x a))
      → rest_from (n + 1) v a.machine t ≡ rest_from (n + 1) (values (after x (step m x))) (step m x).machine t
  rest-made x a v t g ev =
      ap (λ (u : List ℕ). rest_from (n + 1) u a.machine t) ev ∙ rest-same (n + 1) _ _ a.machine t (padded (values (after x a)))
      ∙ ap (λ (b : Answer). rest_from (n + 1) (values (after x b)) b.machine t) g

  -- a turn that writes the tick of a step: q is what it makes of o, and w is what the whole leaves
  pub ticked : (x : Recorded) (p : ℕ) (a : Answer) (o q w : List ℕ × ℕ) (v : List ℕ) → turn_at told s at left ≡ Found x p → a ≡ step m x
      → v ≡ eleven (values (after x a)) → q ≡ write o (next_tick (n + 1) (widths a.machine.kind) before (values (after x a)))
      → write o (rest_from n before m (steps_from told left s at)) ≡ w → write q (rest_from (n + 1) v a.machine (steps_from told (left - 1) s p)) ≡ w
  ticked x p a o q w v e g ev eq ew =
      let t = steps_from told (left - 1) s p in
      ap (write q) (rest-made x a v t g ev)
      ∙ rest_of o q (next_tick (n + 1) (widths m.kind) before (values (after x (step m x)))) (rest_from (n + 1) (values (after x (step m x))) (step m x).machine t)
      (eq ∙ ap (write o) (tick-made x a g))
      ∙ ap (write o) (rest-after n before m x t ∙ ap (rest_from n before m) (sym (trace_found told left s at x p e))) ∙ ew
