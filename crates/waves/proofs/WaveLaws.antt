-- The whole by its beginning.
use Prim.Native.Nat.{ℕ}
use mathlib.Core.Path.{◌≡◌, sym, ap, ◌∙◌}
use mathlib.Core.Bool.{Bool}
use mathlib.Core.List.{List, ◌++◌, append_assoc}
use borrow.Author.Tests.{eq-eqb, ne_eqb}
use Rattle.words.proofs.ChoiceLaws.{pick_true, pick-false}
use Rattle.steps.specs.Refusals.{carried_out}
use Rattle.text.specs.Text.{write}
use Rattle.text.proofs.WriteLaws.{and_then}
use Rattle.trace.specs.Trace.{Trace, steps_from}
use Rattle.vcd.specs.Dump.{opening, declared, heading, first_tick, ending, ticks}
use Rattle.kinds.specs.Kinds.{name, tells_privilege}
use Rattle.machine.specs.declared.record.Machine.{Machine}
use Rattle.beginning.specs.declared.Begun.{Begun}
use Rattle.beginning.specs.Begin.{begin_of}
use Rattle.beginning.specs.Play.{records_from}
use Rattle.beginning.proofs.PlayLaws.{records-begun}
use Rattle.waves.specs.Signals.{signals, widths, values, eleven}
use Rattle.waves.proofs.PaddingLaws.{padded}
use Rattle.waves.specs.Moments.{at_start, rest_from}
use Rattle.waves.proofs.StepLaws.{rest-same}
use Rattle.waves.specs.Waves.{dump_of, no_dump, waves_of}

-- whether privileges are told is asked of the machine
pub rest-told : (o q : List ℕ × ℕ) (v : List ℕ) (m : Machine) (told told' : Bool) (limit : ℕ) (s : List ℕ) (at : ℕ) → told ≡ told'
    → q ≡ write o (rest_from 0 v m (steps_from told limit s at)) → q ≡ write o (rest_from 0 v m (steps_from told' limit s at))
rest-told o q v m told told' limit s at e f = f ∙ ap (λ (z : Bool). write o (rest_from 0 v m (steps_from z limit s at))) e

-- a heading with the first tick, and the rest
pub dumped : (o p q : List ℕ × ℕ) (m : Machine) (t : Trace) (v : List ℕ) → v ≡ eleven (values (at_start m))
    → p ≡ write o (heading (name m.kind) (signals m.kind) ++ first_tick (widths m.kind) (values (at_start m))) → q ≡ write p (rest_from 0 v m t)
    → q ≡ write o (dump_of m t)
unfolding dump_of ticks rest_from
dumped o p q m t v ev e f =
    and_then o _ (rest_from 0 (values (at_start m)) m t) e
    (f ∙ ap (λ (u : List ℕ). write p (rest_from 0 u m t)) ev ∙ ap (write p) (rest-same 0 _ _ m t (padded (values (at_start m)))))
    ∙ ap (write o) (simp append_assoc)

pub waves-begun : (s : List ℕ) (limit : ℕ) (b : Begun) → b ≡ begin_of s → b.refusal ≡ carried_out
    → dump_of b.machine (steps_from (tells_privilege b.machine.kind) limit s b.place) ≡ waves_of s limit
unfolding waves_of
waves-begun s limit b e r =
    ap (dump_of b.machine) (sym (records-begun limit s b r)) ∙ ap (λ (x : Begun). dump_of x.machine (records_from limit s x)) e
    ∙ pick_true _ (eq-eqb (begin_of s).refusal carried_out (ap (λ (x : Begun). x.refusal) (sym e) ∙ r))

pub waves-refused : (s : List ℕ) (limit : ℕ) (b : Begun) → b ≡ begin_of s → (b.refusal ≡ carried_out → ⊥)
    → opening ++ declared ++ ending b.refusal b.place ≡ waves_of s limit
unfolding waves_of no_dump
waves-refused s limit b e r =
    ap (λ (x : Begun). no_dump x.refusal x.place) e
    ∙ pick-false _ (ne_eqb (begin_of s).refusal carried_out (λ z. r (ap (λ (x : Begun). x.refusal) e ∙ z)))
