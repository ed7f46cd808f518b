-- What is left to write in each of the ways that a turn goes, and the whole by its beginning.
use Prim.Native.Nat.{ℕ, ◌+◌, ◌-◌, ◌≤◌, ◌<◌}
use mathlib.Core.Path.{◌≡◌, refl, sym, ap, ◌∙◌}
use mathlib.Core.Bool.{Bool, true, false}
use mathlib.Core.List.{List, [], ◌++◌, append_assoc}
use native.Mathlib.Omega.{arith}
use lib.Dec.{ltb}
use borrow.Author.Tests.{eq-eqb, ne_eqb, lt-ltb, le-ltb, le-leb, lt-leb}
use Rattle.words.specs.Choice.{pick}
use Rattle.words.proofs.ChoiceLaws.{pick_true, pick-false}
use Rattle.steps.specs.Refusals.{carried_out}
use Rattle.steps.specs.declared.Recorded.{Recorded}
use Rattle.text.specs.Text.{write}
use Rattle.text.proofs.WriteLaws.{and_then, rest_of}
use Rattle.trace.specs.declared.Turn.TheVariants.{Found, Ended}
use Rattle.trace.specs.Trace.{Trace, ends, after, turn_at, steps_from}
use Rattle.trace.proofs.TraceLaws.{trace-ended, trace_found}
use Rattle.kinds.specs.Kinds.{tells_privilege}
use Rattle.machine.specs.declared.record.Machine.{Machine}
use Rattle.machine.specs.declared.Answer.{Answer}
use Rattle.machine.specs.Steps.{step}
use Rattle.beginning.specs.declared.Begun.{Begun}
use Rattle.beginning.specs.Begin.{begin_of}
use Rattle.beginning.specs.Play.{records_from}
use Rattle.beginning.proofs.PlayLaws.{records-begun}
use Rattle.explain.specs.declared.Window.{Window}
use Rattle.explain.specs.declared.Window.TheVariants.{Whole, Part}
use Rattle.explain.specs.Explain.{step_line, shows, lines_from, end_of, text_from, head_of, started_text, explained_by}

-- ---- which lines are shown

pub shows-all : (n : ℕ) → true ≡ shows Whole n
unfolding shows
shows-all n = refl

pub shows_early : (first steps n : ℕ) → n < first → false ≡ shows (Part first steps) n
unfolding shows
shows_early first steps n l = rw (lt-leb first n l)

pub shows_late : (first steps n : ℕ) (r : Bool) → first ≤ n → r ≡ ltb (n - first) steps → r ≡ shows (Part first steps) n
unfolding shows
shows_late first steps n r l h = rw (le-leb first n l) (h ∙ moved (native.Mathlib.Decide.dec_lt (n - first) steps))
  where
    moved : Dec (n - first < steps) → ltb (n - first) steps ≡ ltb n (first + steps)
    moved (yes m) = lt-ltb (n - first) steps m ∙ sym (lt-ltb n (first + steps) (omega arith))
    moved (no m) = le-ltb (n - first) steps (omega arith) ∙ sym (le-ltb n (first + steps) (omega arith))

-- ---- the loop

module _ (w : Window) (told : Bool) (n : ℕ) (m : Machine) where
  text-ends : (refusal offset : ℕ) → end_of w refusal offset ≡ text_from w told n m (ends refusal offset)
  unfolding text_from lines_from
  text-ends refusal offset = refl

  -- a step, and the rest
  text-after : (x : Recorded) (t : Trace)
      → pick (shows w (n + 1)) (step_line told (n + 1) m x (step m x)) [] ++ text_from w told (n + 1) (step m x).machine t ≡ text_from w told n m (after x t)
  unfolding text_from lines_from
  text-after x t =
      sym (append_assoc (pick (shows w (n + 1)) (step_line told (n + 1) m x (step m x)) []) (lines_from w told (n + 1) (step m x).machine t.steps) (end_of w t.refusal t.offset))

  -- the two ways of a turn: the end; a step
  module _ (left : ℕ) (s : List ℕ) (at : ℕ) where
    pub text-ended : (refusal p : ℕ) → turn_at told s at left ≡ Ended refusal p → end_of w refusal p ≡ text_from w told n m (steps_from told left s at)
    text-ended refusal p e = text-ends refusal p ∙ ap (text_from w told n m) (sym (trace-ended told left s at refusal p e))

    -- q is what the line of a step makes of o, and u is what the whole leaves
    pub lined : (x : Recorded) (p : ℕ) (a : Answer) (o q u : List ℕ × ℕ) → turn_at told s at left ≡ Found x p → a ≡ step m x
        → q ≡ write o (pick (shows w (n + 1)) (step_line told (n + 1) m x a) [])
        → write o (text_from w told n m (steps_from told left s at)) ≡ u → write q (text_from w told (n + 1) a.machine (steps_from told (left - 1) s p)) ≡ u
    lined x p a o q u e g eq eu =
        let t = steps_from told (left - 1) s p in
        ap (λ (b : Answer). write q (text_from w told (n + 1) b.machine t)) g
        ∙ rest_of o q (pick (shows w (n + 1)) (step_line told (n + 1) m x (step m x)) []) (text_from w told (n + 1) (step m x).machine t)
        (eq ∙ ap (λ (b : Answer). write o (pick (shows w (n + 1)) (step_line told (n + 1) m x b) [])) g)
        ∙ ap (write o) (text-after x t ∙ ap (text_from w told n m) (sym (trace_found told left s at x p e))) ∙ eu

-- whether privileges are told is asked of the machine
pub text-told : (w : Window) (m : Machine) (told told' : Bool) (limit : ℕ) (s : List ℕ) (at : ℕ) (o q : List ℕ × ℕ) → told ≡ told'
    → q ≡ write o (text_from w told 0 m (steps_from told limit s at)) → q ≡ write o (text_from w told' 0 m (steps_from told' limit s at))
text-told w m told told' limit s at o q e f = f ∙ ap (λ (z : Bool). write o (text_from w z 0 m (steps_from z limit s at))) e

-- ---- the whole

pub started : (w : Window) (s : List ℕ) (m : Machine) (t : Trace) (o p q : List ℕ × ℕ) → p ≡ write o (head_of w s m.kind)
    → q ≡ write p (text_from w (tells_privilege m.kind) 0 m t) → q ≡ write o (started_text w s m t)
unfolding started_text
started w s m t o p q e f = and_then o _ _ e f

pub explained-begun : (w : Window) (s : List ℕ) (limit : ℕ) (b : Begun) → b ≡ begin_of s → b.refusal ≡ carried_out
    → started_text w s b.machine (steps_from (tells_privilege b.machine.kind) limit s b.place) ≡ explained_by w s limit
unfolding explained_by
explained-begun w s limit b e r =
    ap (started_text w s b.machine) (sym (records-begun limit s b r)) ∙ ap (λ (x : Begun). started_text w s x.machine (records_from limit s x)) e
    ∙ pick_true _ (eq-eqb (begin_of s).refusal carried_out (ap (λ (x : Begun). x.refusal) (sym e) ∙ r))

pub explained-refused : (w : Window) (s : List ℕ) (limit : ℕ) (b : Begun) → b ≡ begin_of s → (b.refusal ≡ carried_out → ⊥)
    → end_of w b.refusal b.place ≡ explained_by w s limit
unfolding explained_by
explained-refused w s limit b e r =
    ap (λ (x : Begun). end_of w x.refusal x.place) e
    ∙ pick-false _ (ne_eqb (begin_of s).refusal carried_out (λ z. r (ap (λ (x : Begun). x.refusal) e ∙ z)))
