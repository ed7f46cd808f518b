-- What is left to list in each of the ways that a turn of the listing goes.
use Prim.Native.Nat.{ℕ, ◌+◌, ◌-◌}
use mathlib.Core.Path.{◌≡◌, refl, sym, ap, ap₂, ◌∙◌}
use mathlib.Core.Bool.{Bool}
use mathlib.Core.List.{List, ◌++◌, append_assoc}
use lib.Dec.{eqb}
use borrow.Author.Tests.{eq-eqb, ne_eqb}
use Rattle.words.specs.Choice.{pick}
use Rattle.words.proofs.ChoiceLaws.{pick_true, pick-false, pick-ap}
use Rattle.steps.specs.Refusals.{carried_out}
use Rattle.steps.specs.declared.Recorded.{Recorded}
use Rattle.steps.specs.declared.Step.{Step}
use Rattle.steps.specs.declared.Step.TheVariants.{Read, Write, Line}
use Rattle.text.specs.Text.{write}
use Rattle.text.proofs.WriteLaws.{rest_of}
use Rattle.trace.specs.declared.Turn.TheVariants.{Found, Ended}
use Rattle.trace.specs.Steps.{read_kind, write_kind, line_kind}
use Rattle.trace.specs.Trace.{Trace, ends, after, turn_at, steps_from}
use Rattle.trace.proofs.TraceLaws.{trace-ended, trace_found}
use Rattle.trace.specs.Turns.{step_of}
use Rattle.machine.specs.declared.Answer.{Answer}
use Rattle.machine.specs.declared.record.Columns.{Columns}
use Rattle.machine.specs.declared.record.Machine.{Machine}
use Rattle.kinds.specs.Kinds.{name, tells_privilege}
use Rattle.machine.specs.Shown.{shown}
use Rattle.machine.specs.Steps.{step}
use Rattle.beginning.specs.declared.Begun.{Begun}
use Rattle.beginning.specs.Begin.{begin_of}
use Rattle.beginning.specs.Play.{records_from}
use Rattle.beginning.proofs.PlayLaws.{records-begun, records-refused}
use Rattle.lines.specs.Listing.{letter_of, letter, letter_by, shown_value, line_of, step_line, lines_from, joined, end_of, text_from, name_line, listing_of}

-- nothing follows
text-ends : (n : ℕ) (m : Machine) (refusal offset : ℕ) → end_of refusal offset ≡ text_from n m (ends refusal offset)
unfolding text_from lines_from joined
text-ends n m refusal offset = refl

-- a step, and the rest
text-after : (n : ℕ) (m : Machine) (x : Recorded) (t : Trace) → step_line (n + 1) x.step (step m x) ++ text_from (n + 1) (step m x).machine t ≡ text_from n m (after x t)
unfolding text_from lines_from joined
text-after n m x t =
    sym (append_assoc (step_line (n + 1) x.step (step m x)) (joined (lines_from (n + 1) (step m x).machine t.steps)) (end_of t.refusal t.offset))

-- the line of a step, its three parts made one by one
line_made : (n : ℕ) (x : Step) (a : Answer) (l v : ℕ) (c : Columns) → l ≡ letter x a.refusal → v ≡ shown_value a.refusal a.value
    → c ≡ shown a.machine → line_of n l v c ≡ step_line n x a
line_made n x a l v c el ev ec =
    ap (λ (k : ℕ). line_of n k v c) el ∙ ap (λ (k : ℕ). line_of n (letter x a.refusal) k c) ev
    ∙ ap (line_of n (letter x a.refusal) (shown_value a.refusal a.value)) ec

-- the two ways of a turn: the end; a step
module _ (n : ℕ) (m : Machine) (told : Bool) (left : ℕ) (s : List ℕ) (at : ℕ) where
  pub text-ended : (refusal p : ℕ) → turn_at told s at left ≡ Ended refusal p → end_of refusal p ≡ text_from n m (steps_from told left s at)
  text-ended refusal p e = text-ends n m refusal p ∙ ap (text_from n m) (sym (trace-ended told left s at refusal p e))

  text_found : (x : Recorded) (p : ℕ) → turn_at told s at left ≡ Found x p
      → step_line (n + 1) x.step (step m x) ++ text_from (n + 1) (step m x).machine (steps_from told (left - 1) s p) ≡ text_from n m (steps_from told left s at)
  text_found x p e = text-after n m x (steps_from told (left - 1) s p) ∙ ap (text_from n m) (sym (trace_found told left s at x p e))

  -- a turn that lists a step: q is what its line makes of o, and w is what the whole listing leaves
  pub listed : (x : Recorded) (p : ℕ) (a : Answer) (o q w : List ℕ × ℕ) (l v : ℕ) (c : Columns) → turn_at told s at left ≡ Found x p → a ≡ step m x
      → l ≡ letter x.step a.refusal → v ≡ shown_value a.refusal a.value → c ≡ shown a.machine → q ≡ write o (line_of (n + 1) l v c)
      → write o (text_from n m (steps_from told left s at)) ≡ w → write q (text_from (n + 1) a.machine (steps_from told (left - 1) s p)) ≡ w
  listed x p a o q w l v c e g el ev ec eq ew =
      rest_of o q (step_line (n + 1) x.step a) (text_from (n + 1) a.machine (steps_from told (left - 1) s p))
      (eq ∙ ap (write o) (line_made (n + 1) x.step a l v c el ev ec))
      ∙ ap (λ (b : Answer). write o (step_line (n + 1) x.step b ++ text_from (n + 1) b.machine (steps_from told (left - 1) s p))) g
      ∙ ap (write o) (text_found x p e) ∙ ew

-- the text of a loop that has the machine in a form of its own
pub text_as : (n : ℕ) (told told' : Bool) (limit : ℕ) (s : List ℕ) (at : ℕ) (m m' : Machine) → m ≡ m' → told ≡ told'
    → text_from n m (steps_from told limit s at) ≡ text_from n m' (steps_from told' limit s at)
text_as n told told' limit s at m m' e t =
    ap (λ (x : Machine). text_from n x (steps_from told limit s at)) e ∙ ap (λ (z : Bool). text_from n m' (steps_from z limit s at)) t

-- ---- letters by the number of a kind

pub letter-read : (offset refusal : ℕ) → letter_by read_kind refusal ≡ letter (Read offset) refusal
unfolding letter_by letter pick
letter-read offset refusal = refl

pub letter-write : (offset value refusal : ℕ) → letter_by write_kind refusal ≡ letter (Write offset value) refusal
unfolding letter_by letter pick
letter-write offset value refusal = refl

pub letter-line : (line level refusal : ℕ) → letter_by line_kind refusal ≡ letter (Line line level) refusal
unfolding letter_by letter pick
letter-line line level refusal = refl

-- by the number of a kind and the numbers of a step
pub letter-made : (kind x y refusal : ℕ) → letter_by kind refusal ≡ letter (step_of kind x y) refusal
unfolding letter_by letter step_of
letter-made kind x y refusal =
    ap (λ (l : ℕ). pick (eqb refusal carried_out) l 88)
    (ap (pick (eqb kind read_kind) 82) (sym (pick-ap letter_of (eqb kind write_kind) (Write x y) (Line x y)))
    ∙ sym (pick-ap letter_of (eqb kind read_kind) (Read x) (pick (eqb kind write_kind) (Write x y) (Line x y))))

-- a line of a letter and a value that are known under another form
pub line_as : (o q : List ℕ × ℕ) (n l l' v v' : ℕ) (c : Columns) → q ≡ write o (line_of n l v c) → l ≡ l' → v ≡ v' → q ≡ write o (line_of n l' v' c)
line_as o q n l l' v v' c e f g = e ∙ ap₂ (λ (x y : ℕ). write o (line_of n x y c)) f g

-- ---- the whole listing, by its beginning

pub listing-begun : (s : List ℕ) (limit : ℕ) (b : Begun) → b ≡ begin_of s → b.refusal ≡ carried_out
    → name b.machine.kind ++ text_from 0 b.machine (steps_from (tells_privilege b.machine.kind) limit s b.place) ≡ listing_of s limit
unfolding listing_of name_line
listing-begun s limit b e r =
    ap (λ (l : List ℕ). l ++ text_from 0 b.machine (steps_from (tells_privilege b.machine.kind) limit s b.place)) (pick_true _ (eq-eqb b.refusal carried_out r))
    ∙ ap (λ (t : Trace). name_line b ++ text_from 0 b.machine t) (sym (records-begun limit s b r))
    ∙ ap (λ (x : Begun). name_line x ++ text_from 0 x.machine (records_from limit s x)) e

pub listing-refused : (s : List ℕ) (limit : ℕ) (b : Begun) → b ≡ begin_of s → (b.refusal ≡ carried_out → ⊥) → end_of b.refusal b.place ≡ listing_of s limit
unfolding listing_of name_line
listing-refused s limit b e r =
    text-ends 0 b.machine b.refusal b.place
    ∙ ap (λ (l : List ℕ). l ++ text_from 0 b.machine (ends b.refusal b.place)) (pick-false _ (ne_eqb b.refusal carried_out r))
    ∙ ap (λ (t : Trace). name_line b ++ text_from 0 b.machine t) (sym (records-refused limit s b r))
    ∙ ap (λ (x : Begun). name_line x ++ text_from 0 x.machine (records_from limit s x)) e
