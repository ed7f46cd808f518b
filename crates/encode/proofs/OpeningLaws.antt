-- What the first word of a statement says, as the code takes it.
use Prim.Native.Nat.{ℕ}
use mathlib.Core.Path.{◌≡◌, sym, ap, ◌∙◌}
use mathlib.Core.Bool.{true, false}
use mathlib.Core.List.{List}
use mathlib.Core.Logic.{◌≢◌, ◌⊎◌, inl, inr}
use native.Mathlib.Omega.{arith}
use lib.Dec.{eqb}
use borrow.Author.Tests.{eq-eqb, ne_eqb}
use Rattle.std.specs.Prelude.{Option, Some, None, unwrap_or, Result, Ok, Err}
use Rattle.words.specs.Choice.{pick}
use Rattle.words.proofs.ChoiceLaws.{pick_true, pick-false}
use Rattle.words.proofs.TruthLaws.{told}
use Rattle.kinds.specs.Kinds.{wanted, tells_privilege}
use Rattle.trace.specs.Steps.{operands_of}
use Rattle.tables.proofs.NumberLaws.{some_none}
use Rattle.encode.specs.declared.statements.Expected.{Expected}
use Rattle.encode.specs.declared.statements.Expected.TheVariants.{Controller, Step, Number, LineEnd, ShorterTrace, ShorterText}
use Rattle.encode.specs.declared.statements.Opening.{Opening as Opens}
use Rattle.encode.specs.Words.{no_kind, kind_of, no_step, step_of}
use Rattle.encode.specs.Statements.{Opening, as_it_should_be, astray, controller_by, step_by, opening_of, by_numbers, by_opening}
use Rattle.encode.specs.Passes.{number_of, unless, opens_as, opening_in, by_opened}

-- ---- a number that may stand for none

pub unless_some : (none n v : ℕ) → Some v ≡ unless none n → (v ≡ n) × (eqb n none ≡ false)
unfolding unless
unless_some none n v e = go (told (eqb n none))
  where
    go : (eqb n none ≡ true) ⊎ (eqb n none ≡ false) → (v ≡ n) × (eqb n none ≡ false)
    go (inl h) = absurd (some_none v (e ∙ sym (pick_true (Some n) h)))
    go (inr h) = (ap (λ (o : Option ℕ). unwrap_or o 0) (e ∙ sym (pick-false None h)), h)

pub unless_none : (none n : ℕ) → None ≡ unless none n → eqb n none ≡ true
unfolding unless
unless_none none n e = go (told (eqb n none))
  where
    go : (eqb n none ≡ true) ⊎ (eqb n none ≡ false) → eqb n none ≡ true
    go (inl h) = h
    go (inr h) = absurd (some_none n (sym (e ∙ sym (pick-false None h))))

pub unless_is : (none : ℕ) {v : ℕ} (n : ℕ) → v ≡ n → (v ≡ none → ⊥) → Some v ≡ unless none n
unfolding unless
unless_is none {v = v} n e d = rw (← e) (pick-false None (ne_eqb v none d))

pub unless_not : (none n : ℕ) → none ≡ n → None ≡ unless none n
unfolding unless
unless_not none n e = pick_true (Some n) (eq-eqb n none (sym e))

-- ---- what the first word says

-- of a word that names a controller, or none
pub controller_none : (k : ℕ) → None ≡ unless no_kind k → ◌≡◌ {A = Result Opens Expected} (Err Controller) (opens_as Controller (controller_by k))
unfolding controller_by opens_as pick
controller_none k h = rw (unless_none no_kind k h)

pub controller_some : (k v n : ℕ) → Some v ≡ unless no_kind k → n ≡ wanted v → Ok (record { kind = v; first = v; numbers = n }) ≡ opens_as Controller (controller_by k)
unfolding controller_by opens_as pick
controller_some k v n h w = let q = unless_some no_kind k v h in rw (w, q.0, q.1)

-- of one that names a step, or none
pub step_none : (kind k : ℕ) → None ≡ unless no_step k → ◌≡◌ {A = Result Opens Expected} (Err Step) (opens_as Step (step_by kind k))
unfolding step_by opens_as pick
step_none kind k h = rw (unless_none no_step k h)

pub step_some : (kind k v n : ℕ) → Some v ≡ unless no_step k → n ≡ operands_of (tells_privilege kind) v
    → Ok (record { kind = kind; first = v; numbers = n }) ≡ opens_as Step (step_by kind k)
unfolding step_by opens_as pick
step_some kind k v n h w = let q = unless_some no_step k v h in rw (w, q.0, q.1)

-- what is answered of it opens the same statement
number_some : (e : Expected) → number_of e ≢ 0
number_some Controller h = absurd (omega arith)
number_some Step h = absurd (omega arith)
number_some Number h = absurd (omega arith)
number_some LineEnd h = absurd (omega arith)
number_some ShorterTrace h = absurd (omega arith)
number_some ShorterText h = absurd (omega arith)

abbrev again : Opening → ℕ → Opening
again o n = record { expected = n; kind = o.kind; first = o.first; numbers = o.numbers }

opened_as : (l : List ℕ) (e : Expected) (o : Opening) → (o.expected ≡ as_it_should_be) ⊎ (o.expected ≡ number_of e) → by_opened l (opens_as e o) ≡ by_opening l o
unfolding opens_as by_opening by_opened
opened_as l e o (inl h) =
    ap (by_opened l) (sym (pick_true (Err e) (eq-eqb o.expected 0 h)))
    ∙ ap (λ (n : ℕ). by_numbers l (again o n)) (sym h) ∙ pick_true _ (eq-eqb o.expected 0 h)
opened_as l e o (inr h) =
    let d : eqb o.expected 0 ≡ false = ne_eqb o.expected 0 (λ z. number_some e (sym h ∙ z)) in
    ap (by_opened l) (sym (pick-false _ d))
    ∙ ap (λ (n : ℕ). astray n 1) (sym h) ∙ pick-false _ d

either_kind : (k : ℕ) → ((controller_by k).expected ≡ as_it_should_be) ⊎ ((controller_by k).expected ≡ number_of Controller)
unfolding controller_by pick
either_kind k = go (told (eqb k no_kind))
  where
    go : (eqb k no_kind ≡ true) ⊎ (eqb k no_kind ≡ false) → ((controller_by k).expected ≡ as_it_should_be) ⊎ ((controller_by k).expected ≡ number_of Controller)
    go (inl h) = inr (rw h)
    go (inr h) = inl (rw h)

either_step : (kind k : ℕ) → ((step_by kind k).expected ≡ as_it_should_be) ⊎ ((step_by kind k).expected ≡ number_of Step)
unfolding step_by pick
either_step kind k = go (told (eqb k no_step))
  where
    go : (eqb k no_step ≡ true) ⊎ (eqb k no_step ≡ false) → ((step_by kind k).expected ≡ as_it_should_be) ⊎ ((step_by kind k).expected ≡ number_of Step)
    go (inl h) = inr (rw h)
    go (inr h) = inl (rw h)

pub opening-said : (l : List ℕ) (kind : ℕ) (w : List ℕ) → by_opened l (opening_in kind w) ≡ by_opening l (opening_of kind w)
unfolding opening_in opening_of
opening-said l kind w = go (told (eqb kind no_kind))
  where
    go : (eqb kind no_kind ≡ true) ⊎ (eqb kind no_kind ≡ false) → by_opened l (opening_in kind w) ≡ by_opening l (opening_of kind w)
    go (inl h) =
        ap (by_opened l) (sym (pick_true _ h)) ∙ opened_as l Controller (controller_by (kind_of w)) (either_kind (kind_of w)) ∙ ap (by_opening l) (pick_true _ h)
    go (inr h) =
        ap (by_opened l) (sym (pick-false _ h)) ∙ opened_as l Step (step_by kind (step_of w)) (either_step kind (step_of w)) ∙ ap (by_opening l) (pick-false _ h)
