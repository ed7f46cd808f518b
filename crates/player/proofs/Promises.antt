-- The promises of a player, kept.
use Prim.Native.Nat.{ℕ, ◌<◌, ◌≤◌}
use mathlib.Core.Path.{◌≡◌, refl, sym, ap, ◌∙◌}
use mathlib.Core.Bool.{Bool, true, false}
use mathlib.Core.List.{List, [], ◌∷◌}
use mathlib.Core.Logic.{◌↔◌, ◌≢◌, inl, inr}
use native.Mathlib.Nat.{zero-add}
use native.Mathlib.Decide.{ℕ_discrete}
use native.Mathlib.Omega.{arith}
use lib.ListN.{length}
use Rattle.steps.specs.Refusals.{carried_out, limit_reached, damaged, unknown, misconfigured, too_long}
use Rattle.steps.specs.declared.Recorded.{Recorded}
use Rattle.numbers.specs.Promises.{told_at}
use Rattle.trace.specs.declared.Turn.{Turn}
use Rattle.trace.specs.declared.Turn.TheVariants.{Ended}
use Rattle.trace.specs.Promises.{Reads, Along, Ends}
use Rattle.trace.specs.Steps.{tell}
use Rattle.trace.specs.Trace.{Trace}
use Rattle.trace.proofs.Promises.{kept as trace-kept}
use Rattle.trace.proofs.StepLaws.{Outcome, no_kind as Outcome·no_kind, unknown_kind, no_first, one_number, no_second, two_numbered, no_third, three_numbered, outcome}
use Rattle.machine.specs.declared.record.Machine.{Machine}
use Rattle.kinds.specs.Kinds.{is_kind, within}
use Rattle.machine.specs.Machine.{blank, sound}
use Rattle.machine.specs.RecordPromises.{start_with}
use Rattle.machine.specs.Steps.{step}
use Rattle.beginning.specs.declared.Begun.{Begun}
use Rattle.beginning.specs.declared.reports.Played.{Played}
use Rattle.beginning.specs.Asked.{Wanting, Configures}
use Rattle.beginning.specs.Begin.{longest, not_begun, begin_of}
use Rattle.beginning.specs.Play.{records_of, run_of, report, play_of}
use Rattle.player.specs.Promises.{Begins, told, Promises}
use Rattle.beginning.proofs.PlayLaws.{report-ends, play-refused, records-begun, records_limited, run-ready}
use Rattle.beginning.proofs.KnownLaws.{overlong_so, damaged_so, no-kind_so, beyond_so, configured_so}
use Rattle.beginning.proofs.BeginningLaws.{Beginning, overlong, damaged_at, no_kind, beyond_at, configured, beginning, begun, begin-ready}

-- ---- the beginning

-- what a known beginning tells
begins_so : (s : List ℕ) (b : Begun) (p : ℕ) → begin_of s ≡ b → b.place ≡ p → Begins s b.refusal p
begins_so s b p e f = (ap (λ (x : Begun). x.refusal) e, ap (λ (x : Begun). x.place) e ∙ f)

module _ (s : List ℕ) (p : ℕ) where
  abbrev Tells : ℕ → Begun → Type 0
  Tells n b = (b.refusal ≡ n) × (b.place ≡ p)

  abbrev Eleven : Type 0
  Eleven = (longest < length s) × (p ≡ longest)

  eleven-only : (b : Begun) → Beginning s b → Tells too_long b → Eleven
  eleven-only b (overlong l) t = (l, sym t.1)
  eleven-only b (damaged_at ns q l r w d) t = absurd (omega (arith, t.0))
  eleven-only b (no_kind l d k) t = absurd (omega (arith, t.0))
  eleven-only b (beyond_at kind ns q l r w d h) t = absurd (omega (arith, t.0))
  eleven-only b (configured kind ns q l r w) t = absurd (omega (arith, t.0))

  eleven : Begins s too_long p ↔ Eleven
  eleven = (eleven-only (begin_of s) (beginning s), λ h. begins_so s (not_begun too_long longest) p (overlong_so s h.0) (sym h.1))

  abbrev Eight : Type 0
  Eight = (ns : List ℕ) × (length s ≤ longest) × Reads s 0 ns p × Wanting ns × ((told_at s p).refusal ≡ damaged)

  eight-only : (b : Begun) → Beginning s b → Tells damaged b → Eight
  eight-only b (overlong l) t = absurd (omega (arith, t.0))
  eight-only b (damaged_at ns q l r w d) t = rw (sym t.1) (ns, l, r, w, d)
  eight-only b (no_kind l d k) t = absurd (omega (arith, t.0))
  eight-only b (beyond_at kind ns q l r w d h) t = absurd (omega (arith, t.0))
  eight-only b (configured kind ns q l r w) t = absurd (omega (arith, t.0))

  eight : Begins s damaged p ↔ Eight
  eight = (eight-only (begin_of s) (beginning s), λ h. begins_so s (not_begun damaged p) p (damaged_so s h.0 p h.1 h.2 h.3 h.4) refl)

  abbrev Nine : Type 0
  Nine = (length s ≤ longest) × (p ≡ 0) × ((told_at s 0).refusal ≡ carried_out) × (is_kind (told_at s 0).value ≡ false)

  nine-only : (b : Begun) → Beginning s b → Tells unknown b → Nine
  nine-only b (overlong l) t = absurd (omega (arith, t.0))
  nine-only b (damaged_at ns q l r w d) t = absurd (omega (arith, t.0))
  nine-only b (no_kind l d k) t = (l, sym t.1, d, k)
  nine-only b (beyond_at kind ns q l r w d h) t = absurd (omega (arith, t.0))
  nine-only b (configured kind ns q l r w) t = absurd (omega (arith, t.0))

  nine : Begins s unknown p ↔ Nine
  nine = (nine-only (begin_of s) (beginning s), λ h. begins_so s (not_begun unknown 0) p (no-kind_so s h.0 h.2 h.3) (sym h.1))

  abbrev Ten : Type 0
  Ten =
      (kind : ℕ) × (ns : List ℕ) × (length s ≤ longest) × Reads s 0 (kind ∷ ns) p × Wanting (kind ∷ ns) × ((told_at s p).refusal ≡ carried_out)
      × (within kind (length ns) (told_at s p).value ≡ false)

  ten-only : (b : Begun) → Beginning s b → Tells misconfigured b → Ten
  ten-only b (overlong l) t = absurd (omega (arith, t.0))
  ten-only b (damaged_at ns q l r w d) t = absurd (omega (arith, t.0))
  ten-only b (no_kind l d k) t = absurd (omega (arith, t.0))
  ten-only b (beyond_at kind ns q l r w d h) t = rw (sym t.1) (kind, ns, l, r, w, d, h)
  ten-only b (configured kind ns q l r w) t = absurd (omega (arith, t.0))

  ten : Begins s misconfigured p ↔ Ten
  ten = (
    ten-only (begin_of s) (beginning s),
    λ h. begins_so s (not_begun misconfigured p) p
        (beyond_so s h.0 h.1 p h.2 h.3 h.4.0 h.4.1.0 h.4.1.1 h.5 h.6) refl,
  )

  abbrev Accepted : Type 0
  Accepted = (kind : ℕ) × (ns : List ℕ) × (length s ≤ longest) × Reads s 0 (kind ∷ ns) p × Configures kind ns

  accepted-only : (b : Begun) → Beginning s b → Tells carried_out b → Accepted
  accepted-only b (overlong l) t = absurd (omega (arith, t.0))
  accepted-only b (damaged_at ns q l r w d) t = absurd (omega (arith, t.0))
  accepted-only b (no_kind l d k) t = absurd (omega (arith, t.0))
  accepted-only b (beyond_at kind ns q l r w d h) t = absurd (omega (arith, t.0))
  accepted-only b (configured kind ns q l r w) t = rw (sym t.1) (kind, ns, l, r, w)

  accepted : Begins s carried_out p ↔ Accepted
  accepted = (
    accepted-only (begin_of s) (beginning s),
    λ h. begins_so s (begun (start_with h.0 h.1) p) p
        (configured_so s h.0 h.1 p h.2 h.3 h.4.0 h.4.1.0 h.4.1.1) refl,
  )

started : (s : List ℕ) (p kind : ℕ) (ns : List ℕ) → length s ≤ longest → Reads s 0 (kind ∷ ns) p → Configures kind ns
    → (begin_of s).machine ≡ start_with kind ns
started s p kind ns l r w = ap (λ (b : Begun). b.machine) (configured_so s kind ns p l r w.0 w.1.0 w.1.1)

-- a machine that has not begun has all its numbers 0
not_started : (s : List ℕ) (b : Begun) → Beginning s b → b.refusal ≢ carried_out → b.machine ≡ blank
not_started s b (overlong l) z = refl
not_started s b (damaged_at ns q l r w d) z = refl
not_started s b (no_kind l d k) z = refl
not_started s b (beyond_at kind ns q l r w d h) z = refl
not_started s b (configured kind ns q l r w) z = absurd (z refl)

nothing : (s : List ℕ) (limit : ℕ) → (begin_of s).refusal ≢ carried_out
    → play_of s limit ≡ record { steps = 0; machine = blank; refusal = (begin_of s).refusal; offset = (begin_of s).place }
nothing s limit z =
    let b = begin_of s in
    sym (play-refused s limit b refl z) ∙ sym (report-ends 0 b.machine b.refusal b.place)
    ∙ ap (λ (m : Machine). record { steps = 0; machine = m; refusal = b.refusal; offset = b.place }) (not_started s b (beginning s) z)

-- ---- the play

counted : (s : List ℕ) (limit : ℕ) → (play_of s limit).steps ≡ length (records_of s limit).steps
unfolding play_of report
counted s limit = zero-add (length (records_of s limit).steps)

limited : (s : List ℕ) (limit : ℕ) → (play_of s limit).steps ≤ limit
limited s limit = omega (arith, counted s limit, records_limited limit s (begin_of s))

played : (s : List ℕ) (limit : ℕ) → (play_of s limit).machine ≡ run_of (begin_of s).machine (records_of s limit).steps
unfolding play_of report
played s limit = refl

played-none : (m : Machine) → run_of m [] ≡ m
unfolding run_of
played-none m = refl

soundly : (s : List ℕ) (limit : ℕ) → (begin_of s).refusal ≡ carried_out → sound (play_of s limit).machine ≡ true
soundly s limit z = ap sound (played s limit) ∙ (run-ready (begin_of s).machine (records_of s limit).steps (begin-ready s (begin_of s) refl z)).0

-- ---- how it ends

-- how the records end, and how the play does
module _ (s : List ℕ) (limit : ℕ) (z : (begin_of s).refusal ≡ carried_out) where
  abbrev at : ℕ
  at = (begin_of s).place

  abbrev Whole : Trace → Type 0
  Whole t = (p : ℕ) × Along (told s) s at t.steps p × Ends (told s) limit s (length t.steps) p t.refusal t.offset

  whole : Whole (records_of s limit)
  whole = rw (records-begun limit s (begin_of s) z) (trace-kept.trace (told s) limit s at)

  ends : (p : ℕ) × Along (told s) s at (records_of s limit).steps p × Ends (told s) limit s (play_of s limit).steps p (play_of s limit).refusal (play_of s limit).offset
  unfolding play_of report
  ends = let w = whole in (w.0, w.1, rw (zero-add (length (records_of s limit).steps)) w.2)

-- steps that stand one after the other lead to one place
along_one : (t : Bool) (s : List ℕ) (at p q : ℕ) (xs : List Recorded) → Along t s at xs p → Along t s at xs q → p ≡ q
along_one t s at p q [] a b = sym a ∙ b
along_one t s at p q (x ∷ xs) a b =
    let e : a.0 ≡ b.0 = ap (λ (n : Turn). (tell t n).place) (sym a.1 ∙ b.1) in
    along_one t s a.0 p q xs a.2 (rw e b.2)

-- no step is refused by 7
not_seven : (t : Bool) (s : List ℕ) (at : ℕ) (n : Turn) → Outcome t s at n → (tell t n).refusal ≢ limit_reached
not_seven t s at n (Outcome·no_kind e) z = omega arith
not_seven t s at n (unknown_kind kind q e o) z = omega arith
not_seven t s at n (no_first kind q e l f) z = omega arith
not_seven t s at n (one_number step kind q x next v e f) z = omega arith
not_seven t s at n (no_second kind q x r e o f g) z = omega arith
not_seven t s at n (two_numbered step kind q x r y next v e f g) z = omega arith
not_seven t s at n (no_third kind q x r y w e o f g h) z = omega arith
not_seven t s at n (three_numbered step kind q x r y w v next u e f g h) z = omega arith

-- a beginning is not refused by 7
begins_seven : (s : List ℕ) (b : Begun) → Beginning s b → b.refusal ≢ limit_reached
begins_seven s b (overlong l) z = omega arith
begins_seven s b (damaged_at ns q l r w d) z = omega arith
begins_seven s b (no_kind l d k) z = omega arith
begins_seven s b (beyond_at kind ns q l r w d h) z = omega arith
begins_seven s b (configured kind ns q l r w) z = omega arith

module _ (s : List ℕ) (limit p : ℕ) where
  abbrev Seven : Type 0
  Seven =
      ((begin_of s).refusal ≡ carried_out) × Along (told s) s (begin_of s).place (records_of s limit).steps p × ((play_of s limit).steps ≡ limit) × (p < length s)

  abbrev TellsSeven : Type 0
  TellsSeven = ((play_of s limit).refusal ≡ limit_reached) × ((play_of s limit).offset ≡ p)

  -- after a beginning: 7 ends it only where the limit is reached
  by_limit : (z : (begin_of s).refusal ≡ carried_out) (q n refusal offset : ℕ) → n ≡ (play_of s limit).steps → refusal ≡ limit_reached → offset ≡ p
      → Along (told s) s (begin_of s).place (records_of s limit).steps q → Ends (told s) limit s n q refusal offset → Seven
  by_limit z q n refusal offset c e f a (inl h) = absurd (omega (arith, h.1.1.0))
  by_limit z q n refusal offset c e f a (inr (inl h)) = (z, rw (sym f ∙ h.1.1.1) a, sym c ∙ h.1.0, omega (arith, h.0, h.1.1.1))
  by_limit z q n refusal offset c e f a (inr (inr h)) = absurd (not_seven (told s) s q (Ended refusal offset) (rw (sym h.1.1) (outcome (told s) s q)) e)

  -- and it does so there
  at_limit : (q n refusal offset : ℕ) → n ≡ limit → p ≡ q → p < length s → Ends (told s) limit s n q refusal offset → (refusal ≡ limit_reached) × (offset ≡ p)
  at_limit q n refusal offset c e l (inl h) = absurd (omega (arith, h.0))
  at_limit q n refusal offset c e l (inr (inl h)) = (h.1.1.0, h.1.1.1 ∙ sym e)
  at_limit q n refusal offset c e l (inr (inr h)) = absurd (omega (arith, h.1.0))

  seven-only : TellsSeven → Seven
  seven-only h = go (ℕ_discrete (begin_of s).refusal carried_out)
    where
      go : Dec ((begin_of s).refusal ≡ carried_out) → Seven
      go (yes z) = let w = ends s limit z in by_limit z w.0 _ _ _ refl h.0 h.1 w.1 w.2
      go (no z) = absurd (begins_seven s (begin_of s) (beginning s) (sym (ap (λ (r : Played). r.refusal) (nothing s limit z)) ∙ h.0))

  seven_so : Seven → TellsSeven
  seven_so h =
      let w = ends s limit h.0 in
      at_limit w.0 _ _ _ h.2 (along_one (told s) s (begin_of s).place p w.0 (records_of s limit).steps h.1 w.1) h.3 w.2

played-one : (m : Machine) (x : Recorded) (xs : List Recorded) → run_of m (x ∷ xs) ≡ run_of (step m x).machine xs
unfolding run_of
played-one m x xs = refl

pub kept : Promises
kept =
    record {
      eleven = eleven;
      eight = eight;
      nine = nine;
      ten = ten;
      accepted = accepted;
      started = started;
      not_started = λ s z. not_started s (begin_of s) (beginning s) z;
      nothing = nothing;
      counted = counted;
      limited = limited;
      played = played;
      played_none = played-none;
      played_one = played-one;
      soundly = soundly;
      ends = ends;
      seven = λ s limit p. (seven-only s limit p, seven_so s limit p);
    }
