-- What the sheet takes from a trace in each of its ways.
use Prim.Native.Nat.{ℕ, ◌≤◌}
use mathlib.Core.Path.{◌≡◌, sym, ap, ap₂, ◌∙◌}
use mathlib.Core.Bool.{Bool, true, false, ◌&&◌}
use mathlib.Core.List.{List}
use native.Mathlib.Omega.{arith}
use lib.Dec.{eqb}
use lib.ListN.{length}
use borrow.Author.Tests.{eq-eqb, eqb-true}
use Rattle.words.proofs.ChoiceLaws.{pick_true, pick-false}
use Rattle.words.proofs.TruthLaws.{and_left, and_right, and_both}
use Rattle.steps.specs.Refusals.{carried_out}
use Rattle.trace.specs.Trace.{Trace, steps_from}
use Rattle.kinds.specs.Kinds.{aic_kind, tells_privilege}
use Rattle.aic_record.specs.Sound.{sound}
use Rattle.aic_record.specs.Promises.{Shaped}
use Rattle.aic_waits.specs.Following.{no_figures}
use Rattle.machine.proofs.MachineLaws.{sound_aic}
use Rattle.beginning.specs.declared.Begun.{Begun}
use Rattle.beginning.specs.Begin.{begin_of}
use Rattle.beginning.proofs.BeginningLaws.{begin-ready}
use Rattle.beginning.specs.Play.{records_from, records_of}
use Rattle.beginning.proofs.PlayLaws.{records-begun}
use Rattle.stack.specs.declared.Table.{Table}
use Rattle.tally.specs.declared.Tallied.{Tallied}
use Rattle.tally.specs.Promises.{aic_of, played_of}
use Rattle.tally.specs.Tally.{steps_in, tally_of}
use Rattle.tally.proofs.TallyLaws.{as_many, tally-begun, none_open}
use Rattle.tally.proofs.LengthLaws.{begun-length, records-short}
use Rattle.totals.specs.Waits.{no_waits}
use Rattle.aic_figures.specs.Waits.{waits_of}
use Rattle.sheet_traces.specs.declared.Played.{Played}
use Rattle.sheet_traces.specs.Watched.{watched_in}
use Rattle.sheet_traces.specs.Following.{tallied_from}
use Rattle.sheet_traces.specs.Noted.{played_in, noted, unseen, starts_aic, note_of}
use Rattle.sheet_traces.proofs.TalliedLaws.{of_machine}

module _ (s : List ℕ) (limit : ℕ) (t : Table) where
  pub of_aic_lem : starts_aic s ≡ true
      → note_of s limit t ≡ noted (tally_of s limit) true (watched_in t (aic_of s) (played_of s limit)) (waits_of (aic_of s) (played_of s limit))
  unfolding note_of
  of_aic_lem h = sym (pick_true _ h)

  pub of_other : starts_aic s ≡ false → note_of s limit t ≡ noted (tally_of s limit) false unseen no_waits
  unfolding note_of
  of_other h = sym (pick-false _ h)

-- ---- what the code asks

pub starts_is : (s : List ℕ) (b : Begun) → b ≡ begin_of s → (eqb b.refusal carried_out && eqb b.machine.kind aic_kind) ≡ starts_aic s
unfolding starts_aic
starts_is s b e = ap (λ (d : Begun). eqb d.refusal carried_out && eqb d.machine.kind aic_kind) e

pub both-parts : (n k : ℕ) → (eqb n carried_out && eqb k aic_kind) ≡ true → (n ≡ carried_out) × (k ≡ aic_kind)
both-parts n k h = (eqb-true n carried_out (and_left (eqb n carried_out) (eqb k aic_kind) h), eqb-true k aic_kind (and_right (eqb n carried_out) (eqb k aic_kind) h))

module _ (s : List ℕ) (b : Begun) (e : b ≡ begin_of s) (r : b.refusal ≡ carried_out) (z : b.machine.kind ≡ aic_kind) where
  told : false ≡ tells_privilege b.machine.kind
  told = rw z

  pub is-sound : sound b.machine.aic ≡ true
  is-sound = sound_aic b.machine z ∙ (begin-ready s b e r).0

  pub is_shaped : Shaped b.machine.aic
  is_shaped = (begin-ready s b e r).1

  pub is_shut : b.machine.aic.depth ≡ 0
  is_shut = none_open s b e

  pub is-short : length s ≤ 65536
  is-short = begun-length s b e r

  -- the steps of an AIC tell no privilege
  records : (limit : ℕ) → steps_from false limit s b.place ≡ records_of s limit
  records limit = ap (λ (q : Bool). steps_from q limit s b.place) told ∙ sym (records-begun limit s b r) ∙ ap (λ (d : Begun). records_from limit s d) e

  pub few_steps : (limit : ℕ) → length (steps_in (steps_from false limit s b.place).steps) ≤ 65536
  few_steps limit =
      let c : length (steps_in (steps_from false limit s b.place).steps) ≡ length (played_of s limit) = ap (λ (q : Trace). length (steps_in q.steps)) (records limit) in
      omega (arith, c, as_many (records_of s limit).steps, records-short s limit)

  started : starts_aic s ≡ true
  unfolding starts_aic
  started =
      and_both (eq-eqb (begin_of s).refusal carried_out (ap (λ (d : Begun). d.refusal) (sym e) ∙ r)) (eq-eqb (begin_of s).machine.kind aic_kind (ap (λ (d : Begun). d.machine.kind) (sym e) ∙ z))

  tally-is : (limit : ℕ) → tallied_from 0 0 no_figures b.machine.aic (steps_from false limit s b.place) ≡ tally_of s limit
  tally-is limit = of_machine 0 0 no_figures b.machine (steps_from false limit s b.place) z ∙ tally-begun s limit false b e r told

  pub note-is : (limit : ℕ) (t : Table) (p : Played) → p ≡ played_in t b.machine.aic (steps_from false limit s b.place)
      → noted p.tallied true p.watched p.waits ≡ note_of s limit t
  unfolding played_in
  note-is limit t p ep =
      ap (λ (q : Played). noted q.tallied true q.watched q.waits) ep
      ∙ ap₂ (λ (f : Tallied) (q : Played). noted f true q.watched q.waits) (tally-is limit)
      (ap₂ (λ (d : Begun) (q : Trace). played_in t d.machine.aic q) e (records limit)) ∙ sym (of_aic_lem s limit t started)
