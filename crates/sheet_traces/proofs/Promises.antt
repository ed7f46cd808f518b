-- The promises of what the sheet takes from a trace are kept.
use Prim.Native.Nat.{ℕ, ◌≤◌, ◌<◌}
use mathlib.Core.Path.{◌≡◌, refl, sym, ap, ◌∙◌, subst}
use mathlib.Core.Bool.{true, false}
use mathlib.Core.List.{List, ◌++◌}
use mathlib.Core.Logic.{◌↔◌, ◌⊎◌, inl, inr}
use native.Mathlib.Omega.{arith}
use native.Mathlib.Decide.{ℕ_discrete}
use lib.ListN.{get_or}
use borrow.Author.Tests.{eq-eqb}
use Rattle.words.proofs.TruthLaws.{told, clash, and_both}
use Rattle.steps.specs.Refusals.{carried_out}
use Rattle.steps.specs.declared.Step.{Step}
use Rattle.kinds.specs.Kinds.{aic_kind}
use Rattle.aic_record.specs.declared.Aic.{Aic}
use Rattle.aic_runs.specs.Runs.{run}
use Rattle.aic_bounds.specs.Bounds as Terms
use Rattle.aic_bounds.specs.Over.{bounded_of}
use Rattle.aic_bounds.proofs.Promises as Bounds
use Rattle.aic_waits.specs.Figures.{waited_of}
use Rattle.aic_figures.specs.Promises.{Source}
use Rattle.aic_figures.proofs.Promises as Book
use Rattle.beginning.specs.Begin.{begin_of}
use Rattle.stack.specs.declared.Table.{Table}
use Rattle.stack.specs.Bytes.{stack_bytes, open_bytes}
use Rattle.stack.specs.Kept.{keeps_along}
use Rattle.stack.proofs.KeptPromises as Kept
use Rattle.tally.specs.Promises.{aic_of, played_of}
use Rattle.tally.proofs.TallyLaws.{fresh}
use Rattle.tally.proofs.Promises as Tally
use Rattle.totals.specs.declared.Totals.{Totals}
use Rattle.totals.specs.Promises.{Whole}
use Rattle.totals.specs.Waits.{bound_of}
use Rattle.totals.specs.declared.sheets.Noted.{Noted}
use Rattle.sheet_traces.specs.Watched.{strays_in, watched_in}
use Rattle.sheet_traces.specs.Noted.{starts_aic, note_of}
use Rattle.sheet_traces.specs.Promises.{Promises, Reported, Seen, Unseen}
use Rattle.sheet_traces.proofs.NoteLaws.{of_aic_lem, of_other, both-parts, is_shaped}
use Rattle.sheet_traces.proofs.SeenLaws.{mark_exactly, idle_exactly, used_exactly, strays-none, strays-some}

module _ (s : List ℕ) (limit : ℕ) (t : Table) where
  -- whatever holds of both ways
  by-kind : (P : Noted → Type 0) → (starts_aic s ≡ true → P (note_of s limit t)) → (starts_aic s ≡ false → P (note_of s limit t)) → P (note_of s limit t)
  by-kind P a b = go (told (starts_aic s))
    where
      go : (starts_aic s ≡ true) ⊎ (starts_aic s ≡ false) → P (note_of s limit t)
      go (inl h) = a h
      go (inr h) = b h

  reported : Reported s limit (note_of s limit t)
  reported =
      by-kind (Reported s limit)
      (λ h. rw (of_aic_lem s limit t h) (record { steps = refl; refused = refl; refusal = refl; offset = refl; figures = refl }))
      (λ h. rw (of_other s limit t h) (record { steps = refl; refused = refl; refusal = refl; offset = refl; figures = refl }))

  -- what a trace is of tells which way it went
  starts : (note_of s limit t).aic ≡ true → starts_aic s ≡ true
  starts e = go (told (starts_aic s))
    where
      go : (starts_aic s ≡ true) ⊎ (starts_aic s ≡ false) → starts_aic s ≡ true
      go (inl h) = h
      go (inr h) = clash e (ap (λ (n : Noted). n.aic) (of_other s limit t h))

  starts_none : (note_of s limit t).aic ≡ false → starts_aic s ≡ false
  starts_none e = go (told (starts_aic s))
    where
      go : (starts_aic s ≡ true) ⊎ (starts_aic s ≡ false) → starts_aic s ≡ false
      go (inl h) = clash (ap (λ (n : Noted). n.aic) (of_aic_lem s limit t h)) e
      go (inr h) = h

  parts : starts_aic s ≡ true → ((begin_of s).refusal ≡ 0) × ((begin_of s).machine.kind ≡ 0)
  unfolding starts_aic
  parts h = both-parts (begin_of s).refusal (begin_of s).machine.kind h

  whole : ((begin_of s).refusal ≡ 0) × ((begin_of s).machine.kind ≡ 0) → starts_aic s ≡ true
  unfolding starts_aic
  whole h = and_both (eq-eqb (begin_of s).refusal carried_out h.0) (eq-eqb (begin_of s).machine.kind aic_kind h.1)

  is-of_aic : ((note_of s limit t).aic ≡ true) ↔ (((begin_of s).refusal ≡ 0) × ((begin_of s).machine.kind ≡ 0))
  is-of_aic = ((λ e. parts (starts e)), (λ h. ap (λ (n : Noted). n.aic) (of_aic_lem s limit t (whole h))))

  seen : (note_of s limit t).aic ≡ true → Seen t (aic_of s) (played_of s limit) (note_of s limit t)
  unfolding watched_in
  seen e =
      rw (of_aic_lem s limit t (starts e))
      (record {
        marks = refl;
        ends = refl;
        entries = refl;
        used = refl;
        strays = refl;
        astray = refl;
        waits = λ k l. (Book.kept).source (aic_of s) (played_of s limit) k l;
      })

  not_seen : (note_of s limit t).aic ≡ false → Unseen (note_of s limit t)
  not_seen e =
      rw (of_other s limit t (starts_none e)) (record { marks = refl; ends = refl; entries = refl; used = refl; strays = refl; astray = refl; waits = refl })

  sources : Whole (note_of s limit t).figures
  sources = subst Whole (sym reported.figures) ((Tally.kept).sources s limit)

  -- ---- what it gives

  keeps-table : (note_of s limit t).aic ≡ true → 32 ≤ (note_of s limit t).strays → keeps_along t (aic_of s) (played_of s limit) ≡ true
  keeps-table e l = (strays-none t (aic_of s) (played_of s limit)).0 (go (ℕ_discrete (strays_in t (aic_of s) (played_of s limit)) 32))
    where
      go : Dec (strays_in t (aic_of s) (played_of s limit) ≡ 32) → strays_in t (aic_of s) (played_of s limit) ≡ 32
      go (yes z) = z
      go (no n) = absurd (omega (arith, l, (seen e).strays, (strays-some t 0 (aic_of s) (played_of s limit) n).0))

  stack-holds : (note_of s limit t).aic ≡ true → 32 ≤ (note_of s limit t).strays → (ys zs : List Step) → played_of s limit ≡ ys ++ zs → open_bytes t (run (aic_of s) ys) ≤ stack_bytes t
  stack-holds e l ys zs p =
      let f = fresh s in
      let k : keeps_along t (aic_of s) (ys ++ zs) ≡ true = ap (keeps_along t (aic_of s)) (sym p) ∙ keeps-table e l in
      subst (λ (a : Aic). open_bytes t (run a ys) ≤ stack_bytes t) (sym f.2) ((Kept.kept).never_more_reset t f.0 f.1 ys zs (subst (λ (a : Aic). keeps_along t a (ys ++ zs) ≡ true) f.2 k))

  bound-is : (k : ℕ) → Source (note_of s limit t).waits k (aic_of s) (played_of s limit) → bound_of (note_of s limit t).waits k ≡ bounded_of k (aic_of s) (played_of s limit)
  unfolding bound_of Terms.bound_of
  bound-is k w = omega (arith, w.pending, w.edges, w.commands, w.turns, w.closed, w.remembered, (Bounds.kept).largest_sum (aic_of s) k (played_of s limit))

  seen-bounded : (k : ℕ) → (note_of s limit t).aic ≡ true → k < 32 → get_or (note_of s limit t).waits.unbounded k 0 ≡ 0
      → get_or (note_of s limit t).figures.waited k 0 ≤ bound_of (note_of s limit t).waits k
  seen-bounded k e l z =
      let w = (seen e).waits k l in
      let h = parts (starts e) in
      let a = (Bounds.kept).seen_bounded (aic_of s) k (played_of s limit) (is_shaped s (begin_of s) refl h.0 h.1) l (sym w.unbounded ∙ z) in
      let f : get_or (note_of s limit t).figures.waited k 0 ≡ waited_of k (aic_of s) (played_of s limit)
      = ap (λ (g : Totals). get_or g.waited k 0) reported.figures ∙ ((Tally.kept).figure s limit k h.1 l).waited in
      omega (arith, a, f, bound-is k w)

pub kept : Promises
kept =
    record {
      reported = reported;
      of_aic = is-of_aic;
      seen = seen;
      unseen = not_seen;
      sources = sources;
      mark_is = mark_exactly;
      idle_is = idle_exactly;
      used_is = used_exactly;
      strays_none = strays-none;
      strays_some = λ t s xs d. strays-some t 0 s xs d;
      stack_holds = stack-holds;
      seen_bounded = seen-bounded;
    }
