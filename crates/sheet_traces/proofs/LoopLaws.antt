-- What holds at each turn of the loop over an AIC, and that a step keeps it.
use Prim.Native.Nat.{ℕ, ◌+◌, ◌-◌, ◌≤◌, ◌<◌}
use mathlib.Core.Bool.{Bool, true, false, not}
use mathlib.Core.List.{List, [], ◌∷◌}
use mathlib.Core.Path.{◌≡◌, refl, sym, ap, ◌∙◌, subst}
use native.Mathlib.Omega.{arith}
use native.Mathlib.Decide.{ℕ_discrete}
use lib.Dec.{eqb}
use lib.ListN.{length, get_or}
use borrow.Author.Tests.{eq-eqb, ne_eqb}
use Rattle.words.specs.Choice.{pick}
use Rattle.words.specs.Counting.{one}
use Rattle.words.proofs.ChoiceLaws.{pick_true, pick-false}
use Rattle.words.proofs.CountingLaws.{one_le}
use Rattle.steps.specs.declared.Step.{Step}
use Rattle.steps.specs.Refusals.{carried_out}
use Rattle.trace.specs.Trace.{Trace, turn_at, steps_from}
use Rattle.trace.proofs.TraceLaws.{trace-ended, trace_found}
use Rattle.trace.specs.declared.turns.Told.{Told}
use Rattle.trace.specs.Turns.{ended_kind, step_of, recorded_of, turn_of}
use Rattle.trace.proofs.TurnLaws.{ends_here, finds, found_here}
use Rattle.rooms.specs.Reply.{Reply}
use Rattle.aic_record.specs.declared.Aic.{Aic}
use Rattle.aic_record.specs.Promises.{Shaped}
use Rattle.aic_record.specs.Sound.{sound}
use Rattle.aic.specs.Model.{step}
use Rattle.aic.proofs.SoundLaws.{step-sound}
use Rattle.aic_room.specs.Room.{Laid}
use Rattle.aic_room.proofs.CellLaws.{depth_is, enabled-is}
use Rattle.aic_room.specs.Reply.{Done}
use Rattle.aic_runs.specs.Counted.{carried}
use Rattle.aic_waits.specs.Following.{Figures as Totals, no_figures as no_totals, followed as totals_by}
use Rattle.aic_figures.specs.Book.{Kept as Counted}
use Rattle.aic_bounds.specs.declared.Marks.{Marks}
use Rattle.aic_bounds.specs.Following.{no_marks, marks_of, marks_by}
use Rattle.aic_bounds.specs.declared.figures.Figures.{Figures}
use Rattle.aic_bounds.specs.Figures.{no_figures, figures_over, figures_of}
use Rattle.aic_figures.specs.WaitsBook.{Kept}
use Rattle.aic_figures.specs.Waits.{waits_now, followed}
use Rattle.aic_figures.proofs.Promises as Book
use Rattle.stack.specs.declared.Table.{Table}
use Rattle.stack.specs.Kept.{keeps}
use Rattle.stack.proofs.KeptLaws.{unkept-none}
use Rattle.tally.specs.Tally.{steps_in}
use Rattle.tally.specs.Following.{totals_of}
use Rattle.tally.proofs.LengthLaws.{found_far}
use Rattle.sheet_traces.specs.declared.Played.{Played}
use Rattle.sheet_traces.specs.declared.Watched.{Watched}
use Rattle.sheet_traces.specs.Watched.{opens_mark, idle_end, watched_in}
use Rattle.sheet_traces.specs.Following.{watched_first, strays_next, watched_by, watched_all, refuses, tallied_from, Met}
use Rattle.sheet_traces.specs.Noted.{played_in}
use Rattle.sheet_traces.proofs.TalliedLaws.{none_follow, one_follows}
use Rattle.sheet_traces.proofs.WatchLaws.{watched-is, brought-is}

-- the steps of a trace from a place on
abbrev pub steps_at : List ℕ → ℕ → ℕ → List Step
steps_at trace left at = steps_in (steps_from false left trace at).steps

-- what is left from here gives the whole; the steps played and those left are the limit, and no more than the bytes read
pub record Watching (trace : List ℕ) (limit start : ℕ) (t : Table) (first : Aic) (n refused left at : ℕ) (w : Watched) (room counts : List ℕ) (book : List (List ℕ)) : Type 0 where
  pub aic : Aic
  pub laid : Laid aic room
  pub ok : sound aic ≡ true
  pub kept : w.strays ≡ 32 → keeps t aic ≡ true
  pub whole : watched_all t n w aic (steps_at trace left at) ≡ watched_all t 0 (watched_first t first) first (steps_at trace limit start)
  pub totals : Totals
  pub totalled : Counted totals aic n counts
  pub tally : tallied_from n refused totals aic (steps_from false left trace at) ≡ tallied_from 0 0 no_totals first (steps_from false limit trace start)
  pub figures : ℕ → Figures
  pub booked : Kept figures book
  pub told : (k : ℕ) → figures_over k n (figures k) aic (steps_at trace left at) ≡ figures_of k first (steps_at trace limit start)
  pub counted : n + left ≡ limit
  pub marks : w.marks ≤ n
  pub ends : w.idle ≤ n
  pub few : refused ≤ n
  pub far : n ≤ at

-- before any step
pub begins : (trace : List ℕ) (limit start : ℕ) (t : Table) (first : Aic) (w : Watched) (room counts : List ℕ) (book : List (List ℕ)) → w ≡ watched_first t first → Laid first room
    → sound first ≡ true → Counted no_totals first 0 counts → Kept (λ k. no_figures) book → Watching trace limit start t first 0 0 limit start w room counts book
begins trace limit start t first w room counts book e h ok c b =
    record {
      aic = first;
      laid = h;
      ok = ok;
      kept = λ z. (unkept-none t first).1 (sym (ap (λ (v : Watched). v.strays) e) ∙ z);
      whole = ap (λ (v : Watched). watched_all t 0 v first (steps_at trace limit start)) e;
      totals = no_totals;
      totalled = c;
      tally = refl;
      figures = λ k. no_figures;
      booked = b;
      told = λ k. refl;
      counted = omega arith;
      marks = omega (arith, ap (λ (v : Watched). v.marks) e);
      ends = omega (arith, ap (λ (v : Watched). v.idle) e);
      few = omega arith;
      far = omega arith;
    }

module _ {trace : List ℕ} {limit start : ℕ} {t : Table} {first : Aic} {n refused left at : ℕ} {w : Watched} {room counts : List ℕ} {book : List (List ℕ)} (u : Told)
    (g : Watching trace limit start t first n refused left at w room counts book) (e : turn_of u ≡ turn_at false trace at left) where
  -- at the end
  none_left : watched_all t n w g.aic [] ≡ w
  unfolding watched_all
  none_left = refl

  watched-whole : u.kind ≡ ended_kind → w ≡ watched_in t first (steps_at trace limit start)
  watched-whole z =
      sym none_left ∙ ap (λ (q : Trace). watched_all t n w g.aic (steps_in q.steps)) (sym (trace-ended false left trace at _ _ (ends_here u false trace at left e z)))
      ∙ g.whole ∙ watched-is t first (steps_at trace limit start)

  figures-whole : u.kind ≡ ended_kind → (k : ℕ) → g.figures k ≡ figures_of k first (steps_at trace limit start)
  unfolding figures_over
  figures-whole z k =
      ap (λ (q : Trace). figures_over k n (g.figures k) g.aic (steps_in q.steps)) (sym (trace-ended false left trace at _ _ (ends_here u false trace at left e z))) ∙ g.told k

  tally-whole : u.kind ≡ ended_kind
      → record { steps = n; refused = refused; refusal = u.refusal; offset = u.next; figures = totals_of g.totals } ≡ tallied_from 0 0 no_totals first (steps_from false limit trace start)
  tally-whole z =
      none_follow n refused g.totals g.aic u.refusal u.next
      ∙ ap (tallied_from n refused g.totals g.aic) (sym (trace-ended false left trace at _ _ (ends_here u false trace at left e z))) ∙ g.tally

  pub played-whole : (r : Played) → u.kind ≡ ended_kind → length (steps_at trace limit start) ≤ 65536
      → ((f : Totals) (s : Aic) (k : ℕ) (b : ℕ → Figures) → Counted f s k counts → Kept b book
      → r ≡ record { tallied = record { steps = n; refused = refused; refusal = u.refusal; offset = u.next; figures = totals_of f }; watched = w; waits = waits_now b })
      → r ≡ played_in t first (steps_from false limit trace start)
  unfolding played_in
  played-whole r z l h =
      let c = tally-whole z in
      let a = watched-whole z in
      let same : g.figures ≡ (λ k. figures_of k first (steps_at trace limit start)) = λ i k. figures-whole z k i in
      let b = ap waits_now same ∙ (Book.kept).tell first (steps_at trace limit start) (omega (arith, l)) in
      h g.totals g.aic n g.figures g.totalled g.booked ∙ (λ i. record { tallied = c i; watched = a i; waits = b i })

  -- one step more
  module _ (short : length trace ≤ 65536) (more : u.kind ≡ ended_kind → ⊥) where
    abbrev x : Step
    x = step_of u.kind u.x u.y

    pub small : n < 65536
    small =
        let f = found_far false trace at left _ u.next (finds u false trace at left e more) in
        omega (arith, g.far, short, f.0, f.1)

    pub some_left : 0 < left
    some_left = (found_here u false trace at left e more).1.0

    next_steps : steps_at trace left at ≡ x ∷ steps_at trace (left - 1) u.next
    next_steps = ap (λ (q : Trace). steps_in q.steps) (trace_found false left trace at (recorded_of u) u.next (finds u false trace at left e more))

    after-step : (v : Watched) → v ≡ watched_by t (n + 1) w g.aic x
        → watched_all t (n + 1) v (step g.aic x).aic (steps_at trace (left - 1) u.next) ≡ watched_all t n w g.aic (steps_at trace left at)
    unfolding watched_all
    after-step v h =
        ap (λ (q : Watched). watched_all t (n + 1) q (step g.aic x).aic (steps_at trace (left - 1) u.next)) h
        ∙ ap (watched_all t n w g.aic) (sym next_steps)

    strays-kept : strays_next t w.strays (step g.aic x).aic ≡ 32 → keeps t (step g.aic x).aic ≡ true
    strays-kept z = go (ℕ_discrete w.strays 32)
      where
        go : Dec (w.strays ≡ 32) → keeps t (step g.aic x).aic ≡ true
        go (yes y) = (unkept-none t (step g.aic x).aic).1 (pick_true _ (eq-eqb w.strays 32 y) ∙ z)
        go (no y) = absurd (y (pick-false _ (ne_eqb w.strays 32 y) ∙ z))

    module _ (room' : List ℕ) {q : Reply} (d : (a : Aic) → sound a ≡ true → Laid a room → Done (step a x) room' q) where
      pub stands : Laid (step g.aic x).aic room'
      stands = (d g.aic g.ok g.laid).0

      -- what it brings
      module _ (c : Bool) (b m : Marks) (r : ℕ) (ec : c ≡ eqb r carried_out) (er : r ≡ q.0) (fb : (s : Aic) → sound s ≡ true → Laid s room → b ≡ marks_by true s x)
          (em : m ≡ pick c b no_marks) where
        is_carried : c ≡ eqb (step g.aic x).refusal carried_out
        is_carried = ec ∙ ap (λ (k : ℕ). eqb k carried_out) (er ∙ ap (λ (p : Reply). p.0) (d g.aic g.ok g.laid).1)

        brings : m ≡ marks_of g.aic x
        unfolding carried
        brings = brought-is g.aic x c b m is_carried (fb g.aic g.ok g.laid) em

        counted-one : (o : ℕ) → o ≡ one (not c) → o ≡ one (refuses g.aic x)
        unfolding carried
        counted-one o eo = eo ∙ ap (λ (b : Bool). one (not b)) is_carried

        tally_on : (o : ℕ) → o ≡ one (not c)
            → tallied_from (n + 1) (refused + o) (totals_by g.totals g.aic x) (step g.aic x).aic (steps_from false (left - 1) trace u.next)
            ≡ tallied_from 0 0 no_totals first (steps_from false limit trace start)
        tally_on o eo =
            ap (λ (k : ℕ). tallied_from (n + 1) (refused + k) (totals_by g.totals g.aic x) (step g.aic x).aic (steps_from false (left - 1) trace u.next)) (counted-one o eo)
            ∙ one_follows n refused g.totals g.aic (recorded_of u) (steps_from false (left - 1) trace u.next)
            ∙ ap (tallied_from n refused g.totals g.aic) (sym (trace_found false left trace at (recorded_of u) u.next (finds u false trace at left e more))) ∙ g.tally

        pub met : (i : Bool)
            → ((s : Aic) (y : ℕ) → c ≡ eqb (step s (step_of u.kind u.x y)).refusal carried_out → get_or room 7 0 ≡ s.depth → i ≡ idle_end s (step_of u.kind u.x y))
            → Met t w g.aic x (get_or room 7 0) (get_or room 2 0) i m.rewrote
        met i fi =
            record {
              depth = depth_is g.laid;
              sources = enabled-is g.laid;
              ends = fi g.aic u.y is_carried (depth_is g.laid);
              writes = ap (λ (k : Marks). k.rewrote) brings;
              kept = g.kept;
            }

        pub watches_on : (v : Watched) (o : ℕ) (counts' : List ℕ) (book' : List (List ℕ)) → v ≡ watched_by t (n + 1) w g.aic x → o ≡ one (not c)
            → ((f : Totals) (s : Aic) (k : ℕ) (y : Step) → sound s ≡ true → Shaped s → k < 4294967290 → get_or room 7 0 ≡ s.depth → Counted f s k counts → Laid (step s y).aic room'
            → Counted (totals_by f s y) (step s y).aic (k + 1) counts')
            → ((f : ℕ → Figures) (s : Aic) (y : Step) → sound s ≡ true → Shaped s → get_or room 7 0 ≡ s.depth → Kept f book → Laid (step s y).aic room'
            → Kept (followed (n + 1) m f s y) book')
            → Watching trace limit start t first (n + 1) (refused + o) (left - 1) u.next v room' counts' book'
        unfolding watched_by
        watches_on v o counts' book' h eo fc f =
            record {
              aic = (step g.aic x).aic;
              laid = stands;
              ok = step-sound g.aic x g.laid.shaped g.ok;
              kept = λ z. strays-kept (sym (ap (λ (p : Watched). p.strays) h) ∙ z);
              whole = after-step v h ∙ g.whole;
              totals = totals_by g.totals g.aic x;
              totalled = fc g.totals g.aic n x g.ok g.laid.shaped (omega (arith, small)) (depth_is g.laid) g.totalled stands;
              tally = tally_on o eo;
              figures = followed (n + 1) (marks_of g.aic x) g.figures g.aic x;
              booked = subst (λ (k : Marks). Kept (followed (n + 1) k g.figures g.aic x) book') brings
                  (f g.figures g.aic x g.ok g.laid.shaped (depth_is g.laid) g.booked stands);
              told = λ k. sym ((Book.kept).follows k n g.figures g.aic x (steps_at trace (left - 1) u.next)) ∙ ap (figures_over k n (g.figures k) g.aic) (sym next_steps)
                  ∙ g.told k;
              counted = omega (arith, g.counted, some_left);
              marks = omega (arith, g.marks, ap (λ (p : Watched). p.marks) h, one_le (opens_mark g.aic x));
              ends = omega (arith, g.ends, ap (λ (p : Watched). p.idle) h, one_le (idle_end g.aic x));
              few = omega (arith, g.few, eo, one_le (not c));
              far = omega (arith, g.far, (found_far false trace at left _ u.next (finds u false trace at left e more)).0);
            }
