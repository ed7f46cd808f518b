-- That `follow` of src/lib.rt keeps its contract.
use Prim.Native.Nat.{ℕ, ◌+◌, ◌≤◌, ◌<◌}
use mathlib.Core.Path.{◌≡◌, sym, ap, subst, ◌∙◌}
use mathlib.Core.Bool.{true}
use mathlib.Core.List.{List, [], ◌∷◌}
use native.Mathlib.Omega.{arith}
use Rattle.words.specs.Word.{word_of}
use Rattle.aic_record.specs.declared.Aic.{Aic}
use Rattle.aic_record.specs.Promises.{Shaped}
use Rattle.aic_record.specs.Sound.{sound}
use Rattle.steps.specs.declared.Step.{Step}
use Rattle.aic.specs.Model.{step}
use Rattle.aic_runs.specs.Counted.{started_by}
use Rattle.aic_runs.specs.Runs.{run}
use Rattle.aic_runs.proofs.SoundRuns.{run_sound}
use Rattle.aic_room.proofs.CellLaws.{depth_is}
use Rattle.aic_room.proofs.LevelLaws.{laid-stale}
use Rattle.aic_sources.specs.Normal.{waiting}
use Rattle.aic_waits.specs.Following.{Figures, started_from, followed}
use Rattle.aic_waits.proofs.FigureLaws.{none_more}
use Rattle.aic_waits.proofs.TellLaws.{tells}
use Rattle.aic_figures.specs.Book.{Kept, Moved}
use Rattle.aic_figures.proofs.EntryLaws.{shrinks}
use Rattle.aic_figures.proofs.KeptLaws.{kept_on, moved_none}
use Rattle.aic_figures.proofs.follow.Goals as goal

-- the record after a step is sound
then-sound : (s : Aic) (x : Step) → Shaped s → sound s ≡ true → sound (step s x).aic ≡ true
unfolding run
then-sound s x h ok = run_sound s (x ∷ []) h ok

-- what `move_on` leaves, where these are the sources that ask
on : (f : Figures) (s : Aic) (n : ℕ) (x : Step) (before asks : ℕ) (old new : List ℕ) → sound s ≡ true → Shaped s → n < 4294967290 → before ≡ s.depth → Kept f s n old
    → asks ≡ word_of 32 (waiting (step s x).aic) → Moved (started_from before (step s x).aic) asks (step s x).aic old new → Kept (followed f s x) (step s x).aic (n + 1) new
on f s n x before asks old new ok h small e k w m =
    let u = (step s x).aic in
    let by : started_from before u ≡ started_by s x = ap (λ (d : ℕ). started_from d u) e ∙ tells s x h.2 ok in
    kept_on f s n x old new small k (subst (λ (q : ℕ). Moved (started_by s x) q u old new) w (subst (λ (q : ℕ). Moved q asks u old new) by m))

pub returns-then-asks-book : goal.returns-then-asks-book
returns-then-asks-book c =
    let w = c.waiting-asks in
    let a = c.args in
    λ f s n x ok h small e k l.
    let u = (step s x).aic in
    on f s n x a.before w.result a.book.now c.move_on.new.book ok h small e k (w.ensures u (laid-stale l)) (c.move_on.ensures u (then-sound s x h ok) l k.size)

pub returns-then-before-room : goal.returns-then-before-room
returns-then-before-room c =
    let w = c.waiting-asks in
    let a = c.args in
    λ f s n x ok h small e k l.
    let u = (step s x).aic in
    on f s n x a.before w.result a.book.now c.move_on-then-before-room.new.book ok h small e k (w.ensures u (laid-stale l)) (c.move_on-then-before-room.ensures u (then-sound s x h ok) l k.size)

pub returns : goal.returns
returns c =
    let w = c.waiting-asks in
    let a = c.args in
    λ f s n x ok h small e k l.
    let u = (step s x).aic in
    let shut : u.depth ≤ s.depth = omega (arith, c.if-before-room.false, depth_is l, e) in
    let none : started_by s x ≡ 32 = sym (none_more s.depth u shut ∙ tells s x h.2 ok) in
    kept_on f s n x a.book.now a.book.now small k
    (subst (λ (q : ℕ). Moved (started_by s x) q u a.book.now a.book.now) (w.ensures u (laid-stale l))
    (moved_none f s n x a.book.now k w.result c.if-asks-book.false none shut (shrinks s x shut)))
