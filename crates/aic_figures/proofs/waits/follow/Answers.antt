-- That `follow` of src/waits.rt keeps its contract.
use Prim.Native.Nat.{ℕ, ◌≤◌}
use mathlib.Core.Path.{◌≡◌, sym, ap, subst, ◌∙◌}
use mathlib.Core.Bool.{true, ◌&&◌}
use mathlib.Core.List.{[], ◌∷◌}
use native.Mathlib.Omega.{arith}
use lib.Dec.{eqb, leb}
use lib.ListN.{get_or}
use borrow.Author.Tests.{eqb-true, leb-true}
use Rattle.words.proofs.TruthLaws.{and_left, and_right}
use Rattle.steps.specs.declared.Step.{Step}
use Rattle.aic_record.specs.declared.Aic.{Aic}
use Rattle.aic_record.specs.Promises.{Shaped}
use Rattle.aic_record.specs.Sound.{sound}
use Rattle.aic.specs.Model.{step}
use Rattle.aic_runs.specs.Counted.{started_by}
use Rattle.aic_runs.specs.Runs.{run}
use Rattle.aic_runs.proofs.SoundRuns.{run_sound}
use Rattle.aic_room.proofs.CellLaws.{depth_is, enabled-is}
use Rattle.aic_room.proofs.LevelLaws.{laid-stale}
use Rattle.aic_waits.specs.Following.{started_from}
use Rattle.aic_waits.proofs.FigureLaws.{none_more}
use Rattle.aic_waits.proofs.TellLaws.{tells}
use Rattle.aic_figures.specs.WaitsBook.{word_in, Moved}
use Rattle.aic_figures.proofs.WaitsKeptLaws.{kept_on, kept-still}
use Rattle.aic_figures.proofs.waits.follow.Goals as goal

-- the record after a step is sound
then-sound : (s : Aic) (x : Step) → Shaped s → sound s ≡ true → sound (step s x).aic ≡ true
unfolding run
then-sound s x h ok = run_sound s (x ∷ []) h ok

pub returns-then-same-is_quiet : goal.returns-then-same-is_quiet
returns-then-same-is_quiet c =
    let q = c.is_quiet in
    let w = c.waiting-asks in
    let a = c.args in
    let x₀ = eqb w.result (word_in a.book.now 0) in
    let x₁ = eqb (get_or a.room.now 2 0) (word_in a.book.now 2) in
    let x₂ = leb (get_or a.room.now 7 0) a.before in
    let b : (((x₀ && x₁) && x₂) && q.result) ≡ true = c.if-same-is_quiet.true in
    let same = and_left ((x₀ && x₁) && x₂) q.result b in
    let both = and_left (x₀ && x₁) x₂ same in
    λ f s x ok h e k l.
    let u = (step s x).aic in
    let shut : u.depth ≤ s.depth = omega (arith, leb-true (get_or a.room.now 7 0) a.before (and_right (x₀ && x₁) x₂ same), depth_is l, e) in
    kept-still f s x a.n a.m a.book.now k (sym q.ensures ∙ and_right ((x₀ && x₁) && x₂) q.result b)
    (sym (w.ensures u (laid-stale l)) ∙ eqb-true w.result (word_in a.book.now 0) (and_left x₀ x₁ both))
    (sym (enabled-is l) ∙ eqb-true (get_or a.room.now 2 0) (word_in a.book.now 2) (and_right x₀ x₁ both))
    (sym (none_more s.depth u shut ∙ tells s x h.2 ok))

pub returns : goal.returns
returns c =
    let w = c.waiting-asks in
    let a = c.args in
    let new = c.move_on.new.book in
    λ f s x ok h e k l.
    let u = (step s x).aic in
    let by : started_from a.before u ≡ started_by s x = ap (λ (d : ℕ). started_from d u) e ∙ tells s x h.2 ok in
    let m = c.move_on.ensures f u (then-sound s x h ok) l k in
    kept_on f s x a.n a.m a.book.now k new
    (subst (λ (q : ℕ). Moved (started_by s x) q a.n a.m u a.book.now new) (w.ensures u (laid-stale l))
    (subst (λ (q : ℕ). Moved q w.result a.n a.m u a.book.now new) by m))
