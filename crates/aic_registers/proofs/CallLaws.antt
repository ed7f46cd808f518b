-- Chains of calls on a record, put together: what the code hands from one function to the next is what the definition says.
use mathlib.Core.Path.{◌≡◌, refl, sym, ap, ap₂, ◌∙◌}
use mathlib.Core.Bool.{Bool, true, false, not, ◌&&◌}
use mathlib.Core.List.{List}
use Prim.Native.Nat.{ℕ, ◌+◌, ◌≤◌, ◌<◌}
use borrow.Author.Tests.{lt-ltb, le-ltb}
use lib.Dec.{eqb, ltb}
use lib.ListN.{set}
use Rattle.words.specs.Choice.{pick}
use Rattle.words.specs.Word.{bit, either, both, without, with_bit}
use Rattle.words.proofs.ChoiceLaws.{pick_true, pick-false}
use Rattle.aic_record.specs.declared.Aic.{Aic}
use Rattle.aic_record.specs.declared.Seen.{Seen}
use Rattle.aic_record.specs.Record.{with_lines, with_memory, with_forced, with_mode, with_handlers, with_seen}
use Rattle.aic_record.specs.Mode.{type_of, kept_mode, mode_at, priority, kind, edge}
use Rattle.aic_record.specs.Sound.{level_below}
use Rattle.aic_sources.specs.Pending.{active_at, active, edge_word}
use Rattle.aic_sources.specs.Normal.{chosen}
use Rattle.aic_sources.proofs.SearchLaws.{chosen-some}
use Rattle.aic_registers.specs.Handlers.{answered, forgotten, spent, opened, started_at, marked, vector_at, ivr_taken, source_seen, none_seen, ivr_looked}
use Rattle.aic_registers.specs.Effects.{moded, set_by, cleared_by, forced_by, turns, moved}

-- ---- entries

-- clearing a memory opens and closes no entry
spent_depth : (s : Aic) (k : ℕ) → (spent s k).depth ≡ s.depth
unfolding spent pick
spent_depth s k = go (edge s k)
  where
    go : (b : Bool) → (pick b (forgotten s k) s).depth ≡ s.depth
    go true = refl
    go false = refl

pub started-by : (s t : Aic) (k l : ℕ) → t ≡ spent s k
    → with_handlers t (set t.source s.depth k) (set t.level s.depth l) (s.depth + 1) ≡ started_at s k l
unfolding started_at opened
started-by s t k l e =
    ap (λ (u : Aic). with_handlers u (set u.source s.depth k) (set u.level s.depth l) (s.depth + 1)) e
    ∙ ap (λ (d : ℕ). with_handlers (spent s k) (set (spent s k).source d k) (set (spent s k).level d l) (d + 1)) (sym (spent_depth s k))

pub now-by : (s t : Aic) (k p v : ℕ) → p ≡ priority s k → t ≡ started_at s k p → v ≡ vector_at s k
    → answered t v ≡ answered (started_at s k (priority s k)) (vector_at s k)
now-by s t k p v f g h = ap₂ answered (g ∙ ap (started_at s k) f) h

pub marked_by : (s : Aic) (l : ℕ) → s.depth < 8 → l ≡ level_below s.level s.depth
    → with_handlers s (set s.source s.depth 0) (set s.level s.depth l) (s.depth + 1) ≡ marked s
unfolding marked opened
marked_by s l m e =
    ap (λ (p : ℕ). with_handlers s (set s.source s.depth 0) (set s.level s.depth p) (s.depth + 1)) e
    ∙ pick_true s (lt-ltb s.depth 8 m)

-- a vector read that finds a source, and one that finds none
pub ivr-some : (s : Aic) (k : ℕ) → k ≡ chosen s → k < 32 → answered (started_at s k (priority s k)) (vector_at s k) ≡ ivr_taken s
unfolding ivr_taken
ivr-some s k e l =
    ap (λ (j : ℕ). answered (started_at s j (priority s j)) (vector_at s j)) e
    ∙ pick_true (answered (marked s) s.spurious) (sym (chosen-some s) ∙ ap (λ (j : ℕ). ltb j 32) (sym e) ∙ lt-ltb k 32 l)

pub ivr-none : (s t : Aic) (k : ℕ) → k ≡ chosen s → 32 ≤ k → t ≡ marked s → answered t s.spurious ≡ ivr_taken s
unfolding ivr_taken
ivr-none s t k e l m =
    ap (λ (u : Aic). answered u s.spurious) m
    ∙ pick-false (answered (started_at s (chosen s) (priority s (chosen s))) (vector_at s (chosen s)))
    (sym (chosen-some s) ∙ ap (λ (j : ℕ). ltb j 32) (sym e) ∙ le-ltb k 32 l)

-- what a read in protect mode remembers of a source, and its answer with one and without
pub seen-from : (s : Aic) (k p v : ℕ) → p ≡ priority s k → v ≡ vector_at s k
    → ◌≡◌ {A = Seen} (record { what = 1; source = k; level = p; vector = v }) (source_seen s k)
seen-from s k p v f g = ap₂ (λ (l w : ℕ). record { what = 1; source = k; level = l; vector = w }) f g

pub look-some : (s : Aic) (k v : ℕ) (n : Seen) → k ≡ chosen s → k < 32 → n ≡ source_seen s k → v ≡ vector_at s k → answered (with_seen s n) v ≡ ivr_looked s
unfolding ivr_looked
look-some s k v n e l f g =
    ap₂ (λ (m : Seen) (w : ℕ). answered (with_seen s m) w) f g
    ∙ ap (λ (j : ℕ). answered (with_seen s (source_seen s j)) (vector_at s j)) e
    ∙ pick_true _ (sym (chosen-some s) ∙ ap (λ (j : ℕ). ltb j 32) (sym e) ∙ lt-ltb k 32 l)

pub look_none : (s : Aic) (k : ℕ) (n : Seen) → k ≡ chosen s → 32 ≤ k → n ≡ none_seen → answered (with_seen s n) s.spurious ≡ ivr_looked s
unfolding ivr_looked
look_none s k n e l f =
    ap (λ (m : Seen). answered (with_seen s m) s.spurious) f
    ∙ pick-false _ (sym (chosen-some s) ∙ ap (λ (j : ℕ). ltb j 32) (sym e) ∙ le-ltb k 32 l)

-- ---- effects

pub type-from : (s : Aic) (k m t : ℕ) → m ≡ mode_at s k → t ≡ type_of m → t ≡ kind s k
unfolding kind
type-from s k m t e f = f ∙ ap type_of e

-- clearing a memory alters no mode
same_modes : (b : Bool) (s : Aic) (k : ℕ) → (pick b s (forgotten s k)).mode ≡ s.mode
unfolding pick
same_modes true s k = refl
same_modes false s k = refl

pub moded-by : (s t : Aic) (k v m : ℕ) → t ≡ pick (eqb (kind s k) (type_of v)) s (forgotten s k) → m ≡ kept_mode v
    → with_mode t (set t.mode k m) ≡ moded s k v
unfolding moded
moded-by s t k v m e f =
    ap₂ (λ (u : Aic) (n : ℕ). with_mode u (set u.mode k n)) e f
    ∙ ap (λ (ms : List ℕ). with_mode (pick (eqb (kind s k) (type_of v)) s (forgotten s k)) (set ms k (kept_mode v))) (same_modes (eqb (kind s k) (type_of v)) s k)

pub set-by : (s : Aic) (v w m e : ℕ) → e ≡ edge_word s → m ≡ both v e → w ≡ either s.memory m → with_memory s w ≡ set_by s v
unfolding set_by
set-by s v w m e p q r = ap (with_memory s) (r ∙ ap (either s.memory) (q ∙ ap (both v) p))

pub cleared_by_lem : (s : Aic) (v w m e : ℕ) → e ≡ edge_word s → m ≡ both v e → w ≡ without s.memory m → with_memory s w ≡ cleared_by s v
unfolding cleared_by
cleared_by_lem s v w m e p q r = ap (with_memory s) (r ∙ ap (without s.memory) (q ∙ ap (both v) p))

pub forced-by : (s : Aic) (v w f : ℕ) → f ≡ without v 1 → w ≡ either s.forced f → with_forced s w ≡ forced_by s v
unfolding forced_by
forced-by s v w f p q = ap (with_forced s) (q ∙ ap (either s.forced) p)

pub turns-by : (s : Aic) (k : ℕ) (high h before after : Bool) → h ≡ bit s.lines k → before ≡ active_at s k h → after ≡ active_at s k high
    → (not before && after) ≡ turns s k high
unfolding turns active
turns-by s k high h before after e f g = ap₂ (λ (a b : Bool). not a && b) (f ∙ ap (active_at s k) e) g

pub moved_by : (s t : Aic) (k w : ℕ) (high : Bool) → t ≡ pick (edge s k && turns s k high) (with_memory s (with_bit s.memory k true)) s
    → w ≡ with_bit s.lines k high → with_lines t w ≡ moved s k high
unfolding moved
moved_by s t k w high e f = rw (e, f)
