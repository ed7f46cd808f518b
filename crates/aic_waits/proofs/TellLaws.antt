-- What the entries of the records before and after a step tell of a start, and how it stands with one source then.
use Prim.Native.Nat.{ℕ, ◌+◌, ◌≤◌, ◌<◌}
use mathlib.Core.Path.{◌≡◌, refl, sym, ap, ◌∙◌}
use mathlib.Core.Bool.{Bool, true, false, not, ◌&&◌, ◌||◌}
use mathlib.Core.Logic.{◌≢◌, ◌⊎◌, inl, inr}
use native.Mathlib.Omega.{arith}
use lib.Dec.{eqb, ltb}
use native.Mathlib.Decide.{dec_lt}
use lib.ListN.{set, length}
use lib.Seq.{get_or-set_same}
use borrow.Author.Tests.{eqb-true, ltb-true}
use Rattle.words.specs.Counting.{one}
use Rattle.words.specs.Word.{bit, word_of}
use Rattle.words.proofs.ChoiceLaws.{pick_cases}
use Rattle.words.proofs.TruthLaws.{and_right, told, clash}
use Rattle.words.proofs.CountingLaws.{lowest_found}
use Rattle.words.proofs.WordLaws.{bit-word_of}
use Rattle.steps.specs.declared.Step.{Step}
use Rattle.aic_record.specs.declared.Aic.{Aic}
use Rattle.aic_record.specs.Sound.{source_at, level_below, sound}
use Rattle.aic_record.specs.Record.{with_seen}
use Rattle.aic_record.proofs.SoundLaws.{seen-sound}
use Rattle.aic_sources.specs.Normal.{waiting, foremost, candidates, chosen}
use Rattle.aic_sources.proofs.OrderLaws.{chosen_is}
use Rattle.aic_sources.proofs.HandlerLaws.{candidate_source}
use Rattle.aic_registers.specs.Handlers.{opened, started_at}
use Rattle.aic.specs.Model.{step}
use Rattle.aic.proofs.HandlerLaws.{started-is}
use Rattle.aic_runs.specs.Counted.{takes, begins, starts, started_by, starts_of, starts_other, level_of, closes}
use Rattle.aic_runs.proofs.CountedLaws.{started-one, started-room}
use Rattle.aic_runs.proofs.StepLaws.{depth_law, start_law}
use Rattle.aic_waits.specs.Figures.{wait_next, wait_after}
use Rattle.aic_waits.specs.Following.{capped, started_from, stands_by}
use Rattle.aic_waits.proofs.FigureLaws.{capped_is, none_more, mark-more, some_more}
use Rattle.aic_waits.proofs.RunLaws.{wait-most}

chosen-most : (s : Aic) → chosen s ≤ 32
unfolding chosen
chosen-most s = (lowest_found 32 (foremost s)).within

started-most : (s : Aic) (x : Step) → sound s ≡ true → started_by s x ≤ 32
unfolding started_by
started-most s x ok =
    pick_cases (λ n. n ≤ 32) (takes s x)
    (λ _. chosen-most s)
    (λ _. pick_cases (λ n. n ≤ 32) (begins s x && eqb s.seen.what 1)
    (λ e. omega (arith, ((seen-sound s ok).source (eqb-true s.seen.what 1 (and_right (begins s x) _ e))).1))
    (λ _. omega arith))

pub started_real : (s : Aic) (x : Step) → sound s ≡ true → started_by s x < 32 → started_by s x ≢ 0
started_real s x ok l = go (started-one s x l)
  where
    go : ((candidates s ≡ true) × (started_by s x ≡ chosen s) × (takes s x ≡ true))
        ⊎ ((s.seen.what ≡ 1) × (started_by s x ≡ s.seen.source) × (begins s x ≡ true)) → started_by s x ≢ 0
    go (inl h) z = absurd (omega (arith, z, h.1, candidate_source s (chosen s) (chosen_is s h.0).fit))
    go (inr h) z = absurd (omega (arith, z, h.1, ((seen-sound s ok).source h.0).0))

start-room : (s : Aic) (x : Step) → starts s x ≡ true → s.depth < 8
unfolding starts
start-room s x h = ltb-true s.depth 8 (and_right (takes s x || begins s x) _ h)

-- after a step that opens an entry of source k
opened-tells : (s t : Aic) (k l : ℕ) → length s.source ≡ 8 → s.depth < 8 → (t.source ≡ set s.source s.depth k) × (t.depth ≡ s.depth + 1)
    → (s.depth < t.depth) × (k ≡ source_at t s.depth)
opened-tells s t k l h m e =
    (omega (arith, e.1), sym (rw e.0 (get_or-set_same s.source s.depth k 0 (omega (arith, h)))))

pub tells : (s : Aic) (x : Step) → length s.source ≡ 8 → sound s ≡ true → started_from s.depth (step s x).aic ≡ started_by s x
unfolding opened
tells s x h ok = go (told (starts s x)) (dec_lt (started_by s x) 32)
  where
    t : Aic
    t = (step s x).aic

    real : (e : t ≡ with_seen (started_at s (started_by s x) (level_of s x)) t.seen) → (t.source ≡ set s.source s.depth (started_by s x)) × (t.depth ≡ s.depth + 1)
    real e = let d = e ∙ ap (λ (a : Aic). with_seen a t.seen) (started-is s (started_by s x) (level_of s x)) in (ap (λ (a : Aic). a.source) d, ap (λ (a : Aic). a.depth) d)

    bare : (e : t ≡ with_seen (opened s 0 (level_below s.level s.depth)) t.seen) → (t.source ≡ set s.source s.depth 0) × (t.depth ≡ s.depth + 1)
    bare e = (ap (λ (a : Aic). a.source) e, ap (λ (a : Aic). a.depth) e)

    go : (starts s x ≡ true) ⊎ (starts s x ≡ false) → Dec (started_by s x < 32) → started_from s.depth t ≡ started_by s x
    go (inl b) (yes l) = let p = opened-tells s t (started_by s x) 0 h (start-room s x b) (real ((start_law s x b).0 l)) in sym (some_more s.depth t (started_by s x) p.0 p.1 (started_real s x ok l))
    go (inl b) (no n) =
        let p = opened-tells s t 0 0 h (start-room s x b) (bare ((start_law s x b).1 (omega (arith, n)))) in
        let q : started_by s x ≡ 32 = omega (arith, n, started-most s x ok) in sym (q ∙ mark-more s.depth t 0 p.0 p.1 refl)
    go (inr b) (yes l) = clash (started-room s x l) b
    go (inr b) (no n) =
        let d : t.depth + one (closes s x) ≡ s.depth + 0 = depth_law s x ∙ rw b in
        let q : started_by s x ≡ 32 = omega (arith, n, started-most s x ok) in sym (q ∙ none_more s.depth t (omega (arith, d)))

-- how it stands with one source
pub stands_from : (t : Aic) (w i by waits : ℕ) {h : Bool} {r : ℕ} → i < 32 → waits ≡ word_of 32 (waiting t) → h ≡ bit waits i
    → r ≡ capped (wait_next w h (eqb i by) (ltb by 32 && not (eqb i by))) → r ≡ stands_by by t w i
stands_from t w i by waits l e f g =
    g ∙ ap (λ (h : Bool). capped (wait_next w h (eqb i by) (ltb by 32 && not (eqb i by)))) (f ∙ ap (λ (n : ℕ). bit n i) e ∙ bit-word_of 32 (waiting t) i l)

-- what the record after a step tells of one source is the step's
pub stands-tells : (s : Aic) (x : Step) (w i : ℕ) → length s.source ≡ 8 → sound s ≡ true → w + 2 ≤ 4294967295
    → stands_by (started_from s.depth (step s x).aic) (step s x).aic w i ≡ wait_after i w s x
unfolding starts_of starts_other
stands-tells s x w i h ok l =
    ap (λ (n : ℕ). stands_by n (step s x).aic w i) (tells s x h ok)
    ∙ sym (capped_is (wait_after i w s x) (omega (arith, l, wait-most w (waiting (step s x).aic i) (starts_of i s x) (starts_other i s x))))
