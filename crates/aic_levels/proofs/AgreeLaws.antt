-- When levels agree with a record, and what the outputs are then.
use mathlib.Core.Path.{◌≡◌, sym, ap, ◌∙◌}
use mathlib.Core.Bool.{Bool, true, false, not, ◌&&◌}
use Prim.Native.Nat.{ℕ}
use borrow.Author.Tests.{eq-eqb, eqb-true}
use lib.Dec.{eqb, ltb}
use lib.ListN.{get_or}
use Rattle.words.specs.Counting.{all_below}
use Rattle.words.specs.Word.{bit, word_of, clean}
use Rattle.words.proofs.ChoiceLaws.{pick_true}
use Rattle.words.proofs.TruthLaws.{and_left, and_right, and_both}
use Rattle.words.proofs.CountingLaws.{all_at, at_all, all_same}
use Rattle.words.proofs.WordLaws.{word_of-same}
use Rattle.steps.specs.Refusals.{carried_out}
use Rattle.aic_record.specs.declared.Aic.{Aic}
use Rattle.aic_record.specs.Sound.{sound}
use Rattle.aic_sources.specs.Fast.{fast_asks, masked, fiq}
use Rattle.aic_sources.specs.Normal.{waiting, candidates}
use Rattle.aic_sources.specs.Search.{rank, least_of}
use Rattle.aic_sources.proofs.SearchLaws.{chosen-some}
use Rattle.aic_levels.specs.declared.Levels.{Levels}
use Rattle.aic_levels.specs.Levels.{level_word, any_of, agrees, chosen_by}
use Rattle.aic_levels.specs.Model.{outputs_with}
use Rattle.aic_levels.specs.Promises.{Own}
use Rattle.aic_levels.proofs.ChosenLaws.{irq-by, chosen-same}
use Rattle.aic_levels.proofs.LevelLaws.{level_by}

-- levels agree exactly if each word and the byte are those of the record
pub agreed : (s : Aic) (l : Levels) → agrees s l ≡ true → Own s l
unfolding agrees
agreed s l h = (
  λ p i. eqb-true _ _ (all_at 8 (λ q. eqb (get_or l.words q 0) (level_word s q)) (and_left _ (eqb l.any (any_of s)) h) p i),
  eqb-true _ _ (and_right (all_below 8 (λ q. eqb (get_or l.words q 0) (level_word s q))) _ h),
)

pub agree : (s : Aic) (l : Levels) → Own s l → agrees s l ≡ true
unfolding agrees
agree s l (w, a) = and_both (at_all 8 (λ q. eqb (get_or l.words q 0) (level_word s q)) (λ p i. eq-eqb _ _ (w p i))) (eq-eqb l.any (any_of s) a)

-- the test that code makes: the words against the record, the byte against the words
pub agrees-by : (s : Aic) (l : Levels) (waits any : ℕ) (same : Bool) → waits ≡ word_of 32 (waiting s)
    → same ≡ all_below 8 (λ p. eqb (get_or l.words p 0) (word_of 32 (λ k. bit waits k && eqb (rank s.mode k) p)))
    → any ≡ word_of 8 (λ p. not (eqb (get_or l.words p 0) 0)) → (same && eqb l.any any) ≡ agrees s l
unfolding agrees any_of
agrees-by s l waits any same e f g = go same (f ∙ all_same 8 (λ p. eqb (get_or l.words p 0) (word_of 32 (λ k. bit waits k && eqb (rank s.mode k) p))) (λ p. eqb (get_or l.words p 0) (level_word s p)) (λ p i. ap (eqb (get_or l.words p 0)) (level_by s waits e p)))
  where
    go : (t : Bool) → t ≡ all_below 8 (λ p. eqb (get_or l.words p 0) (level_word s p))
        → (t && eqb l.any any) ≡ (all_below 8 (λ p. eqb (get_or l.words p 0) (level_word s p)) && eqb l.any (word_of 8 (λ p. not (eqb (level_word s p) 0))))
    go true h =
        ap (eqb l.any) (g ∙ word_of-same 8 (λ p. not (eqb (get_or l.words p 0) 0)) (λ p. not (eqb (level_word s p) 0)) (λ p i. ap (λ (x : ℕ). not (eqb x 0)) (eqb-true (get_or l.words p 0) (level_word s p) (all_at 8 (λ q. eqb (get_or l.words q 0) (level_word s q)) (sym h) p i))))
        ∙ ap (λ (b : Bool). b && eqb l.any (word_of 8 (λ p. not (eqb (level_word s p) 0)))) h
    go false h = ap (λ (b : Bool). b && eqb l.any (word_of 8 (λ p. not (eqb (level_word s p) 0)))) h

-- with levels that agree a source is found by them exactly if there is a candidate
pub found_some : (s : Aic) (l : Levels) → agrees s l ≡ true → ltb (chosen_by s l) 32 ≡ candidates s
found_some s l h =
    let a = agreed s l h in
    ap (λ (k : ℕ). ltb k 32) (chosen-same s l.words l.any a.0 a.1) ∙ chosen-some s

-- the outputs from the least priority that may start and the byte
pub outputs-by : (s : Aic) (l : Levels) (least : ℕ) (mask cleared fast : Bool) → (sound s && agrees s l) ≡ true → mask ≡ bit s.debug 1 → least ≡ least_of s
    → cleared ≡ clean least l.any → fast ≡ fast_asks s
    → record { refusal = carried_out; irq = not mask && not cleared; fiq = not mask && fast; entries = s.depth } ≡ outputs_with s l
unfolding outputs_with masked fiq
outputs-by s l least mask cleared fast h e f g i =
    let a = and_right (sound s) (agrees s l) h in
    let q : not cleared ≡ ltb (chosen_by s l) 32 = ap not g ∙ irq-by s least l.any f (agreed s l a).1 ∙ sym (found_some s l a) in
    rw (e, q, i) (pick_true _ h)
