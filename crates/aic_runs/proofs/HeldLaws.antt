-- A source with a handler open at a level or above: what opening and closing an entry does to it, and that what is chosen is not held.
use Prim.Native.Nat.{ℕ, suc, ◌+◌, ◌<◌}
use mathlib.Core.Path.{◌≡◌, refl, sym, ◌∙◌}
use mathlib.Core.Bool.{Bool, true, false, ◌&&◌, ◌||◌, and-false}
use mathlib.Core.List.{List}
use mathlib.Core.Logic.{◌≢◌, ⊎_elim}
use native.Mathlib.Omega.{arith}
use native.Mathlib.Decide.{ℕ_discrete}
use native.Mathlib.Numerals.{add-one}
use lib.Dec.{eqb, leb}
use lib.ListN.{get_or, set, length}
use lib.Seq.{get_or-set_same, get_or-set_other}
use borrow.Author.Tests.{ne_eqb, lt-leb}
use Rattle.words.specs.Counting.{any_below}
use Rattle.words.proofs.CountingLaws.{any_same, any_none}
use Rattle.aic_record.specs.declared.Aic.{Aic}
use Rattle.aic_record.specs.Mode.{priority}
use Rattle.aic_record.specs.Sound.{source_at, level_at, no_level, level_below}
use Rattle.aic_record.specs.Promises.{Rules}
use Rattle.aic_record.proofs.SoundLaws.{under}
use Rattle.aic_sources.specs.Normal.{candidate}
use Rattle.aic_sources.proofs.HandlerLaws.{candidate-over}
use Rattle.aic_runs.specs.Turns.{held}

-- a handler of source i is open at level p or above, among `depth` entries
unfoldable pub held_in : List ℕ → List ℕ → ℕ → ℕ → ℕ → Bool
held_in source level depth p i = any_below depth (λ d. eqb (get_or source d 0) i && leb p (get_or level d 0))

pub held_in_lem : (s : Aic) (i : ℕ) → i ≢ 0 → held s i ≡ held_in s.source s.level s.depth (priority s i) i
unfolding held held_in
held_in_lem s i z = rw (ne_eqb i 0 z)

or-false : (b : Bool) → (b || false) ≡ b
or-false true = refl
or-false false = refl

module _ (source level : List ℕ) (depth p i : ℕ) where
  others : (a b : ℕ) → any_below depth (λ d. eqb (get_or (set source depth a) d 0) i && leb p (get_or (set level depth b) d 0)) ≡ held_in source level depth p i
  unfolding held_in
  others a b = any_same depth _ _ (λ d l. rw (get_or-set_other source depth d a 0 (omega arith), get_or-set_other level depth d b 0 (omega arith)))

  pub held-push : (j q : ℕ) → depth < length source → depth < length level
      → held_in (set source depth j) (set level depth q) (depth + 1) p i ≡ (held_in source level depth p i || (eqb j i && leb p q))
  unfolding held_in any_below
  held-push j q hs hl = rw (add-one, get_or-set_same source depth j 0 hs, get_or-set_same level depth q 0 hl, others j q)

  pub held_pop : get_or source depth 0 ≢ i → held_in (set source depth 0) (set level depth 0) depth p i ≡ held_in source level (suc depth) p i
  unfolding held_in any_below
  held_pop e = others 0 0 ∙ rw (ne_eqb (get_or source depth 0) i e) (sym (or-false (held_in source level depth p i)))

  pub not-held : ((d : ℕ) → d < depth → get_or source d 0 ≡ i → get_or level d 0 < p) → held_in source level depth p i ≡ false
  unfolding held_in
  not-held h = any_none depth _ (λ d l. go d l (ℕ_discrete (get_or source d 0) i))
    where
      go : (d : ℕ) → d < depth → Dec (get_or source d 0 ≡ i) → (eqb (get_or source d 0) i && leb p (get_or level d 0)) ≡ false
      go d l (yes e) = rw (lt-leb p (get_or level d 0) (h d l e)) (and-false (eqb (get_or source d 0) i))
      go d l (no e) = rw (ne_eqb (get_or source d 0) i e)

-- the priority of a candidate is above the level of every open handler
pub candidate_tops : (s : Aic) (j : ℕ) → Rules s → candidate s j ≡ true → (d : ℕ) → d < s.depth → source_at s d ≢ 0 → level_at s d < priority s j
candidate_tops s j r c d l z =
    let h = under s r s.depth d (omega arith) l z in
    ⊎_elim (λ (q : level_below s.level s.depth ≡ no_level). absurd (h.0 q)) (λ (q : level_below s.level s.depth < priority s j). omega (arith, h.1))
    (candidate-over s j c)
