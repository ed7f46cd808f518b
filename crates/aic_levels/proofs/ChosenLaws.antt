-- The source to start by the levels is the candidate that is ahead of all others; IRQ needs no more than the byte.
use mathlib.Core.Path.{◌≡◌, refl, sym, ap, ◌∙◌, subst}
use mathlib.Core.Bool.{Bool, true, false, not, ◌&&◌}
use mathlib.Core.List.{List}
use mathlib.Core.Logic.{◌≢◌, ◌⊎◌, inl, inr}
use Prim.Native.Nat.{ℕ, ◌+◌, ◌*◌, ◌≤◌, ◌<◌}
use native.Mathlib.Decide.{ℕ_discrete}
use native.Mathlib.Omega.{arith}
use borrow.Author.Tests.{eq-eqb, ne_eqb, eqb-false, leb-true, leb-false, le-leb, not-true}
use lib.Dec.{eqb, leb}
use lib.ListN.{get_or}
use Rattle.words.specs.Counting.{lowest_below}
use Rattle.words.specs.Word.{bit, clean}
use Rattle.words.proofs.ChoiceLaws.{pick_cases}
use Rattle.words.proofs.TruthLaws.{and_left, and_right, and_both, clash, not-holds, told}
use Rattle.words.proofs.CountingLaws.{any_some, some_any, any_fails, any_none}
use Rattle.words.proofs.WordLaws.{bit_below, bits-clean, clean_lt}
use Rattle.words.proofs.HopLaws.{lowest_in, lowest-before}
use Rattle.aic_record.specs.declared.Aic.{Aic}
use Rattle.aic_record.specs.Mode.{priority}
use Rattle.aic_record.specs.Sound.{no_level}
use Rattle.aic_sources.specs.Normal.{waiting, above, candidate, candidates, chosen}
use Rattle.aic_sources.specs.Search.{least_of}
use Rattle.aic_sources.proofs.HandlerLaws.{priority_small, candidate-waits}
use Rattle.aic_sources.proofs.OrderLaws.{lt-ahead, chosen-one, chosen_none}
use Rattle.aic_sources.proofs.SearchLaws.{least_rule}
use Rattle.aic_levels.specs.Levels.{level_word, any_of, highest_of, chosen_by}
use Rattle.aic_levels.proofs.HighestLaws.{Highest, highest-is}
use Rattle.aic_levels.proofs.LevelLaws.{level_lt, any_lt, in_level, level_in, any_word, any_source, source_any}

-- ---- a candidate waits, and its priority is no lower than the least that may start

candidate_least : (s : Aic) (k : ℕ) → candidate s k ≡ true → least_of s ≤ priority s k
unfolding candidate
candidate_least s k c = leb-true (least_of s) (priority s k) (least_rule s (priority s k) (priority_small s k) ∙ and_right (waiting s k) _ c)

least-candidate : (s : Aic) (k : ℕ) → waiting s k ≡ true → least_of s ≤ priority s k → candidate s k ≡ true
unfolding candidate
least-candidate s k w l = and_both w (sym (least_rule s (priority s k) (priority_small s k)) ∙ le-leb (least_of s) (priority s k) l)

-- ---- the byte alone tells whether there is a candidate

-- there is none exactly if no level from the least that may start on has any
pub irq-by : (s : Aic) (least any : ℕ) → least ≡ least_of s → any ≡ any_of s → not (clean least any) ≡ candidates s
irq-by s least any e f = subst (λ (x : ℕ). not (clean x any) ≡ candidates s) (sym e) (subst (λ (x : ℕ). not (clean (least_of s) x) ≡ candidates s) (sym f) (go (told (candidates s))))
  where
    level : candidates s ≡ true → clean (least_of s) (any_of s) ≡ false
    level h = unfold candidates in (
        let r = any_some 32 (candidate s) h in
        not-holds (clean (least_of s) (any_of s)) (λ c. omega (arith, candidate_least s r.0 r.2, bit_below (least_of s) (any_of s) (priority s r.0) (clean_lt (least_of s) (any_of s) c) (source_any s r.0 r.1 (candidate-waits s r.0 r.2)))))

    empty : candidates s ≡ false → (p : ℕ) → least_of s ≤ p → p < 8 → bit (any_of s) p ≡ false
    empty h p l m = unfold candidates in (not-holds (bit (any_of s) p) (λ y.
        let r = any_source s p m y in
        clash (least-candidate s r.0 r.2 (omega (arith, r.3))) (any_fails 32 (candidate s) h r.0 r.1)))

    go : (candidates s ≡ true) ⊎ (candidates s ≡ false) → not (clean (least_of s) (any_of s)) ≡ candidates s
    go (inl h) = ap not (level h) ∙ sym h
    go (inr h) = ap not (bits-clean 8 (least_of s) (any_of s) (any_lt s) (empty h)) ∙ sym h

-- ---- the lowest source of the highest level

-- what is known of a source that was found in word h: it is the one to start, and h is its priority
pub record Started (s : Aic) (h k : ℕ) : Type 0 where
  pub level : h < 8
  pub source : k < 32
  pub waits : waiting s k ≡ true
  pub at : priority s k ≡ h
  pub fits : candidate s k ≡ true
  pub some : candidates s ≡ true
  pub is : k ≡ chosen s

-- no level, or one that is lower than the least that may start: there is no candidate
pub none-by : (s : Aic) (any least h : ℕ) → any ≡ any_of s → least ≡ least_of s → h ≡ highest_of any → (h ≡ 255) ⊎ (h < least) → candidates s ≡ false
unfolding candidates
none-by s any least h e f g n = any_none 32 (candidate s) (λ k l. not-holds (candidate s k) (λ c. go k l c n))
  where
    top : Highest any 8 h
    top = subst (Highest any 8) (sym g) (highest-is any)

    set : (k : ℕ) → k < 32 → candidate s k ≡ true → bit any (priority s k) ≡ true
    set k l c = ap (λ (x : ℕ). bit x (priority s k)) e ∙ source_any s k l (candidate-waits s k c)

    go : (k : ℕ) → k < 32 → candidate s k ≡ true → (h ≡ 255) ⊎ (h < least) → ⊥
    go k l c (inl z) = clash (set k l c) (top.none z (priority s k) (omega (arith, priority_small s k)))
    go k l c (inr z) = omega (arith, candidate_least s k c, top.over (priority s k) (omega (arith, priority_small s k)) (set k l c))

-- a level, no lower than that: the lowest source of its word is the one to start
pub some-by : (s : Aic) (any least h k : ℕ) → any ≡ any_of s → least ≡ least_of s → h ≡ highest_of any → h ≢ 255 → least ≤ h
    → k ≡ lowest_below 32 (bit (level_word s h)) → Started s h k
unfolding candidates
some-by s any least h k e f g d l i =
    record {
      level = small;
      source = found.0;
      waits = stands.0;
      at = stands.1;
      fits = fits;
      some = some_any 32 (candidate s) k found.0 fits;
      is = sym (chosen-one s k (record { below = found.0; fit = fits; first = λ j m c n. lt-ahead s k j m (first j m c n (ℕ_discrete (priority s j) h)) }));
    }
  where
    top : Highest (any_of s) 8 h
    top = subst (Highest (any_of s) 8) (sym (g ∙ ap highest_of e)) (highest-is (any_of s))

    small : h < 8
    small = (top.some d).0

    found : (k < 32) × (bit (level_word s h) k ≡ true)
    found = lowest_in (level_word s h) k (level_lt s h) (any_word s h small (top.some d).1) i

    stands : (waiting s k ≡ true) × (priority s k ≡ h)
    stands = in_level s h k found.0 found.1

    fits : candidate s k ≡ true
    fits = least-candidate s k stands.0 (omega (arith, stands.1))

    first : (j : ℕ) → j < 32 → candidate s j ≡ true → j ≢ k → Dec (priority s j ≡ h) → priority s j * 32 + k < priority s k * 32 + j
    first j m c n (no q) = omega (arith, stands.1, found.0, top.over (priority s j) (omega (arith, priority_small s j)) (source_any s j m (candidate-waits s j c)))
    first j m c n (yes q) = omega (arith, stands.1, below)
      where
        below : k < j
        below = go (told (leb k j))
          where
            go : (leb k j ≡ true) ⊎ (leb k j ≡ false) → k < j
            go (inl y) = omega (arith, leb-true k j y)
            go (inr y) = clash (level_in s h j m (candidate-waits s j c) q) (lowest-before (level_word s h) k i j (omega (arith, leb-false k j y)))

-- ---- the same from the test that code makes, on words that are those of the levels

-- the test fails: no candidate, and the chosen source is 32
pub none_found : (s : Aic) (any least h : ℕ) → any ≡ any_of s → least ≡ least_of s → h ≡ highest_of any → (not (eqb h 255) && leb least h) ≡ false
    → (candidates s ≡ false) × (chosen s ≡ 32)
none_found s any least h e f g t =
    let n = none-by s any least h e f g (go (ℕ_discrete h 255)) in
    (n, chosen_none s n)
  where
    go : Dec (h ≡ 255) → (h ≡ 255) ⊎ (h < least)
    go (yes z) = inl z
    go (no d) = inr (omega (arith, leb-false least h (sym (ap (λ (b : Bool). not b && leb least h) (ne_eqb h 255 d)) ∙ t)))

-- the test holds: the lowest bit of the word is the one to start
pub some_found : (s : Aic) (words : List ℕ) (any least h k : ℕ) → ((p : ℕ) → p < 8 → get_or words p 0 ≡ level_word s p) → any ≡ any_of s → least ≡ least_of s → h ≡ highest_of any
    → (not (eqb h 255) && leb least h) ≡ true → k ≡ lowest_below 32 (bit (get_or words h 0)) → Started s h k
some_found s words any least h k w e f g t i =
    some-by s any least h k e f g d (leb-true least h (and_right (not (eqb h 255)) (leb least h) t)) (i ∙ ap (λ (x : ℕ). lowest_below 32 (bit x)) (w h (small_by (highest-is any))))
  where
    d : h ≢ 255
    d = eqb-false h 255 (not-true (eqb h 255) (and_left (not (eqb h 255)) (leb least h) t))

    small_by : Highest any 8 (highest_of any) → h < 8
    small_by x = omega (arith, g, (x.some (λ z. d (g ∙ z))).0)

-- ---- the source by the levels is the chosen one (02, 5/12)

pub chosen-same : (s : Aic) (words : List ℕ) (any : ℕ) → ((p : ℕ) → p < 8 → get_or words p 0 ≡ level_word s p) → any ≡ any_of s
    → chosen_by s (record { words = words; any = any }) ≡ chosen s
unfolding chosen_by
chosen-same s words any w e =
    pick_cases (λ k. k ≡ chosen s) (not (eqb (highest_of any) no_level) && above s (highest_of any))
    (λ t. (some_found s words any (least_of s) (highest_of any) _ w e refl refl (sym (test (ℕ_discrete (highest_of any) 255)) ∙ t) refl).is)
    (λ t. sym (none_found s any (least_of s) (highest_of any) e refl refl (sym (test (ℕ_discrete (highest_of any) 255)) ∙ t)).1)
  where
    test : Dec (highest_of any ≡ 255) → (not (eqb (highest_of any) 255) && above s (highest_of any)) ≡ (not (eqb (highest_of any) 255) && leb (least_of s) (highest_of any))
    test (yes z) = rw (eq-eqb (highest_of any) 255 z)
    test (no d) = ap (λ (b : Bool). not (eqb (highest_of any) 255) && b) (sym (least_rule s (highest_of any) (omega (arith, ((highest-is any).some d).0))))
