-- The search keeps the one ahead of all others among the sources that it has seen, and ends with the chosen one.
use mathlib.Core.Path.{◌≡◌, refl, sym, ap, ap₂, ◌∙◌}
use mathlib.Core.Bool.{Bool, true, false, ◌&&◌}
use mathlib.Core.List.{List}
use mathlib.Core.Logic.{◌⊎◌, inl, inr, ⊎_elim}
use Prim.Native.Nat.{ℕ, ◌+◌, ◌*◌, ◌≤◌, ◌<◌}
use native.Mathlib.Nat.{eq-or-lt_of_le}
use native.Mathlib.Omega.{arith}
use borrow.Author.Tests.{lt-ltb, le-ltb, le-leb, lt-leb, leb-true, leb-false}
use lib.Dec.{ltb, leb}
use Rattle.words.specs.Choice.{pick}
use Rattle.words.specs.Word.{bit}
use Rattle.words.proofs.ChoiceLaws.{pick_true, pick-false}
use Rattle.words.proofs.TruthLaws.{and_left, and_right, and_both, clash, not-holds, told}
use Rattle.words.proofs.CountingLaws.{any_none}
use Rattle.aic_record.specs.declared.Aic.{Aic}
use Rattle.aic_record.specs.Mode.{priority_of, priority, mode_at}
use Rattle.aic_record.specs.Sound.{level_below, over}
use Rattle.aic_record.specs.Passes.{floor_over}
use Rattle.aic_record.proofs.PassLaws.{floor_rule}
use Rattle.aic_sources.specs.Normal.{waiting, above, candidate, candidates, chosen}
use Rattle.aic_sources.specs.Search.{rank, may_start, least_of, Leader, Found}
use Rattle.aic_sources.proofs.HandlerLaws.{priority_small}
use Rattle.aic_sources.proofs.OrderLaws.{Foremost, lt-ahead, chosen_is, chosen-one, chosen_none}

-- a number below n + 1 is n or below it
upto_last : (j n : ℕ) → j < n + 1 → (j ≡ n) ⊎ (j < n)
upto_last j n q = eq-or-lt_of_le (omega arith)

-- ---- one turn of the search

-- the floor of the search: as given while none was taken, then one above the priority of the one taken
pub record Floor (mode : List ℕ) (least best floor : ℕ) : Type 0 where
  pub none : best ≡ 32 → floor ≡ least
  pub some : best < 32 → floor ≡ rank mode best + 1

abbrev pub Kept : ℕ → List ℕ → ℕ → ℕ → ℕ → ℕ → Type 0
Kept waits mode least n best floor = Found waits mode least n best × Floor mode least best floor

module _ (waits : ℕ) (mode : List ℕ) (least : ℕ) where
  may-bit : (k : ℕ) → may_start waits mode least k ≡ true → bit waits k ≡ true
  unfolding may_start
  may-bit k e = and_left (bit waits k) (leb least (rank mode k)) e

  may_least : (k : ℕ) → may_start waits mode least k ≡ true → least ≤ rank mode k
  unfolding may_start
  may_least k e = leb-true least (rank mode k) (and_right (bit waits k) (leb least (rank mode k)) e)

  may-by : (k : ℕ) → bit waits k ≡ true → least ≤ rank mode k → may_start waits mode least k ≡ true
  unfolding may_start
  may-by k e l = and_both e (le-leb least (rank mode k) l)

  pub search-none : Kept waits mode least 0 32 least
  search-none = (inl (record { none = refl; each = λ j l. absurd (omega arith) }), record { none = λ e. refl; some = λ l. absurd (omega arith) })

  -- the floor is no lower than the least, and above each source that may start
  floor-low : (n best floor : ℕ) → n ≤ 32 → Kept waits mode least n best floor → least ≤ floor
  floor-low n best floor b (inl x, f) = omega (arith, f.none x.none)
  floor-low n best floor b (inr x, f) = omega (arith, f.some (omega (arith, x.within)), may_least best x.may)

  floor-high : (n best floor : ℕ) → n ≤ 32 → Kept waits mode least n best floor → (j : ℕ) → j < n → may_start waits mode least j ≡ true → rank mode j < floor
  floor-high n best floor b (inl x, f) j l e = clash e (x.each j l)
  floor-high n best floor b (inr x, f) j l e = omega (arith, f.some (omega (arith, x.within)), x.each j l e, x.within)

  -- the next source is taken
  taken : (n best floor : ℕ) → n < 32 → Kept waits mode least n best floor → bit waits n ≡ true → floor ≤ rank mode n → Kept waits mode least (n + 1) n (rank mode n + 1)
  taken n best floor b k e l = (
    inr (record { within = omega arith; may = may-by n e (omega (arith, floor-low n best floor (omega arith) k)); each = others }),
    record { none = λ q. absurd (omega arith); some = λ q. refl },
  )
    where
      others : (j : ℕ) → j < n + 1 → may_start waits mode least j ≡ true → rank mode j * 32 + n ≤ rank mode n * 32 + j
      others j q m =
          ⊎_elim
          (λ (p : j ≡ n). omega (arith, ap (rank mode) p))
          (λ (p : j < n). omega (arith, floor-high n best floor (omega arith) k j p m))
          (upto_last j n q)

  -- the next source is not taken
  passed : (n best floor : ℕ) → n < 32 → Kept waits mode least n best floor → (bit waits n ≡ true → rank mode n < floor) → Kept waits mode least (n + 1) best floor
  passed n best floor b (inl x, f) h = (inl (record { none = x.none; each = none }), f)
    where
      none : (j : ℕ) → j < n + 1 → may_start waits mode least j ≡ false
      none j q =
          ⊎_elim
          (λ (p : j ≡ n). ap (may_start waits mode least) p ∙ not-holds (may_start waits mode least n) (λ m. omega (arith, h (may-bit n m), may_least n m, f.none x.none)))
          (λ (p : j < n). x.each j p)
          (upto_last j n q)
  passed n best floor b (inr x, f) h = (inr (record { within = omega (arith, x.within); may = x.may; each = others }), f)
    where
      others : (j : ℕ) → j < n + 1 → may_start waits mode least j ≡ true → rank mode j * 32 + best ≤ rank mode best * 32 + j
      others j q m =
          ⊎_elim
          (λ (p : j ≡ n). omega (arith, ap (rank mode) p, h (may-bit n (ap (may_start waits mode least) (sym p) ∙ m)), f.some (omega (arith, x.within)), x.within))
          (λ (p : j < n). x.each j p m)
          (upto_last j n q)

  -- a turn: p is the priority of source n, t says whether it is taken
  pub search-more : (n best floor p : ℕ) (h : Bool) {best' floor' : ℕ} → n < 32 → Kept waits mode least n best floor → p ≡ rank mode n → h ≡ bit waits n
      → best' ≡ pick (h && leb floor p) n best → floor' ≡ pick (h && leb floor p) (p + 1) floor → Kept waits mode least (n + 1) best' floor'
  search-more n best floor p h {best'} {floor'} b k ep eh eb ef = go (told (bit waits n && leb floor (rank mode n)))
    where
      test : (h && leb floor p) ≡ (bit waits n && leb floor (rank mode n))
      test = ap₂ (λ (x : Bool) (y : ℕ). x && leb floor y) eh ep

      by : (x y : ℕ) → best' ≡ x → floor' ≡ y → Kept waits mode least (n + 1) x y → Kept waits mode least (n + 1) best' floor'
      by x y e f q = rw (e, f) q

      go : ((bit waits n && leb floor (rank mode n)) ≡ true) ⊎ ((bit waits n && leb floor (rank mode n)) ≡ false) → Kept waits mode least (n + 1) best' floor'
      go (inl t) =
          by n (rank mode n + 1) (eb ∙ sym (pick_true best (test ∙ t))) (ef ∙ sym (pick_true floor (test ∙ t)) ∙ ap (λ (x : ℕ). x + 1) ep)
          (taken n best floor b k (and_left (bit waits n) (leb floor (rank mode n)) t) (leb-true floor (rank mode n) (and_right (bit waits n) (leb floor (rank mode n)) t)))
      go (inr t) =
          by best floor (eb ∙ sym (pick-false n (test ∙ t))) (ef ∙ sym (pick-false (p + 1) (test ∙ t)))
          (passed n best floor b k (λ e. leb-false floor (rank mode n) (ap (λ (x : Bool). x && leb floor (rank mode n)) (sym e) ∙ t)))

  -- the end of the search
  pub search-done : (n best : ℕ) → n ≤ 32 → 32 ≤ n → Found waits mode least n best → Found waits mode least 32 best
  search-done n best l g f =
      let e : n ≡ 32 = omega arith in
      rw e at f

-- ---- what the search finds is the chosen source

-- the search's view of a record: its waiting sources are the word w
unfoldable pub Sees : Aic → ℕ → Type 0
Sees s w = (k : ℕ) → k < 32 → bit w k ≡ waiting s k

-- at least the least priority that may start: there is room, and it is above the level of the last entry
pub least_rule : (s : Aic) (p : ℕ) → p ≤ 7 → leb (least_of s) p ≡ above s p
unfolding least_of above
least_rule s p l = go (ltb s.depth 8)
  where
    go : (t : Bool) → leb (pick t (floor_over (level_below s.level s.depth)) 8) p ≡ (t && over (level_below s.level s.depth) p)
    go true = unfold pick in (floor_rule (level_below s.level s.depth) p)
    go false = unfold pick in (lt-leb 8 p (omega arith))

may-is : (s : Aic) (w k : ℕ) → Sees s w → k < 32 → may_start w s.mode (least_of s) k ≡ candidate s k
unfolding Sees may_start candidate priority
may-is s w k v l = ap₂ ◌&&◌ (v k l) (least_rule s (priority_of (mode_at s k)) (priority_small s k))

leader-is : (s : Aic) (w r : ℕ) → Sees s w → Leader w s.mode (least_of s) 32 r → Foremost s 32 r
unfolding priority
leader-is s w r v x =
    record {
      below = x.within;
      fit = sym (may-is s w r v x.within) ∙ x.may;
      first = λ j l c d. lt-ahead s r j l (omega (arith, x.within, x.each j l (may-is s w j v l ∙ c)));
    }

-- the search answers the chosen source
pub chosen_by : (s : Aic) (w r : ℕ) → Sees s w → Found w s.mode (least_of s) 32 r → r ≡ chosen s
unfolding candidates
chosen_by s w r v (inl x) = x.none ∙ sym (chosen_none s (any_none 32 (candidate s) (λ k l. sym (may-is s w k v l) ∙ x.each k l)))
chosen_by s w r v (inr x) = sym (chosen-one s r (leader-is s w r v x))

-- a source is chosen exactly if there is a candidate
pub chosen-some : (s : Aic) → ltb (chosen s) 32 ≡ candidates s
chosen-some s = go (told (candidates s))
  where
    go : (candidates s ≡ true) ⊎ (candidates s ≡ false) → ltb (chosen s) 32 ≡ candidates s
    go (inl h) = lt-ltb (chosen s) 32 (chosen_is s h).below ∙ sym h
    go (inr h) = le-ltb (chosen s) 32 (omega (arith, chosen_none s h)) ∙ sym h
