-- The row of one source after a step, by whether it waited and whether it waits then; and a step that moves nothing.
use Prim.Native.Nat.{ℕ, zero, suc, ◌+◌, ◌/◌, ◌%◌, ◌≤◌, ◌<◌, ◌^◌, min}
use mathlib.Core.Path.{◌≡◌, refl, sym, ap, ap₂, ◌∙◌}
use mathlib.Core.Bool.{Bool, true, false, not, ◌&&◌, ◌||◌, and-true, and-false}
use mathlib.Core.List.{List}
use native.Mathlib.Omega.{arith}
use native.Mathlib.Nat.{mod-lt}
use native.Mathlib.Decide.{ℕ_discrete, dec_lt}
use lib.Dec.{eqb, ltb, leb}
use borrow.Author.Tests.{eqb-true, eq-eqb, leb-true, lt-ltb, le-ltb, ltb-true, ltb-false}
use Rattle.words.specs.Choice.{pick}
use Rattle.words.specs.Counting.{one, count_below}
use Rattle.words.specs.Word.{bit, word_of, either, both, without, with_bit}
use Rattle.words.proofs.ChoiceLaws.{pick_cases}
use Rattle.words.proofs.CountingLaws.{count_le, count_same}
use Rattle.words.proofs.HopLaws.{hop_here, hop-other}
use Rattle.words.proofs.TruthLaws.{and_left, and_right}
use Rattle.words.proofs.WordLaws.{bit-none, bit-some, bit-either, bit-both, bit-without, either_lt, both_lt, without_lt, same_word, one-eqb}
use Rattle.aic_record.specs.declared.Aic.{Aic}
use Rattle.aic_waits.specs.Following.{capped}
use Rattle.aic_waits.proofs.FigureLaws.{capped_is}
use Rattle.aic_bounds.specs.declared.Bound.{Bound}
use Rattle.aic_bounds.specs.declared.Marks.{Marks}
use Rattle.aic_bounds.specs.Bounds.{idle, rivals_of, enabled_of, fresh, bound_of}
use Rattle.aic_bounds.specs.Following.{dues, plus, grown_by, bound_by}
use Rattle.aic_bounds.specs.Over.{bounds, better, loses}
use Rattle.aic_bounds.proofs.WordLaws.{due_sum, by-idle, by-fresh, by-grown}
use Rattle.aic_bounds.specs.declared.figures.Figures.{Figures}
use Rattle.aic_bounds.specs.Figures.{figures_with}
use Rattle.aic_figures.specs.WaitsBook.{row_of, figures_in, row_after, is_quiet, gained, Small}

-- ---- numbers and words

-- below 2 is not above 1
pub below_two : (w : ℕ) (b : Bool) → b ≡ ltb 1 w → ltb w 2 ≡ not b
below_two w b e = go (dec_lt 1 w) ∙ ap not (sym e)
  where
    go : Dec (1 < w) → ltb w 2 ≡ not (ltb 1 w)
    go (yes l) = rw (le-ltb w 2 (omega (arith, l)), lt-ltb 1 w l)
    go (no n) = rw (lt-ltb w 2 (omega (arith, n)), le-ltb 1 w (omega (arith, n)))

pub capped-most : (n : ℕ) → capped n ≤ 4294967295
unfolding capped
capped-most n = pick_cases (λ r. r ≤ 4294967295) (leb n 4294967295) (λ e. omega (arith, leb-true n 4294967295 e)) (λ e. omega arith)

capped-none : (n : ℕ) → n ≤ 4294967295 → capped (n + 0) ≡ n
capped-none n l = sym (capped_is (n + 0) (omega (arith, l))) ∙ omega arith

shared-none : (a b : ℕ) → ((k : ℕ) → k < 32 → (bit a k && bit b k) ≡ false) → both a b ≡ 0
shared-none a b n = bit-some 32 (both a b) (both_lt a b) (λ k l. bit-both a b k l ∙ n k l)

count_none : count_below 32 (bit 0) ≡ 0
unfolding count_below bit
count_none = refl

pub plus_none : (n a b : ℕ) → n ≤ 4294967295 → both a b ≡ 0 → plus n a b ≡ n
plus_none n a b l z = ap (λ (w : ℕ). capped (n + count_below 32 (bit w))) z ∙ ap (λ (c : ℕ). capped (n + c)) count_none ∙ capped-none n l

-- nobody is brought anything
pub plus-nobody : (n a b : ℕ) → n ≤ 4294967295 → a ≡ 0 → n ≡ plus n a b
plus-nobody n a b l z = sym (plus_none n a b l (shared-none a b (λ k m. ap (λ (c : Bool). c && bit b k) (ap (λ (w : ℕ). bit w k) z ∙ bit-none k))))

-- no source of a is not in b
within : (a b k : ℕ) → without a b ≡ 0 → k < 32 → (bit a k && not (bit b k)) ≡ false
within a b k z l = sym (bit-without a b k l) ∙ ap (λ (w : ℕ). bit w k) z ∙ bit-none k

joined : (a b : ℕ) → a ≤ 4294967295 → without b a ≡ 0 → either a b ≡ a
joined a b s z = same_word 32 (either a b) a (either_lt a b) (omega (arith, s)) (λ k l. bit-either a b k l ∙ go (bit a k) (bit b k) (within b a k z l))
  where
    go : (x y : Bool) → (y && not x) ≡ false → (x || y) ≡ x
    go true y e = refl
    go false true e = e
    go false false e = refl

pub none_left : (a b : ℕ) → ((k : ℕ) → k < 32 → (bit a k && not (bit b k)) ≡ false) → without a b ≡ 0
none_left a b n = bit-some 32 (without a b) (without_lt a b) (λ k l. bit-without a b k l ∙ n k l)

-- ---- the three ways of a step

pub by_cases : (P : Bound → Type 0) (k w n : ℕ) (b : Bound) (m : Marks) (t : Aic) → (w < 2 → P (idle w)) → (2 ≤ w → b.wait < 2 → P (fresh k t))
    → (2 ≤ w → 2 ≤ b.wait → P (grown_by w b n m t)) → P (bound_by k w n b m t)
unfolding bound_by
by_cases P k w n b m t p q r =
    pick_cases P (ltb w 2) (λ e. p (ltb-true w 2 e))
    (λ e. pick_cases P (ltb b.wait 2) (λ d. q (ltb-false w 2 e) (ltb-true b.wait 2 d)) (λ d. r (ltb-false w 2 e) (ltb-false b.wait 2 d)))

-- ---- the row

module _ (k w n : ℕ) (m : Marks) (t : Aic) (f : Figures) where
  abbrev b : Bound
  b = f.bound

  -- a wait that ends, and none
  row_ends : (was : Bool) → was ≡ ltb 1 f.bound.wait → ltb f.bound.wait 2 ≡ not was → ltb w 2 ≡ true → ltb 1 w ≡ false
      → row_of (figures_with n f (idle w)) ≡ row_of (figures_with n (figures_in was (row_of f)) (idle 0))
  unfolding figures_with pick better bounds bound_of loses
  row_ends true e p q g = rw (q, p, sym e) (go (eqb f.bound.broke 0 && ltb (bound_of f.largest) (bound_of f.bound)) _ _ _)
    where
      go : (x : Bool) (o u r : ℕ) → row_of (record { bound = idle w; largest = pick x f.bound f.largest; begun = o; unbounded = u; first = r })
          ≡ row_of (record { bound = idle 0; largest = pick x (figures_in true (row_of f)).bound (figures_in true (row_of f)).largest; begun = o; unbounded = u; first = r })
      go true o u r = refl
      go false o u r = refl
  row_ends false e p q g = rw (q, p, g, sym e)

  -- a wait that goes on, and one that begins
  row_grows : ltb f.bound.wait 2 ≡ false → ltb w 2 ≡ false
      → row_of (figures_with n f (grown_by w f.bound n m t)) ≡ row_of (figures_with n (figures_in true (row_of f)) (grown_by 2 (figures_in true (row_of f)).bound n m t))
  unfolding figures_with pick loses
  row_grows p q = rw (q, p)

  row-begins : ltb f.bound.wait 2 ≡ true → row_of (figures_with n f (fresh k t)) ≡ row_of (figures_with n (figures_in false (row_of f)) (fresh k t))
  unfolding figures_with pick loses
  row-begins p = rw p

  -- a row that has no wait then
  none : (was : Bool) → idle 0 ≡ bound_by k 0 n (figures_in was (row_of f)).bound m t
  none was = by-idle k 0 n (figures_in was (row_of f)).bound m t (omega arith) refl

  idle-row : f.bound.wait < 2 → w < 2 → f.bound ≡ idle f.bound.wait → Small f → row_of (figures_with n f (idle w)) ≡ row_of f
  unfolding figures_with pick better bounds loses
  idle-row p q e s =
      rw (lt-ltb w 2 q, lt-ltb f.bound.wait 2 p, le-ltb 1 f.bound.wait (omega (arith, p)), le-ltb 1 w (omega (arith, q)), capped-none f.begun s.6, and-false (eqb f.bound.broke 0), capped-none f.unbounded s.7)
      (ap (λ (c : Bound). row_of (record { bound = c; largest = f.largest; begun = f.begun; unbounded = f.unbounded; first = f.first })) (sym e))

  pub row_then : (was is : Bool) → was ≡ ltb 1 f.bound.wait → is ≡ ltb 1 w
      → row_of (figures_with n f (bound_by k w n f.bound m t)) ≡ row_after k was is n m t (row_of f)
  row_then was is e g = row_ways was is e g (below_two f.bound.wait was e) (below_two w is g)
    where
      row_ways : (was is : Bool) → was ≡ ltb 1 f.bound.wait → is ≡ ltb 1 w → ltb f.bound.wait 2 ≡ not was → ltb w 2 ≡ not is
          → row_of (figures_with n f (bound_by k w n f.bound m t)) ≡ row_after k was is n m t (row_of f)
      row_ways true true e g p q =
          ap (λ (c : Bound). row_of (figures_with n f c)) (sym (by-grown k w n f.bound m t (ltb-false w 2 q) (ltb-false f.bound.wait 2 p) refl)) ∙ row_grows p q
          ∙ unfold row_after pick in (ap (λ (c : Bound). row_of (figures_with n (figures_in true (row_of f)) c)) (by-grown k 2 n (figures_in true (row_of f)).bound m t (omega arith) (omega arith) refl))
      row_ways false true e g p q =
          ap (λ (c : Bound). row_of (figures_with n f c)) (sym (by-fresh k w n f.bound m t (ltb-false w 2 q) (ltb-true f.bound.wait 2 p) refl)) ∙ row-begins p
          ∙ unfold row_after pick in (ap (λ (c : Bound). row_of (figures_with n (figures_in false (row_of f)) c)) (by-fresh k 2 n (figures_in false (row_of f)).bound m t (omega arith) (omega arith) refl))
      row_ways true false e g p q =
          ap (λ (c : Bound). row_of (figures_with n f c)) (sym (by-idle k w n f.bound m t (ltb-true w 2 q) refl)) ∙ row_ends true e p q (sym g)
          ∙ unfold row_after pick in (ap (λ (c : Bound). row_of (figures_with n (figures_in true (row_of f)) c)) (none true))
      row_ways false false e g p q =
          ap (λ (c : Bound). row_of (figures_with n f c)) (sym (by-idle k w n f.bound m t (ltb-true w 2 q) refl)) ∙ row_ends false e p q (sym g)
          ∙ unfold row_after pick in (ap (λ (c : Bound). row_of (figures_with n (figures_in false (row_of f)) c)) (none false))

  -- one that neither waited nor waits has nothing to move
  pub row_rests : f.bound.wait < 2 → w < 2 → f.bound ≡ idle f.bound.wait → Small f → row_of (figures_with n f (bound_by k w n f.bound m t)) ≡ row_of f
  row_rests p q e s = ap (λ (c : Bound). row_of (figures_with n f c)) (sym (by-idle k w n f.bound m t q refl)) ∙ idle-row p q e s

  -- ---- what is kept of a source

  pub stands_asks : ltb 0 (bound_by k w n f.bound m t).wait ≡ ltb 0 w
  stands_asks = by_cases (λ c. ltb 0 c.wait ≡ ltb 0 w) k w n f.bound m t (λ l. refl) (λ l o. sym (lt-ltb 0 w (omega (arith, l)))) (λ l o. refl)

  pub stands-waits : ltb 1 (bound_by k w n f.bound m t).wait ≡ ltb 1 w
  stands-waits = by_cases (λ c. ltb 1 c.wait ≡ ltb 1 w) k w n f.bound m t (λ l. refl) (λ l o. sym (lt-ltb 1 w (omega (arith, l)))) (λ l o. refl)

  pub rests_then : (bound_by k w n f.bound m t).wait < 2 → bound_by k w n f.bound m t ≡ idle (bound_by k w n f.bound m t).wait
  rests_then =
      by_cases (λ c. c.wait < 2 → c ≡ idle c.wait) k w n f.bound m t (λ l p. refl) (λ l o p. absurd (omega (arith, p))) (λ l o p. absurd (omega (arith, l, p)))

  pub seen_then : without (both (bound_by k w n f.bound m t).rivals t.enabled) (bound_by k w n f.bound m t).on ≡ 0
  seen_then =
      by_cases (λ c. without (both c.rivals t.enabled) c.on ≡ 0) k w n f.bound m t
      (λ l. none_left (both 0 t.enabled) 0 (λ i q. rw (bit-both 0 t.enabled i q, bit-none i)))
      (λ l o. none_left (both (rivals_of k t) t.enabled) (enabled_of (rivals_of k t) t) (λ i q. none (bit (both (rivals_of k t) t.enabled) i)))
      (λ l o. none_left (both f.bound.rivals t.enabled) (either f.bound.on (enabled_of f.bound.rivals t))
      (λ i q. rw (bit-either f.bound.on (enabled_of f.bound.rivals t) i q) (covered (bit (both f.bound.rivals t.enabled) i) (bit f.bound.on i))))
    where
      none : (x : Bool) → (x && not x) ≡ false
      none true = refl
      none false = refl

      covered : (x y : Bool) → (x && not (y || x)) ≡ false
      covered true true = refl
      covered true false = refl
      covered false y = refl

  pub small_then : Small f → Small (figures_with n f (bound_by k w n f.bound m t))
  unfolding figures_with
  small_then s =
      let c = by_cases Held k w n f.bound m t (λ l. (omega arith, omega arith, omega arith, omega arith, omega arith, omega arith))
      (λ l o. (
        omega (arith, both_lt (rivals_of k t) t.enabled),
        omega (arith, due_sum (enabled_of (rivals_of k t) t) t, count_le 32 (bit (both (enabled_of (rivals_of k t) t) (word_of 32 (dues t))))),
        omega arith,
        omega arith,
        omega arith,
        omega arith,
      ))
      (λ l o. (omega (arith, either_lt f.bound.on (enabled_of f.bound.rivals t)), capped-most _, capped-most _, capped-most _, capped-most _, capped-most _)) in
      (c.0, c.1, c.2, c.3, c.4, c.5, capped-most _, capped-most _)
    where
      Held : Bound → Type 0
      Held c =
          (c.on ≤ 4294967295) × (c.pending ≤ 4294967295) × (c.edges ≤ 4294967295) × (c.commands ≤ 4294967295) × (c.turns ≤ 4294967295)
          × (c.closed ≤ 4294967295)

-- ---- what a step brings to one that waits

-- it brought nothing to a source that waits, with these rivals and those of them that count, and the step that left it without a bound: none is first
-- enabled, none that counts is brought anything, and a bound that holds goes on to hold
unfoldable pub is_still : ℕ → ℕ → ℕ → ℕ → Marks → Bool
is_still enabled rivals on broke m =
    eqb (without (both rivals enabled) on) 0 && eqb (both on m.edges) 0 && eqb (both on m.commands) 0 && eqb (both on m.turns) 0 && eqb (both on m.closed) 0
    && not (eqb broke 0 && m.rewrote)

-- nothing: none of its rivals is first enabled, none that counts is brought anything, and its bound stays
abbrev Nothing : ℕ → ℕ → ℕ → ℕ → Marks → Type 0
Nothing enabled rivals on broke m =
    (without (both rivals enabled) on ≡ 0) × (both on m.edges ≡ 0) × (both on m.commands ≡ 0) × (both on m.turns ≡ 0) × (both on m.closed ≡ 0)
    × ((eqb broke 0 && m.rewrote) ≡ false)

off-not : (x : Bool) → not x ≡ true → x ≡ false
off-not true p = sym p
off-not false p = refl

module _ (enabled rivals on broke : ℕ) (m : Marks) where
  abbrev c₀ : Bool
  c₀ = eqb (without (both rivals enabled) on) 0

  abbrev c₁ : Bool
  c₁ = eqb (both on m.edges) 0

  abbrev c₂ : Bool
  c₂ = eqb (both on m.commands) 0

  abbrev c₃ : Bool
  c₃ = eqb (both on m.turns) 0

  abbrev c₄ : Bool
  c₄ = eqb (both on m.closed) 0

  abbrev c₅ : Bool
  c₅ = not (eqb broke 0 && m.rewrote)

  still_brings : is_still enabled rivals on broke m ≡ true → Nothing enabled rivals on broke m
  unfolding is_still
  still_brings q =
      let p₄ = and_left ((((c₀ && c₁) && c₂) && c₃) && c₄) c₅ q in
      let p₃ = and_left (((c₀ && c₁) && c₂) && c₃) c₄ p₄ in
      let p₂ = and_left ((c₀ && c₁) && c₂) c₃ p₃ in
      let p₁ = and_left (c₀ && c₁) c₂ p₂ in (
        eqb-true (without (both rivals enabled) on) 0 (and_left c₀ c₁ p₁),
        eqb-true (both on m.edges) 0 (and_right c₀ c₁ p₁),
        eqb-true (both on m.commands) 0 (and_right (c₀ && c₁) c₂ p₂),
        eqb-true (both on m.turns) 0 (and_right ((c₀ && c₁) && c₂) c₃ p₃),
        eqb-true (both on m.closed) 0 (and_right (((c₀ && c₁) && c₂) && c₃) c₄ p₄),
        off-not (eqb broke 0 && m.rewrote) (and_right ((((c₀ && c₁) && c₂) && c₃) && c₄) c₅ q),
      )

  -- a step that brings nothing at all
  pub quiet-still : is_quiet m ≡ true → without (both rivals enabled) on ≡ 0 → is_still enabled rivals on broke m ≡ true
  unfolding is_quiet is_still
  quiet-still q e =
      let q₃ = and_left (((d₀ && d₁) && d₂) && d₃) (not m.rewrote) q in
      let q₂ = and_left ((d₀ && d₁) && d₂) d₃ q₃ in
      let q₁ = and_left (d₀ && d₁) d₂ q₂ in
      rw (
        eq-eqb (without (both rivals enabled) on) 0 e,
        eq-eqb (both on m.edges) 0 (nobody m.edges (eqb-true m.edges 0 (and_left d₀ d₁ q₁))),
        eq-eqb (both on m.commands) 0 (nobody m.commands (eqb-true m.commands 0 (and_right d₀ d₁ q₁))),
        eq-eqb (both on m.turns) 0 (nobody m.turns (eqb-true m.turns 0 (and_right (d₀ && d₁) d₂ q₂))),
        eq-eqb (both on m.closed) 0 (nobody m.closed (eqb-true m.closed 0 (and_right ((d₀ && d₁) && d₂) d₃ q₃))),
        off-not m.rewrote (and_right (((d₀ && d₁) && d₂) && d₃) (not m.rewrote) q),
        and-false (eqb broke 0),
      )
    where
      d₀ : Bool
      d₀ = eqb m.edges 0

      d₁ : Bool
      d₁ = eqb m.commands 0

      d₂ : Bool
      d₂ = eqb m.turns 0

      d₃ : Bool
      d₃ = eqb m.closed 0

      nobody : (b : ℕ) → b ≡ 0 → both on b ≡ 0
      nobody b z = shared-none on b (λ i l. ap (λ (c : Bool). bit on i && c) (ap (λ (w : ℕ). bit w i) z ∙ bit-none i) ∙ and-false (bit on i))

-- ---- a step that moves nothing

module _ (k n : ℕ) (m : Marks) (t : Aic) (f : Figures) (s : Small f)
    (q : is_still t.enabled f.bound.rivals f.bound.on f.bound.broke m ≡ true) (r : f.bound.wait < 2 → f.bound ≡ idle f.bound.wait) where
  brings : Nothing t.enabled f.bound.rivals f.bound.on f.bound.broke m
  brings = still_brings t.enabled f.bound.rivals f.bound.on f.bound.broke m q

  grown-same : grown_by f.bound.wait f.bound n m t ≡ f.bound
  grown-same =
      rw (
        joined f.bound.on (enabled_of f.bound.rivals t) s.0 brings.0,
        sym (plus-nobody f.bound.pending (without (enabled_of f.bound.rivals t) f.bound.on) (word_of 32 (dues t)) s.1 brings.0),
        plus_none f.bound.edges f.bound.on m.edges s.2 brings.1,
        plus_none f.bound.commands f.bound.on m.commands s.3 brings.2,
        plus_none f.bound.turns f.bound.on m.turns s.4 brings.3,
        plus_none f.bound.closed f.bound.on m.closed s.5 brings.4,
        brings.5,
      ) (unfold pick in refl)

  bound-same : bound_by k f.bound.wait n f.bound m t ≡ f.bound
  bound-same =
      by_cases (λ c. c ≡ f.bound) k f.bound.wait n f.bound m t (λ l. sym (r l)) (λ l o. absurd (omega (arith, l, o))) (λ l o. grown-same)

  figures-same : figures_with n f f.bound ≡ f
  unfolding figures_with loses
  figures-same =
      rw (largest-is (dec_lt 1 f.bound.wait), begun-is, lost (eqb f.bound.broke 0), capped-none f.unbounded s.7) (unfold pick in refl)
    where
      lost : (x : Bool) → (x && not x) ≡ false
      lost true = refl
      lost false = refl

      largest-is : Dec (1 < f.bound.wait) → pick (ltb f.bound.wait 2) (better f.largest f.bound) f.largest ≡ f.largest
      largest-is (yes l) = rw (le-ltb f.bound.wait 2 (omega (arith, l))) (unfold pick in refl)
      largest-is (no o) = rw (lt-ltb f.bound.wait 2 (omega (arith, o))) (unfold pick better bounds in (rw (le-ltb 1 f.bound.wait (omega (arith, o)))))

      begun-is : capped (f.begun + one (ltb f.bound.wait 2 && ltb 1 f.bound.wait)) ≡ f.begun
      begun-is = ap (λ (x : Bool). capped (f.begun + one x)) (either_way (dec_lt 1 f.bound.wait)) ∙ capped-none f.begun s.6
        where
          either_way : Dec (1 < f.bound.wait) → (ltb f.bound.wait 2 && ltb 1 f.bound.wait) ≡ false
          either_way (yes l) = rw (le-ltb f.bound.wait 2 (omega (arith, l)))
          either_way (no o) = rw (le-ltb 1 f.bound.wait (omega (arith, o)), and-false (ltb f.bound.wait 2))

  pub nothing_moves : figures_with n f (bound_by k f.bound.wait n f.bound m t) ≡ f
  nothing_moves = ap (figures_with n f) bound-same ∙ figures-same

-- ---- a wait that goes on, with no rival enabled for the first time and no mode rewritten

module _ (k n : ℕ) (m : Marks) (t : Aic) (f : Figures) (s : Small f) (covers : without (both f.bound.rivals t.enabled) f.bound.on ≡ 0) (steady : m.rewrote ≡ false)
    (e : true ≡ ltb 1 f.bound.wait) where
  waits_on : 2 ≤ f.bound.wait
  waits_on = omega (arith, ltb-true 1 f.bound.wait (sym e))

  bound-gains : grown_by f.bound.wait f.bound n m t ≡ (gained f m).bound
  bound-gains =
      rw (
        joined f.bound.on (enabled_of f.bound.rivals t) s.0 covers,
        sym (plus-nobody f.bound.pending (without (enabled_of f.bound.rivals t) f.bound.on) (word_of 32 (dues t)) s.1 covers),
        steady,
        and-false (eqb f.bound.broke 0),
      ) (unfold pick in refl)

  figures_gain : row_of (figures_with n f (gained f m).bound) ≡ row_of (gained f m)
  unfolding figures_with loses pick
  figures_gain = rw (le-ltb f.bound.wait 2 waits_on, capped-none f.begun s.6, lost (eqb f.bound.broke 0), capped-none f.unbounded s.7)
    where
      lost : (x : Bool) → (x && not x) ≡ false
      lost true = refl
      lost false = refl

  pub row-gains : row_after k true true n m t (row_of f) ≡ row_of (gained f m)
  row-gains =
      sym (row_then k f.bound.wait n m t f true true e e)
      ∙ ap (λ (b : Bound). row_of (figures_with n f b)) (sym (by-grown k f.bound.wait n f.bound m t waits_on waits_on refl) ∙ bound-gains) ∙ figures_gain

-- one for which none counts is brought nothing
pub gains-none : (f : Figures) (m : Marks) → Small f → f.bound.on ≡ 0 → gained f m ≡ f
gains-none f m s z =
    rw (
      sym (plus-nobody f.bound.edges f.bound.on m.edges s.2 z),
      sym (plus-nobody f.bound.commands f.bound.on m.commands s.3 z),
      sym (plus-nobody f.bound.turns f.bound.on m.turns s.4 z),
      sym (plus-nobody f.bound.closed f.bound.on m.closed s.5 z),
    )

pub small-gains : (f : Figures) (m : Marks) → Small f → Small (gained f m)
small-gains f m s = (s.0, s.1, capped-most _, capped-most _, capped-most _, capped-most _, s.6, s.7)

-- ---- counted bit by bit

capped_full : (n : ℕ) → 4294967295 ≤ n → capped n ≡ 4294967295
unfolding capped
capped_full n l = pick_cases (λ r. r ≡ 4294967295) (leb n 4294967295) (λ e. omega (arith, leb-true n 4294967295 e, l)) (λ e. refl)

capped-twice : (a b : ℕ) → capped (capped a + b) ≡ capped (a + b)
capped-twice a b = go (dec_lt a 4294967295)
  where
    go : Dec (a < 4294967295) → capped (capped a + b) ≡ capped (a + b)
    go (yes l) = ap (λ (x : ℕ). capped (x + b)) (sym (capped_is a (omega (arith, l))))
    go (no l) =
        ap (λ (x : ℕ). capped (x + b)) (capped_full a (omega (arith, l))) ∙ capped_full (4294967295 + b) (omega arith) ∙ sym (capped_full (a + b) (omega (arith, l)))

-- a sum that stays at the largest number
pub capped-min : (n : ℕ) → min n 4294967295 ≡ capped n
capped-min n = go (dec_lt n 4294967295)
  where
    go : Dec (n < 4294967295) → min n 4294967295 ≡ capped n
    go (yes l) = let e : min n 4294967295 ≡ n = omega arith in e ∙ capped_is n (omega arith)
    go (no l) = let e : min n 4294967295 ≡ 4294967295 = omega (arith, l) in e ∙ sym (capped_full n (omega (arith, l)))

pub one-is : (n on i : ℕ) → min (n + on / 2 ^ i % 2) 4294967295 ≡ capped (n + one (bit on i))
unfolding bit
one-is n on i =
    let x : on / 2 ^ i % 2 < 2 = mod-lt (on / 2 ^ i) (omega arith) in
    capped-min (n + on / 2 ^ i % 2) ∙ ap (λ (y : ℕ). capped (n + y)) (sym (one-eqb (on / 2 ^ i % 2) x))

-- one number passes that did not
count-one : (n : ℕ) (p q : ℕ → Bool) (i : ℕ) → i < n → p i ≡ false → ((k : ℕ) → k < n → (k ≡ i → ⊥) → q k ≡ p k) → count_below n q ≡ count_below n p + one (q i)
unfolding count_below
count-one zero p q i l z h = absurd (omega (arith, l))
count-one (suc n) p q i l z h = go (ℕ_discrete i n) (λ m. count-one n p q i m z (λ k y. h k (omega (arith, y))))
  where
    go : Dec (i ≡ n) → (i < n → count_below n q ≡ count_below n p + one (q i)) → count_below n q + one (q n) ≡ count_below n p + one (p n) + one (q i)
    go (yes e) more =
        let c = count_same n q p (λ k m. h k (omega (arith, m)) (λ x. omega (arith, x, m, e))) in
        let y : one (q i) ≡ one (q n) = ap (λ (k : ℕ). one (q k)) e in
        let x : one (p n) ≡ 0 = ap (λ (k : ℕ). one (p k)) (sym e) ∙ ap one z in
        omega (arith, c, x, y)
    go (no e) more =
        let c = more (omega (arith, l, e)) in
        let x : one (q n) ≡ one (p n) = ap one (h n (omega arith) (λ x. e (sym x))) in
        omega (arith, c, x)

-- one of the sources of w after another
pub plus-bit : (n on w left i : ℕ) {next : ℕ} → i < 32 → bit w i ≡ true → bit left i ≡ true → next ≡ with_bit left i false
    → capped (plus n on (without w left) + one (bit on i)) ≡ plus n on (without w next)
plus-bit n on w left i {next} l y b e =
    capped-twice (n + count_below 32 p) (one (bit on i)) ∙ ap capped (let c = count-one 32 p q i l here there in let d : one (q i) ≡ one (bit on i) = ap one new in omega (arith, c, d))
  where
    p : ℕ → Bool
    p = bit (both on (without w left))

    q : ℕ → Bool
    q = bit (both on (without w next))

    at : (v k : ℕ) → k < 32 → bit (both on (without w v)) k ≡ (bit on k && (bit w k && not (bit v k)))
    at v k m = bit-both on (without w v) k m ∙ ap (λ (x : Bool). bit on k && x) (bit-without w v k m)

    here : p i ≡ false
    here = at left i l ∙ ap₂ (λ (x y : Bool). bit on i && (x && not y)) y b ∙ and-false (bit on i)

    new : q i ≡ bit on i
    new = at next i l ∙ ap₂ (λ (x y : Bool). bit on i && (x && not y)) y (ap (λ (v : ℕ). bit v i) e ∙ hop_here left i l) ∙ and-true (bit on i)

    there : (k : ℕ) → k < 32 → (k ≡ i → ⊥) → q k ≡ p k
    there k m d = at next k m ∙ ap (λ (x : Bool). bit on k && (bit w k && not x)) (ap (λ (v : ℕ). bit v k) e ∙ hop-other left i k m d) ∙ sym (at left k m)

pub plus-none_yet : (n on w : ℕ) → n ≤ 4294967295 → n ≡ plus n on (without w w)
plus-none_yet n on w l = sym (plus_none n on (without w w) l (shared-none on (without w w) (λ k m. ap (λ (x : Bool). bit on k && x) (bit-without w w k m ∙ off (bit w k)) ∙ and-false (bit on k))))
  where
    off : (x : Bool) → (x && not x) ≡ false
    off true = refl
    off false = refl

pub plus_last : (n on w left : ℕ) → left ≡ 0 → plus n on (without w left) ≡ plus n on w
plus_last n on w left z = ap (λ (c : ℕ). capped (n + c)) (count_same 32 (bit (both on (without w left))) (bit (both on w)) same)
  where
    all : (x y : Bool) → y ≡ false → (x && not y) ≡ x
    all true y e = rw e
    all false y e = refl

    same : (k : ℕ) → k < 32 → bit (both on (without w left)) k ≡ bit (both on w) k
    same k m =
        bit-both on (without w left) k m ∙ ap (λ (x : Bool). bit on k && x) (bit-without w left k m ∙ all (bit w k) (bit left k) (ap (λ (v : ℕ). bit v k) z ∙ bit-none k))
        ∙ sym (bit-both on w k m)

-- ---- of the function

pub row_from : (k : ℕ) (was is : Bool) (n : ℕ) (m : Marks) (t : Aic) (row : List ℕ) {f g : Figures} {w : ℕ} {b : Bound} {r : List ℕ} → f ≡ figures_in was row → w ≡ pick is 2 0
    → b ≡ bound_by k w n f.bound m t → g ≡ figures_with n f b → r ≡ row_of g → r ≡ row_after k was is n m t row
unfolding row_after
row_from k was is n m t row {f} {g} {w} ef ew eb eg er =
    er ∙ ap row_of (eg ∙ ap (λ (v : Bound). figures_with n f v) eb ∙ ap (λ (v : ℕ). figures_with n f (bound_by k v n f.bound m t)) ew
    ∙ ap (λ (v : Figures). figures_with n v (bound_by k (pick is 2 0) n v.bound m t)) ef)
