-- What is said of what is remembered and of the inputs chosen, exactly: texts tell their numbers, and texts for different things are different.
use Prim.Native.Nat.{ℕ, zero, suc, ◌+◌, ◌-◌, ◌*◌, ◌%◌, ◌<◌, ◌≤◌}
use mathlib.Core.Path.{◌≡◌, refl, sym, ap, ◌∙◌}
use mathlib.Core.Bool.{Bool, true, false, ◌&&◌}
use mathlib.Core.List.{List, [], ◌++◌}
use mathlib.Core.Logic.{◌↔◌, ◌≢◌, ◌⊎◌, inl, inr}
use native.Mathlib.Omega.{arith}
use native.Mathlib.Decide.{ℕ_discrete}
use lib.Dec.{eqb, ltb}
use lib.ListN.{get_or}
use borrow.Author.Tests.{eq-eqb, ne_eqb, eqb-true}
use Rattle.words.specs.Choice.{pick}
use Rattle.words.specs.Counting.{all_below}
use Rattle.words.proofs.ChoiceLaws.{pick_true, pick-false}
use Rattle.words.proofs.TruthLaws.{and_left, and_right, and_both, told, clash}
use Rattle.words.proofs.Promises.{kept as words}
use Rattle.text.specs.Text.{decimal_of}
use Rattle.text.specs.Phrases.{bytes, counted}
use Rattle.aic_record.specs.declared.Seen.{Seen}
use Rattle.aintc_record.specs.declared.Chosen.{Chosen}
use Rattle.deeds.specs.Deeds.{same_seen, seen_words, chosen_words, choice_words}
use Rattle.deeds.specs.Promises.{ChoiceTold}

-- ---- the number that a text has from a place on

unfoldable pub number_at : ℕ → ℕ → ℕ → List ℕ → ℕ
number_at zero n at t = n
number_at (suc d) n at t =
    pick (ltb (get_or t at 0) 48) n
    (pick (ltb 57 (get_or t at 0)) n
    (number_at d (n * 10 + (get_or t at 0 - 48)) (at + 1) t))

-- texts that tell the numbers below m tell them apart
pub tells_apart : (m at : ℕ) (f : ℕ → List ℕ) → all_below m (λ k. eqb (number_at 3 0 at (f k)) k) ≡ true → (i j : ℕ) → i < m → j < m → f i ≡ f j → i ≡ j
tells_apart m at f h i j k l e = sym (back i k) ∙ ap (number_at 3 0 at) e ∙ back j l
  where
    back : (n : ℕ) → n < m → number_at 3 0 at (f n) ≡ n
    back n l = eqb-true _ _ ((words.all_exactly m (λ k. eqb (number_at 3 0 at (f k)) k)).0 h n l)

-- ---- what is remembered

remembered : (n m : ℕ) → n < 32 → m < 32 → counted (bytes "; remembers source ") n ≡ counted (bytes "; remembers source ") m → n ≡ m
unfolding all_below number_at counted decimal_of bytes pick
remembered = tells_apart 32 19 (counted (bytes "; remembers source ")) refl

module _ (a b : Seen) where
  alike : same_seen a b ≡ true → a ≡ b
  unfolding same_seen
  alike e =
      let q = and_left (eqb a.what b.what && eqb a.source b.source && eqb a.level b.level) (eqb a.vector b.vector) e in
      let p = and_left (eqb a.what b.what && eqb a.source b.source) (eqb a.level b.level) q in
      ap (λ (n : ℕ). record { what = n; source = a.source; level = a.level; vector = a.vector }) (eqb-true _ _ (and_left (eqb a.what b.what) (eqb a.source b.source) p))
      ∙ ap (λ (n : ℕ). record { what = b.what; source = n; level = a.level; vector = a.vector }) (eqb-true _ _ (and_right (eqb a.what b.what) (eqb a.source b.source) p))
      ∙ ap (λ (n : ℕ). record { what = b.what; source = b.source; level = n; vector = a.vector }) (eqb-true _ _ (and_right (eqb a.what b.what && eqb a.source b.source) (eqb a.level b.level) q))
      ∙ ap (λ (n : ℕ). record { what = b.what; source = b.source; level = b.level; vector = n }) (eqb-true _ _ (and_right (eqb a.what b.what && eqb a.source b.source && eqb a.level b.level) (eqb a.vector b.vector) e))

  differ : same_seen a b ≡ false → a ≢ b
  unfolding same_seen
  differ f e = clash (sym (ap (λ (z : Seen). same_seen a z) e) ∙ itself) f
    where
      itself : same_seen a a ≡ true
      itself = and_both (and_both (and_both (eq-eqb a.what a.what refl) (eq-eqb a.source a.source refl)) (eq-eqb a.level a.level refl)) (eq-eqb a.vector a.vector refl)

  changed : a ≢ b → same_seen a b ≡ false
  changed n = go (told (same_seen a b))
    where
      go : (same_seen a b ≡ true) ⊎ (same_seen a b ≡ false) → same_seen a b ≡ false
      go (inl e) = absurd (n (alike e))
      go (inr e) = e

  -- the words by what there is: the same, nothing, a source, or that there was none
  as-nothing : same_seen a b ≡ false → b.what ≡ 0 → seen_words a b ≡ bytes "; forgets"
  unfolding seen_words
  as-nothing f e = sym (pick_true _ (eq-eqb b.what 0 e) ∙ pick-false _ f)

  as_source : same_seen a b ≡ false → b.what ≡ 1 → seen_words a b ≡ counted (bytes "; remembers source ") (b.source % 32)
  unfolding seen_words
  as_source f e = sym (pick_true _ (eq-eqb b.what 1 e) ∙ pick-false _ (ne_eqb b.what 0 (λ z. omega (arith, z, e))) ∙ pick-false _ f)

  as_none : same_seen a b ≡ false → b.what ≢ 0 → b.what ≢ 1 → seen_words a b ≡ bytes "; remembers no source"
  unfolding seen_words
  as_none f n m = sym (pick-false _ (ne_eqb b.what 1 m) ∙ pick-false _ (ne_eqb b.what 0 n) ∙ pick-false _ f)

  silent : same_seen a b ≡ true → seen_words a b ≡ []
  unfolding seen_words
  silent e = sym (pick_true _ e)

  pub remembers-told : (i : ℕ) → b.source < 32 → i < 32
      → (seen_words a b ≡ counted (bytes "; remembers source ") i) ↔ ((a ≢ b) × (b.what ≡ 1) × (b.source ≡ i))
  unfolding counted bytes
  remembers-told i l k = (go (told (same_seen a b)) (ℕ_discrete b.what 0) (ℕ_discrete b.what 1), λ p. as_source (changed p.0) p.1 ∙ ap (counted (bytes "; remembers source ")) (small ∙ p.2))
    where
      small : b.source % 32 ≡ b.source
      small = omega (arith, l)

      go : (same_seen a b ≡ true) ⊎ (same_seen a b ≡ false) → Dec (b.what ≡ 0) → Dec (b.what ≡ 1) → seen_words a b ≡ counted (bytes "; remembers source ") i
          → (a ≢ b) × (b.what ≡ 1) × (b.source ≡ i)
      go (inl e) y z w = let q : ◌≡◌ {A = ℕ} 0 114 = ap (λ (t : List ℕ). get_or t 2 0) (sym (silent e) ∙ w) in absurd (omega (arith, q))
      go (inr f) (yes y) z w = let q : ◌≡◌ {A = ℕ} 102 114 = ap (λ (t : List ℕ). get_or t 2 0) (sym (as-nothing f y) ∙ w) in absurd (omega (arith, q))
      go (inr f) (no y) (yes z) w = (differ f, z, sym small ∙ remembered (b.source % 32) i (omega (arith, l)) k (sym (as_source f z) ∙ w))
      go (inr f) (no y) (no z) w = let q : ◌≡◌ {A = ℕ} 110 115 = ap (λ (t : List ℕ). get_or t 12 0) (sym (as_none f y z) ∙ w) in absurd (omega (arith, q))

  pub none_told : b.what ≤ 2 → (seen_words a b ≡ bytes "; remembers no source") ↔ ((a ≢ b) × (b.what ≡ 2))
  unfolding counted bytes
  none_told h = (go (told (same_seen a b)) (ℕ_discrete b.what 0) (ℕ_discrete b.what 1), λ p. as_none (changed p.0) (λ z. omega (arith, z, p.1)) (λ z. omega (arith, z, p.1)))
    where
      go : (same_seen a b ≡ true) ⊎ (same_seen a b ≡ false) → Dec (b.what ≡ 0) → Dec (b.what ≡ 1) → seen_words a b ≡ bytes "; remembers no source" → (a ≢ b) × (b.what ≡ 2)
      go (inl e) y z w = let q : ◌≡◌ {A = ℕ} 0 114 = ap (λ (t : List ℕ). get_or t 2 0) (sym (silent e) ∙ w) in absurd (omega (arith, q))
      go (inr f) (yes y) z w = let q : ◌≡◌ {A = ℕ} 102 114 = ap (λ (t : List ℕ). get_or t 2 0) (sym (as-nothing f y) ∙ w) in absurd (omega (arith, q))
      go (inr f) (no y) (yes z) w = let q : ◌≡◌ {A = ℕ} 115 110 = ap (λ (t : List ℕ). get_or t 12 0) (sym (as_source f z) ∙ w) in absurd (omega (arith, q))
      go (inr f) (no y) (no z) w = (differ f, omega (arith, h, y, z))

  pub forgets-told : (seen_words a b ≡ bytes "; forgets") ↔ ((a ≢ b) × (b.what ≡ 0))
  unfolding counted bytes
  forgets-told = (go (told (same_seen a b)) (ℕ_discrete b.what 0) (ℕ_discrete b.what 1), λ p. as-nothing (changed p.0) p.1)
    where
      go : (same_seen a b ≡ true) ⊎ (same_seen a b ≡ false) → Dec (b.what ≡ 0) → Dec (b.what ≡ 1) → seen_words a b ≡ bytes "; forgets" → (a ≢ b) × (b.what ≡ 0)
      go (inl e) y z w = let q : ◌≡◌ {A = ℕ} 0 102 = ap (λ (t : List ℕ). get_or t 2 0) (sym (silent e) ∙ w) in absurd (omega (arith, q))
      go (inr f) (yes y) z w = (differ f, y)
      go (inr f) (no y) (yes z) w = let q : ◌≡◌ {A = ℕ} 114 102 = ap (λ (t : List ℕ). get_or t 2 0) (sym (as_source f z) ∙ w) in absurd (omega (arith, q))
      go (inr f) (no y) (no z) w = let q : ◌≡◌ {A = ℕ} 114 102 = ap (λ (t : List ℕ). get_or t 2 0) (sym (as_none f y z) ∙ w) in absurd (omega (arith, q))

-- ---- inputs chosen

-- what a choice says, if the text of it tells the input, and no such text is that of a free output
module _ (w f : List ℕ) (a b : Chosen) (n : ℕ) (apart : (i j : ℕ) → i < 128 → j < 128 → counted (bytes "; chooses input ") i ++ w ≡ counted (bytes "; chooses input ") j ++ w → i ≡ j)
    (frees : (i : ℕ) → counted (bytes "; chooses input ") i ++ w ≢ f) (some : f ≢ []) (l : b.number < 128) (k : n < 128) where
  abbrev same : Bool
  same = a.active && eqb a.number b.number

  chosen : b.active ≡ true → same ≡ false → choice_words w f a b ≡ counted (bytes "; chooses input ") b.number ++ w
  unfolding choice_words chosen_words
  chosen e g = sym (pick-false _ g ∙ pick_true _ e) ∙ ap (λ (m : ℕ). counted (bytes "; chooses input ") m ++ w) (omega (arith, l))

  kept : b.active ≡ true → same ≡ true → choice_words w f a b ≡ []
  unfolding choice_words chosen_words
  kept e g = sym (pick_true _ g ∙ pick_true _ e)

  freed : b.active ≡ false → a.active ≡ true → choice_words w f a b ≡ f
  unfolding choice_words
  freed e g = sym (pick_true _ g ∙ pick-false _ e)

  idle : b.active ≡ false → a.active ≡ false → choice_words w f a b ≡ []
  unfolding choice_words
  idle e g = sym (pick-false _ g ∙ pick-false _ e)

  said : (m : ℕ) → counted (bytes "; chooses input ") m ++ w ≢ []
  unfolding counted bytes
  said m e = let q : ◌≡◌ {A = ℕ} 59 0 = ap (λ (t : List ℕ). get_or t 0 0) e in absurd (omega (arith, q))

  new : (a.active ≡ false) ⊎ (a.number ≢ n) → b.number ≡ n → same ≡ false
  new (inl e) z = ap (λ (t : Bool). t && eqb a.number b.number) e
  new (inr e) z = ap (λ (t : Bool). a.active && t) (ne_eqb a.number b.number (λ y. e (y ∙ z))) ∙ off a.active
    where
      off : (t : Bool) → (t && false) ≡ false
      off true = refl
      off false = refl

  old : same ≡ false → b.number ≡ n → (a.active ≡ false) ⊎ (a.number ≢ n)
  old e z = go (told a.active)
    where
      go : (a.active ≡ true) ⊎ (a.active ≡ false) → (a.active ≡ false) ⊎ (a.number ≢ n)
      go (inl t) = inr (λ y. clash (and_both t (eq-eqb a.number b.number (y ∙ sym z))) e)
      go (inr t) = inl t

  choice-told : ChoiceTold w f a b n
  choice-told = ((there (told b.active) (told same) (told a.active), λ p. chosen p.0 (new p.2 p.1) ∙ ap (λ (m : ℕ). counted (bytes "; chooses input ") m ++ w) p.1), (loose (told b.active) (told same) (told a.active), λ p. freed p.1 p.0))
    where
      there : (b.active ≡ true) ⊎ (b.active ≡ false) → (same ≡ true) ⊎ (same ≡ false) → (a.active ≡ true) ⊎ (a.active ≡ false)
          → choice_words w f a b ≡ counted (bytes "; chooses input ") n ++ w → (b.active ≡ true) × (b.number ≡ n) × ((a.active ≡ false) ⊎ (a.number ≢ n))
      there (inl e) (inl g) z q = absurd (said n (sym q ∙ kept e g))
      there (inl e) (inr g) z q = let m = apart b.number n l k (sym (chosen e g) ∙ q) in (e, m, old g m)
      there (inr e) g (inl z) q = absurd (frees n (sym q ∙ freed e z))
      there (inr e) g (inr z) q = absurd (said n (sym q ∙ idle e z))

      loose : (b.active ≡ true) ⊎ (b.active ≡ false) → (same ≡ true) ⊎ (same ≡ false) → (a.active ≡ true) ⊎ (a.active ≡ false)
          → choice_words w f a b ≡ f → (a.active ≡ true) × (b.active ≡ false)
      loose (inl e) (inl g) z q = absurd (some (sym q ∙ kept e g))
      loose (inl e) (inr g) z q = absurd (frees b.number (sym (chosen e g) ∙ q))
      loose (inr e) g (inl z) q = (z, e)
      loose (inr e) g (inr z) q = absurd (some (sym q ∙ idle e z))

irq_apart : (i j : ℕ) → i < 128 → j < 128 → counted (bytes "; chooses input ") i ++ bytes " for IRQ" ≡ counted (bytes "; chooses input ") j ++ bytes " for IRQ" → i ≡ j
unfolding all_below number_at counted decimal_of bytes pick
irq_apart = tells_apart 128 16 (λ k. counted (bytes "; chooses input ") k ++ bytes " for IRQ") refl

fiq_apart : (i j : ℕ) → i < 128 → j < 128 → counted (bytes "; chooses input ") i ++ bytes " for FIQ" ≡ counted (bytes "; chooses input ") j ++ bytes " for FIQ" → i ≡ j
unfolding all_below number_at counted decimal_of bytes pick
fiq_apart = tells_apart 128 16 (λ k. counted (bytes "; chooses input ") k ++ bytes " for FIQ") refl

pub irq-told : (a b : Chosen) (n : ℕ) → b.number < 128 → n < 128 → ChoiceTold (bytes " for IRQ") (bytes "; frees IRQ") a b n
unfolding counted bytes
irq-told a b n l k =
    choice-told (bytes " for IRQ") (bytes "; frees IRQ") a b n irq_apart
    (λ i e. let q : ◌≡◌ {A = ℕ} 99 102 = ap (λ (t : List ℕ). get_or t 2 0) e in absurd (omega (arith, q)))
    (λ e. let q : ◌≡◌ {A = ℕ} 59 0 = ap (λ (t : List ℕ). get_or t 0 0) e in absurd (omega (arith, q))) l k

pub fiq-told : (a b : Chosen) (n : ℕ) → b.number < 128 → n < 128 → ChoiceTold (bytes " for FIQ") (bytes "; frees FIQ") a b n
unfolding counted bytes
fiq-told a b n l k =
    choice-told (bytes " for FIQ") (bytes "; frees FIQ") a b n fiq_apart
    (λ i e. let q : ◌≡◌ {A = ℕ} 99 102 = ap (λ (t : List ℕ). get_or t 2 0) e in absurd (omega (arith, q)))
    (λ e. let q : ◌≡◌ {A = ℕ} 59 0 = ap (λ (t : List ℕ). get_or t 0 0) e in absurd (omega (arith, q))) l k
