-- The configuration: which numbers are within their limits, and what a start answers.
use Prim.Native.Nat.{ℕ, zero, suc, ◌<◌, ◌≤◌}
use mathlib.Core.Path.{◌≡◌, refl, sym, ap, ◌∙◌}
use mathlib.Core.Bool.{true, false}
use mathlib.Core.Logic.{◌↔◌, ◌≢◌, ◌⊎◌, inl, inr}
use native.Mathlib.Omega.{arith}
use native.Mathlib.Decide.{dec_le}
use borrow.Author.Tests.{ne_eqb, le-leb, leb-true}
use Rattle.words.specs.Choice.{pick}
use Rattle.words.proofs.ChoiceLaws.{pick_true, pick-false}
use Rattle.words.proofs.TruthLaws.{and_left, and_right, and_both, told, clash}
use Rattle.coreinterrupt.specs.declared.Begun.{Begun}
use Rattle.coreinterrupt.specs.Side.{idle}
use Rattle.coreinterrupt.specs.Model.{core_of, sound, within, all_within, start}
use Rattle.coreinterrupt.specs.Promises.{Limited}
use Rattle.coreinterrupt.proofs.SideLaws.{idle-sound}

pub limits : (v : ℕ)
    → ((within 0 v ≡ true) ↔ (v ≤ 8)) × ((within 1 v ≡ true) ↔ (v ≤ 32)) × ((within 2 v ≡ true) ↔ (v ≤ 1)) × ((within 3 v ≡ true) ↔ (v ≤ 1))
unfolding within pick
limits v =
    ((leb-true v 8, le-leb v 8), (leb-true v 32, le-leb v 32), (leb-true v 1, le-leb v 1), (leb-true v 1, le-leb v 1))

pub four_numbers : (nth v : ℕ) → 4 ≤ nth → within nth v ≡ false
unfolding within pick
four_numbers nth v l = simp (ne_eqb nth 0 (omega arith), ne_eqb nth 1 (omega arith), ne_eqb nth 2 (omega arith), ne_eqb nth 3 (omega arith))

pub configuration : (nth v : ℕ) → (within nth v ≡ true) ↔ Limited nth v
configuration nth v = (limited nth v, held)
  where
    limited : (n w : ℕ) → within n w ≡ true → Limited n w
    limited zero w e = inl (refl, (limits w).0.0 e)
    limited (suc zero) w e = inr (inl (refl, (limits w).1.0 e))
    limited (suc (suc zero)) w e = inr (inr (inl refl, (limits w).2.0 e))
    limited (suc (suc (suc zero))) w e = inr (inr (inr refl, (limits w).3.0 e))
    limited (suc (suc (suc (suc n)))) w e = clash e (four_numbers (suc (suc (suc (suc n)))) w (omega arith))

    held : Limited nth v → within nth v ≡ true
    held (inl (e, l)) = ap (λ (n : ℕ). within n v) e ∙ (limits v).0.1 l
    held (inr (inl (e, l))) = ap (λ (n : ℕ). within n v) e ∙ (limits v).1.1 l
    held (inr (inr (inl e, l))) = ap (λ (n : ℕ). within n v) e ∙ (limits v).2.1 l
    held (inr (inr (inr e, l))) = ap (λ (n : ℕ). within n v) e ∙ (limits v).3.1 l

-- one number beyond its limit
abbrev pub Beyond : ℕ → ℕ → ℕ → ℕ → Type 0
Beyond f i fl il = (8 < f) ⊎ ((32 < i) ⊎ ((1 < fl) ⊎ (1 < il)))

-- every number within its limit
pub record Within (f i fl il : ℕ) : Type 0 where
  pub fiqs : f ≤ 8
  pub irqs : i ≤ 32
  pub fiqlevel : fl ≤ 1
  pub irqlevel : il ≤ 1

inside : (f i fl il : ℕ) → all_within f i fl il ≡ true → Within f i fl il
unfolding all_within
inside f i fl il e =
    record {
      fiqs = (limits f).0.0 (search (and_left, and_right));
      irqs = (limits i).1.0 (search (and_left, and_right));
      fiqlevel = (limits fl).2.0 (search (and_left, and_right));
      irqlevel = (limits il).3.0 (search (and_left, and_right));
    }

all-inside : (f i fl il : ℕ) → Within f i fl il → all_within f i fl il ≡ true
unfolding all_within
all-inside f i fl il w =
    and_both (and_both (and_both ((limits f).0.1 w.fiqs) ((limits i).1.1 w.irqs)) ((limits fl).2.1 w.fiqlevel)) ((limits il).3.1 w.irqlevel)

sorted : (f i fl il : ℕ) → Within f i fl il ⊎ Beyond f i fl il
sorted f i fl il = go (dec_le f 8) (dec_le i 32) (dec_le fl 1) (dec_le il 1)
  where
    go : Dec (f ≤ 8) → Dec (i ≤ 32) → Dec (fl ≤ 1) → Dec (il ≤ 1) → Within f i fl il ⊎ Beyond f i fl il
    go (no a) b c d = inr (inl (omega arith))
    go (yes a) (no b) c d = inr (inr (inl (omega arith)))
    go (yes a) (yes b) (no c) d = inr (inr (inr (inl (omega arith))))
    go (yes a) (yes b) (yes c) (no d) = inr (inr (inr (inr (omega arith))))
    go (yes a) (yes b) (yes c) (yes d) = inl (record { fiqs = a; irqs = b; fiqlevel = c; irqlevel = d })

not-both : (f i fl il : ℕ) → Within f i fl il → Beyond f i fl il → ⊥
not-both f i fl il w (inl p) = omega (arith, w.fiqs)
not-both f i fl il w (inr (inl p)) = omega (arith, w.irqs)
not-both f i fl il w (inr (inr (inl p))) = omega (arith, w.fiqlevel)
not-both f i fl il w (inr (inr (inr p))) = omega (arith, w.irqlevel)

module _ (f i fl il : ℕ) where
  taken : all_within f i fl il ≡ true → start f i fl il ≡ record { refusal = 0; core = core_of (idle f fl) (idle i il) }
  unfolding start
  taken e = sym (pick_true _ e)

  zeros : all_within f i fl il ≡ false → start f i fl il ≡ record { refusal = 10; core = core_of (idle 0 0) (idle 0 0) }
  unfolding start
  zeros e = sym (pick-false _ e)

  pub start-refused : ((start f i fl il).refusal ≡ 10) ↔ Beyond f i fl il
  start-refused = go (sorted f i fl il) (told (all_within f i fl il))
    where
      go : Within f i fl il ⊎ Beyond f i fl il → (all_within f i fl il ≡ true) ⊎ (all_within f i fl il ≡ false)
          → ((start f i fl il).refusal ≡ 10) ↔ Beyond f i fl il
      go (inl w) t = (
        (λ e. absurd (let h = sym (ap (λ (b : Begun). b.refusal) (taken (all-inside f i fl il w))) ∙ e in omega arith)),
        (λ b. absurd (not-both f i fl il w b)),
      )
      go (inr b) (inl t) = absurd (not-both f i fl il (inside f i fl il t) b)
      go (inr b) (inr t) = ((λ _. b), (λ _. ap (λ (b : Begun). b.refusal) (zeros t)))

  pub start-zeros : (start f i fl il).refusal ≢ 0 → start f i fl il ≡ record { refusal = 10; core = core_of (idle 0 0) (idle 0 0) }
  start-zeros d = go (told (all_within f i fl il))
    where
      go : (all_within f i fl il ≡ true) ⊎ (all_within f i fl il ≡ false) → start f i fl il ≡ record { refusal = 10; core = core_of (idle 0 0) (idle 0 0) }
      go (inl t) = absurd (d (ap (λ (b : Begun). b.refusal) (taken t)))
      go (inr t) = zeros t

  pub start-taken : f ≤ 8 → i ≤ 32 → fl ≤ 1 → il ≤ 1 → start f i fl il ≡ record { refusal = 0; core = core_of (idle f fl) (idle i il) }
  start-taken a b c d = taken (all-inside f i fl il (record { fiqs = a; irqs = b; fiqlevel = c; irqlevel = d }))

  pub start-sound : sound (start f i fl il).core ≡ true
  unfolding sound
  start-sound = go (told (all_within f i fl il))
    where
      go : (all_within f i fl il ≡ true) ⊎ (all_within f i fl il ≡ false) → sound (start f i fl il).core ≡ true
      go (inl t) =
          let w = inside f i fl il t in
          ap (λ (b : Begun). sound b.core) (taken t) ∙ and_both (idle-sound 8 f fl w.fiqs w.fiqlevel) (idle-sound 32 i il w.irqs w.irqlevel)
      go (inr t) =
          ap (λ (b : Begun). sound b.core) (zeros t) ∙ and_both (idle-sound 8 0 0 (omega arith) (omega arith)) (idle-sound 32 0 0 (omega arith) (omega arith))
