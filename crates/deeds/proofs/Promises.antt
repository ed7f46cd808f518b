-- The promises of the words for what a step did, kept.
use Prim.Native.Nat.{ℕ, zero, suc, ◌+◌, ◌-◌, ◌<◌}
use mathlib.Core.Path.{◌≡◌, refl, sym, ap, ap₂, ◌∙◌}
use mathlib.Core.Bool.{Bool, true, false, not, ◌&&◌}
use mathlib.Core.List.{List, [], ◌∷◌, ◌++◌, append-nil}
use mathlib.Core.Logic.{◌↔◌, ◌≢◌}
use native.Mathlib.Omega.{arith}
use native.Mathlib.Decide.{dec_lt, ℕ_discrete}
use lib.Dec.{eqb}
use lib.ListN.{get_or}
use borrow.Author.Tests.{eq-eqb, ne_eqb, not-true}
use Rattle.words.specs.Counting.{one, count_below, lowest_below}
use Rattle.words.proofs.ChoiceLaws.{pick_true, pick-false}
use Rattle.words.proofs.CountingLaws.{count_same, lowest_found}
use Rattle.words.proofs.TruthLaws.{and_left, and_right, and_both, not-holds}
use Rattle.text.specs.Phrases.{bytes, counted}
use Rattle.cic_record.specs.declared.Cic.{Cic}
use Rattle.cic_record.specs.Kinds.{host_number}
use Rattle.cic_registers.specs.Hosts.{asserted}
use Rattle.aintc_record.specs.declared.Chosen.{Chosen}
use Rattle.machine.specs.declared.record.Machine.{Machine}
use Rattle.machine.specs.Shown.{shown}
use Rattle.deeds.specs.Deeds.{gains, further_words, host_words, gain_words, cic_deeds, chosen_words, choice_words, aintc_deeds, turn_words, side_words}
use Rattle.deeds.specs.Promises.{Promises}
use Rattle.deeds.proofs.EntryLaws.{starts, marks, closes, closes-mark, nothing_open, same_seen_lem, forgets, remembers, remembers-none}
use Rattle.deeds.proofs.SaidLaws.{remembers-told, none_told, forgets-told, irq-told, fiq-told}
use Rattle.deeds.proofs.ToldLaws.{starts-told, marks-told, closes-told, closes-mark-told, nothing-told}

-- ---- the CIC

no-count : (n : ℕ) → count_below n (λ _. false) ≡ 0
unfolding count_below
no-count zero = refl
no-count (suc n) = ap (λ (k : ℕ). k + 0) (no-count n)

-- one that passes is counted
count-hit : (n : ℕ) (p : ℕ → Bool) (h : ℕ) → h < n → p h ≡ true → 0 < count_below n p
unfolding count_below
count-hit zero p h l t = absurd (omega (arith, l))
count-hit (suc n) p h l t = go (ℕ_discrete h n) (λ k. count-hit n p h k t)
  where
    go : Dec (h ≡ n) → (h < n → 0 < count_below n p) → 0 < count_below n p + one (p n)
    go (yes e) f = let q : one (p n) ≡ 1 = ap (λ (k : ℕ). one (p k)) (sym e) ∙ ap one t in omega (arith, q)
    go (no e) f = omega (arith, f (omega (arith, l, e)))

gained : (c d : Cic) (h : ℕ) → (gains c d h ≡ true) ↔ ((asserted d (host_number h) ≡ true) × (asserted c (host_number h) ≡ false))
unfolding gains
gained c d h = (
  λ e. (and_left (asserted d (host_number h)) (not (asserted c (host_number h))) e, not-true (asserted c (host_number h)) (and_right (asserted d (host_number h)) (not (asserted c (host_number h))) e)),
  λ p. and_both p.0 (ap not p.1),
)

module _ (what : List ℕ) (c d : Cic) where
  none : count_below 256 (gains c d) ≡ 0 → gain_words what c d ≡ []
  unfolding gain_words host_words
  none e = sym (pick_true _ (eq-eqb (count_below 256 (gains c d)) 0 e))

  single : count_below 256 (gains c d) ≡ 1 → gain_words what c d ≡ counted what (lowest_below 256 (gains c d)) ++ []
  unfolding gain_words host_words further_words
  single e =
      sym (pick-false _ (ne_eqb (count_below 256 (gains c d)) 0 (λ z. omega (arith, z, e))))
      ∙ ap (λ (l : List ℕ). counted what (lowest_below 256 (gains c d)) ++ l) (sym (pick_true _ (eq-eqb (count_below 256 (gains c d)) 1 e)))

  several : 1 < count_below 256 (gains c d)
      → gain_words what c d ≡ counted what (lowest_below 256 (gains c d)) ++ (counted (bytes " and ") (count_below 256 (gains c d) - 1) ++ bytes " more")
  unfolding gain_words host_words further_words
  several h =
      sym (pick-false _ (ne_eqb (count_below 256 (gains c d)) 0 (λ z. omega (arith, z, h))))
      ∙ ap (λ (l : List ℕ). counted what (lowest_below 256 (gains c d)) ++ l) (sym (pick-false _ (ne_eqb (count_below 256 (gains c d)) 1 (λ z. omega (arith, z, h)))))

module _ (c d : Cic) where
  count-some : (n : ℕ) → count_below n (gains c d) ≡ 0 → (h : ℕ) → h < n → gains c d h ≡ false
  count-some n e h l = not-holds (gains c d h) (λ t. omega (arith, e, count-hit n (gains c d) h l t))

  -- words that begin with a semicolon are told exactly if a host is gained
  no_host : (rest : List ℕ) → (gain_words (59 ∷ rest) c d ≡ []) ↔ ((h : ℕ) → h < 256 → gains c d h ≡ false)
  unfolding gain_words host_words counted
  no_host rest = (
    λ e. count-some 256 (go (ℕ_discrete (count_below 256 (gains c d)) 0) e),
    λ f. none (59 ∷ rest) c d (count_same 256 (gains c d) (λ _. false) f ∙ no-count 256),
  )
    where
      go : Dec (count_below 256 (gains c d) ≡ 0) → gain_words (59 ∷ rest) c d ≡ [] → count_below 256 (gains c d) ≡ 0
      go (yes z) e = z
      go (no z) e = let y : ◌≡◌ {A = ℕ} 59 0 = ap (λ (l : List ℕ). get_or l 0 0) (pick-false _ (ne_eqb (count_below 256 (gains c d)) 0 z) ∙ e) in absurd (omega (arith, y))

  none-gained : (gain_words (bytes "; asserts host ") c d ≡ []) ↔ ((h : ℕ) → h < 256 → gains c d h ≡ false)
  unfolding bytes
  none-gained = no_host _

  none-ended : (gain_words (bytes "; ends host ") c d ≡ []) ↔ ((h : ℕ) → h < 256 → gains c d h ≡ false)
  unfolding bytes
  none-ended = no_host _

  lowest-gained : count_below 256 (gains c d) ≢ 0 → (gains c d (lowest_below 256 (gains c d)) ≡ true) × ((h : ℕ) → h < lowest_below 256 (gains c d) → gains c d h ≡ false)
  lowest-gained n = ((lowest_found 256 (gains c d)).found (within (dec_lt (lowest_below 256 (gains c d)) 256)), (lowest_found 256 (gains c d)).before)
    where
      within : Dec (lowest_below 256 (gains c d) < 256) → lowest_below 256 (gains c d) < 256
      within (yes l) = l
      within (no l) = absurd (n (count_same 256 (gains c d) (λ _. false) (λ h k. (lowest_found 256 (gains c d)).before h (omega (arith, l, k))) ∙ no-count 256))

hosts : (c d : Cic) → cic_deeds c d ≡ gain_words (bytes "; asserts host ") c d ++ gain_words (bytes "; ends host ") d c
unfolding cic_deeds
hosts c d = refl

-- ---- the AINTC

inputs : (i f j g : Chosen) → aintc_deeds i f j g ≡ choice_words (bytes " for IRQ") (bytes "; frees IRQ") i j ++ choice_words (bytes " for FIQ") (bytes "; frees FIQ") f g
unfolding aintc_deeds
inputs i f j g = refl

module _ (w f : List ℕ) (a b : Chosen) where
  told_choice : b.active ≡ true → (a.active && eqb a.number b.number) ≡ false → b.number < 128
      → choice_words w f a b ≡ counted (bytes "; chooses input ") b.number ++ w
  unfolding choice_words chosen_words
  told_choice e g l = sym (pick-false _ g ∙ pick_true _ e) ∙ ap (λ (n : ℕ). counted (bytes "; chooses input ") n ++ w) (omega (arith, l))

  chooses : b.active ≡ true → a.active ≡ false → b.number < 128 → choice_words w f a b ≡ counted (bytes "; chooses input ") b.number ++ w
  chooses e g l = told_choice e (ap (λ (t : Bool). t && eqb a.number b.number) g) l

  chooses-other : b.active ≡ true → a.number ≢ b.number → b.number < 128 → choice_words w f a b ≡ counted (bytes "; chooses input ") b.number ++ w
  chooses-other e g l = told_choice e (ap (λ (t : Bool). a.active && t) (ne_eqb a.number b.number g) ∙ and-off a.active) l
    where
      and-off : (t : Bool) → (t && false) ≡ false
      and-off true = refl
      and-off false = refl

  frees : b.active ≡ false → a.active ≡ true → choice_words w f a b ≡ f
  unfolding choice_words
  frees e g = sym (pick_true _ g ∙ pick-false _ e)

  keeps : b.active ≡ true → a.active ≡ true → a.number ≡ b.number → choice_words w f a b ≡ []
  unfolding choice_words chosen_words
  keeps e g h = sym (pick_true _ (and_both g (eq-eqb a.number b.number h)) ∙ pick_true _ e)

  stays : b.active ≡ false → a.active ≡ false → choice_words w f a b ≡ []
  unfolding choice_words
  stays e g = sym (pick-false _ g ∙ pick-false _ e)

-- ---- outputs

module _ (w v : List ℕ) (m n : ℕ) where
  turn-none : m ≡ n → turn_words w v m n ≡ []
  unfolding turn_words
  turn-none e = sym (pick_true _ (eq-eqb m n e))

  turn_on : m ≡ 0 → n ≡ 1 → turn_words w v m n ≡ w
  unfolding turn_words
  turn_on e f = sym (pick_true _ (eq-eqb n 1 f) ∙ pick-false _ (ne_eqb m n (λ z. omega (arith, z, e, f))))

  turn-off : m ≡ 1 → n ≡ 0 → turn_words w v m n ≡ v
  unfolding turn_words
  turn-off e f = sym (pick-false _ (ne_eqb n 1 (λ z. omega (arith, z, f))) ∙ pick-false _ (ne_eqb m n (λ z. omega (arith, z, e, f))))

module _ (m a : Machine) where
  both : {l r : List ℕ} → turn_words (bytes "; IRQ active") (bytes "; IRQ inactive") (shown m).first (shown a).first ≡ l
      → turn_words (bytes "; FIQ active") (bytes "; FIQ inactive") (shown m).second (shown a).second ≡ r → side_words m a ≡ l ++ r
  unfolding side_words
  both e f = ap₂ (λ (x y : List ℕ). x ++ y) e f

  unchanged : (shown m).first ≡ (shown a).first → (shown m).second ≡ (shown a).second → side_words m a ≡ []
  unchanged e f = both (turn-none _ _ _ _ e) (turn-none _ _ _ _ f)

  irq-active : (shown m).first ≡ 0 → (shown a).first ≡ 1 → (shown m).second ≡ (shown a).second → side_words m a ≡ bytes "; IRQ active"
  irq-active e f g = both (turn_on _ _ _ _ e f) (turn-none _ _ _ _ g) ∙ append-nil _

  irq_inactive : (shown m).first ≡ 1 → (shown a).first ≡ 0 → (shown m).second ≡ (shown a).second → side_words m a ≡ bytes "; IRQ inactive"
  irq_inactive e f g = both (turn-off _ _ _ _ e f) (turn-none _ _ _ _ g) ∙ append-nil _

  fiq-active : (shown m).first ≡ (shown a).first → (shown m).second ≡ 0 → (shown a).second ≡ 1 → side_words m a ≡ bytes "; FIQ active"
  fiq-active g e f = both (turn-none _ _ _ _ g) (turn_on _ _ _ _ e f)

  fiq_inactive : (shown m).first ≡ (shown a).first → (shown m).second ≡ 1 → (shown a).second ≡ 0 → side_words m a ≡ bytes "; FIQ inactive"
  fiq_inactive g e f = both (turn-none _ _ _ _ g) (turn-off _ _ _ _ e f)

pub kept : Promises
kept =
    record {
      starts_told = starts-told;
      marks_told = marks-told;
      closes_told = closes-told;
      closes_mark_told = closes-mark-told;
      nothing_told = nothing-told;
      remembers_told = remembers-told;
      none_told = none_told;
      forgets_told = forgets-told;
      irq_told = irq-told;
      fiq_told = fiq-told;
      none_gained = none-gained;
      none_ended = none-ended;
      lowest_gained = lowest-gained;
      starts = starts;
      marks = marks;
      closes = closes;
      closes_mark = closes-mark;
      nothing_open = nothing_open;
      same_seen = same_seen_lem;
      forgets = forgets;
      remembers = remembers;
      remembers_none = remembers-none;
      gained = gained;
      hosts = hosts;
      inputs = inputs;
      none = none;
      single = single;
      several = several;
      chooses = chooses;
      chooses_other = chooses-other;
      frees = frees;
      keeps = keeps;
      stays = stays;
      unchanged = unchanged;
      irq_active = irq-active;
      irq_inactive = irq_inactive;
      fiq_active = fiq-active;
      fiq_inactive = fiq_inactive;
    }
