-- What is answered where the refusal number is known, and when the checks give which.
use Prim.Native.Nat.{ℕ, ◌<◌, ◌≤◌}
use mathlib.Core.Path.{◌≡◌, refl, sym, ap, ◌∙◌}
use mathlib.Core.Bool.{Bool, true, false, ◌&&◌, true≢false, false≢true}
use mathlib.Core.Logic.{◌↔◌, ◌≢◌, ◌⊎◌, inl, inr, ⊎_elim}
use native.Mathlib.Decide.{dec_lt, dec_le}
use native.Mathlib.Omega.{arith}
use borrow.Author.Tests.{eq-eqb, ne_eqb, lt-ltb, le-ltb, ltb-true, le-leb, lt-leb, eqb-true}
use lib.Dec.{eqb, ltb, leb}
use Rattle.words.specs.Choice.{pick}
use Rattle.words.proofs.ChoiceLaws.{pick_true, pick-false, pick_cases}
use Rattle.board_wires.specs.declared.Board.{Board}
use Rattle.board.specs.Sound.{sound}
use Rattle.board.proofs.SoundLaws.{sound-parts}
use Rattle.board.specs.declared.record.Answer.{Answer}
use Rattle.board.specs.declared.Reply.{Reply}
use Rattle.board.specs.Record.{refused}
use Rattle.board.specs.Model.{unless_refused, replied, checked, is_there}

-- ---- answers

-- nothing is refused
pub carried : (b : Board) (n : ℕ) {a : Answer} → n ≡ 0 → a ≡ unless_refused b n a
unfolding unless_refused
carried b n e = pick_true _ (eq-eqb n 0 e)

-- something is
pub stopped : (b : Board) (n : ℕ) (a : Answer) → n ≢ 0 → refused b n ≡ unless_refused b n a
unfolding unless_refused
stopped b n a d = pick-false _ (ne_eqb n 0 d)

-- the code's number n is the definition's number m: what is carried out, and what is refused
pub taken : (b : Board) {n m : ℕ} {r a : Answer} → n ≡ m → n ≡ 0 → r ≡ a → r ≡ unless_refused b m a
taken b {m = m} e z h = h ∙ carried b m (sym e ∙ z)

pub left : (b : Board) {n m : ℕ} {r : Answer} (a : Answer) → n ≡ m → n ≢ 0 → r ≡ refused b n → r ≡ unless_refused b m a
left b {m = m} a e d h = h ∙ ap (refused b) e ∙ stopped b m a (λ z. d (e ∙ z))

-- what holds of the answer, where nothing is refused, and of the refusal holds in any case
pub either_way : (P : Answer → Type 0) (b : Board) (n : ℕ) (a : Answer) → (n ≡ 0 → P a) → P (refused b n) → P (unless_refused b n a)
unfolding unless_refused
either_way P b n a p q = pick_cases P (eqb n 0) (λ e. p (eqb-true n 0 e)) (λ _. q)

-- the number answered is the number of the refusal
pub number_is : (b : Board) (n : ℕ) (a : Answer) → a.refusal ≡ 0 → (unless_refused b n a).refusal ≡ n
number_is b n a e = either_way (λ (x : Answer). x.refusal ≡ n) b n a (λ z. e ∙ sym z) refl

-- what is refused is the refusal by its number
pub refused-is : (b : Board) (n : ℕ) (a : Answer) → a.refusal ≡ 0 → (unless_refused b n a).refusal ≢ 0
    → unless_refused b n a ≡ refused b (unless_refused b n a).refusal
refused-is b n a e d =
    let i = number_is b n a e in
    sym (stopped b n a (λ z. d (i ∙ z))) ∙ ap (refused b) (sym i)

-- what is not refused is its answer
pub done : (b : Board) (n : ℕ) (a : Answer) → a.refusal ≡ 0 → (unless_refused b n a).refusal ≡ 0 → (unless_refused b n a ≡ a) × (n ≡ 0)
done b n a e z =
    let i = sym (number_is b n a e) ∙ z in
    (sym (carried b n i), i)

pub reply_number : (n v : ℕ) → (replied n v).refusal ≡ n
unfolding replied
reply_number n v = pick_cases (λ (r : Reply). r.refusal ≡ n) (eqb n 0) (λ e. sym (eqb-true n 0 e)) (λ _. refl)

pub reply-refused : (n v : ℕ) → (replied n v).refusal ≢ 0 → (replied n v).value ≡ 0
unfolding replied
reply-refused n v d = ap (λ (r : Reply). r.value) (sym (pick-false _ (ne_eqb n 0 (λ z. d (reply_number n v ∙ z)))))

pub reply-done : (n v : ℕ) → n ≡ 0 → replied n v ≡ record { refusal = 0; value = v }
unfolding replied
reply-done n v z = sym (pick_true _ (eq-eqb n 0 z))

-- ---- tests

-- the test holds and P does not, or it fails and P holds
abbrev pub Told : Bool → Type 0 → Type 0
Told t P = ((t ≡ true) × (P → ⊥)) ⊎ ((t ≡ false) × P)

pub told-false : (t : Bool) (P : Type 0) → Told t P → (t ≡ false) ↔ P
told-false t P (inl h) = ((λ e. absurd (true≢false (sym h.0 ∙ e))), (λ p. absurd (h.1 p)))
told-false t P (inr h) = ((λ _. h.1), (λ _. h.0))

pub told-true : (t : Bool) (P : Type 0) → Told t P → (t ≡ true) ↔ (P → ⊥)
told-true t P (inl h) = ((λ _. h.1), (λ _. h.0))
told-true t P (inr h) = ((λ e. absurd (true≢false (sym e ∙ h.0))), (λ n. absurd (n h.1)))

pub told-both : (t u : Bool) (P Q : Type 0) → Told t P → Told u Q → Told (t && u) (P ⊎ Q)
told-both t u P Q (inl x) (inl y) = inl (rw (x.0, y.0), ⊎_elim x.1 y.1)
told-both t u P Q (inl x) (inr y) = inr (rw (x.0, y.0), inr y.1)
told-both t u P Q (inr x) h = inr (rw x.0, inl x.1)

pub told_lt : (m n : ℕ) → Told (ltb m n) (n ≤ m)
told_lt m n = go (dec_lt m n)
  where
    go : Dec (m < n) → Told (ltb m n) (n ≤ m)
    go (yes l) = inl (lt-ltb m n l, (λ k. omega arith))
    go (no l) = inr (le-ltb m n (omega arith), omega arith)

pub told_le : (m n : ℕ) → Told (leb m n) (n < m)
told_le m n = go (dec_le m n)
  where
    go : Dec (m ≤ n) → Told (leb m n) (n < m)
    go (yes l) = inl (le-leb m n l, (λ k. omega arith))
    go (no l) = inr (lt-leb m n (omega arith), omega arith)

pub told_there : (b : Board) (c : ℕ) → Told (is_there b c) (b.controllers ≤ c)
unfolding is_there
told_there b c = told_lt c b.controllers

pub is_there_lem : (b : Board) (c : ℕ) → c < b.controllers → is_there b c ≡ true
unfolding is_there
is_there_lem b c l = lt-ltb c b.controllers l

pub there-is : (b : Board) (c : ℕ) → is_there b c ≡ true → c < b.controllers
unfolding is_there
there-is b c e = ltb-true c b.controllers e

-- a controller of a sound board is one of the eight
pub there-below : (b : Board) (c : ℕ) → sound b ≡ true → is_there b c ≡ true → c < 8
there-below b c s e = omega (arith, there-is b c e, (sound-parts b s).counted)

-- ---- the checks

-- where no number is given, none of the checks failed
pub none-given : (b : Board) (within : Bool) (n : ℕ) → checked b within n ≡ 0 → (sound b ≡ true) × ((within ≡ true) × (n ≡ 0))
unfolding checked pick
none-given b within n = go (sound b) within
  where
    go : (s t : Bool) → pick s (pick t n 6) 12 ≡ 0 → (s ≡ true) × ((t ≡ true) × (n ≡ 0))
    go true true e = (refl, (refl, e))
    go true false e = absurd (omega arith)
    go false t e = absurd (omega arith)

-- where the first two let through, the number is what comes after them
pub through : (b : Board) (within : Bool) (n : ℕ) → sound b ≡ true → within ≡ true → checked b within n ≡ n
unfolding checked pick
through b within n s t = rw (s, t)

-- n is neither of the numbers that come before it
abbrev pub Later : Board → Bool → ℕ → Type 0
Later b t n = sound b ≡ true → t ≡ true → (n ≢ 12) × (n ≢ 6)

module _ (b : Board) (t : Bool) (n : ℕ) (later : Later b t n) where
  pub checks_twelve : (checked b t n ≡ 12) ↔ (sound b ≡ false)
  unfolding checked pick
  checks_twelve = go (sound b) t (λ s u. (later s u).0)
    where
      go : (s u : Bool) → (s ≡ true → u ≡ true → n ≢ 12) → (pick s (pick u n 6) 12 ≡ 12) ↔ (s ≡ false)
      go true true d = ((λ e. absurd (d refl refl e)), (λ e. absurd (true≢false e)))
      go true false d = ((λ e. absurd (omega arith)), (λ e. absurd (true≢false e)))
      go false u d = ((λ _. refl), (λ _. refl))

  pub checks_six : (P : Type 0) → Told t P → (checked b t n ≡ 6) ↔ ((sound b ≡ true) × P)
  unfolding checked pick
  checks_six P h = go (sound b) t (λ s u. (later s u).1) (told-false t P h)
    where
      go : (s u : Bool) → (s ≡ true → u ≡ true → n ≢ 6) → ((u ≡ false) ↔ P) → (pick s (pick u n 6) 12 ≡ 6) ↔ ((s ≡ true) × P)
      go true true d i = ((λ e. absurd (d refl refl e)), (λ p. absurd (true≢false (i.1 p.1))))
      go true false d i = ((λ _. (refl, i.0 refl)), (λ _. refl))
      go false u d i = ((λ e. absurd (omega arith)), (λ p. absurd (false≢true p.0)))

-- any other number
pub checks_else : (b : Board) (t : Bool) (n m : ℕ) (P Q : Type 0) → m ≢ 12 → m ≢ 6 → Told t P → (n ≡ m) ↔ Q → (checked b t n ≡ m) ↔ ((sound b ≡ true) × ((P → ⊥) × Q))
unfolding checked pick
checks_else b t n m P Q d f h j = go (sound b) t (told-true t P h)
  where
    go : (s u : Bool) → ((u ≡ true) ↔ (P → ⊥)) → (pick s (pick u n 6) 12 ≡ m) ↔ ((s ≡ true) × ((P → ⊥) × Q))
    go true true i = ((λ e. (refl, (i.0 refl, j.0 e))), (λ p. j.1 p.1.1))
    go true false i = ((λ e. absurd (f (sym e))), (λ p. absurd (false≢true (i.1 p.1.0))))
    go false u i = ((λ e. absurd (d (sym e))), (λ p. absurd (false≢true p.0)))
