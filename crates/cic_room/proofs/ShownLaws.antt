-- Which channels and hosts have any, and what is shown of the hosts, as the numbers change.
use mathlib.Core.Path.{◌≡◌, refl, sym, ap, ap₂, ◌∙◌}
use mathlib.Core.Bool.{Bool, true, false, ◌&&◌, not, and-false}
use mathlib.Core.List.{List, [], ◌∷◌}
use Prim.Native.Nat.{ℕ, ◌+◌, ◌*◌, ◌/◌, ◌%◌, ◌<◌, ◌≤◌}
use native.Mathlib.Decide.{ℕ_discrete, dec_lt}
use native.Mathlib.Omega.{arith}
use borrow.Author.Tests.{eq-eqb, ne_eqb}
use lib.Dec.{eqb}
use lib.ListN.{get_or}
use Rattle.words.specs.Choice.{pick}
use Rattle.words.specs.Counting.{count_below, lowest_below}
use Rattle.words.specs.Word.{bit, word_of, with_bit}
use Rattle.words.proofs.ChoiceLaws.{pick_true, pick-false}
use Rattle.words.proofs.CountingLaws.{count_same, lowest-same, Lowest, lowest_found, lowest-one}
use Rattle.words.proofs.TruthLaws.{clash}
use Rattle.words.proofs.WordLaws.{bit-word_of, word_of-same}
use Rattle.cic_room.specs.Room.{some_word, reached, shown_word}
use Rattle.cic_room.specs.Tables.{Tables, Beside, Rising}
use Rattle.cic_room.proofs.TableLaws.{table_as}
use Rattle.cic_room.proofs.LoadLaws.{count-one-more}

-- ---- equal numbers

pub some_same : (g g' : ℕ → ℕ) (w : ℕ) → ((j : ℕ) → j < 32 → g (32 * w + j) ≡ g' (32 * w + j)) → some_word g w ≡ some_word g' w
unfolding some_word
some_same g g' w e = word_of-same 32 _ _ (λ j l. ap (λ (x : ℕ). not (eqb x 0)) (e j l))

pub shown-same : (p p' : ℕ → Bool) (g g' : ℕ → ℕ) → ((h : ℕ) → h < 256 → reached p g h ≡ reached p' g' h) → (k : ℕ) → shown_word p g k ≡ shown_word p' g' k
unfolding shown_word
shown-same p p' g g' e k =
    ap₂ (λ (x y : ℕ). get_or (x ∷ y ∷ []) k 0) (count_same 256 (reached p g) (reached p' g') e) (lowest-same 256 (reached p g) (reached p' g') e)

pub reached_as : (p : ℕ → Bool) (g g' : ℕ → ℕ) (h : ℕ) → g h ≡ g' h → reached p g h ≡ reached p g' h
reached_as p g g' h e = ap (λ (x : ℕ). p h && not (eqb x 0)) e

-- all tables by other functions
pub tables_as : {n r b a u g : ℕ → ℕ} {room : List ℕ} {n' r' b' a' u' g' : ℕ → ℕ} → ((k : ℕ) → k < 2 → n k ≡ n' k) → ((k : ℕ) → k < 8 → r k ≡ r' k) → ((k : ℕ) → k < 8 → b k ≡ b' k)
    → ((k : ℕ) → k < 32 → a k ≡ a' k) → ((k : ℕ) → k < 256 → u k ≡ u' k) → ((k : ℕ) → k < 256 → g k ≡ g' k) → Tables n r b a u g room → Tables n' r' b' a' u' g' room
tables_as e1 e2 e3 e4 e5 e6 t =
    record {
      long = t.long;
      shown = table_as e1 t.shown;
      raised = table_as e2 t.raised;
      busy = table_as e3 t.busy;
      active = table_as e4 t.active;
      of_channel = table_as e5 t.of_channel;
      of_host = table_as e6 t.of_host;
    }

-- the same numbers of the hosts
pub beside_as : (p : ℕ → Bool) {a u g : ℕ → ℕ} {room : List ℕ} (g' : ℕ → ℕ) → ((h : ℕ) → h < 256 → g h ≡ g' h) → Beside p a u g room → Beside p a u g' room
beside_as p {g = g} g' e t =
    tables_as (λ k _. shown-same p p g g' (λ h l. reached_as p g g' h (e h l)) k) (λ k l. some_same g g' k (λ j i. e (32 * k + j) (omega (arith, l, i)))) (λ k _. refl) (λ k _. refl) (λ k _. refl) e t

-- the same numbers of the channels
pub beside_for : (p : ℕ → Bool) {a u g : ℕ → ℕ} {room : List ℕ} (u' : ℕ → ℕ) → ((k : ℕ) → k < 256 → u k ≡ u' k) → Beside p a u g room → Beside p a u' g room
beside_for p {u = u} u' e t =
    tables_as (λ k _. refl) (λ k _. refl) (λ k l. some_same u u' k (λ j i. e (32 * k + j) (omega (arith, l, i)))) (λ k _. refl) e (λ k _. refl) t

-- ---- one number is put anew

-- its bit
pub some-put : (g g' : ℕ → ℕ) (h : ℕ) (t : Bool) → t ≡ not (eqb (g' h) 0) → ((j : ℕ) → (j ≡ h → ⊥) → g j ≡ g' j) → with_bit (some_word g (h / 32)) (h % 32) t ≡ some_word g' (h / 32)
unfolding with_bit some_word
some-put g g' h t e o = word_of-same 32 _ _ (λ j l. go j l (ℕ_discrete j (h % 32)))
  where
    go : (j : ℕ) → j < 32 → Dec (j ≡ h % 32) → pick (eqb j (h % 32)) t (bit (word_of 32 (λ i. not (eqb (g (32 * (h / 32) + i)) 0))) j) ≡ not (eqb (g' (32 * (h / 32) + j)) 0)
    go j l (yes p) = sym (pick_true _ (eq-eqb j (h % 32) p)) ∙ e ∙ ap (λ (x : ℕ). not (eqb (g' x) 0)) (omega (arith, p))
    go j l (no p) =
        sym (pick-false _ (ne_eqb j (h % 32) p)) ∙ bit-word_of 32 (λ i. not (eqb (g (32 * (h / 32) + i)) 0)) j l
        ∙ ap (λ (x : ℕ). not (eqb x 0)) (o (32 * (h / 32) + j) (λ q. p (omega (arith, q, l))))

-- the bits of the other words
pub some-others : (g g' : ℕ → ℕ) (h : ℕ) → ((j : ℕ) → (j ≡ h → ⊥) → g j ≡ g' j) → (w : ℕ) → (w ≡ h / 32 → ⊥) → some_word g w ≡ some_word g' w
some-others g g' h o w n = some_same g g' w (λ j l. o (32 * w + j) (λ q. n (omega (arith, q, l))))

-- ---- a host that had none has one

module _ (p : ℕ → Bool) (g y : ℕ → ℕ) (h : ℕ) (l : h < 256) (x : Rising g y h) where
  rose : p h ≡ true → reached p y h ≡ true
  rose e = ap₂ (λ (a b : Bool). a && not b) e (ne_eqb (y h) 0 x.some)

  was-none : reached p g h ≡ false
  was-none = ap (λ (b : Bool). p h && not b) (eq-eqb (g h) 0 x.none) ∙ and-false (p h)

  elsewhere : (j : ℕ) → (j ≡ h → ⊥) → reached p g j ≡ reached p y j
  elsewhere j n = reached_as p g y j (x.others j n)

  -- one that is not permitted shows in nothing
  pub unpermitted : p h ≡ false → (k : ℕ) → shown_word p g k ≡ shown_word p y k
  unpermitted e = shown-same p p g y (λ j _. go j (ℕ_discrete j h))
    where
      go : (j : ℕ) → Dec (j ≡ h) → reached p g j ≡ reached p y j
      go j (yes q) = ap (λ (b : Bool). b && not (eqb (g j) 0)) (ap p q ∙ e) ∙ sym (ap (λ (b : Bool). b && not (eqb (y j) 0)) (ap p q ∙ e))
      go j (no q) = elsewhere j q

  -- one more is asserted
  pub one_rose : p h ≡ true → count_below 256 (reached p y) ≡ count_below 256 (reached p g) + 1
  one_rose e = count-one-more 256 (reached p g) (reached p y) h l was-none (rose e) (λ j _ n. sym (elsewhere j n))

  -- the lowest is it, or stays
  pub lower_rose : p h ≡ true → h < lowest_below 256 (reached p g) → h ≡ lowest_below 256 (reached p y)
  lower_rose e m =
      lowest-one (reached p y) 256 h (lowest_below 256 (reached p y))
      (record { within = omega (arith, l); before = λ k i. sym (elsewhere k (λ q. absurd (omega (arith, q, i)))) ∙ (lowest_found 256 (reached p g)).before k (omega (arith, i, m)); found = λ _. rose e })
      (lowest_found 256 (reached p y))

  pub higher_rose : lowest_below 256 (reached p g) ≤ h → lowest_below 256 (reached p g) ≡ lowest_below 256 (reached p y)
  higher_rose m =
      lowest-one (reached p y) 256 low (lowest_below 256 (reached p y))
      (record { within = f.within; before = λ k i. sym (elsewhere k (λ q. absurd (omega (arith, q, i, m)))) ∙ f.before k i; found = λ i. found i (ℕ_discrete low h) })
      (lowest_found 256 (reached p y))
    where
      low : ℕ
      low = lowest_below 256 (reached p g)

      f : Lowest (reached p g) 256 (lowest_below 256 (reached p g))
      f = lowest_found 256 (reached p g)

      found : low < 256 → Dec (low ≡ h) → reached p y low ≡ true
      found i (yes q) = clash (ap (reached p g) (sym q) ∙ f.found i) was-none
      found i (no q) = sym (elsewhere low q) ∙ f.found i

  -- back: it is the lowest, or the lowest stays; none before its word is asserted
  pub none_below : h ≡ lowest_below 256 (reached p y) → (j : ℕ) → j < 32 * (h / 32) → reached p g j ≡ false
  none_below e j i = elsewhere j (λ q. absurd (omega (arith, q, i))) ∙ (lowest_found 256 (reached p y)).before j (omega (arith, e, i))

  pub not_lowest : p h ≡ true → (h ≡ lowest_below 256 (reached p y) → ⊥) → lowest_below 256 (reached p y) ≡ lowest_below 256 (reached p g)
  not_lowest e n = go (dec_lt h (lowest_below 256 (reached p g)))
    where
      go : Dec (h < lowest_below 256 (reached p g)) → lowest_below 256 (reached p y) ≡ lowest_below 256 (reached p g)
      go (yes m) = absurd (n (lower_rose e m))
      go (no m) = sym (higher_rose (omega (arith, m)))

-- a number that was not 0 and is not 0 shows in nothing
pub shown_stays : (p : ℕ → Bool) (g y : ℕ → ℕ) (h : ℕ) → (g h ≡ 0 → ⊥) → (y h ≡ 0 → ⊥) → ((j : ℕ) → (j ≡ h → ⊥) → g j ≡ y j) → (k : ℕ) → shown_word p g k ≡ shown_word p y k
shown_stays p g y h m n o = shown-same p p g y (λ j _. go j (ℕ_discrete j h))
  where
    go : (j : ℕ) → Dec (j ≡ h) → reached p g j ≡ reached p y j
    go j (yes q) = ap (λ (b : Bool). p j && not b) (ap (λ (i : ℕ). eqb (g i) 0) q ∙ ne_eqb (g h) 0 m ∙ sym (ap (λ (i : ℕ). eqb (y i) 0) q ∙ ne_eqb (y h) 0 n))
    go j (no q) = reached_as p g y j (o j q)
