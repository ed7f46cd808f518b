-- The asserted hosts, from the words of the room: how many, the lowest, and both as a host gets its first system interrupt or loses its last.
use mathlib.Core.Path.{◌≡◌, refl, sym, ap, ap₂, ◌∙◌}
use mathlib.Core.Bool.{Bool, true, false, ◌&&◌, not}
use mathlib.Core.List.{List, [], ◌∷◌}
use Prim.Native.Nat.{ℕ, ◌+◌, ◌*◌, ◌/◌, ◌%◌, ◌<◌, ◌≤◌}
use native.Mathlib.Decide.{dec_lt}
use native.Mathlib.Nat.{mod-lt}
use native.Mathlib.Omega.{arith}
use borrow.Author.Tests.{eq-eqb, ne_eqb}
use lib.Dec.{eqb}
use lib.ListN.{get_or, set}
use lib.Seq.{get_or-set_other}
use Rattle.words.specs.Array.{bit_at}
use Rattle.words.specs.Counting.{count_below, lowest_below}
use Rattle.words.specs.Word.{bit, both}
use Rattle.words.proofs.ArrayLaws.{bit_at_word}
use Rattle.words.proofs.CountingLaws.{count_same, count_add, count_le, lowest_found, lowest-one}
use Rattle.words.proofs.WordLaws.{bit-both, bit-word_of, bit-none}
use Rattle.cic_record.specs.declared.Cic.{Cic}
use Rattle.cic_room.specs.Room.{Frame, permitted, reached, some_word, shown_word}
use Rattle.cic_room.specs.Tables.{Held, Tables, Rising}
use Rattle.cic_room.proofs.TableLaws.{held-shown, put-shown}
use Rattle.cic_room.proofs.ShownLaws.{tables_as, unpermitted, one_rose, lower_rose, higher_rose, not_lowest}

-- ---- one word of them

module _ {f : Frame} {c : Cic} {room : List ℕ} (h : Held f c room) where
  pub global-is : get_or room 5 0 ≡ c.global
  global-is = h.first.holds 5 (omega arith)

  -- a host that may be asserted
  pub permitted-is : (n : ℕ) → n < 256 → (t : Bool) → t ≡ bit (get_or room (16 + n / 32) 0) (n % 32) → (eqb (get_or room 5 0) 1 && t) ≡ permitted c n
  unfolding bit_at
  permitted-is n l t e =
      ap₂ (λ (x y : Bool). x && y) (ap (λ (w : ℕ). eqb w 1) global-is) (e ∙ ap (λ (w : ℕ). bit w (n % 32)) (h.allow.holds (n / 32) (omega (arith, l))))

  module _ {n b a u x : ℕ → ℕ} (g : ℕ → ℕ) (t : Tables n (some_word g) b a u x room) where
    some_is : (k j : ℕ) → k < 8 → j < 32 → bit (get_or room (24 + k) 0) j ≡ not (eqb (g (32 * k + j)) 0)
    unfolding some_word
    some_is k j l m = ap (λ (w : ℕ). bit w j) (t.raised.holds k l) ∙ bit-word_of 32 (λ i. not (eqb (g (32 * k + i)) 0)) j m

    pub none-reached : (get_or room 5 0 ≡ 1 → ⊥) → (k j : ℕ) → bit 0 j ≡ reached (permitted c) g (32 * k + j)
    none-reached o k j =
        bit-none j ∙ sym (ap (λ (y : Bool). (y && bit_at c.allow (32 * k + j)) && not (eqb (g (32 * k + j)) 0)) (ne_eqb c.global 1 (λ q. o (global-is ∙ q))))

    pub reached-is : (k w : ℕ) → k < 8 → get_or room 5 0 ≡ 1 → w ≡ both (get_or room (16 + k) 0) (get_or room (24 + k) 0) → (j : ℕ) → j < 32 → bit w j ≡ reached (permitted c) g (32 * k + j)
    reached-is k w l o e j m =
        ap (λ (z : ℕ). bit z j) e ∙ bit-both (get_or room (16 + k) 0) (get_or room (24 + k) 0) j m
        ∙ ap₂ (λ (y z : Bool). y && z)
        (ap (λ (z : ℕ). bit z j) (h.allow.holds k l) ∙ sym (bit_at_word c.allow k j m) ∙ sym (ap (λ (y : Bool). y && bit_at c.allow (32 * k + j)) (eq-eqb c.global 1 (sym global-is ∙ o))))
        (some_is k j l m)

-- ---- all of them

pub count-more : (p : ℕ → Bool) (k w sum n : ℕ) → ((j : ℕ) → j < 32 → bit w j ≡ p (32 * k + j)) → n ≡ count_below 32 (bit w) → sum ≡ count_below (32 * k) p → sum + n ≡ count_below (32 * (k + 1)) p
count-more p k w sum n e f g =
    ap₂ (λ (x y : ℕ). x + y) g (f ∙ count_same 32 (bit w) (λ j. p (32 * k + j)) e) ∙ sym (count_add (32 * k) 32 p) ∙ ap (λ (x : ℕ). count_below x p) (omega arith)

pub none_more : (p : ℕ → Bool) (k w : ℕ) → ((j : ℕ) → j < 32 → bit w j ≡ p (32 * k + j)) → w ≡ 0 → ((h : ℕ) → h < 32 * k → p h ≡ false) → (h : ℕ) → h < 32 * (k + 1) → p h ≡ false
none_more p k w e z n h l = go (dec_lt h (32 * k))
  where
    go : Dec (h < 32 * k) → p h ≡ false
    go (yes m) = n h m
    go (no m) =
        let q : 32 * k + h % 32 ≡ h = omega (arith, m, l) in
        ap p (sym q) ∙ sym (e (h % 32) (mod-lt h (omega arith))) ∙ ap (λ (x : ℕ). bit x (h % 32)) z ∙ bit-none (h % 32)

pub lowest_here : (p : ℕ → Bool) (k w i : ℕ) → k < 8 → ((j : ℕ) → j < 32 → bit w j ≡ p (32 * k + j)) → (i < 32) × (bit w i ≡ true) → i ≡ lowest_below 32 (bit w)
    → ((h : ℕ) → h < 32 * k → p h ≡ false) → 32 * k + i ≡ lowest_below 256 p
lowest_here p k w i l e s f n = lowest-one p 256 (32 * k + i) (lowest_below 256 p) (record { within = omega (arith, l, s.0); before = λ h m. go h m (dec_lt h (32 * k)); found = λ _. sym (e i s.0) ∙ s.1 }) (lowest_found 256 p)
  where
    go : (h : ℕ) → h < 32 * k + i → Dec (h < 32 * k) → p h ≡ false
    go h m (yes q) = n h q
    go h m (no q) =
        let r : 32 * k + h % 32 ≡ h = omega (arith, q, m, s.0) in
        ap p (sym r) ∙ sym (e (h % 32) (mod-lt h (omega arith))) ∙ (lowest_found 32 (bit w)).before (h % 32) (omega (arith, r, m, f))

pub lowest-none : (p : ℕ → Bool) → ((h : ℕ) → h < 256 → p h ≡ false) → 256 ≡ lowest_below 256 p
lowest-none p n = lowest-one p 256 256 (lowest_below 256 p) (record { within = omega arith; before = n; found = λ l. absurd (omega (arith, l)) }) (lowest_found 256 p)

-- ---- the two numbers are put anew

shown-first : (p : ℕ → Bool) (g : ℕ → ℕ) → shown_word p g 0 ≡ count_below 256 (reached p g)
unfolding shown_word
shown-first p g = refl

shown_second : (p : ℕ → Bool) (g : ℕ → ℕ) → shown_word p g 1 ≡ lowest_below 256 (reached p g)
unfolding shown_word
shown_second p g = refl

module _ {n r b a u g : ℕ → ℕ} {room : List ℕ} (n' : ℕ → ℕ) where
  put_first : (v : ℕ) → v ≡ n' 0 → n 1 ≡ n' 1 → Tables n r b a u g room → Tables n' r b a u g (set room 7 v)
  put_first v e f t = put-shown 0 v n' (omega arith) e (λ j i o. let q : j ≡ 1 = omega (arith, i, o) in ap n q ∙ f ∙ ap n' (sym q)) t

  put_second : (v : ℕ) → n 0 ≡ n' 0 → v ≡ n' 1 → Tables n r b a u g room → Tables n' r b a u g (set room 8 v)
  put_second v e f t = put-shown 1 v n' (omega arith) f (λ j i o. let q : j ≡ 0 = omega (arith, i, o) in ap n q ∙ e ∙ ap n' (sym q)) t

pub shown_anew : (p : ℕ → Bool) (y : ℕ → ℕ) {f : Frame} {c : Cic} {n r b a u g : ℕ → ℕ} (room : List ℕ) (v w : ℕ) → v ≡ count_below 256 (reached p y) → w ≡ lowest_below 256 (reached p y)
    → Held f c room → Tables n r b a u g room → Held f c (set (set room 7 v) 8 w) × Tables (shown_word p y) r b a u g (set (set room 7 v) 8 w)
shown_anew p y {n = n} room v w e d h t = (
  held-shown 1 w (omega arith) (held-shown 0 v (omega arith) h),
  put_second (shown_word p y) w (e ∙ sym (shown-first p y)) (d ∙ sym (shown_second p y)) (put_first (λ k. get_or (v ∷ n 1 ∷ []) k 0) v refl refl t),
)

module _ {f : Frame} {c : Cic} {r b a u x g y : ℕ → ℕ} (p : ℕ → Bool) (room : List ℕ) (h v : ℕ) (l : h < 256) (s : Rising g y h) (k : Held f c room) where
  -- a host that may not be asserted gets its first
  pub not_admitted : p h ≡ false → Tables (shown_word p g) r b a u x room → Tables (shown_word p y) r b a u x room
  not_admitted e t = tables_as (λ i _. unpermitted p g y h l s e i) (λ i _. refl) (λ i _. refl) (λ i _. refl) (λ i _. refl) (λ i _. refl) t

  -- or loses its last
  pub not_dismissed : p h ≡ false → Tables (shown_word p y) r b a u x room → Tables (shown_word p g) r b a u x room
  not_dismissed e t = tables_as (λ i _. sym (unpermitted p g y h l s e i)) (λ i _. refl) (λ i _. refl) (λ i _. refl) (λ i _. refl) (λ i _. refl) t

  -- one that may gets its first: one more is asserted, and it may be the lowest
  module _ (e : p h ≡ true) (t : Tables (shown_word p g) r b a u x room) (d : v ≡ get_or room 7 0 % 512 + 1) where
    counted : v ≡ count_below 256 (reached p y)
    counted = d ∙ omega (arith, t.shown.holds 0 (omega arith), shown-first p g, count_le 256 (reached p g), one_rose p g y h l s e)

    was_lowest : get_or (set room 7 v) 8 0 ≡ lowest_below 256 (reached p g)
    was_lowest = get_or-set_other room 7 8 v 0 (λ q. absurd (omega (arith, q))) ∙ t.shown.holds 1 (omega arith) ∙ shown_second p g

    pub admitted-low : h < get_or (set room 7 v) 8 0 → Held f c (set (set room 7 v) 8 h) × Tables (shown_word p y) r b a u x (set (set room 7 v) 8 h)
    admitted-low m = shown_anew p y room v h counted (lower_rose p g y h l s e (omega (arith, m, was_lowest))) k t

    pub admitted-high : get_or (set room 7 v) 8 0 ≤ h → Held f c (set room 7 v) × Tables (shown_word p y) r b a u x (set room 7 v)
    admitted-high m = (
      held-shown 0 v (omega arith) k,
      put_first (shown_word p y) v (counted ∙ sym (shown-first p y)) (shown_second p g ∙ higher_rose p g y h l s (omega (arith, m, was_lowest)) ∙ sym (shown_second p y)) t,
    )

  -- loses its last: one less is, and the lowest may be another
  module _ (e : p h ≡ true) (t : Tables (shown_word p y) r b a u x room) (d : v ≡ (get_or room 7 0 % 512 + 511) % 512) where
    less : v ≡ count_below 256 (reached p g)
    less = d ∙ omega (arith, t.shown.holds 0 (omega arith), shown-first p y, count_le 256 (reached p y), one_rose p g y h l s e)

    pub now_lowest : get_or (set room 7 v) 8 0 ≡ lowest_below 256 (reached p y)
    now_lowest = get_or-set_other room 7 8 v 0 (λ q. absurd (omega (arith, q))) ∙ t.shown.holds 1 (omega arith) ∙ shown_second p y

    -- between the two
    pub half : Held f c (set room 7 v) × Tables (λ i. get_or (v ∷ shown_word p y 1 ∷ []) i 0) r b a u x (set room 7 v)
    half = (held-shown 0 v (omega arith) k, put_first (λ i. get_or (v ∷ shown_word p y 1 ∷ []) i 0) v refl refl t)

    pub dismissed-low : (w : ℕ) → w ≡ lowest_below 256 (reached p g) → Held f c (set (set room 7 v) 8 w) × Tables (shown_word p g) r b a u x (set (set room 7 v) 8 w)
    dismissed-low w m = shown_anew p g room v w less m k t

    pub dismissed-high : (h ≡ get_or (set room 7 v) 8 0 → ⊥) → Held f c (set room 7 v) × Tables (shown_word p g) r b a u x (set room 7 v)
    dismissed-high m = (
      held-shown 0 v (omega arith) k,
      put_first (shown_word p g) v (less ∙ sym (shown-first p g)) (shown_second p y ∙ not_lowest p g y h l s e (λ q. m (q ∙ sym now_lowest)) ∙ sym (shown_second p g)) t,
    )
