-- A mode put anew: the words of the modes each have one bit put anew.
use mathlib.Core.Path.{◌≡◌, sym, ap, ap₂, ◌∙◌}
use mathlib.Core.Bool.{Bool}
use mathlib.Core.List.{List}
use Prim.Native.Nat.{ℕ, ◌+◌, ◌%◌, ◌<◌}
use native.Mathlib.Decide.{ℕ_discrete}
use native.Mathlib.Omega.{arith}
use borrow.Author.Tests.{eq-eqb, ne_eqb}
use lib.Dec.{eqb}
use lib.ListN.{length, get_or, set, length-set}
use lib.Seq.{get_or-set_same, get_or-set_other}
use Rattle.words.specs.Choice.{pick}
use Rattle.words.specs.Counting.{upto}
use Rattle.words.specs.Word.{bit, word_of, without, with_bit}
use Rattle.words.proofs.WordLaws.{bit-word_of, word_of-same}
use Rattle.aic_record.specs.declared.Aic.{Aic}
use Rattle.aic_record.specs.Mode.{priority_of}
use Rattle.aic_record.specs.Record.{with_mode}
use Rattle.aic_sources.specs.Search.{mode_word}
use Rattle.rooms.specs.Parts.{flat}
use Rattle.rooms.proofs.PartLaws.{part-set}
use Rattle.aic_room.specs.Room.{class_word, parts, sizes, room_of, Stale}
use Rattle.aic_room.proofs.CellLaws.{sized}

-- a word that says something of each mode, where one mode is put anew
word-put : (f : ℕ → Bool) (modes : List ℕ) (k n : ℕ) → k < length modes
    → with_bit (word_of 32 (λ j. f (get_or modes j 0))) k (f n) ≡ word_of 32 (λ j. f (get_or (set modes k n) j 0))
unfolding with_bit pick
word-put f modes k n m = word_of-same 32 (λ j. pick (eqb j k) (f n) (bit (word_of 32 (λ i. f (get_or modes i 0))) j)) (λ j. f (get_or (set modes k n) j 0)) (λ j l. go j l (ℕ_discrete j k))
  where
    go : (j : ℕ) → j < 32 → Dec (j ≡ k) → pick (eqb j k) (f n) (bit (word_of 32 (λ i. f (get_or modes i 0))) j) ≡ f (get_or (set modes k n) j 0)
    go j l (yes p) =
        ap (λ (x : Bool). pick x (f n) (bit (word_of 32 (λ i. f (get_or modes i 0))) j)) (eq-eqb j k p)
        ∙ sym (ap (λ (x : ℕ). f (get_or (set modes k n) x 0)) p ∙ ap f (get_or-set_same modes k n 0 m))
    go j l (no p) =
        ap (λ (x : Bool). pick x (f n) (bit (word_of 32 (λ i. f (get_or modes i 0))) j)) (ne_eqb j k p) ∙ bit-word_of 32 (λ i. f (get_or modes i 0)) j l
        ∙ sym (ap f (get_or-set_other modes k j n 0 p))

module _ (modes : List ℕ) (k n : ℕ) (m : k < length modes) where
  modes-put : (j : ℕ) → with_bit (mode_word modes j) k (bit n j) ≡ mode_word (set modes k n) j
  unfolding mode_word
  modes-put j = word-put (λ x. bit x j) modes k n m

  class-put : (p : ℕ) → with_bit (class_word modes p) k (eqb (priority_of n) p) ≡ class_word (set modes k n) p
  unfolding class_word
  class-put p = word-put (λ x. eqb (priority_of x) p) modes k n m

-- in the class of one priority and in no other
abbrev pub join : ℕ → ℕ → List ℕ → ℕ → List ℕ
join k p l q = set l (32 + q) (with_bit (get_or l (32 + q) 0) k (eqb q p))

turned : (a b : ℕ) → eqb a b ≡ eqb b a
turned a b = go (ℕ_discrete a b)
  where
    go : Dec (a ≡ b) → eqb a b ≡ eqb b a
    go (yes e) = eq-eqb a b e ∙ sym (eq-eqb b a (sym e))
    go (no d) = ne_eqb a b d ∙ sym (ne_eqb b a (λ z. d (sym z)))

module _ (a : Aic) (k n : ℕ) (f : ℕ → ℕ) (any : ℕ) where
  -- the room with a mode put, and the words of the modes as they were
  abbrev half : List ℕ
  half = flat (set (parts a f any) 6 (set a.mode k n))

  marked : (e h l : ℕ) → e ≡ mode_word (set a.mode k n) 5 → h ≡ mode_word (set a.mode k n) 6 → l ≡ without a.external (mode_word (set a.mode k n) 6)
      → ((p : ℕ) → with_bit (class_word a.mode p) k (eqb p (n % 8)) ≡ class_word (set a.mode k n) p)
      → upto (join k (n % 8)) (set (set (set half 13 e) 14 h) 16 l) 8 ≡ room_of (with_mode a (set a.mode k n)) f any
  unfolding upto room_of
  marked e h l p q t r = rw (p, q, t, r 0, r 1, r 2, r 3, r 4, r 5, r 6, r 7)

-- the room after a mode is put
pub put_modes : (a : Aic) (room last : List ℕ) (k n e h o p : ℕ) (x y : Bool) → k < 32 → Stale a room → x ≡ bit n 5 → y ≡ bit n 6
    → e ≡ with_bit (get_or (set room (64 + k) n) 13 0) k x → h ≡ with_bit (get_or (set (set room (64 + k) n) 13 e) 14 0) k y
    → o ≡ without (get_or (set (set (set room (64 + k) n) 13 e) 14 h) 15 0) h → p ≡ n % 8
    → last ≡ upto (join k p) (set (set (set (set room (64 + k) n) 13 e) 14 h) 16 o) 8 → Stale (with_mode a (set a.mode k n)) last
unfolding room_of
put_modes a room last k n e h o p x y l s ex ey ee eh eo ep el =
    let m : k < length a.mode = omega (arith, s.shaped.0) in
    let r : set room (64 + k) n ≡ half a k n s.levels s.any = ap (λ (z : List ℕ). set z (64 + k) n) s.words
    ∙ part-set (parts a s.levels s.any) sizes (sized a s.levels s.any s.shaped) 6 k n l in
    let high : h ≡ mode_word (set a.mode k n) 6 = eh ∙ ap₂ (λ (z : List ℕ) (b : Bool). with_bit (get_or (set z 13 e) 14 0) k b) r ey ∙ modes-put a.mode k n m 6 in
    record {
      shaped = (simp length-set s.shaped.0, s.shaped.1, s.shaped.2, s.shaped.3);
      levels = s.levels;
      any = s.any;
      words = el ∙ ap₂ (λ (z : List ℕ) (q : ℕ). upto (join k q) (set (set (set z 13 e) 14 h) 16 o) 8) r ep
          ∙ marked a k n s.levels s.any e h o
          (ee ∙ ap₂ (λ (z : List ℕ) (b : Bool). with_bit (get_or z 13 0) k b) r ex ∙ modes-put a.mode k n m 5) high
          (eo ∙ ap₂ (λ (z : List ℕ) (w : ℕ). without (get_or (set (set z 13 e) 14 h) 15 0) w) r high)
          (λ q. ap (with_bit (class_word a.mode q) k) (turned q (n % 8)) ∙ class-put a.mode k n m q);
    }
