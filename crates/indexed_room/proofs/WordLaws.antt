-- How the words of the channels follow a channel map of which one register is written.
use mathlib.Core.Path.{◌≡◌, refl, sym, ap, ap₂, ◌∙◌, subst}
use mathlib.Core.Bool.{Bool, true, false, not, ◌&&◌, ◌||◌}
use mathlib.Core.List.{List}
use Prim.Native.Nat.{ℕ, zero, suc, ◌+◌, ◌*◌, ◌/◌, ◌%◌, ◌<◌}
use native.Mathlib.Decide.{ℕ_discrete}
use native.Mathlib.Omega.{arith}
use borrow.Author.Tests.{eq-eqb, ne_eqb}
use lib.Dec.{eqb}
use lib.ListN.{get_or, set, length}
use lib.Seq.{get_or-set_same, get_or-set_other, ext_get_or}
use Rattle.words.specs.Array.{byte_of}
use Rattle.words.specs.Choice.{pick}
use Rattle.words.specs.Counting.{any_below}
use Rattle.words.specs.Word.{bit, word_of, with_bit}
use Rattle.words.proofs.ChoiceLaws.{pick_true, pick-false}
use Rattle.words.proofs.CountingLaws.{some_any, any_same}
use Rattle.words.proofs.TruthLaws.{or_neither, clash}
use Rattle.words.proofs.WordLaws.{bit-word_of, word_of_lt, word_of-same, bit-with_bit, with_bit_lt, same_word}
use Rattle.rooms.specs.Parts.{made}
use Rattle.rooms.proofs.PartLaws.{made-length, made_get}
use Rattle.cic_record.specs.declared.Channel.{Channel}
use Rattle.cic_record.specs.declared.Cic.{Cic}
use Rattle.cic_record.specs.Kinds.{channel_number}
use Rattle.cic_room.specs.Room.{Frame, Laid}
use Rattle.indexed_room.specs.Marks.{Marks}
use Rattle.indexed_room.specs.Room.{Renewing, with_words}
use Rattle.indexed_room.specs.Words.{in_word, words_of, Written, one_of, Right}
use Rattle.indexed_room.proofs.FrameLaws.{words-is, put_words, channel-marks, channel_byte}

-- bit w of the word of channel k tells whether it has one in word w
words-bit : (m : List ℕ) (k w : ℕ) → w < 32 → bit (words_of m k) w ≡ in_word m k w
unfolding words_of
words-bit m k w l = bit-word_of 32 (in_word m k) w l

-- ---- one channel is put right

-- a word of which all other bits are right
word-right : (m : List ℕ) (w k x : ℕ) (t : Bool) → ((v : ℕ) → v < 32 → (v ≡ w → ⊥) → bit x v ≡ in_word m k v) → t ≡ in_word m k w → with_bit x w t ≡ words_of m k
unfolding words_of
word-right m w k x t f g =
    same_word 32 (with_bit x w t) (word_of 32 (in_word m k)) (with_bit_lt x w t) (word_of_lt 32 (in_word m k))
    (λ v l. bit-with_bit x w t v l ∙ go v l (ℕ_discrete v w) ∙ sym (bit-word_of 32 (in_word m k) v l))
  where
    go : (v : ℕ) → v < 32 → Dec (v ≡ w) → pick (eqb v w) t (bit x v) ≡ in_word m k v
    go v l (yes z) = sym (pick_true (bit x v) (eq-eqb v w z)) ∙ g ∙ ap (in_word m k) (sym z)
    go v l (no z) = sym (pick-false t (ne_eqb v w z)) ∙ f v l z

-- the words after one of them is put right
right_less : (m ws : List ℕ) (w k : ℕ) (t : Bool) (todo : ℕ → Bool) → length ws ≡ 256 → k < 256 → Right m w todo ws → t ≡ in_word m k w
    → Right m w (λ j. todo j && not (eqb j k)) (set ws k (with_bit (get_or ws k 0) w t))
right_less m ws w k t todo long l h g = record { others = λ j v a b d. others j v a b d (ℕ_discrete j k); done = λ j a e. done j a e (ℕ_discrete j k) }
  where
    new : with_bit (get_or ws k 0) w t ≡ words_of m k
    new = word-right m w k (get_or ws k 0) t (λ v b d. h.others k v l b d) g

    here : get_or (set ws k (with_bit (get_or ws k 0) w t)) k 0 ≡ words_of m k
    here = get_or-set_same ws k (with_bit (get_or ws k 0) w t) 0 (omega (arith, l, long)) ∙ new

    others : (j v : ℕ) → j < 256 → v < 32 → (v ≡ w → ⊥) → Dec (j ≡ k) → bit (get_or (set ws k (with_bit (get_or ws k 0) w t)) j 0) v ≡ in_word m j v
    others j v a b d (yes z) = rw z (ap (λ (x : ℕ). bit x v) here ∙ words-bit m k v b)
    others j v a b d (no z) = ap (λ (x : ℕ). bit x v) (get_or-set_other ws k j (with_bit (get_or ws k 0) w t) 0 z) ∙ h.others j v a b d

    done : (j : ℕ) → j < 256 → (todo j && not (eqb j k)) ≡ false → Dec (j ≡ k) → get_or (set ws k (with_bit (get_or ws k 0) w t)) j 0 ≡ words_of m j
    done j a e (yes z) = rw z here
    done j a e (no z) =
        get_or-set_other ws k j (with_bit (get_or ws k 0) w t) 0 z
        ∙ h.done j a (sym (and_on (todo j)) ∙ ap (λ (b : Bool). todo j && not b) (sym (ne_eqb j k z)) ∙ e)
      where
        and_on : (b : Bool) → (b && true) ≡ b
        and_on true = refl
        and_on false = refl

module _ {f : Frame} {c : Cic} {w : ℕ} {todo : ℕ → Bool} {room : List ℕ} (h : Renewing f c w todo room) (k : ℕ) (l : k < 256) where
  put_right : (t : Bool) (x : ℕ) → t ≡ in_word c.channel k w → x ≡ with_bit (get_or room (1280 + k) 0) w t
      → Renewing f c w (λ j. todo j && not (eqb j k)) (set room (1280 + k) x)
  put_right t x g e =
      record {
        words = set h.words k (with_bit (get_or h.words k 0) w t);
        stands = rw (e ∙ ap (λ (y : ℕ). with_bit y w t) (words-is h.stands k l)) (put_words h.stands k (with_bit (get_or h.words k 0) w t) l);
        right = right_less c.channel h.words w k t todo h.stands.framed.words l h.right g;
      }

  -- it has one
  pub entered : (x : ℕ) → in_word c.channel k w ≡ true → x ≡ with_bit (get_or room (1280 + k) 0) w true → Renewing f c w (λ j. todo j && not (eqb j k)) (set room (1280 + k) x)
  entered x g e = put_right true x (sym g) e

  -- as the map says
  pub looked_again : (m x : ℕ) (t : Bool) → w < 32 → Marks room (256 + 8 * w) k 32 m → t ≡ any_below 32 (bit m) → x ≡ with_bit (get_or room (1280 + k) 0) w t
      → Renewing f c w (λ j. todo j && not (eqb j k)) (set room (1280 + k) x)
  unfolding in_word
  looked_again m x t b a g e =
      put_right t x (g ∙ any_same 32 (bit m) (λ i. eqb (get_or c.channel (32 * w + i) 0) k) (channel-marks h.stands w k m b a)) e

-- ---- one byte

-- what is to do may be told in another way
pub renewing_as : {f : Frame} {c : Cic} {w : ℕ} {todo more : ℕ → Bool} {room : List ℕ} → ((j : ℕ) → more j ≡ false → todo j ≡ false)
    → Renewing f c w todo room → Renewing f c w more room
renewing_as e h =
    record { words = h.words; stands = h.stands; right = record { others = h.right.others; done = λ k l d. h.right.done k l (e k d) } }

pub same_byte : (a b : ℕ) (rest : ℕ → Bool) → a ≡ b → (j : ℕ) → rest j ≡ false → (one_of a b j || rest j) ≡ false
same_byte a b rest e j d = ap₂ (λ (x y : Bool). (not x && (eqb j a || eqb j b)) || y) (eq-eqb a b e) d

pub both_bytes : (a b : ℕ) (rest : ℕ → Bool) (j : ℕ) → rest j ≡ false → (((one_of a b j || rest j) && not (eqb j a)) && not (eqb j b)) ≡ false
both_bytes a b rest j d = go (not (eqb a b)) (eqb j a) (eqb j b) (rest j) d
  where
    go : (n p q r : Bool) → r ≡ false → ((((n && (p || q)) || r) && not p) && not q) ≡ false
    go n true q r d = off (((n && (true || q)) || r)) (not q)
      where
        off : (x y : Bool) → ((x && false) && y) ≡ false
        off true y = refl
        off false y = refl
    go n false true r d = off (((n && (false || true)) || r) && true)
      where
        off : (x : Bool) → (x && false) ≡ false
        off true = refl
        off false = refl
    go true false false r d = ap (λ (x : Bool). (x && true) && true) d
    go false false false r d = ap (λ (x : Bool). (x && true) && true) d

-- told of the bytes of two words
pub by_bytes : (f : Frame) (c : Cic) (rest : ℕ → Bool) {w a b : ℕ} {from to : Channel} {room room' : List ℕ} → from ≡ channel_number a → to ≡ channel_number b
    → (in_word c.channel to.0 w ≡ true → Renewing f c w (λ j. one_of from.0 to.0 j || rest j) room → Renewing f c w rest room')
    → in_word c.channel b w ≡ true → Renewing f c w (λ j. one_of a b j || rest j) room → Renewing f c w rest room'
by_bytes f c rest {w} {a} {b} {from} {to} {room} {room'} d e k =
    subst (λ (t : Channel). in_word c.channel t.0 w ≡ true → Renewing f c w (λ j. one_of a t.0 j || rest j) room → Renewing f c w rest room') e
    (subst (λ (t : Channel). in_word c.channel to.0 w ≡ true → Renewing f c w (λ j. one_of t.0 to.0 j || rest j) room → Renewing f c w rest room') d k)

-- ---- all four

-- a byte of register q is one of word q / 8
pub in_its_word : (m : List ℕ) (q j b : ℕ) → j < 4 → b ≡ get_or m (4 * q + j) 0 → in_word m b (q / 8) ≡ true
unfolding in_word
in_its_word m q j b l e =
    some_any 32 (λ i. eqb (get_or m (32 * (q / 8) + i) 0) b) (4 * (q % 8) + j) (omega (arith, l))
    (eq-eqb _ _ (ap (λ (n : ℕ). get_or m n 0) (let d : 32 * (q / 8) + (4 * (q % 8) + j) ≡ 4 * q + j = omega (arith, l) in d) ∙ sym e))

abbrev pub four_of : ℕ → ℕ → ℕ → Bool
four_of old new k =
    one_of (byte_of old 0) (byte_of new 0) k || (one_of (byte_of old 1) (byte_of new 1) k || (one_of (byte_of old 2) (byte_of new 2) k || (one_of (byte_of old 3) (byte_of new 3) k || false)))

module _ (m m' : List ℕ) (q old new : ℕ) (h : Written m m' q old) (is : (j : ℕ) → j < 4 → byte_of new j ≡ get_or m' (4 * q + j) 0) where
  -- a channel that is none of those that differ has what it had
  same-word_of : (k : ℕ) → four_of old new k ≡ false → (w : ℕ) → in_word m k w ≡ in_word m' k w
  unfolding in_word
  same-word_of k e w =
      any_same 32 (λ i. eqb (get_or m (32 * w + i) 0) k) (λ i. eqb (get_or m' (32 * w + i) 0) k) (λ i l. go (32 * w + i) (ℕ_discrete ((32 * w + i) / 4) q))
    where
      n0 : (one_of (byte_of old 0) (byte_of new 0) k ≡ false) × ((one_of (byte_of old 1) (byte_of new 1) k || (one_of (byte_of old 2) (byte_of new 2) k || (one_of (byte_of old 3) (byte_of new 3) k || false))) ≡ false)
      n0 = or_neither _ _ e

      n1 : (one_of (byte_of old 1) (byte_of new 1) k ≡ false) × ((one_of (byte_of old 2) (byte_of new 2) k || (one_of (byte_of old 3) (byte_of new 3) k || false)) ≡ false)
      n1 = or_neither _ _ n0.1

      n2 : (one_of (byte_of old 2) (byte_of new 2) k ≡ false) × ((one_of (byte_of old 3) (byte_of new 3) k || false) ≡ false)
      n2 = or_neither _ _ n1.1

      n3 : one_of (byte_of old 3) (byte_of new 3) k ≡ false
      n3 = (or_neither _ _ n2.1).0

      each : (j : ℕ) → j < 4 → one_of (byte_of old j) (byte_of new j) k ≡ false
      each zero l = n0.0
      each (suc zero) l = n1.0
      each (suc (suc zero)) l = n2.0
      each (suc (suc (suc zero))) l = n3
      each (suc (suc (suc (suc j)))) l = absurd (omega (arith, l))

      same : (a b : ℕ) → one_of a b k ≡ false → eqb a k ≡ eqb b k
      same a b d = decide (ℕ_discrete a b) (ℕ_discrete a k) (ℕ_discrete b k)
        where
          decide : Dec (a ≡ b) → Dec (a ≡ k) → Dec (b ≡ k) → eqb a k ≡ eqb b k
          decide (yes z) _ _ = ap (λ (x : ℕ). eqb x k) z
          decide (no z) (yes y) _ = clash (ap₂ (λ (x : Bool) (t : Bool). not x && (t || eqb k b)) (ne_eqb a b z) (eq-eqb k a (sym y))) d
          decide (no z) (no y) (yes v) = clash (ap₂ (λ (x : Bool) (t : Bool). not x && t) (ne_eqb a b z) (ap (λ (t : Bool). eqb k a || t) (eq-eqb k b (sym v)) ∙ or_on (eqb k a))) d
            where
              or_on : (b : Bool) → (b || true) ≡ true
              or_on true = refl
              or_on false = refl
          decide (no z) (no y) (no v) = ne_eqb a k y ∙ sym (ne_eqb b k v)

      go : (i : ℕ) → Dec (i / 4 ≡ q) → eqb (get_or m i 0) k ≡ eqb (get_or m' i 0) k
      go i (no z) = ap (λ (x : ℕ). eqb x k) (sym (h.others i z))
      go i (yes z) =
          let d : 4 * q + i % 4 ≡ i = omega (arith, z) in
          ap (λ (n : ℕ). eqb (get_or m n 0) k) (sym d) ∙ ap (λ (x : ℕ). eqb x k) (sym (h.before (i % 4) (omega arith)))
          ∙ same (byte_of old (i % 4)) (byte_of new (i % 4)) (each (i % 4) (omega arith)) ∙ ap (λ (x : ℕ). eqb x k) (is (i % 4) (omega arith)) ∙ ap (λ (n : ℕ). eqb (get_or m' n 0) k) d

  -- the word of such a channel is as it was, and each other's but for word q / 8
  words_same : (k : ℕ) → four_of old new k ≡ false → words_of m k ≡ words_of m' k
  unfolding words_of
  words_same k e = word_of-same 32 (in_word m k) (in_word m' k) (λ w l. same-word_of k e w)

  others_same : (k w : ℕ) → (w ≡ q / 8 → ⊥) → in_word m k w ≡ in_word m' k w
  unfolding in_word
  others_same k w d =
      any_same 32 (λ i. eqb (get_or m (32 * w + i) 0) k) (λ i. eqb (get_or m' (32 * w + i) 0) k)
      (λ i l. ap (λ (x : ℕ). eqb x k) (sym (h.others (32 * w + i) (λ z. d (omega (arith, z, l))))))

pub renewing-first : (f : Frame) (c : Cic) (m : List ℕ) (q old new : ℕ) {room : List ℕ} → Written m c.channel q old
    → ((j : ℕ) → j < 4 → byte_of new j ≡ get_or c.channel (4 * q + j) 0) → Laid (with_words f (made 256 (words_of m))) c room → Renewing f c (q / 8) (four_of old new) room
renewing-first f c m q old new h is s =
    record {
      words = made 256 (words_of m);
      stands = s;
      right =
          record {
            others = λ k v a b d. ap (λ (x : ℕ). bit x v) (made_get 256 (words_of m) k a) ∙ words-bit m k v b ∙ others_same m c.channel q old new h is k v d;
            done = λ k a e. made_get 256 (words_of m) k a ∙ words_same m c.channel q old new h is k e;
          };
    }

-- the bytes of register q as they stand
pub register-bytes : {f : Frame} {c : Cic} {room : List ℕ} (q : ℕ) → q < 256 → Laid f c room → (j : ℕ) → j < 4
    → byte_of (get_or room (256 + q) 0) j ≡ get_or c.channel (4 * q + j) 0
register-bytes {room = room} q l h j b =
    ap₂ (λ (x y : ℕ). byte_of (get_or room x 0) y) (let e : 256 + q ≡ 256 + (4 * q + j) / 4 = omega (arith, b) in e) (let e : j ≡ (4 * q + j) % 4 = omega (arith, b) in e)
    ∙ channel_byte h (4 * q + j) (omega (arith, l, b))

-- nothing is left to do
pub renewing_last : {f : Frame} {c : Cic} {w : ℕ} {todo : ℕ → Bool} {room : List ℕ} → ((j : ℕ) → todo j ≡ false) → Renewing f c w todo room
    → Laid (with_words f (made 256 (words_of c.channel))) c room
renewing_last {f} {c} {w} {todo} {room} z h =
    subst (λ (ws : List ℕ). Laid (with_words f ws) c room)
    (ext_get_or 0 h.words (made 256 (words_of c.channel)) (h.stands.framed.words ∙ sym (made-length 256 (words_of c.channel)))
    (λ k l. let a : k < 256 = omega (arith, l, h.stands.framed.words) in h.right.done k a (z k) ∙ sym (made_get 256 (words_of c.channel) k a)))
    h.stands

-- all four bytes are as they were
pub none_differ : (old new k : ℕ) → old ≡ new → four_of old new k ≡ false
none_differ old new k e = rw e (each (byte_of new 0) (byte_of new 1) (byte_of new 2) (byte_of new 3))
  where
    none : (a : ℕ) → one_of a a k ≡ false
    none a = ap (λ (b : Bool). not b && (eqb k a || eqb k a)) (eq-eqb a a refl)

    each : (a b d g : ℕ) → (one_of a a k || (one_of b b k || (one_of d d k || (one_of g g k || false)))) ≡ false
    each a b d g = ap₂ (λ (x y : Bool). x || (y || (one_of d d k || (one_of g g k || false)))) (none a) (none b) ∙ ap₂ (λ (x y : Bool). x || (y || false)) (none d) (none g)
