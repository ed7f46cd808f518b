-- The words of the channels system interrupt by system interrupt, what is held host by host, and the record in a room.
use mathlib.Core.Path.{◌≡◌, refl, sym, ap, ◌∙◌, subst}
use mathlib.Core.Bool.{Bool, true, false, ◌&&◌, ◌||◌}
use mathlib.Core.List.{List}
use Prim.Native.Nat.{ℕ, zero, suc, ◌+◌, ◌-◌, ◌*◌, ◌/◌, ◌%◌, ◌^◌, ◌≤◌, ◌<◌}
use native.Mathlib.Decide.{ℕ_discrete}
use native.Mathlib.Omega.{arith}
use borrow.Author.Tests.{eq-eqb, ne_eqb, eqb-true}
use lib.Dec.{eqb}
use lib.ListN.{get_or, set, length, replicate, length-set}
use lib.Seq.{get_or-set_same, get_or-set_other, ext_get_or}
use Rattle.words.specs.Array.{byte_of}
use Rattle.words.specs.Choice.{pick}
use Rattle.words.specs.Counting.{any_below, upto}
use Rattle.words.specs.Word.{bit, with_bit}
use Rattle.words.proofs.ArrayLaws.{zeros_get_d}
use Rattle.words.proofs.ChoiceLaws.{pick_true, pick-false}
use Rattle.words.proofs.CountingLaws.{any-none_yet, any-more, any_some, some_any, upto-none, upto-more, upto_done}
use Rattle.words.proofs.TruthLaws.{and_left, and_right, and_both, same_test}
use Rattle.words.proofs.WordLaws.{bit-none, bit-with_bit, with_bit_lt, word-is}
use Rattle.rooms.specs.Parts.{made}
use Rattle.rooms.proofs.PartLaws.{made-length, made_get}
use Rattle.cic_record.specs.declared.Channel.{Channel}
use Rattle.cic_record.specs.declared.Cic.{Cic}
use Rattle.cic_record.specs.Kinds.{channel_number}
use Rattle.cic_record.proofs.PartsLaws.{sound-counts}
use Rattle.cic_room.specs.Room.{Frame, plain}
use Rattle.cic_room.specs.Room as stands
use Rattle.cic_held.specs.declared.Prioritised.{Prioritised}
use Rattle.cic_held.specs.Held.{prioritised, sound}
use Rattle.cic_indexed.proofs.SoundLaws.{sound-cic, global_small, host_small}
use Rattle.indexed_room.specs.Room.{Laid, with_held, with_words}
use Rattle.indexed_room.specs.Words.{in_word, words_of}
use Rattle.indexed_room.proofs.FrameLaws.{words-is, put_words, put_index, put-held, put-kind, channel_byte}
use Rattle.indexed_room.proofs.HoldLaws.{choice-is, mode-is, global-is, host-held-is}
use Rattle.indexed_room.specs.Entered.{Entered}

-- ---- the words of the channels

pub entered-none : (f : Frame) (c : Cic) {room : List ℕ} → f.words ≡ replicate 256 0 → stands.Laid f c room → Entered f c 0 room
entered-none f c e h =
    record {
      words = f.words;
      stands = h;
      small = λ k l. subst (λ (x : ℕ). x < 2 ^ 32) (sym (zero_at k)) (omega arith);
      bits = λ k w l m. ap (λ (x : ℕ). bit x w) (zero_at k) ∙ bit-none w ∙ any-none_yet (λ i. eqb (i / 32) w && eqb (get_or c.channel i 0) k);
    }
  where
    zero_at : (k : ℕ) → get_or f.words k 0 ≡ 0
    zero_at k = ap (λ (ws : List ℕ). get_or ws k 0) e ∙ zeros_get_d 256 k

module _ {f : Frame} {c : Cic} {n : ℕ} {room : List ℕ} (h : Entered f c n room) (l : n < 1024) where
  pub entered-more : (k : Channel) (x : ℕ) → k ≡ channel_number (byte_of (get_or room (256 + n / 4) 0) (n % 4)) → k.0 < 256
      → x ≡ with_bit (get_or room (1280 + k.0) 0) (n / 32) true → Entered f c (n + 1) (set room (1280 + k.0) x)
  entered-more k x e b d =
      record {
        words = set h.words k.0 new;
        stands = rw (d ∙ ap (λ (y : ℕ). with_bit y (n / 32) true) (words-is h.stands k.0 b)) (put_words h.stands k.0 new b);
        small = λ j m. fits j m (ℕ_discrete j k.0);
        bits = λ j w m o. told j w m o (ℕ_discrete j k.0);
      }
    where
      new : ℕ
      new = with_bit (get_or h.words k.0 0) (n / 32) true

      of : k.0 ≡ get_or c.channel n 0
      of = ap (λ (y : Channel). y.0) e ∙ channel_byte h.stands n l

      here : get_or (set h.words k.0 new) k.0 0 ≡ new
      here = get_or-set_same h.words k.0 new 0 (omega (arith, b, h.stands.framed.words))

      fits : (j : ℕ) → j < 256 → Dec (j ≡ k.0) → get_or (set h.words k.0 new) j 0 < 2 ^ 32
      fits j m (yes z) = rw (z, here) (with_bit_lt (get_or h.words k.0 0) (n / 32) true)
      fits j m (no z) = rw (get_or-set_other h.words k.0 j new 0 z) (h.small j m)

      told : (j w : ℕ) → j < 256 → w < 32 → Dec (j ≡ k.0)
          → bit (get_or (set h.words k.0 new) j 0) w ≡ any_below (n + 1) (λ i. eqb (i / 32) w && eqb (get_or c.channel i 0) j)
      told j w m o (yes z) =
          rw z (ap (λ (y : ℕ). bit y w) here ∙ bit-with_bit (get_or h.words k.0 0) (n / 32) true w o ∙ go (ℕ_discrete w (n / 32))
          ∙ any-more (λ i. eqb (i / 32) w && eqb (get_or c.channel i 0) k.0) n (h.bits k.0 w b o) refl)
        where
          old : Bool
          old = bit (get_or h.words k.0 0) w

          mine : eqb (get_or c.channel n 0) k.0 ≡ true
          mine = eq-eqb (get_or c.channel n 0) k.0 (sym of)

          or_on : (t : Bool) → true ≡ (t || true)
          or_on true = refl
          or_on false = refl

          or_off : (t : Bool) → t ≡ (t || false)
          or_off true = refl
          or_off false = refl

          go : Dec (w ≡ n / 32) → pick (eqb w (n / 32)) true old ≡ (old || (eqb (n / 32) w && eqb (get_or c.channel n 0) k.0))
          go (yes y) = sym (pick_true old (eq-eqb w (n / 32) y)) ∙ or_on old ∙ ap (λ (t : Bool). old || t) (sym (and_both (eq-eqb (n / 32) w (sym y)) mine))
          go (no y) =
              sym (pick-false true (ne_eqb w (n / 32) y)) ∙ or_off old
              ∙ ap (λ (t : Bool). old || (t && eqb (get_or c.channel n 0) k.0)) (sym (ne_eqb (n / 32) w (λ q. y (sym q))))
      told j w m o (no z) =
          ap (λ (y : ℕ). bit y w) (get_or-set_other h.words k.0 j new 0 z) ∙ or_off (bit (get_or h.words j 0) w)
          ∙ any-more (λ i. eqb (i / 32) w && eqb (get_or c.channel i 0) j) n (h.bits j w m o) (sym other)
        where
          or_off : (t : Bool) → t ≡ (t || false)
          or_off true = refl
          or_off false = refl

          and-off : (t : Bool) → (t && false) ≡ false
          and-off true = refl
          and-off false = refl

          other : (eqb (n / 32) w && eqb (get_or c.channel n 0) j) ≡ false
          other = ap (λ (t : Bool). eqb (n / 32) w && t) (ne_eqb (get_or c.channel n 0) j (λ q. z (sym (of ∙ q)))) ∙ and-off (eqb (n / 32) w)

-- all of them
pub entered_all : (f : Frame) (c : Cic) (n : ℕ) {room : List ℕ} → n ≤ 1024 → 1024 ≤ n → Entered f c n room → stands.Laid (with_words f (made 256 (words_of c.channel))) c room
entered_all f c n {room} a b h =
    subst (λ (ws : List ℕ). stands.Laid (with_words f ws) c room)
    (ext_get_or 0 h.words (made 256 (words_of c.channel)) (h.stands.framed.words ∙ sym (made-length 256 (words_of c.channel)))
    (λ k l. let m : k < 256 = omega (arith, l, h.stands.framed.words) in word k m ∙ sym (made_get 256 (words_of c.channel) k m)))
    h.stands
  where
    in_word_lem : (k w : ℕ) → w < 32 → any_below n (λ i. eqb (i / 32) w && eqb (get_or c.channel i 0) k) ≡ in_word c.channel k w
    in_word_lem k w l = unfold in_word in (same_test (any_below n p) (any_below 32 q) there back)
      where
        p : ℕ → Bool
        p i = eqb (i / 32) w && eqb (get_or c.channel i 0) k

        q : ℕ → Bool
        q i = eqb (get_or c.channel (32 * w + i) 0) k

        there : any_below n p ≡ true → any_below 32 q ≡ true
        there e =
            let r = any_some n p e in
            let y : r.0 / 32 ≡ w = eqb-true (r.0 / 32) w (and_left (eqb (r.0 / 32) w) (eqb (get_or c.channel r.0 0) k) r.2) in
            some_any 32 q (r.0 - 32 * w) (omega (arith, y)) (ap (λ (i : ℕ). eqb (get_or c.channel i 0) k) (let z : 32 * w + (r.0 - 32 * w) ≡ r.0 = omega (arith, y) in z) ∙ and_right (eqb (r.0 / 32) w) (eqb (get_or c.channel r.0 0) k) r.2)

        back : any_below 32 q ≡ true → any_below n p ≡ true
        back e =
            let r = any_some 32 q e in
            some_any n p (32 * w + r.0) (omega (arith, l, r.1, b)) (and_both (eq-eqb ((32 * w + r.0) / 32) w (omega (arith, r.1))) r.2)

    word : (k : ℕ) → k < 256 → get_or h.words k 0 ≡ words_of c.channel k
    word k l = unfold words_of in (word-is 32 (get_or h.words k 0) (in_word c.channel k) (h.small k l) (λ w m. h.bits k w l m ∙ in_word_lem k w m))

-- ---- what is held

abbrev pub hold_turn : List ℕ → List ℕ → ℕ → List ℕ
hold_turn ys xs k = set xs k (get_or ys k 0)

held-length : (ys xs : List ℕ) (n : ℕ) → length (upto (hold_turn ys) xs n) ≡ length xs
unfolding upto
held-length ys xs zero = refl
held-length ys xs (suc n) = length-set (upto (hold_turn ys) xs n) n (get_or ys n 0) ∙ held-length ys xs n

held_get : (ys xs : List ℕ) (n k : ℕ) → n ≤ length xs → k < n → get_or (upto (hold_turn ys) xs n) k 0 ≡ get_or ys k 0
unfolding upto
held_get ys xs zero k l m = absurd (omega (arith, m))
held_get ys xs (suc n) k l m = go (λ z. held_get ys xs n k (omega (arith, l)) (omega (arith, m, z))) (ℕ_discrete k n)
  where
    go : ((k ≡ n → ⊥) → get_or (upto (hold_turn ys) xs n) k 0 ≡ get_or ys k 0) → Dec (k ≡ n) → get_or (set (upto (hold_turn ys) xs n) n (get_or ys n 0)) k 0 ≡ get_or ys k 0
    go r (yes z) = rw z (get_or-set_same (upto (hold_turn ys) xs n) n (get_or ys n 0) 0 (omega (arith, l, held-length ys xs n)))
    go r (no z) = get_or-set_other (upto (hold_turn ys) xs n) n k (get_or ys n 0) 0 z ∙ r z

held_whole : (ys xs : List ℕ) → length xs ≡ 256 → length ys ≡ 256 → upto (hold_turn ys) xs 256 ≡ ys
held_whole ys xs e d =
    ext_get_or 0 (upto (hold_turn ys) xs 256) ys (held-length ys xs 256 ∙ e ∙ sym d)
    (λ k l. held_get ys xs 256 k (omega (arith, e)) (omega (arith, l, held-length ys xs 256, e)))

pub held_none : (f : Frame) (c : Cic) (ys : List ℕ) {room : List ℕ} → stands.Laid f c room → stands.Laid (with_held f (upto (hold_turn ys) f.held 0)) c room
held_none f c ys {room} h = subst (λ (xs : List ℕ). stands.Laid (with_held f xs) c room) (upto-none (hold_turn ys) f.held) h

pub held_more : (f : Frame) (c : Cic) (ys : List ℕ) (n x : ℕ) {room : List ℕ} → n < 256 → x ≡ get_or ys n 0
    → stands.Laid (with_held f (upto (hold_turn ys) f.held n)) c room → stands.Laid (with_held f (upto (hold_turn ys) f.held (n + 1))) c (set room (1024 + n) x)
held_more f c ys n x {room} l e h =
    subst (λ (xs : List ℕ). stands.Laid (with_held f xs) c (set room (1024 + n) x))
    (upto-more (hold_turn ys) f.held n refl (ap (λ (y : ℕ). set (upto (hold_turn ys) f.held n) n y) e)) (put-held h n x l)

pub held_all : (f : Frame) (c : Cic) (ys : List ℕ) (n : ℕ) {room : List ℕ} → length ys ≡ 256 → length f.held ≡ 256 → n ≤ 256 → 256 ≤ n
    → stands.Laid (with_held f (upto (hold_turn ys) f.held n)) c room → stands.Laid (with_held f ys) c room
held_all f c ys n {room} d e a b h =
    subst (λ (xs : List ℕ). stands.Laid (with_held f xs) c room) (upto_done (hold_turn ys) f.held n 256 a b refl ∙ held_whole ys f.held e d) h

-- ---- the whole room

pub laid-all : (p : Prioritised) (x : ℕ) {room : List ℕ} → x ≡ p.held.global
    → stands.Laid (with_held (with_words (plain true) (made 256 (words_of p.cic.channel))) p.held.host) p.cic room
    → Laid p (set (set (set (set room 0 4) 9 p.held.choice) 10 p.held.hold) 11 x)
laid-all p x e h =
    rw e (put_index (put_index (put_index (put-kind h 4) 0 p.held.choice (omega arith)) 1 p.held.hold (omega arith)) 2 p.held.global (omega arith))

-- ---- out of a room

pub record_is : (p : Prioritised) (c : Cic) (g : ℕ) (host : List ℕ) {room : List ℕ} → sound p ≡ true → Laid p room → c ≡ p.cic → g ≡ get_or room 11 0 % 65536
    → length host ≡ 256 → ((k : ℕ) → k < 256 → get_or host k 0 ≡ get_or room (1024 + k) 0 % 65536)
    → ◌≡◌ {A = Prioritised} (prioritised c (record { choice = get_or room 9 0; hold = get_or room 10 0; global = g; host = host })) p
record_is p c g host {room} ok h e d long f =
    rw (e, choice-is p h, mode-is p h, global, hosts) refl
  where
    most : p.cic.systems ≤ 1024
    most = (sound-counts p.cic (sound-cic p ok)).systems.1

    global : g ≡ p.held.global
    global = d ∙ (let x = global-is p h in let y = global_small p ok in omega (arith, x, y, most))

    hosts : host ≡ p.held.host
    hosts =
        ext_get_or 0 host p.held.host (long ∙ sym h.framed.held)
        (λ k l. let m : k < 256 = omega (arith, l, long) in let x = host-held-is p h k m in let y = host_small p k ok m in f k m ∙ omega (arith, x, y, most))
