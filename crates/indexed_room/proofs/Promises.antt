-- The promises of the room, kept.
use mathlib.Core.Path.{◌≡◌, refl, sym, ap, ◌∙◌}
use mathlib.Core.Bool.{true}
use mathlib.Core.List.{List}
use mathlib.Core.Logic.{◌↔◌}
use Prim.Native.Nat.{ℕ, ◌+◌, ◌*◌, ◌<◌}
use native.Mathlib.Omega.{arith}
use borrow.Author.Tests.{eq-eqb, eqb-true}
use lib.Dec.{eqb}
use lib.ListN.{get_or}
use lib.Seq.{ext_get_or}
use Rattle.words.specs.Word.{bit}
use Rattle.words.proofs.CountingLaws.{any_some, some_any}
use Rattle.words.proofs.WordLaws.{bit-word_of}
use Rattle.rooms.proofs.PartLaws.{made-length, made_get}
use Rattle.cic_record.specs.declared.Cic.{Cic}
use Rattle.cic_room.specs.Room.{laid}
use Rattle.cic_room.proofs.Promises as cic
use Rattle.cic_held.specs.declared.Held.{Held}
use Rattle.cic_held.specs.declared.Prioritised.{Prioritised}
use Rattle.cic_held.specs.Held.{prioritised, held_of}
use Rattle.indexed_room.specs.Promises.{Promises}
use Rattle.indexed_room.specs.Room.{framed, Laid}
use Rattle.indexed_room.specs.Words.{in_word, words_of}
use Rattle.indexed_room.proofs.FrameLaws.{words-is}
use Rattle.indexed_room.proofs.HoldLaws.{choice-is, mode-is, global-is, host-held-is}

-- one record stands in a room
one-record : (p q : Prioritised) (r : List ℕ) → Laid p r → Laid q r → p ≡ q
one-record p q r h k =
    let hosts : p.held.host ≡ q.held.host = ext_get_or 0 p.held.host q.held.host (h.framed.held ∙ sym k.framed.held) (λ i l. let m : i < 256 = omega (arith, l, h.framed.held) in sym (host-held-is p h i m) ∙ host-held-is q k i m) in
    same p.cic q.cic p.held q.held ((cic.kept).whole (framed p) (framed q) p.cic q.cic r h k)
    (sym (choice-is p h) ∙ choice-is q k) (sym (mode-is p h) ∙ mode-is q k) (sym (global-is p h) ∙ global-is q k) hosts
  where
    same : (c d : Cic) (x y : Held) → c ≡ d → x.choice ≡ y.choice → x.hold ≡ y.hold → x.global ≡ y.global → x.host ≡ y.host → prioritised c x ≡ prioritised d y
    same c d x y e a b g l =
        ap (λ (t : Cic). prioritised t x) e ∙ ap (λ (t : ℕ). prioritised d (held_of t x.hold x.global x.host)) a
        ∙ ap (λ (t : ℕ). prioritised d (held_of y.choice t x.global x.host)) b ∙ ap (λ (t : ℕ). prioritised d (held_of y.choice y.hold t x.host)) g
        ∙ ap (λ (t : List ℕ). prioritised d (held_of y.choice y.hold y.global t)) l

-- the words of a channel
channel_words : (p : Prioritised) (r : List ℕ) (k w : ℕ) → Laid p r → k < 256 → w < 32
    → (bit (get_or r (1280 + k) 0) w ≡ true) ↔ ((i : ℕ) × (i < 32) × (get_or p.cic.channel (32 * w + i) 0 ≡ k))
unfolding words_of in_word
channel_words p r k w h l m = (λ e. let s = any_some 32 (λ i. eqb (get_or p.cic.channel (32 * w + i) 0) k) (sym is ∙ e) in (s.0, s.1, eqb-true (get_or p.cic.channel (32 * w + s.0) 0) k s.2), λ s. is ∙ some_any 32 (λ i. eqb (get_or p.cic.channel (32 * w + i) 0) k) s.0 s.1 (eq-eqb (get_or p.cic.channel (32 * w + s.0) 0) k s.2))
  where
    is : bit (get_or r (1280 + k) 0) w ≡ in_word p.cic.channel k w
    is = ap (λ (x : ℕ). bit x w) (words-is h k l ∙ made_get 256 (words_of p.cic.channel) k l) ∙ bit-word_of 32 (in_word p.cic.channel k) w m

pub kept : Promises
kept =
    record {
      determined = λ p r s h k. h.words ∙ sym k.words;
      whole = one-record;
      stands = λ p s b l. (laid (framed p) p.cic, record { framed = record { index = refl; held = l; words = made-length 256 (words_of p.cic.channel) }; shaped = s; bytes = b; words = refl });
      size = λ p r h. (cic.kept).size (framed p) p.cic r h;
      index = λ p r h. (choice-is p h, mode-is p h, global-is p h);
      held = λ p r k h l. host-held-is p h k l;
      words = channel_words;
    }
