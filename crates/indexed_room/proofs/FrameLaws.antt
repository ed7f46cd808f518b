-- What stands in the room of a CIC in a frame, and what a store to the frame makes of it.
use mathlib.Core.Path.{◌≡◌, refl, sym, ap, ap₂, ◌∙◌, subst}
use mathlib.Core.Bool.{true}
use mathlib.Core.List.{List, []}
use Prim.Native.Nat.{ℕ, ◌+◌, ◌*◌, ◌/◌, ◌%◌, ◌<◌}
use native.Mathlib.Omega.{arith}
use lib.Dec.{eqb}
use lib.ListN.{get_or, set, length-set, length-replicate}
use Rattle.words.specs.Array.{byte_of}
use Rattle.words.specs.Word.{bit}
use Rattle.words.proofs.ChoiceLaws.{pick_true}
use Rattle.rooms.specs.Parts.{Sized, place}
use Rattle.rooms.proofs.PartLaws.{part_get, part-set, made-length, made_get}
use Rattle.cic_record.specs.declared.Cic.{Cic}
use Rattle.cic_record.specs.Promises.{Shaped}
use Rattle.cic_registers.specs.Maps.{map_read}
use Rattle.cic_registers.proofs.MapsPromises as maps
use Rattle.cic_room.specs.Room.{Frame, Framed, active_word, of_channel, of_host, some_word, shown_word, permitted, if_kept, parts, sizes, laid, Laid}
use Rattle.indexed_room.specs.Marks.{Marks}
use Rattle.indexed_room.specs.Room.{with_kind, with_index, with_held, with_words}

-- a room of a record in a frame is one in each equal frame
pub frame_as : {f g : Frame} {c : Cic} {room : List ℕ} → f ≡ g → Laid f c room → Laid g c room
frame_as {c = c} {room = room} e h = subst (λ (t : Frame). Laid t c room) e h

sized : (f : Frame) (c : Cic) → Framed f → Shaped c → Sized (parts f c) sizes
sized f c g s = (
  refl,
  (
    made-length 2 (if_kept f (shown_word (permitted c) (of_host c))),
    (
      g.index,
      (
        length-replicate {A = ℕ} 4 0,
        (
          s.5,
          (
            made-length 8 (if_kept f (some_word (of_host c))),
            (
              made-length 8 (if_kept f (some_word (of_channel c))),
              (
                length-replicate {A = ℕ} 24 0,
                (
                  s.0,
                  (
                    s.1,
                    (
                      s.2,
                      (
                        made-length 32 (if_kept f (active_word c)),
                        (
                          made-length 64 (map_read 256 c.host),
                          (
                            made-length 256 (map_read 1024 c.channel),
                            (
                              made-length 256 (if_kept f (of_channel c)),
                              (
                                made-length 256 (if_kept f (of_host c)),
                                (g.held, (g.words, (length-replicate {A = ℕ} 512 0, refl))),
                              ),
                            ),
                          ),
                        ),
                      ),
                    ),
                  ),
                ),
              ),
            ),
          ),
        ),
      ),
    ),
  ),
)

module _ {f : Frame} {c : Cic} {room : List ℕ} (h : Laid f c room) where
  part-is : (i k : ℕ) → k < get_or sizes i 0 → get_or room (place sizes i + k) 0 ≡ get_or (get_or (parts f c) i []) k 0
  unfolding laid
  part-is i k l = ap (λ (x : List ℕ). get_or x (place sizes i + k) 0) h.words ∙ part_get (parts f c) sizes (sized f c h.framed h.shaped) i k l

  -- ---- what stands in the frame

  pub index_is : (k : ℕ) → k < 3 → get_or room (9 + k) 0 ≡ get_or f.index k 0
  index_is k l = part-is 2 k l

  pub held-is : (k : ℕ) → k < 256 → get_or room (1024 + k) 0 ≡ get_or f.held k 0
  held-is k l = part-is 16 k l

  pub words-is : (k : ℕ) → k < 256 → get_or room (1280 + k) 0 ≡ get_or f.words k 0
  words-is k l = part-is 17 k l

  pub hosts-is : get_or room 3 0 ≡ c.hosts
  hosts-is = part-is 0 3 (omega arith)

  -- ---- what is kept

  kept-is : (t : ℕ → ℕ) (k : ℕ) → f.kept ≡ true → if_kept f t k ≡ t k
  kept-is t k e = sym (pick_true 0 e)

  pub active-is : f.kept ≡ true → (k : ℕ) → k < 32 → get_or room (160 + k) 0 ≡ active_word c k
  active-is e k l = part-is 11 k l ∙ made_get 32 (if_kept f (active_word c)) k l ∙ kept-is (active_word c) k e

  pub busy-is : f.kept ≡ true → (k : ℕ) → k < 8 → get_or room (32 + k) 0 ≡ some_word (of_channel c) k
  busy-is e k l = part-is 6 k l ∙ made_get 8 (if_kept f (some_word (of_channel c))) k l ∙ kept-is (some_word (of_channel c)) k e

  pub host-count-is : f.kept ≡ true → (k : ℕ) → k < 256 → get_or room (768 + k) 0 ≡ of_host c k
  host-count-is e k l = part-is 15 k l ∙ made_get 256 (if_kept f (of_host c)) k l ∙ kept-is (of_host c) k e

  -- ---- a store to the frame

  pub put_index : (k v : ℕ) → k < 3 → Laid (with_index f (set f.index k v)) c (set room (9 + k) v)
  unfolding laid
  put_index k v l =
      record {
        framed = record { index = length-set f.index k v ∙ h.framed.index; held = h.framed.held; words = h.framed.words };
        shaped = h.shaped;
        bytes = h.bytes;
        words = ap (λ (x : List ℕ). set x (9 + k) v) h.words ∙ part-set (parts f c) sizes (sized f c h.framed h.shaped) 2 k v l;
      }

  pub put-kind : (v : ℕ) → Laid (with_kind f v) c (set room 0 v)
  unfolding laid
  put-kind v =
      record {
        framed = record { index = h.framed.index; held = h.framed.held; words = h.framed.words };
        shaped = h.shaped;
        bytes = h.bytes;
        words = ap (λ (x : List ℕ). set x 0 v) h.words ∙ part-set (parts f c) sizes (sized f c h.framed h.shaped) 0 0 v (omega arith);
      }

  pub put-held : (k v : ℕ) → k < 256 → Laid (with_held f (set f.held k v)) c (set room (1024 + k) v)
  unfolding laid
  put-held k v l =
      record {
        framed = record { index = h.framed.index; held = length-set f.held k v ∙ h.framed.held; words = h.framed.words };
        shaped = h.shaped;
        bytes = h.bytes;
        words = ap (λ (x : List ℕ). set x (1024 + k) v) h.words ∙ part-set (parts f c) sizes (sized f c h.framed h.shaped) 16 k v l;
      }

  pub put_words : (k v : ℕ) → k < 256 → Laid (with_words f (set f.words k v)) c (set room (1280 + k) v)
  unfolding laid
  put_words k v l =
      record {
        framed = record { index = h.framed.index; held = h.framed.held; words = length-set f.words k v ∙ h.framed.words };
        shaped = h.shaped;
        bytes = h.bytes;
        words = ap (λ (x : List ℕ). set x (1280 + k) v) h.words ∙ part-set (parts f c) sizes (sized f c h.framed h.shaped) 17 k v l;
      }

  -- ---- the maps, byte by byte

  pub channel_byte : (s : ℕ) → s < 1024 → byte_of (get_or room (256 + s / 4) 0) (s % 4) ≡ get_or c.channel s 0
  channel_byte s l =
      ap (λ (x : ℕ). byte_of x (s % 4)) (part-is 13 (s / 4) (omega (arith, l)) ∙ made_get 256 (map_read 1024 c.channel) (s / 4) (omega (arith, l)))
      ∙ (maps.kept).reads 1024 c.channel (s / 4) (s % 4) h.bytes.0 (omega arith) (omega (arith, l))
      ∙ ap (λ (n : ℕ). get_or c.channel n 0) (omega arith)

  pub host_byte : (k : ℕ) → k < 256 → byte_of (get_or room (192 + k / 4) 0) (k % 4) ≡ get_or c.host k 0
  host_byte k l =
      ap (λ (x : ℕ). byte_of x (k % 4)) (part-is 12 (k / 4) (omega (arith, l)) ∙ made_get 64 (map_read 256 c.host) (k / 4) (omega (arith, l)))
      ∙ (maps.kept).reads 256 c.host (k / 4) (k % 4) h.bytes.1 (omega arith) (omega (arith, l))
      ∙ ap (λ (n : ℕ). get_or c.host n 0) (omega arith)

  -- which system interrupts of word w are of channel k, and which channels of word w are mapped to host b
  pub channel-marks : (w k x : ℕ) → w < 32 → Marks room (256 + 8 * w) k 32 x → (i : ℕ) → i < 32 → bit x i ≡ eqb (get_or c.channel (32 * w + i) 0) k
  channel-marks w k x l m i n =
      m.bits i n ∙ ap₂ (λ (a b : ℕ). eqb (byte_of (get_or room a 0) b) k) (omega (arith, n)) (omega (arith, n))
      ∙ ap (λ (a : ℕ). eqb a k) (channel_byte (32 * w + i) (omega (arith, l, n)))

  pub host-marks : (w b x : ℕ) → w < 8 → Marks room (192 + 8 * w) b 32 x → (j : ℕ) → j < 32 → bit x j ≡ eqb (get_or c.host (32 * w + j) 0) b
  host-marks w b x l m j n =
      m.bits j n ∙ ap₂ (λ (a d : ℕ). eqb (byte_of (get_or room a 0) d) b) (omega (arith, n)) (omega (arith, n))
      ∙ ap (λ (a : ℕ). eqb a b) (host_byte (32 * w + j) (omega (arith, l, n)))
