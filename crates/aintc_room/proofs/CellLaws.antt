-- What stands in the room of a record, and of which record it is the room after a store.
use mathlib.Core.Path.{◌≡◌, refl, ap, ap₂, ◌∙◌, subst}
use mathlib.Core.Bool.{Bool, true, false}
use mathlib.Core.List.{List, []}
use Prim.Native.Nat.{ℕ, ◌+◌, ◌<◌}
use lib.ListN.{get_or, set, length-set, length-replicate}
use Rattle.words.specs.Choice.{pick}
use Rattle.words.specs.Counting.{one}
use Rattle.rooms.specs.Parts.{flat, Sized, place}
use Rattle.rooms.proofs.PartLaws.{part_get, part-set, made_get}
use Rattle.aintc_record.specs.declared.Aintc.{Aintc}
use Rattle.aintc_record.specs.declared.Chosen.{Chosen}
use Rattle.aintc_record.specs.Promises.{Shaped}
use Rattle.aintc_record.specs.Record.{with_lines, with_soft, with_masks, with_threshold, with_revision, with_guarded, with_autoidle, with_idle, side}
use Rattle.aintc_room.specs.Room.{fiq_word, bits_word, parts, sizes, laid, Laid, chosen_from, chosen_put, with_side}

-- a room of a record is one of each equal record
pub laid_as : {a b : Aintc} {room : List ℕ} → a ≡ b → Laid a room → Laid b room
laid_as {room = room} e h = subst (λ (t : Aintc). Laid t room) e h

-- the parts of the room of a record that has its shape
pub sized : (a : Aintc) → Shaped a → Sized (parts a) sizes
sized a s = (refl, (s.0, (s.1, (s.2, (refl, (refl, (length-replicate {A = ℕ} 68 0, (s.3, (length-replicate {A = ℕ} 1792 0, refl)))))))))

-- ---- what stands in the room

module _ {a : Aintc} {room : List ℕ} (h : Laid a room) where
  -- a single word
  pub cell-is : (i : ℕ) → get_or room i 0 ≡ get_or (flat (parts a)) i 0
  unfolding laid
  cell-is i = ap (λ (l : List ℕ). get_or l i 0) h.words

  pub kind-is : get_or room 0 0 ≡ 3
  kind-is = cell-is 0

  pub threshold-is : get_or room 1 0 ≡ a.threshold
  threshold-is = cell-is 1

  pub revision-is : get_or room 2 0 ≡ a.revision
  revision-is = cell-is 2

  pub guarded-is : get_or room 3 0 ≡ one a.guarded
  guarded-is = cell-is 3

  pub autoidle-is : get_or room 4 0 ≡ one a.autoidle
  autoidle-is = cell-is 4

  pub turbo-is : get_or room 5 0 ≡ one a.turbo
  turbo-is = cell-is 5

  pub funcidle-is : get_or room 6 0 ≡ one a.funcidle
  funcidle-is = cell-is 6

  -- the one that is chosen for an output
  pub active-is : (f : Bool) → get_or room (chosen_from f) 0 ≡ one (side a f).active
  unfolding side pick
  active-is true = cell-is 12
  active-is false = cell-is 8

  pub number_is : (f : Bool) → get_or room (chosen_from f + 1) 0 ≡ (side a f).number
  unfolding side pick
  number_is true = cell-is 13
  number_is false = cell-is 9

  pub priority-is : (f : Bool) → get_or room (chosen_from f + 2) 0 ≡ (side a f).priority
  unfolding side pick
  priority-is true = cell-is 14
  priority-is false = cell-is 10

  -- a word of a table
  pub part-is : (i k : ℕ) → k < get_or sizes i 0 → get_or room (place sizes i + k) 0 ≡ get_or (get_or (parts a) i []) k 0
  unfolding laid
  part-is i k l = ap (λ (x : List ℕ). get_or x (place sizes i + k) 0) h.words ∙ part_get (parts a) sizes (sized a h.shaped) i k l

  pub lines-is : (n : ℕ) → n < 4 → get_or room (16 + n) 0 ≡ get_or a.lines n 0
  lines-is n l = part-is 1 n l

  pub soft-is : (n : ℕ) → n < 4 → get_or room (20 + n) 0 ≡ get_or a.soft n 0
  soft-is n l = part-is 2 n l

  pub masks-is : (n : ℕ) → n < 4 → get_or room (24 + n) 0 ≡ get_or a.masks n 0
  masks-is n l = part-is 3 n l

  pub fiqs-is : (n : ℕ) → n < 4 → get_or room (28 + n) 0 ≡ fiq_word a.routes n
  fiqs-is n l = part-is 4 n l ∙ made_get 4 (fiq_word a.routes) n l

  pub bits_is : (j : ℕ) → j < 28 → get_or room (32 + j) 0 ≡ bits_word a.routes j
  bits_is j l = part-is 5 j l ∙ made_get 28 (bits_word a.routes) j l

  pub route-is : (k : ℕ) → k < 128 → get_or room (128 + k) 0 ≡ get_or a.routes k 0
  route-is k l = part-is 7 k l

  -- ---- a store

  pub put-threshold : (v : ℕ) → v < 256 → Laid (with_threshold a v) (set room 1 v)
  unfolding laid
  put-threshold v l = record { shaped = h.shaped; bytes = record { threshold = l; revision = h.bytes.revision; routes = h.bytes.routes }; words = ap (λ (x : List ℕ). set x 1 v) h.words }

  pub put-revision : (v : ℕ) → v < 256 → Laid (with_revision a v) (set room 2 v)
  unfolding laid
  put-revision v l = record { shaped = h.shaped; bytes = record { threshold = h.bytes.threshold; revision = l; routes = h.bytes.routes }; words = ap (λ (x : List ℕ). set x 2 v) h.words }

  pub put_guarded : (t : Bool) (w : ℕ) → w ≡ one t → Laid (with_guarded a t) (set room 3 w)
  unfolding laid
  put_guarded t w e =
      record { shaped = h.shaped; bytes = record { threshold = h.bytes.threshold; revision = h.bytes.revision; routes = h.bytes.routes }; words = ap₂ (λ (x : List ℕ) (y : ℕ). set x 3 y) h.words e }

  pub put_autoidle : (t : Bool) (w : ℕ) → w ≡ one t → Laid (with_autoidle a t) (set room 4 w)
  unfolding laid
  put_autoidle t w e =
      record { shaped = h.shaped; bytes = record { threshold = h.bytes.threshold; revision = h.bytes.revision; routes = h.bytes.routes }; words = ap₂ (λ (x : List ℕ) (y : ℕ). set x 4 y) h.words e }

  pub put-idle : (t u : Bool) (w x : ℕ) → w ≡ one t → x ≡ one u → Laid (with_idle a t u) (set (set room 5 w) 6 x)
  unfolding laid
  put-idle t u w x e d =
      record {
        shaped = h.shaped;
        bytes = record { threshold = h.bytes.threshold; revision = h.bytes.revision; routes = h.bytes.routes };
        words = ap₂ (λ (y : List ℕ) (z : ℕ). set (set y 5 z) 6 x) h.words e ∙ ap (λ (z : ℕ). set (set (laid a) 5 (one t)) 6 z) d;
      }

  -- another one chosen for an output
  pub put-side : (f : Bool) (c : Chosen) → Laid (with_side a f c) (chosen_put (chosen_from f) c room)
  unfolding laid
  put-side true c =
      record { shaped = h.shaped; bytes = record { threshold = h.bytes.threshold; revision = h.bytes.revision; routes = h.bytes.routes }; words = ap (chosen_put 12 c) h.words }
  put-side false c =
      record { shaped = h.shaped; bytes = record { threshold = h.bytes.threshold; revision = h.bytes.revision; routes = h.bytes.routes }; words = ap (chosen_put 8 c) h.words }

  -- word n of a table
  pub put_lines : (n v : ℕ) → n < 4 → Laid (with_lines a (set a.lines n v)) (set room (16 + n) v)
  unfolding laid
  put_lines n v l =
      record {
        shaped = (simp length-set h.shaped.0, h.shaped.1, h.shaped.2, h.shaped.3);
        bytes = record { threshold = h.bytes.threshold; revision = h.bytes.revision; routes = h.bytes.routes };
        words = ap (λ (x : List ℕ). set x (16 + n) v) h.words ∙ part-set (parts a) sizes (sized a h.shaped) 1 n v l;
      }

  pub put_soft : (n v : ℕ) → n < 4 → Laid (with_soft a (set a.soft n v)) (set room (20 + n) v)
  unfolding laid
  put_soft n v l =
      record {
        shaped = (h.shaped.0, simp length-set h.shaped.1, h.shaped.2, h.shaped.3);
        bytes = record { threshold = h.bytes.threshold; revision = h.bytes.revision; routes = h.bytes.routes };
        words = ap (λ (x : List ℕ). set x (20 + n) v) h.words ∙ part-set (parts a) sizes (sized a h.shaped) 2 n v l;
      }

  pub put_masks : (n v : ℕ) → n < 4 → Laid (with_masks a (set a.masks n v)) (set room (24 + n) v)
  unfolding laid
  put_masks n v l =
      record {
        shaped = (h.shaped.0, h.shaped.1, simp length-set h.shaped.2, h.shaped.3);
        bytes = record { threshold = h.bytes.threshold; revision = h.bytes.revision; routes = h.bytes.routes };
        words = ap (λ (x : List ℕ). set x (24 + n) v) h.words ∙ part-set (parts a) sizes (sized a h.shaped) 3 n v l;
      }
