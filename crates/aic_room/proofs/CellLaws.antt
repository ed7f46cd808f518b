-- What stands in the room of a record, and of which record it is the room after a store.
use mathlib.Core.Path.{◌≡◌, refl, ap, ap₂, ◌∙◌, subst}
use mathlib.Core.List.{List, []}
use Prim.Native.Nat.{ℕ, ◌+◌, ◌%◌, ◌<◌}
use lib.ListN.{length, get_or, set, length-set, length-replicate}
use Rattle.words.specs.Word.{either, both, without}
use Rattle.rooms.specs.Parts.{flat, Sized, place}
use Rattle.rooms.proofs.PartLaws.{part_get, part-set, part_sized, made-length, made_get}
use Rattle.aic_record.specs.declared.Aic.{Aic}
use Rattle.aic_record.specs.declared.Seen.{Seen}
use Rattle.aic_record.specs.Mode.{priority, kind, edge}
use Rattle.aic_record.specs.Promises.{Shaped}
use Rattle.aic_record.specs.Record.{with_lines, with_enabled, with_memory, with_forced, with_spurious, with_debug, with_vector, with_handlers, with_seen}
use Rattle.aic_record.specs.Sound.{level_below}
use Rattle.aic_sources.specs.Pending.{active_low, active_at, active, pending, asking, edge_word}
use Rattle.aic_sources.specs.Fast.{fast}
use Rattle.aic_sources.specs.Normal.{waiting}
use Rattle.aic_sources.specs.Search.{mode_word}
use Rattle.aic_sources.proofs.PendingLaws.{edges_are}
use Rattle.aic_levels.specs.Levels.{level_word, any_of, highest_of}
use Rattle.aic_room.specs.Room.{table, fast_word, parts, sizes, room_of, laid, Laid, Stale}

-- a room of a record is one of each equal record
pub laid_as : {a b : Aic} {room : List ℕ} → a ≡ b → Laid a room → Laid b room
laid_as {room = room} e h = subst (λ (t : Aic). Laid t room) e h

table-length : length table ≡ 256
unfolding table
table-length = made-length 256 highest_of

-- the parts of the room of a record that has its shape
pub sized : (a : Aic) (f : ℕ → ℕ) (any : ℕ) → Shaped a → Sized (parts a f any) sizes
sized a f any s = (refl, (refl, (refl, (s.2, (s.3, (refl, (s.0, (s.1, (length-replicate {A = ℕ} 128 0, (table-length, (length-replicate {A = ℕ} 1536 0, refl)))))))))))

-- ---- what stands in the room

module _ {a : Aic} {room : List ℕ} (h : Laid a room) where
  abbrev own : List (List ℕ)
  own = parts a (level_word a) (any_of a)

  -- a single word
  pub cell-is : (i : ℕ) → get_or room i 0 ≡ get_or (flat own) i 0
  unfolding laid room_of
  cell-is i = ap (λ (l : List ℕ). get_or l i 0) h.words

  pub kind-is : get_or room 0 0 ≡ 0
  kind-is = cell-is 0

  pub lines-is : get_or room 1 0 ≡ a.lines
  lines-is = cell-is 1

  pub enabled-is : get_or room 2 0 ≡ a.enabled
  enabled-is = cell-is 2

  pub memory-is : get_or room 3 0 ≡ a.memory
  memory-is = cell-is 3

  pub forced-is : get_or room 4 0 ≡ a.forced
  forced-is = cell-is 4

  pub spurious-is : get_or room 5 0 ≡ a.spurious
  spurious-is = cell-is 5

  pub debug-is : get_or room 6 0 ≡ a.debug
  debug-is = cell-is 6

  pub depth_is : get_or room 7 0 ≡ a.depth
  depth_is = cell-is 7

  pub seen_what-is : get_or room 8 0 ≡ a.seen.what
  seen_what-is = cell-is 8

  pub seen_source-is : get_or room 9 0 ≡ a.seen.source
  seen_source-is = cell-is 9

  pub seen_level-is : get_or room 10 0 ≡ a.seen.level
  seen_level-is = cell-is 10

  pub seen_vector-is : get_or room 11 0 ≡ a.seen.vector
  seen_vector-is = cell-is 11

  pub any-is : get_or room 12 0 ≡ any_of a
  any-is = cell-is 12

  pub edges-is : get_or room 13 0 ≡ edge_word a
  edges-is = cell-is 13 ∙ edges_are a

  pub external-is : get_or room 15 0 ≡ a.external
  external-is = cell-is 15

  pub low-is : get_or room 16 0 ≡ without a.external (mode_word a.mode 6)
  low-is = cell-is 16

  pub fast-is : get_or room 18 0 ≡ both a.enabled (fast_word a)
  fast-is = cell-is 18

  pub last-is : get_or room 19 0 ≡ level_below a.level a.depth
  last-is = cell-is 19

  -- a word of a table
  pub part-is : (i k : ℕ) → k < get_or sizes i 0 → get_or room (place sizes i + k) 0 ≡ get_or (get_or own i []) k 0
  unfolding laid room_of
  part-is i k l = ap (λ (x : List ℕ). get_or x (place sizes i + k) 0) h.words ∙ part_get own sizes (sized a (level_word a) (any_of a) h.shaped) i k l

  pub level_word-is : (p : ℕ) → p < 8 → get_or room (24 + p) 0 ≡ level_word a p
  level_word-is p l = part-is 1 p l ∙ made_get 8 (level_word a) p l

  pub source_is : (i : ℕ) → i < 8 → get_or room (40 + i) 0 ≡ get_or a.source i 0
  source_is i l = part-is 3 i l

  pub level-is : (i : ℕ) → i < 8 → get_or room (48 + i) 0 ≡ get_or a.level i 0
  level-is i l = part-is 4 i l

  pub mode-is : (k : ℕ) → k < 32 → get_or room (64 + k) 0 ≡ get_or a.mode k 0
  mode-is k l = part-is 6 k l

  pub vector-is : (k : ℕ) → k < 32 → get_or room (96 + k) 0 ≡ get_or a.vector k 0
  vector-is k l = part-is 7 k l

  pub table_is : (b : ℕ) → b < 256 → get_or room (256 + b) 0 ≡ highest_of b
  unfolding table
  table_is b l = part-is 9 b l ∙ made_get 256 highest_of b l

-- the priority of a source, from its mode
pub priority-is : {a : Aic} {room : List ℕ} → Laid a room → (k : ℕ) → k < 32 → get_or room (64 + k) 0 % 8 ≡ priority a k
unfolding priority
priority-is h k l = ap (λ (m : ℕ). m % 8) (mode-is h k l)

-- ---- a store after which the levels are to be renewed

module _ {a : Aic} {room : List ℕ} (h : Stale a room) where
  pub put_lines : {w x : ℕ} → w ≡ x → Stale (with_lines a x) (set room 1 w)
  unfolding room_of
  put_lines e = record { shaped = h.shaped; levels = h.levels; any = h.any; words = ap₂ (λ (l : List ℕ) (y : ℕ). set l 1 y) h.words e }

  pub put_memory : {w x : ℕ} → w ≡ x → Stale (with_memory a x) (set room 3 w)
  unfolding room_of
  put_memory e = record { shaped = h.shaped; levels = h.levels; any = h.any; words = ap₂ (λ (l : List ℕ) (y : ℕ). set l 3 y) h.words e }

  -- the enabled sources, and the forced ones, with the words of both sides
  pub put_enabled : (x f n m : ℕ) → f ≡ either 1 (get_or room 4 0) → n ≡ without x f → m ≡ both x f → Stale (with_enabled a x) (set (set (set room 2 x) 17 n) 18 m)
  unfolding room_of
  put_enabled x f n m e p q =
      let g : f ≡ fast_word a = e ∙ ap (λ (l : List ℕ). either 1 (get_or l 4 0)) h.words in
      record {
        shaped = h.shaped;
        levels = h.levels;
        any = h.any;
        words = ap (λ (l : List ℕ). set (set (set l 2 x) 17 n) 18 m) h.words
            ∙ ap₂ (λ (y z : ℕ). set (set (set (room_of a h.levels h.any) 2 x) 17 y) 18 z) (p ∙ ap (without x) g) (q ∙ ap (both x) g);
      }

  pub put_forced : (e x f n m : ℕ) → e ≡ get_or room 2 0 → f ≡ either 1 x → n ≡ without e f → m ≡ both e f → Stale (with_forced a x) (set (set (set room 4 x) 17 n) 18 m)
  unfolding room_of
  put_forced e x f n m d g p q =
      let i : e ≡ a.enabled = d ∙ ap (λ (l : List ℕ). get_or l 2 0) h.words in
      record {
        shaped = h.shaped;
        levels = h.levels;
        any = h.any;
        words = ap (λ (l : List ℕ). set (set (set l 4 x) 17 n) 18 m) h.words
            ∙ ap₂ (λ (y z : ℕ). set (set (set (room_of a h.levels h.any) 4 x) 17 y) 18 z) (p ∙ ap₂ without i g) (q ∙ ap₂ both i g);
      }

-- ---- a store on which the levels do not depend

-- the levels go by the external sources, the lines, the enabled, the remembered and the forced sources, and the modes
quiet : (a : Aic) (spurious debug depth : ℕ) (vector source level : List ℕ) (seen : Seen)
    → room_of (record { external = a.external; lines = a.lines; enabled = a.enabled; memory = a.memory; forced = a.forced; spurious = spurious; debug = debug; mode = a.mode; vector = vector; source = source; level = level; depth = depth; seen = seen }) (level_word a) (any_of a)
    ≡ laid (record { external = a.external; lines = a.lines; enabled = a.enabled; memory = a.memory; forced = a.forced; spurious = spurious; debug = debug; mode = a.mode; vector = vector; source = source; level = level; depth = depth; seen = seen })
unfolding laid level_word any_of waiting asking pending active active_at active_low kind edge fast priority
quiet a spurious debug depth vector source level seen = refl

module _ {a : Aic} {room : List ℕ} (h : Laid a room) where
  pub put-spurious : (v : ℕ) → Laid (with_spurious a v) (set room 5 v)
  unfolding laid room_of
  put-spurious v = record { shaped = h.shaped; words = ap (λ (l : List ℕ). set l 5 v) h.words ∙ quiet a v a.debug a.depth a.vector a.source a.level a.seen }

  pub put_debug : (w x : ℕ) → w ≡ x → Laid (with_debug a x) (set room 6 w)
  unfolding laid room_of
  put_debug w x e =
      record { shaped = h.shaped; words = ap₂ (λ (l : List ℕ) (y : ℕ). set l 6 y) h.words e ∙ quiet a a.spurious x a.depth a.vector a.source a.level a.seen }

  pub put-seen : (n k l v : ℕ) → Laid (with_seen a (record { what = n; source = k; level = l; vector = v })) (set (set (set (set room 8 n) 9 k) 10 l) 11 v)
  unfolding laid room_of
  put-seen n k l v =
      record {
        shaped = h.shaped;
        words = ap (λ (x : List ℕ). set (set (set (set x 8 n) 9 k) 10 l) 11 v) h.words
            ∙ quiet a a.spurious a.debug a.depth a.vector a.source a.level (record { what = n; source = k; level = l; vector = v });
      }

  pub put_vector : (k v : ℕ) → k < 32 → Laid (with_vector a (set a.vector k v)) (set room (96 + k) v)
  unfolding laid room_of
  put_vector k v l =
      record {
        shaped = (h.shaped.0, simp length-set h.shaped.1, h.shaped.2, h.shaped.3);
        words = ap (λ (x : List ℕ). set x (96 + k) v) h.words ∙ part-set (parts a (level_word a) (any_of a)) sizes (sized a (level_word a) (any_of a) h.shaped) 7 k v l
            ∙ quiet a a.spurious a.debug a.depth (set a.vector k v) a.source a.level a.seen;
      }

  pub put_entry : (i k l n last : ℕ) → i < 8 → last ≡ level_below (set a.level i l) n
      → Laid (with_handlers a (set a.source i k) (set a.level i l) n) (set (set (set (set room (40 + i) k) (48 + i) l) 7 n) 19 last)
  unfolding laid room_of
  put_entry i k l n last b e =
      record {
        shaped = (h.shaped.0, h.shaped.1, simp length-set h.shaped.2, simp length-set h.shaped.3);
        words = ap (λ (x : List ℕ). set (set (set (set x (40 + i) k) (48 + i) l) 7 n) 19 last) h.words
            ∙ ap (λ (x : List ℕ). set (set (set x (48 + i) l) 7 n) 19 last) (part-set (parts a (level_word a) (any_of a)) sizes (sized a (level_word a) (any_of a) h.shaped) 3 i k b)
            ∙ ap (λ (x : List ℕ). set (set x 7 n) 19 last)
            (part-set (set (parts a (level_word a) (any_of a)) 3 (set a.source i k)) sizes
            (part_sized (parts a (level_word a) (any_of a)) sizes (sized a (level_word a) (any_of a) h.shaped) 3 (set a.source i k) (simp length-set h.shaped.2)) 4 i l b)
            ∙ ap (λ (x : ℕ). set (room_of (with_handlers a (set a.source i k) (set a.level i l) n) (level_word a) (any_of a)) 19 x) e
            ∙ quiet a a.spurious a.debug n a.vector (set a.source i k) (set a.level i l) a.seen;
      }
