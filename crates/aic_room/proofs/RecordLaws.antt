-- The record that a room holds: of a sound one the bytes are bytes, so nothing is lost.
use mathlib.Core.Path.{◌≡◌, sym, ap, ◌∙◌, subst}
use mathlib.Core.Bool.{true}
use mathlib.Core.List.{List}
use Prim.Native.Nat.{ℕ, zero, suc, ◌+◌, ◌%◌, ◌<◌}
use native.Mathlib.Decide.{ℕ_discrete, dec_lt}
use native.Mathlib.Nat.{mod-eq_of_lt}
use native.Mathlib.Numerals.{add-one}
use native.Mathlib.Omega.{arith}
use lib.ListN.{length, get_or}
use lib.Seq.{ext_get_or}
use Rattle.aic_record.specs.declared.Aic.{Aic}
use Rattle.aic_record.specs.declared.Seen.{Seen}
use Rattle.aic_record.specs.Sound.{level_below, sound}
use Rattle.aic_record.proofs.SoundLaws.{below_none, below_next}
use Rattle.aic_record.proofs.SoundLaws.{sound-is, seen-sound}
use Rattle.rooms.proofs.PartLaws.{flat-length}
use Rattle.aic_levels.specs.Levels.{level_word, any_of}
use Rattle.aic_room.specs.Room.{parts, sizes, laid, room_of, Laid}
use Rattle.aic_room.proofs.CellLaws.{sized, cell-is, external-is, lines-is, enabled-is, memory-is, forced-is, spurious-is, debug-is, depth_is, seen_what-is, seen_source-is, seen_level-is, seen_vector-is, source_is, level-is, mode-is, vector-is}

module _ (a : Aic) (ok : sound a ≡ true) where
  mode_small : (k : ℕ) → k < 32 → get_or a.mode k 0 < 256
  mode_small k l = omega (arith, (sound-is a ok).modes k l)

  source_small : (i : ℕ) → i < 8 → get_or a.source i 0 < 256
  source_small i l = go (dec_lt i a.depth)
    where
      go : Dec (i < a.depth) → get_or a.source i 0 < 256
      go (yes m) = omega (arith, (sound-is a ok).sources i m)
      go (no m) = omega (arith, ((sound-is a ok).unused i (omega arith) l).0)

  -- the level of a mark is that of the entry below it
  used : (i : ℕ) → i < 8 → level_below a.level i < 256 → i < a.depth → Dec (get_or a.source i 0 ≡ 0) → get_or a.level i 0 < 256
  used i l b m (yes e) = omega (arith, (sound-is a ok).marks i m e, b)
  used i l b m (no d) = omega (arith, (sound-is a ok).levels i m d)

  slot : (i : ℕ) → i < 8 → level_below a.level i < 256 → Dec (i < a.depth) → get_or a.level i 0 < 256
  slot i l b (yes m) = used i l b m (ℕ_discrete (get_or a.source i 0) 0)
  slot i l b (no m) = omega (arith, ((sound-is a ok).unused i (omega arith) l).1)

  level_small : (i : ℕ) → i < 8 → get_or a.level i 0 < 256
  level_small zero l = slot 0 l (omega (arith, below_none a.level)) (dec_lt 0 a.depth)
  level_small (suc i) l =
      slot (suc i) l (subst (λ (n : ℕ). n < 256) (sym (ap (level_below a.level) (sym (add-one i)) ∙ below_next a.level i)) (level_small i (omega arith))) (dec_lt (suc i) a.depth)

  pub seen_small : (a.seen.source < 256) × (a.seen.level < 256)
  seen_small = go (ℕ_discrete a.seen.what 1)
    where
      go : Dec (a.seen.what ≡ 1) → (a.seen.source < 256) × (a.seen.level < 256)
      go (yes e) = let f = seen-sound a ok in (omega (arith, (f.source e).1), omega (arith, (f.level e).0))
      go (no d) = let f = (seen-sound a ok).bare d in (omega (arith, f.0), omega (arith, f.1))

  module _ {room : List ℕ} (h : Laid a room) where
    -- what is remembered
    pub seen-told : (s l : ℕ) → s ≡ get_or room 9 0 % 256 → l ≡ get_or room 10 0 % 256
        → ◌≡◌ {A = Seen} (record { what = get_or room 8 0; source = s; level = l; vector = get_or room 11 0 }) a.seen
    seen-told s l e f =
        let x : s ≡ a.seen.source = e ∙ ap (λ (w : ℕ). w % 256) (seen_source-is h) ∙ mod-eq_of_lt seen_small.0 in
        let y : l ≡ a.seen.level = f ∙ ap (λ (w : ℕ). w % 256) (seen_level-is h) ∙ mod-eq_of_lt seen_small.1 in
        rw (x, y, seen_what-is h, seen_vector-is h)

    -- the tables
    pub modes-told : (r : List ℕ) → length r ≡ 32 → ((k : ℕ) → k < 32 → get_or r k 0 ≡ get_or room (64 + k) 0 % 256) → r ≡ a.mode
    modes-told r n f =
        ext_get_or 0 r a.mode (n ∙ sym h.shaped.0)
        (λ k l. let m : k < 32 = omega (arith, n, l) in f k m ∙ ap (λ (w : ℕ). w % 256) (mode-is h k m) ∙ mod-eq_of_lt (mode_small k m))

    pub vectors-told : (r : List ℕ) → length r ≡ 32 → ((k : ℕ) → k < 32 → get_or r k 0 ≡ get_or room (96 + k) 0) → r ≡ a.vector
    vectors-told r n f = ext_get_or 0 r a.vector (n ∙ sym h.shaped.1) (λ k l. f k (omega (arith, n, l)) ∙ vector-is h k (omega (arith, n, l)))

    pub sources-told : (r : List ℕ) → length r ≡ 8 → ((k : ℕ) → k < 8 → get_or r k 0 ≡ get_or room (40 + k) 0 % 256) → r ≡ a.source
    sources-told r n f =
        ext_get_or 0 r a.source (n ∙ sym h.shaped.2)
        (λ k l. let m : k < 8 = omega (arith, n, l) in f k m ∙ ap (λ (w : ℕ). w % 256) (source_is h k m) ∙ mod-eq_of_lt (source_small k m))

    pub levels-told : (r : List ℕ) → length r ≡ 8 → ((k : ℕ) → k < 8 → get_or r k 0 ≡ get_or room (48 + k) 0 % 256) → r ≡ a.level
    levels-told r n f =
        ext_get_or 0 r a.level (n ∙ sym h.shaped.3)
        (λ k l. let m : k < 8 = omega (arith, n, l) in f k m ∙ ap (λ (w : ℕ). w % 256) (level-is h k m) ∙ mod-eq_of_lt (level_small k m))

    pub record-told : (mo ve so le : List ℕ) (se : Seen) → mo ≡ a.mode → ve ≡ a.vector → so ≡ a.source → le ≡ a.level → se ≡ a.seen
        → ◌≡◌ {A = Aic} (record { external = get_or room 15 0; lines = get_or room 1 0; enabled = get_or room 2 0; memory = get_or room 3 0; forced = get_or room 4 0; spurious = get_or room 5 0; debug = get_or room 6 0; mode = mo; vector = ve; source = so; level = le; depth = get_or room 7 0; seen = se }) a
    record-told mo ve so le se p q r s t =
        rw (p, q, r, s, t, external-is h, lines-is h, enabled-is h, memory-is h, forced-is h, spurious-is h, debug-is h, depth_is h)

-- ---- what is promised of a room

-- it has 2,048 words
pub room-length : {a : Aic} {room : List ℕ} → Laid a room → length room ≡ 2048
unfolding laid room_of
room-length {a} h = ap (λ (l : List ℕ). length l) h.words ∙ flat-length (parts a (level_word a) (any_of a)) sizes (sized a (level_word a) (any_of a) h.shaped)

-- the four words after the single ones are 0
pub spare-is : {a : Aic} {room : List ℕ} → Laid a room → (i : ℕ) → i < 4 → get_or room (20 + i) 0 ≡ 0
spare-is h zero l = cell-is h 20
spare-is h (suc zero) l = cell-is h 21
spare-is h (suc (suc zero)) l = cell-is h 22
spare-is h (suc (suc (suc zero))) l = cell-is h 23
spare-is h (suc (suc (suc (suc i)))) l = absurd (omega (arith, l))

-- two records in one room are one
pub one-record : (a b : Aic) (r : List ℕ) → Laid a r → Laid b r → a ≡ b
one-record a b r h k =
    let mo : a.mode ≡ b.mode = same 32 h.shaped.0 k.shaped.0 (λ i l. sym (mode-is h i l) ∙ mode-is k i l) in
    let ve : a.vector ≡ b.vector = same 32 h.shaped.1 k.shaped.1 (λ i l. sym (vector-is h i l) ∙ vector-is k i l) in
    let so : a.source ≡ b.source = same 8 h.shaped.2 k.shaped.2 (λ i l. sym (source_is h i l) ∙ source_is k i l) in
    let le : a.level ≡ b.level = same 8 h.shaped.3 k.shaped.3 (λ i l. sym (level-is h i l) ∙ level-is k i l) in
    told mo ve so le (sym (external-is h) ∙ external-is k) (sym (lines-is h) ∙ lines-is k) (sym (enabled-is h) ∙ enabled-is k) (sym (memory-is h) ∙ memory-is k)
    (sym (forced-is h) ∙ forced-is k) (sym (spurious-is h) ∙ spurious-is k) (sym (debug-is h) ∙ debug-is k) (sym (depth_is h) ∙ depth_is k)
    (sym (seen_what-is h) ∙ seen_what-is k) (sym (seen_source-is h) ∙ seen_source-is k) (sym (seen_level-is h) ∙ seen_level-is k) (sym (seen_vector-is h) ∙ seen_vector-is k)
  where
    same : {xs ys : List ℕ} (n : ℕ) → length xs ≡ n → length ys ≡ n → ((i : ℕ) → i < n → get_or xs i 0 ≡ get_or ys i 0) → xs ≡ ys
    same {xs} {ys} n p q f = ext_get_or 0 xs ys (p ∙ sym q) (λ i l. f i (omega (arith, l, p)))

    told : a.mode ≡ b.mode → a.vector ≡ b.vector → a.source ≡ b.source → a.level ≡ b.level → a.external ≡ b.external → a.lines ≡ b.lines
        → a.enabled ≡ b.enabled → a.memory ≡ b.memory → a.forced ≡ b.forced → a.spurious ≡ b.spurious → a.debug ≡ b.debug → a.depth ≡ b.depth
        → a.seen.what ≡ b.seen.what → a.seen.source ≡ b.seen.source → a.seen.level ≡ b.seen.level → a.seen.vector ≡ b.seen.vector → a ≡ b
    told p₁ p₂ p₃ p₄ p₅ p₆ p₇ p₈ p₉ q₁ q₂ q₃ q₄ q₅ q₆ q₇ = rw (p₁, p₂, p₃, p₄, p₅, p₆, p₇, p₈, p₉, q₁, q₂, q₃, q₄, q₅, q₆, q₇)
