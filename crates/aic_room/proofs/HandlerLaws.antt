-- What the tests of the handlers say of the record in the room.
use mathlib.Core.Path.{◌≡◌, refl, sym, ap, ap₂, ◌∙◌, subst}
use mathlib.Core.Bool.{Bool, true, false, not, ◌&&◌}
use mathlib.Core.List.{List}
use mathlib.Core.Logic.{◌⊎◌, inl, inr}
use Prim.Native.Nat.{ℕ, ◌+◌, ◌-◌, ◌%◌, ◌≤◌, ◌<◌}
use native.Mathlib.Decide.{ℕ_discrete}
use native.Mathlib.Omega.{arith}
use borrow.Author.Tests.{eq-eqb, ne_eqb, lt-ltb, le-ltb, leb-true, leb-false}
use lib.Dec.{eqb}
use lib.ListN.{get_or, set}
use lib.Seq.{get_or-set_same, get_or-set_other}
use Rattle.words.specs.Choice.{pick}
use Rattle.words.specs.Counting.{lowest_below}
use Rattle.words.specs.Word.{bit, both}
use Rattle.words.proofs.ChoiceLaws.{pick_true, pick-false}
use Rattle.words.proofs.TruthLaws.{told}
use Rattle.words.proofs.WordLaws.{word-is, both_lt, bit-both}
use Rattle.aic_record.specs.declared.Aic.{Aic}
use Rattle.aic_record.specs.Sound.{level_below, over, sound}
use Rattle.aic_record.proofs.SoundLaws.{seen-sound, below_next}
use Rattle.aic_sources.specs.Fast.{masked, fast_asks}
use Rattle.aic_sources.specs.Normal.{above, candidates, chosen, irq}
use Rattle.aic_sources.specs.Pending.{pending_word}
use Rattle.aic_sources.specs.Search.{least_of}
use Rattle.aic_sources.proofs.HandlerLaws.{candidate-room}
use Rattle.aic_sources.proofs.OrderLaws.{chosen_is}
use Rattle.aic_sources.proofs.PendingLaws.{fast-by}
use Rattle.aic_sources.proofs.SearchLaws.{chosen-some, least_rule}
use Rattle.aic_sources.proofs.SideLaws.{asks-from, fast-from}
use Rattle.aic_registers.specs.declared.Answer.{Answer}
use Rattle.aic_registers.specs.Handlers.{spent, current}
use Rattle.aic.proofs.HandlerLaws.{spent-is}
use Rattle.aic_levels.specs.Levels.{level_word, any_of, highest_of}
use Rattle.aic_levels.proofs.ChosenLaws.{Started, none-by, some-by}
use Rattle.aic_levels.proofs.HighestLaws.{highest-is}
use Rattle.aic_levels.proofs.LevelLaws.{any_lt}
use Rattle.aic_levels.proofs.Promises.{kept as levels}
use Rattle.aic_room.specs.Room.{fast_word, Laid, Gives}
use Rattle.aic_room.proofs.CellLaws.{depth_is, any-is, fast-is, seen_source-is, source_is, level-is, table_is}

-- what a read gives it gives of an equal answer
pub gives_as : {x y : Answer} {room : List ℕ} {v : ℕ} → x ≡ y → Gives x room v → Gives y room v
gives_as {room = room} {v = v} e h = subst (λ (z : Answer). Gives z room v) e h

-- ---- the last entry

module _ {a : Aic} {room : List ℕ} (h : Laid a room) where
  pub current-told : (last : ℕ) → last < 8 → (0 < get_or room 7 0 → get_or room 7 0 ≤ 8 → last ≡ get_or room 7 0 - 1) → (get_or room 7 0 ≡ 0 → ⊥) → a.depth ≤ 8
      → get_or room (40 + last) 0 ≡ current a
  unfolding current
  current-told last m f n l =
      source_is h last m ∙ ap (λ (i : ℕ). get_or a.source i 0) (f (omega (arith, n)) (omega (arith, depth_is h, l)) ∙ ap (λ (x : ℕ). x - 1) (depth_is h))
      ∙ pick-false 0 (ne_eqb a.depth 0 (λ z. n (depth_is h ∙ z)))

  -- the level of the entry below entry i
  pub below-told : (i last : ℕ) → last < 8 → (0 < i → i ≤ 8 → last ≡ i - 1) → (i ≡ 0 → ⊥) → i ≤ 8 → get_or room (48 + last) 0 ≡ level_below a.level i
  unfolding level_below
  below-told i last m f n l = level-is h last m ∙ ap (λ (j : ℕ). get_or a.level j 0) (f (omega (arith, n)) l) ∙ pick-false 255 (ne_eqb i 0 n)

  -- the level of the last entry, where one is opened, and where the last is closed
  pub last-opened : (d l : ℕ) → d < 8 → l ≡ level_below (set a.level d l) (d + 1)
  last-opened d l m = sym (below_next (set a.level d l) d ∙ get_or-set_same a.level d l 0 (omega (arith, h.shaped.3, m)))

  pub last_closed : (d : ℕ) {last : ℕ} → last ≡ level_below a.level d → last ≡ level_below (set a.level d 0) d
  unfolding level_below
  last_closed d e = e ∙ go (ℕ_discrete d 0)
    where
      go : Dec (d ≡ 0) → pick (eqb d 0) 255 (get_or a.level (d - 1) 0) ≡ pick (eqb d 0) 255 (get_or (set a.level d 0) (d - 1) 0)
      go (yes z) = sym (pick_true _ (eq-eqb d 0 z)) ∙ pick_true _ (eq-eqb d 0 z)
      go (no n) = ap (pick (eqb d 0) 255) (sym (get_or-set_other a.level d (d - 1) 0 0 (λ z. omega (arith, n, z))))

-- clearing a memory opens and closes no entry
pub spent_depth : (a : Aic) (k : ℕ) → a.depth < 8 → (spent a k).depth < 8
spent_depth a k l = subst (λ (n : ℕ). n < 8) (sym (ap (λ (t : Aic). t.depth) (spent-is a k))) l

-- ---- the one ahead of all others

pub above_full : (a : Aic) (d p : ℕ) → d ≡ a.depth → 8 ≤ d → false ≡ above a p
unfolding above
above_full a d p e l = sym (ap (λ (b : Bool). b && over (level_below a.level a.depth) p) (le-ltb a.depth 8 (omega arith)))

pub above-room : (a : Aic) (d l p : ℕ) (r : Bool) → d ≡ a.depth → d < 8 → l ≡ level_below a.level a.depth → r ≡ over l p → r ≡ above a p
unfolding above
above-room a d l p r e m f g = g ∙ ap (λ (x : ℕ). over x p) f ∙ sym (ap (λ (b : Bool). b && over (level_below a.level a.depth) p) (lt-ltb a.depth 8 (omega arith)))

-- the byte, and what the table says of it
pub table-told : {a : Aic} {room : List ℕ} → Laid a room → get_or room (256 + get_or room 12 0 % 256) 0 ≡ highest_of (any_of a)
table-told {a} {room} h =
    let b : get_or room 12 0 % 256 ≡ any_of a = ap (λ (w : ℕ). w % 256) (any-is h) ∙ (let l : any_of a < 256 = any_lt a in omega arith) in
    ap (λ (n : ℕ). get_or room (256 + n) 0) b ∙ table_is h (any_of a) (any_lt a)

module _ (a : Aic) (h : ℕ) (e : h ≡ highest_of (any_of a)) where
  -- no level has any source
  pub none_anywhere : 8 ≤ h → candidates a ≡ false
  none_anywhere l = none-by a (any_of a) (least_of a) h refl refl e (inl (go (ℕ_discrete h 255)))
    where
      go : Dec (h ≡ 255) → h ≡ 255
      go (yes z) = z
      go (no d) = absurd (omega (arith, e, ((highest-is (any_of a)).some (λ z. d (e ∙ z))).0))

  -- the highest level may not start
  pub none_above : h < 8 → above a h ≡ false → candidates a ≡ false
  none_above l t = none-by a (any_of a) (least_of a) h refl refl e (inr (omega (arith, leb-false (least_of a) h (least_rule a h (omega (arith, l)) ∙ t))))

  -- it may
  pub some-above : h < 8 → above a h ≡ true → (k : ℕ) → k ≡ lowest_below 32 (bit (level_word a h)) → Started a h k
  some-above l t k i =
      some-by a (any_of a) (least_of a) h k refl refl e (λ z. omega (arith, l, z)) (leb-true (least_of a) h (least_rule a h (omega (arith, l)) ∙ t)) i

  -- so it is the highest level that decides
  asks-above : h < 8 → above a h ≡ candidates a
  asks-above l = go (told (above a h))
    where
      go : (above a h ≡ true) ⊎ (above a h ≡ false) → above a h ≡ candidates a
      go (inl t) = t ∙ sym (some-above l t _ refl).some
      go (inr t) = t ∙ sym (none_above l t)

-- the byte is 0: no level has any source
pub none_asks : {a : Aic} {room : List ℕ} → Laid a room → get_or room 12 0 ≡ 0 → candidates a ≡ false
none_asks {a} h e = none_anywhere a 255 (sym (ap highest_of (sym (any-is h) ∙ e) ∙ (levels.table_none 0 (omega arith)).1 refl)) (omega arith)

-- it is not: the highest level decides
pub top_asks : {a : Aic} {room : List ℕ} → Laid a room → (get_or room 12 0 ≡ 0 → ⊥) → (h : ℕ) → h ≡ highest_of (any_of a) → above a h ≡ candidates a
top_asks {a} l n h e = asks-above a h e (omega (arith, e, (levels.table_bit (any_of a) (any_lt a) (λ z. n (any-is l ∙ z))).0))

-- where there is a candidate there is room for its handler
pub chosen-room : (a : Aic) (k : ℕ) → k ≡ chosen a → k < 32 → a.depth < 8
chosen-room a k e l = candidate-room a (chosen a) (chosen_is a (sym (chosen-some a) ∙ lt-ltb (chosen a) 32 (omega arith))).fit

-- ---- the outputs

pub irq-told : (a : Aic) (m c : Bool) → m ≡ bit a.debug 1 → c ≡ candidates a → (not m && c) ≡ irq a
unfolding irq masked
irq-told a m c e f = ap₂ (λ (x y : Bool). not x && y) e f

-- the pending sources of the fast side
turned : (x y z : ℕ) → both x (both y z) ≡ both z (both x y)
unfolding both
turned x y z =
    word-is 32 (both x (both y z)) (λ k. bit z k && bit (both x y) k) (both_lt x (both y z))
    (λ k l. bit-both x (both y z) k l ∙ ap (λ (t : Bool). bit x k && t) (bit-both y z k l) ∙ sides (bit x k) (bit y k) (bit z k) ∙ ap (λ (t : Bool). bit z k && t) (sym (bit-both x y k l)))
  where
    sides : (p q r : Bool) → (p && (q && r)) ≡ (r && (p && q))
    sides true true true = refl
    sides true true false = refl
    sides true false true = refl
    sides true false false = refl
    sides false q true = refl
    sides false q false = refl

pub fast-told : {a : Aic} {room : List ℕ} (h : Laid a room) (p m : ℕ) → p ≡ pending_word a → m ≡ both p (get_or room 18 0) → not (eqb m 0) ≡ fast_asks a
fast-told {a} h p m e f =
    fast-from a (fast_word a) (both p a.enabled) m (fast-by a) (asks-from a p _ e refl) (f ∙ ap (both p) (fast-is h) ∙ turned p a.enabled (fast_word a))

-- ---- what is remembered

pub source_told : {a : Aic} {room : List ℕ} → Laid a room → sound a ≡ true → a.seen.what ≡ 1 → (get_or room 9 0 % 32 ≡ a.seen.source) × (a.depth < 8)
source_told {a} h ok e =
    let f = seen-sound a ok in
    (ap (λ (w : ℕ). w % 32) (seen_source-is h) ∙ omega (arith, (f.source e).1), f.room e)
