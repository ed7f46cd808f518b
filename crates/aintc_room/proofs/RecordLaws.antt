-- The record that stands in a room: its numbers taken out again, and what is promised of a room.
use mathlib.Core.Path.{◌≡◌, sym, ap, ◌∙◌}
use mathlib.Core.Bool.{Bool, true, false}
use mathlib.Core.List.{List}
use Prim.Native.Nat.{ℕ, ◌+◌, ◌%◌, ◌<◌}
use native.Mathlib.Nat.{mod-eq_of_lt}
use native.Mathlib.Omega.{arith}
use lib.Dec.{eqb}
use lib.ListN.{length, get_or, get_or-replicate}
use lib.Seq.{ext_get_or}
use Rattle.words.specs.Choice.{pick}
use Rattle.words.specs.Counting.{one}
use Rattle.words.proofs.TruthLaws.{told}
use mathlib.Core.Logic.{◌⊎◌, inl, inr}
use Rattle.rooms.proofs.PartLaws.{flat-length}
use Rattle.aintc_record.specs.declared.Aintc.{Aintc}
use Rattle.aintc_record.specs.declared.Chosen.{Chosen}
use Rattle.aintc_record.specs.Promises.{Bounds}
use Rattle.aintc_record.specs.Record.{side}
use Rattle.aintc_registers.specs.Settle.{sound}
use Rattle.aintc_registers.proofs.Promises as choice-promises
use Rattle.aintc_room.specs.Room.{parts, sizes, laid, Laid, chosen_from}
use Rattle.aintc_room.proofs.CellLaws.{sized, part-is, threshold-is, revision-is, guarded-is, autoidle-is, turbo-is, funcidle-is, active-is, number_is, priority-is, lines-is, soft-is, masks-is, route-is}

-- a bit of the record from its word
pub flag : (w : ℕ) (t : Bool) → w ≡ one t → eqb w 1 ≡ t
flag w true e = ap (λ (x : ℕ). eqb x 1) e
flag w false e = ap (λ (x : ℕ). eqb x 1) e

-- a chosen one is of two small numbers
small : (c : Chosen) → Bounds c → (c.number < 256) × (c.priority < 256)
small c b = go (told c.active)
  where
    go : (c.active ≡ true) ⊎ (c.active ≡ false) → (c.number < 256) × (c.priority < 256)
    go (inl e) = (omega (arith, b.number e), omega (arith, b.priority e))
    go (inr e) = (omega (arith, (b.none e).0), omega (arith, (b.none e).1))

bounds : (a : Aintc) → sound a ≡ true → (f : Bool) → Bounds (side a f)
unfolding side pick
bounds a ok true = (((choice-promises.kept).sound_is a).0 ok).fiq
bounds a ok false = (((choice-promises.kept).sound_is a).0 ok).irq

-- ---- what is taken out

module _ (a : Aintc) (ok : sound a ≡ true) {room : List ℕ} (h : Laid a room) where
  pub chosen-told : (f : Bool) (c : Chosen)
      → c ≡ record { active = eqb (get_or room (chosen_from f) 0) 1; number = get_or room (chosen_from f + 1) 0 % 256; priority = get_or room (chosen_from f + 2) 0 % 256 } → c ≡ side a f
  chosen-told f c e =
      let b = small (side a f) (bounds a ok f) in
      e ∙ made (flag _ _ (active-is h f)) (ap (λ (w : ℕ). w % 256) (number_is h f) ∙ mod-eq_of_lt b.0) (ap (λ (w : ℕ). w % 256) (priority-is h f) ∙ mod-eq_of_lt b.1)
    where
      made : {t : Bool} {n p : ℕ} → t ≡ (side a f).active → n ≡ (side a f).number → p ≡ (side a f).priority → ◌≡◌ {A = Chosen} (record { active = t; number = n; priority = p }) (side a f)
      made p q r = rw (p, q, r)

  pub words-told : (xs r : List ℕ) (at : ℕ) → length xs ≡ 4 → ((n : ℕ) → n < 4 → get_or room (at + n) 0 ≡ get_or xs n 0) → length r ≡ 4
      → ((k : ℕ) → k < 4 → get_or r k 0 ≡ get_or room (at + k) 0) → r ≡ xs
  words-told xs r at l e n f = ext_get_or 0 r xs (n ∙ sym l) (λ k m. f k (omega (arith, n, m)) ∙ e k (omega (arith, n, m)))

  pub routes-told : (r : List ℕ) → length r ≡ 128 → ((k : ℕ) → k < 128 → get_or r k 0 ≡ get_or room (128 + k) 0 % 256) → r ≡ a.routes
  routes-told r n f =
      ext_get_or 0 r a.routes (n ∙ sym h.shaped.3)
      (λ k l. let m : k < 128 = omega (arith, n, l) in f k m ∙ ap (λ (w : ℕ). w % 256) (route-is h k m) ∙ mod-eq_of_lt (h.bytes.routes k m))

  pub record-told : (li so ma ro : List ℕ) (th re : ℕ) (ir fi : Chosen) → li ≡ a.lines → so ≡ a.soft → ma ≡ a.masks → ro ≡ a.routes → th ≡ get_or room 1 0 % 256 → re ≡ get_or room 2 0 % 256
      → ir ≡ a.irq → fi ≡ a.fiq
      → ◌≡◌ {A = Aintc} (record { lines = li; soft = so; masks = ma; routes = ro; threshold = th; revision = re; guarded = eqb (get_or room 3 0) 1; autoidle = eqb (get_or room 4 0) 1; turbo = eqb (get_or room 5 0) 1; funcidle = eqb (get_or room 6 0) 1; irq = ir; fiq = fi }) a
  record-told li so ma ro th re ir fi p q r s et er i j =
      let x : th ≡ a.threshold = et ∙ ap (λ (w : ℕ). w % 256) (threshold-is h) ∙ mod-eq_of_lt h.bytes.threshold in
      let y : re ≡ a.revision = er ∙ ap (λ (w : ℕ). w % 256) (revision-is h) ∙ mod-eq_of_lt h.bytes.revision in
      rw (
        p,
        q,
        r,
        s,
        x,
        y,
        flag (get_or room 3 0) a.guarded (guarded-is h),
        flag (get_or room 4 0) a.autoidle (autoidle-is h),
        flag (get_or room 5 0) a.turbo (turbo-is h),
        flag (get_or room 6 0) a.funcidle (funcidle-is h),
        i,
        j,
      )

-- ---- what is promised of a room

-- it has 2,048 words
pub room-length : {a : Aintc} {room : List ℕ} → Laid a room → length room ≡ 2048
unfolding laid
room-length {a} h = ap (λ (l : List ℕ). length l) h.words ∙ flat-length (parts a) sizes (sized a h.shaped)

-- what follows the routes is 0
pub rest-is : {a : Aintc} {room : List ℕ} → Laid a room → (i : ℕ) → i < 1792 → get_or room (256 + i) 0 ≡ 0
rest-is h i l = part-is h 8 i l ∙ get_or-replicate 1792 i 0 0 l

-- two records in one room are one
pub one-record : (a b : Aintc) (r : List ℕ) → Laid a r → Laid b r → a ≡ b
unfolding side pick
one-record a b r h k =
    alike (same 4 h.shaped.0 k.shaped.0 (λ i l. sym (lines-is h i l) ∙ lines-is k i l)) (same 4 h.shaped.1 k.shaped.1 (λ i l. sym (soft-is h i l) ∙ soft-is k i l))
    (same 4 h.shaped.2 k.shaped.2 (λ i l. sym (masks-is h i l) ∙ masks-is k i l)) (same 128 h.shaped.3 k.shaped.3 (λ i l. sym (route-is h i l) ∙ route-is k i l))
    (sym (threshold-is h) ∙ threshold-is k) (sym (revision-is h) ∙ revision-is k) (bits (guarded-is h) (guarded-is k)) (bits (autoidle-is h) (autoidle-is k))
    (bits (turbo-is h) (turbo-is k)) (bits (funcidle-is h) (funcidle-is k))
    (bits (active-is h false) (active-is k false)) (sym (number_is h false) ∙ number_is k false) (sym (priority-is h false) ∙ priority-is k false)
    (bits (active-is h true) (active-is k true)) (sym (number_is h true) ∙ number_is k true) (sym (priority-is h true) ∙ priority-is k true)
  where
    same : {xs ys : List ℕ} (n : ℕ) → length xs ≡ n → length ys ≡ n → ((i : ℕ) → i < n → get_or xs i 0 ≡ get_or ys i 0) → xs ≡ ys
    same {xs} {ys} n p q f = ext_get_or 0 xs ys (p ∙ sym q) (λ i l. f i (omega (arith, l, p)))

    bits : {w : ℕ} {s t : Bool} → w ≡ one s → w ≡ one t → s ≡ t
    bits {w} {s} {t} p q = sym (flag w s p) ∙ flag w t q

    alike : a.lines ≡ b.lines → a.soft ≡ b.soft → a.masks ≡ b.masks → a.routes ≡ b.routes → a.threshold ≡ b.threshold → a.revision ≡ b.revision
        → a.guarded ≡ b.guarded → a.autoidle ≡ b.autoidle → a.turbo ≡ b.turbo → a.funcidle ≡ b.funcidle
        → a.irq.active ≡ b.irq.active → a.irq.number ≡ b.irq.number → a.irq.priority ≡ b.irq.priority
        → a.fiq.active ≡ b.fiq.active → a.fiq.number ≡ b.fiq.number → a.fiq.priority ≡ b.fiq.priority → a ≡ b
    alike p₁ p₂ p₃ p₄ p₅ p₆ p₇ p₈ p₉ q₁ q₂ q₃ q₄ q₅ q₆ q₇ = rw (p₁, p₂, p₃, p₄, p₅, p₆, p₇, p₈, p₉, q₁, q₂, q₃, q₄, q₅, q₆, q₇)
