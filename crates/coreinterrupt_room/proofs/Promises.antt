-- The promises of the layout and of the steps, kept.
use mathlib.Core.Path.{◌≡◌, refl, sym, ap, ◌∙◌}
use mathlib.Core.List.{List}
use mathlib.Core.Logic.{◌≢◌}
use Prim.Native.Nat.{ℕ, ◌+◌, ◌<◌}
use lib.ListN.{length, get_or, get_or-replicate, length-replicate}
use Rattle.steps.specs.declared.Step.{Step}
use Rattle.rooms.specs.Parts.{Sized}
use Rattle.rooms.specs.Reply.{Reply}
use Rattle.rooms.proofs.PartLaws.{part_get, flat-length}
use Rattle.coreinterrupt.specs.declared.sides.Side.{Side}
use Rattle.coreinterrupt.specs.declared.Core.{Core}
use Rattle.coreinterrupt.specs.Model.{sound, step, refused}
use Rattle.coreinterrupt.proofs.Promises.{kept as core-kept}
use Rattle.coreinterrupt_room.specs.Room.{parts, sizes, laid, Laid, Done}
use Rattle.coreinterrupt_room.specs.Promises.{SideAt, Promises}
use Rattle.coreinterrupt_room.proofs.RoomLaws.{kind-is, fiq_at, irq_at, laid_as}

-- the parts of the room of a record
sized : (c : Core) → Sized (parts c) sizes
sized c = (refl, (length-replicate {A = ℕ} 2037 0, refl))

room-length : {c : Core} {room : List ℕ} → Laid c room → length room ≡ 2048
unfolding laid
room-length {c} h = ap (λ (l : List ℕ). length l) h.words ∙ flat-length (parts c) sizes (sized c)

rest-is : {c : Core} {room : List ℕ} → Laid c room → (i : ℕ) → i < 2037 → get_or room (11 + i) 0 ≡ 0
unfolding laid
rest-is {c} h i l = ap (λ (x : List ℕ). get_or x (11 + i) 0) h.words ∙ part_get (parts c) sizes (sized c) 1 i l ∙ get_or-replicate 2037 i 0 0 l

-- one record stands in a room
one_side : (s t : Side) (r : List ℕ) (at : ℕ) → SideAt r at s → SideAt r at t → s ≡ t
one_side s t r at p q = go (sym p.0 ∙ q.0) (sym p.1 ∙ q.1) (sym p.2 ∙ q.2) (sym p.3 ∙ q.3) (sym p.4 ∙ q.4)
  where
    go : s.count ≡ t.count → s.level ≡ t.level → s.inputs ≡ t.inputs → s.soft ≡ t.soft → s.enable ≡ t.enable → s ≡ t
    go a b c d e = rw (a, b, c, d, e)

one-record : (c d : Core) (r : List ℕ) → Laid c r → Laid d r → c ≡ d
one-record c d r h k = go (one_side c.fiq d.fiq r 1 (fiq_at h) (fiq_at k)) (one_side c.irq d.irq r 6 (irq_at h) (irq_at k))
  where
    go : c.fiq ≡ d.fiq → c.irq ≡ d.irq → c ≡ d
    go a b = rw (a, b)

-- one room is a record's
one-room : {c : Core} {r s : List ℕ} → Laid c r → Laid c s → r ≡ s
one-room h k = h.words ∙ sym k.words

refused-same : (c : Core) (x : Step) (r s : List ℕ) (q : Reply) → Laid c r → Done (step c x) s q → q.0 ≢ 0 → (s ≡ r) × (q.1 ≡ 0)
refused-same c x r s q h d n =
    let e : step c x ≡ refused c (step c x).refusal = core-kept.refused_same c x (λ z. n (ap (λ (p : Reply). p.0) d.1 ∙ z)) in
    (one-room (laid_as (ap (λ a. a.core) e) d.0) h, ap (λ (p : Reply). p.1) d.1 ∙ ap (λ a. a.value) e)

pub kept : Promises
kept =
    record {
      determined = λ c r s h k. one-room h k;
      whole = one-record;
      stands = λ c. (laid c, record { words = refl });
      size = λ c r h. (room-length h, kind-is h);
      sides = λ c r h. (fiq_at h, irq_at h);
      rest = λ c r i h l. rest-is h i l;
      answers = λ c x s q d. (ap (λ (p : Reply). p.0) d.1, ap (λ (p : Reply). p.1) d.1, λ e h. one-record e (step c x).core s h d.0);
      step_sound = λ c d x s q o h ok. ap sound (one-record d (step c x).core s h o.0) ∙ core-kept.step_sound c x ok;
      refused_same = refused-same;
      read_same = λ c offset r s q h d. one-room (laid_as (core-kept.read_keeps c offset) d.0) h;
    }
