-- What stands in the room of a CoreInterrupt, and of which record it is the room after a store.
use mathlib.Core.Path.{◌≡◌, refl, sym, ap, ap₂, ◌∙◌, subst}
use mathlib.Core.Bool.{Bool, true, false}
use mathlib.Core.List.{List}
use Prim.Native.Nat.{ℕ, zero, suc, ◌+◌, ◌/◌, ◌%◌, ◌<◌}
use native.Mathlib.Omega.{arith}
use lib.Dec.{eqb, ltb}
use lib.ListN.{get_or, set, replicate}
use Rattle.words.specs.Choice.{pick}
use Rattle.words.specs.Word.{kept, with_bit}
use Rattle.words.proofs.ChoiceLaws.{pick-ap, pick_true}
use Rattle.rooms.proofs.PartLaws.{zeros-flat}
use Rattle.coreinterrupt.specs.declared.sides.Side.{Side}
use Rattle.coreinterrupt.specs.Side.{with_inputs, set_bits, clear_bits, side_write, moved, active, output_level}
use Rattle.coreinterrupt.specs.declared.Core.{Core}
use Rattle.coreinterrupt.specs.declared.Signals.{Signals}
use Rattle.coreinterrupt.specs.Model.{core_of, side, with_side, sound, outputs}
use Rattle.coreinterrupt_room.specs.Room.{sizes, laid, Laid, first_of, turned}
use Rattle.coreinterrupt_room.specs.Promises.{SideAt}

-- a room of a record is one of each equal record
pub laid_as : {c d : Core} {room : List ℕ} → c ≡ d → Laid c room → Laid d room
laid_as {room = room} e h = subst (λ (t : Core). Laid t room) e h

pub fiq-side : (c : Core) → side c true ≡ c.fiq
unfolding side pick
fiq-side c = refl

pub irq-side : (c : Core) → side c false ≡ c.irq
unfolding side pick
irq-side c = refl

-- ---- what stands in the room

module _ {c : Core} {room : List ℕ} (h : Laid c room) where
  pub kind-is : get_or room 0 0 ≡ 1
  unfolding laid
  kind-is = ap (λ (l : List ℕ). get_or l 0 0) h.words

  pub count-is : (fast : Bool) (at : ℕ) → at ≡ first_of fast → get_or room at 0 ≡ (side c fast).count
  unfolding laid first_of side pick
  count-is true at e = ap₂ (λ (l : List ℕ) (n : ℕ). get_or l n 0) h.words e
  count-is false at e = ap₂ (λ (l : List ℕ) (n : ℕ). get_or l n 0) h.words e

  pub level-is : (fast : Bool) (at : ℕ) → at ≡ first_of fast → get_or room (at + 1) 0 ≡ (side c fast).level
  unfolding laid first_of side pick
  level-is true at e = ap₂ (λ (l : List ℕ) (n : ℕ). get_or l (n + 1) 0) h.words e
  level-is false at e = ap₂ (λ (l : List ℕ) (n : ℕ). get_or l (n + 1) 0) h.words e

  pub inputs-is : (fast : Bool) (at : ℕ) → at ≡ first_of fast → get_or room (at + 2) 0 ≡ (side c fast).inputs
  unfolding laid first_of side pick
  inputs-is true at e = ap₂ (λ (l : List ℕ) (n : ℕ). get_or l (n + 2) 0) h.words e
  inputs-is false at e = ap₂ (λ (l : List ℕ) (n : ℕ). get_or l (n + 2) 0) h.words e

  pub soft-is : (fast : Bool) (at : ℕ) → at ≡ first_of fast → get_or room (at + 3) 0 ≡ (side c fast).soft
  unfolding laid first_of side pick
  soft-is true at e = ap₂ (λ (l : List ℕ) (n : ℕ). get_or l (n + 3) 0) h.words e
  soft-is false at e = ap₂ (λ (l : List ℕ) (n : ℕ). get_or l (n + 3) 0) h.words e

  pub enable-is : (fast : Bool) (at : ℕ) → at ≡ first_of fast → get_or room (at + 4) 0 ≡ (side c fast).enable
  unfolding laid first_of side pick
  enable-is true at e = ap₂ (λ (l : List ℕ) (n : ℕ). get_or l (n + 4) 0) h.words e
  enable-is false at e = ap₂ (λ (l : List ℕ) (n : ℕ). get_or l (n + 4) 0) h.words e

  -- ---- a store

  -- what is put into the word of register i of a side
  abbrev turned_word : ℕ → ℕ → ℕ → List ℕ → ℕ
  turned_word at i v l = turned (get_or l (at + 3 + i / 2) 0) (kept (get_or l at 0) v) (eqb (i % 2) 0)

  -- the bits of a value that belong to sources are set, or cleared, in the word of a register
  put : (fast : Bool) (i v : ℕ) → i < 4
      → Laid (with_side c fast (side_write (side c fast) i v)) (set room (first_of fast + 3 + i / 2) (turned_word (first_of fast) i v room))
  unfolding laid first_of turned side with_side pick side_write set_bits clear_bits
  put true zero v m = record { words = ap (λ (l : List ℕ). set l (1 + 3 + 0 / 2) (turned_word 1 0 v l)) h.words }
  put true (suc zero) v m = record { words = ap (λ (l : List ℕ). set l (1 + 3 + 1 / 2) (turned_word 1 1 v l)) h.words }
  put true (suc (suc zero)) v m = record { words = ap (λ (l : List ℕ). set l (1 + 3 + 2 / 2) (turned_word 1 2 v l)) h.words }
  put true (suc (suc (suc zero))) v m = record { words = ap (λ (l : List ℕ). set l (1 + 3 + 3 / 2) (turned_word 1 3 v l)) h.words }
  put false zero v m = record { words = ap (λ (l : List ℕ). set l (6 + 3 + 0 / 2) (turned_word 6 0 v l)) h.words }
  put false (suc zero) v m = record { words = ap (λ (l : List ℕ). set l (6 + 3 + 1 / 2) (turned_word 6 1 v l)) h.words }
  put false (suc (suc zero)) v m = record { words = ap (λ (l : List ℕ). set l (6 + 3 + 2 / 2) (turned_word 6 2 v l)) h.words }
  put false (suc (suc (suc zero))) v m = record { words = ap (λ (l : List ℕ). set l (6 + 3 + 3 / 2) (turned_word 6 3 v l)) h.words }
  put fast (suc (suc (suc (suc i)))) v m = absurd (omega arith)

  pub put-turned : (fast : Bool) (at i v w x : ℕ) → i < 4 → at ≡ first_of fast → x ≡ kept (get_or room at 0) v → w ≡ turned (get_or room (at + 3 + i / 2) 0) x (eqb (i % 2) 0)
      → Laid (with_side c fast (side_write (side c fast) i v)) (set room (at + 3 + i / 2) w)
  put-turned fast at i v w x m e f g =
      let t : w ≡ turned_word at i v room = g ∙ ap (λ (y : ℕ). turned (get_or room (at + 3 + i / 2) 0) y (eqb (i % 2) 0)) f in
      subst (λ (r : List ℕ). Laid (with_side c fast (side_write (side c fast) i v)) r)
      (sym (ap (set room (at + 3 + i / 2)) t ∙ ap (λ (n : ℕ). set room (n + 3 + i / 2) (turned_word n i v room)) e)) (put fast i v m)

  -- the lines of a side with an input put high or low, if that is within the count
  moved-fiq : (k : ℕ) (high : Bool) → core_of (with_inputs c.fiq (pick (ltb k c.fiq.count) (with_bit c.fiq.inputs k high) c.fiq.inputs)) c.irq
      ≡ with_side c true (moved (side c true) k high)
  unfolding side with_side pick moved
  moved-fiq k high =
      pick-ap (λ (w : ℕ). core_of (with_inputs c.fiq w) c.irq) (ltb k c.fiq.count) (with_bit c.fiq.inputs k high) c.fiq.inputs
      ∙ sym (pick-ap (λ (s : Side). core_of s c.irq) (ltb k c.fiq.count) (with_inputs c.fiq (with_bit c.fiq.inputs k high)) c.fiq)

  moved-irq : (k : ℕ) (high : Bool) → core_of c.fiq (with_inputs c.irq (pick (ltb k c.irq.count) (with_bit c.irq.inputs k high) c.irq.inputs))
      ≡ with_side c false (moved (side c false) k high)
  unfolding side with_side pick moved
  moved-irq k high =
      pick-ap (λ (w : ℕ). core_of c.fiq (with_inputs c.irq w)) (ltb k c.irq.count) (with_bit c.irq.inputs k high) c.irq.inputs
      ∙ sym (pick-ap (λ (s : Side). core_of c.fiq s) (ltb k c.irq.count) (with_inputs c.irq (with_bit c.irq.inputs k high)) c.irq)

  abbrev moved_word : ℕ → ℕ → Bool → List ℕ → ℕ
  moved_word at k high l = pick (ltb k (get_or l at 0)) (with_bit (get_or l (at + 2) 0) k high) (get_or l (at + 2) 0)

  put-line : (fast : Bool) (k : ℕ) (high : Bool) → Laid (with_side c fast (moved (side c fast) k high)) (set room (first_of fast + 2) (moved_word (first_of fast) k high room))
  unfolding laid first_of pick
  put-line true k high = laid_as (moved-fiq k high) (record { words = ap (λ (l : List ℕ). set l (1 + 2) (moved_word 1 k high l)) h.words })
  put-line false k high = laid_as (moved-irq k high) (record { words = ap (λ (l : List ℕ). set l (6 + 2) (moved_word 6 k high l)) h.words })

  pub put-moved : (fast : Bool) (at k w : ℕ) (high : Bool) → at ≡ first_of fast → w ≡ pick (ltb k (get_or room at 0)) (with_bit (get_or room (at + 2) 0) k high) (get_or room (at + 2) 0)
      → Laid (with_side c fast (moved (side c fast) k high)) (set room (at + 2) w)
  put-moved fast at k w high e f =
      subst (λ (r : List ℕ). Laid (with_side c fast (moved (side c fast) k high)) r)
      (sym (ap (set room (at + 2)) f ∙ ap (λ (n : ℕ). set room (n + 2) (moved_word n k high room)) e)) (put-line fast k high)

-- ---- the whole record

-- the numbers of a record stored one by one
abbrev stored : Core → List ℕ → List ℕ
stored c l =
    set (set (set (set (set (set (set (set (set (set (set l 0 1) 1 c.fiq.count) 2 c.fiq.level) 3 c.fiq.inputs) 4 c.fiq.soft) 5 c.fiq.enable)
    6 c.irq.count) 7 c.irq.level) 8 c.irq.inputs) 9 c.irq.soft) 10 c.irq.enable

-- in a room of zeros
pub lay_core : (c : Core) → Laid c (stored c (replicate 2048 0))
unfolding laid
lay_core c = record { words = ap (stored c) (zeros-flat sizes) }

pub fiq_at : {c : Core} {room : List ℕ} → Laid c room → SideAt room 1 c.fiq
unfolding first_of side pick
fiq_at h = (count-is h true 1 refl, level-is h true 1 refl, inputs-is h true 1 refl, soft-is h true 1 refl, enable-is h true 1 refl)

pub irq_at : {c : Core} {room : List ℕ} → Laid c room → SideAt room 6 c.irq
unfolding first_of side pick
irq_at h = (count-is h false 6 refl, level-is h false 6 refl, inputs-is h false 6 refl, soft-is h false 6 refl, enable-is h false 6 refl)

pub side-told : {c : Core} {room : List ℕ} (h : Laid c room) (fast : Bool) (at : ℕ) → at ≡ first_of fast
    → ◌≡◌ {A = Side} (record { count = get_or room at 0; level = get_or room (at + 1) 0; inputs = get_or room (at + 2) 0; soft = get_or room (at + 3) 0; enable = get_or room (at + 4) 0 }) (side c fast)
side-told h fast at e = rw (count-is h fast at e, level-is h fast at e, inputs-is h fast at e, soft-is h fast at e, enable-is h fast at e)

pub core-told : (c : Core) (f i : Side) → f ≡ side c true → i ≡ side c false → ◌≡◌ {A = Core} (record { fiq = f; irq = i }) c
core-told c f i p q = rw (p ∙ fiq-side c, q ∙ irq-side c)

-- ---- outputs

pub outputs-told : (c : Core) (i f : Bool) (il fl : ℕ) → sound c ≡ true → i ≡ active (side c false) → f ≡ active (side c true) → il ≡ output_level (side c false)
    → fl ≡ output_level (side c true) → ◌≡◌ {A = Signals} (record { refusal = 0; irq = i; fiq = f; irqlevel = il; fiqlevel = fl }) (outputs c)
unfolding outputs
outputs-told c i f il fl ok p q r s =
    rw (p ∙ ap active (irq-side c), q ∙ ap active (fiq-side c), r ∙ ap output_level (irq-side c), s ∙ ap output_level (fiq-side c)) (pick_true _ ok)
