-- What writes do to the room of a record.
use Prim.Native.Nat.{ℕ, ◌+◌, ◌*◌, ◌/◌, ◌%◌, ◌≤◌, ◌<◌}
use mathlib.Core.Path.{◌≡◌, refl, sym, ap, ap₂, ◌∙◌, subst}
use mathlib.Core.Bool.{Bool, true, false}
use mathlib.Core.List.{List}
use native.Mathlib.Omega.{arith}
use lib.Dec.{eqb}
use lib.ListN.{get_or, set, replicate}
use lib.Seq.{set_out}
use Rattle.words.specs.Choice.{pick}
use Rattle.words.specs.Counting.{upto}
use Rattle.words.specs.Word.{bit, word_of}
use Rattle.words.proofs.ArrayLaws.{zeros_get_d}
use Rattle.words.proofs.ChoiceLaws.{pick_true}
use Rattle.words.proofs.WordLaws.{bit-word_of, word_of_lt, bit-some, bit-none}
use Rattle.rooms.specs.Parts.{flat, Sized, made, stored}
use Rattle.rooms.proofs.PartLaws.{part-made, part_sized, made-same}
use Rattle.aintc_record.specs.declared.Aintc.{Aintc}
use Rattle.aintc_record.specs.Record.{with_routes, with_soft, with_masks, side, nobody, reset}
use Rattle.aintc_record.specs.Route.{route_of, priority_of}
use Rattle.aintc_registers.specs.Search.{route_word}
use Rattle.aintc_registers.specs.Effects.{released, agreed}
use Rattle.aintc_room.specs.Room.{fiq_word, priority_word, bits_word, parts, sizes, laid, Laid, chosen_from, with_side}
use Rattle.aintc_room.proofs.CellLaws.{laid_as, sized, put-side, put_soft, put_masks}

-- the room of a record that goes by an offset, at the offset of an arm
pub laid_at : (f : ℕ → Aintc) {o k : ℕ} {room : List ℕ} → o ≡ k → Laid (f k) room → Laid (f o) room
laid_at f {room = room} e h = subst (λ (x : ℕ). Laid (f x) room) (sym e) h

-- ---- an output freed

pub freed : {a : Aintc} {room : List ℕ} → Laid a room → (t f : Bool) (at : ℕ) → at ≡ chosen_from f → t ≡ true
    → Laid (with_side a f (released t (side a f))) (set (set (set room at 0) (at + 1) 0) (at + 2) 0)
unfolding released
freed {a} {room} h t f at e z =
    subst (λ (n : ℕ). Laid (with_side a f (pick t nobody (side a f))) (set (set (set room n 0) (n + 1) 0) (n + 2) 0)) (sym e) (laid_as (ap (with_side a f) (pick_true (side a f) z)) (put-side h f nobody))

pub not_freed : {a : Aintc} {room : List ℕ} → Laid a room → (t f : Bool) → t ≡ false → Laid (with_side a f (released t (side a f))) room
unfolding released side pick
not_freed {a} h t f z = laid_as (own f) h
  where
    own : (f : Bool) → a ≡ with_side a f (released t (side a f))
    own true = ap (λ (b : Bool). with_side a true (pick b nobody a.fiq)) (sym z)
    own false = ap (λ (b : Bool). with_side a false (pick b nobody a.irq)) (sym z)

-- both outputs, one after the other
pub both-agreed : (a : Aintc) (v : ℕ) (t u : Bool) → t ≡ bit v 0 → u ≡ bit v 1
    → with_side (with_side a false (released t (side a false))) true (released u (side (with_side a false (released t (side a false))) true)) ≡ agreed a v
unfolding agreed side pick
both-agreed a v t u p q = ap₂ (λ (x y : Bool). with_side (with_side a false (released x a.irq)) true (released y a.fiq)) p q

-- ---- a reset

zero_word : (f : ℕ → Bool) → ((i : ℕ) → i < 32 → f i ≡ false) → word_of 32 f ≡ 0
zero_word f h = bit-some 32 (word_of 32 f) (word_of_lt 32 f) (λ i l. bit-word_of 32 f i l ∙ h i l)

no-fiq : (n : ℕ) → 0 ≡ fiq_word (replicate 128 0) n
unfolding route_word
no-fiq n = sym (zero_word (λ i. eqb (route_of (get_or (replicate 128 0) (32 * n + i) 0)) 1) (λ i l. ap (λ (x : ℕ). eqb (route_of x) 1) (zeros_get_d 128 (32 * n + i))))

no_bits : (j : ℕ) → 0 ≡ bits_word (replicate 128 0) j
unfolding priority_word
no_bits j =
    sym (zero_word (λ i. bit (priority_of (get_or (replicate 128 0) (32 * (j % 4) + i) 0)) (j / 4)) (λ i l. ap (λ (x : ℕ). bit (priority_of x) (j / 4)) (zeros_get_d 128 (32 * (j % 4) + i)) ∙ bit-none (j / 4)))

module _ {a : Aintc} {room : List ℕ} (h : Laid a room) where
  abbrev none : ℕ → ℕ
  none _ = 0

  abbrev all : ℕ → ℕ
  all _ = 0xFFFFFFFF

  abbrev ps₁ : List (List ℕ)
  ps₁ = set (parts a) 2 (made 4 none)

  abbrev ps₂ : List (List ℕ)
  ps₂ = set ps₁ 3 (made 4 all)

  abbrev ps₃ : List (List ℕ)
  ps₃ = set ps₂ 4 (made 4 none)

  abbrev ps₄ : List (List ℕ)
  ps₄ = set ps₃ 5 (made 28 none)

  abbrev ps₅ : List (List ℕ)
  ps₅ = set ps₄ 7 (made 128 none)

  s₁ : Sized ps₁ sizes
  s₁ = part_sized (parts a) sizes (sized a h.shaped) 2 (made 4 none) refl

  s₂ : Sized ps₂ sizes
  s₂ = part_sized ps₁ sizes s₁ 3 (made 4 all) refl

  s₃ : Sized ps₃ sizes
  s₃ = part_sized ps₂ sizes s₂ 4 (made 4 none) refl

  s₄ : Sized ps₄ sizes
  s₄ = part_sized ps₃ sizes s₃ 5 (made 28 none) refl

  pub reset-laid : (r₁ r₂ r₃ r₄ r₅ r₆ : List ℕ) → r₁ ≡ stored 20 none room 4 → r₂ ≡ stored 24 all r₁ 4 → r₃ ≡ stored 28 none r₂ 4 → r₄ ≡ stored 32 none r₃ 28
      → r₅ ≡ stored 128 none r₄ 128 → r₆ ≡ stored 1 none r₅ 14 → Laid (reset a.lines) (set r₆ 1 255)
  unfolding laid reset upto
  reset-laid r₁ r₂ r₃ r₄ r₅ r₆ d₁ d₂ d₃ d₄ d₅ d₆ =
      let e₁ : r₁ ≡ flat ps₁ = d₁ ∙ ap (λ (l : List ℕ). stored 20 none l 4) h.words ∙ part-made (parts a) sizes (sized a h.shaped) 2 (omega arith) none 4 refl in
      let e₂ : r₂ ≡ flat ps₂ = d₂ ∙ ap (λ (l : List ℕ). stored 24 all l 4) e₁ ∙ part-made ps₁ sizes s₁ 3 (omega arith) all 4 refl in
      let e₃ : r₃ ≡ flat ps₃ = d₃ ∙ ap (λ (l : List ℕ). stored 28 none l 4) e₂ ∙ part-made ps₂ sizes s₂ 4 (omega arith) none 4 refl in
      let e₄ : r₄ ≡ flat ps₄ = d₄ ∙ ap (λ (l : List ℕ). stored 32 none l 28) e₃ ∙ part-made ps₃ sizes s₃ 5 (omega arith) none 28 refl in
      let e₅ : r₅ ≡ flat ps₅ = d₅ ∙ ap (λ (l : List ℕ). stored 128 none l 128) e₄ ∙ part-made ps₄ sizes s₄ 7 (omega arith) none 128 refl in
      record {
        shaped = (h.shaped.0, refl, refl, refl);
        bytes = record { threshold = omega arith; revision = omega arith; routes = λ k l. omega (arith, zeros_get_d 128 k) };
        words = ap (λ (l : List ℕ). set l 1 255) (d₆ ∙ ap (λ (l : List ℕ). stored 1 none l 14) e₅) ∙ kept;
      }
    where
      kept : set (stored 1 none (flat ps₅) 14) 1 255 ≡ flat (parts (reset a.lines))
      kept =
          ap₂ (λ (x y : List ℕ). flat (set (set (parts (reset a.lines)) 4 x) 5 y)) (made-same 4 none (fiq_word (replicate 128 0)) (λ n l. no-fiq n))
          (made-same 28 none (bits_word (replicate 128 0)) (λ j l. no_bits j))

-- ---- a route past the last one

pub route-past : {a : Aintc} {room : List ℕ} → Laid a room → (k b : ℕ) → 128 ≤ k → Laid (with_routes a (set a.routes k b)) room
route-past {a} h k b l = laid_as (ap (with_routes a) (sym (set_out a.routes k b (omega (arith, l, h.shaped.3))))) h

-- ---- a word of the masks and of the soft interrupts, by an equal one

module _ {a : Aintc} {room : List ℕ} (h : Laid a room) (n w x : ℕ) (l : n < 4) (e : w ≡ x) where
  pub masks_as : Laid (with_masks a (set a.masks n x)) (set room (24 + n) w)
  masks_as = subst (λ (y : ℕ). Laid (with_masks a (set a.masks n y)) (set room (24 + n) w)) e (put_masks h n w l)

  pub soft_as : Laid (with_soft a (set a.soft n x)) (set room (20 + n) w)
  soft_as = subst (λ (y : ℕ). Laid (with_soft a (set a.soft n y)) (set room (20 + n) w)) e (put_soft h n w l)
