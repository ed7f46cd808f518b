-- Whatever tells the activities of the lower controllers that feed a controller serves for the values of its inputs, and these for its activities.
use Prim.Native.Nat.{ℕ, zero, suc, ◌+◌, ◌-◌, ◌^◌, ◌≤◌, ◌<◌}
use mathlib.Core.Path.{◌≡◌, refl, sym, ap, ap₂, ◌∙◌}
use mathlib.Core.Bool.{Bool, true, false, ◌&&◌}
use mathlib.Core.List.{List}
use mathlib.Core.Logic.{inl, inr}
use native.Mathlib.Omega.{arith}
use native.Mathlib.Decide.{ℕ_discrete, dec_lt}
use lib.Dec.{ltb}
use borrow.Author.Tests.{lt-ltb, le-ltb, eq-eqb, ne_eqb}
use Rattle.words.specs.Choice.{pick}
use Rattle.words.specs.Counting.{upto}
use Rattle.words.specs.Word.{bit, word_of, with_bit}
use Rattle.words.proofs.ChoiceLaws.{pick_true, pick-false}
use Rattle.words.proofs.CountingLaws.{upto-none, upto-more, at_end}
use Rattle.words.proofs.TruthLaws.{clash}
use Rattle.words.proofs.WordLaws.{bit-word_of, bit_past, bit-with_bit, word_of_lt, word_of-same, word_of-more, word_of-none_yet}
use Rattle.coreinterrupt.specs.declared.sides.Side.{Side}
use Rattle.coreinterrupt.specs.Side.{active, moved}
use Rattle.coreinterrupt.specs.declared.Core.{Core}
use Rattle.coreinterrupt.specs.Model.{core_of, side}
use Rattle.board_wires.specs.declared.Board.{Board}
use Rattle.board_wires.specs.declared.Wire.{Wire}
use Rattle.board_wires.specs.declared.Wire.TheVariants.{Nothing, Pin, Irq, Fiq}
use Rattle.board_wires.specs.Wires.{wire_in, wire_at, core_at, inputs_of, place_of, wired, side_in, side_by, below, activity, input_value, wired_core}
use Rattle.board_wires.proofs.InputLaws.{irq-is, fiq-is}
use Rattle.board_wires.proofs.NumberLaws.{no_wire, no-input}
use Rattle.board_wires.proofs.WireLaws.{carries-nothing, carries_pin, carries-irq, carries-fiq, from_nothing, from_pin, from-irq, from-fiq, irq-above, fiq-above}
use Rattle.board_wires.specs.Chain.{feeds, lower_of}
use Rattle.board_wires.proofs.ChainLaws.{wired-feeds}
use Rattle.board_wires.specs.declared.pair.Activities.{Activities}
use Rattle.board_wires.specs.declared.pair.Told.{Told}
use Rattle.board_wires.specs.declared.pair.Inputs.{Inputs}
use Rattle.board_wires.specs.Pair.{tells, with_told, values_in, lined, lined_core, values, activities}

-- ---- the words

pub irq-values : (b : Board) (c k : ℕ) → k < 32 → bit (values b c).irq k ≡ input_value b c k
unfolding values
irq-values b c k l = bit-word_of 32 (λ k. input_value b c k) k l

pub fiq-values : (b : Board) (c k : ℕ) → k < 8 → bit (values b c).fiq k ≡ input_value b c (32 + k)
unfolding values
fiq-values b c k l = bit-word_of 8 (λ k. input_value b c (32 + k)) k l

pub values_word : (b : Board) (c : ℕ) → ((values b c).irq < 2 ^ 32) × ((values b c).fiq < 2 ^ 8)
unfolding values
values_word b c = (word_of_lt 32 (λ k. input_value b c k), word_of_lt 8 (λ k. input_value b c (32 + k)))

-- ---- by what is told of those that feed it

-- t tells the activities of the controllers below n that feed controller c
pub record Tells (b : Board) (c : ℕ) (t : Told) (n : ℕ) : Type 0 where
  pub told : (d : ℕ) (fast : Bool) → d < n → feeds b c d ≡ true → tells t d fast ≡ activity b d fast

pub tells_none : (b : Board) (c : ℕ) (t : Told) → Tells b c t 0
tells_none b c t = record { told = λ d fast l e. absurd (omega arith) }

-- one that does not feed it need not be told
pub tells-past : (b : Board) (c : ℕ) (t r : Told) (n : ℕ) (x : Bool) → Tells b c t n → x ≡ feeds b c n → x ≡ false → r ≡ t → Tells b c r (n + 1)
tells-past b c t r n x h e f s = record { told = λ d fast l g. ap (λ (y : Told). tells y d fast) s ∙ go d fast l g (ℕ_discrete d n) }
  where
    go : (d : ℕ) (fast : Bool) → d < n + 1 → feeds b c d ≡ true → Dec (d ≡ n) → tells t d fast ≡ activity b d fast
    go d fast l g (yes q) = clash (ap (feeds b c) (sym q) ∙ g) (sym e ∙ f)
    go d fast l g (no q) = h.told d fast (omega arith) g

-- what is told of an output, by its side
pub tells-fiq : (t : Told) (d : ℕ) (fast r : Bool) → fast ≡ true → r ≡ bit t.fiq d → r ≡ tells t d fast
unfolding tells pick
tells-fiq t d fast r e h = rw e h

pub tells-irq : (t : Told) (d : ℕ) (fast r : Bool) → fast ≡ false → r ≡ bit t.irq d → r ≡ tells t d fast
unfolding tells pick
tells-irq t d fast r e h = rw e h

-- what was put is told, and all else as before
tells_here : (t : Told) (n : ℕ) (a : Activities) (fast : Bool) → n < 32 → tells (with_told t n a) n fast ≡ pick fast a.fiq a.irq
unfolding tells pick
tells_here t n a true l = bit-with_bit t.fiq n a.fiq n l ∙ sym (pick_true (bit t.fiq n) (eq-eqb n n refl))
tells_here t n a false l = bit-with_bit t.irq n a.irq n l ∙ sym (pick_true (bit t.irq n) (eq-eqb n n refl))

tells-other : (t : Told) (n : ℕ) (a : Activities) (d : ℕ) (fast : Bool) → d < 32 → (d ≡ n → ⊥) → tells (with_told t n a) d fast ≡ tells t d fast
unfolding tells pick
tells-other t n a d true l e = bit-with_bit t.fiq n a.fiq d l ∙ sym (pick-false a.fiq (ne_eqb d n e))
tells-other t n a d false l e = bit-with_bit t.irq n a.irq d l ∙ sym (pick-false a.irq (ne_eqb d n e))

activities_are : (b : Board) (n : ℕ) (fast : Bool) → pick fast (activities b n).fiq (activities b n).irq ≡ activity b n fast
unfolding pick
activities_are b n true = refl
activities_are b n false = refl

pub tells_more : (b : Board) (c : ℕ) (t r : Told) (n : ℕ) (a : Activities) → n < 8 → Tells b c t n → a ≡ activities b n → r ≡ with_told t n a → Tells b c r (n + 1)
tells_more b c t r n a l h e f = record { told = λ d fast m g. go d fast m g (ℕ_discrete d n) }
  where
    go : (d : ℕ) (fast : Bool) → d < n + 1 → feeds b c d ≡ true → Dec (d ≡ n) → tells r d fast ≡ activity b d fast
    go d fast m g (yes q) =
        ap (λ (x : Told). tells x d fast) f ∙ ap (λ (k : ℕ). tells (with_told t n a) k fast) q ∙ tells_here t n a fast (omega arith)
        ∙ ap (λ (x : Activities). pick fast x.fiq x.irq) e ∙ activities_are b n fast ∙ ap (λ (k : ℕ). activity b k fast) (sym q)
    go d fast m g (no q) = ap (λ (x : Told). tells x d fast) f ∙ tells-other t n a d fast (omega arith) q ∙ h.told d fast (omega arith) g

pub all_told : (b : Board) (c : ℕ) (t : Told) (d n : ℕ) → d ≤ n → n ≤ d → n ≡ lower_of c → Tells b c t d → Tells b c t (lower_of c)
all_told b c t d n l m e h = record { told = λ k fast j. h.told k fast (omega (arith, l, m, e, j)) }

module _ (b : Board) (c : ℕ) (t : Told) (h : Tells b c t (lower_of c)) where
  -- where controller c is one of the eight
  lower-told : (d : ℕ) (fast : Bool) → c < 8 → d < c → feeds b c d ≡ true → tells t d fast ≡ activity b d fast
  lower-told d fast k l e =
      let q : c ≡ lower_of c = pick_true 0 (lt-ltb c 8 k) in
      h.told d fast (omega (arith, l, q)) e

  -- an input of it, by its wire
  by_wire : (i : ℕ) (w : Wire) → c < 8 → i < 40 → w ≡ wire_at b c i → wired b.pin (tells t) c w ≡ input_value b c i
  by_wire i Nothing k l e = sym (carries-nothing b.pin (tells t) c Nothing refl) ∙ from_nothing b c i Nothing e refl
  by_wire i (Pin p) k l e = sym (carries_pin b.pin (tells t) c (Pin p) p _ refl refl) ∙ from_pin b c i (Pin p) e p _ refl refl
  by_wire i (Irq d) k l e = sym (carries-irq b.pin (tells t) c (Irq d) d _ refl refl) ∙ go (dec_lt d c)
    where
      go : Dec (d < c) → (ltb d c && tells t d false) ≡ input_value b c i
      go (yes m) =
          rw (lt-ltb d c m)
          (lower-told d false k m (wired-feeds b c d (i, l, inl (sym e))) ∙ from-irq b c i (Irq d) e d _ refl m refl)
      go (no m) = rw (le-ltb d c (omega arith)) (irq-above b c i (Irq d) e d refl (omega arith))
  by_wire i (Fiq d) k l e = sym (carries-fiq b.pin (tells t) c (Fiq d) d _ refl refl) ∙ go (dec_lt d c)
    where
      go : Dec (d < c) → (ltb d c && tells t d true) ≡ input_value b c i
      go (yes m) =
          rw (lt-ltb d c m)
          (lower-told d true k m (wired-feeds b c d (i, l, inr (sym e))) ∙ from-fiq b c i (Fiq d) e d _ refl m refl)
      go (no m) = rw (le-ltb d c (omega arith)) (fiq-above b c i (Fiq d) e d refl (omega arith))

  -- any input: beyond the eight or the forty there is no wire
  value-told : (i : ℕ) → wired b.pin (tells t) c (wire_at b c i) ≡ input_value b c i
  value-told i = go (dec_lt c 8) (dec_lt i 40)
    where
      none : wire_at b c i ≡ Nothing → wired b.pin (tells t) c (wire_at b c i) ≡ input_value b c i
      none e = sym (carries-nothing b.pin (tells t) c (wire_at b c i) e) ∙ from_nothing b c i (wire_at b c i) refl e

      go : Dec (c < 8) → Dec (i < 40) → wired b.pin (tells t) c (wire_at b c i) ≡ input_value b c i
      go (yes k) (yes l) = by_wire i (wire_at b c i) k l refl
      go (yes k) (no l) = none (no-input b.wire c i (omega arith))
      go (no k) q = none (no_wire b.wire c i (omega arith))

  pub values-told : (x y : ℕ) → x ≡ values_in b.wire b.pin (tells t) c false → y ≡ values_in b.wire b.pin (tells t) c true
      → ◌≡◌ {A = Inputs} (record { irq = x; fiq = y }) (values b c)
  unfolding values_in values pick
  values-told x y e f =
      ap₂ (λ (p q : ℕ). record { irq = p; fiq = q })
      (e ∙ word_of-same 32 (λ k. wired b.pin (tells t) c (wire_in b.wire c k)) (λ k. input_value b c k) (λ k l. value-told k))
      (f ∙ word_of-same 8 (λ k. wired b.pin (tells t) c (wire_in b.wire c (32 + k))) (λ k. input_value b c (32 + k)) (λ k l. value-told (32 + k)))

-- ---- the loop over the inputs of a side

module _ (ws ps : List ℕ) (g : ℕ → Bool → Bool) (c : ℕ) (fast : Bool) where
  -- the values of its first n inputs
  abbrev pub first : ℕ → ℕ
  first n = word_of n (λ k. wired ps g c (wire_in ws c (place_of fast k)))

  pub first-none : ◌≡◌ {A = ℕ} 0 (first 0)
  first-none = word_of-none_yet (λ k. wired ps g c (wire_in ws c (place_of fast k)))

  pub first_more : (x r i p : ℕ) (w : Wire) (v : Bool) → i < 32 → x ≡ first i → p ≡ place_of fast i → w ≡ wire_in ws c p → v ≡ wired ps g c w → r ≡ with_bit x i v
      → r ≡ first (i + 1)
  first_more x r i p w v l e f h j q =
      q ∙ word_of-more (λ k. wired ps g c (wire_in ws c (place_of fast k))) i l e (j ∙ ap (wired ps g c) (h ∙ ap (wire_in ws c) f))

  pub first-all : (x i n : ℕ) → i ≤ n → n ≤ i → n ≡ inputs_of fast → x ≡ first i → x ≡ values_in ws ps g c fast
  unfolding values_in
  first-all x i n l m e f = at_end first i n l m f ∙ ap first e

-- ---- the controller with its values as its lines

pub lined-none : (s : Side) (w : ℕ) → s ≡ lined s w 0
unfolding lined
lined-none s w = upto-none (λ x i. moved x i (bit w i)) s

pub lined-more : (s x r : Side) (w i : ℕ) (v : Bool) → x ≡ lined s w i → v ≡ bit w i → r ≡ moved x i v → r ≡ lined s w (i + 1)
unfolding lined
lined-more s x r w i v e f h = upto-more (λ x i. moved x i (bit w i)) s i e (h ∙ ap (moved x i) f)

-- what agrees with the word on the inputs of a side
lined-same : (b : Board) (c : ℕ) (fast : Bool) (w n : ℕ) → ((k : ℕ) → k < n → bit w k ≡ input_value b c (place_of fast k))
    → lined (side (core_at b c) fast) w n ≡ side_by b (below b c) c fast n
unfolding lined side_in upto input_value
lined-same b c fast w zero h = refl
lined-same b c fast w (suc n) h =
    ap₂ (λ (x : Side) (v : Bool). moved x n v) (lined-same b c fast w n (λ k l. h k (omega arith))) (h n (omega arith))

pub core-lined : (b : Board) (c : ℕ) (k : Core) (v : Inputs) → k ≡ core_at b c → v ≡ values b c → lined_core k v ≡ wired_core b c
unfolding wired_core side pick
core-lined b c k v e f =
    ap₂ lined_core e f
    ∙ ap₂ core_of
    (lined-same b c true (values b c).fiq 8 (fiq-values b c))
    (lined-same b c false (values b c).irq 32 (irq-values b c))

pub activities-lined : (b : Board) (c : ℕ) (k : Core) (x y : Bool) → k ≡ wired_core b c → x ≡ active k.irq → y ≡ active k.fiq
    → ◌≡◌ {A = Activities} (record { irq = x; fiq = y }) (activities b c)
activities-lined b c k x y e f g =
    ap₂ (λ (p q : Bool). record { irq = p; fiq = q })
    (f ∙ ap (λ (j : Core). active j.irq) e ∙ sym (irq-is b c))
    (g ∙ ap (λ (j : Core). active j.fiq) e ∙ sym (fiq-is b c))

-- ---- one input of the forty

pub irq-input : (b : Board) (c i : ℕ) (v : Inputs) (r : Bool) → i < 32 → v ≡ values b c → r ≡ bit v.irq i → r ≡ input_value b c i
irq-input b c i v r l e f = f ∙ ap (λ (x : Inputs). bit x.irq i) e ∙ irq-values b c i l

pub fiq-input : (b : Board) (c i : ℕ) (v : Inputs) (r : Bool) → 32 ≤ i → v ≡ values b c → r ≡ bit v.fiq (i - 32) → r ≡ input_value b c i
fiq-input b c i v r l e f = f ∙ ap (λ (x : Inputs). bit x.fiq (i - 32)) e ∙ go (dec_lt i 40)
  where
    go : Dec (i < 40) → bit (values b c).fiq (i - 32) ≡ input_value b c i
    go (yes m) = fiq-values b c (i - 32) (omega arith) ∙ ap (input_value b c) (omega arith)
    go (no m) =
        bit_past 8 (values b c).fiq (i - 32) (values_word b c).1 (omega arith)
        ∙ from_nothing b c i (wire_at b c i) refl (no-input b.wire c i (omega arith))
