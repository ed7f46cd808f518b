-- A controller with the wired values as its lines: only its lines differ, bit by bit, and when its output is active.
use Prim.Native.Nat.{ℕ, zero, suc, ◌+◌, ◌^◌, ◌≤◌, ◌<◌}
use mathlib.Core.Path.{◌≡◌, refl, sym, ap, ap₂, ◌∙◌}
use mathlib.Core.Bool.{Bool, true, false, ◌&&◌, ◌||◌}
use mathlib.Core.List.{List}
use mathlib.Core.Logic.{◌↔◌, ⊎_elim}
use native.Mathlib.Omega.{arith}
use native.Mathlib.Decide.{ℕ_discrete, dec_lt}
use lib.Dec.{eqb, ltb}
use borrow.Author.Tests.{lt-ltb, le-ltb, eq-eqb, ne_eqb}
use Rattle.words.specs.Choice.{pick}
use Rattle.words.specs.Counting.{upto}
use Rattle.words.specs.Word.{bit}
use Rattle.words.proofs.ChoiceLaws.{pick_true}
use Rattle.words.proofs.TruthLaws.{and_both, or-either, or_left, or_right}
use Rattle.coreinterrupt.specs.declared.sides.Side.{Side}
use Rattle.coreinterrupt.specs.Side.{with_inputs, raw, active, moved, side_sound}
use Rattle.coreinterrupt.specs.SidesPromises.{SomeSource}
use Rattle.coreinterrupt.proofs.SideLaws.{moved_spare, line-bit, line_word, line-only, moved-sound, sound-active, sound-rules}
use Rattle.coreinterrupt.proofs.SidesPromises.{kept as side-kept}
use Rattle.coreinterrupt.specs.Model.{side, sound}
use Rattle.coreinterrupt.proofs.ModelLaws.{fiq-sound, irq-sound, sound-is}
use Rattle.board_wires.specs.declared.Board.{Board}
use Rattle.board_wires.specs.Wires.{wire_in, wire_at, core_at, place_of, wired, side_in, active_by, below, activity, input_value, wired_core}
use Rattle.board_wires.specs.Promises.{Raised}

-- ---- a side after its inputs are put, one after the other

-- of bits put one after the other, where x is bit j after n of them: one more
one-put : (j n m : ℕ) (f : ℕ → Bool) (u x : Bool) → x ≡ pick (ltb j n && ltb j m) (f j) u → pick (eqb j n && ltb n m) (f n) x ≡ pick (ltb j (suc n) && ltb j m) (f j) u
unfolding pick
one-put j n m f u x h = go (ℕ_discrete j n) (dec_lt j n)
  where
    go : Dec (j ≡ n) → Dec (j < n) → pick (eqb j n && ltb n m) (f n) x ≡ pick (ltb j (suc n) && ltb j m) (f j) u
    go (yes e) q = rw (h, eq-eqb j n e, lt-ltb j (suc n) (omega arith), le-ltb j n (omega arith), e)
    go (no e) (yes q) = rw (h, ne_eqb j n e, lt-ltb j n q, lt-ltb j (suc n) (omega arith))
    go (no e) (no q) = rw (h, ne_eqb j n e, le-ltb j n (omega arith), le-ltb j (suc n) (omega arith))

module _ (ws ps : List ℕ) (g : ℕ → Bool → Bool) (c : ℕ) (fast : Bool) (s : Side) where
  -- only its lines differ
  pub side-only : (n : ℕ) → side_in ws ps g c fast s n ≡ with_inputs s (side_in ws ps g c fast s n).inputs
  unfolding side_in upto
  side-only zero = refl
  side-only (suc n) =
      let x = side_in ws ps g c fast s n in
      let m = moved x n (wired ps g c (wire_in ws c (place_of fast n))) in
      line-only x n (wired ps g c (wire_in ws c (place_of fast n))) ∙ ap (λ (t : Side). with_inputs t m.inputs) (side-only n)

  pub side-count : (n : ℕ) → (side_in ws ps g c fast s n).count ≡ s.count
  side-count n = ap (λ (t : Side). t.count) (side-only n)

  -- line j is the value of its input, if it is one of those put and within the count
  pub side-bit : (n j : ℕ) → j < 32
      → bit (side_in ws ps g c fast s n).inputs j ≡ pick (ltb j n && ltb j s.count) (wired ps g c (wire_in ws c (place_of fast j))) (bit s.inputs j)
  unfolding side_in upto pick
  side-bit zero j l = rw (le-ltb j 0 (omega arith))
  side-bit (suc n) j l =
      line-bit (side_in ws ps g c fast s n) n j (wired ps g c (wire_in ws c (place_of fast n))) l
      ∙ ap (λ (m : ℕ). pick (eqb j n && ltb n m) (wired ps g c (wire_in ws c (place_of fast n))) (bit (side_in ws ps g c fast s n).inputs j)) (side-count n)
      ∙ one-put j n s.count (λ k. wired ps g c (wire_in ws c (place_of fast k))) (bit s.inputs j) (bit (side_in ws ps g c fast s n).inputs j) (side-bit n j l)

  pub side_word : (n : ℕ) → s.inputs < 2 ^ 32 → (side_in ws ps g c fast s n).inputs < 2 ^ 32
  unfolding side_in upto
  side_word zero l = l
  side_word (suc n) l = line_word (side_in ws ps g c fast s n) n (wired ps g c (wire_in ws c (place_of fast n))) (side_word n l)

  pub side-sound : (limit n : ℕ) → side_sound limit s ≡ true → side_sound limit (side_in ws ps g c fast s n) ≡ true
  unfolding side_in upto
  side-sound limit zero e = e
  side-sound limit (suc n) e = moved-sound n (wired ps g c (wire_in ws c (place_of fast n))) limit (side_in ws ps g c fast s n) (side-sound limit n e)

-- what agrees on the inputs within the count gives the same side
pub side_used : (ws vs ps qs : List ℕ) (g h : ℕ → Bool → Bool) (c : ℕ) (fast : Bool) (s : Side) (n : ℕ)
    → ((k : ℕ) → k < s.count → wired ps g c (wire_in ws c (place_of fast k)) ≡ wired qs h c (wire_in vs c (place_of fast k)))
    → side_in ws ps g c fast s n ≡ side_in vs qs h c fast s n
unfolding side_in upto
side_used ws vs ps qs g h c fast s zero e = refl
side_used ws vs ps qs g h c fast s (suc n) e = go (dec_lt n s.count) (side_used ws vs ps qs g h c fast s n e)
  where
    X : Side
    X = side_in ws ps g c fast s n

    Y : Side
    Y = side_in vs qs h c fast s n

    go : Dec (n < s.count) → X ≡ Y → moved X n (wired ps g c (wire_in ws c (place_of fast n))) ≡ moved Y n (wired qs h c (wire_in vs c (place_of fast n)))
    go (yes l) i = ap₂ (λ (t : Side) (v : Bool). moved t n v) i (e n l)
    go (no l) i =
        moved_spare X n (wired ps g c (wire_in ws c (place_of fast n))) (omega (arith, side-count ws ps g c fast s n)) ∙ i
        ∙ sym (moved_spare Y n (wired qs h c (wire_in vs c (place_of fast n))) (omega (arith, side-count vs qs h c fast s n)))

-- a sound side whose lines have the values `high` is active exactly if a source of it is raised
raised_is : (w s : Side) (limit : ℕ) (a : Bool) (high : ℕ → Bool) → w ≡ with_inputs s w.inputs → a ≡ active w → limit ≤ 32 → side_sound limit w ≡ true
    → ((k : ℕ) → k < s.count → k < 32 → bit w.inputs k ≡ high k) → (a ≡ true) ↔ Raised s high
raised_is w s limit a high o i m e bits = ((λ h. to ((sound-active limit w m e).0 (sym i ∙ h))), (λ r. i ∙ (sound-active limit w m e).1 (from r)))
  where
    same : w.count ≡ s.count
    same = ap (λ (t : Side). t.count) o

    raw_at : (k : ℕ) → k < s.count → bit (raw w) k ≡ (high k || bit s.soft k)
    raw_at k l =
        let n : k < 32 = omega (arith, l, same, m, (sound-rules limit w e).counted) in
        side-kept.raw_bit w k n ∙ ap₂ (λ (p q : Bool). p || q) (bits k l n) (ap (λ (t : Side). bit t.soft k) o)

    to : SomeSource w.count w → Raised s high
    to r =
        let l : r.0 < s.count = omega (arith, r.1, same) in
        (r.0, l, or-either (high r.0) (bit s.soft r.0) (sym (raw_at r.0 l) ∙ r.2.0), ap (λ (t : Side). bit t.enable r.0) (sym o) ∙ r.2.1)

    from : Raised s high → SomeSource w.count w
    from r = (
      r.0,
      omega (arith, r.1, same),
      (
        raw_at r.0 r.1 ∙ ⊎_elim (λ (h : high r.0 ≡ true). or_left (bit s.soft r.0) h) (λ (h : bit s.soft r.0 ≡ true). or_right (high r.0) h) r.2,
        ap (λ (t : Side). bit t.enable r.0) o ∙ r.3,
      ),
    )

-- ---- the controller

module _ (b : Board) (c : ℕ) where
  pub irq-only : (wired_core b c).irq ≡ with_inputs (core_at b c).irq (wired_core b c).irq.inputs
  unfolding wired_core side pick
  irq-only = side-only b.wire b.pin (below b c) c false (core_at b c).irq 32

  pub fiq-only : (wired_core b c).fiq ≡ with_inputs (core_at b c).fiq (wired_core b c).fiq.inputs
  unfolding wired_core side pick
  fiq-only = side-only b.wire b.pin (below b c) c true (core_at b c).fiq 8

  pub irq-bit : (k : ℕ) → k < 32
      → bit (wired_core b c).irq.inputs k ≡ pick (ltb k (core_at b c).irq.count) (input_value b c k) (bit (core_at b c).irq.inputs k)
  unfolding wired_core side input_value pick
  irq-bit k l =
      side-bit b.wire b.pin (below b c) c false (core_at b c).irq 32 k l
      ∙ ap (λ (t : Bool). pick (t && ltb k (core_at b c).irq.count) (wired b.pin (below b c) c (wire_at b c k)) (bit (core_at b c).irq.inputs k)) (lt-ltb k 32 l)

  pub fiq-bit : (k : ℕ) → k < 32
      → bit (wired_core b c).fiq.inputs k ≡ pick (ltb k 8 && ltb k (core_at b c).fiq.count) (input_value b c (32 + k)) (bit (core_at b c).fiq.inputs k)
  unfolding wired_core side input_value pick
  fiq-bit k l = side-bit b.wire b.pin (below b c) c true (core_at b c).fiq 8 k l

  pub lines_word : ((core_at b c).irq.inputs < 2 ^ 32 → (wired_core b c).irq.inputs < 2 ^ 32) × ((core_at b c).fiq.inputs < 2 ^ 32 → (wired_core b c).fiq.inputs < 2 ^ 32)
  unfolding wired_core side pick
  lines_word = (side_word b.wire b.pin (below b c) c false (core_at b c).irq 32, side_word b.wire b.pin (below b c) c true (core_at b c).fiq 8)

  pub irq-wired-sound : sound (core_at b c) ≡ true → side_sound 32 (wired_core b c).irq ≡ true
  unfolding wired_core side pick
  irq-wired-sound e = side-sound b.wire b.pin (below b c) c false (core_at b c).irq 32 32 (irq-sound (core_at b c) e)

  pub fiq-wired-sound : sound (core_at b c) ≡ true → side_sound 8 (wired_core b c).fiq ≡ true
  unfolding wired_core side pick
  fiq-wired-sound e = side-sound b.wire b.pin (below b c) c true (core_at b c).fiq 8 8 (fiq-sound (core_at b c) e)

  -- a sound controller stays sound
  pub wired-sound : sound (core_at b c) ≡ true → sound (wired_core b c) ≡ true
  wired-sound e =
      (sound-is (wired_core b c)).1
      (record { fiq = sound-rules 8 (wired_core b c).fiq (fiq-wired-sound e); irq = sound-rules 32 (wired_core b c).irq (irq-wired-sound e) })

  -- ---- its activities

  pub irq-is : activity b c false ≡ active (wired_core b c).irq
  unfolding activity active_by wired_core pick
  irq-is = refl

  pub fiq-is : activity b c true ≡ active (wired_core b c).fiq
  unfolding activity active_by wired_core pick
  fiq-is = refl

  pub irq-raised : sound (core_at b c) ≡ true → (activity b c false ≡ true) ↔ Raised (core_at b c).irq (λ k. input_value b c k)
  irq-raised e =
      raised_is (wired_core b c).irq (core_at b c).irq 32 (activity b c false) (λ k. input_value b c k) irq-only irq-is (omega arith) (irq-wired-sound e)
      (λ k l m. irq-bit k m ∙ sym (pick_true _ (lt-ltb k (core_at b c).irq.count l)))

  pub fiq-raised : sound (core_at b c) ≡ true → (activity b c true ≡ true) ↔ Raised (core_at b c).fiq (λ k. input_value b c (32 + k))
  fiq-raised e =
      raised_is (wired_core b c).fiq (core_at b c).fiq 8 (activity b c true) (λ k. input_value b c (32 + k)) fiq-only fiq-is (omega arith) (fiq-wired-sound e)
      (λ k l m. fiq-bit k m ∙ sym (pick_true _ (and_both (lt-ltb k 8 (omega (arith, l, (sound-rules 8 (core_at b c).fiq (fiq-sound (core_at b c) e)).counted))) (lt-ltb k (core_at b c).fiq.count l))))
