-- One side: its tables, its bits, what keeps it sound and when its output is active.
use Prim.Native.Nat.{ℕ, zero, suc, ◌^◌, ◌<◌, ◌≤◌}
use mathlib.Core.Path.{◌≡◌, refl, sym, ap, ◌∙◌}
use mathlib.Core.Bool.{Bool, true, false, not, ◌&&◌, ◌||◌, and-true, and-false, false≢true}
use mathlib.Core.Logic.{◌↔◌, ◌≢◌, inl, inr}
use native.Mathlib.Omega.{arith}
use native.Mathlib.Decide.{dec_lt}
use borrow.Author.Tests.{eq-eqb, ne_eqb, eqb-false, leb-true, le-leb, lt-ltb, le-ltb, not-true}
use lib.Dec.{eqb, ltb}
use lib.Pow.{pow_pos}
use Rattle.words.specs.Choice.{pick}
use Rattle.words.specs.Word.{bit, with_bit, kept}
use Rattle.words.proofs.ChoiceLaws.{pick_true, pick-false, pick_cases}
use Rattle.words.proofs.TruthLaws.{and_left, and_right, and_both}
use Rattle.words.proofs.WordLaws.{bit-either, bit-both, bit-without, bit-with_bit, bit_kept, kept_lt, clean_lt, lt-clean, both_lt, either_narrow, both_narrow, without_narrow, with_bit_narrow, some-bit, bit-not-zero, bit_below, either_lt, without_lt, with_bit_lt}
use Rattle.steps.specs.declared.Access.{Access}
use Rattle.steps.specs.declared.Access.TheVariants.{NoRegister, ReadOnly, WriteOnly, ReadWrite}
use Rattle.steps.specs.Tables.{Readable, Writable}
use Rattle.coreinterrupt.specs.declared.sides.Side.{Side}
use Rattle.coreinterrupt.specs.Side.{idle, raw, status, active, other, output_level, with_inputs, with_soft, with_enable, clear_access, side_access, side_read, set_bits, clear_bits, side_write, moved, side_sound}
use Rattle.coreinterrupt.specs.SidesPromises.{SomeSource, Rules}
use Rattle.coreinterrupt.proofs.SidesTableLaws.{access-past, read_past, write-past}

-- ---- bits

pub set-bit : (n w v k : ℕ) → k < 32 → bit (set_bits n w v) k ≡ (bit w k || (bit v k && ltb k n))
unfolding set_bits
set-bit n w v k l = bit-either w (kept n v) k l ∙ ap (λ (t : Bool). bit w k || t) (bit_kept n v k)

pub clear-bit : (n w v k : ℕ) → k < 32 → bit (clear_bits n w v) k ≡ (bit w k && not (bit v k && ltb k n))
unfolding clear_bits
clear-bit n w v k l = bit-without w (kept n v) k l ∙ ap (λ (t : Bool). bit w k && not t) (bit_kept n v k)

-- an input within the count, and a spare one
pub moved_own : (s : Side) (k : ℕ) (high : Bool) → k < s.count → moved s k high ≡ with_inputs s (with_bit s.inputs k high)
unfolding moved
moved_own s k high l = sym (pick_true s (lt-ltb k s.count l))

pub moved_spare : (s : Side) (k : ℕ) (high : Bool) → s.count ≤ k → moved s k high ≡ s
unfolding moved
moved_spare s k high l = sym (pick-false (with_inputs s (with_bit s.inputs k high)) (le-ltb k s.count l))

pub line-bit : (s : Side) (k j : ℕ) (high : Bool) → j < 32
    → bit (moved s k high).inputs j ≡ pick (eqb j k && ltb k s.count) high (bit s.inputs j)
line-bit s k j high l = go (dec_lt k s.count)
  where
    go : Dec (k < s.count) → bit (moved s k high).inputs j ≡ pick (eqb j k && ltb k s.count) high (bit s.inputs j)
    go (yes p) =
        ap (λ (h : Side). bit h.inputs j) (moved_own s k high p) ∙ bit-with_bit s.inputs k high j l
        ∙ sym (ap (λ (t : Bool). pick t high (bit s.inputs j)) (ap (λ (t : Bool). eqb j k && t) (lt-ltb k s.count p) ∙ and-true (eqb j k)))
    go (no p) =
        ap (λ (h : Side). bit h.inputs j) (moved_spare s k high (omega arith))
        ∙ pick-false high (ap (λ (t : Bool). eqb j k && t) (le-ltb k s.count (omega arith)) ∙ and-false (eqb j k))

pub line_word : (s : Side) (k : ℕ) (high : Bool) → s.inputs < 2 ^ 32 → (moved s k high).inputs < 2 ^ 32
unfolding moved
line_word s k high l = pick_cases (λ (t : Side). t.inputs < 2 ^ 32) (ltb k s.count) (λ _. with_bit_lt s.inputs k high) (λ _. l)

pub line-only : (s : Side) (k : ℕ) (high : Bool) → moved s k high ≡ with_inputs s (moved s k high).inputs
unfolding moved
line-only s k high = pick_cases (λ (h : Side). h ≡ with_inputs s h.inputs) (ltb k s.count) (λ _. refl) (λ _. refl)

pub set_word : (n w v : ℕ) → set_bits n w v < 2 ^ 32
unfolding set_bits
set_word n w v = either_lt w (kept n v)

pub clear_word : (n w v : ℕ) → clear_bits n w v < 2 ^ 32
unfolding clear_bits
clear_word n w v = without_lt w (kept n v)

pub soft_word : (s : Side) (i v : ℕ) → i < 2 → (side_write s i v).soft < 2 ^ 32
unfolding side_write
soft_word s zero v l = set_word s.count s.soft v
soft_word s (suc zero) v l = clear_word s.count s.soft v
soft_word s (suc (suc i)) v l = absurd (omega arith)

pub enable_word : (s : Side) (i v : ℕ) → 2 ≤ i → i < 4 → (side_write s i v).enable < 2 ^ 32
unfolding side_write
enable_word s zero v p l = absurd (omega arith)
enable_word s (suc zero) v p l = absurd (omega arith)
enable_word s (suc (suc zero)) v p l = set_word s.count s.enable v
enable_word s (suc (suc (suc zero))) v p l = clear_word s.count s.enable v
enable_word s (suc (suc (suc (suc i)))) v p l = absurd (omega arith)

pub soft-only : (s : Side) (i v : ℕ) → i < 2 → side_write s i v ≡ with_soft s (side_write s i v).soft
unfolding side_write
soft-only s zero v l = refl
soft-only s (suc zero) v l = refl
soft-only s (suc (suc i)) v l = absurd (omega arith)

pub enable-only : (s : Side) (i v : ℕ) → 2 ≤ i → i < 4 → side_write s i v ≡ with_enable s (side_write s i v).enable
unfolding side_write
enable-only s zero v p l = absurd (omega arith)
enable-only s (suc zero) v p l = absurd (omega arith)
enable-only s (suc (suc zero)) v p l = refl
enable-only s (suc (suc (suc zero))) v p l = refl
enable-only s (suc (suc (suc (suc i)))) v p l = absurd (omega arith)

-- ---- soundness, in sentences

pub sound-rules : (limit : ℕ) (s : Side) → side_sound limit s ≡ true → Rules limit s
unfolding side_sound
sound-rules limit s e =
    record {
      counted = leb-true s.count limit (search (and_left, and_right));
      levelled = leb-true s.level 1 (search (and_left, and_right));
      lined = clean_lt s.count s.inputs (search (and_left, and_right));
      softened = clean_lt s.count s.soft (search (and_left, and_right));
      enabled = clean_lt s.count s.enable (search (and_left, and_right));
    }

pub rules-sound : (limit : ℕ) (s : Side) → Rules limit s → side_sound limit s ≡ true
unfolding side_sound
rules-sound limit s p =
    and_both
    (and_both
    (and_both
    (and_both (le-leb s.count limit p.counted) (le-leb s.level 1 p.levelled))
    (lt-clean s.count s.inputs p.lined))
    (lt-clean s.count s.soft p.softened))
    (lt-clean s.count s.enable p.enabled)

pub idle-sound : (limit n l : ℕ) → n ≤ limit → l ≤ 1 → side_sound limit (idle n l) ≡ true
idle-sound limit n l p q =
    rules-sound limit (idle n l) (record { counted = p; levelled = q; lined = pow_pos n; softened = pow_pos n; enabled = pow_pos n })

set_narrow : (n w v : ℕ) → w < 2 ^ n → set_bits n w v < 2 ^ n
unfolding set_bits
set_narrow n w v l = either_narrow n w (kept n v) l (kept_lt n v)

clear_narrow : (n w v : ℕ) → w < 2 ^ n → clear_bits n w v < 2 ^ n
unfolding clear_bits
clear_narrow n w v l = without_narrow n w (kept n v) l

module _ (limit : ℕ) (s : Side) (p : Rules limit s) where
  with_soft_lem : (w : ℕ) → w < 2 ^ s.count → side_sound limit (with_soft s w) ≡ true
  with_soft_lem w l =
      rules-sound limit (with_soft s w)
      (record { counted = p.counted; levelled = p.levelled; lined = p.lined; softened = l; enabled = p.enabled })

  with_enable_lem : (w : ℕ) → w < 2 ^ s.count → side_sound limit (with_enable s w) ≡ true
  with_enable_lem w l =
      rules-sound limit (with_enable s w)
      (record { counted = p.counted; levelled = p.levelled; lined = p.lined; softened = p.softened; enabled = l })

  with_inputs_lem : (w : ℕ) → w < 2 ^ s.count → side_sound limit (with_inputs s w) ≡ true
  with_inputs_lem w l =
      rules-sound limit (with_inputs s w)
      (record { counted = p.counted; levelled = p.levelled; lined = l; softened = p.softened; enabled = p.enabled })

pub write-sound : (i v limit : ℕ) (s : Side) → side_sound limit s ≡ true → side_sound limit (side_write s i v) ≡ true
unfolding side_write
write-sound zero v limit s e = let p = sound-rules limit s e in with_soft_lem limit s p (set_bits s.count s.soft v) (set_narrow s.count s.soft v p.softened)
write-sound (suc zero) v limit s e = let p = sound-rules limit s e in with_soft_lem limit s p (clear_bits s.count s.soft v) (clear_narrow s.count s.soft v p.softened)
write-sound (suc (suc zero)) v limit s e = let p = sound-rules limit s e in with_enable_lem limit s p (set_bits s.count s.enable v) (set_narrow s.count s.enable v p.enabled)
write-sound (suc (suc (suc zero))) v limit s e =
    let p = sound-rules limit s e in with_enable_lem limit s p (clear_bits s.count s.enable v) (clear_narrow s.count s.enable v p.enabled)
write-sound (suc (suc (suc (suc i)))) v limit s e = ap (side_sound limit) (sym (write-past s (suc (suc (suc (suc i)))) v (omega arith))) ∙ e

pub moved-sound : (k : ℕ) (high : Bool) (limit : ℕ) (s : Side) → side_sound limit s ≡ true → side_sound limit (moved s k high) ≡ true
moved-sound k high limit s e = go (dec_lt k s.count)
  where
    go : Dec (k < s.count) → side_sound limit (moved s k high) ≡ true
    go (yes l) =
        let p = sound-rules limit s e in
        ap (side_sound limit) (moved_own s k high l)
        ∙ with_inputs_lem limit s p (with_bit s.inputs k high) (with_bit_narrow s.count s.inputs k high l p.lined)
    go (no l) = ap (side_sound limit) (moved_spare s k high (omega arith)) ∙ e

-- ---- the output

pub side-active : (s : Side) → (active s ≡ true) ↔ SomeSource 32 s
unfolding active status
side-active s = (found, shows)
  where
    found : not (eqb (status s) 0) ≡ true → SomeSource 32 s
    found e =
        let w = some-bit 32 (status s) (both_lt (raw s) s.enable) (eqb-false (status s) 0 (not-true _ e)) in
        let h = sym (bit-both (raw s) s.enable w.0 w.1) ∙ w.2 in
        (w.0, w.1, (and_left (bit (raw s) w.0) (bit s.enable w.0) h, and_right (bit (raw s) w.0) (bit s.enable w.0) h))

    shows : SomeSource 32 s → not (eqb (status s) 0) ≡ true
    shows w =
        ap not
        (ne_eqb (status s) 0 (bit-not-zero (status s) w.0 (bit-both (raw s) s.enable w.0 w.1 ∙ and_both w.2.0 w.2.1)))

-- of a sound side the source lies below the count
pub sound-active : (limit : ℕ) (s : Side) → limit ≤ 32 → side_sound limit s ≡ true → (active s ≡ true) ↔ SomeSource s.count s
sound-active limit s m e = ((λ h. below ((side-active s).0 h)), (λ w. (side-active s).1 (w.0, omega (arith, w.1, p.counted), w.2)))
  where
    p : Rules limit s
    p = sound-rules limit s e

    below : SomeSource 32 s → SomeSource s.count s
    below w = (w.0, bit_below s.count s.enable w.0 p.enabled w.2.1, w.2)

pub status-active : (s : Side) → (active s ≡ true) ↔ (status s ≢ 0)
unfolding active
status-active s = ((λ e. eqb-false (status s) 0 (not-true _ e)), (λ d. ap not (ne_eqb (status s) 0 d)))

pub level-held : (s : Side) → active s ≡ true → output_level s ≡ s.level
unfolding output_level
level-held s e = sym (pick_true _ e)

pub level-left : (s : Side) → active s ≡ false → (s.level ≡ 0 → output_level s ≡ 1) × (s.level ≢ 0 → output_level s ≡ 0)
unfolding output_level
level-left s e = (
  (λ z. sym (pick_true 0 (eq-eqb s.level 0 z) ∙ pick-false s.level e)),
  (λ d. sym (pick-false 1 (ne_eqb s.level 0 d) ∙ pick-false s.level e)),
)

other_level : (l : ℕ) → l ≤ 1 → (other l ≢ l) × (other l ≤ 1)
unfolding pick
other_level zero h = (omega arith, omega arith)
other_level (suc zero) h = (omega arith, omega arith)
other_level (suc (suc l)) h = absurd (omega arith)

pub level-active : (limit : ℕ) (s : Side) → side_sound limit s ≡ true → (output_level s ≡ s.level) ↔ (active s ≡ true)
unfolding output_level pick
level-active limit s e = go (active s)
  where
    go : (t : Bool) → (pick t s.level (other s.level) ≡ s.level) ↔ (t ≡ true)
    go true = ((λ _. refl), (λ _. refl))
    go false = ((λ h. absurd ((other_level s.level (sound-rules limit s e).levelled).0 h)), (λ h. absurd (false≢true h)))

pub level_small : (limit : ℕ) (s : Side) → side_sound limit s ≡ true → output_level s ≤ 1
unfolding output_level
level_small limit s e =
    pick_cases (λ (l : ℕ). l ≤ 1) (active s) (λ _. (sound-rules limit s e).levelled) (λ _. (other_level s.level (sound-rules limit s e).levelled).1)

-- ---- registers

pub clears-hidden : (s : Side) → s.count ≢ 0 → (side_access s 1 ≡ WriteOnly) × (side_access s 3 ≡ WriteOnly)
unfolding side_access clear_access
clears-hidden s d = let h = sym (pick-false ReadWrite (ne_eqb s.count 0 d)) in (h, h)

pub clears-shown : (s : Side) → s.count ≡ 0 → (side_access s 1 ≡ ReadWrite) × (side_access s 3 ≡ ReadWrite)
unfolding side_access clear_access
clears-shown s z = let h = sym (pick_true WriteOnly (eq-eqb s.count 0 z)) in (h, h)

-- whatever the count, they take writes
pub clear_writable : (s : Side) → Writable (clear_access s)
unfolding clear_access
clear_writable s = pick_cases Writable (eqb s.count 0) (λ _. inr refl) (λ _. inl refl)

pub raw-read-only : (s : Side) → (side_access s 4 ≡ ReadOnly) × (side_access s 5 ≡ ReadOnly)
unfolding side_access
raw-read-only s = (refl, refl)

clear_exists : (s : Side) → clear_access s ≢ NoRegister
unfolding clear_access
clear_exists s = pick_cases (λ (a : Access). a ≢ NoRegister) (eqb s.count 0) (λ _ e. let z : ◌≡◌ {A = ℕ} 0 1 = cc in omega arith) (λ _ e. let z : ◌≡◌ {A = ℕ} 0 1 = cc in omega arith)

exists : (s : Side) (i : ℕ) → i < 6 → side_access s i ≢ NoRegister
unfolding side_access
exists s zero l e = let z : ◌≡◌ {A = ℕ} 0 1 = cc in omega arith
exists s (suc zero) l e = clear_exists s e
exists s (suc (suc zero)) l e = let z : ◌≡◌ {A = ℕ} 0 1 = cc in omega arith
exists s (suc (suc (suc zero))) l e = clear_exists s e
exists s (suc (suc (suc (suc zero)))) l e = let z : ◌≡◌ {A = ℕ} 0 1 = cc in omega arith
exists s (suc (suc (suc (suc (suc zero))))) l e = let z : ◌≡◌ {A = ℕ} 0 1 = cc in omega arith
exists s (suc (suc (suc (suc (suc (suc i)))))) l e = absurd (omega arith)

pub six_registers : (s : Side) (i : ℕ) → (side_access s i ≡ NoRegister) ↔ (6 ≤ i)
six_registers s i = (below (dec_lt i 6), (λ l. sym (access-past s i l)))
  where
    below : Dec (i < 6) → side_access s i ≡ NoRegister → 6 ≤ i
    below (yes l) e = absurd (exists s i l e)
    below (no l) e = omega arith

-- ---- a side with no sources

zero_clear : (s : Side) → s.count ≡ 0 → clear_access s ≡ ReadWrite
unfolding clear_access
zero_clear s z = sym (pick_true WriteOnly (eq-eqb s.count 0 z))

pub zero_readable : (s : Side) (i : ℕ) → s.count ≡ 0 → i < 6 → Readable (side_access s i)
unfolding side_access
zero_readable s zero z l = inr refl
zero_readable s (suc zero) z l = inr (zero_clear s z)
zero_readable s (suc (suc zero)) z l = inr refl
zero_readable s (suc (suc (suc zero))) z l = inr (zero_clear s z)
zero_readable s (suc (suc (suc (suc zero)))) z l = inl refl
zero_readable s (suc (suc (suc (suc (suc zero))))) z l = inl refl
zero_readable s (suc (suc (suc (suc (suc (suc i)))))) z l = absurd (omega arith)

module _ (limit : ℕ) (s : Side) (p : Rules limit s) (z : s.count ≡ 0) where
  nothing : (w : ℕ) → w < 2 ^ s.count → w ≡ 0
  nothing w l = let h : w < 2 ^ 0 = rw z at l in omega arith

  raw_narrow : raw s < 2 ^ s.count
  unfolding raw
  raw_narrow = either_narrow s.count s.inputs s.soft p.lined p.softened

  status_narrow : status s < 2 ^ s.count
  unfolding status
  status_narrow = both_narrow s.count (raw s) s.enable raw_narrow

  pub zero-read : (i : ℕ) → side_read s i ≡ 0
  unfolding side_read
  zero-read zero = nothing s.soft p.softened
  zero-read (suc zero) = refl
  zero-read (suc (suc zero)) = nothing s.enable p.enabled
  zero-read (suc (suc (suc zero))) = refl
  zero-read (suc (suc (suc (suc zero)))) = nothing (raw s) raw_narrow
  zero-read (suc (suc (suc (suc (suc zero))))) = nothing (status s) status_narrow
  zero-read (suc (suc (suc (suc (suc (suc i)))))) = sym (read_past s (suc (suc (suc (suc (suc (suc i)))))) (omega arith))
