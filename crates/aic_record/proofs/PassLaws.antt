-- The two passes over a record ask what the rules of a sound one ask.
use mathlib.Core.Path.{◌≡◌, refl, sym, ap, ◌∙◌}
use mathlib.Core.Bool.{Bool, true, false, not, ◌&&◌, ◌||◌, and_assoc}
use mathlib.Core.List.{List}
use Prim.Native.Nat.{ℕ, ◌+◌, ◌<◌}
use mathlib.Core.Logic.{◌≢◌}
use native.Mathlib.Omega.{arith}
use native.Mathlib.Decide.{dec_lt, ℕ_discrete}
use borrow.Author.Tests.{eq-eqb, ne_eqb, lt-ltb, le-ltb, le-leb, lt-leb}
use lib.Dec.{eqb, ltb, leb}
use lib.ListN.{get_or}
use Rattle.words.specs.Choice.{pick}
use Rattle.words.specs.Counting.{all_below}
use Rattle.words.specs.Word.{bit}
use Rattle.words.proofs.ChoiceLaws.{pick_true, pick-false}
use Rattle.words.proofs.CountingLaws.{all_same}
use Rattle.aic_record.specs.declared.Aic.{Aic}
use Rattle.aic_record.specs.Mode.{mode_at, kept_mode, edge, edge_of}
use Rattle.aic_record.specs.Passes.{floor_over, slot_sound, mode_sound}
use Rattle.aic_record.specs.Sound.{no_level, level_below, over, entry_fits, entry_sound, free_sound, entries_sound, memory_sound, stored_sound, protects, seen_fits, seen_sound, sound}
use Rattle.words.proofs.CountingLaws.{all-and}

-- a slot by the level that the pass has come to
pub slot_is : (source level : List ℕ) (depth i below : ℕ) {r : Bool} → below ≡ level_below level i
    → r ≡ pick (ltb i depth) (entry_fits below (get_or source i 0) (get_or level i 0)) (eqb (get_or source i 0) 0 && eqb (get_or level i 0) 0)
    → r ≡ slot_sound source level depth i
unfolding slot_sound
slot_is source level depth i below e f = rw (sym e) f

-- the least priority above no level is 0, and above a level the next one
pub floor-free : (l m : ℕ) → l ≡ m → l ≡ no_level → ◌≡◌ {A = ℕ} 0 (floor_over m)
unfolding floor_over
floor-free l m e z = pick_true _ (eq-eqb m no_level (sym e ∙ z))

pub floor-over : (l m : ℕ) → l ≡ m → l ≢ no_level → l + 1 ≡ floor_over m
unfolding floor_over
floor-over l m e d = ap (λ (j : ℕ). j + 1) e ∙ pick-false 0 (ne_eqb m no_level (λ z. d (e ∙ z)))

-- at least that priority: above the level
pub floor_rule : (l n : ℕ) → leb (floor_over l) n ≡ over l n
unfolding floor_over over
floor_rule l n = go (ℕ_discrete l no_level) (dec_lt l n)
  where
    go : Dec (l ≡ no_level) → Dec (l < n) → leb (pick (eqb l no_level) 0 (l + 1)) n ≡ (eqb l no_level || ltb l n)
    go (yes e) d = rw (eq-eqb l no_level e) (unfold pick in (le-leb 0 n (omega arith)))
    go (no z) (yes g) = rw (ne_eqb l no_level z, lt-ltb l n g) (unfold pick in (le-leb (l + 1) n (omega arith)))
    go (no z) (no g) = rw (ne_eqb l no_level z, le-ltb l n (omega arith)) (unfold pick in (lt-leb (l + 1) n (omega arith)))

slots_are : (s : Aic) → all_below 8 (slot_sound s.source s.level s.depth) ≡ all_below 8 (λ i. pick (ltb i s.depth) (entry_sound s i) (free_sound s i))
unfolding slot_sound entry_sound free_sound
slots_are s = all_same 8 _ _ (λ i l. refl)

modes_are : (s : Aic) → all_below 32 (mode_sound s.mode s.memory) ≡ (memory_sound s && all_below 32 (λ k. eqb (kept_mode (mode_at s k)) (mode_at s k)))
unfolding mode_sound memory_sound edge
modes_are s = all-and 32 (λ k. edge_of (mode_at s k) || not (bit s.memory k)) (λ k. eqb (kept_mode (mode_at s k)) (mode_at s k))

regroup : (h m k q n : Bool) → (((h && (m && k)) && q) && n) ≡ (((h && m) && (k && q)) && n)
regroup true m k q n = ap (λ (b : Bool). b && n) (and_assoc m k q)
regroup false m k q n = refl

-- what the check gathers is the rule
pub sound-by : (s : Aic) (p m f n : Bool) → p ≡ all_below 8 (slot_sound s.source s.level s.depth) → m ≡ all_below 32 (mode_sound s.mode s.memory)
    → f ≡ bit s.forced 0 → n ≡ seen_sound s
    → (((((leb s.depth 8 && p) && m) && ltb s.debug 4) && not f) && n) ≡ sound s
unfolding sound entries_sound stored_sound
sound-by s p m f n e g h q =
    rw (e, g, h, q, slots_are s, modes_are s)
    (ap (λ (b : Bool). b && seen_sound s) (regroup (leb s.depth 8 && all_below 8 (λ i. pick (ltb i s.depth) (entry_sound s i) (free_sound s i))) (memory_sound s)
    (all_below 32 (λ k. eqb (kept_mode (mode_at s k)) (mode_at s k))) (ltb s.debug 4) (not (bit s.forced 0))))

-- what is remembered, by the mode and the level that the check has read
pub seen_by : (s : Aic) (r on : Bool) (below : ℕ) → on ≡ protects s → below ≡ level_below s.level s.depth → r ≡ seen_fits on s.seen below s.depth → r ≡ seen_sound s
unfolding seen_sound
seen_by s r on below e f g = rw (sym e, sym f) g
