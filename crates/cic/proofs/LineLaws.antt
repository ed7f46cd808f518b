-- Line steps: the line's level and its status, and that a clear works while the line is high.
use mathlib.Core.Path.{◌≡◌, refl, sym, ap, subst, ◌∙◌}
use mathlib.Core.Bool.{Bool, true, false, not, ◌&&◌, ◌||◌}
use mathlib.Core.List.{List}
use Prim.Native.Nat.{ℕ, ◌+◌, ◌*◌, ◌/◌, ◌%◌, ◌<◌, ◌≤◌}
use native.Mathlib.Nat.{mod-lt}
use native.Mathlib.Omega.{arith}
use borrow.Author.Tests.{eq-eqb}
use lib.Dec.{eqb}
use lib.ListN.{set, length, length-set}
use lib.Seq.{get_or-set_same}
use Rattle.words.specs.Array.{bit_at, with_bit_at, clean_below}
use Rattle.words.specs.Choice.{pick}
use Rattle.words.specs.Word.{bit}
use Rattle.words.proofs.ArrayLaws.{bit_at_word, bit_at-with_bit_at, clean-with_bit_at}
use Rattle.words.proofs.ChoiceLaws.{pick-ap, pick_cases}
use Rattle.cic_record.specs.declared.Answer.{Answer}
use Rattle.cic_record.specs.declared.Cic.{Cic}
use Rattle.cic_record.specs.Kinds.{system}
use Rattle.cic_record.specs.Promises.{Shaped}
use Rattle.cic_record.specs.Record.{with_lines, with_status, answered}
use Rattle.cic_record.specs.Sound.{sound}
use Rattle.cic_record.proofs.PartsLaws.{sound-parts, sound_lines, sound-status}
use Rattle.cic_record.proofs.Promises as of-record
use Rattle.cic_registers.specs.Model.{moved, write, line}
use Rattle.cic.specs.Promises.{ClearedHigh}
use Rattle.cic.specs.Tables.{Sets}
use Rattle.cic.proofs.StepLaws.{line-done}
use Rattle.cic.proofs.WriteLaws.{writes_of}

-- ---- what a line step leaves

-- the status after a line step
abbrev risen : Cic → ℕ → Bool → List ℕ
risen c s high = pick (high && not (bit_at c.lines s)) (with_bit_at c.status s true) c.status

pub moved-is : (c : Cic) (s : ℕ) (high : Bool) → moved c (system s) high ≡ with_lines (with_status c (risen c s high)) (with_bit_at c.lines s high)
unfolding moved
moved-is c s high =
    sym (pick-ap (λ (x : List ℕ). with_lines (with_status c x) (with_bit_at c.lines s high)) (high && not (bit_at c.lines s)) (with_bit_at c.status s true) c.status)

pub moved-sound : (c : Cic) (s : ℕ) (high : Bool) → sound c ≡ true → s < c.systems → sound (moved c (system s) high) ≡ true
moved-sound c s high e l =
    ap sound (moved-is c s high)
    ∙ sound_lines (with_status c (risen c s high)) (with_bit_at c.lines s high)
    (sound-status c (risen c s high) e
    (pick_cases (λ (x : List ℕ). clean_below 32 c.systems x ≡ true) (high && not (bit_at c.lines s))
    (λ _. clean-with_bit_at 32 c.systems c.status s true l (sound-parts c e).status) (λ _. (sound-parts c e).status)))
    (clean-with_bit_at 32 c.systems c.lines s high l (sound-parts c e).lines)

pub moved_shaped : (c : Cic) (s : ℕ) (high : Bool) → Shaped c → Shaped (moved c (system s) high)
moved_shaped c s high h =
    subst Shaped (sym (moved-is c s high))
    (put-length c.lines high ∙ h.0, pick_cases (λ (x : List ℕ). length x ≡ 32) (high && not (bit_at c.lines s)) (λ _. put-length c.status true ∙ h.1) (λ _. h.1), h.2, h.3, h.4, h.5)
  where
    put-length : (ws : List ℕ) (t : Bool) → length (with_bit_at ws s t) ≡ length ws
    put-length ws t = unfold with_bit_at in (length-set ws (s / 32) _)

-- a bit that is set where the line rises
set_if : (r e b : Bool) → pick r (pick e true b) b ≡ (b || (e && r))
unfolding pick
set_if true true true = refl
set_if true true false = refl
set_if true false true = refl
set_if true false false = refl
set_if false true true = refl
set_if false true false = refl
set_if false false true = refl
set_if false false false = refl

module _ (c : Cic) (s l : ℕ) (ok : sound c ≡ true) (there : s < c.systems) (low : l ≤ 1) where
  pub line_moves : line c s l ≡ answered (with_lines (with_status c (risen c s (eqb l 1))) (with_bit_at c.lines s (eqb l 1))) 0
  line_moves = line-done c s l ok there low ∙ ap (λ (d : Cic). answered d 0) (moved-is c s (eqb l 1))

  pub line_bits : Shaped c → (i : ℕ)
      → (bit_at (line c s l).cic.lines i ≡ pick (eqb i s) (eqb l 1) (bit_at c.lines i))
      × (bit_at (line c s l).cic.status i ≡ (bit_at c.status i || (eqb i s && (eqb l 1 && not (bit_at c.lines s)))))
  line_bits h i =
      let most = (((of-record.kept).sound_is c).0 ok).counts.0.1 in
      let rises = eqb l 1 && not (bit_at c.lines s) in (
        ap (λ (a : Answer). bit_at a.cic.lines i) line_moves ∙ bit_at-with_bit_at c.lines s (eqb l 1) i (omega (arith, most, there, h.0)),
        ap (λ (a : Answer). bit_at a.cic.status i) line_moves
            ∙ pick-ap (λ (x : List ℕ). bit_at x i) rises (with_bit_at c.status s true) c.status
            ∙ ap (λ (t : Bool). pick rises t (bit_at c.status i)) (bit_at-with_bit_at c.status s true i (omega (arith, most, there, h.1)))
            ∙ set_if rises (eqb i s) (bit_at c.status i),
      )

-- ---- a clear while the line is high

-- the bit of thing s, after its word was put anew
sets-bit : {a : Answer} {put : List ℕ → Cic} {ws : List ℕ} {f : ℕ → Bool} (s : ℕ) (x : Sets a put ws (s / 32) f) → s / 32 < length ws → bit_at (set ws (s / 32) x.word) s ≡ f s
sets-bit {ws = ws} {f = f} s x l =
    let e : 32 * (s / 32) + s % 32 ≡ s = omega arith in
    ap (bit_at (set ws (s / 32) x.word)) (sym e) ∙ bit_at_word (set ws (s / 32) x.word) (s / 32) (s % 32) (mod-lt s (omega arith))
    ∙ ap (λ (w : ℕ). bit w (s % 32)) (get_or-set_same ws (s / 32) x.word 0 l) ∙ x.bits (s % 32) (mod-lt s (omega arith)) ∙ ap f e

module _ (c : Cic) (s : ℕ) (h : Shaped c) (ok : sound c ≡ true) (there : s < c.systems) (high : bit_at c.lines s ≡ true) where
  -- whichever write clears the bit
  cleared : (o v : ℕ) {f : ℕ → Bool} → Sets (write c o v) (with_status c) c.status (s / 32) f → f s ≡ false → ClearedHigh c s o v
  cleared o v x e =
      let most = (((of-record.kept).sound_is c).0 ok).counts.0.1 in (
        ap (λ (a : Answer). a.refusal) x.done,
        ap (λ (a : Answer). bit_at a.cic.status s) x.done ∙ sets-bit s x (omega (arith, most, there, h.1)) ∙ e,
        ap (λ (a : Answer). bit_at a.cic.lines s) x.done ∙ high,
      )

  off : (b t : Bool) → t ≡ true → (b && not t) ≡ false
  off true true e = refl
  off true false e = sym e
  off false t e = refl

  pub clears-high : (v : ℕ) → bit v (s % 32) ≡ true → ClearedHigh c s (0x280 + 4 * (s / 32)) v
  clears-high v e = cleared (0x280 + 4 * (s / 32)) v ((writes_of c h ok v).enabled_clear (s / 32) (omega (arith, there))) (off (bit_at c.status s) (bit v (s % 32)) e)

  pub index_clears-high : ClearedHigh c s 0x024 s
  index_clears-high = cleared 0x024 s ((writes_of c h ok s).status_index_clear there) (off (bit_at c.status s) (eqb s s) (eq-eqb s s refl))
