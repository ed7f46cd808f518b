-- The promises of the record, kept.
use Prim.Native.Nat.{ℕ, zero, suc, ◌+◌, ◌*◌, ◌/◌, ◌%◌}
use mathlib.Core.Path.{◌≡◌, refl, sym, ◌∙◌}
use mathlib.Core.Bool.{Bool, true, ◌&&◌, and_comm}
use mathlib.Core.Logic.{◌↔◌, ◌⊎◌, inl, inr, ⊎_elim}
use native.Mathlib.Nat.{div-one}
use native.Mathlib.Omega.{arith}
use native.Mathlib.Decide.{ℕ_discrete}
use lib.Dec.{eqb}
use lib.ListN.{get_or, replicate}
use borrow.Author.Tests.{eqb-true, eq-eqb}
use Rattle.words.specs.Counting.{one}
use Rattle.words.specs.Word.{bit, word_of, both}
use Rattle.words.proofs.WordLaws.{bit-none, one-eqb, word_of-same}
use Rattle.aic_record.specs.declared.Aic.{Aic}
use Rattle.aic_record.specs.Record.{reset}
use Rattle.aic_record.specs.Mode.{type_of, kept_mode, mode_at, priority, kind, edge}
use Rattle.aic_record.specs.Promises.{Rules, Fresh, Setters, Promises}
use Rattle.aic_record.proofs.SoundLaws.{below_none, below_next, sound-is, is-sound, nothing-fits, rising}

zeros : (n i : ℕ) → ◌≡◌ {A = ℕ} (get_or (replicate n 0) i 0) 0
zeros zero i = refl
zeros (suc n) zero = refl
zeros (suc n) (suc i) = zeros n i

-- the bits of 0x67 are 0, 1, 2, 5 and 6: of any other nothing is gathered
masked : (f : ℕ → Bool) → word_of 32 (λ k. bit 0x67 k && f k) ≡ (one (f 6) * 2 + one (f 5)) * 32 + (one (f 2) * 4 + one (f 1) * 2 + one (f 0))
unfolding word_of bit
masked f = omega arith

digit : (x : ℕ) → one (eqb (x % 2) 1) ≡ x % 2
digit x = one-eqb (x % 2) (omega arith)

low_bits : (v : ℕ) → v % 8 ≡ one (bit v 2) * 4 + one (bit v 1) * 2 + one (bit v 0)
unfolding bit
low_bits v =
    let e : v % 4 ≡ v / 2 % 2 * 2 + v / 1 % 2 = rw (div-one v) (omega arith) in
    let f : v % 8 ≡ v / 4 % 2 * 4 + v % 4 = omega arith in
    rw (digit (v / 4), digit (v / 2), digit (v / 1)) (three (v % 8) (v % 4) (v / 4 % 2) (v / 2 % 2) (v / 1 % 2) f e)
  where
    three : (a b x y z : ℕ) → a ≡ x * 4 + b → b ≡ y * 2 + z → a ≡ x * 4 + y * 2 + z
    three a b x y z p q = omega arith

type_bits : (v : ℕ) → v / 32 % 4 ≡ one (bit v 6) * 2 + one (bit v 5)
unfolding bit
type_bits v = rw (digit (v / 64), digit (v / 32)) (omega arith)

kept-is : (v : ℕ) → kept_mode v ≡ both v 0x67
unfolding both
kept-is v = rw (low_bits v, type_bits v) (sym (masked (bit v))) ∙ word_of-same 32 (λ k. bit 0x67 k && bit v k) (λ k. bit v k && bit 0x67 k) (λ k l. and_comm (bit 0x67 k) (bit v k))

edge-is : (s : Aic) (k : ℕ) → (edge s k ≡ true) ↔ ((kind s k ≡ 1) ⊎ (kind s k ≡ 3))
unfolding edge kind
edge-is s k = (λ e. odd (ℕ_discrete (kind s k) 1) (eqb-true (type_of (mode_at s k) % 2) 1 e), ⊎_elim one three)
  where
    odd : Dec (kind s k ≡ 1) → type_of (mode_at s k) % 2 ≡ 1 → (kind s k ≡ 1) ⊎ (kind s k ≡ 3)
    odd (yes e) h = inl e
    odd (no d) h = inr (omega arith)

    one : kind s k ≡ 1 → edge s k ≡ true
    one e = eq-eqb (type_of (mode_at s k) % 2) 1 (omega arith)

    three : kind s k ≡ 3 → edge s k ≡ true
    three e = eq-eqb (type_of (mode_at s k) % 2) 1 (omega arith)

reset-rules : (external lines : ℕ) → Rules (reset external lines)
unfolding reset
reset-rules external lines =
    record {
      entries = omega arith;
      sources = λ i l. absurd (omega arith);
      marks = λ i l. absurd (omega arith);
      levels = λ i l. absurd (omega arith);
      above = λ i l. absurd (omega arith);
      unused = λ i l m. (zeros 8 i, zeros 8 i);
      memory = λ k l n. bit-none k;
      modes = λ k l. rw (zeros 32 k);
      debug = omega arith;
      seen = nothing-fits _ _ _;
      forced = bit-none 0;
    }

fresh : (external lines : ℕ) → Fresh external lines (reset external lines)
unfolding reset
fresh external lines =
    record {
      configured = (refl, refl);
      words = (refl, refl, refl, refl, refl);
      modes = zeros 32;
      vectors = zeros 32;
      slots = λ i. (zeros 8 i, zeros 8 i);
      none_open = refl;
      nothing = refl;
    }

setters : (s : Aic) → Setters s
setters s =
    record {
      lines = λ w. refl;
      enabled = λ w. refl;
      memory = λ w. refl;
      forced = λ w. refl;
      spurious = λ w. refl;
      debug = λ w. refl;
      mode = λ l. refl;
      vector = λ l. refl;
      handlers = λ sources levels n. refl;
      seen = λ n. refl;
    }

pub kept : Promises
unfolding reset priority kind
kept =
    record {
      reset_is = fresh;
      nothing_is = refl;
      setters = setters;
      mode_is = λ s k. refl;
      slot_is = λ s i. (refl, refl);
      below_is = λ level. (below_none level, below_next level);
      fields_are = λ v. (refl, refl);
      priority_is = λ s k. refl;
      kind_is = λ s k. refl;
      kept_is = kept-is;
      edge_is = edge-is;
      kept_fields = λ v. (omega arith, omega arith);
      sound_is = λ s. (sound-is s, is-sound s);
      rising = λ s ok. rising s (sound-is s ok);
      reset_sound = λ external lines. is-sound (reset external lines) (reset-rules external lines);
      reset_shaped = λ external lines. (refl, refl, refl, refl);
    }
