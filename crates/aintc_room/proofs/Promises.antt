-- The promises of the layout, kept.
use mathlib.Core.Path.{◌≡◌, refl, sym, ap, ◌∙◌}
use mathlib.Core.List.{List}
use Prim.Native.Nat.{ℕ, ◌+◌, ◌*◌, ◌/◌, ◌%◌, ◌<◌}
use native.Mathlib.Omega.{arith}
use lib.Dec.{eqb}
use lib.ListN.{get_or, get_or-replicate}
use Rattle.words.specs.Word.{bit}
use Rattle.words.proofs.WordLaws.{bit-word_of}
use Rattle.aintc_record.specs.declared.Aintc.{Aintc}
use Rattle.aintc_record.specs.Route.{route_at, route_of, priority_of, priority}
use Rattle.aintc_registers.specs.Search.{route_word}
use Rattle.aintc_room.specs.Room.{priority_word, laid, Laid}
use Rattle.aintc_room.specs.Promises.{Promises}
use Rattle.aintc_room.proofs.CellLaws.{cell-is, kind-is, part-is, fiqs-is, bits_is}
use Rattle.aintc_room.proofs.RecordLaws.{room-length, rest-is, one-record}

module _ (a : Aintc) (r : List ℕ) (h : Laid a r) where
  pub fiq-bit : (n i : ℕ) → n < 4 → i < 32 → bit (get_or r (28 + n) 0) i ≡ eqb (route_of (route_at a (32 * n + i))) 1
  unfolding route_word
  fiq-bit n i l m = ap (λ (w : ℕ). bit w i) (fiqs-is h n l) ∙ bit-word_of 32 (λ j. eqb (route_of (get_or a.routes (32 * n + j) 0)) 1) i m

  pub priority-bit : (b n i : ℕ) → b < 7 → n < 4 → i < 32 → bit (get_or r (32 + (4 * b + n)) 0) i ≡ bit (priority a (32 * n + i)) b
  unfolding priority_word priority
  priority-bit b n i k l m =
      let p : (4 * b + n) % 4 ≡ n = omega (arith, l) in
      let q : (4 * b + n) / 4 ≡ b = omega (arith, l) in
      ap (λ (w : ℕ). bit w i) (bits_is h (4 * b + n) (omega (arith, k, l))) ∙ bit-word_of 32 (λ j. bit (priority_of (get_or a.routes (32 * ((4 * b + n) % 4) + j) 0)) ((4 * b + n) / 4)) i m
      ∙ rw (p, q)

pub kept : Promises
kept =
    record {
      determined = λ a r s h k. h.words ∙ sym k.words;
      whole = one-record;
      stands = λ a s b. (laid a, record { shaped = s; bytes = b; words = refl });
      size = λ a r h. (room-length h, kind-is h);
      fiqs = λ a r n i h. fiq-bit a r h n i;
      bits = λ a r b n i h. priority-bit a r h b n i;
      spare = λ a r h. (cell-is h 7, cell-is h 11, cell-is h 15);
      before = λ a r i h l. part-is h 6 i l ∙ get_or-replicate 68 i 0 0 l;
      rest = λ a r i h l. rest-is h i l;
    }
