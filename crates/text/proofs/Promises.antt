-- The promises of texts, kept.
use Prim.Native.Nat.{ℕ, ◌+◌, ◌-◌, ◌*◌, ◌≤◌, min}
use mathlib.Core.Path.{◌≡◌, refl, sym, ◌∙◌}
use mathlib.Core.List.{List, [], ◌∷◌, ◌++◌}
use native.Mathlib.Nat.{min-eq_left}
use lib.ListN.{length, take, drop}
use lib.Seq.{take_all}
use Rattle.words.specs.Choice.{pick}
use Rattle.text.specs.Text.{decimal_of, decimal, field, write, laid}
use Rattle.text.specs.Promises.{worth_after, Promises}
use Rattle.text.proofs.DigitLaws.{digit_listed, length-hex, hex-nth, decimal-digits, decimal-worth, decimal-first}
use Rattle.text.proofs.WriteLaws.{room, nothing, write_full, write_append, length-write, write-laid}

fits : (l bs : List ℕ) → length bs ≤ length l → write (l, 0) bs ≡ (bs ++ drop (length bs) l, length bs)
unfolding laid
fits l bs h = write-laid l bs ∙ rw (take_all (length l) bs h, min-eq_left h)

lays : (l bs : List ℕ) → laid l bs ≡ (take (length l) bs ++ drop (length bs) l, min (length bs) (length l))
unfolding laid
lays l bs = refl

-- ---- digits

worth-none : (v : ℕ) → worth_after v [] ≡ v
unfolding worth_after
worth-none v = refl

worth-more : (v b : ℕ) (bs : List ℕ) → worth_after v (b ∷ bs) ≡ worth_after (10 * v + (b - 48)) bs
unfolding worth_after
worth-more v b bs = refl

zero-digit : decimal 0 ≡ 48 ∷ []
unfolding decimal_of pick
zero-digit = refl

field-bytes : (n : ℕ) → field n ≡ 32 ∷ decimal n
unfolding field
field-bytes n = refl

pub kept : Promises
kept =
    record {
      hex_digits = λ d l. sym (digit_listed d l);
      hex_length = length-hex 8;
      hex_nth = hex-nth 8;
      decimal_bytes = decimal-digits 20;
      decimal_worth = decimal-worth 20;
      worth_none = worth-none;
      worth_more = worth-more;
      decimal_first = decimal-first 20;
      decimal_zero = zero-digit;
      field_bytes = field-bytes;
      fits = fits;
      partly = λ l bs. write-laid l bs ∙ lays l bs;
      lays = lays;
      none = λ l at. sym (nothing (l, at));
      byte = λ l at b h. sym (room l at b h);
      full = λ l at bs h. write_full bs l at h;
      parts = λ o a b. sym (write_append o a b);
      same_length = length-write;
    }
