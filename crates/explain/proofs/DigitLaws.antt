-- Numbers that are printed are read as they are.
use Prim.Native.Nat.{ℕ, zero, suc, ◌+◌, ◌-◌, ◌*◌, ◌/◌, ◌%◌, ◌^◌, ◌≤◌, ◌<◌}
use mathlib.Core.Path.{◌≡◌, refl, sym, ap, ◌∙◌}
use mathlib.Core.Bool.{true, false}
use mathlib.Core.List.{List, [], ◌∷◌, ◌++◌}
use native.Mathlib.Decide.{dec_lt, ℕ_discrete}
use native.Mathlib.Omega.{arith}
use lib.Dec.{eqb, leb}
use lib.ListN.{length, get_or, get_or-eq_default}
use borrow.Author.Tests.{eqb-true, le-leb, leb-true}
use Rattle.words.specs.Choice.{pick}
use Rattle.words.specs.Counting.{all_below}
use Rattle.words.proofs.CountingLaws.{all_at}
use Rattle.words.proofs.TruthLaws.{not-holds}
use Rattle.text.specs.Text.{hex_digit, hex_of, decimal}
use Rattle.text.specs.Promises.{worth_after}
use Rattle.text.proofs.DigitLaws.{hex-nth, length-hex}
use Rattle.text.proofs.Promises as Text
use Rattle.tables.specs.Number.{digit, worth_from, is_hex, is_number, worth}
use Rattle.tables.proofs.NumberLaws.{are-digits, number-plain, number-hex, hex-first, number-high}

-- ---- hexadecimal

rule : all_below 16 (λ (d : ℕ). eqb (digit (hex_digit d)) d) ≡ true
unfolding all_below hex_digit digit pick
rule = refl

digit-hex : (d : ℕ) → d < 16 → digit (hex_digit d) ≡ d
digit-hex d l = eqb-true (digit (hex_digit d)) d (all_at 16 (λ (d : ℕ). eqb (digit (hex_digit d)) d) rule d l)

worth_snoc : (b v : ℕ) (ds : List ℕ) (d : ℕ) → worth_from b v (ds ++ (d ∷ [])) ≡ b * worth_from b v ds + digit d
unfolding worth_from
worth_snoc b v [] d = refl
worth_snoc b v (x ∷ ds) d = worth_snoc b (b * v + digit x) ds d

hex-worth : (k v : ℕ) → v < 16 ^ k → worth_from 16 0 (hex_of k v) ≡ v
unfolding hex_of worth_from
hex-worth zero v h = omega arith
hex-worth (suc k) v h =
    worth_snoc 16 0 (hex_of k (v / 16)) (hex_digit (v % 16)) ∙ omega (arith, hex-worth k (v / 16) (omega arith), digit-hex (v % 16) (omega arith))

abbrev pub hex_word : ℕ → ℕ → List ℕ
hex_word k v = 48 ∷ 120 ∷ hex_of k v

is-hex : (k v : ℕ) → is_hex (hex_word k v) ≡ true
unfolding is_hex
is-hex k v = refl

pub hex-read : (k v : ℕ) → 1 ≤ k → v < 16 ^ k → (is_number (hex_word k v) ≡ true) × (worth (hex_word k v) ≡ v)
hex-read k v p h = (
  (number-hex (hex_word k v) (is-hex k v)).0
      ∙ are-digits 16 (hex_of k v) (record {
        some = omega (arith, length-hex k v);
        each = λ j l.
            let i : j < k = omega (arith, length-hex k v) in
            omega (arith, ap digit (hex-nth k v j i), digit-hex (v / 16 ^ (k - 1 - j) % 16) (omega arith));
      }),
  (number-hex (hex_word k v) (is-hex k v)).1 ∙ hex-worth k v h,
)

-- ---- decimal

abbrev Tens : List ℕ → Type 0
Tens ds = (k : ℕ) → k < length ds → (48 ≤ get_or ds k 0) × (get_or ds k 0 ≤ 57)

digit-plain : (b : ℕ) → 48 ≤ b → b ≤ 57 → digit b ≡ b - 48
unfolding digit pick
digit-plain b l m = rw (le-leb 48 b l, le-leb b 57 m)

worth_tens : (v : ℕ) (ds : List ℕ) → Tens ds → worth_from 10 v ds ≡ worth_after v ds
unfolding worth_from worth_after
worth_tens v [] h = refl
worth_tens v (b ∷ ds) h =
    rw (digit-plain b (h 0 (omega arith)).0 (h 0 (omega arith)).1) (worth_tens (10 * v + (b - 48)) ds (λ k l. h (suc k) (omega arith)))

module _ (v : ℕ) (l : v < 2 ^ 32) where
  tens : Tens (decimal v)
  tens = (Text.kept).decimal_bytes v

  worth-is : worth_from 10 0 (decimal v) ≡ v
  worth-is = worth_tens 0 (decimal v) tens ∙ (Text.kept).decimal_worth v (omega arith)

  some-digit : 0 < length (decimal v)
  some-digit = go (ℕ_discrete v 0) (dec_lt 0 (length (decimal v)))
    where
      none : (ds : List ℕ) → (0 < length ds → ⊥) → ds ≡ []
      none [] n = refl
      none (b ∷ ds) n = absurd (n (omega arith))

      go : Dec (v ≡ 0) → Dec (0 < length (decimal v)) → 0 < length (decimal v)
      go d (yes m) = m
      go (yes e) (no n) = rw (e, (Text.kept).decimal_zero) (omega arith)
      go (no d) (no n) = absurd (d (sym worth-is ∙ ap (worth_from 10 0) (none (decimal v) n) ∙ unfold worth_from in refl))

  not-hex : is_hex (decimal v) ≡ false
  not-hex = not-holds (is_hex (decimal v)) (λ h. go (dec_lt 1 (length (decimal v))) (hex-first (decimal v) h).1)
    where
      go : Dec (1 < length (decimal v)) → get_or (decimal v) 1 0 ≡ 120 → ⊥
      go (yes m) e = omega (arith, (tens 1 m).1)
      go (no m) e = omega (arith, get_or-eq_default (decimal v) 0 {n = 1} (omega arith))

  pub decimal-read : (is_number (decimal v) ≡ true) × (worth (decimal v) ≡ v)
  decimal-read = (
    (number-plain (decimal v) not-hex).0
        ∙ are-digits 10 (decimal v) (record {
          some = some-digit;
          each = λ k m. omega (arith, (tens k m).0, (tens k m).1, digit-plain (get_or (decimal v) k 0) (tens k m).0 (tens k m).1);
        }),
    (number-plain (decimal v) not-hex).1 ∙ worth-is,
  )

-- ---- words of letters and digits

-- every byte is 48, which is 0, or more: no white space, no #
abbrev pub High : List ℕ → Type 0
High w = (k : ℕ) → k < length w → 48 ≤ get_or w k 0

-- a word that is written out, byte by byte
pub high-by : (w : List ℕ) → all_below (length w) (λ k. leb 48 (get_or w k 0)) ≡ true → High w
high-by w e k l = leb-true 48 (get_or w k 0) (all_at (length w) (λ k. leb 48 (get_or w k 0)) e k l)

pub number-is-high : (w : List ℕ) → is_number w ≡ true → High w
number-is-high w e = number-high w e
