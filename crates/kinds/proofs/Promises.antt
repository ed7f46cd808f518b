-- The promises of the kinds, kept.
use Prim.Native.Nat.{ℕ, ◌≤◌}
use mathlib.Core.Path.{◌≡◌, refl, sym, ap, ◌∙◌}
use mathlib.Core.Bool.{true, false, ◌&&◌}
use mathlib.Core.Logic.{◌↔◌, ⊎_elim}
use native.Mathlib.Omega.{arith}
use lib.Dec.{ltb, leb}
use lib.ListN.{length}
use borrow.Author.Tests.{eq-eqb, ne_eqb, eqb-true, le-ltb, le-leb, leb-true}
use Rattle.words.specs.Choice.{pick}
use Rattle.words.proofs.ChoiceLaws.{pick-false}
use Rattle.words.proofs.TruthLaws.{and_left, and_right, and_both}
use Rattle.aic.specs.Model.{within as aic_within}
use Rattle.coreinterrupt.specs.Model.{within as core_within}
use Rattle.coreinterrupt.proofs.StartLaws.{four_numbers}
use Rattle.cic_record.specs.Sound.{within as cic_within}
use Rattle.cic_held.specs.Held.{within as indexed_within}
use Rattle.kinds.specs.Kinds.{aintc_kind, Each, by_kind, is_kind, wanted, within, name}
use Rattle.kinds.specs.Configuration.{with_number, filled}
use Rattle.kinds.specs.Promises.{endings, Promises}
use Rattle.kinds.proofs.KindLaws.{KindOf, is_aic, is_core, is_cic, is_aintc, is_indexed, is_none, kind_of, at_aic, at_core, at-cic, at_aintc, at_indexed, at_none, at-unknown, known}

-- ---- limits

at_most : (v n : ℕ) → (leb v n ≡ true) ↔ (v ≤ n)
at_most v n = (leb-true v n, le-leb v n)

between : (v n : ℕ) → ((leb 1 v && leb v n) ≡ true) ↔ ((1 ≤ v) × (v ≤ n))
between v n = (
  λ e. (leb-true 1 v (and_left (leb 1 v) (leb v n) e), leb-true v n (and_right (leb 1 v) (leb v n) e)),
  λ h. and_both (le-leb 1 v h.0) (le-leb v n h.1),
)

-- ---- no number past the last

cic_four : (nth v : ℕ) → 4 ≤ nth → cic_within nth v ≡ false
unfolding cic_within
cic_four nth v l =
    sym (pick-false _ (ne_eqb nth 0 (λ z. omega arith))) ∙ sym (pick-false _ (ne_eqb nth 1 (λ z. omega arith)))
    ∙ sym (pick-false _ (ne_eqb nth 2 (λ z. omega arith))) ∙ ne_eqb nth 3 (λ z. omega arith)

indexed_five : (nth v : ℕ) → 5 ≤ nth → indexed_within nth v ≡ false
unfolding indexed_within
indexed_five nth v l = sym (pick-false _ (ne_eqb nth 4 (λ z. omega arith))) ∙ cic_four nth v (omega arith)

abbrev counts : Each ℕ
counts = record { aic = 2; core = 4; cic = 4; aintc = 0; indexed = 5; none = 0 }

no_number : (kind nth value : ℕ) → wanted kind ≤ nth → within kind nth value ≡ false
unfolding wanted within aic_within
no_number kind nth value l = go (kind_of kind)
  where
    go : KindOf kind → by_kind kind (record { aic = ltb nth 2; core = core_within nth value; cic = cic_within nth value; aintc = false; indexed = indexed_within nth value; none = false }) ≡ false
    go (is_aic k) = sym (at_aic kind _ k) ∙ le-ltb nth 2 (omega (arith, at_aic kind counts k))
    go (is_core k) = sym (at_core kind _ k) ∙ four_numbers nth value (omega (arith, at_core kind counts k))
    go (is_cic k) = sym (at-cic kind _ k) ∙ cic_four nth value (omega (arith, at-cic kind counts k))
    go (is_aintc k) = sym (at_aintc kind _ k)
    go (is_indexed k) = sym (at_indexed kind _ k) ∙ indexed_five nth value (omega (arith, at_indexed kind counts k))
    go (is_none a b c d e) = sym (at_none kind _ a b c d e)

-- ---- names

name-line : (kind : ℕ) → is_kind kind ≡ true → endings (name kind) ≡ 1
unfolding name endings
name-line kind h = go (kind_of kind)
  where
    go : KindOf kind → endings (name kind) ≡ 1
    go (is_aic k) = sym (ap endings (at_aic kind _ k))
    go (is_core k) = sym (ap endings (at_core kind _ k))
    go (is_cic k) = sym (ap endings (at-cic kind _ k))
    go (is_aintc k) = sym (ap endings (at_aintc kind _ k))
    go (is_indexed k) = sym (ap endings (at_indexed kind _ k))
    go (is_none a b c d e) = absurd (⊎_elim a (⊎_elim b (⊎_elim c (⊎_elim d e))) ((known kind).0 h))

name-length : (kind : ℕ) → length (name kind) ≤ 14
unfolding name
name-length kind = go (kind_of kind)
  where
    go : KindOf kind → length (name kind) ≤ 14
    go (is_aic k) = let e : length (name kind) ≡ 4 = sym (ap length (at_aic kind _ k)) in omega arith
    go (is_core k) = let e : length (name kind) ≡ 14 = sym (ap length (at_core kind _ k)) in omega arith
    go (is_cic k) = let e : length (name kind) ≡ 4 = sym (ap length (at-cic kind _ k)) in omega arith
    go (is_aintc k) = let e : length (name kind) ≡ 6 = sym (ap length (at_aintc kind _ k)) in omega arith
    go (is_indexed k) = let e : length (name kind) ≡ 4 = sym (ap length (at_indexed kind _ k)) in omega arith
    go (is_none a b c d f) = let e : length (name kind) ≡ 0 = sym (ap length (at_none kind _ a b c d f)) in omega arith

pub kept : Promises
unfolding wanted within name with_number filled by_kind pick aic_within core_within cic_within indexed_within
kept =
    record {
      kinds = known;
      tells = λ kind. (eqb-true kind aintc_kind, eq-eqb kind aintc_kind);
      aic_numbers = refl;
      aic_limits = λ v. (refl, refl);
      core_numbers = refl;
      core_limits = λ v. (at_most v 8, at_most v 32, at_most v 1, at_most v 1);
      cic_numbers = refl;
      cic_limits = λ v. (between v 1024, between v 256, between v 256, refl);
      aintc_numbers = refl;
      aintc_limits = λ nth v. refl;
      indexed_numbers = refl;
      indexed_limits = λ v. (between v 1024, between v 256, between v 256, refl, at_most v 1);
      none_wanted = λ kind h. sym (at-unknown kind _ h);
      no_number = no_number;
      aic_name = refl;
      core_name = refl;
      cic_name = refl;
      aintc_name = refl;
      indexed_name = refl;
      no_name = λ kind h. sym (at-unknown kind _ h);
      name_line = name-line;
      name_length = name-length;
      blank_numbers = refl;
      number_put = λ c nth v. refl;
      two_put = λ a b. refl;
      four_put = λ a b c d. refl;
      five_put = λ a b c d e. refl;
    }
