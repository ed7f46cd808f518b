-- What a beginning is where its numbers are known: each way leads to one answer.
use Prim.Native.Nat.{ℕ, suc, ◌+◌, ◌-◌, ◌<◌, ◌≤◌}
use mathlib.Core.Path.{◌≡◌, sym, ap, ◌∙◌}
use mathlib.Core.Bool.{true, false}
use mathlib.Core.List.{List, [], ◌∷◌}
use native.Mathlib.Nat.{add-zero, zero-add}
use native.Mathlib.Omega.{arith}
use lib.ListN.{length}
use borrow.Author.Tests.{lt-ltb, le-ltb}
use Rattle.words.specs.Choice.{pick}
use Rattle.words.proofs.ChoiceLaws.{pick_true, pick-false}
use Rattle.steps.specs.Refusals.{carried_out, damaged, unknown, misconfigured, too_long}
use Rattle.numbers.specs.Number.{Number, Value, number_at}
use Rattle.numbers.specs.Promises.{told_at}
use Rattle.numbers.proofs.ReadLaws.{told-read, told-damaged}
use Rattle.trace.specs.Promises.{Reads}
use Rattle.kinds.specs.declared.Configuration.{Configuration}
use Rattle.kinds.specs.Kinds.{is_kind, wanted, within}
use Rattle.kinds.specs.Configuration.{no_numbers, with_number, filled}
use Rattle.kinds.specs.Promises.{Within}
use Rattle.machine.specs.RecordPromises.{start_with}
use Rattle.beginning.specs.Begin.{longest, refused_setup, accepted_setup, setup_from, setup_of, not_begun, by_setup, by_controller, begin_of}
use Rattle.beginning.specs.Asked.{Wanting}
use Rattle.beginning.proofs.BeginLaws.{setup-done, setup-damaged, setup-beyond, setup-taken}
use Rattle.beginning.proofs.BeginningLaws.{begun}

-- the first of some numbers
first : (s : List ℕ) (at v p : ℕ) (ns : List ℕ) → Reads s at (v ∷ ns) p → number_at s at ≡ Value v (told_at s at).place
first s at v p ns r = told-read s at r.0 ∙ ap (λ (x : ℕ). Value x (told_at s at).place) r.1.0

-- ---- configurations

module _ (kind : ℕ) (s : List ℕ) where
  -- numbers within their limits are taken
  reach : (ns : List ℕ) (left rest k at p : ℕ) (c : Configuration) → left ≡ length ns + rest → Reads s at ns p → Within kind k ns
      → setup_from kind left k s c at ≡ setup_from kind rest (k + length ns) s (filled c k ns) p
  unfolding filled
  reach [] left rest k at p c e r w =
      let z : left ≡ rest = omega arith in
      ap (λ (n : ℕ). setup_from kind n k s c at) z ∙ ap (λ (n : ℕ). setup_from kind rest n s c at) (sym (add-zero k)) ∙ ap (setup_from kind rest (k + 0) s c) r
  reach (v ∷ ns) left rest k at p c e r w =
      let z : k + 1 + length ns ≡ k + suc (length ns) = omega arith in
      sym (setup-taken kind left k s c at v _ (λ h. omega arith) (first s at v p ns r) w.0)
      ∙ reach ns (left - 1) rest (k + 1) (told_at s at).place p (with_number c k v) (omega arith) r.1.1 w.1
      ∙ ap (λ (n : ℕ). setup_from kind rest n s (filled (with_number c k v) (k + 1) ns) p) z

  -- the whole of it, from a place on
  module _ (ns : List ℕ) (at p : ℕ) (r : Reads s at ns p) (w : Within kind 0 ns) where
    abbrev left : ℕ
    left = wanted kind - length ns

    onward : length ns ≤ wanted kind → setup_of kind s at ≡ setup_from kind left (0 + length ns) s (filled no_numbers 0 ns) p
    unfolding setup_of
    onward l = reach ns (wanted kind) left 0 at p no_numbers (omega arith) r w

    whole_so : length ns ≡ wanted kind → setup_of kind s at ≡ accepted_setup (filled no_numbers 0 ns) p
    whole_so l = onward (omega arith) ∙ sym (setup-done kind left (0 + length ns) s (filled no_numbers 0 ns) p (omega arith))

    torn_so : length ns < wanted kind → (told_at s p).refusal ≡ damaged → setup_of kind s at ≡ refused_setup damaged p
    torn_so l d =
        onward (omega arith) ∙ sym (setup-damaged kind left (0 + length ns) s (filled no_numbers 0 ns) p damaged p (λ z. omega arith) (told-damaged s p d))

    astray_so : length ns < wanted kind → (told_at s p).refusal ≡ carried_out → within kind (length ns) (told_at s p).value ≡ false
        → setup_of kind s at ≡ refused_setup misconfigured p
    astray_so l d b =
        onward (omega arith)
        ∙ sym (setup-beyond kind left (0 + length ns) s (filled no_numbers 0 ns) p _ _ (λ z. omega arith) (told-read s p d)
        (ap (λ (j : ℕ). within kind j (told_at s p).value) (zero-add (length ns)) ∙ b))

-- ---- beginnings

module _ (s : List ℕ) where
  pub overlong_so : longest < length s → begin_of s ≡ not_begun too_long longest
  unfolding begin_of
  overlong_so l = sym (pick_true _ (lt-ltb longest (length s) l))

  short : length s ≤ longest → begin_of s ≡ by_controller s (number_at s 0)
  unfolding begin_of
  short l = sym (pick-false _ (le-ltb longest (length s) l))

  by_first : (n : Number) → length s ≤ longest → number_at s 0 ≡ n → begin_of s ≡ by_controller s n
  by_first n l e = short l ∙ ap (by_controller s) e

  pub no-kind_so : length s ≤ longest → (told_at s 0).refusal ≡ carried_out → is_kind (told_at s 0).value ≡ false → begin_of s ≡ not_begun unknown 0
  no-kind_so l d k = by_first _ l (told-read s 0 d) ∙ sym (pick-false _ k)

  module _ (kind : ℕ) (ns : List ℕ) (p : ℕ) (l : length s ≤ longest) (r : Reads s 0 (kind ∷ ns) p) (k : is_kind kind ≡ true) (w : Within kind 0 ns) where
    to_setup : begin_of s ≡ by_setup kind (setup_of kind s (told_at s 0).place)
    to_setup = by_first _ l (first s 0 kind p ns r) ∙ sym (pick_true _ k)

    pub configured_so : length ns ≡ wanted kind → begin_of s ≡ begun (start_with kind ns) p
    unfolding by_setup pick
    configured_so n = to_setup ∙ ap (by_setup kind) (whole_so kind s ns (told_at s 0).place p r.1.1 w n)

    damaged_number_so : length ns < wanted kind → (told_at s p).refusal ≡ damaged → begin_of s ≡ not_begun damaged p
    unfolding by_setup pick
    damaged_number_so n d = to_setup ∙ ap (by_setup kind) (torn_so kind s ns (told_at s 0).place p r.1.1 w n d)

    pub beyond_so : length ns < wanted kind → (told_at s p).refusal ≡ carried_out → within kind (length ns) (told_at s p).value ≡ false
        → begin_of s ≡ not_begun misconfigured p
    unfolding by_setup pick
    beyond_so n d b = to_setup ∙ ap (by_setup kind) (astray_so kind s ns (told_at s 0).place p r.1.1 w n d b)

  pub damaged_so : (ns : List ℕ) (p : ℕ) → length s ≤ longest → Reads s 0 ns p → Wanting ns → (told_at s p).refusal ≡ damaged → begin_of s ≡ not_begun damaged p
  damaged_so [] p l r w d =
      by_first _ l (told-damaged s 0 (ap (λ (k : ℕ). (told_at s k).refusal) r ∙ d)) ∙ ap (not_begun damaged) r
  damaged_so (kind ∷ ns) p l r w d = damaged_number_so kind ns p l r w.0 w.1.0 w.1.1 d
