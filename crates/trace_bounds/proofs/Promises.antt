-- The promises of the waits of a source over a trace, kept.
use Prim.Native.Nat.{ℕ, ◌≤◌}
use mathlib.Core.Path.{◌≡◌, refl, sym, ◌∙◌}
use mathlib.Core.Bool.{Bool, true, false}
use mathlib.Core.List.{List, ◌++◌}
use mathlib.Core.Logic.{◌≢◌}
use native.Mathlib.Omega.{arith}
use lib.Dec.{eqb, leb}
use lib.ListN.{length, length-append, drop}
use borrow.Author.Tests.{eq-eqb, ne_eqb, leb-true, le-leb}
use Rattle.words.specs.Choice.{pick}
use Rattle.words.proofs.ChoiceLaws.{pick-false, pick_cases}
use Rattle.words.proofs.TruthLaws.{and_left, and_right, and_both}
use Rattle.steps.specs.Refusals.{carried_out}
use Rattle.text.specs.Text.{field, laid}
use Rattle.text.proofs.WriteLaws.{write-laid}
use Rattle.text.proofs.Promises as Text
use Rattle.text.specs.Phrases.{bytes}
use Rattle.kinds.specs.Kinds.{aic_kind}
use Rattle.aic_bounds.specs.Over.{bounded_of, waits_begun, waits_unended, waits_unbounded}
use Rattle.aic_bounds.specs.FiguresPromises.{Tells}
use Rattle.aic_bounds.proofs.FiguresPromises as Figures
use Rattle.beginning.specs.Begin.{begin_of}
use Rattle.beginning.specs.Play.{records_of}
use Rattle.beginning.proofs.PlayLaws.{records_limited}
use Rattle.tally.specs.Promises.{aic_of, played_of}
use Rattle.tally.proofs.TallyLaws.{as_many}
use Rattle.tally.proofs.LengthLaws.{records-short}
use Rattle.trace_bounds.specs.Lines.{no_beginning, no_waits, no_source}
use Rattle.trace_bounds.specs.Listing.{is_source, lines_over, lines_of, is_listed, bound_text}
use Rattle.trace_bounds.specs.Figures.{figures_in}
use Rattle.trace_bounds.specs.Promises.{Asked, Promises}
use Rattle.trace_bounds.proofs.ListLaws.{no_figures_lem, listed-parts}
use Rattle.trace_bounds.proofs.SizeLaws.{lines-most, last-most, end-line-most, beginning-most, waits-most, source-most}
use Rattle.trace_bounds.proofs.EachLaws.{each-is, many_are}

source_is : (k : ℕ) → is_source k ≡ true → (1 ≤ k) × (k ≤ 31)
unfolding is_source
source_is k h = (leb-true 1 k (and_left (leb 1 k) _ h), leb-true k 31 (and_right (leb 1 k) _ h))

is_source_lem : (k : ℕ) → (1 ≤ k) × (k ≤ 31) → is_source k ≡ true
unfolding is_source
is_source_lem k h = and_both (le-leb 1 k h.0) (le-leb k 31 h.1)

asked : (s : List ℕ) (k : ℕ) → is_listed s k ≡ true → Asked s k
unfolding is_listed
asked s k h = let p = listed-parts (begin_of s).refusal (begin_of s).machine.kind (is_source k) h in (p.0, p.1, source_is k p.2)

listed : (s : List ℕ) (k : ℕ) → Asked s k → is_listed s k ≡ true
unfolding is_listed
listed s k (r, z, l) = rw (eq-eqb (begin_of s).refusal carried_out r, eq-eqb (begin_of s).machine.kind aic_kind z) (is_source_lem k l)

the_text : (s : List ℕ) (k : ℕ) → is_listed s k ≡ true → bound_text s k ≡ lines_of k (aic_of s) (records_of s 20000)
unfolding bound_text
the_text s k h =
    let (r, z, l) = asked s k h in
    rw (eq-eqb (begin_of s).refusal carried_out r, eq-eqb (begin_of s).machine.kind aic_kind z, is_source_lem k l) (unfold pick in refl)

not-begun : (s : List ℕ) (k : ℕ) → (begin_of s).refusal ≢ 0
    → bound_text s k ≡ bytes "no bound: the trace has no beginning, E" ++ field (begin_of s).refusal ++ field (begin_of s).place ++ bytes "\n"
unfolding bound_text no_beginning bytes
not-begun s k n = sym (pick-false _ (ne_eqb (begin_of s).refusal carried_out n))

not_aic : (s : List ℕ) (k : ℕ) → (begin_of s).refusal ≡ 0 → (begin_of s).machine.kind ≢ 0
    → bound_text s k ≡ bytes "no bound: the trace is not of an AIC, and no source of another controller waits\n"
unfolding bound_text no_waits
not_aic s k e n = rw (eq-eqb (begin_of s).refusal carried_out e, ne_eqb (begin_of s).machine.kind aic_kind n) (unfold pick in refl)

not_source : (s : List ℕ) (k : ℕ) → (begin_of s).refusal ≡ 0 → (begin_of s).machine.kind ≡ 0 → ((1 ≤ k) × (k ≤ 31) → ⊥)
    → bound_text s k ≡ bytes "no bound: a source that waits is a number from 1 to 31\n"
unfolding bound_text no_source
not_source s k e z n =
    rw (eq-eqb (begin_of s).refusal carried_out e, eq-eqb (begin_of s).machine.kind aic_kind z, none (is_source k) refl) (unfold pick in refl)
  where
    none : (t : Bool) → is_source k ≡ t → is_source k ≡ false
    none true h = absurd (n (source_is k h))
    none false h = h

lines_fit : (s : List ℕ) (k : ℕ) → length (lines_of k (aic_of s) (records_of s 20000)) ≤ 1940334
unfolding lines_of lines_over
lines_fit s k =
    simp length-append
    (omega (
      arith,
      lines-most k (aic_of s) (played_of s 20000) (omega (arith, as_many (records_of s 20000).steps, records_limited 20000 s (begin_of s))),
      last-most k (waits_begun k (aic_of s) (played_of s 20000)) (waits_unended k (aic_of s) (played_of s 20000)) (waits_unbounded k (aic_of s) (played_of s 20000))
          (bounded_of k (aic_of s) (played_of s 20000)),
      end-line-most (records_of s 20000).refusal (records_of s 20000).offset,
    ))

most : (s : List ℕ) (k : ℕ) → length (bound_text s k) ≤ 1940334
unfolding bound_text
most s k =
    pick_cases (λ (l : List ℕ). length l ≤ 1940334) (eqb (begin_of s).refusal carried_out)
    (λ _. pick_cases (λ (l : List ℕ). length l ≤ 1940334) (eqb (begin_of s).machine.kind aic_kind)
    (λ _. pick_cases (λ (l : List ℕ). length l ≤ 1940334) (is_source k) (λ _. lines_fit s k) (λ _. source-most))
    (λ _. waits-most))
    (λ _. beginning-most (begin_of s).refusal (begin_of s).place)

takes : (l s : List ℕ) (k : ℕ) → 1940334 ≤ length l → laid l (bound_text s k) ≡ (bound_text s k ++ drop (length (bound_text s k)) l, length (bound_text s k))
takes l s k h = sym (write-laid l (bound_text s k)) ∙ (Text.kept).fits l (bound_text s k) (omega (arith, h, most s k))

figures : (s : List ℕ) (limit k : ℕ) → is_listed s k ≡ true → Tells k (aic_of s) (played_of s limit) (figures_in s limit k)
unfolding figures_in
figures s limit k h =
    rw h (unfold pick in ((Figures.kept).figures_tell (aic_of s) k (played_of s limit) (omega (arith, as_many (records_of s limit).steps, records-short s limit))))

pub kept : Promises
unfolding lines_of lines_over
kept =
    record {
      each = each-is;
      many = many_are;
      listed_if = λ s k. (asked s k, listed s k);
      lines = the_text;
      not_begun = not-begun;
      not_aic = not_aic;
      not_source = not_source;
      most = most;
      takes = takes;
      figures = figures;
      none_else = λ s limit k h. sym (no_figures_lem s limit k h);
    }
