-- The lines of the sources one by one, and the text of a trace in each of its ways.
use Prim.Native.Nat.{ℕ, suc, ◌+◌, ◌-◌, ◌≤◌, ◌<◌}
use mathlib.Core.Path.{◌≡◌, refl, sym, ap, ◌∙◌}
use mathlib.Core.Bool.{true, false}
use mathlib.Core.List.{List, ◌++◌}
use native.Mathlib.Omega.{arith}
use lib.Dec.{eqb}
use lib.ListN.{get_or}
use borrow.Author.Tests.{eq-eqb, ne_eqb, eqb-true}
use Rattle.words.proofs.ChoiceLaws.{pick_true, pick-false}
use Rattle.words.proofs.TruthLaws.{and_left, and_right}
use Rattle.steps.specs.Refusals.{carried_out}
use Rattle.text.specs.Text.{write}
use Rattle.text.proofs.WriteLaws.{rest_of, nothing}
use Rattle.kinds.specs.Kinds.{aic_kind}
use Rattle.beginning.specs.declared.Begun.{Begun}
use Rattle.beginning.specs.Begin.{begin_of}
use Rattle.beginning.specs.Play.{play_of}
use Rattle.table_text.specs.Text.{source_line, source_lines, table_text, is_tabled, no_beginning, no_table, text_of}

-- ---- the lines of the sources: those from here on give the whole

lines_next : (modes : List ℕ) (i : ℕ) → i < 32 → source_line (get_or modes i 0) i ++ source_lines modes (32 - (i + 1)) (i + 1) ≡ source_lines modes (32 - i) i
lines_next modes i l =
    let z : 32 - i ≡ suc (32 - (i + 1)) = omega (arith, l) in
    rw z (unfold source_lines in refl)

pub sources-turn : (modes : List ℕ) (i : ℕ) (o p q : List ℕ × ℕ) → i < 32 → q ≡ write p (source_line (get_or modes i 0) i)
    → write p (source_lines modes (32 - i) i) ≡ o → write q (source_lines modes (32 - (i + 1)) (i + 1)) ≡ o
sources-turn modes i o p q l e h =
    rest_of p q (source_line (get_or modes i 0) i) (source_lines modes (32 - (i + 1)) (i + 1)) e ∙ ap (write p) (lines_next modes i l) ∙ h

pub sources-done : (modes : List ℕ) (i : ℕ) (o p : List ℕ × ℕ) → 32 ≤ i → write p (source_lines modes (32 - i) i) ≡ o → p ≡ o
sources-done modes i o p l h =
    let z : 32 - i ≡ 0 = omega (arith, l) in
    nothing p ∙ ap (write p) (rw z (unfold source_lines in refl)) ∙ h

-- ---- a trace

module _ (s : List ℕ) (b : Begun) (e : b ≡ begin_of s) where
  refusal_is : b.refusal ≡ (begin_of s).refusal
  refusal_is = ap (λ (d : Begun). d.refusal) e

  kind-is : b.machine.kind ≡ (begin_of s).machine.kind
  kind-is = ap (λ (d : Begun). d.machine.kind) e

  -- without a beginning
  pub no_beginning_lem : (b.refusal ≡ carried_out → ⊥) → no_beginning b.refusal b.place ≡ text_of s
  unfolding text_of
  no_beginning_lem n =
      ap (λ (d : Begun). no_beginning d.refusal d.place) e ∙ pick-false _ (ne_eqb (begin_of s).refusal carried_out (λ z. n (refusal_is ∙ z)))

  pub not-begun : (b.refusal ≡ carried_out → ⊥) → false ≡ is_tabled s
  unfolding is_tabled
  not-begun n = rw (ne_eqb (begin_of s).refusal carried_out (λ z. n (refusal_is ∙ z)))

  module _ (r : b.refusal ≡ carried_out) where
    begun : eqb (begin_of s).refusal carried_out ≡ true
    begun = eq-eqb (begin_of s).refusal carried_out (sym refusal_is ∙ r)

    -- of another controller
    pub no_table_lem : (b.machine.kind ≡ aic_kind → ⊥) → no_table ≡ text_of s
    unfolding text_of
    no_table_lem n = pick-false _ (ne_eqb (begin_of s).machine.kind aic_kind (λ z. n (kind-is ∙ z))) ∙ pick_true _ begun

    pub not_aic : (b.machine.kind ≡ aic_kind → ⊥) → false ≡ is_tabled s
    unfolding is_tabled
    not_aic n = rw (begun, ne_eqb (begin_of s).machine.kind aic_kind (λ z. n (kind-is ∙ z)))

    -- of an AIC
    pub the-table : b.machine.kind ≡ aic_kind → table_text (play_of s 20000).machine.aic ≡ text_of s
    unfolding text_of
    the-table z = pick_true _ (eq-eqb (begin_of s).machine.kind aic_kind (sym kind-is ∙ z)) ∙ pick_true _ begun

    pub is-tabled : b.machine.kind ≡ aic_kind → true ≡ is_tabled s
    unfolding is_tabled
    is-tabled z = rw (begun, eq-eqb (begin_of s).machine.kind aic_kind (sym kind-is ∙ z))

pub tabled-parts : (s : List ℕ) → is_tabled s ≡ true → ((begin_of s).refusal ≡ carried_out) × ((begin_of s).machine.kind ≡ aic_kind)
unfolding is_tabled
tabled-parts s h = (
  eqb-true (begin_of s).refusal carried_out (and_left (eqb (begin_of s).refusal carried_out) (eqb (begin_of s).machine.kind aic_kind) h),
  eqb-true (begin_of s).machine.kind aic_kind (and_right (eqb (begin_of s).refusal carried_out) (eqb (begin_of s).machine.kind aic_kind) h),
)
