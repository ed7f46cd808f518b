-- The table of each kind, and the values of a machine of it.
use Prim.Native.Nat.{ℕ}
use mathlib.Core.Path.{◌≡◌, refl, sym, ap, ◌∙◌}
use mathlib.Core.List.{List, [], ◌∷◌, ◌++◌, map}
use mathlib.Core.Logic.{◌≢◌}
use Rattle.words.specs.Choice.{pick}
use Rattle.words.specs.Counting.{one}
use Rattle.aic_record.specs.declared.Aic.{Aic}
use Rattle.aic_record.specs.Last.{last_source, last_level}
use Rattle.aic_sources.specs.Pending.{pending_word}
use Rattle.aic.specs.declared.Signals.{Signals as AicSignals}
use Rattle.aic.specs.Model.{outputs as aic_outputs}
use Rattle.coreinterrupt.specs.Side.{raw, status}
use Rattle.coreinterrupt.specs.declared.Core.{Core}
use Rattle.coreinterrupt.specs.declared.Signals.{Signals as CoreSignals}
use Rattle.coreinterrupt.specs.Model.{outputs as core_outputs}
use Rattle.cic_record.specs.declared.Signals.{Signals as CicSignals}
use Rattle.cic_registers.specs.Hosts.{outputs as cic_outputs}
use Rattle.cic_indexed.specs.Model.{outputs as indexed_outputs}
use Rattle.aintc_record.specs.declared.Aintc.{Aintc}
use Rattle.aintc_registers.specs.declared.model.Signals.{Signals as AintcSignals}
use Rattle.aintc_registers.specs.Model.{outputs as aintc_outputs}
use Rattle.kinds.specs.Kinds.{aic_kind, core_kind, cic_kind, aintc_kind, indexed_kind, by_kind}
use Rattle.kinds.proofs.KindLaws.{at_aic, at_core, at-cic, at_aintc, at_indexed, at_none}
use Rattle.machine.specs.declared.record.Machine.{Machine}
use Rattle.machine.specs.Machine.{of_aic, of_core, of_aintc, indexed}
use Rattle.waves.specs.Signals.{Moment, moment, Row, of_every, of_aic as aic_rows, of_core as core_rows, of_cic as cic_rows, of_aintc as aintc_rows, of_indexed as indexed_rows, own_rows, rows, values, eleven}

-- ---- tables by kind

module _ (kind : ℕ) where
  pub rows_aic : kind ≡ aic_kind → of_every ++ aic_rows ≡ rows kind
  unfolding rows own_rows
  rows_aic k = ap (λ (l : List Row). of_every ++ l) (at_aic kind _ k)

  pub rows_core : kind ≡ core_kind → of_every ++ core_rows ≡ rows kind
  unfolding rows own_rows
  rows_core k = ap (λ (l : List Row). of_every ++ l) (at_core kind _ k)

  pub rows-cic : kind ≡ cic_kind → of_every ++ cic_rows ≡ rows kind
  unfolding rows own_rows
  rows-cic k = ap (λ (l : List Row). of_every ++ l) (at-cic kind _ k)

  pub rows_aintc : kind ≡ aintc_kind → of_every ++ aintc_rows ≡ rows kind
  unfolding rows own_rows
  rows_aintc k = ap (λ (l : List Row). of_every ++ l) (at_aintc kind _ k)

  pub rows-indexed : kind ≡ indexed_kind → of_every ++ indexed_rows ≡ rows kind
  unfolding rows own_rows
  rows-indexed k = ap (λ (l : List Row). of_every ++ l) (at_indexed kind _ k)

  pub rows_none : kind ≢ aic_kind → kind ≢ core_kind → kind ≢ cic_kind → kind ≢ aintc_kind → kind ≢ indexed_kind → of_every ≡ rows kind
  unfolding rows own_rows
  rows_none a b c d e = ap (λ (l : List Row). of_every ++ l) (at_none kind _ a b c d e)

-- ---- values

-- the values that a table has at a moment
abbrev pub values_by : List Row → Moment → List ℕ
values_by rs x = map (λ (r : Row). r.value x) rs

pub values-by : (rs : List Row) (x : Moment) → rs ≡ rows x.machine.kind → values_by rs x ≡ values x
unfolding values
values-by rs x e = ap (λ (l : List Row). values_by l x) e

module _ (refusal value letter : ℕ) where
  pub aic-made : (s : Aic) (o : AicSignals) (i f k g p : ℕ) → o ≡ aic_outputs s → i ≡ one o.irq → f ≡ one o.fiq → k ≡ last_source s → g ≡ last_level s
      → p ≡ pending_word s
      → refusal ∷ value ∷ letter ∷ i ∷ f ∷ o.entries ∷ k ∷ g ∷ s.lines ∷ p ∷ s.enabled ∷ [] ≡ eleven (values (moment refusal value letter (of_aic s)))
  unfolding values rows own_rows by_kind pick
  aic-made s o i f k g p eo ei ef ek eg ep = rw (ei, ef, ek, eg, ep, eo)

  pub core-made : (s : Core) (o : CoreSignals) (i f a b c d : ℕ) → o ≡ core_outputs s → i ≡ one o.irq → f ≡ one o.fiq → a ≡ raw s.irq → b ≡ status s.irq
      → c ≡ raw s.fiq → d ≡ status s.fiq
      → refusal ∷ value ∷ letter ∷ i ∷ f ∷ a ∷ b ∷ c ∷ d ∷ 0 ∷ 0 ∷ [] ≡ eleven (values (moment refusal value letter (of_core s)))
  unfolding values rows own_rows by_kind pick
  core-made s o i f a b c d eo ei ef ea eb ec ed = rw (ei, ef, ea, eb, ec, ed, eo)

  pub aintc-made : (s : Aintc) (o : AintcSignals) (i f : ℕ) → o ≡ aintc_outputs s → i ≡ one o.irq → f ≡ one o.fiq
      → refusal ∷ value ∷ letter ∷ i ∷ f ∷ s.irq.number ∷ s.irq.priority ∷ s.fiq.number ∷ s.fiq.priority ∷ 0 ∷ 0 ∷ []
      ≡ eleven (values (moment refusal value letter (of_aintc s)))
  unfolding values rows own_rows by_kind pick
  aintc-made s o i f eo ei ef = rw (ei, ef, eo)

  module _ (m : Machine) where
    pub aic-values : m.kind ≡ aic_kind → values (moment refusal value letter (of_aic m.aic)) ≡ values (moment refusal value letter m)
    aic-values k = sym (values-by _ (moment refusal value letter (of_aic m.aic)) (rows_aic _ refl)) ∙ values-by _ (moment refusal value letter m) (rows_aic _ k)

    pub core-values : m.kind ≡ core_kind → values (moment refusal value letter (of_core m.core)) ≡ values (moment refusal value letter m)
    core-values k = sym (values-by _ (moment refusal value letter (of_core m.core)) (rows_core _ refl)) ∙ values-by _ (moment refusal value letter m) (rows_core _ k)

    pub aintc-values : m.kind ≡ aintc_kind → values (moment refusal value letter (of_aintc m.aintc)) ≡ values (moment refusal value letter m)
    aintc-values k = sym (values-by _ (moment refusal value letter (of_aintc m.aintc)) (rows_aintc _ refl)) ∙ values-by _ (moment refusal value letter m) (rows_aintc _ k)

    pub cic-values : m.kind ≡ cic_kind → (o : CicSignals) → o ≡ cic_outputs m.cic → refusal ∷ value ∷ letter ∷ o.hosts ∷ o.lowest ∷ [] ≡ values (moment refusal value letter m)
    cic-values k o e =
        ap (λ (x : CicSignals). refusal ∷ value ∷ letter ∷ x.hosts ∷ x.lowest ∷ []) e ∙ values-by _ (moment refusal value letter m) (rows-cic _ k)

    pub indexed-values : m.kind ≡ indexed_kind → (o : CicSignals) → o ≡ indexed_outputs (indexed m)
        → refusal ∷ value ∷ letter ∷ o.hosts ∷ o.lowest ∷ [] ≡ values (moment refusal value letter m)
    indexed-values k o e =
        ap (λ (x : CicSignals). refusal ∷ value ∷ letter ∷ x.hosts ∷ x.lowest ∷ []) e ∙ values-by _ (moment refusal value letter m) (rows-indexed _ k)
