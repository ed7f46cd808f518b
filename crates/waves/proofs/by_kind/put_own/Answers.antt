-- That `put_own` of src/by_kind.rt keeps its contract.
use mathlib.Core.List.{[]}
use Rattle.text.proofs.WriteLaws.{nothing}
use Rattle.vcd.specs.Dump.{declarations}
use Rattle.kinds.proofs.KindLaws.{at_aic, at_core, at-cic, at_aintc, at_indexed, at_none}
use Rattle.waves.specs.Signals.{of_aic as aic_rows, of_core as core_rows, of_cic as cic_rows, of_aintc as aintc_rows, of_indexed as indexed_rows, own_rows}
use Rattle.waves.proofs.HeadingLaws.{declared_as}
use Rattle.waves.proofs.by_kind.put_own.Goals as goal

pub returns-then-kind-eq-AIC : goal.returns-then-kind-eq-AIC
unfolding own_rows
returns-then-kind-eq-AIC c = declared_as _ _ aic_rows _ (at_aic _ _ c.if-kind-eq-AIC.true) c.put_aic.ensures

pub returns-then-kind-eq-CORE : goal.returns-then-kind-eq-CORE
unfolding own_rows
returns-then-kind-eq-CORE c = declared_as _ _ core_rows _ (at_core _ _ c.if-kind-eq-CORE.true) c.put_core.ensures

pub returns-then-kind-eq-CIC : goal.returns-then-kind-eq-CIC
unfolding own_rows
returns-then-kind-eq-CIC c = declared_as _ _ cic_rows _ (at-cic _ _ c.if-kind-eq-CIC.true) c.put_cic.ensures

pub returns-then-kind-eq-AINTC : goal.returns-then-kind-eq-AINTC
unfolding own_rows
returns-then-kind-eq-AINTC c = declared_as _ _ aintc_rows _ (at_aintc _ _ c.if-kind-eq-AINTC.true) c.put_aintc.ensures

pub returns-then-kind-eq-INDEXED : goal.returns-then-kind-eq-INDEXED
unfolding own_rows
returns-then-kind-eq-INDEXED c = declared_as _ _ indexed_rows _ (at_indexed _ _ c.if-kind-eq-INDEXED.true) c.put_cic-then-kind-eq-INDEXED.ensures

pub returns : goal.returns
unfolding own_rows declarations
returns c =
    declared_as _ _ [] _
    (at_none _ _ c.if-kind-eq-AIC.false c.if-kind-eq-CORE.false c.if-kind-eq-CIC.false c.if-kind-eq-AINTC.false c.if-kind-eq-INDEXED.false)
    (nothing _)
