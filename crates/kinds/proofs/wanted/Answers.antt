-- That `wanted` of src/lib.rt keeps its contract.
use mathlib.Core.Path.{refl}
use Rattle.kinds.specs.Kinds.{wanted}
use Rattle.kinds.proofs.KindLaws.{at_aic, at_core, at-cic, at_indexed, at_rest}
use Rattle.kinds.proofs.wanted.Goals as goal

pub returns-then-kind-eq-AIC : goal.returns-then-kind-eq-AIC
unfolding wanted
returns-then-kind-eq-AIC c = at_aic _ _ c.if-kind-eq-AIC.true

pub returns-then-kind-eq-CORE : goal.returns-then-kind-eq-CORE
unfolding wanted
returns-then-kind-eq-CORE c = at_core _ _ c.if-kind-eq-CORE.true

pub returns-then-kind-eq-CIC : goal.returns-then-kind-eq-CIC
unfolding wanted
returns-then-kind-eq-CIC c = at-cic _ _ c.if-kind-eq-CIC.true

pub returns-then-kind-eq-INDEXED : goal.returns-then-kind-eq-INDEXED
unfolding wanted
returns-then-kind-eq-INDEXED c = at_indexed _ _ c.if-kind-eq-INDEXED.true

pub returns : goal.returns
unfolding wanted
returns c = at_rest _ _ 0 refl refl c.if-kind-eq-AIC.false c.if-kind-eq-CORE.false c.if-kind-eq-CIC.false c.if-kind-eq-INDEXED.false
