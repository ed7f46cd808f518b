-- That `within` of src/lib.rt keeps its contract.
use mathlib.Core.Path.{refl, ◌∙◌}
use mathlib.Core.Bool.{false}
use Rattle.kinds.specs.Kinds.{within}
use Rattle.kinds.proofs.KindLaws.{at_aic, at_core, at-cic, at_indexed, at_rest}
use Rattle.kinds.proofs.within.Goals as goal

pub returns-then-kind-eq-AIC : goal.returns-then-kind-eq-AIC
unfolding within
returns-then-kind-eq-AIC c = c.within.ensures ∙ at_aic _ _ c.if-kind-eq-AIC.true

pub returns-then-kind-eq-CORE : goal.returns-then-kind-eq-CORE
unfolding within
returns-then-kind-eq-CORE c = c.within-then-kind-eq-CORE.ensures ∙ at_core _ _ c.if-kind-eq-CORE.true

pub returns-then-kind-eq-CIC : goal.returns-then-kind-eq-CIC
unfolding within
returns-then-kind-eq-CIC c = c.within-then-kind-eq-CIC.ensures ∙ at-cic _ _ c.if-kind-eq-CIC.true

pub returns-then-kind-eq-INDEXED : goal.returns-then-kind-eq-INDEXED
unfolding within
returns-then-kind-eq-INDEXED c = c.within-then-kind-eq-INDEXED.ensures ∙ at_indexed _ _ c.if-kind-eq-INDEXED.true

pub returns : goal.returns
unfolding within
returns c = at_rest _ _ false refl refl c.if-kind-eq-AIC.false c.if-kind-eq-CORE.false c.if-kind-eq-CIC.false c.if-kind-eq-INDEXED.false
