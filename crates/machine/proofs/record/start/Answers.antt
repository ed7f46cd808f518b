-- That `start` of src/record.rt keeps its contract.
use mathlib.Core.Path.{ap, ◌∙◌}
use borrow.Author.Rules.{rules}
use Rattle.aic.specs.declared.Begun.{Begun}
use Rattle.coreinterrupt.specs.declared.Begun.{Begun as CoreBegun}
use Rattle.cic_held.specs.declared.Begun.{Begun as IndexedBegun}
use Rattle.cic_record.specs.declared.Begun.{Begun as CicBegun}
use Rattle.aintc_registers.specs.declared.model.Begun.{Begun as AintcBegun}
use Rattle.kinds.proofs.KindLaws.{at_aic, at_core, at-cic, at_aintc, at_indexed, at_none}
use Rattle.machine.specs.Machine.{start, of_aic, of_core, of_cic, of_aintc, of_indexed}
use Rattle.machine.proofs.record.start.Goals as goal

pub returns-in-0 : goal.returns-in-0
unfolding start
returns-in-0 c = c.of_aic.ensures ∙ ap (λ (b : Begun). of_aic b.aic) c.start.ensures ∙ at_aic _ _ c.in-0.is

pub returns-in-1 : goal.returns-in-1
unfolding start
returns-in-1 c = c.of_core.ensures ∙ ap (λ (b : CoreBegun). of_core b.core) c.start-in-1.ensures ∙ at_core _ _ c.in-1.is

pub returns-in-2 : goal.returns-in-2
unfolding start
returns-in-2 c = c.of_cic.ensures ∙ ap (λ (b : CicBegun). of_cic b.cic) c.start-in-2.ensures ∙ at-cic _ _ c.in-2.is

pub returns-in-3 : goal.returns-in-3
unfolding start
returns-in-3 c = c.of_aintc.ensures ∙ ap (λ (b : AintcBegun). of_aintc b.aintc) c.start-in-3.ensures ∙ at_aintc _ _ c.in-3.is

pub returns-in-4 : goal.returns-in-4
unfolding start
returns-in-4 c = c.of_indexed.ensures ∙ ap (λ (b : IndexedBegun). of_indexed b.prioritised) c.start-in-4.ensures ∙ at_indexed _ _ c.in-4.is

pub returns-in_default : goal.returns-in_default
unfolding start
returns-in_default c = c.empty.ensures ∙ at_none _ _ (search rules) (search rules) (search rules) (search rules) (search rules)
