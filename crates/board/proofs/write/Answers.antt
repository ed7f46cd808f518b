-- That `write` of src/lib.rt keeps its contract.
use mathlib.Core.Path.{sym, ap, ap₂, ◌∙◌}
use mathlib.Core.Bool.{Bool}
use Rattle.coreinterrupt.specs.declared.Answer as alone
use Rattle.coreinterrupt.specs.declared.Core.{Core}
use Rattle.coreinterrupt.specs.Model as CoreInterrupt
use Rattle.board.specs.Record.{with_core, answered}
use Rattle.board.specs.Model.{checked, write}
use Rattle.board.proofs.AnswerLaws.{taken, left, none-given, there-below}
use Rattle.board.proofs.write.Goals as goal

pub with_core-requires : goal.with_core-requires
with_core-requires c =
    let a = c.args in
    let g = none-given _ _ _ (sym c.checked-n.ensures ∙ c.if-n-eq-CARRIED_OUT.true) in
    there-below a.b a.c g.0 (sym c.is_there.ensures ∙ g.1.0)

pub returns-then-n-eq-CARRIED_OUT : goal.returns-then-n-eq-CARRIED_OUT
unfolding write
returns-then-n-eq-CARRIED_OUT c =
    let a = c.args in
    let k = c.core_at.ensures in
    let w = c.write-a.ensures ∙ ap (λ (x : Core). CoreInterrupt.write x a.offset a.value) k in
    let t = c.is_there.ensures in
    let n = c.checked-n.ensures ∙ ap₂ (λ (u : Bool) (x : alone.Answer). checked a.b u x.refusal) t w in
    let d = c.with_core.ensures ∙ ap (λ (x : alone.Answer). with_core a.b a.c x.core) w in
    taken a.b n c.if-n-eq-CARRIED_OUT.true (c.answer_of.ensures ∙ ap₂ answered d (ap (λ (x : alone.Answer). x.value) w))

pub returns : goal.returns
unfolding write
returns c =
    let a = c.args in
    let k = c.core_at.ensures in
    let w = c.write-a.ensures ∙ ap (λ (x : Core). CoreInterrupt.write x a.offset a.value) k in
    let t = c.is_there.ensures in
    let n = c.checked-n.ensures ∙ ap₂ (λ (u : Bool) (x : alone.Answer). checked a.b u x.refusal) t w in
    left a.b _ n c.if-n-eq-CARRIED_OUT.false c.refusal_of.ensures
