-- CoreInterrupt on a record that the caller lends: what stands in it afterwards, and what is answered (01, CoreInterrupt).
use Rattle.std.specs.Prelude.{ℕ, ◌≡◌, eqb}
use Rattle.words.specs.Choice.{pick}
use Rattle.steps.specs.declared.Step.TheVariants.{Read, Write, Line}
use Rattle.steps.specs.Refusals.{unknown}
use Rattle.trace.specs.Steps.{read_kind, write_kind, line_kind}
use Rattle.coreinterrupt.specs.declared.Core.{Core}
use Rattle.coreinterrupt.specs.declared.Answer.{Answer}
use Rattle.coreinterrupt.specs.Model.{start, step, answered, refused, unless_refused}
use Rattle.coreinterrupt_room.specs.declared.lent.Reply.{Reply}

-- the answer of a step less the record, which the caller has
abbrev pub reply_of : Answer → Reply
reply_of a = record { refusal = a.refusal; value = a.value }

-- the lent record afterwards, and the reply
abbrev pub left_by : Answer → Core × Reply
left_by a = (a.core, reply_of a)

-- a start over the record c: the new record, or refusal 10 and c as it was (01, Numbers)
unfoldable pub start_over : Core → ℕ → ℕ → ℕ → ℕ → Answer
start_over c fiqs irqs fiq_level irq_level =
    unless_refused c (start fiqs irqs fiq_level irq_level).refusal (answered (start fiqs irqs fiq_level irq_level).core 0)

-- a step that is told by its kind and two numbers, of which a read has one; of another kind there is none, and 9 is answered (01, House trace and Numbers)
unfoldable pub step_told : Core → ℕ → ℕ → ℕ → Answer
step_told c kind first second =
    pick (eqb kind read_kind) (step c (Read first))
    (pick (eqb kind write_kind) (step c (Write first second)) (pick (eqb kind line_kind) (step c (Line first second)) (refused c unknown)))

-- a step, on a record that was `before` and is `after`, answered r
abbrev pub Stepped : Core → Core → ℕ → ℕ → ℕ → Reply → Type 0
Stepped before after kind first second r = (after, r) ≡ left_by (step_told before kind first second)

-- a start, on a record that was `before` and is `after`, answered r
abbrev pub Started : Core → Core → ℕ → ℕ → ℕ → ℕ → Reply → Type 0
Started before after f i fl il r = (after, r) ≡ left_by (start_over before f i fl il)
