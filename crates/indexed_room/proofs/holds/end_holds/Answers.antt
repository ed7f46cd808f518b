-- That `end_holds` of src/holds.rt keeps its contract.
use Rattle.indexed_room.proofs.HoldLaws.{ends_set, ends-clear, ends-none, ends_some, ends-past}
use Rattle.indexed_room.proofs.holds.end_holds.Goals as goal

pub returns-then-offset-eq52 : goal.returns-then-offset-eq52
returns-then-offset-eq52 c = λ p h. ends_set p _ _ c.if-offset-eq52.true (c.after_index.ensures p h)

pub returns-then-offset-eq56 : goal.returns-then-offset-eq56
returns-then-offset-eq56 c = λ p h. ends-clear p _ _ c.if-offset-eq52.false c.if-offset-eq56.true (c.after_index-then-offset-eq56.ensures p h)

pub returns-then-offset-lt5376 : goal.returns-then-offset-lt5376
returns-then-offset-lt5376 c = λ p h. ends-none p _ _ c.if-offset-eq52.false c.if-offset-eq56.false c.if-offset-lt5376.true h

pub returns-then-offset-lt5408 : goal.returns-then-offset-lt5408
returns-then-offset-lt5408 c =
    λ p h. ends_some p _ _ c.if-offset-eq52.false c.if-offset-eq56.false c.if-offset-lt5376.false c.if-offset-lt5408.true (c.hosts_written.ensures p h)

pub returns-else-offset-lt5408 : goal.returns-else-offset-lt5408
returns-else-offset-lt5408 c = λ p h. ends-past p _ _ c.if-offset-eq52.false c.if-offset-eq56.false c.if-offset-lt5376.false c.if-offset-lt5408.false h
