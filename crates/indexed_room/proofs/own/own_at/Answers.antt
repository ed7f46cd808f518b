-- That `own_at` of src/own.rt keeps its contract.
use Rattle.indexed_room.proofs.ReplyLaws.{own-off, own-control, own_global, own_below, own_host, own-past}
use Rattle.indexed_room.proofs.own.own_at.Goals as goal

pub returns-then-choice-ne1 : goal.returns-then-choice-ne1
returns-then-choice-ne1 c = λ p e. own-off p _ _ e c.if-choice-ne1.true

pub returns-then-offset-eq4 : goal.returns-then-offset-eq4
returns-then-offset-eq4 c = λ p e. own-control p _ _ e c.if-choice-ne1.false c.if-offset-eq4.true

pub returns-then-offset-eq128 : goal.returns-then-offset-eq128
returns-then-offset-eq128 c = λ p e. own_global p _ _ e c.if-choice-ne1.false c.if-offset-eq4.false c.if-offset-eq128.true

pub returns-then-offset-lt2304 : goal.returns-then-offset-lt2304
returns-then-offset-lt2304 c = λ p e. own_below p _ _ e c.if-choice-ne1.false c.if-offset-eq4.false c.if-offset-eq128.false c.if-offset-lt2304.true

pub returns-then-offset-lt3328 : goal.returns-then-offset-lt3328
returns-then-offset-lt3328 c = λ p e. own_host p _ _ e c.if-choice-ne1.false c.if-offset-eq4.false c.if-offset-eq128.false c.if-offset-lt2304.false c.if-offset-lt3328.true

pub returns : goal.returns
returns c = λ p e. own-past p _ _ e c.if-choice-ne1.false c.if-offset-eq4.false c.if-offset-eq128.false c.if-offset-lt2304.false c.if-offset-lt3328.false
