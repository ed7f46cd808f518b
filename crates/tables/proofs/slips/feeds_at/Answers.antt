-- That `feeds_at` of src/slips.rt keeps its contract.
use Rattle.tables.proofs.SlipLaws.{feed_there, feed-none}
use Rattle.tables.proofs.slips.feeds_at.Goals as goal

pub returns-then-byte_or-eq10 : goal.returns-then-byte_or-eq10
returns-then-byte_or-eq10 c = let a = c.args in feed_there a.text.now a.k _ c.byte_or.ensures c.if-byte_or-eq10.true

pub returns : goal.returns
returns c = let a = c.args in feed-none a.text.now a.k _ c.byte_or.ensures c.if-byte_or-eq10.false
