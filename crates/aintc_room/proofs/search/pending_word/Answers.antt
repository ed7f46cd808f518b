-- That `pending_word` of src/search.rt keeps its contract.
use Rattle.aintc_room.proofs.SearchLaws.{pending-fast, pending_slow}
use Rattle.aintc_room.proofs.search.pending_word.Goals as goal

pub returns-then-fast : goal.returns-then-fast
returns-then-fast c = λ a h. pending-fast h _ _ _ c.requires (c.open_word-open.ensures a h) _ c.if-fast.true c.meet.ensures

pub returns : goal.returns
returns c = λ a h. pending_slow h _ _ _ c.requires (c.open_word-open.ensures a h) _ c.if-fast.false c.drop_bits.ensures
