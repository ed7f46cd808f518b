-- That `search` of src/indices.rt keeps its contract.
use Rattle.cic_held.proofs.SearchLaws.{NoneBefore}
use Rattle.cic_held.proofs.indices.search.Given as goal

abbrev pub invariant-loop-j : goal.invariant-loop-j
invariant-loop-j l = NoneBefore l.systems l.status l.enable l.channel l.k l.j
