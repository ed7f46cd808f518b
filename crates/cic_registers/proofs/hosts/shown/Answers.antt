-- That `shown` of src/hosts.rt keeps its contract.
use Rattle.cic_registers.proofs.ScanLaws.{shown_words}
use Rattle.cic_registers.proofs.hosts.shown.Goals as goal

pub returns : goal.returns
returns c = shown_words c.args.c c.asserted_hosts-ws.result _ _ c.asserted_hosts-ws.ensures c.count_of-hosts.ensures c.lowest_of-lowest.ensures
