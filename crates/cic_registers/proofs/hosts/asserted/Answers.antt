-- That `asserted` of src/hosts.rt keeps its contract.
use Rattle.cic_registers.proofs.ScanLaws.{no_host}
use mathlib.Core.Path.{sym, ◌∙◌}
use borrow.Author.Rules.{rules}
use Rattle.cic_registers.proofs.hosts.asserted.Goals as goal

pub returns-then-number-ge256 : goal.returns-then-number-ge256
returns-then-number-ge256 c = sym (no_host c.args.c c.args.h (search rules) c.if-number-ge256.true)

pub returns : goal.returns
returns c = c.bit_of.ensures ∙ c.asserted_hosts.ensures c.args.h.0 (search rules)
