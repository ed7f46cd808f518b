-- That `asserted_hosts` of src/hosts.rt keeps its contract.
use Rattle.cic_registers.proofs.ScanLaws.{not_global, with_global}
use Rattle.words.proofs.ArrayLaws.{zeros-bit_at}
use Rattle.cic_record.specs.Kinds.{host_number}
use Rattle.words.specs.Array.{bit_at}
use mathlib.Core.Bool.{Bool, ◌&&◌}
use mathlib.Core.Path.{sym, ap, ◌∙◌}
use Rattle.cic_registers.proofs.hosts.asserted_hosts.Goals as goal

pub returns-then-global-ne1 : goal.returns-then-global-ne1
returns-then-global-ne1 c = λ h l. zeros-bit_at 8 h ∙ sym (not_global c.args.c (host_number h) c.if-global-ne1.true)

pub returns : goal.returns
returns c = λ h l.
    let r = c.args.c in
    with_global r (host_number h) c.if-global-ne1.false (c.shared.ensures h l ∙ ap (λ (b : Bool). bit_at r.allow h && b) (c.raised_hosts-raised.ensures h))
