-- That `visit` of src/hosts.rt keeps its contract.
use Rattle.cic_registers.proofs.ScanLaws.{marked}
use Rattle.cic_record.specs.Kinds.{host_in}
use Rattle.cic_record.specs.declared.Host.{Host}
use Rattle.cic_record.specs.declared.Channel.{Channel}
use Rattle.words.specs.Array.{with_bit_at}
use lib.ListN.{length, length-set}
use native.Mathlib.Omega.{arith}
use mathlib.Core.Path.{ap, ◌∙◌}
use Rattle.cic_registers.proofs.hosts.visit.Goals as goal

pub returns : goal.returns
unfolding with_bit_at
returns c =
    let a = c.args in
    let p = c.requires in
    let h = c.host_in-h in
    let k = c.channel_in in record {
      bits = λ n. marked a.out.now _ _ h.result.0 n (omega (arith, p.out_len, h.ensures.1)) (ap (λ (x : Host). x.0) h.ensures.0 ∙ ap (λ (x : Channel). (host_in a.host.now x).0) k.ensures.0) c.mark.ensures;
      long = ap length c.mark.ensures ∙ simp length-set p.out_len;
    }
