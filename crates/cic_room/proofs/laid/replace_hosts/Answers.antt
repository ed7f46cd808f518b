-- That `replace_hosts` of src/laid.rt keeps its contract.
use mathlib.Core.Path.{ap, ◌∙◌}
use Prim.Native.Nat.{ℕ}
use lib.ListN.{set}
use Rattle.words.specs.Array.{rest_at}
use Rattle.words.specs.Word.{kept}
use Rattle.cic_record.specs.Record.{with_allow}
use Rattle.cic_registers.specs.Bits.{word_replaced}
use Rattle.cic_room.proofs.PutLaws.{hosts-is}
use Rattle.cic_room.proofs.RoomLaws.{laid_as}
use Rattle.cic_room.proofs.laid.replace_hosts.Goals as goal

pub returns : goal.returns
unfolding word_replaced
returns c =
    let k = c.args.k in
    λ f d h.
    laid_as (ap (λ (w : ℕ). with_allow d (set d.allow k w)) (c.keep-w.ensures ∙ ap (λ (n : ℕ). kept n c.args.v) (c.rest_at.ensures ∙ ap (λ (n : ℕ). rest_at n k) (hosts-is h))))
    (c.store_allow.ensures f d h)
