-- That `enter` of src/transfer.rt keeps its contract.
use Rattle.indexed_room.proofs.TransferLaws.{entered-more}
use Rattle.indexed_room.proofs.transfer.enter.Goals as goal

pub returns : goal.returns
returns c =
    λ f d h. entered-more h c.requires _ _ c.channel_in-k.ensures.0 c.channel_in-k.ensures.1 c.with_bit-word.ensures
