-- That `open_word` of src/choice.rt keeps its contract.
use Rattle.aintc_registers.proofs.InputLaws.{open-from}
use Rattle.aintc_registers.proofs.choice.open_word.Goals as goal

pub returns : goal.returns
returns c = open-from _ _ _ _ _ _ _ c.line_word.ensures c.soft_word.ensures c.join-raised.ensures c.mask_word.ensures c.drop_bits.ensures
