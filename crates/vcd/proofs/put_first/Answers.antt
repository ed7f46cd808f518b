-- That `put_first` of src/lib.rt keeps its contract.
use Rattle.text.proofs.WriteLaws.{and_then}
use Rattle.words.specs.Choice.{pick}
use Rattle.text.specs.Text.{decimal_of}
use Rattle.text.specs.Phrases.{bytes}
use Rattle.vcd.specs.Dump.{tick, first_tick}
use Rattle.vcd.proofs.put_first.Goals as goal

pub returns : goal.returns
unfolding first_tick tick decimal_of pick bytes
returns c =
    and_then _ _ _ (and_then _ _ _ c.put_all-a.ensures c.put_values-b.ensures) c.put_all.ensures
