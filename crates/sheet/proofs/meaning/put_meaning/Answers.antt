-- That `put_meaning` of src/meaning.rt keeps its contract.
use Rattle.text.specs.Phrases.{bytes}
use Rattle.sheet.specs.Meaning.{meaning_first, meaning_last, meaning}
use Rattle.text.proofs.WriteLaws.{and_then, same_length as same_len}
use Rattle.sheet.proofs.meaning.put_meaning.Goals as goal

pub returns : goal.returns
unfolding meaning meaning_first meaning_last bytes
returns c =
    and_then _ _ _ c.put_all-a.ensures c.put_all.ensures

pub shape_of-out : goal.shape_of-out
shape_of-out c = same_len _ _ _ (returns c)
