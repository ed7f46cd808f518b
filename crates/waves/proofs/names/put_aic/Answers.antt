-- That `put_aic` of src/names.rt keeps its contract.
use Rattle.text.proofs.WriteLaws.{same_length as same_len}
use Rattle.text.specs.Phrases.{bytes}
use Rattle.waves.proofs.TextLaws.{last-declared, more-declared}
use Rattle.waves.proofs.names.put_aic.Goals as goal

pub returns : goal.returns
unfolding bytes
returns c =
    more-declared _ _ _ _ c.put_declaration-a.ensures
    (more-declared _ _ _ _ c.put_declaration-b.ensures
    (more-declared _ _ _ _ c.put_declaration-c.ensures
    (more-declared _ _ _ _ c.put_declaration-d.ensures
    (more-declared _ _ _ _ c.put_declaration-e.ensures
    (more-declared _ _ _ _ c.put_declaration-f.ensures
    (more-declared _ _ _ _ c.put_declaration-g.ensures
    (last-declared _ _ _ c.put_declaration.ensures)))))))

pub shape_of-out : goal.shape_of-out
shape_of-out c = same_len _ _ _ (returns c)
