-- That `tally_begun` of src/lib.rt keeps its contract.
use mathlib.Core.Path.{◌∙◌}
use Rattle.beginning.proofs.BeginningLaws.{begin-ready}
use Rattle.tally.proofs.LengthLaws.{begun-length}
use Rattle.tally.proofs.TallyLaws.{tally-begun, none_open}
use Rattle.tally.proofs.tally_begun.Goals as goal

pub tally_steps-requires : goal.tally_steps-requires
tally_steps-requires c =
    let p = c.requires in
    (begin-ready _ _ p.0 p.1, none_open _ _ p.0, begun-length _ _ p.0 p.1)

pub returns : goal.returns
returns c =
    let p = c.requires in
    c.tally_steps.ensures ∙ tally-begun _ _ _ _ p.0 p.1 c.tells_privilege-told.ensures
