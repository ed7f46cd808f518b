-- That `put_begun` of src/lib.rt keeps its contract.
use Rattle.beginning.proofs.BeginningLaws.{begin-ready}
use Rattle.waves.proofs.WaveLaws.{rest-told, dumped}
use Rattle.waves.proofs.put_begun.Goals as goal

pub put_start-start-requires : goal.put_start-start-requires
put_start-start-requires c = let p = c.requires in (begin-ready _ _ p.0 p.1).0

pub put_steps-requires : goal.put_steps-requires
put_steps-requires c = let p = c.requires in begin-ready _ _ p.0 p.1

pub returns : goal.returns
returns c =
    let s = c.put_start-start.ensures in
    dumped _ _ _ _ _ _ s.1 s.0 (rest-told _ _ _ _ _ _ _ _ _ c.tells_privilege-told.ensures c.put_steps.ensures)
