-- That `held_sound` of src/lib.rt keeps its contract.
use mathlib.Core.Bool.{Bool, ◌&&◌}
use mathlib.Core.Path.{ap}
use lib.Dec.{leb}
use Rattle.words.proofs.TruthLaws.{and_parts}
use Rattle.cic_held.specs.Held.{held_sound}
use Rattle.cic_held.proofs.held_sound.Goals as goal

pub returns : goal.returns
unfolding held_sound
returns c =
    let h = c.args.h in
    ap (λ (b : Bool). leb h.choice 1 && (leb h.hold h.choice && b)) (and_parts c.entry_sound-global.ensures c.hosts_sound.ensures)
