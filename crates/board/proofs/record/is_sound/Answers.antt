-- That `is_sound` of src/record.rt keeps its contract.
use mathlib.Core.Bool.{Bool, ◌&&◌}
use mathlib.Core.Path.{ap}
use lib.Dec.{leb}
use Rattle.words.proofs.TruthLaws.{and_parts}
use Rattle.board.specs.Sound.{sound}
use Rattle.board.proofs.record.is_sound.Goals as goal

pub returns : goal.returns
unfolding sound
returns c = ap (λ (t : Bool). leb c.args.b.controllers 8 && t) (and_parts c.cores_kept.ensures (and_parts c.wires_kept.ensures c.pins_kept.ensures))
