-- What the outputs take after a step, and the rules of a sound record (02, 2/12; 000, 4.3.1.2.3).
use Rattle.std.specs.Prelude.{Bool, true, false, not, ◌&&◌, ◌||◌}
use Rattle.words.specs.Choice.{pick}
use Rattle.aintc_record.specs.declared.Aintc.{Aintc}
use Rattle.aintc_record.specs.declared.Chosen.{Chosen}
use Rattle.aintc_record.specs.Bounds.{bounded}
use Rattle.aintc_record.specs.Record.{chosen_at, side, with_sides}
use Rattle.aintc_record.specs.Route.{priority}
use Rattle.aintc_registers.specs.Order.{some, first}

-- a chosen one stays; where there is none the first is taken, at the priority that it has now (02, 2/12; 000, 4.3.1.2.3)
unfoldable pub settled_side : Aintc → Bool → Chosen
settled_side s f =
    pick (side s f).active (side s f) (pick (some s f) (chosen_at (first s f) (priority s (first s f))) (side s f))

-- both outputs, each by itself (000, 4.3.1.2.3)
unfoldable pub settle : Aintc → Aintc
settle s = with_sides s (settled_side s false) (settled_side s true)

-- an output with none chosen has none that is eligible (000, 4.3.1.2.3)
unfoldable pub side_quiet : Aintc → Bool → Bool
side_quiet s f = (side s f).active || not (some s f)

-- a sound record: the bounds of the chosen ones, and nothing left to choose (02, 2/12)
unfoldable pub sound : Aintc → Bool
sound s = bounded s && side_quiet s false && side_quiet s true
