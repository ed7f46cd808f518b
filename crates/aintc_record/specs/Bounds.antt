-- The bounds of the two chosen inputs: the half of a sound record in which no input plays a part (02, 2/12).
use Rattle.std.specs.Prelude.{Bool, ◌&&◌, eqb, leb}
use Rattle.words.specs.Choice.{pick}
use Rattle.aintc_record.specs.declared.Aintc.{Aintc}
use Rattle.aintc_record.specs.declared.Chosen.{Chosen}

-- an input from 0 to 127 at a priority from 0 to 127, or none and both numbers 0 (000, figures 4-9 and 4-14)
unfoldable pub chosen_bounded : Chosen → Bool
chosen_bounded c = pick c.active (leb c.number 127 && leb c.priority 127) (eqb c.number 0 && eqb c.priority 0)

-- so for IRQ and for FIQ (000, 4.5.4 and 4.5.5)
unfoldable pub bounded : Aintc → Bool
bounded s = chosen_bounded s.irq && chosen_bounded s.fiq
