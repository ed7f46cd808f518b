-- That `pair` of src/search.rt keeps its contract.
use mathlib.Core.Path.{refl}
use Rattle.aintc_room.proofs.SearchLaws.{pair-bit}
use Rattle.aintc_room.proofs.search.pair.Goals as goal

pub returns : goal.returns
returns c = λ i l. pair-bit c.args.a c.args.b _ c.ranges.a.fits refl i l
