-- That `turn` of src/counts.rt keeps its contract.
use mathlib.Core.Path.{sym, ap, ◌∙◌}
use mathlib.Core.Bool.{Bool, not}
use Rattle.words.specs.Array.{with_bit_at}
use Rattle.cic_room.proofs.TurnLaws.{counted_as}
use Rattle.cic_room.proofs.counts.turn.Goals as goal

pub returns-then-on : goal.returns-then-on
returns-then-on c = λ f d ws on u b. counted_as (ap (λ (t : Bool). with_bit_at ws c.args.s.0 t) (sym c.if-on.true)) (c.turn_on.ensures f d ws on u (b ∙ ap not c.if-on.true))

pub returns : goal.returns
returns c = λ f d ws on u b. counted_as (ap (λ (t : Bool). with_bit_at ws c.args.s.0 t) (sym c.if-on.false)) (c.turn_off.ensures f d ws on u (b ∙ ap not c.if-on.false))
