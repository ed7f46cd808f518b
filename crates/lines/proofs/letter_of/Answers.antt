-- That `letter_of` of src/lib.rt keeps its contract.
use Prim.Native.Nat.{ℕ}
use mathlib.Core.Path.{ap, ◌∙◌}
use lib.Dec.{eqb}
use Rattle.words.specs.Choice.{pick}
use Rattle.steps.specs.Refusals.{carried_out}
use Rattle.lines.specs.Listing.{letter}
use Rattle.lines.proofs.letter_of.Goals as goal

pub returns : goal.returns
unfolding letter
returns c = c.unless_refused.ensures ∙ ap (λ (l : ℕ). pick (eqb c.args.refusal carried_out) l 88) c.letter_by_kind.ensures
