-- That `blank` of src/names.rt keeps its contract.
use mathlib.Core.Path.{refl}
use Rattle.tables.specs.Names.{blanked}
use Rattle.tables.proofs.NameLaws.{blank-more, blank-done, blank-length}
use borrow.Author.Rules.{rules}
use Rattle.tables.proofs.names.blank.Goals as goal

pub loop-k-init : goal.loop-k-init
loop-k-init c = (search rules, unfold blanked in refl)

pub loop-k-preserved : goal.loop-k-preserved
loop-k-preserved c =
    (search rules, blank-more _ _ _ _ _ c.loop-k.invariant.1 c.put_space.ensures)

pub shape_of-text : goal.shape_of-text
shape_of-text c = blank-length _ _ _ _ c.loop-k.invariant.1

pub returns : goal.returns
returns c = blank-done _ _ _ c.loop-k.k _ c.loop-k.invariant.1 c.loop-k.invariant.0 (search rules)
