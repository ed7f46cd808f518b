-- That `put_sources` of src/sources.rt keeps its contract.
use Rattle.sheet.proofs.TurnLaws.{each-done, each_turn}
use Rattle.sheet.specs.Sources.{source_row}
use Rattle.text.proofs.WriteLaws.{same_length as same_len}
use borrow.Author.Rules.{rules}
use mathlib.Core.Path.{◌∙◌, refl}
use Rattle.sheet.proofs.sources.put_sources.Goals as goal

pub loop-i-init : goal.loop-i-init
loop-i-init c = (refl, refl)

pub loop-i-preserved : goal.loop-i-preserved
loop-i-preserved c =
    let a = c.args in
    (each_turn (source_row a.board.now.table a.board.now.names a.board.now.lengths a.s) a.is.now c.loop-i.i-index _ _ _ (search rules) c.put_source-next.ensures c.loop-i.invariant.0, same_len _ _ _ c.put_source-next.ensures ∙ c.loop-i.invariant.1)

pub returns : goal.returns
returns c =
    let a = c.args in
    each-done (source_row a.board.now.table a.board.now.names a.board.now.lengths a.s) a.is.now c.loop-i.i-index _ _ (search rules) c.loop-i.invariant.0
