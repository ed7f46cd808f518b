-- That `statement_in` of src/statements.rt keeps its contract.
use mathlib.Core.Path.{sym, ap, ◌∙◌}
use borrow.Author.Tests.{eq-eqb, ne_eqb}
use Rattle.words.proofs.ChoiceLaws.{pick_true, pick-false}
use Rattle.tables.specs.Typed.{nth_typed}
use Rattle.encode.specs.Statements.{statement_in}
use Rattle.encode.specs.Passes.{opening_in, by_opened}
use Rattle.encode.proofs.OpeningLaws.{opening-said}
use Rattle.encode.proofs.PlaceLaws.{first-is, first_ordered, first-within, first_word}
use Rattle.encode.proofs.statements.statement_in.Goals as goal

pub returns-then-start-line : goal.returns-then-start-line
unfolding statement_in
returns-then-start-line c =
    let a = c.args in
    c.says_nothing.ensures ∙ pick_true _ (eq-eqb _ _ (sym (first-is a.line.now _ c.read_next-first.ensures).start ∙ c.if-start-line.true))

pub slice_bounds-opening_of-count : goal.slice_bounds-opening_of-count
slice_bounds-opening_of-count c =
    first_ordered c.args.line.now _ c.read_next-first.ensures

pub slice_bounds-opening_of-start : goal.slice_bounds-opening_of-start
slice_bounds-opening_of-start c =
    first_ordered c.args.line.now _ c.read_next-first.ensures

pub slice_bounds-opening_of-end : goal.slice_bounds-opening_of-end
slice_bounds-opening_of-end c =
    first-within c.args.line.now _ c.read_next-first.ensures

pub returns : goal.returns
unfolding statement_in
returns c =
    let a = c.args in
    let s = a.line.now in
    c.by_opening.ensures
    ∙ ap (by_opened s) (c.opening_of.ensures ∙ ap (opening_in a.kind) (first_word s _ c.read_next-first.ensures))
    ∙ opening-said s a.kind (nth_typed s 0)
    ∙ pick-false _ (ne_eqb _ _ (λ z. c.if-start-line.false ((first-is s _ c.read_next-first.ensures).start ∙ z)))
