-- That `kind_of` of src/statements.rt keeps its contract.
use mathlib.Core.Path.{◌∙◌}
use native.Mathlib.Omega.{arith}
use Rattle.words.proofs.ChoiceLaws.{by-true, by-false}
use Rattle.text.specs.Phrases.{bytes}
use Rattle.encode.specs.Words.{no_kind, kind_of}
use Rattle.encode.proofs.OpeningLaws.{unless_is, unless_not}
use Rattle.encode.proofs.statements.kind_of.Goals as goal

pub returns-then-is_same : goal.returns-then-is_same
unfolding kind_of bytes
returns-then-is_same c =
    unless_is no_kind _ (by-true _ c.is_same.ensures c.if-is_same.true) (λ e. omega arith)

pub returns-then-is_same-2 : goal.returns-then-is_same-2
unfolding kind_of bytes
returns-then-is_same-2 c =
    unless_is no_kind _ (by-true _ c.is_same-2.ensures c.if-is_same-2.true
    ∙ by-false _ c.is_same.ensures c.if-is_same.false) (λ e. omega arith)

pub returns-then-is_same-3 : goal.returns-then-is_same-3
unfolding kind_of bytes
returns-then-is_same-3 c =
    unless_is no_kind _ (by-true _ c.is_same-3.ensures c.if-is_same-3.true
    ∙ by-false _ c.is_same-2.ensures c.if-is_same-2.false
    ∙ by-false _ c.is_same.ensures c.if-is_same.false) (λ e. omega arith)

pub returns-then-is_same-4 : goal.returns-then-is_same-4
unfolding kind_of bytes
returns-then-is_same-4 c =
    unless_is no_kind _ (by-true _ c.is_same-4.ensures c.if-is_same-4.true
    ∙ by-false _ c.is_same-3.ensures c.if-is_same-3.false
    ∙ by-false _ c.is_same-2.ensures c.if-is_same-2.false
    ∙ by-false _ c.is_same.ensures c.if-is_same.false) (λ e. omega arith)

pub returns-then-is_same-5 : goal.returns-then-is_same-5
unfolding kind_of bytes
returns-then-is_same-5 c =
    unless_is no_kind _ (by-true _ c.is_same-5.ensures c.if-is_same-5.true
    ∙ by-false _ c.is_same-4.ensures c.if-is_same-4.false
    ∙ by-false _ c.is_same-3.ensures c.if-is_same-3.false
    ∙ by-false _ c.is_same-2.ensures c.if-is_same-2.false
    ∙ by-false _ c.is_same.ensures c.if-is_same.false) (λ e. omega arith)

pub returns : goal.returns
unfolding kind_of bytes
returns c =
    unless_not no_kind _ (by-false _ c.is_same-5.ensures c.if-is_same-5.false
    ∙ by-false _ c.is_same-4.ensures c.if-is_same-4.false
    ∙ by-false _ c.is_same-3.ensures c.if-is_same-3.false
    ∙ by-false _ c.is_same-2.ensures c.if-is_same-2.false
    ∙ by-false _ c.is_same.ensures c.if-is_same.false)
