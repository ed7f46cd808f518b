-- That `look_now` of src/looked.rt keeps its contract.
use mathlib.Core.Path.{ap₂, ◌∙◌}
use Prim.Native.Nat.{ℕ}
use borrow.Author.Tests.{eq-eqb, ne_eqb}
use Rattle.words.proofs.ChoiceLaws.{pick_true, pick-false}
use Rattle.cic_held.specs.Looked.{looked_over, found_over}
use Rattle.cic_held.specs.Order.{leads, index_of}
use Rattle.cic_held.specs.Held.{word_held}
use Rattle.cic_prioritised.proofs.looked.look_now.Goals as goal

pub returns-then-x-eq0 : goal.returns-then-x-eq0
unfolding found_over index_of
returns-then-x-eq0 c =
    let a = c.args in
    let free = eq-eqb a.x 0 c.if-x-eq0.true in
    c.look.ensures
    ∙ ap₂ (λ (i w : ℕ). record { index = i; words = w }) (pick_true (word_held a.x) free) (pick_true 0 free)

pub returns : goal.returns
returns c =
    let a = c.args in
    let held = ne_eqb a.x 0 c.if-x-eq0.false in
    ap₂ (λ (i w : ℕ). record { index = i; words = w }) (c.word_held.ensures ∙ pick-false (index_of a.c a.every a.h) held)
    (pick-false (looked_over a.c (leads a.c a.every a.h)) held)
