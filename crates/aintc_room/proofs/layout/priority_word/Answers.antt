-- That `priority_word` of src/layout.rt keeps its contract.
use mathlib.Core.Path.{ap, ◌∙◌}
use Prim.Native.Nat.{ℕ, ◌+◌, ◌*◌}
use native.Mathlib.Omega.{arith}
use lib.ListN.{get_or}
use Rattle.words.specs.Word.{bit, word_of}
use Rattle.words.proofs.CountingLaws.{at_end}
use Rattle.words.proofs.WordLaws.{word_of-none_yet, word_of-more}
use Rattle.aintc_record.specs.Route.{priority_of}
use Rattle.aintc_room.specs.Room.{priority_word}
use Rattle.aintc_room.proofs.layout.priority_word.Goals as goal

pub loop-i-init : goal.loop-i-init
loop-i-init c = (omega arith, word_of-none_yet _)

pub loop-i-preserved : goal.loop-i-preserved
loop-i-preserved c =
    let l = c.loop-i in
    let a = c.args in
    (omega arith, c.with_bit-w.ensures ∙ word_of-more (λ j. bit (priority_of (get_or a.routes.now (32 * a.n + j) 0)) a.b) l.i c.loop-i-test.true l.invariant.1 (c.has.ensures ∙ ap (λ (x : ℕ). bit x a.b) c.priority_of-p.ensures))

pub returns : goal.returns
unfolding priority_word
returns c =
    let a = c.args in
    at_end (λ m. word_of m (λ j. bit (priority_of (get_or a.routes.now (32 * a.n + j) 0)) a.b)) _ 32 c.loop-i.invariant.0 c.loop-i-test.false c.loop-i.invariant.1
