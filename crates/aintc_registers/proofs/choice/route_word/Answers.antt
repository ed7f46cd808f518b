-- That `route_word` of src/choice.rt keeps its contract.
use Prim.Native.Nat.{◌+◌}
use mathlib.Core.Path.{◌∙◌}
use native.Mathlib.Omega.{arith}
use lib.Dec.{eqb}
use lib.ListN.{get_or}
use Rattle.words.specs.Word.{word_of}
use Rattle.words.proofs.CountingLaws.{at_end}
use Rattle.words.proofs.WordLaws.{word_of-none_yet, word_of-more}
use Rattle.aintc_record.specs.Route.{route_of}
use Rattle.aintc_registers.specs.Search.{route_word}
use Rattle.aintc_registers.proofs.choice.route_word.Goals as goal

pub loop-i-init : goal.loop-i-init
loop-i-init c = (omega arith, word_of-none_yet _)

pub loop-i-preserved : goal.loop-i-preserved
loop-i-preserved c =
    let a = c.args in
    let l = c.loop-i in
    (omega arith, c.with_bit-w.ensures ∙ word_of-more (λ j. eqb (route_of (get_or a.routes.now (a.base + j) 0)) a.side) l.i c.loop-i-test.true l.invariant.1 c.is_routed.ensures)

pub returns : goal.returns
unfolding route_word
returns c =
    let a = c.args in
    at_end (λ n. word_of n (λ j. eqb (route_of (get_or a.routes.now (a.base + j) 0)) a.side)) _ 32 c.loop-i.invariant.0 c.loop-i-test.false c.loop-i.invariant.1
