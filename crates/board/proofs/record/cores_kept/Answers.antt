-- That `cores_kept` of src/record.rt keeps its contract.
use Rattle.board_wires.proofs.NumberLaws.{core_there}
use Rattle.board.specs.Sound.{cores_sound, core_rule}
use Rattle.board_wires.specs.Wires.{core_at}
use mathlib.Core.Path.{sym, ap, ◌∙◌}
use native.Mathlib.Omega.{arith}
use Rattle.words.specs.Counting.{all_below}
use Rattle.words.proofs.CountingLaws.{all-none_yet, all_more, at_end}
use Rattle.board.proofs.record.cores_kept.Goals as goal

pub loop-c-init : goal.loop-c-init
loop-c-init c = (omega arith, all-none_yet _)

pub loop-c-preserved : goal.loop-c-preserved
loop-c-preserved c = let b = c.args.b in (omega arith, all_more (λ j. core_rule b.controllers j (core_at b j)) c.loop-c.c c.loop-c.invariant.1 (c.core_kept-ok.ensures ∙ ap (core_rule b.controllers c.loop-c.c) (sym (core_there b c.loop-c.c c.loop-c-test.true))))

pub returns : goal.returns
unfolding cores_sound
returns c = let b = c.args.b in at_end (λ n. all_below n (λ j. core_rule b.controllers j (core_at b j))) c.loop-c.c 8 c.loop-c.invariant.0 c.loop-c-test.false c.loop-c.invariant.1
