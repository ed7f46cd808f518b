-- That `all_names` of src/names.rt keeps its contract.
use Prim.Native.Nat.{◌+◌}
use mathlib.Core.Path.{refl, sym}
use lib.ListN.{length}
use Rattle.report.proofs.PutLaws.{put-none, put_then}
use borrow.Author.Rules.{rules}
use Rattle.report.proofs.names.all_names.Goals as goal

pub loop-init : goal.loop-init
loop-init g c = (search rules, refl, (0, put-none _ _ _ refl))

pub loop-preserved : goal.loop-preserved
loop-preserved g c = let i = c.loop.invariant in
    (search rules, search rules, (i.2.0 + _, put_then i.2.1 c.turn-s.ensures.1))

pub returns-then-ne : goal.returns-then-ne
returns-then-ne g c = let i = c.loop.invariant in
    (search rules, (i.2.0 + length c.turn-s.new.names, rw (sym c.begin-s.ensures.1) (put_then i.2.1 c.turn-s.ensures.1)))

pub returns-after-loop : goal.returns-after-loop
returns-after-loop g c = let i = c.loop.invariant in
    (i.0, (i.2.0, rw (sym c.begin-s.ensures.1) i.2.1))
