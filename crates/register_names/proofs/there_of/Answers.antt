-- That `there_of` of src/lib.rt keeps its contract.
use Prim.Native.Nat.{ℕ, ◌*◌, ◌≤◌, ◌<◌}
use native.Mathlib.Omega.{arith}
use borrow.Author.Tests.{le-leb, lt-leb}
use Rattle.std.proofs.lemmas.Nat.{mul-le}
use Rattle.words.proofs.ChoiceLaws.{pick_true, pick-false}
use Rattle.register_names.specs.Rows.{there_of}
use Rattle.register_names.proofs.there_of.Goals as goal

pub returns-then-share-most : goal.returns-then-share-most
unfolding there_of
returns-then-share-most c = pick_true _ (le-leb _ _ c.if-share-most.true)

pub returns : goal.returns
unfolding there_of
returns c = pick-false _ (lt-leb _ _ c.if-share-most.false)

small : (share most : ℕ) → share ≤ 32 → most < 65536 → share * most ≤ 2097120
small share most h l = omega (arith, mul-le share most 32 65535 h (omega (arith, l)))

pub overflow_mul-share : goal.overflow_mul-share
overflow_mul-share c = let r = c.requires in
    omega (arith, small c.args.share c.args.most r.1 r.2)

pub overflow_add-result : goal.overflow_add-result
overflow_add-result c = let r = c.requires in
    omega (arith, c.if-share-most.false, small c.args.share c.args.most r.1 r.2)
