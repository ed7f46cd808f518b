-- That `take_all` of src/controller.rt keeps its contract.
use mathlib.Core.Path.{◌≡◌, refl, subst}
use Prim.Native.Nat.{ℕ}
use native.Mathlib.Omega.{arith}
use lib.ListN.{length-set}
use Rattle.machine_room.proofs.BatchLaws.{Along, along-none, along-more}
use borrow.Author.Rules.{rules}
use Rattle.machine_room.proofs.controller.take_all.Goals as goal

pub loop-k-init : goal.loop-k-init
loop-k-init c = (omega arith, refl, along-none _ _ _)

pub bounds-answers-k-in-loop-k : goal.bounds-answers-k-in-loop-k
bounds-answers-k-in-loop-k c =
    simp length-set (omega (arith, c.loop-k-test.true, c.loop-k.invariant.1, c.requires.1))

pub loop-k-preserved : goal.loop-k-preserved
loop-k-preserved c =
    let a = c.args in (
      search rules,
      simp length-set c.loop-k.invariant.1,
      along-more a.room.now a.words.now a.answers.now _ _ _ c.loop-k.k _ _ _ c.loop-k.invariant.2 c.take-a.ensures c.refusal_in.ensures c.value_in.ensures,
    )

pub returns : goal.returns
returns c =
    let a = c.args in
    let l = c.loop-k in
    let e : l.k ≡ a.n = omega (arith, l.invariant.0, c.loop-k-test.false) in
    subst (λ (j : ℕ). Along a.room.now a.words.now a.answers.now j l.room l.answers) e l.invariant.2
