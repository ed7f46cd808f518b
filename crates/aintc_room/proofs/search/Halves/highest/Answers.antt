-- That `Halves::highest` of src/search.rt keeps its contract.
use mathlib.Core.Path.{refl}
use native.Mathlib.Omega.{arith}
use Rattle.aintc_room.proofs.SearchLaws.{highest_in, none_of}
use Rattle.aintc_room.proofs.search.Halves.highest.Goals as goal

pub overflow_add-result : goal.overflow_add-result
overflow_add-result c = omega (arith, c.highest.ensures.within)

pub returns-then-self-ne0 : goal.returns-then-self-ne0
returns-then-self-ne0 c =
    let a = c.args.self in
    λ _. highest_in a.low a.high 1 _ _ (omega arith) c.highest.ensures (λ l. absurd (omega (arith, l))) refl

pub returns-then-self-ne0-2 : goal.returns-then-self-ne0-2
returns-then-self-ne0-2 c =
    let a = c.args.self in
    λ _. highest_in a.low a.high 0 _ _ (omega arith) c.highest-then-self-ne0-2.ensures (λ _. c.if-self-ne0.false) (omega arith)

pub returns : goal.returns
returns c = λ o. none_of _ _ c.if-self-ne0-2.false c.if-self-ne0.false o
