-- That `unkept` of src/kept.rt keeps its contract.
use Prim.Native.Nat.{ℕ}
use mathlib.Core.Path.{◌≡◌, ◌∙◌}
use mathlib.Core.Bool.{Bool, true, false, not}
use borrow.Author.Tests.{tests}
use borrow.Author.Rules.{rules}
use Rattle.std.proofs.lemmas.Iterator.{first_from_Range}
use Rattle.stack.specs.Kept.{source_keeps, unkept}
use Rattle.stack.proofs.RangeLaws.{lowest-range}
use Rattle.stack.proofs.kept.unkept.Goals as goal

pub returns : goal.returns
unfolding unkept
returns c =
    let a = c.args in
    let strays : ℕ → Bool = λ i. not (source_keeps a.t a.s i) in
    c.unwrap_or.ensures
    ∙ lowest-range strays 32 c.find.result
    (first_from_Range (record { start = 0; end = 32 }) c.find.new.self _ c.find.result (λ i. strays i ≡ true) (λ i. strays i ≡ false) c.find.ensures.ran (λ x q k. search (rules, tests)) (λ x q k. search (rules, tests)))
