-- That `any_passes` of src/lib.rt keeps its contract.
use Prim.Native.Nat.{ℕ, ◌+◌}
use mathlib.Core.Bool.{Bool}
use mathlib.Core.Path.{◌∙◌}
use borrow.Author.Tests.{tests}
use borrow.Author.Rules.{rules}
use lib.Dec.{ltb}
use Rattle.std.proofs.lemmas.Iterator.{YieldsList-from_slice, YieldsList-from_zip}
use Rattle.std.proofs.lemmas.Iterator.Search.{any_from_yields_List}
use Rattle.totals.specs.Totals.{passes}
use Rattle.totals.proofs.MadeLaws.{any-zip}
use Rattle.totals.proofs.any_passes.Goals as goal

pub returns : goal.returns
unfolding passes
returns c =
    let a = c.args in
    let past : ℕ × ℕ → Bool = λ p. ltb 4294967295 (p.0 + p.1) in
    any_from_yields_List past c.any.new.self _ c.any.result c.any.ensures.ran (YieldsList-from_zip (YieldsList-from_slice a.a (search rules)) (YieldsList-from_slice a.b (search rules))) (λ x b q k. search (rules, tests))
    ∙ any-zip past a.a a.b 32 (search rules) (search rules)
