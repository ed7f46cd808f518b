-- That `line_end` of src/lib.rt keeps its contract.
use Prim.Native.Nat.{ℕ}
use mathlib.Core.Bool.{Bool}
use lib.Dec.{eqb}
use borrow.Author.Tests.{tests}
use borrow.Author.Rules.{rules}
use Rattle.std.proofs.lemmas.Iterator.{YieldsList-from_slice}
use Rattle.std.proofs.lemmas.Iterator.Search.{position_from_yields_List}
use Rattle.report.proofs.LineLaws.{line-over, line-place, beyond-end, part-rest}
use Rattle.report.proofs.line_end.Goals as goal

pub returns-in_default : goal.returns-in_default
returns-in_default c = line-over _ _ (beyond-end _ _ c.in_default.ensures.lookup.0)

pub returns : goal.returns
returns c =
    let feed : ℕ → Bool = λ b. eqb b 10 in
    let rest = c.in-Some.rest.now in
    line-place c.args.s.now c.args.at rest c.position.result c.unwrap_or.result c.in-Some.ensures.lookup.0.0 (part-rest c.args.s.now c.args.at rest c.in-Some.ensures.lookup.0.2)
    (position_from_yields_List feed c.position.new.self _ c.position.result c.position.ensures.ran (YieldsList-from_slice rest (search rules)) (λ x b q k. search (rules, tests)))
    c.unwrap_or.ensures
