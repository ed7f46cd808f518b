-- That `within_limits` of src/lib.rt keeps its contract.
use mathlib.Core.Path.{ap, ◌∙◌, refl}
use mathlib.Core.Bool.{Bool, ◌&&◌}
use lib.Dec.{leb}
use borrow.Author.Tests.{tests}
use borrow.Author.Rules.{rules}
use Rattle.std.proofs.lemmas.Iterator.{YieldsList-from_range}
use Rattle.std.proofs.lemmas.Iterator.Search.{all_from_yields_List}
use Rattle.stack.specs.Bytes.{source_within, within_limits}
use Rattle.stack.proofs.RangeLaws.{all-range}
use Rattle.stack.proofs.within_limits.Goals as goal

pub returns : goal.returns
unfolding within_limits
returns c =
    let t = c.args.t in
    ap (λ (b : Bool). leb t.mark 65535 && b)
    (all_from_yields_List (source_within t) c.all.new.self _ c.all.result c.all.ensures.ran (YieldsList-from_range 0 32 32 refl refl) (λ x b q k. search (rules, tests))
    ∙ all-range (source_within t) 32)
