-- That `search` of src/choice.rt keeps its contract.
use Prim.Native.Nat.{ℕ, ◌*◌}
use mathlib.Core.Path.{ap₂, ◌∙◌}
use native.Mathlib.Omega.{arith}
use Rattle.words.proofs.CountingLaws.{upto-none, upto-more, upto_done}
use Rattle.aintc_registers.specs.Search.{word_searched, searched}
use Rattle.aintc_registers.proofs.SearchLaws.{byte-one}
use Rattle.aintc_registers.proofs.choice.search.Goals as goal

pub loop-n-init : goal.loop-n-init
loop-n-init c = (omega arith, rw c.saturating_sub.ensures (upto-none _ _))

pub search_word-best-requires : goal.search_word-best-requires
search_word-best-requires c = omega (arith, c.loop-n-test.true)

pub loop-n-preserved : goal.loop-n-preserved
loop-n-preserved c =
    let l = c.loop-n in
    let a = c.args in
    (omega arith, upto-more _ _ _ l.invariant.1 (c.search_word-best.ensures ∙ ap₂ (λ (w q : ℕ). word_searched w (32 * l.n) a.s.routes q l.best) c.open_word.ensures (c.from-side.ensures ∙ byte-one a.fast)))

pub returns : goal.returns
unfolding searched
returns c = upto_done _ _ _ 4 c.loop-n.invariant.0 c.loop-n-test.false c.loop-n.invariant.1
