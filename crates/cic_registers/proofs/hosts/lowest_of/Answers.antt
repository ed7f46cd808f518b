-- That `lowest_of` of src/hosts.rt keeps its contract.
use Rattle.words.proofs.ArrayLaws.{lowest_word, lowest_nowhere}
use Rattle.words.proofs.CountingLaws.{lowest_found}
use Rattle.words.specs.Word.{bit}
use borrow.Author.Count.{below_more, below_none}
use lib.ListN.{get_or}
use mir.Syntax.{w32}
use mir.Val.{Fits}
use mathlib.Core.Path.{ap, ◌∙◌}
use native.Mathlib.Omega.{arith}
use Prim.Native.Nat.{ℕ, ◌*◌, ◌+◌}
use borrow.Author.Rules.{rules}
use Rattle.cic_registers.proofs.hosts.lowest_of.Goals as goal

pub loop-k-init : goal.loop-k-init
loop-k-init c = (omega arith, below_none _)

pub overflow_add-result : goal.overflow_add-result
overflow_add-result c =
    let l = c.loop-k in
    let low = lowest_found 32 (bit (get_or c.args.ws l.k 0)) in
    omega (arith, c.lowest.ensures, low.within)

pub returns-then-w-ne0 : goal.returns-then-w-ne0
returns-then-w-ne0 c =
    let l = c.loop-k in
    let ws = c.args.ws in
    let f : Fits w32 (get_or ws l.k 0) = search rules in
    ap (λ (n : ℕ). 32 * l.k + n) c.lowest.ensures ∙ lowest_word ws 8 l.k (omega arith) f.fits c.if-w-ne0.true l.invariant.1

pub loop-k-preserved : goal.loop-k-preserved
loop-k-preserved c = (omega arith, below_more _ _ c.loop-k.invariant.1 c.if-w-ne0.false)

pub returns : goal.returns
returns c = lowest_nowhere c.args.ws 8 (λ i l. c.loop-k.invariant.1 i (omega arith))
