-- That `search_word` of src/choice.rt keeps its contract.
use Prim.Native.Nat.{ℕ, ◌-◌, ◌^◌, ◌<◌}
use mathlib.Core.Path.{refl, sym, ap₂, subst, ◌∙◌}
use mathlib.Core.Bool.{false}
use native.Mathlib.Omega.{arith}
use mir.Syntax.{w32}
use mir.Val.{Fits}
use Rattle.words.specs.Counting.{lowest_below}
use Rattle.words.specs.Word.{bit}
use Rattle.words.proofs.HopLaws.{lowest_in, hop_less}
use Rattle.words.proofs.WordLaws.{with_bit_lt}
use Rattle.aintc_registers.specs.declared.choice.Best.{Best}
use Rattle.aintc_registers.specs.Search.{word_searched}
use Rattle.aintc_registers.proofs.SearchLaws.{word_none, word-hop}
use borrow.Author.Rules.{rules}
use Rattle.aintc_registers.proofs.choice.search_word.Goals as goal

pub loop-left-init : goal.loop-left-init
loop-left-init c = let f : Fits w32 c.args.w = search rules in (f.fits, refl)

pub overflow_add-k : goal.overflow_add-k
overflow_add-k c = omega (arith, c.requires, (lowest_in _ _ c.loop-left.invariant.0 c.loop-left-test.true c.lowest-i.ensures).0)

pub overflow_cast-at : goal.overflow_cast-at
overflow_cast-at c = search rules

pub bounds-routes-at : goal.bounds-routes-at
bounds-routes-at c = omega (arith, c.requires, (lowest_in _ _ c.loop-left.invariant.0 c.loop-left-test.true c.lowest-i.ensures).0)

pub loop-left-smaller : goal.loop-left-smaller
loop-left-smaller c =
    let l = c.loop-left in
    let i = c.lowest-i in
    subst (λ (x : ℕ). 32 - lowest_below 32 (bit x) < 32 - lowest_below 32 (bit l.left)) (sym c.with_bit-left.ensures)
    (hop_less l.left i.result l.invariant.0 c.loop-left-test.true i.ensures)

pub loop-left-preserved : goal.loop-left-preserved
loop-left-preserved c =
    let a = c.args in
    let l = c.loop-left in
    let i = c.lowest-i in
    let m = lowest_in l.left i.result l.invariant.0 c.loop-left-test.true i.ensures in (
      subst (λ (x : ℕ). x < 2 ^ 32) (sym c.with_bit-left.ensures) (with_bit_lt l.left i.result false),
      ap₂ (λ (x : ℕ) (y : Best). word_searched x a.base a.routes.now a.side y) c.with_bit-left.ensures c.turn-best.ensures
          ∙ word-hop l.left a.base a.routes.now a.side l.best i.result i.ensures m.0 m.1 ∙ l.invariant.1,
    )

pub returns : goal.returns
returns c = word_none _ _ _ _ _ c.loop-left-test.false ∙ c.loop-left.invariant.1
