-- That `sum_up` of src/sheets.rt keeps its contract.
use Prim.Native.Nat.{ℕ}
use mathlib.Core.Path.{sym, ap, ap₂, ◌∙◌}
use mathlib.Core.Bool.{not, ◌||◌}
use lib.Dec.{eqb}
use Rattle.words.proofs.ChoiceLaws.{by-true, by-false}
use Rattle.words.proofs.TruthLaws.{or_neither}
use Rattle.totals.specs.declared.Added.{Added as Summed}
use Rattle.totals.specs.declared.waits.Added.{Added as Bounded}
use Rattle.totals.specs.declared.sheets.Sheet.{Sheet}
use Rattle.totals.specs.Sheet.{counted, together, summed}
use Rattle.totals.proofs.SheetLaws.{passes-by}
use Rattle.totals.proofs.sheets.sum_up.Goals as goal

pub returns-then-numbers_pass-f : goal.returns-then-numbers_pass-f
unfolding summed
returns-then-numbers_pass-f c =
    let s = c.args.s in
    ap (λ (x : Sheet). record { refusal = 16; sheet = x }) (c.counted.ensures ∙ ap (λ (m : ℕ). counted s m s.unopened s.unkept) c.more.ensures)
    ∙ by-true _ (passes-by s c.args.t _ _ _ c.numbers_pass.ensures c.add-f.ensures c.add-w.ensures) c.if-numbers_pass-f.true

pub together-requires : goal.together-requires
together-requires c =
    sym c.numbers_pass.ensures
    ∙ (or_neither c.numbers_pass.result (not (eqb c.add-f.result.refusal 0))
    (or_neither (c.numbers_pass.result || not (eqb c.add-f.result.refusal 0)) (not (eqb c.add-w.result.refusal 0)) c.if-numbers_pass-f.false).0).0

pub returns : goal.returns
unfolding summed
returns c =
    let a = c.args in
    ap (λ (x : Sheet). record { refusal = 0; sheet = x })
    (c.together.ensures ∙ ap₂ (λ (f : Summed) (v : Bounded). together a.s a.t f.totals v.waits) c.add-f.ensures c.add-w.ensures)
    ∙ by-false _ (passes-by a.s a.t _ _ _ c.numbers_pass.ensures c.add-f.ensures c.add-w.ensures) c.if-numbers_pass-f.false
