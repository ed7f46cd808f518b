-- That `any_at` of src/lib.rt keeps its contract.
use Rattle.numbers.proofs.NumberLaws.{sized, missing, refused, faultless, read}
use native.Mathlib.Omega.{arith}
use mathlib.Core.Path.{sym, ◌∙◌}
use borrow.Author.Rules.{rules}
use Rattle.numbers.proofs.any_at.Goals as goal

pub returns-then-trace-at : goal.returns-then-trace-at
returns-then-trace-at c = missing _ _ c.if-trace-at.true

pub worth_at-v-requires : goal.worth_at-v-requires
worth_at-v-requires c = (search rules, rw c.size_at-n.ensures (sized _ _).most)

pub is_faulty-requires : goal.is_faulty-requires
is_faulty-requires c = (search rules, rw c.size_at-n.ensures (sized _ _).most)

pub returns-then-is_faulty : goal.returns-then-is_faulty
returns-then-is_faulty c =
    refused _ _ _ _ (c.size_at-n.ensures, c.worth_at-v.ensures) (sym c.is_faulty.ensures ∙ c.if-is_faulty.true)

pub overflow_cast-result : goal.overflow_cast-result
overflow_cast-result c =
    omega (arith, (faultless _ _ _ _ (sym c.is_faulty.ensures ∙ c.if-is_faulty.false)).fits)

pub overflow_add-result : goal.overflow_add-result
overflow_add-result c =
    omega (arith, (faultless _ _ _ _ (sym c.is_faulty.ensures ∙ c.if-is_faulty.false)).within)

pub returns : goal.returns
returns c =
    read _ _ _ _ (c.size_at-n.ensures, c.worth_at-v.ensures) (sym c.is_faulty.ensures ∙ c.if-is_faulty.false)
