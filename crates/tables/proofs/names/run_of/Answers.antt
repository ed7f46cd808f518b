-- That `run_of` of src/names.rt keeps its contract.
use Rattle.tables.proofs.NameLaws.{run_is, run_more, not-name}
use borrow.Author.Rules.{rules}
use mathlib.Core.Path.{ap}
use mathlib.Core.Bool.{not}
use Rattle.tables.proofs.names.run_of.Goals as goal

pub loop-k-init : goal.loop-k-init
loop-k-init c = (search rules, λ j l. absurd (search rules))

pub returns-then-not-is_name_byte : goal.returns-then-not-is_name_byte
returns-then-not-is_name_byte c =
    let l = c.loop-k in
    let a = c.args in
    run_is a.text.now a.at l.k l.invariant.0 l.invariant.1 (λ m. not-name a.text.now a.at l.k _ _ _ c.byte_or.ensures c.is_name_byte.ensures (ap not c.if-not-is_name_byte.true))

pub loop-k-preserved : goal.loop-k-preserved
loop-k-preserved c =
    let l = c.loop-k in
    let a = c.args in
    (search rules, run_more a.text.now a.at l.k l.invariant.1 (not-name a.text.now a.at l.k _ _ _ c.byte_or.ensures c.is_name_byte.ensures (ap not c.if-not-is_name_byte.false)))

pub returns : goal.returns
returns c =
    let l = c.loop-k in
    let a = c.args in
    run_is a.text.now a.at 25 (search rules) (λ j m. l.invariant.1 j (search rules)) (λ m. absurd (search rules))
