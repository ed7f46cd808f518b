-- That `search` of src/indices.rt keeps its contract.
use Rattle.cic_held.proofs.SearchLaws.{some_told, none_told, word_lowest, found_word, word_none, found_no_word}
use Rattle.cic_held.specs.Search.{lit}
use Rattle.words.specs.Counting.{lowest_below}
use Rattle.words.specs.Word.{kept}
use mathlib.Core.Path.{refl, ap, ◌∙◌}
use native.Mathlib.Omega.{arith}
use Prim.Native.Nat.{ℕ, ◌*◌, ◌-◌}
use Rattle.cic_held.proofs.indices.search.Goals as goal

pub loop-j-init : goal.loop-j-init
loop-j-init c = λ s l. absurd (omega (arith, l))

pub first_of-requires : goal.first_of-requires
first_of-requires c = omega (arith, c.loop-j-test.true, c.div_ceil-count.ensures, c.requires)

pub overflow_add-result : goal.overflow_add-result
overflow_add-result c =
    let t = some_told 32 _ c.in-Some.i c.in-Some.is c.first_of.ensures in
    omega (arith, t.0, t.1, c.loop-j-test.true, c.div_ceil-count.ensures, c.requires)

pub returns-in-Some : goal.returns-in-Some
returns-in-Some c =
    let l = c.loop-j in
    let a = c.args in
    let i = c.in-Some.i in
    let t = some_told 32 _ i c.in-Some.is c.first_of.ensures in
    let low =
    word_lowest a.systems a.status.now a.enable.now a.channel.now a.k l.j (32 * l.j) c.keep-w.result {r = i} refl
    (c.keep-w.ensures ∙ ap (λ (x : ℕ). kept (a.systems - 32 * l.j) x) c.meet.ensures) t.1
    in
    found_word a.systems a.status.now a.enable.now a.channel.now a.k l.j i low (omega (arith, t.0, t.1)) l.invariant

pub loop-j-preserved : goal.loop-j-preserved
loop-j-preserved c =
    let l = c.loop-j in
    let a = c.args in
    let r = lowest_below 32 (lit a.channel.now (32 * l.j) c.keep-w.result a.k) in
    let low =
    word_lowest a.systems a.status.now a.enable.now a.channel.now a.k l.j (32 * l.j) c.keep-w.result {r = r} refl
    (c.keep-w.ensures ∙ ap (λ (x : ℕ). kept (a.systems - 32 * l.j) x) c.meet.ensures) refl
    in
    word_none a.systems a.status.now a.enable.now a.channel.now a.k l.j r low (none_told 32 r c.in_default.is c.first_of.ensures) l.invariant

pub returns : goal.returns
returns c =
    let a = c.args in
    found_no_word a.systems a.status.now a.enable.now a.channel.now a.k c.div_ceil-count.result (omega (arith, c.div_ceil-count.ensures)) (omega (arith, c.div_ceil-count.ensures))
    (λ s b m. c.loop-j.invariant s (omega (arith, b, c.loop-j-test.false)) m)
