-- That `totals_in` of src/lib.rt keeps its contract.
use Rattle.aic_figures.proofs.KeptLaws.{figures-told}
use Rattle.aic_figures.proofs.totals_in.Goals as goal

pub returns : goal.returns
returns c =
    let a = c.args in
    let p = c.settle_all in
    let i = c.words_from in
    let j = c.words_from-2 in
    let k = c.words_from-3 in
    let x = i.ensures in
    let y = j.ensures in
    let z = k.ensures in
    λ f s n h.
    let t = figures-told f s n a.book.now p.new.book h (p.ensures h.size) i.result j.result k.result x.0 y.0 z.0 x.1 y.1 z.1 in
    rw (t.0, t.1, t.2)
