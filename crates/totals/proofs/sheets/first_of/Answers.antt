-- That `first_of` of src/sheets.rt keeps its contract.
use Prim.Native.Nat.{ℕ}
use mathlib.Core.Path.{ap, ◌∙◌}
use lib.ListN.{replicate}
use Rattle.words.specs.Word.{bit}
use Rattle.words.proofs.WordLaws.{bit-word_of}
use Rattle.totals.specs.Waits.{newly, chosen}
use Rattle.totals.specs.Sheet.{first_of}
use Rattle.totals.proofs.sheets.first_of.Goals as goal

pub returns : goal.returns
unfolding first_of
returns c =
    let a = c.args in
    let p = newly a.s.waits a.t.waits in
    c.chosen.ensures p (λ i l. ap (λ (v : ℕ). bit v i) c.newly-lost.ensures ∙ bit-word_of 32 p i l)
    ∙ ap (λ (m : ℕ). chosen p a.s.trace (replicate 32 m)) c.more-this.ensures
