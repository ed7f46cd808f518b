-- That `together` of src/waits.rt keeps its contract.
use Prim.Native.Nat.{ℕ}
use mathlib.Core.Path.{ap, ◌∙◌}
use Rattle.words.specs.Word.{bit}
use Rattle.words.proofs.WordLaws.{bit-word_of}
use Rattle.totals.specs.Waits.{newly, together}
use Rattle.totals.proofs.WaitLaws.{fits}
use Rattle.totals.proofs.waits.together.Goals as goal

pub sums-requires : goal.sums-requires
sums-requires c = (fits _ _ c.requires).0

pub sums-requires-2 : goal.sums-requires-2
sums-requires-2 c = (fits _ _ c.requires).1

pub sums-requires-3 : goal.sums-requires-3
sums-requires-3 c = (fits _ _ c.requires).2

pub returns : goal.returns
unfolding together
returns c =
    let a = c.args in
    rw (
      c.sums.ensures,
      c.sums-2.ensures,
      c.sums-3.ensures,
      c.chosen.ensures (newly a.a a.b) (λ i l. ap (λ (v : ℕ). bit v i) c.newly.ensures ∙ bit-word_of 32 (newly a.a a.b) i l),
      c.terms_of.ensures,
    )
