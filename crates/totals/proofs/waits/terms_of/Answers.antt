-- That `terms_of` of src/waits.rt keeps its contract.
use Prim.Native.Nat.{ℕ, ◌<◌}
use mathlib.Core.Path.{◌≡◌, ap, ◌∙◌}
use Rattle.words.specs.Word.{bit}
use Rattle.words.proofs.WordLaws.{bit-word_of}
use Rattle.totals.specs.Waits.{larger}
use Rattle.totals.proofs.waits.terms_of.Goals as goal

pub returns : goal.returns
returns c =
    let p = larger c.args.a c.args.b in
    let e : (i : ℕ) → i < 32 → bit c.larger_word-more.result i ≡ p i = λ i l. ap (λ (v : ℕ). bit v i) c.larger_word-more.ensures ∙ bit-word_of 32 p i l in
    rw (c.chosen.ensures p e, c.chosen-2.ensures p e, c.chosen-3.ensures p e, c.chosen-4.ensures p e, c.chosen-5.ensures p e, c.chosen-6.ensures p e)
