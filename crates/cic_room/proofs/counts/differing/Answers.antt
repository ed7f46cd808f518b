-- That `differing` of src/counts.rt keeps its contract.
use mathlib.Core.Path.{ap₂, ◌∙◌}
use Prim.Native.Nat.{ℕ}
use Rattle.words.specs.Word.{either}
use mir.Syntax.{w32}
use mir.Val.{Fits}
use borrow.Author.Rules.{rules}
use Rattle.cic_room.proofs.counts.differing.Goals as goal

pub returns : goal.returns
returns c =
    let f : Fits w32 c.args.a = search rules in
    let g : Fits w32 c.args.b = search rules in
    (c.join.ensures ∙ ap₂ (λ (x y : ℕ). either x y) c.drop_bits.ensures c.drop_bits-2.ensures, (f.fits, g.fits))
