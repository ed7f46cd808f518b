-- That `short_in` of src/lib.rt keeps its contract.
use mathlib.Core.Path.{ap, ◌∙◌}
use native.Mathlib.Omega.{arith}
use Rattle.text.specs.Text.{write}
use Rattle.text.proofs.WriteLaws.{and_then}
use Rattle.lines.proofs.BehindLaws.{few, short-bytes}
use Rattle.lines.proofs.short_in.Goals as goal

pub middle-requires : goal.middle-requires
middle-requires c =
    let a = c.args.c in
    let f = few a.first a.second a.third c.requires.1 in
    (omega (arith, f.0), omega (arith, f.1))

pub overflow_add-c : goal.overflow_add-c
overflow_add-c c =
    let a = c.args.c in
    record { fits = omega (arith, (few a.first a.second a.third c.requires.1).2) }

pub overflow_cast-c : goal.overflow_cast-c
overflow_cast-c c =
    let a = c.args.c in
    record { fits = omega (arith, (few a.first a.second a.third c.requires.1).2) }

pub returns : goal.returns
returns c =
    let a = c.args.c in
    let k = few a.first a.second a.third c.requires.1 in
    and_then _ _ _ (and_then _ _ _ (and_then _ _ _ (c.word_in-a.ensures.0 ∙ ap (write _) c.opening.ensures) (c.word_in-b.ensures.0 ∙ ap (write _) c.middle.ensures)) c.put_in-d.ensures.0) c.put_in.ensures.0
    ∙ ap (write _) (short-bytes _ _ _ _ c.digits-w.ensures (omega (arith, k.0)) (omega (arith, k.1)) (omega (arith, k.2)))
