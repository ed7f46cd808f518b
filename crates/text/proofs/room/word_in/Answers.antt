-- That `word_in` of src/room.rt keeps its contract.
use mathlib.Core.Path.{ap, ◌∙◌}
use native.Mathlib.Omega.{arith}
use Rattle.text.specs.Text.{write}
use Rattle.text.proofs.WriteLaws.{eight-bytes, same_length as same_len}
use Rattle.text.proofs.DigitsLaws.{bytes-row}
use Rattle.text.proofs.room.word_in.Goals as goal

pub returns : goal.returns
returns c =
    let w =
    eight-bytes _ _ _ _ _ _ _ _ _ c.put_in-a.ensures.0 c.put_in-b.ensures.0 c.put_in-c.ensures.0 c.put_in-d.ensures.0 c.put_in-e.ensures.0 c.put_in-f.ensures.0 c.put_in-g.ensures.0 c.put_in.ensures.0
    ∙ ap (write _) (bytes-row _) in
    (w, (omega (arith, c.put_in-a.ensures.1, c.put_in-b.ensures.1, c.put_in-c.ensures.1, c.put_in-d.ensures.1, c.put_in-e.ensures.1, c.put_in-f.ensures.1, c.put_in-g.ensures.1, c.put_in.ensures.1), same_len _ _ _ w))
