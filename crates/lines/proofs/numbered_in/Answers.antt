-- That `numbered_in` of src/lib.rt keeps its contract.
use native.Mathlib.Omega.{arith}
use Rattle.lines.proofs.BehindLaws.{numbered}
use Rattle.lines.proofs.numbered_in.Goals as goal

pub returns : goal.returns
returns c =
    numbered _ _ _ _ _ _ _ _ _ (omega (arith, c.requires.0)) c.requires.1 c.word_in.ensures.0 c.behind_in.ensures
