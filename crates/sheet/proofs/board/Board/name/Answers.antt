-- That `name` of src/board.rt keeps its contract.
use Rattle.std.proofs.Common.{◌≡◌, ◌+◌, ◌-◌, ◌*◌, min, get_or, arith, refl}
use Rattle.sheet.specs.Names.{name_of}
use mathlib.Core.Path.{◌∙◌}
use Rattle.sheet.proofs.board.Board.name.Goals as goal

pub returns-clause-some : goal.returns-clause-some
unfolding name_of
returns-clause-some c =
    let e : 24 * c.args.i + c.min.result - 24 * c.args.i ≡ min (get_or c.args.self.now.lengths c.args.i 0) 24 = rw (← c.word_at-k.ensures, ← c.min.ensures) (omega arith) in
    (λ z. c.if-k-eq0.false (c.word_at-k.ensures ∙ z), rw e refl)
