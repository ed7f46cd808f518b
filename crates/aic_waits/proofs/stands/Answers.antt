-- That `stands` of src/lib.rt keeps its contract.
use mathlib.Core.Path.{ap, ◌∙◌}
use Prim.Native.Nat.{ℕ}
use Rattle.aic_waits.specs.Following.{stands_by}
use Rattle.aic_waits.proofs.TellLaws.{stands_from}
use Rattle.aic_waits.proofs.stands.Goals as goal

pub returns : goal.returns
returns c =
    stands_from c.args.t c.args.w c.args.i _ _ c.requires c.waiting_word.ensures c.has-waits.ensures c.wait_next.ensures
    ∙ ap (λ (n : ℕ). stands_by n c.args.t c.args.w c.args.i) c.started_from-by.ensures
