-- That `write_mode` of src/effects.rt keeps its contract.
use mathlib.Core.Path.{ap, sym, ◌∙◌}
use mathlib.Core.Bool.{false, not}
use Prim.Native.Nat.{ℕ}
use lib.Dec.{eqb}
use lib.ListN.{set}
use Rattle.words.specs.Choice.{pick}
use Rattle.words.specs.Word.{with_bit}
use Rattle.aic_record.specs.Mode.{type_of, kind}
use Rattle.aic_record.specs.Record.{with_memory, with_mode}
use Rattle.aic.proofs.HandlerLaws.{moded-is}
use Rattle.aic_room.proofs.CellLaws.{laid_as, put_memory}
use Rattle.aic_room.proofs.LevelLaws.{laid-stale}
use Rattle.aic_room.proofs.effects.write_mode.Goals as goal

pub returns : goal.returns
returns c =
    let s = c.args in
    λ a h. laid_as
    (ap (λ (n : ℕ). with_mode (with_memory a (pick (not (eqb (kind a s.k) (type_of s.v))) (with_bit a.memory s.k false) a.memory)) (set a.mode s.k n)) c.kept_of.ensures ∙ sym (moded-is a s.k s.v))
    (c.renew.ensures _ (c.put_mode.ensures _ (put_memory (laid-stale h) (c.forget_other_type-memory.ensures a h))))
