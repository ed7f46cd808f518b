-- The promises of a table that is kept, kept.
use mathlib.Core.Path.{refl}
use Rattle.aic_record.specs.Record.{reset}
use Rattle.aic_record.proofs.Promises as Record
use Rattle.stack.specs.KeptPromises.{Promises, Bare}
use Rattle.stack.proofs.KeptLaws.{keeps-is, unkept-is, unkept-none, along-is, reset-keeps, set_keeps, part-keeps}
use Rattle.stack.proofs.RunLaws.{levels-kept, never-more-kept, never-more_next}
use Rattle.stack.proofs.KeptWorked.{worked}
use Prim.Native.Nat.{ℕ}

reset-bare : (external lines : ℕ) → Bare (reset external lines)
unfolding reset
reset-bare external lines = (refl, refl)

pub kept : Promises
kept =
    record {
      keeps_is = keeps-is;
      unkept_is = unkept-is;
      unkept_none = unkept-none;
      along_is = along-is;
      reset_keeps = reset-keeps;
      set_keeps = set_keeps;
      levels_kept = levels-kept;
      never_more_kept = never-more-kept;
      never_more_next = never-more_next;
      never_more_reset = λ t external lines xs ys q.
          never-more-kept t (reset external lines) xs ((Record.kept).reset_shaped external lines) (reset-bare external lines)
          (part-keeps t (reset external lines) xs ys q);
      never_more_set = λ t s xs h b q. never-more-kept t s xs h (b.none, b.remembered) (set_keeps t s xs b q);
      shifted_keeps = worked.shifts;
      raised_passes = worked.raises;
      raised_told = worked.tells;
    }
