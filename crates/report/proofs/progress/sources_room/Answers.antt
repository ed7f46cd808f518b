-- That `sources_room` of src/progress.rt keeps its contract.
use Prim.Native.Nat.{ℕ}
use mathlib.Core.Path.{◌≡◌, sym}
use lib.ListN.{length, replicate, length-replicate}
use Rattle.report.proofs.SizeLaws.{length_sources}
use Rattle.report.proofs.progress.sources_room.Goals as goal

pub returns : goal.returns
returns c = let long : 4384 ≡ length {A = ℕ} (replicate 4384 0) = sym (length-replicate {0} {A = ℕ} 4384 0) in
    record { value = long; any = λ t w. rw (sym long) (length_sources t w) }
