-- That `put_stayed` of src/lib.rt keeps its contract.
use Rattle.drawing.specs.Bars.{stayed}
use Rattle.drawing.specs.Drawing.{bar_texts}
use Rattle.text.specs.Text.{write}
use mathlib.Core.Path.{◌≡◌}
use Prim.Native.Nat.{◌≤◌}
use Rattle.drawing.proofs.put_stayed.Given as goal

abbrev pub invariant-loop-place : goal.invariant-loop-place
invariant-loop-place l = (l.place ≤ l.n) × ((l.out, l.next) ≡ write (l.initial.out, l.at) (bar_texts (stayed l.place l.ws l.source l.level)))
