-- The lines of the sources, one after the other.
use Prim.Native.Nat.{ℕ, ◌+◌}
use mathlib.Core.Path.{◌≡◌, sym, ap, ◌∙◌}
use mathlib.Core.List.{List}
use native.Mathlib.Numerals.{add-one}
use lib.ListN.{get_or}
use Rattle.text.specs.Text.{write}
use Rattle.text.proofs.WriteLaws.{and_then, nothing}
use Rattle.totals.specs.declared.Totals.{Totals}
use Rattle.report.specs.Printed.{source_line, source_lines}

pub lines_none : (o : List ℕ × ℕ) (t : Totals) → o ≡ write o (source_lines 0 t)
unfolding source_lines
lines_none o t = nothing o

pub lines_more : (o p q : List ℕ × ℕ) (t : Totals) (i : ℕ) → p ≡ write o (source_lines i t)
    → q ≡ write p (source_line i (get_or t.started i 0) (get_or t.waited i 0) (get_or t.entries i 0)) → q ≡ write o (source_lines (i + 1) t)
unfolding source_lines
lines_more o p q t i e f = and_then o (source_lines i t) (source_line i (get_or t.started i 0) (get_or t.waited i 0) (get_or t.entries i 0)) e f ∙ ap (λ (n : ℕ). write o (source_lines n t)) (sym (add-one i))
