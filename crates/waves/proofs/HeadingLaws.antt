-- The declarations of every kind, and then those of one.
use Prim.Native.Nat.{ℕ}
use mathlib.Core.Path.{◌≡◌, ap, ◌∙◌}
use mathlib.Core.List.{List, ◌++◌, append_assoc}
use Rattle.text.specs.Text.{write}
use Rattle.text.proofs.WriteLaws.{and_then}
use Rattle.vcd.specs.Dump.{declarations}
use Rattle.waves.specs.Signals.{Row, of_every, own_rows, rows, declared_of, signals}

both-declared : (kind : ℕ) → declarations 0 (declared_of of_every) ++ declarations 3 (declared_of (own_rows kind)) ≡ declarations 0 (signals kind)
unfolding declarations signals rows
both-declared kind = simp append_assoc

-- those of every kind, and then those of one
pub all-declared : (o : List ℕ × ℕ) {p q : List ℕ × ℕ} (kind : ℕ) → p ≡ write o (declarations 0 (declared_of of_every))
    → q ≡ write p (declarations 3 (declared_of (own_rows kind))) → q ≡ write o (declarations 0 (signals kind))
all-declared o kind e f = and_then o _ _ e f ∙ ap (write o) (both-declared kind)

-- a table that is known under another form
pub declared_as : (o q : List ℕ × ℕ) (rs rs' : List Row) → rs ≡ rs' → q ≡ write o (declarations 3 (declared_of rs)) → q ≡ write o (declarations 3 (declared_of rs'))
declared_as o q rs rs' e f = f ∙ ap (λ (l : List Row). write o (declarations 3 (declared_of l))) e
