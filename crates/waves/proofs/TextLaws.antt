-- Declarations one after the other.
use Prim.Native.Nat.{ℕ, ◌+◌}
use mathlib.Core.Path.{◌≡◌, sym, ap, ◌∙◌}
use mathlib.Core.List.{List, [], ◌∷◌, append-nil}
use Rattle.text.specs.Text.{write}
use Rattle.text.proofs.WriteLaws.{and_then}
use Rattle.vcd.specs.Dump.{Signal, declaration, declarations}

pub last-declared : (o : List ℕ × ℕ) {p : List ℕ × ℕ} (k : ℕ) (d : Signal) → p ≡ write o (declaration k d) → p ≡ write o (declarations k (d ∷ []))
unfolding declarations
last-declared o k d e = e ∙ ap (write o) (sym (append-nil (declaration k d)))

pub more-declared : (o : List ℕ × ℕ) {p q : List ℕ × ℕ} (k : ℕ) (d : Signal) (ds : List Signal) → p ≡ write o (declaration k d)
    → q ≡ write p (declarations (k + 1) ds) → q ≡ write o (declarations k (d ∷ ds))
unfolding declarations
more-declared o k d ds e f = and_then o (declaration k d) (declarations (k + 1) ds) e f
