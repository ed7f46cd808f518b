-- The words that begin a statement, and what each stands for in a trace (docs/TEXT.md; 01, "House trace").
use Rattle.std.specs.Prelude.{ℕ, Bool, true, false, ◌&&◌, List, [], ◌∷◌, eqb}
use Rattle.words.specs.Choice.{pick}
use Rattle.text.specs.Phrases.{bytes}
use Rattle.kinds.specs.Kinds.{aic_kind, core_kind, cic_kind, aintc_kind, indexed_kind}
use Rattle.trace.specs.Steps.{read_kind, write_kind, line_kind}

-- the two words are the same, character by character
unfoldable pub same : List ℕ → List ℕ → Bool
same [] [] = true
same [] (y ∷ ys) = false
same (x ∷ xs) [] = false
same (x ∷ xs) (y ∷ ys) = eqb x y && same xs ys

-- no kind: what a text has before its controller is named
abbrev pub no_kind : ℕ
no_kind = 5

-- the kind of controller that a word names
unfoldable pub kind_of : List ℕ → ℕ
kind_of w =
    pick (same w (bytes "aic")) aic_kind
    (pick (same w (bytes "coreinterrupt")) core_kind
    (pick (same w (bytes "cic")) cic_kind
    (pick (same w (bytes "aintc")) aintc_kind
    (pick (same w (bytes "indexed")) indexed_kind
    no_kind))))

-- no step
abbrev pub no_step : ℕ
no_step = 0

-- the kind of step that a word names
unfoldable pub step_of : List ℕ → ℕ
step_of w = pick (same w (bytes "read")) read_kind (pick (same w (bytes "write")) write_kind (pick (same w (bytes "line")) line_kind no_step))
