-- The line that is written where there is no picture.
use Rattle.std.specs.Prelude.{ℕ, List, [], ◌∷◌, ◌++◌}
use Rattle.text.specs.Text.{field, newline}
use Rattle.text.specs.Phrases.{bytes, counted}

-- the trace has no beginning, its controller is none with entries, the window is wrong
unfoldable pub no_beginning : ℕ → ℕ → List ℕ
no_beginning refusal offset = bytes "no picture: the trace has no beginning, E" ++ field refusal ++ field offset ++ (newline ∷ [])

unfoldable pub no_entries : List ℕ
no_entries = bytes "no picture: the trace is not of an AIC, and no other controller has entries\n"

unfoldable pub wrong_window : ℕ → List ℕ
wrong_window played = counted (bytes "no picture: a window has 1 to 500 steps and begins with a step that is played, steps played ") played ++ (newline ∷ [])
