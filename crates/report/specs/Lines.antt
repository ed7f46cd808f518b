-- Where a line of names ends, at its line feed, which the last one may lack, and where the name in it does (02, 11/12: "one to a line").
use Rattle.std.specs.Prelude.{ℕ, zero, suc, ◌+◌, ◌-◌, ◌&&◌, List, eqb, ltb, get_or, length}
use Rattle.words.specs.Choice.{pick}
use Rattle.words.specs.Counting.{count_below}
use Rattle.text.specs.Text.{newline}

-- the first line feed from `at` on, where n bytes are left, or the end
unfoldable pub line_from : ℕ → List ℕ → ℕ → ℕ
line_from zero s at = at
line_from (suc n) s at = pick (eqb (get_or s at 0) newline) at (line_from n s (at + 1))

unfoldable pub line_end : List ℕ → ℕ → ℕ
line_end s at = line_from (length s - at) s at

-- the byte that some put before each line feed
abbrev pub carriage_return : ℕ
carriage_return = 13

-- where the name ends that begins at `at`, its line feed standing at e: one carriage return before that is no part of it
unfoldable pub name_end : List ℕ → ℕ → ℕ → ℕ
name_end s at e = pick (ltb at e && eqb (get_or s (e - 1) 0) carriage_return) (e - 1) e

-- how many line feeds stand before a place: so many names end there
unfoldable pub feeds_before : List ℕ → ℕ → ℕ
feeds_before s at = count_below at (λ k. eqb (get_or s k 0) newline)
