-- A typed text: its white space, its comments, and where its numbers stand. 02 fixes no such text; it is the program's own (docs/STACK.md).
use Rattle.std.specs.Prelude.{ℕ, zero, suc, ◌+◌, ◌-◌, Bool, false, not, ◌&&◌, ◌||◌, List, [], ◌∷◌, eqb, length, get_or, take, drop}
use Rattle.words.specs.Choice.{pick}
use Rattle.words.specs.Counting.{lowest_below}

-- ---- white space and comments

-- a space, a tab, a carriage return or a line feed
unfoldable pub white : ℕ → Bool
white b = eqb b 32 || eqb b 9 || eqb b 13 || eqb b 10

-- b belongs to a comment: to one that goes on here, or to the one that # begins
abbrev pub covered : Bool → ℕ → Bool
covered inside b = inside || eqb b 35

-- the text with each byte of a comment made a space; a comment ends with its line feed, or with the text
unfoldable pub bare_from : Bool → List ℕ → List ℕ
bare_from inside [] = []
bare_from inside (b ∷ bs) = pick (covered inside b) 32 b ∷ bare_from (covered inside b && not (eqb b 10)) bs

-- and so from its start on, where no comment goes on
abbrev pub bare : List ℕ → List ℕ
bare s = bare_from false s

-- ---- the numbers of a text without comments: each stands between white space, or between that and an end of the text

-- from an offset on, the first byte that is not white, or that is; the length of the text where there is none
unfoldable pub start_from : List ℕ → ℕ → ℕ
start_from s at = at + lowest_below (length s - at) (λ k. not (white (get_or s (at + k) 0)))

unfoldable pub end_from : List ℕ → ℕ → ℕ
end_from s at = at + lowest_below (length s - at) (λ k. white (get_or s (at + k) 0))

-- the offset behind the first n numbers
unfoldable pub past_nth : List ℕ → ℕ → ℕ
past_nth s zero = 0
past_nth s (suc n) = end_from s (start_from s (past_nth s n))

-- the offset at which the nth number begins, counted from 0; the length of the text where it is missing
unfoldable pub nth_start : List ℕ → ℕ → ℕ
nth_start s n = start_from s (past_nth s n)

-- its characters, none where it is missing
unfoldable pub nth_typed : List ℕ → ℕ → List ℕ
nth_typed s n = take (past_nth s (suc n) - nth_start s n) (drop (nth_start s n) s)
