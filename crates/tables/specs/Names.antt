-- Names of sources: behind the three numbers of a source a name in double quotes may stand, and nowhere else (docs/STACK.md).
use Rattle.std.specs.Prelude.{ℕ, zero, suc, ◌+◌, ◌*◌, Bool, not, ◌&&◌, ◌||◌, List, eqb, leb, get_or, set}
use Rattle.words.specs.Choice.{pick}
use Rattle.words.specs.Counting.{lowest_below}
use Rattle.tables.specs.declared.names.Place.{Place}
use Rattle.tables.specs.Typed.{white, bare, nth_start}

-- ---- one name

-- a byte of a name: printable ASCII, but neither the quote nor the three that a page takes for its own, & < and >
unfoldable pub name_byte : ℕ → Bool
name_byte b = leb 32 b && leb b 126 && not (eqb b 34 || eqb b 38 || eqb b 60 || eqb b 62)

-- how many bytes of a name stand from an offset on; 25 where there are more than 24
unfoldable pub name_run : List ℕ → ℕ → ℕ
name_run s at = lowest_below 25 (λ k. not (name_byte (get_or s (at + k) 0)))

-- n bytes are a name: 1 to 24 of them, a quote before and a quote behind, and then white space, a comment or the end of the text
unfoldable pub is_name : ℕ → ℕ → ℕ → ℕ → Bool
is_name opening n closing next = eqb opening 34 && leb 1 n && leb n 24 && eqb closing 34 && (white next || eqb next 35)

-- how many bytes the name has whose quote stands at an offset; 0 where there is no name
unfoldable pub named : List ℕ → ℕ → ℕ
named s at =
    pick (is_name (get_or s at 0) (name_run s (at + 1)) (get_or s (at + name_run s (at + 1) + 1) 0) (get_or s (at + name_run s (at + 1) + 2) 32))
    (name_run s (at + 1)) 0

-- ---- the names of a text

-- the offset of what stands behind the three numbers of source i, where the names of those before it are spaces
unfoldable pub behind : List ℕ → ℕ → ℕ
behind s i = nth_start (bare s) (3 * i + 3)

-- where the name of source i begins in such a text, and how many bytes it has
unfoldable pub place_in : List ℕ → ℕ → Place
place_in s i = record { start = behind s i + 1; count = named s (behind s i) }

-- n bytes from an offset on made spaces
unfoldable pub blanked : List ℕ → ℕ → ℕ → List ℕ
blanked s at zero = s
blanked s at (suc n) = set (blanked s at n) (at + n) 32

-- a name with its two quotes
unfoldable pub quoted : ℕ → ℕ
quoted n = pick (eqb n 0) 0 (n + 2)

-- the name of source i made spaces, in a text where those before it are
unfoldable pub unnamed_at : List ℕ → ℕ → List ℕ
unnamed_at s i = blanked s (behind s i) (quoted (named s (behind s i)))

-- a text with the names of the first n sources made spaces
unfoldable pub unnamed_to : List ℕ → ℕ → List ℕ
unnamed_to s zero = s
unnamed_to s (suc n) = unnamed_at (unnamed_to s n) n

-- and of all
abbrev pub unnamed : List ℕ → List ℕ
unnamed s = unnamed_to s 32

-- names and comments made spaces: what is left are the numbers, and every quote that is no part of a name
unfoldable pub cleared : List ℕ → List ℕ
cleared s = bare (unnamed s)
