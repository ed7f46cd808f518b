-- The text of a value change dump, VCD (IEEE 1364-2005, 18.2): what is declared, the first values, and at each tick what changed.
use Rattle.std.specs.Prelude.{ℕ, zero, suc, ◌+◌, ◌/◌, ◌%◌, List, [], ◌∷◌, ◌++◌, eqb, ltb, get_or}
use Rattle.words.specs.Choice.{pick}
use Rattle.text.specs.Text.{space, newline, decimal, field}
use Rattle.text.specs.Phrases.{bytes}

-- ---- what is declared

-- a signal: its name, and how many bits it has
pub record Signal : Type 0 where
  pub name : List ℕ
  pub width : ℕ

-- the identifier of the kth signal: one of the 94 printable characters, from ! on (18.2.1)
abbrev pub identifier : ℕ → ℕ
identifier k = 33 + k % 94

-- $var wire, the width, the identifier and the name (18.2.3)
unfoldable pub declaration : ℕ → Signal → List ℕ
declaration k d = bytes "$var wire " ++ decimal d.width ++ (space ∷ identifier k ∷ space ∷ []) ++ d.name ++ bytes " $end\n"

-- those of some signals, of which the first is the kth
unfoldable pub declarations : ℕ → List Signal → List ℕ
declarations k [] = []
declarations k (d ∷ ds) = declaration k d ++ declarations (k + 1) ds

-- what a tick is, for the time unit means nothing here, and the time unit, for the format wants one (18.2.3)
unfoldable pub opening : List ℕ
opening = bytes "$comment one tick is one step of the trace, refused steps counted; tick 0 is the start $end\n$timescale 1 ns $end\n"

-- no more is declared (18.2.3)
unfoldable pub declared : List ℕ
declared = bytes "$enddefinitions $end\n"

-- the whole: a scope of this name, given with the end of its line, and its signals (18.2.3)
unfoldable pub heading : List ℕ → List Signal → List ℕ
heading name ds = opening ++ bytes "$scope module " ++ name ++ bytes "$end\n" ++ declarations 0 ds ++ bytes "$upscope $end\n" ++ declared

-- ---- values

-- the last binary digits of v, at most so many, the highest first; where these hold v, none of them is a leading 0: digits that are left out are 0 (18.2.2)
unfoldable pub binary_of : ℕ → ℕ → List ℕ
binary_of zero v = []
binary_of (suc digits) v = pick (ltb v 2) ((48 + v % 2) ∷ []) (binary_of digits (v / 2) ++ ((48 + v % 2) ∷ []))

-- the value of the kth signal: a digit and the identifier where it has one bit, else b, the digits, a space and the identifier (18.2.1, 18.2.2)
unfoldable pub change : ℕ → ℕ → ℕ → List ℕ
change width k v =
    pick (eqb width 1) ((48 + v % 2) ∷ identifier k ∷ newline ∷ []) ((98 ∷ []) ++ binary_of width v ++ (space ∷ identifier k ∷ newline ∷ []))

-- all values of signals of these widths, the first of them the kth
unfoldable pub values_from : ℕ → List ℕ → List ℕ → List ℕ
values_from k [] now = []
values_from k (w ∷ ws) now = change w k (get_or now k 0) ++ values_from (k + 1) ws now

-- of those values only what differs from the ones before
unfoldable pub changes_from : ℕ → List ℕ → List ℕ → List ℕ → List ℕ
changes_from k [] before now = []
changes_from k (w ∷ ws) before now = pick (eqb (get_or before k 0) (get_or now k 0)) [] (change w k (get_or now k 0)) ++ changes_from (k + 1) ws before now

-- ---- ticks

-- # and the number of the tick (18.2.1)
unfoldable pub tick : ℕ → List ℕ
tick n = (35 ∷ []) ++ decimal n ++ (newline ∷ [])

-- tick 0: every value (18.2.3)
unfoldable pub first_tick : List ℕ → List ℕ → List ℕ
first_tick ws now = tick 0 ++ bytes "$dumpvars\n" ++ values_from 0 ws now ++ bytes "$end\n"

-- any other: what changed
unfoldable pub next_tick : ℕ → List ℕ → List ℕ → List ℕ → List ℕ
next_tick n ws before now = tick n ++ changes_from 0 ws before now

-- the ticks after tick n, one for each list of values
unfoldable pub ticks_from : ℕ → List ℕ → List ℕ → List (List ℕ) → List ℕ
ticks_from n ws before [] = []
ticks_from n ws before (now ∷ rest) = next_tick (n + 1) ws before now ++ ticks_from (n + 1) ws now rest

-- the refusal that ends a trace and its offset, as a listing's last line has them; nothing where there is none (01, House trace; 18.2.3)
unfoldable pub ending : ℕ → ℕ → List ℕ
ending refusal offset = pick (eqb refusal 0) [] (bytes "$comment E" ++ field refusal ++ field offset ++ bytes " $end\n")

-- what follows a heading: the first values, the ticks, and how the trace ended
unfoldable pub ticks : List ℕ → List ℕ → List (List ℕ) → ℕ → ℕ → List ℕ
ticks ws first rest refusal offset = first_tick ws first ++ ticks_from 0 ws first rest ++ ending refusal offset
