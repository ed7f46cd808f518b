-- The stack on the page: what all levels need, a bar and a row for each level, 7 first, and whose frame it is (02, 4/12).
use Rattle.std.specs.Prelude.{ℕ, zero, suc, ◌+◌, ◌-◌, ◌*◌, ◌/◌, max, Bool, ◌&&◌, List, [], ◌++◌, eqb, ltb, get_or}
use Rattle.words.specs.Choice.{pick}
use Rattle.words.specs.Counting.{lowest_below}
use Rattle.text.specs.Phrases.{bytes, counted}
use Rattle.stack.specs.declared.Table.{Table}
use Rattle.stack.specs.Bytes.{is_of, level_bytes, stack_bytes}
use Rattle.sheet.specs.Texts.{amount, down}
use Rattle.sheet.specs.Names.{escaped, name_of}

-- ---- the bars

-- what the level needs that needs the most, of the levels below n
unfoldable pub tallest : Table → ℕ → ℕ
tallest t zero = 0
tallest t (suc n) = max (tallest t n) (level_bytes t n)

-- how wide a bar is, the widest 440
unfoldable pub width : ℕ → ℕ → ℕ
width most b = b * 440 / max 1 most

-- the top of the bar of a level, and where its words stand
abbrev pub top : ℕ → ℕ
top l = 8 + (7 - l) * 24

abbrev pub baseline : ℕ → ℕ
baseline l = top l + 12

-- the bar of level l, which needs b bytes, where one needs the most
unfoldable pub bar : ℕ → ℕ → ℕ → List ℕ
bar most b l =
    counted (bytes "<text x=\"8\" y=\"") (baseline l) ++ counted (bytes "\">level ") l ++ counted (bytes "</text><rect x=\"64\" y=\"") (top l)
    ++ counted (bytes "\" width=\"") (width most b) ++ counted (bytes "\" height=\"16\" fill=\"none\" stroke=\"black\"/><text x=\"") (width most b + 72)
    ++ counted (bytes "\" y=\"") (baseline l) ++ bytes "\">" ++ amount b (bytes "bytes") ++ bytes "</text>\n"

-- ---- whose frame it is

-- source i is a normal source of level l with a frame of n bytes
unfoldable pub owns : Table → ℕ → ℕ → ℕ → Bool
owns t l n i = is_of t l i && eqb (get_or t.frame i 0) n

-- the lowest such source
unfoldable pub owner : Table → ℕ → ℕ → ℕ
owner t l n = lowest_below 32 (owns t l n)

-- source i by its number, and by its name of k bytes if it has one
unfoldable pub called : List ℕ → ℕ → ℕ → List ℕ
called names k i = counted (bytes "source ") i ++ pick (eqb k 0) [] (bytes ", " ++ escaped (name_of names k i))

-- the mark's, unless a source has more; then that of the lowest number that has as much
unfoldable pub whose : Table → List ℕ → List ℕ → ℕ → List ℕ
whose t names lengths l =
    pick (ltb t.mark (level_bytes t l)) (called names (get_or lengths (owner t l (level_bytes t l)) 0) (owner t l (level_bytes t l))) (bytes "the mark")

unfoldable pub level_row : Table → List ℕ → List ℕ → ℕ → List ℕ
level_row t names lengths l =
    counted (bytes "<tr><th>level ") l ++ counted (bytes "</th><td data-figure=\"level-bytes\" data-level=\"") l ++ bytes "\">" ++ amount (level_bytes t l) (bytes "bytes")
    ++ counted (bytes "</td><td data-figure=\"level-source\" data-level=\"") l ++ bytes "\">" ++ whose t names lengths l ++ bytes "</td></tr>\n"

-- ---- the section

unfoldable pub figure : Table → List ℕ
figure t =
    bytes "<section id=\"stack\">\n<h2>Stack</h2>\n<p>Open handlers and marks take at most <b data-figure=\"stack-bytes\">" ++ amount (stack_bytes t) (bytes "bytes")
    ++ bytes "</b>, at every moment of every trace counted: a frame for each of eight levels.</p>\n"

unfoldable pub bars : Table → List ℕ
bars t =
    bytes "<svg xmlns=\"http://www.w3.org/2000/svg\" viewBox=\"0 0 640 200\" width=\"640\" height=\"200\" font-family=\"sans-serif\" font-size=\"12\">\n"
    ++ down (λ l. bar (tallest t 8) (level_bytes t l) l) 8
    ++ bytes "</svg>\n"

unfoldable pub levels : Table → List ℕ → List ℕ → List ℕ
levels t names lengths =
    bytes "<table>\n<thead>\n<tr><th>level</th><th>at most</th><th>whose frame</th></tr>\n</thead>\n<tbody>\n" ++ down (level_row t names lengths) 8
    ++ bytes "</tbody>\n</table>\n</section>\n"

unfoldable pub stack_part : Table → List ℕ → List ℕ → List ℕ
stack_part t names lengths = figure t ++ bars t ++ levels t names lengths
