-- What is promised of the drawing: a bar for each entry from its opening to its close, none above the eighth row, and a text that is at most so long.
use Rattle.std.specs.Prelude.{ℕ, zero, suc, ◌+◌, ◌-◌, ◌*◌, ◌%◌, ◌<◌, ◌≤◌, min, ◌≡◌, true, false, List, [], ◌∷◌, ◌++◌, ◌↔◌, ◌≢◌, length, get_or}
use Rattle.words.specs.Counting.{one}
use Rattle.text.specs.Phrases.{bytes, counted}
use Rattle.drawing.specs.Shapes.{box, label, centred, active, refused, numbered, mark, handler}
use Rattle.drawing.specs.Frame.{wide, title, axes, signs, head, rows}
use Rattle.drawing.specs.Bars.{Column, Bar, packed, column, column_at, entries_at, free, opens, opened, opened_from, stayed, still, bars}
use Rattle.drawing.specs.Drawing.{column_text, column_texts, bar_text, bar_texts, drawing}

-- a column whose numbers find room in one
pub record Small (c : Column) : Type 0 where
  pub irq : c.irq ≤ 1
  pub fiq : c.fiq ≤ 1
  pub entries : c.entries ≤ 15
  pub source : c.source ≤ 31
  pub level : c.level ≤ 255
  pub refusal : c.refusal < 4294967296

-- how many of n columns open an entry, from the kth on
unfoldable pub openings : ℕ → List ℕ → ℕ → ℕ
openings zero ws k = 0
openings (suc n) ws k = one (opens ws k) + openings n ws (k + 1)

-- every bar is in one of the first n rows
abbrev pub Below : ℕ → List Bar → Type 0
Below n [] = Unit
Below n (b ∷ bs) = (b.place < n) × Below n bs

-- an entry stays in its place from column a to the one before b, and is not there in b, if that is a column of the window
pub record Stays (ws : List ℕ) (place a b : ℕ) : Type 0 where
  pub there : (j : ℕ) → a ≤ j → j < b → place < entries_at ws j
  pub gone : b < length ws → entries_at ws b ≤ place
  pub within : b ≤ length ws

-- a window of five steps, 4 to 8: IRQ is active, a handler of source 9 is opened, FIQ is active and the step is refused, the handler is closed, a mark is opened; one of
-- source 3 was open before
abbrev pub window : List ℕ
window =
    packed (record { irq = 0; fiq = 0; entries = 1; source = 3; level = 2; refusal = 0 })
    ∷ packed (record { irq = 1; fiq = 0; entries = 1; source = 3; level = 2; refusal = 0 })
    ∷ packed (record { irq = 0; fiq = 0; entries = 2; source = 9; level = 6; refusal = 0 })
    ∷ packed (record { irq = 0; fiq = 1; entries = 2; source = 9; level = 6; refusal = 13 })
    ∷ packed (record { irq = 0; fiq = 0; entries = 1; source = 3; level = 2; refusal = 0 })
    ∷ packed (record { irq = 0; fiq = 0; entries = 2; source = 0; level = 7; refusal = 0 })
    ∷ []

-- its drawing, line by line
abbrev pub drawn : List ℕ
drawn =
    bytes "<svg xmlns=\"http://www.w3.org/2000/svg\" font-family=\"sans-serif\" font-size=\"10\" height=\"390\" width=\"704\">\n"
    ++ bytes "<rect width=\"100%\" height=\"100%\" fill=\"white\"/>\n"
    ++ bytes "<text x=\"8\" y=\"14\">AIC, steps 4 to 8 of the trace: a column is one step, and shows what holds after it</text>\n"
    ++ bytes "<text x=\"8\" y=\"36\">IRQ</text>\n"
    ++ bytes "<text x=\"8\" y=\"56\">FIQ</text>\n"
    ++ bytes "<text x=\"8\" y=\"80\">refused by</text>\n"
    ++ bytes "<text x=\"8\" y=\"332\">steps</text>\n"
    ++ bytes "<text transform=\"translate(24 262) rotate(-90)\">entries open, at most 8</text>\n"
    ++ bytes "<path d=\"M64 92V316H184\" fill=\"none\" stroke=\"black\"/>\n"
    ++ bytes "<text x=\"8\" y=\"352\">A bar is one open entry, from the step that opens it to the one that closes it or to the last one: S is its source, L its level;</text>\n"
    ++ bytes "<text x=\"8\" y=\"366\">a dashed bar is a spurious mark. A dark box says that the output is active.</text>\n"
    ++ bytes "<text x=\"8\" y=\"380\">A tick says that the step is refused, by the number under it.</text>\n"
    ++ bytes "<text text-anchor=\"middle\" x=\"52\" y=\"306\">1</text>\n"
    ++ bytes "<text text-anchor=\"middle\" x=\"52\" y=\"278\">2</text>\n"
    ++ bytes "<text text-anchor=\"middle\" x=\"52\" y=\"250\">3</text>\n"
    ++ bytes "<text text-anchor=\"middle\" x=\"52\" y=\"222\">4</text>\n"
    ++ bytes "<text text-anchor=\"middle\" x=\"52\" y=\"194\">5</text>\n"
    ++ bytes "<text text-anchor=\"middle\" x=\"52\" y=\"166\">6</text>\n"
    ++ bytes "<text text-anchor=\"middle\" x=\"52\" y=\"138\">7</text>\n"
    ++ bytes "<text text-anchor=\"middle\" x=\"52\" y=\"110\">8</text>\n"
    ++ bytes "<rect x=\"64\" y=\"26\" width=\"24\" height=\"14\" fill=\"#333\"/>\n"
    ++ bytes "<text text-anchor=\"middle\" x=\"100\" y=\"332\">5</text>\n"
    ++ bytes "<rect x=\"112\" y=\"46\" width=\"24\" height=\"14\" fill=\"#333\"/>\n"
    ++ bytes "<path d=\"M124 64v8\" stroke=\"black\"/>\n"
    ++ bytes "<text text-anchor=\"middle\" x=\"124\" y=\"84\">13</text>\n"
    ++ bytes "<rect x=\"64\" y=\"288\" width=\"120\" height=\"26\" fill=\"white\" stroke=\"black\"/>\n"
    ++ bytes "<text x=\"67\" y=\"299\">S3</text>\n"
    ++ bytes "<text x=\"67\" y=\"310\">L2</text>\n"
    ++ bytes "<rect x=\"88\" y=\"260\" width=\"48\" height=\"26\" fill=\"white\" stroke=\"black\"/>\n"
    ++ bytes "<text x=\"91\" y=\"271\">S9</text>\n"
    ++ bytes "<text x=\"91\" y=\"282\">L6</text>\n"
    ++ bytes "<rect x=\"160\" y=\"260\" width=\"24\" height=\"26\" fill=\"#ddd\" stroke=\"black\" stroke-dasharray=\"3 2\"/>\n"
    ++ bytes "<text font-size=\"9\" x=\"161\" y=\"277\">mark</text>\n"
    ++ bytes "</svg>\n"

pub record Promises : Type 0 where
  -- ---- columns

  -- a column as one number is that column
  pub back : (c : Column) → Small c → column (packed c) ≡ c
  -- ---- bars

  -- as many bars as entries that are open before the window and after its first step, and entries opened in it
  pub as_many : (ws source level : List ℕ) → length (bars ws source level) ≡ min (entries_at ws 0) (entries_at ws 1) + openings (length ws - 1) ws 1
  pub openings_none : (ws : List ℕ) (k : ℕ) → openings 0 ws k ≡ 0
  pub openings_more : (n : ℕ) (ws : List ℕ) (k : ℕ) → openings (suc n) ws k ≡ one (opens ws k) + openings n ws (k + 1)
  -- a step opens an entry exactly if more are open after it than before
  pub opening : (ws : List ℕ) (k : ℕ) → (opens ws k ≡ true) ↔ (entries_at ws (k - 1) < entries_at ws k)
  -- its bar stands in the place of the last entry, with the source and the level of that, from this column to the one that closes it or the window's end
  pub opened_at : (ws : List ℕ) (k : ℕ)
      → ((opened ws k).place ≡ entries_at ws k - 1) × ((opened ws k).from ≡ k) × ((opened ws k).source ≡ (column_at ws k).source) × ((opened ws k).level ≡ (column_at ws k).level)
  pub opened_to : (ws : List ℕ) (k : ℕ) → k < length ws → opens ws k ≡ true → Stays ws (opened ws k).place k (opened ws k).to
  -- that of an entry which was open before stands from the first column on
  pub stayed_to : (ws : List ℕ) (place : ℕ) → 1 < length ws → place < still ws → Stays ws place 1 (free ws place 1)
  -- where a place is free at once, that column is the first
  pub free_at_once : (ws : List ℕ) (place k : ℕ) → k < length ws → entries_at ws k ≤ place → free ws place k ≡ k
  -- they come in this order
  pub stayed_none : (ws source level : List ℕ) → stayed 0 ws source level ≡ []
  pub stayed_more : (n : ℕ) (ws source level : List ℕ)
      → stayed (suc n) ws source level
      ≡ stayed n ws source level ++ (record { place = n; from = 1; to = free ws n 1; source = get_or source n 0; level = get_or level n 0 } ∷ [])
  pub opened_none : (n : ℕ) (ws : List ℕ) (k : ℕ) → opens ws k ≡ false → opened_from (suc n) ws k ≡ opened_from n ws (k + 1)
  pub opened_more : (n : ℕ) (ws : List ℕ) (k : ℕ) → opens ws k ≡ true → opened_from (suc n) ws k ≡ opened ws k ∷ opened_from n ws (k + 1)
  pub all : (ws source level : List ℕ) → bars ws source level ≡ stayed (min (entries_at ws 0) (entries_at ws 1)) ws source level ++ opened_from (length ws - 1) ws 1
  -- no bar is beyond the eighth row where never more than eight entries are open (demand 3)
  pub eighth : (ws source level : List ℕ) → ((k : ℕ) → entries_at ws k ≤ 8) → Below 8 (bars ws source level)
  -- ---- the text

  -- a whole drawing, in which every shape occurs
  pub worked : drawing 4 window (3 ∷ []) (2 ∷ []) ≡ drawn
  -- it has its frame, eight rows, every column but column 0, and every bar
  pub whole : (first : ℕ) (ws source level : List ℕ)
      → drawing first ws source level
      ≡ head first (length ws - 1) ++ rows 8 ++ column_texts (length ws - 1) first ws 1 ++ bar_texts (bars ws source level) ++ bytes "</svg>\n"
  -- the frame tells its width and which steps are drawn, and its axis ends behind the last column
  pub framed : (first n : ℕ) → head first n ≡ title first n ++ axes n ++ signs
  pub titled : (first n : ℕ)
      → title first n
      ≡ counted (bytes "<svg xmlns=\"http://www.w3.org/2000/svg\" font-family=\"sans-serif\" font-size=\"10\" height=\"390\" width=\"") (wide n)
      ++ bytes "\">\n<rect width=\"100%\" height=\"100%\" fill=\"white\"/>\n"
      ++ counted (bytes "<text x=\"8\" y=\"14\">AIC, steps ") first ++ counted (bytes " to ") (first + n - 1)
      ++ bytes " of the trace: a column is one step, and shows what holds after it</text>\n"
  pub axis : (n : ℕ)
      → axes n
      ≡ bytes "<text x=\"8\" y=\"36\">IRQ</text>\n<text x=\"8\" y=\"56\">FIQ</text>\n<text x=\"8\" y=\"80\">refused by</text>\n<text x=\"8\" y=\"332\">steps</text>\n"
      ++ bytes "<text transform=\"translate(24 262) rotate(-90)\">entries open, at most 8</text>\n"
      ++ counted (bytes "<path d=\"M64 92V316H") (40 + 24 * (n + 1)) ++ bytes "\" fill=\"none\" stroke=\"black\"/>\n"
  -- a column shows IRQ over FIQ, the refusal, and the number of its step, counted on from that of the first
  pub columns_none : (first : ℕ) (ws : List ℕ) (k : ℕ) → column_texts 0 first ws k ≡ []
  pub columns_more : (n first : ℕ) (ws : List ℕ) (k : ℕ) → column_texts (suc n) first ws k ≡ column_text first k (column_at ws k) ++ column_texts n first ws (k + 1)
  pub column_shows : (first k : ℕ) (c : Column)
      → column_text first k c ≡ active 26 k c.irq ++ active 46 k c.fiq ++ refused k c.refusal ++ numbered k (first + k - 1)
  -- an active output is a dark box over its column, a refused step has a tick and the number in the middle of it; else there is nothing
  pub dark : (y k on : ℕ) → on ≢ 0 → active y k on ≡ box (40 + 24 * k) y 24 14 (bytes "fill=\"#333\"")
  pub light : (y k : ℕ) → active y k 0 ≡ []
  pub refused_by : (k n : ℕ) → n ≢ 0
      → refused k n ≡ counted (bytes "<path d=\"M") (52 + 24 * k) ++ bytes " 64v8\" stroke=\"black\"/>\n" ++ centred (52 + 24 * k) 84 n
  pub not_refused : (k : ℕ) → refused k 0 ≡ []
  -- a bar lies in the row of its place, the lowest at the bottom, over its columns; it is a mark's exactly if its source is 0 (02, 3/12)
  pub bars_none : bar_texts [] ≡ []
  pub bars_more : (b : Bar) (bs : List Bar) → bar_texts (b ∷ bs) ≡ bar_text b ++ bar_texts bs
  pub mark_bar : (b : Bar) → b.source ≡ 0 → bar_text b ≡ mark (40 + 24 * b.from) (288 - 28 * b.place) (24 * (b.to - b.from))
  pub handler_bar : (b : Bar) → b.source ≢ 0
      → bar_text b ≡ handler (40 + 24 * b.from) (288 - 28 * b.place) (24 * (b.to - b.from)) b.source b.level
  -- the shapes that they are made of
  pub boxed : (x y w h : ℕ) (look : List ℕ)
      → box x y w h look
      ≡ counted (bytes "<rect x=\"") x ++ counted (bytes "\" y=\"") y ++ counted (bytes "\" width=\"") w ++ counted (bytes "\" height=\"") h ++ bytes "\" " ++ look ++ bytes "/>\n"
  pub labelled : (x y : ℕ) (word : List ℕ) (n : ℕ)
      → label x y word n ≡ counted (bytes "<text x=\"") x ++ counted (bytes "\" y=\"") y ++ counted (bytes "\">" ++ word) n ++ bytes "</text>\n"
  pub in_middle : (x y n : ℕ)
      → centred x y n ≡ counted (bytes "<text text-anchor=\"middle\" x=\"") x ++ counted (bytes "\" y=\"") y ++ counted (bytes "\">") n ++ bytes "</text>\n"
  pub mark_shape : (x y w : ℕ)
      → mark x y w
      ≡ box x y w 26 (bytes "fill=\"#ddd\" stroke=\"black\" stroke-dasharray=\"3 2\"")
      ++ counted (bytes "<text font-size=\"9\" x=\"") (x + 1) ++ counted (bytes "\" y=\"") (y + 17) ++ bytes "\">mark</text>\n"
  pub handler_shape : (x y w source level : ℕ)
      → handler x y w source level
      ≡ box x y w 26 (bytes "fill=\"white\" stroke=\"black\"") ++ label (x + 3) (y + 11) (bytes "S") source ++ label (x + 3) (y + 22) (bytes "L") level
  -- it is as wide as its steps, and never narrower than its words
  pub narrow : (n : ℕ) → n < 26 → wide n ≡ 704
  pub wider : (n : ℕ) → 26 ≤ n → wide n ≡ 80 + 24 * n
  -- every fifth step has its number in the middle of its column, and no other
  pub fifth : (k step : ℕ) → step % 5 ≡ 0 → numbered k step ≡ centred (52 + 24 * k) 332 step
  pub others : (k step : ℕ) → step % 5 ≢ 0 → numbered k step ≡ []
  -- a drawing of at most 500 steps, the first of them of number 65,536 at most, has at most so many bytes, whatever the columns are
  pub most : (first : ℕ) (ws source level : List ℕ) → first ≤ 65536 → length ws ≤ 501 → ((k : ℕ) → get_or source k 0 ≤ 255) → ((k : ℕ) → get_or level k 0 ≤ 255)
      → length (drawing first ws source level) ≤ 219082
