-- A name as the page shows it: ASCII that no reader of XML takes for markup (02, 11/12: a name may hold any byte).
use Rattle.std.specs.Prelude.{ℕ, ◌*◌, min, ◌&&◌, List, [], ◌∷◌, ◌++◌, eqb, leb, take, drop}
use Rattle.words.specs.Choice.{pick}
use Rattle.text.specs.Text.{hex_of}
use Rattle.text.specs.Phrases.{bytes}
use Rattle.sheet.specs.Texts.{each}

-- a byte that prints stands for itself, any other is told by its number
unfoldable pub plain : ℕ → List ℕ
plain b = pick (leb 32 b && leb b 126) (b ∷ []) (bytes "\\x" ++ hex_of 2 b)

-- but for the four that are markup, and the one that begins a number
unfoldable pub escape : ℕ → List ℕ
escape b =
    pick (eqb b 38) (bytes "&amp;")
    (pick (eqb b 60) (bytes "&lt;") (pick (eqb b 62) (bytes "&gt;") (pick (eqb b 34) (bytes "&quot;") (pick (eqb b 92) (bytes "\\\\") (plain b)))))

abbrev pub escaped : List ℕ → List ℕ
escaped name = each escape name

-- the name of source i has k bytes, 24 at most; the names stand 24 bytes apart
unfoldable pub name_of : List ℕ → ℕ → ℕ → List ℕ
name_of names k i = take (min k 24) (drop (24 * i) names)
