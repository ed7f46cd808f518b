-- The statements of a trace in canonical form, and the column at which their comments begin (docs/TEXT.md, "A trace explained").
use Rattle.std.specs.Prelude.{ℕ, zero, suc, ◌-◌, Bool, List, [], ◌∷◌, ◌++◌, ltb, length, replicate}
use Rattle.words.specs.Choice.{pick}
use Rattle.steps.specs.declared.Recorded.{Recorded}
use Rattle.steps.specs.declared.Step.{Step}
use Rattle.steps.specs.declared.Step.TheVariants.{Read, Write, Line}
use Rattle.numbers.specs.Promises.{told_at}
use Rattle.text.specs.Text.{space, hex_of, field}
use Rattle.text.specs.Phrases.{bytes}
use Rattle.kinds.specs.Kinds.{by_kind}

-- ---- numbers

-- how many hexadecimal digits an offset is written with: at least three, and no 0 before them
unfoldable pub offset_digits : ℕ → ℕ
offset_digits v =
    pick (ltb v 0x1000) 3 (pick (ltb v 0x10000) 4 (pick (ltb v 0x100000) 5 (pick (ltb v 0x1000000) 6 (pick (ltb v 0x10000000) 7 8))))

-- so many hexadecimal digits behind a space and 0x
unfoldable pub hex_field : ℕ → ℕ → List ℕ
hex_field digits v = bytes " 0x" ++ hex_of digits v

-- decimals, a space before each
unfoldable pub fields : List ℕ → List ℕ
fields [] = []
fields (n ∷ ns) = field n ++ fields ns

-- ---- the controller

-- its word
unfoldable pub kind_word : ℕ → List ℕ
kind_word kind =
    by_kind kind
    (record { aic = bytes "aic"; core = bytes "coreinterrupt"; cic = bytes "cic"; aintc = bytes "aintc"; indexed = bytes "indexed"; none = [] })

-- so many numbers of a trace from a place on
unfoldable pub numbers_at : ℕ → List ℕ → ℕ → List ℕ
numbers_at zero s at = []
numbers_at (suc n) s at = (told_at s at).value ∷ numbers_at n s (told_at s at).place

unfoldable pub controller : ℕ → List ℕ → List ℕ
controller kind ns = kind_word kind ++ fields ns

-- ---- a step

-- the privilege of an access, where the trace tells one
unfoldable pub privilege_field : Bool → ℕ → List ℕ
privilege_field told p = pick told (field p) []

unfoldable pub read_stated : Bool → ℕ → ℕ → List ℕ
read_stated told p offset = bytes "read" ++ hex_field (offset_digits offset) offset ++ privilege_field told p

unfoldable pub write_stated : Bool → ℕ → ℕ → ℕ → List ℕ
write_stated told p offset value = bytes "write" ++ hex_field (offset_digits offset) offset ++ privilege_field told p ++ hex_field 8 value

unfoldable pub line_stated : ℕ → ℕ → List ℕ
line_stated line level = bytes "line" ++ field line ++ field level

abbrev pub stated_by : Bool → ℕ → Step → List ℕ
stated_by told p (Read offset) = read_stated told p offset
stated_by told p (Write offset value) = write_stated told p offset value
stated_by told p (Line line level) = line_stated line level

unfoldable pub stated : Bool → Recorded → List ℕ
stated told x = stated_by told x.privilege x.step

-- ---- the column of comments

-- a statement is followed by spaces up to column 28; one that has as many bytes or more, by one
unfoldable pub gap : ℕ → ℕ
gap n = pick (ltb n 28) (28 - n) 1

unfoldable pub to_column : List ℕ → List ℕ
to_column l = l ++ replicate (gap (length l)) space
