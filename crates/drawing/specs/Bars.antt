-- What a drawing of the nesting shows: a column for each step, and a bar for each open entry, from the step that opens it to the one that closes it.
use Rattle.std.specs.Prelude.{ℕ, zero, suc, ◌+◌, ◌-◌, ◌*◌, ◌/◌, ◌%◌, min, Bool, List, [], ◌∷◌, ◌++◌, ltb, leb, get_or, length}
use Rattle.words.specs.Choice.{pick}

-- ---- columns

-- what holds after a step: IRQ and FIQ active (1) or not (0), how many entries are open, the source and the level of the last one, and the number by which
-- the step is refused, 0 for none
pub record Column : Type 0 where
  pub irq : ℕ
  pub fiq : ℕ
  pub entries : ℕ
  pub source : ℕ
  pub level : ℕ
  pub refusal : ℕ

-- a column as one number: a bit each for the outputs, four for the entries, five for the source, eight for the level, and above them 32 for the refusal
abbrev pub packed : Column → ℕ
packed c = c.irq + 2 * c.fiq + 4 * c.entries + 64 * c.source + 2048 * c.level + 524288 * c.refusal

-- and back
abbrev pub column : ℕ → Column
column w =
    record { irq = w % 2; fiq = w / 2 % 2; entries = w / 4 % 16; source = w / 64 % 32; level = w / 2048 % 256; refusal = w / 524288 % 4294967296 }

-- the kth column of a window; column 0 is what held before its first step
abbrev pub column_at : List ℕ → ℕ → Column
column_at ws k = column (get_or ws k 0)

abbrev pub entries_at : List ℕ → ℕ → ℕ
entries_at ws k = (column_at ws k).entries

-- ---- bars

-- an entry in a place of the stack, 0 the lowest, over the columns from one on and before another; a mark is of source 0 (02, 3/12)
pub record Bar : Type 0 where
  pub place : ℕ
  pub from : ℕ
  pub to : ℕ
  pub source : ℕ
  pub level : ℕ

-- the first column from the kth on, of n, in which the place is free: no more entries are open than it has below it; where none is, the column after them
unfoldable pub free_from : ℕ → List ℕ → ℕ → ℕ → ℕ
free_from zero ws place k = k
free_from (suc n) ws place k = pick (leb (entries_at ws k) place) k (free_from n ws place (k + 1))

unfoldable pub free : List ℕ → ℕ → ℕ → ℕ
free ws place k = free_from (length ws - k) ws place k

-- the step of a column opens an entry
unfoldable pub opens : List ℕ → ℕ → Bool
opens ws k = ltb (entries_at ws (k - 1)) (entries_at ws k)

-- the entry that it opens
unfoldable pub opened : List ℕ → ℕ → Bar
opened ws k =
    record {
      place = entries_at ws k - 1;
      from = k;
      to = free ws (entries_at ws k - 1) (k + 1);
      source = (column_at ws k).source;
      level = (column_at ws k).level;
    }

-- those of n columns, from the kth on
unfoldable pub opened_from : ℕ → List ℕ → ℕ → List Bar
opened_from zero ws k = []
opened_from (suc n) ws k = pick (opens ws k) (opened ws k ∷ []) [] ++ opened_from n ws (k + 1)

-- the entries in the first n places, open before the window
unfoldable pub stayed : ℕ → List ℕ → List ℕ → List ℕ → List Bar
stayed zero ws source level = []
stayed (suc n) ws source level =
    stayed n ws source level ++ (record { place = n; from = 1; to = free ws n 1; source = get_or source n 0; level = get_or level n 0 } ∷ [])

-- how many entries were open before the window and are still after its first step
abbrev pub still : List ℕ → ℕ
still ws = min (entries_at ws 0) (entries_at ws 1)

-- all: those, of the sources and levels given, and then the ones that the steps of the window open
unfoldable pub bars : List ℕ → List ℕ → List ℕ → List Bar
bars ws source level = stayed (still ws) ws source level ++ opened_from (length ws - 1) ws 1
