-- The figures of the waits of the 32 sources in a book of columns, one for each number and one of words.
use Rattle.std.specs.Prelude.{ℕ, ◌≤◌, ◌<◌, ◌≡◌, Bool, not, ◌&&◌, ◌||◌, List, [], ◌∷◌, eqb, ltb, length, get_or}
use Rattle.words.specs.Choice.{pick}
use Rattle.words.specs.Word.{bit, both, without}
use Rattle.rooms.specs.Parts.{made}
use Rattle.aic_record.specs.declared.Aic.{Aic}
use Rattle.aic_bounds.specs.declared.Marks.{Marks}
use Rattle.aic_bounds.specs.Bounds.{idle}
use Rattle.aic_bounds.specs.Following.{plus, bound_by}
use Rattle.aic_bounds.specs.declared.figures.Figures.{Figures}
use Rattle.aic_bounds.specs.Figures.{figures_with, largest_now, unended_now}

-- ---- a row

-- the row of a source: of the wait that stands its rivals, those that count, the six terms and the step that left it without a bound; of the wait with
-- the largest bound the six terms; three counts. How many handlers were started in a wait is no figure of its bound
abbrev pub row_of : Figures → List ℕ
row_of f =
    f.bound.rivals ∷ f.bound.on ∷ f.bound.pending ∷ f.bound.edges ∷ f.bound.commands ∷ f.bound.turns ∷ f.bound.closed ∷ f.bound.remembered ∷ f.bound.broke
    ∷ f.largest.pending ∷ f.largest.edges ∷ f.largest.commands ∷ f.largest.turns ∷ f.largest.closed ∷ f.largest.remembered
    ∷ f.begun ∷ f.unbounded ∷ f.first ∷ []

-- a wait, or none
abbrev pub stands_if : Bool → ℕ
stands_if waits = pick waits 2 0

-- the figures that a row tells of a source that waits, or does not
abbrev pub figures_in : Bool → List ℕ → Figures
figures_in waits row =
    record {
      bound = record {
        wait = stands_if waits;
        rivals = get_or row 0 0;
        on = get_or row 1 0;
        pending = get_or row 2 0;
        edges = get_or row 3 0;
        commands = get_or row 4 0;
        turns = get_or row 5 0;
        closed = get_or row 6 0;
        remembered = get_or row 7 0;
        broke = get_or row 8 0;
      };
      largest = record {
        wait = 0;
        rivals = 0;
        on = 0;
        pending = get_or row 9 0;
        edges = get_or row 10 0;
        commands = get_or row 11 0;
        turns = get_or row 12 0;
        closed = get_or row 13 0;
        remembered = get_or row 14 0;
        broke = 0;
      };
      begun = get_or row 15 0;
      unbounded = get_or row 16 0;
      first = get_or row 17 0;
    }

-- the row of source k after the n-th step, by whether it waited and whether it waits then
unfoldable pub row_after : ℕ → Bool → Bool → ℕ → Marks → Aic → List ℕ → List ℕ
row_after k was is n m t row = row_of (figures_with n (figures_in was row) (bound_by k (stands_if is) n (figures_in was row).bound m t))

-- what is told of a source in the end: waits that began, have not ended, have no bound, the first step by which one has none, the terms of the largest
unfoldable pub numbers_of : Figures → List ℕ
numbers_of f =
    f.begun ∷ unended_now f ∷ f.unbounded ∷ f.first ∷ (largest_now f).pending ∷ (largest_now f).edges ∷ (largest_now f).commands ∷ (largest_now f).turns
    ∷ (largest_now f).closed ∷ (largest_now f).remembered ∷ []

-- ---- the book

-- number j of source i: each number has a column
abbrev pub cell_in : List (List ℕ) → ℕ → ℕ → ℕ
cell_in book j i = get_or (get_or book j []) i 0

-- the row of source i
unfoldable pub row_at : List (List ℕ) → ℕ → List ℕ
row_at book i = made 18 (λ j. cell_in book j i)

-- 19 columns of 32 numbers
abbrev pub Columns : List (List ℕ) → Type 0
Columns book = (length book ≡ 19) × ((j : ℕ) → j < 19 → length (get_or book j []) ≡ 32)

-- a word of the last column: 0 the sources that are pending, enabled and not fast, 1 those that wait, 2 those that were enabled at the last look
abbrev pub word_in : List (List ℕ) → ℕ → ℕ
word_in book j = cell_in book 18 j

-- counts and words that have 32 bits
abbrev pub Small : Figures → Type 0
Small f =
    (f.bound.on ≤ 4294967295) × (f.bound.pending ≤ 4294967295) × (f.bound.edges ≤ 4294967295) × (f.bound.commands ≤ 4294967295)
    × (f.bound.turns ≤ 4294967295) × (f.bound.closed ≤ 4294967295) × (f.begun ≤ 4294967295) × (f.unbounded ≤ 4294967295)

-- the figures f of the sources stand in the book
pub record Kept (f : ℕ → Figures) (book : List (List ℕ)) : Type 0 where
  pub size : Columns book
  pub rows : (i : ℕ) → i < 32 → row_at book i ≡ row_of (f i)
  pub asks : (i : ℕ) → i < 32 → bit (word_in book 0) i ≡ ltb 0 (f i).bound.wait
  pub waits : (i : ℕ) → i < 32 → bit (word_in book 1) i ≡ ltb 1 (f i).bound.wait
  -- of a source that does not wait nothing is observed
  pub rests : (i : ℕ) → i < 32 → (f i).bound.wait < 2 → (f i).bound ≡ idle (f i).bound.wait
  -- a rival that was enabled at the last look counts
  pub seen : (i : ℕ) → i < 32 → without (both (f i).bound.rivals (word_in book 2)) (f i).bound.on ≡ 0
  pub small : (i : ℕ) → i < 32 → Small (f i)

-- ---- a step

-- it brought nothing
unfoldable pub is_quiet : Marks → Bool
is_quiet m = eqb m.edges 0 && eqb m.commands 0 && eqb m.turns 0 && eqb m.closed 0 && not m.rewrote

-- the figures of a source that waits on, by what a step brings to those that count
abbrev pub gained : Figures → Marks → Figures
gained f m =
    record {
      bound = record {
        wait = f.bound.wait;
        rivals = f.bound.rivals;
        on = f.bound.on;
        pending = f.bound.pending;
        edges = plus f.bound.edges f.bound.on m.edges;
        commands = plus f.bound.commands f.bound.on m.commands;
        turns = plus f.bound.turns f.bound.on m.turns;
        closed = plus f.bound.closed f.bound.on m.closed;
        remembered = f.bound.remembered;
        broke = f.bound.broke;
      };
      largest = f.largest;
      begun = f.begun;
      unbounded = f.unbounded;
      first = f.first;
    }

-- these figures stand in the columns, whatever the words say
pub record Stands (f : ℕ → Figures) (book : List (List ℕ)) : Type 0 where
  pub size : Columns book
  pub rows : (i : ℕ) → i < 32 → row_at book i ≡ row_of (f i)
  pub small : (i : ℕ) → i < 32 → Small (f i)

-- some numbers are anew, number j of source i g j i, and all others are as they were
pub record Cells (some : ℕ → ℕ → Bool) (g : ℕ → ℕ → ℕ) (old new : List (List ℕ)) : Type 0 where
  pub size : Columns new
  pub each : (j i : ℕ) → j < 19 → i < 32 → cell_in new j i ≡ pick (some j i) (g j i) (cell_in old j i)

-- the rows of some sources are anew, and all others are as they were
pub record Rows (h : ℕ → List ℕ) (some : ℕ) (old new : List (List ℕ)) : Type 0 where
  pub size : Columns new
  pub each : (i : ℕ) → i < 32 → row_at new i ≡ pick (bit some i) (h i) (row_at old i)
  pub last : get_or new 18 [] ≡ get_or old 18 []

-- the words are anew, and all rows are as they were
pub record Worded (asks is enabled : ℕ) (old new : List (List ℕ)) : Type 0 where
  pub size : Columns new
  pub words : (word_in new 0 ≡ asks) × (word_in new 1 ≡ is) × (word_in new 2 ≡ enabled)
  pub rows : (i : ℕ) → i < 32 → row_at new i ≡ row_at old i

-- what the n-th step does to the book that brings m, leaves the record t, starts source `by`, and after which these are pending, enabled and not fast
pub record Moved (by asks n : ℕ) (m : Marks) (t : Aic) (old new : List (List ℕ)) : Type 0 where
  pub size : Columns new
  pub asked : word_in new 0 ≡ asks
  pub waits : (i : ℕ) → i < 32 → bit (word_in new 1) i ≡ ((bit asks i && not (eqb i by)) && (bit (word_in old 1) i || not (bit (word_in old 0) i)))
  pub enabled : word_in new 2 ≡ t.enabled
  pub rows : (i : ℕ) → i < 32 → row_at new i
      ≡ pick (bit (word_in old 1) i || bit (word_in new 1) i) (row_after i (bit (word_in old 1) i) (bit (word_in new 1) i) n m t (row_at old i)) (row_at old i)
