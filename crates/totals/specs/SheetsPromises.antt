-- What is promised of the figures of the tuning sheet.
use Rattle.std.specs.Prelude.{ℕ, ◌+◌, ◌≤◌, ◌<◌, ◌≡◌, ◌||◌, ◌↔◌, ◌≢◌, ◌⊎◌, get_or, length}
use Rattle.words.specs.Word.{bit}
use Rattle.totals.specs.Totals as Sums
use Rattle.totals.specs.Promises.{Source}
use Rattle.totals.specs.Waits as Bounds
use Rattle.totals.specs.WaitsPromises.{Numbers}
use Rattle.totals.specs.declared.sheets.Noted.{Noted}
use Rattle.totals.specs.declared.sheets.Sheet.{Sheet}
use Rattle.totals.specs.Sheet.{no_sheet, more, added, left_unopened}

-- a sum of the page would pass 4,294,967,295: steps, refused steps, marks, idle ends, entries left open, and of some source the handlers started, the waits
-- that began, those that never ended and those without a bound
pub data Passes (s : Sheet) (t : Noted) : Type 0 where
  steps : 4294967295 < s.steps + t.steps → Passes s t
  refused : 4294967295 < s.refused + t.refused → Passes s t
  marks : 4294967295 < s.marks + t.marks → Passes s t
  idle : 4294967295 < s.idle + t.idle → Passes s t
  left : 4294967295 < s.left + t.left → Passes s t
  started : (i : ℕ) → i < 32 → 4294967295 < get_or s.figures.started i 0 + get_or t.figures.started i 0 → Passes s t
  begun : (i : ℕ) → i < 32 → 4294967295 < get_or s.waits.begun i 0 + get_or t.waits.begun i 0 → Passes s t
  unended : (i : ℕ) → i < 32 → 4294967295 < get_or s.waits.unended i 0 + get_or t.waits.unended i 0 → Passes s t
  unbounded : (i : ℕ) → i < 32 → 4294967295 < get_or s.waits.unbounded i 0 + get_or t.waits.unbounded i 0 → Passes s t

-- everything but the four counters of names is the same
pub record Alike (s u : Sheet) : Type 0 where
  pub steps : s.steps ≡ u.steps
  pub refused : s.refused ≡ u.refused
  pub marks : s.marks ≡ u.marks
  pub idle : s.idle ≡ u.idle
  pub left : s.left ≡ u.left
  pub used : s.used ≡ u.used
  pub figures : s.figures ≡ u.figures
  pub waits : s.waits ≡ u.waits
  pub trace : s.trace ≡ u.trace

-- so many names are read, and so many of them left out by 16, 17 and 18
pub record Names (s : Sheet) (all by16 by17 by18 : ℕ) : Type 0 where
  pub named : s.named ≡ all
  pub full : s.full ≡ by16
  pub unopened : s.unopened ≡ by17
  pub unkept : s.unkept ≡ by18

-- u is s with the trace t: sums; a source is used if it was, or is in the trace; figures and waits are those of 11/12 and of bounds, added up
pub record Taken (s : Sheet) (t : Noted) (u : Sheet) : Type 0 where
  pub names : Names u (more s.named) s.full s.unopened s.unkept
  pub steps : u.steps ≡ s.steps + t.steps
  pub refused : u.refused ≡ s.refused + t.refused
  pub marks : u.marks ≡ s.marks + t.marks
  pub idle : u.idle ≡ s.idle + t.idle
  pub left : u.left ≡ s.left + t.left
  pub used : (i : ℕ) → i < 32 → bit u.used i ≡ (bit s.used i || bit t.used i)
  pub figures : u.figures ≡ (Sums.added s.figures t.figures).totals
  pub waits : u.waits ≡ (Bounds.added s.waits t.waits).waits
  -- none of these was refused
  pub summed : (Sums.added s.figures t.figures).refusal ≡ 0
  pub bounded : (Bounds.added s.waits t.waits).refusal ≡ 0

pub record Promises : Type 0 where
  -- before any name every figure is 0
  pub empty : Names no_sheet 0 0 0 0 × (no_sheet.steps ≡ 0) × (no_sheet.refused ≡ 0) × (no_sheet.marks ≡ 0) × (no_sheet.idle ≡ 0) × (no_sheet.left ≡ 0)
      × (no_sheet.used ≡ 0)
  pub empty_source : (i : ℕ) → Source no_sheet.figures i 0 0 0 × Numbers no_sheet.waits i 0 0 0 × (Bounds.bound_of no_sheet.waits i ≡ 0)
      × (get_or no_sheet.waits.first i 0 ≡ 0) × (get_or no_sheet.trace i 0 ≡ 0)
  -- numbers of names grow by one and stop at 4,294,967,295
  pub one_more : (n : ℕ) → n < 4294967295 → more n ≡ n + 1
  pub no_more : (n : ℕ) → 4294967295 ≤ n → more n ≡ n
  -- 18 is given exactly if a source strays from the table, 16 exactly if none does and a sum of the page would pass 4,294,967,295, and else 0
  pub eighteen : (s : Sheet) (t : Noted) → ((added s t).refusal ≡ 18) ↔ (t.strays < 32)
  pub sixteen : (s : Sheet) (t : Noted) → ((added s t).refusal ≡ 16) ↔ ((32 ≤ t.strays) × Passes s t)
  pub taken : (s : Sheet) (t : Noted) → ((added s t).refusal ≡ 0) ↔ ((32 ≤ t.strays) × (Passes s t → ⊥))
  -- a trace left out changes nothing but the number of names and of those left out so
  pub left_by_18 : (s : Sheet) (t : Noted) → (added s t).refusal ≡ 18
      → Alike (added s t).sheet s × Names (added s t).sheet (more s.named) s.full s.unopened (more s.unkept)
  pub left_by_16 : (s : Sheet) (t : Noted) → (added s t).refusal ≡ 16
      → Alike (added s t).sheet s × Names (added s t).sheet (more s.named) (more s.full) s.unopened s.unkept
  pub left_by_17 : (s : Sheet) → Alike (left_unopened s) s × Names (left_unopened s) (more s.named) s.full (more s.unopened) s.unkept
  -- one that is counted is put to every figure
  pub counted : (s : Sheet) (t : Noted) → (added s t).refusal ≡ 0 → Taken s t (added s t).sheet
  -- the number of the name with which a source first has a wait without a bound: this one's where the source had none, and has one in this trace
  pub first_is : (s : Sheet) (t : Noted) → (added s t).refusal ≡ 0 → length s.trace ≡ 32 → (i : ℕ) → i < 32
      → get_or s.waits.first i 0 ≡ 0 → get_or t.waits.first i 0 ≢ 0 → get_or (added s t).sheet.trace i 0 ≡ more s.named
  pub first_stays : (s : Sheet) (t : Noted) → (added s t).refusal ≡ 0 → length s.trace ≡ 32 → (i : ℕ) → i < 32
      → (get_or s.waits.first i 0 ≢ 0) ⊎ (get_or t.waits.first i 0 ≡ 0) → get_or (added s t).sheet.trace i 0 ≡ get_or s.trace i 0
