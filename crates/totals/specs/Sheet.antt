-- The figures of the tuning sheet over the traces that are named (02, 11/12 and 12/12): a trace that does not keep the table is left out by 18, one of which a
-- sum would be too large by 16, and a name that cannot be opened or read by 17.
use Rattle.std.specs.Prelude.{ℕ, ◌+◌, Bool, not, ◌||◌, List, eqb, ltb, replicate}
use Rattle.words.specs.Choice.{pick}
use Rattle.words.specs.Word.{either}
use Rattle.steps.specs.Refusals.{carried_out, overfull}
use Rattle.totals.specs.declared.Totals.{Totals}
use Rattle.totals.specs.Totals as Sums
use Rattle.totals.specs.declared.waits.Waits.{Waits}
use Rattle.totals.specs.Waits as Bounds
use Rattle.totals.specs.declared.sheets.Noted.{Noted}
use Rattle.totals.specs.declared.sheets.Sheet.{Sheet}
use Rattle.totals.specs.declared.sheets.Added.{Added}

-- a trace does not keep the table
abbrev pub astray : ℕ
astray = 18

-- no name is read
unfoldable pub no_sheet : Sheet
no_sheet =
    record {
      named = 0;
      full = 0;
      unopened = 0;
      unkept = 0;
      steps = 0;
      refused = 0;
      marks = 0;
      idle = 0;
      left = 0;
      used = 0;
      figures = Sums.zeros;
      waits = Bounds.no_waits;
      trace = replicate 32 0;
    }

-- ---- names

-- one more name; a number that has reached 4,294,967,295 stays there
unfoldable pub more : ℕ → ℕ
more n = pick (ltb n 4294967295) (n + 1) n

-- a name that is left out: it is counted, and so is what leaves it out, and nothing else changes
unfoldable pub counted : Sheet → ℕ → ℕ → ℕ → Sheet
counted s full unopened unkept =
    record {
      named = more s.named;
      full = full;
      unopened = unopened;
      unkept = unkept;
      steps = s.steps;
      refused = s.refused;
      marks = s.marks;
      idle = s.idle;
      left = s.left;
      used = s.used;
      figures = s.figures;
      waits = s.waits;
      trace = s.trace;
    }

-- ---- sums

-- a sum would pass 4,294,967,295 (02, 11/12)
unfoldable pub too_much : ℕ → ℕ → Bool
too_much a b = ltb 4294967295 (a + b)

-- one that is of no source
unfoldable pub numbers_pass : Sheet → Noted → Bool
numbers_pass s t =
    (((too_much s.steps t.steps || too_much s.refused t.refused) || too_much s.marks t.marks) || too_much s.idle t.idle)
    || too_much s.left t.left

-- any sum of the page: one of these, the handlers started of some source, or a number of its waits (02, 11/12)
unfoldable pub passes : Sheet → Noted → Bool
passes s t =
    (numbers_pass s t || not (eqb (Sums.added s.figures t.figures).refusal carried_out))
    || not (eqb (Bounds.added s.waits t.waits).refusal carried_out)

-- for each source the number of the name whose wait first has no bound: this one's, where none before it has such a wait
unfoldable pub first_of : Sheet → Noted → List ℕ
first_of s t = Bounds.chosen (Bounds.newly s.waits t.waits) s.trace (replicate 32 (more s.named))

-- one name more, with its trace, whose figures and waits together with those before it are these
unfoldable pub together : Sheet → Noted → Totals → Waits → Sheet
together s t figures waits =
    record {
      named = more s.named;
      full = s.full;
      unopened = s.unopened;
      unkept = s.unkept;
      steps = s.steps + t.steps;
      refused = s.refused + t.refused;
      marks = s.marks + t.marks;
      idle = s.idle + t.idle;
      left = s.left + t.left;
      used = either s.used t.used;
      figures = figures;
      waits = waits;
      trace = first_of s t;
    }

-- ---- one name more

-- a trace that keeps the table: left out by 16, or taken
unfoldable pub summed : Sheet → Noted → Added
summed s t =
    pick (passes s t)
    (record { refusal = overfull; sheet = counted s (more s.full) s.unopened s.unkept })
    (record {
      refusal = carried_out;
      sheet = together s t (Sums.added s.figures t.figures).totals (Bounds.added s.waits t.waits).waits;
    })

-- a trace that was played: left out by 18 where it strays from the table, before any sum is looked at
unfoldable pub added : Sheet → Noted → Added
added s t = pick (ltb t.strays 32) (record { refusal = astray; sheet = counted s s.full s.unopened (more s.unkept) }) (summed s t)

-- a name that cannot be opened or read: 17 (02, 11/12)
unfoldable pub left_unopened : Sheet → Sheet
left_unopened s = counted s s.full (more s.unopened) s.unkept
