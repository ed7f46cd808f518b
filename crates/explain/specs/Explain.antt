-- A trace explained: the statement of each step that is played, its number, and what it did in the maker's words (docs/TEXT.md, "A trace explained").
use Rattle.std.specs.Prelude.{ℕ, ◌+◌, Bool, true, false, ◌&&◌, ◌||◌, not, List, [], ◌∷◌, ◌++◌, eqb, leb, ltb}
use Rattle.words.specs.Choice.{pick}
use Rattle.steps.specs.Refusals.{carried_out, misaligned, absent, unreadable, unwritable, beyond, limit_reached, damaged, unknown, misconfigured, unprivileged}
use Rattle.steps.specs.declared.Recorded.{Recorded}
use Rattle.steps.specs.declared.Step.{Step}
use Rattle.steps.specs.declared.Step.TheVariants.{Read, Write, Line}
use Rattle.numbers.specs.Promises.{told_at}
use Rattle.text.specs.Text.{newline, hex, decimal, field}
use Rattle.text.specs.Phrases.{bytes, counted}
use Rattle.trace.specs.Trace.{Trace}
use Rattle.kinds.specs.Kinds.{by_kind, wanted, tells_privilege}
use Rattle.machine.specs.declared.record.Machine.{Machine}
use Rattle.machine.specs.declared.Answer.{Answer}
use Rattle.machine.specs.Steps.{step}
use Rattle.beginning.specs.Begin.{begin_of}
use Rattle.beginning.specs.Play.{records_of}
use Rattle.register_words.specs.Registers.{place_words, field_words, limit_words}
use Rattle.deeds.specs.Deeds.{deed_words, output_words}
use Rattle.explain.specs.declared.Window.{Window}
use Rattle.explain.specs.declared.Window.TheVariants.{Whole, Part}
use Rattle.explain.specs.Stated.{numbers_at, controller, stated, to_column}

-- a statement and its comment
unfoldable pub commented : List ℕ → List ℕ → List ℕ
commented statement comment = to_column statement ++ bytes "# " ++ comment ++ (newline ∷ [])

-- ---- the controller

-- that of a CIC, with prioritised indices or without
unfoldable pub cic_document : List ℕ
cic_document = bytes "001: Texas Instruments, KeyStone Architecture Chip Interrupt Controller (CIC) User Guide, SPRUGW4A"

-- the maker's document that its kind is modelled on
unfoldable pub document_words : ℕ → List ℕ
document_words kind =
    by_kind kind
    (record {
      aic = bytes "003: Advanced Interrupt Controller (AIC), chapter 27 of a data sheet of AT91 products";
      core = bytes "004: Actel, CoreInterrupt, data sheet v2.1";
      cic = cic_document;
      aintc = bytes "000: Texas Instruments, KeyStone I Architecture ARM CorePac User Guide, SPRUHC4B";
      indexed = cic_document;
      none = [];
    })

-- the line of a kind, with its numbers, which follow it in the trace
unfoldable pub controller_line : List ℕ → ℕ → List ℕ
controller_line s kind = commented (controller kind (numbers_at (wanted kind) s (told_at s 0).place)) (document_words kind)

-- ---- a step

-- why it was refused, by the number of the refusal; a 6 by what is beyond its limit
unfoldable pub reason_words : Machine → Recorded → ℕ → List ℕ
reason_words m x n =
    pick (eqb n misaligned) (bytes "the offset is no multiple of 4")
    (pick (eqb n absent) (bytes "no register at this offset")
    (pick (eqb n unreadable) (bytes "this register can only be written")
    (pick (eqb n unwritable) (bytes "this register can only be read")
    (pick (eqb n beyond) (limit_words m x)
    (pick (eqb n unprivileged) (bytes "only a privileged access may do this")
    (bytes "a step that no rule takes"))))))

unfoldable pub refused_words : Machine → Recorded → ℕ → List ℕ
refused_words m x n = counted (bytes " refused by ") n ++ bytes ": " ++ reason_words m x n

unfoldable pub value_words : ℕ → List ℕ
value_words value = bytes " = 0x" ++ hex value

-- what an access that was carried out read, or wrote into which fields
abbrev pub access_words : Machine → Recorded → ℕ → Step → List ℕ
access_words m x value (Read offset) = value_words value
access_words m x value (Write offset v) = field_words m x
access_words m x value (Line line level) = []

-- what a step did that answered so
unfoldable pub did_words : Machine → Recorded → Answer → List ℕ
did_words m x a =
    pick (eqb a.refusal carried_out)
    (access_words m x a.value x.step ++ deed_words m x a.machine ++ output_words m a.machine)
    (refused_words m x a.refusal)

-- its comment: its number, where it went, and what it did
unfoldable pub step_words : ℕ → Machine → Recorded → Answer → List ℕ
step_words n m x a = decimal n ++ place_words m x ++ did_words m x a

unfoldable pub step_line : Bool → ℕ → Machine → Recorded → Answer → List ℕ
step_line told n m x a = commented (stated told x) (step_words n m x a)

-- ---- how a trace ends

-- what the numbers of a last E mean: 7, 8, 9, 10, else 11
unfoldable pub end_reason : ℕ → List ℕ
end_reason n =
    pick (eqb n limit_reached) (bytes "the limit of steps is reached, and bytes are left")
    (pick (eqb n damaged) (bytes "a number breaks off here, or has more than 32 bits or five bytes")
    (pick (eqb n unknown) (bytes "no controller or step has this number")
    (pick (eqb n misconfigured) (bytes "the controller cannot be configured so")
    (bytes "the trace has more than 65536 bytes"))))

unfoldable pub end_line : ℕ → ℕ → List ℕ
end_line refusal offset = bytes "# E" ++ field refusal ++ field offset ++ bytes ": " ++ end_reason refusal ++ (newline ∷ [])

-- ---- all of it, or a window

-- all lines; or those of so many steps from one of this number on, and nothing else
abbrev pub whole : Window
whole = Whole

abbrev pub window_of : ℕ → ℕ → Window
window_of first steps = Part first steps

abbrev pub is_whole : Window → Bool
is_whole Whole = true
is_whole (Part first steps) = false

-- the line of step n is shown
unfoldable pub shows : Window → ℕ → Bool
shows Whole n = true
shows (Part first steps) n = leb first n && ltb n (first + steps)

-- step records of which n others come before
unfoldable pub lines_from : Window → Bool → ℕ → Machine → List Recorded → List ℕ
lines_from w told n m [] = []
lines_from w told n m (x ∷ xs) =
    pick (shows w (n + 1)) (step_line told (n + 1) m x (step m x)) [] ++ lines_from w told (n + 1) (step m x).machine xs

-- the line of a last E; a trace that ends without a refusal has none
unfoldable pub end_of : Window → ℕ → ℕ → List ℕ
end_of w refusal offset = pick (is_whole w && not (eqb refusal carried_out)) (end_line refusal offset) []

unfoldable pub text_from : Window → Bool → ℕ → Machine → Trace → List ℕ
text_from w told n m t = lines_from w told n m t.steps ++ end_of w t.refusal t.offset

unfoldable pub head_of : Window → List ℕ → ℕ → List ℕ
head_of w s kind = pick (is_whole w) (controller_line s kind) []

-- a trace that starts a controller
unfoldable pub started_text : Window → List ℕ → Machine → Trace → List ℕ
started_text w s m t = head_of w s m.kind ++ text_from w (tells_privilege m.kind) 0 m t

-- a trace of which at most so many steps are played; one that starts none is its last line
unfoldable pub explained_by : Window → List ℕ → ℕ → List ℕ
explained_by w s limit =
    pick (eqb (begin_of s).refusal carried_out) (started_text w s (begin_of s).machine (records_of s limit)) (end_of w (begin_of s).refusal (begin_of s).place)

abbrev pub explained_of : List ℕ → ℕ → List ℕ
explained_of s limit = explained_by whole s limit

abbrev pub explained_window : List ℕ → ℕ → ℕ → ℕ → List ℕ
explained_window s limit first steps = explained_by (window_of first steps) s limit
