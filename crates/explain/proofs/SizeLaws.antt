-- How long the lines of an explanation are, and all of it.
use Prim.Native.Nat.{ℕ, ◌+◌, ◌-◌, ◌*◌, ◌^◌, ◌≤◌, ◌<◌}
use mathlib.Core.Path.{◌≡◌}
use mathlib.Core.Bool.{Bool, true, false, ◌&&◌, not}
use mathlib.Core.List.{List, [], ◌∷◌}
use native.Mathlib.Omega.{arith}
use lib.Dec.{eqb, ltb}
use lib.ListN.{length, replicate, length-append, length-replicate}
use borrow.Author.Tests.{ltb-true}
use Rattle.words.specs.Choice.{pick}
use Rattle.words.proofs.ChoiceLaws.{pick_cases}
use Rattle.steps.specs.Refusals.{carried_out, misaligned, absent, unreadable, unwritable, beyond, unprivileged, limit_reached, damaged, unknown, misconfigured}
use Rattle.steps.specs.declared.Recorded.{Recorded}
use Rattle.steps.specs.declared.Step.{Step}
use Rattle.steps.specs.declared.Step.TheVariants.{Read, Write, Line}
use Rattle.numbers.specs.Promises.{told_at}
use Rattle.numbers.proofs.Promises as Numbers
use Rattle.text.specs.Text.{space, field}
use Rattle.text.proofs.DigitLaws.{length-hex, length-below, length-decimal, length-field}
use Rattle.text.specs.Phrases.{bytes, counted}
use Rattle.text.proofs.SizeLaws.{length_word}
use Rattle.trace.specs.Promises.{Reads, Along}
use Rattle.trace.specs.Steps.{numbers_of}
use Rattle.trace.specs.Trace.{Trace, steps_from}
use Rattle.trace.proofs.Promises as Traces
use Rattle.kinds.specs.Kinds.{wanted, tells_privilege}
use Rattle.machine.specs.declared.record.Machine.{Machine}
use Rattle.machine.specs.declared.Answer.{Answer}
use Rattle.machine.specs.Steps.{step}
use Rattle.beginning.specs.declared.Begun.{Begun}
use Rattle.beginning.specs.Begin.{begin_of}
use Rattle.beginning.specs.Play.{records_from, records_of}
use Rattle.beginning.proofs.PlayLaws.{records_limited}
use Rattle.register_words.proofs.RegisterLaws.{place-length, field-length, limit-length}
use Rattle.deeds.proofs.DeedLaws.{deed-length, output-length}
use Rattle.explain.specs.declared.Window.{Window}
use Rattle.explain.specs.Stated.{offset_digits, numbers_at, controller, privilege_field, read_stated, write_stated, line_stated, stated_by, stated, gap, to_column}
use Rattle.explain.specs.Explain.{commented, cic_document, document_words, controller_line, reason_words, refused_words, value_words, access_words, did_words, step_words, step_line}
use Rattle.explain.specs.Explain.{end_reason, end_line, is_whole, shows, lines_from, end_of, text_from, head_of, started_text, explained_by}
use Rattle.explain.specs.Promises.{Words, AllWords}
use Rattle.explain.proofs.StatedLaws.{digits-most, length-hex_field, controller-fits, each-kind}

-- ---- the numbers of a trace fit 32 bits

pub reads_fit : (s : List ℕ) (at : ℕ) (ns : List ℕ) (p : ℕ) → Reads s at ns p → Words ns
reads_fit s at [] p h = tt
reads_fit s at (n ∷ ns) p h = (omega (arith, (Numbers.kept).fits s at, h.1.0), reads_fit s (told_at s at).place ns p h.1.1)

along_fit : (told : Bool) (s : List ℕ) (at : ℕ) (xs : List Recorded) (p : ℕ) → Along told s at xs p → AllWords told xs
along_fit told s at [] p h = tt
along_fit told s at (x ∷ xs) p h =
    (reads_fit s at (numbers_of told x) h.0 (((Traces.kept).found told s at h.0 x).0 h.1).1, along_fit told s h.0 xs p h.2)

pub steps_fit : (told : Bool) (limit : ℕ) (s : List ℕ) (at : ℕ) → AllWords told (steps_from told limit s at).steps
steps_fit told limit s at = let t = (Traces.kept).trace told limit s at in along_fit told s at (steps_from told limit s at).steps t.0 t.1

pub records_fit : (limit : ℕ) (s : List ℕ) (b : Begun) → AllWords (tells_privilege b.machine.kind) (records_from limit s b).steps
unfolding records_from
records_fit limit s b =
    pick_cases (λ (t : Trace). AllWords (tells_privilege b.machine.kind) t.steps) (eqb b.refusal carried_out)
    (λ e. steps_fit (tells_privilege b.machine.kind) limit s b.place) (λ e. tt)

-- ---- a statement

field-most : (n : ℕ) → n < 2 ^ 32 → length (field n) ≤ 11
unfolding field
field-most n h = omega (arith, length_word n h)

stated-by : (told : Bool) (p : ℕ) (x : Step) → Words (numbers_of told (record { step = x; privilege = p })) → length (stated_by told p x) ≤ 38
unfolding read_stated write_stated line_stated privilege_field bytes pick
stated-by false p (Read o) h = simp length-append (omega (arith, length-hex_field (offset_digits o) o, digits-most o))
stated-by true p (Read o) h = simp length-append (omega (arith, length-hex_field (offset_digits o) o, digits-most o, field-most p h.1.1.0))
stated-by false p (Write o v) h = simp length-append (omega (arith, length-hex_field (offset_digits o) o, digits-most o, length-hex_field 8 v))
stated-by true p (Write o v) h = simp length-append (omega (arith, length-hex_field (offset_digits o) o, digits-most o, length-hex_field 8 v, field-most p h.1.1.0))
stated-by false p (Line l v) h = simp length-append (omega (arith, field-most l h.1.0, field-most v h.1.1.0))
stated-by true p (Line l v) h = simp length-append (omega (arith, field-most l h.1.0, field-most v h.1.1.0))

pub stated-most : (told : Bool) (x : Recorded) → Words (numbers_of told x) → length (stated told x) ≤ 38
unfolding stated
stated-most told x h = stated-by told x.privilege x.step h

pub column-most : (l : List ℕ) (k : ℕ) → length l ≤ k → 27 ≤ k → length (to_column l) ≤ k + 1
unfolding to_column gap
column-most l k h m =
    let e : (n : ℕ) → length {A = ℕ} (replicate n space) ≡ n = λ n. length-replicate {0} {A = ℕ} n space in
    simp length-append (pick_cases (λ (n : ℕ). length l + length {A = ℕ} (replicate n space) ≤ k + 1) (ltb (length l) 28)
    (λ t. omega (arith, e (28 - length l), ltb-true (length l) 28 t)) (λ t. omega (arith, e 1)))

pub commented-most : (l c : List ℕ) (k : ℕ) → length l ≤ k → 27 ≤ k → length (commented l c) ≤ k + 4 + length c
unfolding commented bytes
commented-most l c k h m = simp length-append (omega (arith, column-most l k h m))

-- ---- a comment

pub document-most : (kind : ℕ) → length (document_words kind) ≤ 99
unfolding document_words cic_document bytes
document-most kind = each-kind (λ (l : List ℕ). length l ≤ 99) kind _ (omega arith) (omega arith) (omega arith) (omega arith) (omega arith) (omega arith)

pub reason-most : (m : Machine) (x : Recorded) (n : ℕ) → length (reason_words m x n) ≤ 36
unfolding reason_words bytes
reason-most m x n =
    pick_cases (λ (l : List ℕ). length l ≤ 36) (eqb n misaligned) (λ e. omega arith)
    (λ e. pick_cases (λ (l : List ℕ). length l ≤ 36) (eqb n absent) (λ e. omega arith)
    (λ e. pick_cases (λ (l : List ℕ). length l ≤ 36) (eqb n unreadable) (λ e. omega arith)
    (λ e. pick_cases (λ (l : List ℕ). length l ≤ 36) (eqb n unwritable) (λ e. omega arith)
    (λ e. pick_cases (λ (l : List ℕ). length l ≤ 36) (eqb n beyond) (λ e. omega (arith, limit-length m x))
    (λ e. pick_cases (λ (l : List ℕ). length l ≤ 36) (eqb n unprivileged) (λ e. omega arith) (λ e. omega arith))))))

refused-most : (m : Machine) (x : Recorded) (n : ℕ) → length (refused_words m x n) ≤ 70
unfolding refused_words counted bytes
refused-most m x n = simp length-append (omega (arith, length-decimal 20 n, reason-most m x n))

access-most : (m : Machine) (x : Recorded) (v : ℕ) (y : Step) → length (access_words m x v y) ≤ 76
unfolding value_words bytes
access-most m x v (Read o) = simp length-append (omega (arith, length-hex 8 v))
access-most m x v (Write o u) = field-length m x
access-most m x v (Line l u) = omega arith

did-most : (m : Machine) (x : Recorded) (a : Answer) → length (did_words m x a) ≤ 170
unfolding did_words
did-most m x a =
    pick_cases (λ (l : List ℕ). length l ≤ 170) (eqb a.refusal carried_out)
    (λ e. simp length-append (omega (arith, access-most m x a.value x.step, deed-length m x a.machine, output-length m a.machine)))
    (λ e. omega (arith, refused-most m x a.refusal))

pub words-most : (n : ℕ) (m : Machine) (x : Recorded) (a : Answer) → n < 100000 → length (step_words n m x a) ≤ 211
unfolding step_words
words-most n m x a h = simp length-append (omega (arith, length-below 20 5 n (omega arith) (omega arith), place-length m x, did-most m x a))

-- ---- lines

pub line-most : (told : Bool) (n : ℕ) (m : Machine) (x : Recorded) (a : Answer) → n < 100000 → Words (numbers_of told x) → length (step_line told n m x a) ≤ 256
unfolding step_line
line-most told n m x a h f = omega (arith, commented-most (stated told x) (step_words n m x a) 38 (stated-most told x f) (omega arith), words-most n m x a h)

pub head-most : (s : List ℕ) (kind : ℕ) → length (controller_line s kind) ≤ 256
unfolding controller_line
head-most s kind =
    omega (arith, commented-most (controller kind (numbers_at (wanted kind) s (told_at s 0).place)) (document_words kind) 128 (controller-fits kind s (told_at s 0).place) (omega arith), document-most kind)

pub end-most : (refusal offset : ℕ) → length (end_line refusal offset) ≤ 256
unfolding end_line end_reason bytes
end-most refusal offset = simp length-append (omega (arith, length-field refusal, length-field offset, reasons))
  where
    reasons : length (end_reason refusal) ≤ 64
    reasons =
        pick_cases (λ (l : List ℕ). length l ≤ 64) (eqb refusal limit_reached) (λ e. omega arith)
        (λ e. pick_cases (λ (l : List ℕ). length l ≤ 64) (eqb refusal damaged) (λ e. omega arith)
        (λ e. pick_cases (λ (l : List ℕ). length l ≤ 64) (eqb refusal unknown) (λ e. omega arith)
        (λ e. pick_cases (λ (l : List ℕ). length l ≤ 64) (eqb refusal misconfigured) (λ e. omega arith) (λ e. omega arith))))

-- ---- all of it

lines-most : (w : Window) (told : Bool) (n : ℕ) (m : Machine) (xs : List Recorded) → n + length xs < 100000 → AllWords told xs
    → length (lines_from w told n m xs) ≤ 256 * length xs
unfolding lines_from
lines-most w told n m [] h f = omega arith
lines-most w told n m (x ∷ xs) h f =
    simp length-append (omega (arith, one, lines-most w told (n + 1) (step m x).machine xs (omega arith) f.1))
  where
    one : length (pick (shows w (n + 1)) (step_line told (n + 1) m x (step m x)) []) ≤ 256
    one = pick_cases (λ (l : List ℕ). length l ≤ 256) (shows w (n + 1)) (λ e. line-most told (n + 1) m x (step m x) (omega arith) f.0) (λ e. omega arith)

end_of_lem : (w : Window) (refusal offset : ℕ) → length (end_of w refusal offset) ≤ 256
unfolding end_of
end_of_lem w refusal offset = pick_cases (λ (l : List ℕ). length l ≤ 256) (is_whole w && not (eqb refusal carried_out)) (λ e. end-most refusal offset) (λ e. omega arith)

head_of_lem : (w : Window) (s : List ℕ) (kind : ℕ) → length (head_of w s kind) ≤ 256
unfolding head_of
head_of_lem w s kind = pick_cases (λ (l : List ℕ). length l ≤ 256) (is_whole w) (λ e. head-most s kind) (λ e. omega arith)

pub explained-most : (w : Window) (s : List ℕ) (limit : ℕ) → limit < 100000 → length (explained_by w s limit) ≤ 256 * limit + 512
unfolding explained_by started_text text_from
explained-most w s limit h =
    pick_cases (λ (l : List ℕ). length l ≤ 256 * limit + 512) (eqb (begin_of s).refusal carried_out)
    (λ e.
    simp length-append (omega (arith, head_of_lem w s (begin_of s).machine.kind, end_of_lem w t.refusal t.offset, few, lines-most w told 0 (begin_of s).machine t.steps (omega (arith, few)) (records_fit limit s (begin_of s)))))
    (λ e. omega (arith, end_of_lem w (begin_of s).refusal (begin_of s).place))
  where
    told : Bool
    told = tells_privilege (begin_of s).machine.kind

    t : Trace
    t = records_of s limit

    few : length (records_of s limit).steps ≤ limit
    few = records_limited limit s (begin_of s)
