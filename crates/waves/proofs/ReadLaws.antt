-- Waves read back: the values of each moment, and how long the text is.
use Prim.Native.Nat.{ℕ, zero, suc, ◌+◌, ◌*◌, ◌%◌, ◌^◌, ◌<◌, ◌≤◌}
use mathlib.Core.Path.{◌≡◌, refl, sym, ap, ap₂, ◌∙◌}
use mathlib.Core.Bool.{true}
use mathlib.Core.List.{List, [], ◌∷◌, ◌++◌, map, map-map, append_assoc}
use mathlib.Core.Logic.{◌≢◌, ⊎_elim}
use native.Mathlib.Nat.{add-zero, zero-add, mul-le-mul_left, mul-le-mul_right}
use native.Mathlib.Numerals.{add-one}
use native.Mathlib.Decide.{ℕ_discrete}
use native.Mathlib.Omega.{arith}
use lib.Dec.{eqb}
use lib.ListN.{length, get_or, length-append, length-map}
use borrow.Author.Tests.{eq-eqb, ne_eqb}
use Rattle.words.proofs.ChoiceLaws.{pick_true, pick-false, pick_cases}
use Rattle.words.proofs.TruthLaws.{clash, told}
use Rattle.steps.specs.Refusals.{carried_out}
use Rattle.steps.specs.declared.Recorded.{Recorded}
use Rattle.steps.specs.declared.Step.{Step}
use Rattle.steps.specs.declared.Step.TheVariants.{Read, Write, Line}
use Rattle.text.specs.Text.{field}
use Rattle.text.specs.Phrases.{bytes}
use Rattle.vcd.specs.Dump.{opening, declared, heading, ticks}
use Rattle.vcd.specs.Promises.{held, held_from, most_bytes}
use Rattle.vcd.specs.Replay.{replay}
use Rattle.vcd.proofs.Promises.{kept as vcd}
use Rattle.kinds.specs.Kinds.{is_kind, name}
use Rattle.kinds.proofs.KindLaws.{KindOf, is_aic, is_core, is_cic, is_aintc, is_indexed, is_none, kind_of}
use Rattle.machine.specs.declared.record.Machine.{Machine}
use Rattle.machine.proofs.RecordPromises.{kept as record-kept}
use Rattle.machine.specs.declared.Answer.{Answer}
use Rattle.machine.specs.Steps.{step}
use Rattle.machine.proofs.Promises.{kept as machine}
use Rattle.beginning.specs.Begin.{begin_of}
use Rattle.beginning.proofs.BeginningLaws.{begin-ready}
use Rattle.beginning.specs.Play.{records_of, run_of, report, play_of}
use Rattle.beginning.proofs.PlayLaws.{records_limited}
use Rattle.waves.specs.Signals.{Moment, signals, widths, values}
use Rattle.waves.proofs.SignalsPromises.{kept as shows}
use Rattle.waves.proofs.SignalLaws.{rows_aic, rows_core, rows-cic, rows_aintc, rows-indexed, rows_none}
use Rattle.lines.specs.Listing.{letter_of, letter}
use Rattle.waves.specs.SignalsPromises.{Fits}
use Rattle.waves.specs.Moments.{at_start, after, moments_from}
use Rattle.waves.specs.Waves.{dump_of, no_dump, waves_of}
use Rattle.waves.specs.Promises.{first, widths_of, moments, read_back}

-- ---- the whole

pub begun : (s : List ℕ) (limit : ℕ) → (begin_of s).refusal ≡ 0
    → waves_of s limit
    ≡ heading (name (first s).kind) (signals (first s).kind)
    ++ ticks (widths_of s) (values (at_start (first s))) (map values (moments_from (first s) (records_of s limit).steps)) (play_of s limit).refusal (play_of s limit).offset
unfolding waves_of dump_of play_of report
begun s limit e = sym (pick_true _ (eq-eqb (begin_of s).refusal 0 e))

refused : (s : List ℕ) (limit : ℕ) → (begin_of s).refusal ≢ 0 → waves_of s limit ≡ no_dump (begin_of s).refusal (begin_of s).place
unfolding waves_of
refused s limit e = sym (pick-false _ (ne_eqb (begin_of s).refusal 0 e))

pub not-begun : (s : List ℕ) (limit : ℕ) → (begin_of s).refusal ≢ 0
    → waves_of s limit
    ≡ bytes "$comment one tick is one step of the trace, refused steps counted; tick 0 is the start $end\n$timescale 1 ns $end\n$enddefinitions $end\n$comment E"
    ++ field (begin_of s).refusal ++ field (begin_of s).place ++ bytes " $end\n"
not-begun s limit e = refused s limit e ∙ unfold no_dump opening declared bytes in (rw (vcd.ended (begin_of s).refusal (begin_of s).place e) (simp append_assoc))

-- ---- read back

-- the machine that a trace begins with is of a known kind
known-kind : (s : List ℕ) → (begin_of s).refusal ≡ 0 → is_kind (first s).kind ≡ true
known-kind s e =
    ⊎_elim (λ t. t) (λ f. clash (begin-ready s (begin_of s) refl e).0 (record-kept.none_sound (first s) f)) (told (is_kind (first s).kind))

few-widths : (kind : ℕ) → length (widths kind) ≤ 94
few-widths kind = omega (arith, shows.widths_many kind, shows.few kind)

pub reads : (s : List ℕ) (limit : ℕ) → (begin_of s).refusal ≡ 0 → read_back s limit ≡ map (λ (x : Moment). held (widths_of s) (values x)) (moments s limit)
reads s limit e =
    let ms = moments_from (first s) (records_of s limit).steps in
    ap (replay (length (widths_of s))) (begun s limit e)
    ∙ vcd.reads (heading (name (first s).kind) (signals (first s).kind)) (widths_of s) (values (at_start (first s))) (map values ms) (play_of s limit).refusal (play_of s limit).offset
    (shows.quiet (first s).kind (known-kind s e)) (few-widths (first s).kind)
    ∙ ap (λ (l : List (List ℕ)). held (widths_of s) (values (at_start (first s))) ∷ l) (map-map (held (widths_of s)) values ms)

-- as many moments as steps
many : (m : Machine) (xs : List Recorded) → length (moments_from m xs) ≡ length xs
unfolding moments_from
many m [] = refl
many m (x ∷ xs) = ap suc (many (step m x).machine xs)

pub ticks_many : (s : List ℕ) (limit : ℕ) → (begin_of s).refusal ≡ 0 → length (read_back s limit) ≡ suc (play_of s limit).steps
unfolding play_of report
ticks_many s limit e =
    ap length (reads s limit e)
    ∙ length-map (moments s limit) (λ (x : Moment). held (widths_of s) (values x))
    ∙ ap suc (many (first s) (records_of s limit).steps ∙ sym (zero-add (length (records_of s limit).steps)))

-- the moment after some steps, as it is told
moment-after : (f : Moment → List ℕ) (m : Machine) (before : List Recorded) (x : Recorded) (rest : List Recorded)
    → get_or (map f (moments_from m (before ++ (x ∷ rest)))) (length before) [] ≡ f (after x (step (run_of m before) x))
unfolding moments_from run_of
moment-after f m [] x rest = refl
moment-after f m (y ∷ before) x rest = moment-after f (step m y).machine before x rest

pub tick_of-step : (s : List ℕ) (limit : ℕ) (before : List Recorded) (x : Recorded) (rest : List Recorded) → (begin_of s).refusal ≡ 0
    → (records_of s limit).steps ≡ before ++ (x ∷ rest)
    → get_or (read_back s limit) (length before + 1) [] ≡ held (widths_of s) (values (after x (step (run_of (first s) before) x)))
tick_of-step s limit before x rest e h =
    let f : Moment → List ℕ = λ y. held (widths_of s) (values y) in
    ap₂ (λ (l : List (List ℕ)) (n : ℕ). get_or l n []) (reads s limit e) (add-one (length before))
    ∙ ap (λ (xs : List Recorded). get_or (map f (moments_from (first s) xs)) (length before) []) h ∙ moment-after f (first s) before x rest

-- ---- values that their bits hold

kind-run : (m : Machine) (xs : List Recorded) → (run_of m xs).kind ≡ m.kind
unfolding run_of
kind-run m [] = refl
kind-run m (x ∷ xs) = kind-run (step m x).machine xs ∙ machine.step_kind m x

pub kind_stays : (m : Machine) (before : List Recorded) (x : Recorded) → (after x (step (run_of m before) x)).machine.kind ≡ m.kind
kind_stays m before x = machine.step_kind (run_of m before) x ∙ kind-run m before

held_at : (j : ℕ) (ws now : List ℕ) (k : ℕ) → k < length ws → get_or (held_from j ws now) k 0 ≡ get_or now (j + k) 0 % 2 ^ get_or ws k 0
unfolding held_from
held_at j [] now k h = absurd (omega arith)
held_at j (w ∷ ws) now zero h = ap (λ (n : ℕ). get_or now n 0 % 2 ^ w) (sym (add-zero j))
held_at j (w ∷ ws) now (suc k) h =
    let e : j + 1 + k ≡ j + suc k = omega arith in
    held_at (j + 1) ws now k (omega arith) ∙ ap (λ (n : ℕ). get_or now n 0 % 2 ^ get_or ws k 0) e

pub exact : (ws now : List ℕ) (k : ℕ) → k < length ws → get_or now k 0 < 2 ^ get_or ws k 0 → get_or (held ws now) k 0 ≡ get_or now k 0
exact ws now k h f =
    held_at 0 ws now k h ∙ ap (λ (n : ℕ). get_or now n 0 % 2 ^ get_or ws k 0) (zero-add k) ∙ vcd.holds (get_or now k 0) (get_or ws k 0) f

letter_small : (x : Step) (refusal : ℕ) → letter x refusal < 256
unfolding letter
letter_small x refusal = pick_cases (λ (n : ℕ). n < 256) (eqb refusal carried_out) (λ e. by x) (λ e. omega arith)
  where
    by : (y : Step) → letter_of y < 256
    by (Read o) = omega arith
    by (Write o v) = omega arith
    by (Line k l) = omega arith

pub letter-fits : (x : Recorded) (a : Answer) → Fits (after x a) 2
letter-fits x a = let e = (shows.every (after x a)).2 in rw (e.1, e.2) (letter_small x.step a.refusal)

-- ---- how long

most-by : (kind : ℕ) → most_bytes (widths kind) ≤ 207
unfolding widths most_bytes
most-by kind = go (kind_of kind)
  where
    go : KindOf kind → most_bytes (widths kind) ≤ 207
    go (is_aic k) = rw (sym (rows_aic kind k)) (omega arith)
    go (is_core k) = rw (sym (rows_core kind k)) (omega arith)
    go (is_cic k) = rw (sym (rows-cic kind k)) (omega arith)
    go (is_aintc k) = rw (sym (rows_aintc kind k)) (omega arith)
    go (is_indexed k) = rw (sym (rows-indexed kind k)) (omega arith)
    go (is_none a b c d e) = rw (sym (rows_none kind a b c d e)) (omega arith)

no_dump_lem : (refusal offset : ℕ) → length (no_dump refusal offset) ≤ 192
unfolding no_dump opening declared bytes
no_dump_lem refusal offset = simp length-append (omega (arith, vcd.end_most refusal offset))

pub bounded : (s : List ℕ) (limit d : ℕ) → 0 < d → limit < 10 ^ d → length (waves_of s limit) ≤ (d + 209) * limit + 737
bounded s limit d p h = go (ℕ_discrete (begin_of s).refusal 0)
  where
    xs : List Recorded
    xs = (records_of s limit).steps

    rest : List (List ℕ)
    rest = map values (moments_from (first s) xs)

    long : length rest ≤ limit
    long = omega (arith, length-map (moments_from (first s) xs) values, many (first s) xs, records_limited limit s (begin_of s))

    go : Dec ((begin_of s).refusal ≡ 0) → length (waves_of s limit) ≤ (d + 209) * limit + 737
    go (yes e) =
        let head = heading (name (first s).kind) (signals (first s).kind) in
        let all = ticks (widths_of s) (values (at_start (first s))) rest (play_of s limit).refusal (play_of s limit).offset in
        let m = most-by (first s).kind in
        let a = ap length (begun s limit e) ∙ length-append head all in
        let b = shows.heading_most (first s).kind (known-kind s e) in
        let c = vcd.most d (widths_of s) (values (at_start (first s))) rest (play_of s limit).refusal (play_of s limit).offset p (omega (arith, long)) in
        let q : (d + 2 + most_bytes (widths_of s)) * length rest ≤ (d + 209) * length rest = mul-le-mul_right (length rest) (omega arith) in
        let r : (d + 209) * length rest ≤ (d + 209) * limit = mul-le-mul_left (d + 209) long in
        omega (arith, a, b, c, q, r, m)
    go (no e) = omega (arith, ap length (refused s limit e), no_dump_lem (begin_of s).refusal (begin_of s).place)
