-- The promises of a listing, kept.
use Prim.Native.Nat.{ℕ, suc, ◌+◌}
use mathlib.Core.Path.{◌≡◌, refl, sym, ap, ◌∙◌}
use mathlib.Core.List.{List, [], ◌∷◌, ◌++◌, append_assoc}
use mathlib.Core.Logic.{◌≢◌}
use native.Mathlib.Nat.{add-zero, zero-add}
use native.Mathlib.Decide.{ℕ_discrete}
use native.Mathlib.Omega.{arith}
use lib.Dec.{eqb}
use lib.ListN.{length, get_or}
use borrow.Author.Tests.{eq-eqb, ne_eqb}
use Rattle.words.specs.Choice.{pick}
use Rattle.words.specs.Counting.{one}
use Rattle.words.proofs.ChoiceLaws.{pick_true, pick-false}
use Rattle.steps.specs.Refusals.{carried_out}
use Rattle.steps.specs.declared.Recorded.{Recorded}
use Rattle.steps.specs.declared.Step.{Step}
use Rattle.steps.specs.declared.Step.TheVariants.{Read, Write, Line}
use Rattle.text.specs.Text.{decimal, field, laid}
use Rattle.text.proofs.Promises.{kept as text}
use Rattle.text.proofs.WriteLaws.{write-laid}
use Rattle.trace.specs.Trace.{Trace}
use Rattle.machine.specs.declared.Answer.{Answer}
use Rattle.machine.specs.declared.record.Columns.{Columns}
use Rattle.machine.specs.declared.record.Machine.{Machine}
use Rattle.kinds.specs.Kinds.{name}
use Rattle.kinds.specs.Promises.{endings}
use Rattle.machine.specs.Shown.{shown}
use Rattle.machine.specs.Steps.{step}
use Rattle.beginning.specs.declared.Begun.{Begun}
use Rattle.beginning.specs.declared.reports.Played.{Played}
use Rattle.beginning.specs.Begin.{begin_of}
use Rattle.beginning.specs.Play.{records_of, run_of, report, play_of}
use Rattle.beginning.proofs.PlayLaws.{records-begun}
use Rattle.player.proofs.Promises.{kept as player}
use Rattle.beginning.proofs.BeginningLaws.{begin-ready}
use Rattle.lines.specs.Listing.{letter_of, letter, shown_value, line_of, step_line, lines_from, joined, end_line, end_of, text_from, listing_of}
use Rattle.listing.specs.Promises.{lines_of, line_bytes, Promises}
use Rattle.listing.proofs.Examples.{aic_listed, nothing_listed, core_listed, cic_listed, aintc_listed, aintc_alone}
use Rattle.lines.proofs.EndingLaws.{endings_append, lines_end, end-ends, name-ends}
use Rattle.lines.proofs.LineLaws.{listing-begun, listing-refused}
use Rattle.lines.proofs.SizeLaws.{length_listing}
use Rattle.listing.proofs.IndexedExamples.{met, indexed_listed}
use Rattle.listing.proofs.ListedLaws.{off_listed, off-ends, off-same, off_as_long}
use Rattle.listing.proofs.OffLaws.{off_text}

-- how the records end is how the play does
ending : (s : List ℕ) (limit : ℕ) → end_of (records_of s limit).refusal (records_of s limit).offset ≡ end_of (play_of s limit).refusal (play_of s limit).offset
unfolding play_of report
ending s limit = refl

begun : (s : List ℕ) (limit : ℕ) → (begin_of s).refusal ≡ carried_out
    → listing_of s limit ≡ name (begin_of s).machine.kind ++ (joined (lines_of s limit) ++ end_of (play_of s limit).refusal (play_of s limit).offset)
unfolding text_from
begun s limit e =
    let b = begin_of s in
    sym (listing-begun s limit b refl e) ∙ ap (λ (t : Trace). name b.machine.kind ++ text_from 0 b.machine t) (sym (records-begun limit s b e))
    ∙ ap (λ (l : List ℕ). name b.machine.kind ++ (joined (lines_of s limit) ++ l)) (ending s limit)

not-begun : (s : List ℕ) (limit : ℕ) → (begin_of s).refusal ≢ carried_out → listing_of s limit ≡ end_of (play_of s limit).refusal (play_of s limit).offset
not-begun s limit e =
    sym (listing-refused s limit (begin_of s) refl e) ∙ ap (λ (r : Played). end_of r.refusal r.offset) (sym (player.nothing s limit e))

lines-from : (n : ℕ) (m : Machine) (xs : List Recorded) → length (lines_from n m xs) ≡ length xs
unfolding lines_from
lines-from n m [] = refl
lines-from n m (x ∷ xs) = let h = lines-from (n + 1) (step m x).machine xs in omega arith

ended : (s : List ℕ) (limit : ℕ)
    → endings (listing_of s limit) ≡ one (eqb (begin_of s).refusal carried_out) + (play_of s limit).steps + pick (eqb (play_of s limit).refusal carried_out) 0 1
ended s limit = go (ℕ_discrete (begin_of s).refusal carried_out)
  where
    b : Begun
    b = begin_of s

    r : Played
    r = play_of s limit

    go : Dec ((begin_of s).refusal ≡ carried_out) → endings (listing_of s limit) ≡ one (eqb (begin_of s).refusal carried_out) + (play_of s limit).steps + pick (eqb (play_of s limit).refusal carried_out) 0 1
    go (yes e) =
        let last = end-ends r.refusal r.offset in
        let all = lines_end 0 b.machine (records_of s limit).steps in
        let name = name-ends b.machine (begin-ready s b refl e).0 in
        let count = player.counted s limit in
        rw (begun s limit e, eq-eqb b.refusal carried_out e) (simp endings_append (omega arith))
    go (no e) =
        let last = end-ends r.refusal r.offset in
        let count : r.steps ≡ 0 = ap (λ (x : Played). x.steps) (player.nothing s limit e) in
        rw (not-begun s limit e, ne_eqb b.refusal carried_out e) (omega arith)

-- ---- lines

-- the line after those of some steps
line_after : (n : ℕ) (m : Machine) (before : List Recorded) (x : Recorded) (after : List Recorded)
    → get_or (lines_from n m (before ++ (x ∷ after))) (length before) [] ≡ step_line (n + length before + 1) x.step (step (run_of m before) x)
unfolding lines_from run_of
line_after n m [] x after = ap (λ (k : ℕ). step_line (k + 1) x.step (step m x)) (sym (add-zero n))
line_after n m (y ∷ before) x after =
    let e : n + 1 + length before + 1 ≡ n + suc (length before) + 1 = omega arith in
    line_after (n + 1) (step m y).machine before x after ∙ ap (λ (k : ℕ). step_line k x.step (step (run_of (step m y).machine before) x)) e

line_of-step : (s : List ℕ) (limit : ℕ) (before : List Recorded) (x : Recorded) (after : List Recorded) → (records_of s limit).steps ≡ before ++ (x ∷ after)
    → get_or (lines_of s limit) (length before) [] ≡ step_line (length before + 1) x.step (step (run_of (begin_of s).machine before) x)
line_of-step s limit before x after e =
    ap (λ (xs : List Recorded). get_or (lines_from 0 (begin_of s).machine xs) (length before) []) e ∙ line_after 0 (begin_of s).machine before x after
    ∙ ap (λ (k : ℕ). step_line (k + 1) x.step (step (run_of (begin_of s).machine before) x)) (zero-add (length before))

line-bytes : (n l v : ℕ) (c : Columns) → line_of n l v c ≡ line_bytes n l v c
unfolding line_of field
line-bytes n l v c = simp append_assoc

carried_out_lem : (n : ℕ) (x : Step) (a : Answer) → a.refusal ≡ 0 → step_line n x a ≡ line_bytes n (letter_of x) a.value (shown a.machine)
unfolding letter shown_value
carried_out_lem n x a e =
    let t = eq-eqb a.refusal 0 e in
    ap (λ (k : ℕ). line_of n k (shown_value a.refusal a.value) (shown a.machine)) (sym (pick_true _ t))
    ∙ ap (λ (k : ℕ). line_of n (letter_of x) k (shown a.machine)) (sym (pick_true _ t)) ∙ line-bytes n (letter_of x) a.value (shown a.machine)

refused-line : (n : ℕ) (x : Step) (a : Answer) → a.refusal ≢ 0 → step_line n x a ≡ line_bytes n 88 a.refusal (shown a.machine)
unfolding letter shown_value
refused-line n x a e =
    let t = ne_eqb a.refusal 0 e in
    ap (λ (k : ℕ). line_of n k (shown_value a.refusal a.value) (shown a.machine)) (sym (pick-false _ t))
    ∙ ap (λ (k : ℕ). line_of n 88 k (shown a.machine)) (sym (pick-false _ t)) ∙ line-bytes n 88 a.refusal (shown a.machine)

end-bytes : (refusal offset : ℕ) → refusal ≢ 0 → end_of refusal offset ≡ 69 ∷ 32 ∷ (decimal refusal ++ (32 ∷ (decimal offset ++ (10 ∷ []))))
unfolding end_of end_line field
end-bytes refusal offset e = sym (pick-false _ (ne_eqb refusal 0 e)) ∙ simp append_assoc

pub kept : Promises
unfolding joined end_of pick laid
kept =
    record {
      begun = begun;
      not_begun = not-begun;
      joined_none = refl;
      joined_more = λ l ls. refl;
      lines = λ s limit. lines-from 0 (begin_of s).machine (records_of s limit).steps ∙ sym (player.counted s limit);
      line_of_step = line_of-step;
      read_line = λ n offset a e. carried_out_lem n (Read offset) a e;
      write_line = λ n offset value a e. carried_out_lem n (Write offset value) a e;
      line_line = λ n line level a e. carried_out_lem n (Line line level) a e;
      refused_line = refused-line;
      end_none = λ offset. refl;
      end_line = end-bytes;
      ended = ended;
      bounded = length_listing;
      fits = λ s l limit h. sym (write-laid l (listing_of s limit)) ∙ text.fits l (listing_of s limit) h;
      partly = λ l bs. refl;
      worked = aic_listed;
      nothing = nothing_listed;
      core_listed = core_listed;
      cic_listed = cic_listed;
      aintc_listed = aintc_listed;
      aintc_alone = aintc_alone;
      off_text = off_text;
      off_listed = off_listed;
      off_ends = off-ends;
      off_same = off-same;
      off_as_long = off_as_long;
      met = met;
      indexed_listed = indexed_listed;
    }
