-- Whole listings of a CIC of kind 4 whose choice is off, and of the same CIC of kind 2.
use Prim.Native.Nat.{ℕ, ◌+◌, ◌≤◌}
use mathlib.Core.Path.{◌≡◌, refl, sym, ap, ap₂, ◌∙◌}
use mathlib.Core.Bool.{false}
use mathlib.Core.List.{List, [], ◌∷◌, ◌++◌, append_assoc}
use mathlib.Core.Logic.{inl}
use native.Mathlib.Omega.{arith}
use native.Mathlib.Nat.{add-zero}
use lib.ListN.{length}
use Rattle.words.specs.Choice.{pick}
use Rattle.trace.specs.Promises.{Reads}
use Rattle.trace.specs.Trace.{Trace, steps_from}
use Rattle.cic_record.specs.declared.Begun.{Begun as CicBegun}
use Rattle.cic_record.specs.Promises.{InRange}
use Rattle.cic_record.proofs.Promises.{kept as cic}
use Rattle.cic_held.proofs.Promises.{kept as held}
use Rattle.kinds.specs.Kinds.{name, is_kind, tells_privilege}
use Rattle.kinds.proofs.Promises.{kept as kinds}
use Rattle.machine.specs.declared.record.Machine.{Machine}
use Rattle.machine.specs.RecordPromises.{start_with}
use Rattle.machine.proofs.RecordPromises.{kept as record-kept}
use Rattle.beginning.specs.Asked.{Configures}
use Rattle.beginning.specs.Begin.{begin_of}
use Rattle.beginning.proofs.BeginningLaws.{begun}
use Rattle.beginning.proofs.KnownLaws.{configured_so}
use Rattle.beginning.specs.Play.{records_from, records_of, report, play_of}
use Rattle.beginning.proofs.PlayLaws.{records-begun}
use Rattle.lines.specs.Listing.{lines_from, joined, end_of, text_from, listing_of}
use Rattle.lines.proofs.LineLaws.{listing-begun}
use Rattle.listing.specs.Indexed.{Off, Alike, last_line, SameBut}
use Rattle.listing.proofs.MovedLaws.{trace_moved, steps-moved}
use Rattle.listing.proofs.OffLaws.{off_lines}

-- ---- a trace that is configured by the bytes before its steps

-- the steps in the bytes that follow, their places counted from the first of these
abbrev behind : List ℕ → ℕ → Trace
behind r limit = steps_from false limit r 0

-- what these steps are listed as
abbrev before : Machine → Trace → List ℕ
before m t = name m.kind ++ joined (lines_from 0 m t.steps)

module _ (a r : List ℕ) (limit kind : ℕ) (ns : List ℕ) (short : length (a ++ r) ≤ 65536) (reads : Reads (a ++ r) 0 (kind ∷ ns) (length a)) (c : Configures kind ns) (quiet : tells_privilege (start_with kind ns).kind ≡ false) where
  abbrev m : Machine
  m = start_with kind ns

  begins : begin_of (a ++ r) ≡ begun m (length a)
  begins = configured_so (a ++ r) kind ns (length a) short reads c.0 c.1.0 c.1.1

  steps_are : steps_from (tells_privilege m.kind) limit (a ++ r) (length a) ≡ trace_moved (length a) (behind r limit)
  steps_are =
      ap (λ b. steps_from b limit (a ++ r) (length a)) quiet ∙ ap (steps_from false limit (a ++ r)) (sym (add-zero (length a))) ∙ steps-moved a r false limit 0

  records : records_of (a ++ r) limit ≡ trace_moved (length a) (behind r limit)
  records = ap (records_from limit (a ++ r)) begins ∙ records-begun limit (a ++ r) (begun m (length a)) refl ∙ steps_are

  pub refusal_is : (play_of (a ++ r) limit).refusal ≡ (behind r limit).refusal
  unfolding play_of report
  refusal_is = ap (λ (x : Trace). x.refusal) records

  pub offset-is : (play_of (a ++ r) limit).offset ≡ length a + (behind r limit).offset
  unfolding play_of report
  offset-is = ap (λ (x : Trace). x.offset) records

  pub listed : listing_of (a ++ r) limit ≡ before m (behind r limit) ++ last_line (a ++ r) limit
  unfolding text_from
  listed =
      let b = begun m (length a) in
      let t = behind r limit in
      sym (listing-begun (a ++ r) limit b (sym begins) refl) ∙ ap (λ (x : Trace). name m.kind ++ text_from 0 m x) steps_are
      ∙ sym (append_assoc (name m.kind) (joined (lines_from 0 m t.steps)) (end_of t.refusal (length a + t.offset)))
      ∙ sym (ap₂ (λ (n p : ℕ). before m t ++ end_of n p) refusal_is offset-is)

-- ---- a CIC of either kind, from its numbers

module _ (w x y z : ℕ) (range : InRange w x y) where
  abbrev plain_numbers : List ℕ
  plain_numbers = w ∷ x ∷ y ∷ z ∷ []

  abbrev off_numbers : List ℕ
  off_numbers = w ∷ x ∷ y ∷ z ∷ 0 ∷ []

  configures-plain : Configures 2 plain_numbers
  unfolding is_kind
  configures-plain = (
    refl,
    (
      ((kinds.cic_limits w).0.1 range.0, ((kinds.cic_limits x).1.1 range.1.0, ((kinds.cic_limits y).2.1 range.1.1, ((kinds.cic_limits z).3, tt)))),
      sym kinds.cic_numbers,
    ),
  )

  configures-off : Configures 4 off_numbers
  unfolding is_kind
  configures-off = (
    refl,
    (
      (
        (kinds.indexed_limits w).0.1 range.0,
        ((kinds.indexed_limits x).1.1 range.1.0, ((kinds.indexed_limits y).2.1 range.1.1, ((kinds.indexed_limits z).3, ((kinds.indexed_limits 0).4.1 (omega arith), tt)))),
      ),
      sym kinds.indexed_numbers,
    ),
  )

  starts-off : Off (start_with 4 off_numbers) (start_with 2 plain_numbers)
  starts-off =
      let from = record-kept.indexed_from w x y z 0 in
      let plain = record-kept.cic_from w x y z in
      let started = held.start_is w x y z 0 (range, inl refl) in
      record {
        indexed = ap (λ (m : Machine). m.kind) from;
        sound = (record-kept.start_ready 4 off_numbers configures-off.0 configures-off.1.1 configures-off.1.0).0;
        choice = ap (λ (m : Machine). m.held.choice) from ∙ started.2.0;
        plain = ap (λ (m : Machine). m.kind) plain;
        cic =
            ap (λ (m : Machine). m.cic) from ∙ started.1 ∙ sym (ap (λ (b : CicBegun). b.cic) (cic.start_is w x y z range))
            ∙ sym (ap (λ (m : Machine). m.cic) plain);
      }

-- the lines are the same, and so is the name
before_same : (m c : Machine) (t : Trace) → Off m c → before m t ≡ before c t
before_same m c t o =
    let same = ap name o.indexed ∙ kinds.indexed_name ∙ sym kinds.cic_name ∙ ap name (sym o.plain) in
    ap (λ (l : List ℕ). l ++ joined (lines_from 0 m t.steps)) same
    ∙ ap (λ (ls : List (List ℕ)). name c.kind ++ joined ls) (off_lines 0 m c t.steps o)

-- ---- traces that are alike

module _ (a b r : List ℕ) (limit : ℕ) (h : Alike a b r) where
  abbrev numbers : List ℕ
  numbers = h.systems ∷ h.channels ∷ h.hosts ∷ h.revision ∷ []

  off : Configures 4 (numbers ++ (0 ∷ []))
  off = configures-off h.systems h.channels h.hosts h.revision h.in_range

  plain : Configures 2 numbers
  plain = configures-plain h.systems h.channels h.hosts h.revision h.in_range

  starts : Off (start_with 4 (numbers ++ (0 ∷ []))) (start_with 2 numbers)
  starts = starts-off h.systems h.channels h.hosts h.revision h.in_range

  first_quiet : tells_privilege (start_with 4 (numbers ++ (0 ∷ []))).kind ≡ false
  first_quiet = ap tells_privilege starts.indexed

  second_quiet : tells_privilege (start_with 2 numbers).kind ≡ false
  second_quiet = ap tells_privilege starts.plain

  abbrev lines : List ℕ
  lines = before (start_with 2 numbers) (behind r limit)

  first : listing_of (a ++ r) limit ≡ lines ++ last_line (a ++ r) limit
  first =
      listed a r limit 4 (numbers ++ (0 ∷ [])) h.short.0 h.indexed off first_quiet
      ∙ ap (λ (l : List ℕ). l ++ last_line (a ++ r) limit) (before_same _ _ (behind r limit) starts)

  second : listing_of (b ++ r) limit ≡ lines ++ last_line (b ++ r) limit
  second = listed b r limit 2 numbers h.short.1 h.plain plain second_quiet

  pub off_listed : SameBut (a ++ r) (b ++ r) limit
  off_listed = (lines, first, second)

  refusal-same : (play_of (a ++ r) limit).refusal ≡ (play_of (b ++ r) limit).refusal
  refusal-same =
      refusal_is a r limit 4 (numbers ++ (0 ∷ [])) h.short.0 h.indexed off first_quiet
      ∙ sym (refusal_is b r limit 2 numbers h.short.1 h.plain plain second_quiet)

  offset_further : (play_of (a ++ r) limit).offset + length b ≡ (play_of (b ++ r) limit).offset + length a
  offset_further =
      let x = offset-is a r limit 4 (numbers ++ (0 ∷ [])) h.short.0 h.indexed off first_quiet in
      let y = offset-is b r limit 2 numbers h.short.1 h.plain plain second_quiet in
      omega arith

  pub off-ends : ((play_of (a ++ r) limit).refusal ≡ (play_of (b ++ r) limit).refusal) × ((play_of (a ++ r) limit).offset + length b ≡ (play_of (b ++ r) limit).offset + length a)
  off-ends = (refusal-same, offset_further)

  -- where their last lines are the same the listings are
  by_last : last_line (a ++ r) limit ≡ last_line (b ++ r) limit → listing_of (a ++ r) limit ≡ listing_of (b ++ r) limit
  by_last e = first ∙ ap (λ (l : List ℕ). lines ++ l) e ∙ sym second

  pub off-same : (play_of (b ++ r) limit).refusal ≡ 0 → listing_of (a ++ r) limit ≡ listing_of (b ++ r) limit
  unfolding end_of pick
  off-same e =
      by_last
      (ap (λ (n : ℕ). end_of n (play_of (a ++ r) limit).offset) (refusal-same ∙ e) ∙ sym (ap (λ (n : ℕ). end_of n (play_of (b ++ r) limit).offset) e))

  pub off_as_long : length a ≡ length b → listing_of (a ++ r) limit ≡ listing_of (b ++ r) limit
  off_as_long e =
      let f = offset_further in
      let same : (play_of (a ++ r) limit).offset ≡ (play_of (b ++ r) limit).offset = omega arith in
      by_last (ap₂ end_of refusal-same same)
