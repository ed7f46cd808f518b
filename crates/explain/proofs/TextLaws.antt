-- A whole explanation, line by line, as it is encoded.
use Prim.Native.Nat.{ℕ, zero, suc, ◌+◌, ◌-◌, ◌/◌, ◌%◌, ◌^◌, ◌≤◌, ◌<◌}
use mathlib.Core.Path.{◌≡◌, refl, sym, ap, ap₂, ◌∙◌}
use mathlib.Core.Bool.{Bool, true, ◌&&◌, not}
use mathlib.Core.List.{List, [], ◌∷◌, ◌++◌, map, append_assoc}
use mathlib.Core.Logic.{◌≢◌, inl, inr}
use native.Mathlib.Omega.{arith}
use lib.Dec.{eqb, ltb}
use lib.ListN.{length, get_or, length-append, length-map}
use borrow.Author.Tests.{eq-eqb, ltb-false, eqb-false, not-true}
use Rattle.words.specs.Choice.{pick}
use Rattle.words.specs.Counting.{all_below}
use Rattle.words.proofs.ChoiceLaws.{pick_true, pick_cases}
use Rattle.words.proofs.CountingLaws.{all_at}
use Rattle.steps.specs.Refusals.{carried_out, misaligned, absent, unreadable, unwritable, beyond, unprivileged, limit_reached, damaged, unknown, misconfigured}
use Rattle.steps.specs.declared.Recorded.{Recorded}
use Rattle.steps.specs.declared.Step.{Step}
use Rattle.steps.specs.declared.Step.TheVariants.{Read, Write, Line}
use Rattle.numbers.specs.Number.{size_at}
use Rattle.numbers.specs.Promises.{told_at}
use Rattle.numbers.proofs.NumberLaws.{sized, worth-below}
use Rattle.numbers.proofs.Promises as Numbers
use Rattle.text.specs.Text.{hex_digit, hex_of, hex, decimal, field}
use Rattle.text.proofs.DigitLaws.{hex-nth, length-hex}
use Rattle.text.proofs.Promises as Text
use Rattle.text.specs.Phrases.{bytes, counted}
use Rattle.trace.specs.Promises.{Reads, Along}
use Rattle.trace.specs.Steps.{numbers_of}
use Rattle.trace.proofs.Promises as Traces
use Rattle.tables.specs.Layout.{Without}
use Rattle.kinds.specs.Kinds.{is_kind, wanted, tells_privilege}
use Rattle.kinds.specs.declared.Configuration.{Configuration}
use Rattle.kinds.proofs.KindLaws.{Known, known}
use Rattle.encode.specs.Bytes.{groups, shortest, bytes_of}
use Rattle.encode.proofs.ByteLaws.{bytes_append}
use Rattle.encode.specs.Encode.{lines_of, after, encoded_from, encoded}
use Rattle.machine.specs.declared.record.Machine.{Machine}
use Rattle.machine.specs.Machine.{start}
use Rattle.machine.specs.RecordPromises.{start_with}
use Rattle.machine.proofs.RecordPromises as Machines
use Rattle.machine.specs.declared.Answer.{Answer}
use Rattle.machine.specs.Steps.{step}
use Rattle.beginning.specs.declared.Begun.{Begun}
use Rattle.beginning.specs.Asked.{Configures}
use Rattle.beginning.specs.Begin.{begin_of}
use Rattle.beginning.proofs.BeginningLaws.{Beginning, overlong, damaged_at, no_kind, beyond_at, configured, beginning}
use Rattle.beginning.specs.Play.{records_of}
use Rattle.beginning.proofs.PlayLaws.{records-begun}
use Rattle.register_words.specs.Registers.{place_words}
use Rattle.register_words.proofs.RegisterLaws.{place-plain, field_plain, limit-plain}
use Rattle.deeds.specs.Deeds.{deed_words, output_words}
use Rattle.deeds.proofs.DeedLaws.{deed-plain, output-plain}
use Rattle.explain.specs.Stated.{fields, numbers_at, controller, stated, gap, to_column}
use Rattle.explain.specs.Explain.{commented, cic_document, document_words, controller_line, reason_words, refused_words, value_words, access_words, did_words, step_words, step_line}
use Rattle.explain.specs.Explain.{end_reason, end_line, whole, shows, lines_from, end_of, text_from, head_of, started_text, explained_by, explained_of}
use Rattle.explain.specs.Promises.{Words, AllWords}
use Rattle.explain.proofs.StatedLaws.{each-kind}
use Rattle.explain.proofs.SizeLaws.{reads_fit, records_fit, explained-most}
use Rattle.explain.specs.Read.{numbers_in, played_numbers}
use Rattle.explain.proofs.WordLaws.{spelt, line_of, without_append}
use Rattle.explain.proofs.LineLaws.{line-encoded, end-encoded, comment-encoded}
use Rattle.explain.proofs.SpellingLaws.{Spelling, spelling, to-column, fields-spelt, decimals-tell, Kinded, kinded}

-- ---- shortest forms take no more bytes than those of the trace

short : (k v m : ℕ) → 0 < k → v < 128 ^ k → length (groups m v) ≤ k
unfolding groups
short k v zero p h = omega arith
short zero v (suc m) p h = absurd (omega arith)
short (suc zero) v (suc m) p h = pick_cases (λ (l : List ℕ). length l ≤ 1) (ltb v 128) (λ e. omega arith) (λ e. absurd (omega (arith, ltb-false v 128 e)))
short (suc (suc k)) v (suc m) p h =
    pick_cases (λ (l : List ℕ). length l ≤ suc (suc k)) (ltb v 128) (λ e. omega arith) (λ e. omega (arith, short (suc k) (v / 128) m (omega arith) (omega arith)))

number_size : (s : List ℕ) (at : ℕ) → (told_at s at).refusal ≡ 0 → at + length (shortest (told_at s at).value) ≤ (told_at s at).place
number_size s at e =
    let b : (told_at s at).value < 128 ^ size_at s at = rw ((Numbers.kept).value s at e) (worth-below s at (size_at s at) refl refl) in
    omega (arith, (Numbers.kept).place s at e, short (size_at s at) (told_at s at).value 5 (sized s at).some b)

reads-size : (s : List ℕ) (at : ℕ) (ns : List ℕ) (p : ℕ) → Reads s at ns p → at ≤ length s → (at + length (bytes_of ns) ≤ p) × (p ≤ length s)
unfolding bytes_of
reads-size s at [] p h l = (omega arith, omega arith)
reads-size s at (n ∷ ns) p h l =
    let r = reads-size s (told_at s at).place ns p h.1.1 ((Numbers.kept).next s at h.0).1 in
    let c : length (shortest (told_at s at).value) ≡ length (shortest n) = ap (λ (v : ℕ). length (shortest v)) h.1.0 in
    (omega (arith, number_size s at h.0, c, length-append (shortest n) (bytes_of ns), r.0), r.1)

along-size : (told : Bool) (s : List ℕ) (at : ℕ) (xs : List Recorded) (p : ℕ) → Along told s at xs p → at ≤ length s
    → (at + length (bytes_of (numbers_in told xs)) ≤ p) × (p ≤ length s)
unfolding numbers_in bytes_of
along-size told s at [] p h l = (omega arith, omega arith)
along-size told s at (x ∷ xs) p h l =
    let a = reads-size s at (numbers_of told x) h.0 (((Traces.kept).found told s at h.0 x).0 h.1).1 l in
    let r = along-size told s h.0 xs p h.2 a.1 in
    (omega (arith, a.0, r.0, ap length (bytes_append (numbers_of told x) (numbers_in told xs)), length-append (bytes_of (numbers_of told x)) (bytes_of (numbers_in told xs))), r.1)

-- ---- how it begins

start-kind : (kind : ℕ) (c : Configuration) → is_kind kind ≡ true → (start kind c).kind ≡ kind
start-kind kind c e = go ((known kind).0 e)
  where
    go : Known kind → (start kind c).kind ≡ kind
    go (inl h) = rw h (ap (λ (m : Machine). m.kind) ((Machines.kept).aic_starts c))
    go (inr (inl h)) = rw h (ap (λ (m : Machine). m.kind) ((Machines.kept).core_starts c))
    go (inr (inr (inl h))) = rw h (ap (λ (m : Machine). m.kind) ((Machines.kept).cic_starts c))
    go (inr (inr (inr (inl h)))) = rw h (ap (λ (m : Machine). m.kind) ((Machines.kept).aintc_starts c))
    go (inr (inr (inr (inr h)))) = rw h (ap (λ (m : Machine). m.kind) ((Machines.kept).indexed_starts c))

pub record Started (s : List ℕ) (b : Begun) : Type 0 where
  pub numbers : List ℕ
  pub reads : Reads s 0 (b.machine.kind ∷ numbers) b.place
  pub configures : Configures b.machine.kind numbers
  pub machine : b.machine ≡ start_with b.machine.kind numbers
  pub short : length s ≤ 65536

pub starts : (s : List ℕ) (b : Begun) → Beginning s b → b.refusal ≡ 0 → Started s b
starts s b (overlong l) z = absurd (omega arith)
starts s b (damaged_at ns p l h w t) z = absurd (omega arith)
starts s b (no_kind l t k) z = absurd (omega arith)
starts s b (beyond_at kind ns p l h w t q) z = absurd (omega arith)
starts s b (configured kind ns p l h w) z =
    let e : (start_with kind ns).kind ≡ kind = start-kind kind _ w.0 in
    record { numbers = ns; reads = rw e h; configures = rw e w; machine = ap (λ (k : ℕ). start_with k ns) (sym e); short = l }

numbers_are : (s : List ℕ) (at : ℕ) (ns : List ℕ) (p : ℕ) → Reads s at ns p → numbers_at (length ns) s at ≡ ns
unfolding numbers_at
numbers_are s at [] p h = refl
numbers_are s at (n ∷ ns) p h = ap₂ (λ (x : ℕ) (l : List ℕ). x ∷ l) h.1.0 (numbers_are s (told_at s at).place ns p h.1.1)

-- ---- no line feed in a comment

literal : (l : List ℕ) → all_below (length l) (λ k. not (eqb (get_or l k 0) 10)) ≡ true → Without 10 l
literal l e k m = eqb-false (get_or l k 0) 10 (not-true (eqb (get_or l k 0) 10) (all_at (length l) (λ k. not (eqb (get_or l k 0) 10)) e k m))

decimal-clear : (n : ℕ) → Without 10 (decimal n)
decimal-clear n k l e = omega (arith, ((Text.kept).decimal_bytes n k l).0)

hex-clear : (p v : ℕ) → Without 10 (hex_of p v)
hex-clear p v k l e = omega (arith, hex-nth p v k (omega (arith, length-hex p v)), most (v / 16 ^ (p - 1 - k) % 16))
  where
    most : (d : ℕ) → 48 ≤ hex_digit d
    most d = unfold hex_digit in pick_cases (λ (n : ℕ). 48 ≤ n) (ltb d 10) (λ e. omega arith) (λ e. omega arith)

none-clear : Without 10 []
none-clear k l = absurd (omega arith)

both : (a b : List ℕ) → Without 10 a → Without 10 b → Without 10 (a ++ b)
both a b f g = without_append 10 a b f g

field-clear : (n : ℕ) → Without 10 (field n)
unfolding field all_below
field-clear n = both (32 ∷ []) (decimal n) (literal (32 ∷ []) refl) (decimal-clear n)

module _ (m : Machine) (x : Recorded) where
  reason-clear : (n : ℕ) → Without 10 (reason_words m x n)
  unfolding reason_words bytes all_below
  reason-clear n =
      pick_cases (Without 10) (eqb n misaligned) (λ e. literal (bytes "the offset is no multiple of 4") refl)
      (λ e. pick_cases (Without 10) (eqb n absent) (λ e. literal (bytes "no register at this offset") refl)
      (λ e. pick_cases (Without 10) (eqb n unreadable) (λ e. literal (bytes "this register can only be written") refl)
      (λ e. pick_cases (Without 10) (eqb n unwritable) (λ e. literal (bytes "this register can only be read") refl)
      (λ e. pick_cases (Without 10) (eqb n beyond) (λ e. limit-plain m x)
      (λ e. pick_cases (Without 10) (eqb n unprivileged) (λ e. literal (bytes "only a privileged access may do this") refl)
      (λ e. literal (bytes "a step that no rule takes") refl))))))

  refused-clear : (n : ℕ) → Without 10 (refused_words m x n)
  unfolding refused_words counted bytes all_below
  refused-clear n =
      both (counted (bytes " refused by ") n ++ bytes ": ") (reason_words m x n)
      (both (counted (bytes " refused by ") n) (bytes ": ") (both (bytes " refused by ") (decimal n) (literal (bytes " refused by ") refl) (decimal-clear n)) (literal (bytes ": ") refl))
      (reason-clear n)

  access-clear : (v : ℕ) (y : Step) → Without 10 (access_words m x v y)
  unfolding value_words bytes all_below
  access-clear v (Read o) = both (bytes " = 0x") (hex v) (literal (bytes " = 0x") refl) (hex-clear 8 v)
  access-clear v (Write o u) = field_plain m x
  access-clear v (Line l u) = none-clear

  did-clear : (a : Answer) → Without 10 (did_words m x a)
  unfolding did_words
  did-clear a =
      pick_cases (Without 10) (eqb a.refusal carried_out)
      (λ e.
      both (access_words m x a.value x.step ++ deed_words m x a.machine) (output_words m a.machine)
      (both (access_words m x a.value x.step) (deed_words m x a.machine) (access-clear a.value x.step) (deed-plain m x a.machine))
      (output-plain m a.machine))
      (λ e. refused-clear a.refusal)

  step_clear : (n : ℕ) (a : Answer) → Without 10 (32 ∷ step_words n m x a)
  unfolding step_words all_below
  step_clear n a =
      both (32 ∷ []) (step_words n m x a) (literal (32 ∷ []) refl)
      (both (decimal n ++ place_words m x) (did_words m x a) (both (decimal n) (place_words m x) (decimal-clear n) (place-plain m x)) (did-clear a))

document-each : (kind : ℕ) → Without 10 (document_words kind)
unfolding document_words cic_document bytes all_below
document-each kind =
    each-kind (Without 10) kind
    (record {
      aic = bytes "003: Advanced Interrupt Controller (AIC), chapter 27 of a data sheet of AT91 products";
      core = bytes "004: Actel, CoreInterrupt, data sheet v2.1";
      cic = cic_document;
      aintc = bytes "000: Texas Instruments, KeyStone I Architecture ARM CorePac User Guide, SPRUHC4B";
      indexed = cic_document;
      none = [];
    })
    (literal (bytes "003: Advanced Interrupt Controller (AIC), chapter 27 of a data sheet of AT91 products") refl)
    (literal (bytes "004: Actel, CoreInterrupt, data sheet v2.1") refl) (literal cic_document refl)
    (literal (bytes "000: Texas Instruments, KeyStone I Architecture ARM CorePac User Guide, SPRUHC4B") refl) (literal cic_document refl) none-clear

document-clear : (kind : ℕ) → Without 10 (32 ∷ document_words kind)
unfolding all_below
document-clear kind = both (32 ∷ []) (document_words kind) (literal (32 ∷ []) refl) (document-each kind)

-- ---- a statement, its comment and what follows

commented_as : (st c rest : List ℕ) → commented st c ++ rest ≡ (to_column st ++ (35 ∷ (32 ∷ c))) ++ (10 ∷ rest)
unfolding commented bytes
commented_as st c rest = simp append_assoc

-- ---- the end

abbrev Ok : ℕ → List ℕ → Type 0
Ok kind t = (lines at size : ℕ) → at + length t ≤ 5242880 → size ≤ 65536
    → encoded_from lines at kind size (lines_of t) ≡ record { refusal = record { expected = 0; line = 0; word = 0 }; bytes = [] }

end-reason-clear : (n : ℕ) → Without 10 (end_reason n)
unfolding end_reason bytes all_below
end-reason-clear n =
    pick_cases (Without 10) (eqb n limit_reached) (λ e. literal (bytes "the limit of steps is reached, and bytes are left") refl)
    (λ e. pick_cases (Without 10) (eqb n damaged) (λ e. literal (bytes "a number breaks off here, or has more than 32 bits or five bytes") refl)
    (λ e. pick_cases (Without 10) (eqb n unknown) (λ e. literal (bytes "no controller or step has this number") refl)
    (λ e. pick_cases (Without 10) (eqb n misconfigured) (λ e. literal (bytes "the controller cannot be configured so") refl)
    (λ e. literal (bytes "the trace has more than 65536 bytes") refl))))

module _ (refusal offset : ℕ) where
  abbrev rest : List ℕ
  rest = bytes " E" ++ field refusal ++ field offset ++ bytes ": " ++ end_reason refusal

  end_as : end_line refusal offset ≡ 35 ∷ (rest ++ (10 ∷ []))
  unfolding end_line bytes
  end_as = refl

  rest-clear : Without 10 rest
  unfolding bytes all_below
  rest-clear =
      both (bytes " E" ++ field refusal ++ field offset ++ bytes ": ") (end_reason refusal)
      (both (bytes " E" ++ field refusal ++ field offset) (bytes ": ")
      (both (bytes " E" ++ field refusal) (field offset) (both (bytes " E") (field refusal) (literal (bytes " E") refl) (field-clear refusal)) (field-clear offset))
      (literal (bytes ": ") refl)) (end-reason-clear refusal)

  end_ok : (kind : ℕ) → kind ≢ 5 → Ok kind (end_of whole refusal offset)
  unfolding end_of
  end_ok kind n =
      pick_cases (Ok kind) (true && not (eqb refusal carried_out))
      (λ e lines at size h m. ap (λ (t : List ℕ). encoded_from lines at kind size (lines_of t)) end_as ∙ comment-encoded kind n rest rest-clear lines at size (omega (arith, ap length end_as, length-append rest (10 ∷ []))) m)
      (λ e lines at size h m. end-encoded kind n lines at size (omega arith) m)

-- ---- the steps

module _ (kind : ℕ) (told : Bool) (n5 : kind ≢ 5) (et : told ≡ eqb kind 3) (tail : List ℕ) (ok : Ok kind tail) where
  steps-encoded : (xs : List Recorded) (n : ℕ) (m : Machine) → AllWords told xs → (lines at size : ℕ)
      → at + length (lines_from whole told n m xs ++ tail) ≤ 5242880 → size + length (bytes_of (numbers_in told xs)) ≤ 65536
      → encoded_from lines at kind size (lines_of (lines_from whole told n m xs ++ tail))
      ≡ record { refusal = record { expected = 0; line = 0; word = 0 }; bytes = bytes_of (numbers_in told xs) }
  unfolding lines_from numbers_in bytes_of
  steps-encoded [] n m f lines at size h k = ok lines at size h (omega arith)
  steps-encoded (x ∷ xs) n m f lines at size h k =
      ap (λ (t : List ℕ). encoded_from lines at kind size (lines_of t)) as_line
      ∙ line-encoded kind sp.first kind g sp.word sp.words sp.values (32 ∷ c) sp.high sp.some sp.tells
      (inr (n5, (sp.opens, (sp.known, (sp.many ∙ ap (λ (t : Bool). Rattle.trace.specs.Steps.operands_of t sp.first) et, refl)))))
      (step_clear m x (n + 1) (step m x)) lines at size rest (omega (arith, ap length as_line, length-append line (10 ∷ rest))) (omega (arith, ap length joined, length-append (bytes_of (sp.first ∷ sp.values)) (bytes_of (numbers_in told xs))))
      ∙ ap (after (bytes_of (sp.first ∷ sp.values)))
      (steps-encoded xs (n + 1) (step m x).machine f.1 (lines + 1) (at + length line + 1) (size + length (bytes_of (sp.first ∷ sp.values)))
      (omega (arith, ap length as_line, length-append line (10 ∷ rest))) (omega (arith, ap length joined, length-append (bytes_of (sp.first ∷ sp.values)) (bytes_of (numbers_in told xs)))))
      ∙ ap (λ (bs : List ℕ). record { refusal = record { expected = 0; line = 0; word = 0 }; bytes = bs }) (sym joined)
    where
      sp : Spelling told x
      sp = spelling told x f.0

      c : List ℕ
      c = step_words (n + 1) m x (step m x)

      g : ℕ
      g = gap (length (stated told x))

      rest : List ℕ
      rest = lines_from whole told (n + 1) (step m x).machine xs ++ tail

      line : List ℕ
      line = line_of sp.word sp.words g ++ (35 ∷ (32 ∷ c))

      shown : shows whole (n + 1) ≡ true
      shown = unfold shows in refl

      as_line : (pick (shows whole (n + 1)) (step_line told (n + 1) m x (step m x)) [] ++ lines_from whole told (n + 1) (step m x).machine xs) ++ tail ≡ line ++ (10 ∷ rest)
      as_line =
          ap (λ (l : List ℕ). (l ++ lines_from whole told (n + 1) (step m x).machine xs) ++ tail) (sym (pick_true _ shown))
          ∙ append_assoc (step_line told (n + 1) m x (step m x)) (lines_from whole told (n + 1) (step m x).machine xs) tail
          ∙ unfold step_line in (commented_as (stated told x) c rest)
          ∙ ap (λ (l : List ℕ). (l ++ (35 ∷ (32 ∷ c))) ++ (10 ∷ rest)) (to-column (stated told x) sp.word sp.words sp.said)

      joined : bytes_of (numbers_of told x ++ numbers_in told xs) ≡ bytes_of (sp.first ∷ sp.values) ++ bytes_of (numbers_in told xs)
      joined = bytes_append (numbers_of told x) (numbers_in told xs) ∙ ap (λ (l : List ℕ). bytes_of l ++ bytes_of (numbers_in told xs)) sp.numbers

-- ---- the bytes of a trace that was played

module _ (s : List ℕ) (limit : ℕ) (z : (begin_of s).refusal ≡ 0) where
  abbrev pub begun : Started s (begin_of s)
  begun = starts s (begin_of s) (beginning s) z

  pub same_numbers : numbers_at (wanted (begin_of s).machine.kind) s (told_at s 0).place ≡ begun.numbers
  same_numbers =
      ap (λ (k : ℕ). numbers_at k s (told_at s 0).place) (sym begun.configures.1.1)
      ∙ numbers_are s (told_at s 0).place begun.numbers (begin_of s).place begun.reads.1.1

  pub bytes-parts : bytes_of (played_numbers s limit)
      ≡ bytes_of ((begin_of s).machine.kind ∷ begun.numbers) ++ bytes_of (numbers_in (tells_privilege (begin_of s).machine.kind) (records_of s limit).steps)
  bytes-parts =
      bytes_append ((begin_of s).machine.kind ∷ numbers_at (wanted (begin_of s).machine.kind) s (told_at s 0).place) (numbers_in (tells_privilege (begin_of s).machine.kind) (records_of s limit).steps)
      ∙ ap (λ (l : List ℕ). bytes_of ((begin_of s).machine.kind ∷ l) ++ bytes_of (numbers_in (tells_privilege (begin_of s).machine.kind) (records_of s limit).steps)) same_numbers

  pub bytes_few : length (bytes_of ((begin_of s).machine.kind ∷ begun.numbers)) + length (bytes_of (numbers_in (tells_privilege (begin_of s).machine.kind) (records_of s limit).steps)) ≤ 65536
  bytes_few =
      let told = tells_privilege (begin_of s).machine.kind in
      let h = reads-size s 0 ((begin_of s).machine.kind ∷ begun.numbers) (begin_of s).place begun.reads (omega arith) in
      let a = (Traces.kept).trace told limit s (begin_of s).place in
      let e = records-begun limit s (begin_of s) z in
      let q = along-size told s (begin_of s).place (Rattle.trace.specs.Trace.steps_from told limit s (begin_of s).place).steps a.0 a.1 h.1 in
      omega (arith, h.0, begun.short, q.0, q.1, ap (λ (u : Rattle.trace.specs.Trace.Trace). length (bytes_of (numbers_in told u.steps))) e)

-- ---- all of it

pub again : (s : List ℕ) (limit : ℕ) → limit ≤ 20000 → (begin_of s).refusal ≡ 0
    → encoded (explained_of s limit) ≡ record { refusal = record { expected = 0; line = 0; word = 0 }; bytes = bytes_of (played_numbers s limit) }
unfolding encoded
again s limit l z =
    ap (λ (t : List ℕ). encoded_from 0 0 5 0 (lines_of t)) as_line
    ∙ line-encoded 5 kind kind g (Rattle.explain.specs.Stated.kind_word kind) (map decimal ns) ns (32 ∷ document_words kind) kd.high kd.some (decimals-tell ns fit.1)
    (inl (refl, (kd.opens, (kd.known, (length-map ns decimal ∙ b.configures.1.1, refl))))) (document-clear kind) 0 0 0 rest
    (omega (arith, ap length as_line, length-append line (10 ∷ rest), most)) (omega (arith, small))
    ∙ ap (after (bytes_of (kind ∷ ns)))
    (steps-encoded kind told kd.known refl tail (end_ok t.refusal t.offset kind kd.known) t.steps 0 m (records_fit limit s (begin_of s)) 1 (0 + length line + 1)
    (0 + length (bytes_of (kind ∷ ns))) (omega (arith, ap length as_line, length-append line (10 ∷ rest), most)) (omega (arith, small)))
    ∙ ap (λ (bs : List ℕ). record { refusal = record { expected = 0; line = 0; word = 0 }; bytes = bs }) (sym joined)
  where
    b : Started s (begin_of s)
    b = starts s (begin_of s) (beginning s) z

    m : Machine
    m = (begin_of s).machine

    kind : ℕ
    kind = (begin_of s).machine.kind

    told : Bool
    told = tells_privilege kind

    ns : List ℕ
    ns = b.numbers

    kd : Kinded kind
    kd = kinded kind b.configures.0

    fit : Words (kind ∷ ns)
    fit = reads_fit s 0 (kind ∷ ns) (begin_of s).place b.reads

    t : Rattle.trace.specs.Trace.Trace
    t = records_of s limit

    tail : List ℕ
    tail = end_of whole t.refusal t.offset

    rest : List ℕ
    rest = lines_from whole told 0 m t.steps ++ tail

    same : numbers_at (wanted kind) s (told_at s 0).place ≡ ns
    same = same_numbers s limit z

    st : List ℕ
    st = controller kind (numbers_at (wanted kind) s (told_at s 0).place)

    g : ℕ
    g = gap (length st)

    line : List ℕ
    line = line_of (Rattle.explain.specs.Stated.kind_word kind) (map decimal ns) g ++ (35 ∷ (32 ∷ document_words kind))

    said : st ≡ Rattle.explain.specs.Stated.kind_word kind ++ spelt (map decimal ns)
    said = unfold controller in (ap (λ (l : List ℕ). Rattle.explain.specs.Stated.kind_word kind ++ l) (ap fields same ∙ fields-spelt ns))

    as_line : explained_of s limit ≡ line ++ (10 ∷ rest)
    as_line =
        unfold explained_by started_text text_from head_of pick in (sym (pick_true _ (eq-eqb (begin_of s).refusal carried_out z)))
        ∙ unfold controller_line in (commented_as st (document_words kind) rest)
        ∙ ap (λ (l : List ℕ). (l ++ (35 ∷ (32 ∷ document_words kind))) ++ (10 ∷ rest)) (to-column st (Rattle.explain.specs.Stated.kind_word kind) (map decimal ns) said)

    most : length (explained_of s limit) ≤ 5242880
    most = omega (arith, explained-most whole s limit (omega arith))

    small : length (bytes_of (kind ∷ ns)) + length (bytes_of (numbers_in told t.steps)) ≤ 65536
    small = bytes_few s limit z

    joined : bytes_of (played_numbers s limit) ≡ bytes_of (kind ∷ ns) ++ bytes_of (numbers_in told t.steps)
    joined = bytes-parts s limit z
