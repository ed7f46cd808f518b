-- The statements of an explanation are those that are played, and of a text that is taken those of the text.
use Prim.Native.Nat.{ℕ, zero, suc, ◌≤◌}
use mathlib.Core.Path.{◌≡◌, refl, sym, ap, ap₂, ◌∙◌, subst}
use mathlib.Core.Bool.{Bool}
use mathlib.Core.List.{List, [], ◌∷◌, ◌++◌, map}
use native.Mathlib.Nat.{zero-add}
use native.Mathlib.Omega.{arith}
use lib.ListN.{length, take, length-map}
use lib.Seq.{take_all}
use Rattle.steps.specs.declared.Recorded.{Recorded}
use Rattle.numbers.specs.Promises.{told_at}
use Rattle.trace.specs.Promises.{Reads}
use Rattle.trace.specs.Steps.{numbers_of as step_numbers}
use Rattle.trace.specs.Trace.{Trace, steps_from}
use Rattle.trace.proofs.Promises as Traces
use Rattle.kinds.specs.Kinds.{wanted, tells_privilege}
use Rattle.encode.specs.Bytes.{bytes_of}
use Rattle.encode.specs.Encode.{Encoding, lines_of, encoded}
use Rattle.machine.specs.declared.record.Machine.{Machine}
use Rattle.beginning.specs.Begin.{begin_of}
use Rattle.beginning.specs.Play.{records_of}
use Rattle.beginning.proofs.PlayLaws.{records-begun}
use Rattle.explain.specs.Explain.{explained_of}
use Rattle.explain.specs.Promises.{AllWords}
use Rattle.explain.specs.Read.{numbers_in, played_numbers}
use Rattle.explain.specs.Said.{statements_of, played_statements}
use Rattle.explain.proofs.BackLaws.{AllPlain, reads_back, steps_back, steps-left, steps_onward}
use Rattle.explain.proofs.TextLaws.{Started, begun, same_numbers, again}
use Rattle.explain.proofs.AgainLaws.{read_again}
use Rattle.explain.proofs.AgainLaws as Again
use Rattle.explain.proofs.StatementLaws.{Stated, text-stated}

-- as many numbers from one place on are the same
reads-one : (s : List ℕ) (at : ℕ) (ns ms : List ℕ) (p q : ℕ) → Reads s at ns p → Reads s at ms q → length ns ≡ length ms → (ns ≡ ms) × (p ≡ q)
reads-one s at [] [] p q h g e = (refl, sym h ∙ g)
reads-one s at [] (m ∷ ms) p q h g e = absurd (omega arith)
reads-one s at (n ∷ ns) [] p q h g e = absurd (omega arith)
reads-one s at (n ∷ ns) (m ∷ ms) p q h g e =
    let r = reads-one s (told_at s at).place ns ms p q h.1.1 g.1.1 (omega arith) in
    (ap₂ (λ (k : ℕ) (l : List ℕ). k ∷ l) (sym h.1.0 ∙ g.1.0) r.0, r.1)

map-take : (f : Recorded → List ℕ) (n : ℕ) (xs : List Recorded) → map f (take n xs) ≡ take n (map f xs)
map-take f zero xs = refl
map-take f (suc n) [] = refl
map-take f (suc n) (x ∷ xs) = ap (λ (l : List (List ℕ)). f x ∷ l) (map-take f n xs)

-- ---- of the bytes of steps, as many are read as the limit lets; all, if no refusal ends them

abbrev Took : ℕ → List Recorded → Trace → Type 0
Took limit xs t = (t.steps ≡ take limit xs) × (t.refusal ≡ 0 → length xs ≤ limit)

steps_took : (told : Bool) (xs : List Recorded) (limit : ℕ) (a : List ℕ) → AllWords told xs → AllPlain told xs
    → Took limit xs (steps_from told limit (a ++ bytes_of (numbers_in told xs)) (length a))
steps_took told [] zero a f g = (ap (λ (t : Trace). t.steps) (steps_back told [] 0 a f g (omega arith)), λ e. omega arith)
steps_took told [] (suc limit) a f g = (ap (λ (t : Trace). t.steps) (steps_back told [] (suc limit) a f g (omega arith)), λ e. omega arith)
steps_took told (x ∷ xs) zero a f g =
    let s : List ℕ = a ++ bytes_of (numbers_in told (x ∷ xs)) in
    let e = (Traces.kept).ended told 0 s (length a) 7 (length a) ((Traces.kept).turn_limit told s (length a) (steps-left told x xs 0 a f.0 g.0)) in
    (ap (λ (t : Trace). t.steps) e, λ z. absurd (omega (arith, z, ap (λ (t : Trace). t.refusal) e)))
steps_took told (x ∷ xs) (suc limit) a f g =
    let h = steps_took told xs limit (a ++ bytes_of (step_numbers told x)) f.1 g.1 in
    let e = steps_onward told x xs limit a f.0 g.0 in
    (ap (λ (t : Trace). t.steps) e ∙ ap (λ (l : List Recorded). x ∷ l) h.0, λ z. omega (arith, h.1 (sym (ap (λ (t : Trace). t.refusal) e) ∙ z)))

-- ---- a trace of the bytes of statements

module _ (ss : List (List ℕ)) (s : List ℕ) (t : Stated ss s) (z : (begin_of s).refusal ≡ 0) (limit : ℕ) where
  abbrev b : Started s (begin_of s)
  b = begun s limit z

  abbrev told : Bool
  told = tells_privilege t.kind

  abbrev xs : List Recorded
  xs = t.behind.steps

  abbrev B : List ℕ
  B = bytes_of (t.kind ∷ t.numbers)

  abbrev R : List ℕ
  R = bytes_of (numbers_in told xs)

  parts : s ≡ B ++ R
  parts = t.bytes ∙ ap (λ (u : List ℕ). B ++ u) t.behind.bytes

  reads : Reads s 0 (t.kind ∷ t.numbers) (length B)
  reads =
      subst (λ (u : List ℕ). Reads u 0 (t.kind ∷ t.numbers) (length B)) (sym parts)
      (subst (λ (p : ℕ). Reads (B ++ R) 0 (t.kind ∷ t.numbers) p) (zero-add (length B)) (reads_back (t.kind ∷ t.numbers) [] R t.words))

  same_kind : t.kind ≡ (begin_of s).machine.kind
  same_kind = sym reads.1.0 ∙ b.reads.1.0

  same_start : (t.kind ∷ t.numbers ≡ (begin_of s).machine.kind ∷ b.numbers) × (length B ≡ (begin_of s).place)
  same_start =
      reads-one s 0 (t.kind ∷ t.numbers) ((begin_of s).machine.kind ∷ b.numbers) (length B) (begin_of s).place reads b.reads
      (ap suc (t.many ∙ ap wanted same_kind ∙ sym b.configures.1.1))

  took : Took limit xs (records_of s limit)
  took =
      subst (Took limit xs)
      (sym (records-begun limit s (begin_of s) z
      ∙ ap₂ (λ (k p : ℕ). steps_from (tells_privilege k) limit s p) (sym same_kind) (sym same_start.1)
      ∙ ap (λ (u : List ℕ). steps_from told limit u (length B)) parts))
      (steps_took told xs limit B t.behind.fits t.behind.plain)

  all_said : ss ≡ (t.kind ∷ t.numbers) ∷ map (step_numbers told) xs
  all_said = t.said ∙ ap (λ (l : List (List ℕ)). (t.kind ∷ t.numbers) ∷ l) t.behind.said

  said_played : played_statements s limit ≡ take (suc limit) ss
  said_played =
      ap₂ (λ (h : List ℕ) (l : List (List ℕ)). h ∷ l)
      (ap (λ (ns : List ℕ). (begin_of s).machine.kind ∷ ns) (same_numbers s limit z) ∙ sym same_start.0)
      (ap₂ (λ (k : ℕ) (l : List Recorded). map (step_numbers (tells_privilege k)) l) (sym same_kind) took.0 ∙ map-take (step_numbers told) limit xs)
      ∙ ap (take (suc limit)) (sym all_said)

  said-whole : (records_of s limit).refusal ≡ 0 → take (suc limit) ss ≡ ss
  said-whole e = take_all (suc limit) ss (omega (arith, took.1 e, ap length all_said, length-map xs (step_numbers told)))

-- ---- a text that is taken

stated_text : (text : List ℕ) → (encoded text).refusal.expected ≡ 0 → Stated (statements_of text) (encoded text).bytes
unfolding encoded
stated_text text z = text-stated (lines_of text) z

pub text_played : (text : List ℕ) (limit : ℕ) → (encoded text).refusal.expected ≡ 0 → (begin_of (encoded text).bytes).refusal ≡ 0
    → played_statements (encoded text).bytes limit ≡ take (suc limit) (statements_of text)
text_played text limit e z = said_played (statements_of text) (encoded text).bytes (stated_text text e) z limit

-- ---- an explanation

module _ (s : List ℕ) (limit : ℕ) (few : limit ≤ 20000) (z : (begin_of s).refusal ≡ 0) where
  abbrev q : List ℕ
  q = bytes_of (played_numbers s limit)

  abbrev kind : ℕ
  kind = (begin_of s).machine.kind

  stated : Stated (statements_of (explained_of s limit)) q
  stated =
      let e = again s limit few z in
      subst (Stated (statements_of (explained_of s limit))) (ap (λ (x : Encoding). x.bytes) e)
      (stated_text (explained_of s limit) (ap (λ (x : Encoding). x.refusal.expected) e))

  starts_again : (begin_of q).refusal ≡ 0
  starts_again = (read_again s limit z).0

  kind_again : (begin_of q).machine.kind ≡ kind
  kind_again = ap (λ (m : Machine). m.kind) (read_again s limit z).1

  start_again : (begin_of q).machine.kind ∷ (begun q limit starts_again).numbers ≡ kind ∷ (begun s limit z).numbers
  start_again =
      let c = begun q limit starts_again in
      let d = begun s limit z in
      (reads-one q 0 ((begin_of q).machine.kind ∷ c.numbers) (kind ∷ d.numbers) (begin_of q).place _ c.reads
      (subst (λ (u : List ℕ). Reads u 0 (kind ∷ d.numbers) (length (bytes_of (kind ∷ d.numbers)))) (sym (Again.parts s limit z)) (Again.reads s limit z))
      (ap suc (c.configures.1.1 ∙ ap wanted kind_again ∙ sym d.configures.1.1))).0

  played_again : played_statements q limit ≡ played_statements s limit
  played_again =
      ap₂ (λ (h : List ℕ) (l : List (List ℕ)). h ∷ l)
      (ap (λ (ns : List ℕ). (begin_of q).machine.kind ∷ ns) (same_numbers q limit starts_again) ∙ start_again ∙ ap (λ (ns : List ℕ). kind ∷ ns) (sym (same_numbers s limit z)))
      (ap₂ (λ (k : ℕ) (l : List Recorded). map (step_numbers (tells_privilege k)) l) kind_again (ap (λ (t : Trace). t.steps) (read_again s limit z).2))

  pub explained-said : statements_of (explained_of s limit) ≡ played_statements s limit
  explained-said =
      sym (said-whole (statements_of (explained_of s limit)) q stated starts_again limit (ap (λ (t : Trace). t.refusal) (read_again s limit z).2))
      ∙ sym (said_played (statements_of (explained_of s limit)) q stated starts_again limit)
      ∙ played_again

pub same_statements : (text : List ℕ) (limit : ℕ) → limit ≤ 20000 → (encoded text).refusal.expected ≡ 0 → (begin_of (encoded text).bytes).refusal ≡ 0
    → statements_of (explained_of (encoded text).bytes limit) ≡ take (suc limit) (statements_of text)
same_statements text limit few e z = explained-said (encoded text).bytes limit few z ∙ text_played text limit e z
