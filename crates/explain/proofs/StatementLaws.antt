-- The statements of a text that is taken, line by line, and its bytes.
use Prim.Native.Nat.{ℕ, ◌+◌, ◌<◌}
use mathlib.Core.Path.{◌≡◌, refl, sym, ap, ap₂, ◌∙◌, subst}
use mathlib.Core.Bool.{Bool}
use mathlib.Core.List.{List, [], ◌∷◌, ◌++◌, map}
use mathlib.Core.Logic.{◌≢◌, ◌⊎◌, inl, inr}
use native.Mathlib.Decide.{dec_lt}
use native.Mathlib.Omega.{arith}
use lib.ListN.{length}
use Rattle.steps.specs.declared.Recorded.{Recorded}
use Rattle.trace.specs.Steps.{operands_of, numbers_of as step_numbers}
use Rattle.kinds.specs.Kinds.{wanted, tells_privilege}
use Rattle.tables.specs.Typed.{nth_typed}
use Rattle.encode.specs.declared.statements.Statement.{Statement}
use Rattle.encode.specs.Bytes.{bytes_of}
use Rattle.encode.specs.Words.{kind_of, step_of}
use Rattle.encode.specs.Statements.{uncommented, values_in, statement_of, bytes_in}
use Rattle.encode.proofs.ByteLaws.{bytes_append}
use Rattle.encode.specs.Encode.{Encoding, after, encoded_from}
use Rattle.encode.proofs.Promises as Encode
use Rattle.explain.specs.Promises.{Words, AllWords}
use Rattle.explain.specs.Read.{numbers_in}
use Rattle.explain.specs.Said.{said_in, said_by}
use Rattle.explain.proofs.BackLaws.{AllPlain}
use Rattle.explain.proofs.SaidLaws.{Mute, Speech, says-step, says-kind, Stepped, stepped, values_fit, values_many, kind_fits}

-- ---- a line of a text that is taken

module _ (lines at kind size : ℕ) (l : List ℕ) (ls : List (List ℕ)) where
  abbrev st : Statement
  st = statement_of kind l

  abbrev whole : Encoding
  whole = encoded_from lines at kind size (l ∷ ls)

  abbrev rest : Encoding
  rest = encoded_from (lines + 1) (at + length l + 1) st.kind (size + st.size) ls

  abbrev Went : Type 0
  Went = (st.expected ≡ 0) × (whole ≡ after (bytes_in l st.first st.words) rest)

  went : whole.refusal.expected ≡ 0 → Went
  went z = go (dec_lt 5242880 (at + length l)) (dec_lt 65536 (size + st.size)) (dec_lt 0 st.expected)
    where
      go : Dec (5242880 < at + length l) → Dec (65536 < size + st.size) → Dec (0 < st.expected) → Went
      go (yes h) m n = absurd (omega (arith, z, ap (λ (e : Encoding). e.refusal.expected) ((Encode.kept).text_too_long lines at kind size l ls h)))
      go (no h) (yes m) n = absurd (omega (arith, z, ap (λ (e : Encoding). e.refusal.expected) ((Encode.kept).trace_too_long lines at kind size l ls (omega arith) m)))
      go (no h) (no m) (yes n) =
          absurd (omega (arith, z, n, ap (λ (e : Encoding). e.refusal.expected) ((Encode.kept).line_refused lines at kind size l ls (omega arith) (omega arith) (λ e. omega (arith, n, e)))))
      go (no h) (no m) (no n) = let e : st.expected ≡ 0 = omega arith in (e, (Encode.kept).line_taken lines at kind size l ls (omega arith) (omega arith) e)

  still : whole.refusal.expected ≡ 0 → rest.refusal.expected ≡ 0
  still z = sym (ap (λ (e : Encoding). e.refusal.expected) (went z).1) ∙ z

  -- what holds of what it says and its bytes, before those of the lines behind it, holds of all
  with-line : (P : List (List ℕ) → List ℕ → Type 0) → whole.refusal.expected ≡ 0 → (ss : List (List ℕ)) (bs : List ℕ) → said_in kind l ≡ ss → bytes_in l st.first st.words ≡ bs
      → P (ss ++ said_by st.kind ls) (bs ++ rest.bytes) → P (said_by kind (l ∷ ls)) whole.bytes
  unfolding said_by
  with-line P z ss bs e f h =
      subst (λ (a : List (List ℕ)). P (a ++ said_by st.kind ls) whole.bytes) (sym e)
      (subst (P (ss ++ said_by st.kind ls)) (sym (ap (λ (e : Encoding). e.bytes) (went z).1 ∙ ap (λ (b : List ℕ). b ++ rest.bytes) f)) h)

-- ---- steps

pub record Steps (told : Bool) (ss : List (List ℕ)) (bs : List ℕ) : Type 0 where
  pub steps : List Recorded
  pub said : ss ≡ map (step_numbers told) steps
  pub fits : AllWords told steps
  pub plain : AllPlain told steps
  pub bytes : bs ≡ bytes_of (numbers_in told steps)

more_steps : (told : Bool) (ss : List (List ℕ)) (bs ns : List ℕ) → Stepped told ns → Steps told ss bs → Steps told (ns ∷ ss) (bytes_of ns ++ bs)
unfolding numbers_in
more_steps told ss bs ns x r =
    record {
      steps = x.x ∷ r.steps;
      said = ap₂ (λ (a : List ℕ) (b : List (List ℕ)). a ∷ b) x.numbers r.said;
      fits = (x.fits, r.fits);
      plain = (x.plain, r.plain);
      bytes = ap₂ (λ (a b : List ℕ). bytes_of a ++ b) x.numbers r.bytes ∙ sym (bytes_append (step_numbers told x.x) (numbers_in told r.steps));
    }

no_steps : (told : Bool) → Steps told [] []
unfolding numbers_in bytes_of
no_steps told = record { steps = []; said = refl; fits = tt; plain = tt; bytes = refl }

module _ (told : Bool) (lines at kind size : ℕ) (l : List ℕ) (ls : List (List ℕ)) (z : (whole lines at kind size l ls).refusal.expected ≡ 0) where
  abbrev later : ℕ
  later = (statement_of kind l).kind

  abbrev w : List ℕ
  w = nth_typed (uncommented l) 0

  a-step : kind ≢ 5 → told ≡ tells_privilege kind → (later ≡ kind → Steps told (said_by later ls) (rest lines at kind size l ls).bytes)
      → Steps told (said_by kind (l ∷ ls)) (whole lines at kind size l ls).bytes
  a-step n t onward = go (says-step kind l n (went lines at kind size l ls z).0)
    where
      go : Mute kind l ⊎ (Speech kind l (step_of w) (operands_of (tells_privilege kind) (step_of w)) kind × (step_of w ≢ 0)) → Steps told (said_by kind (l ∷ ls)) (whole lines at kind size l ls).bytes
      go (inl h) = with-line lines at kind size l ls (Steps told) z [] [] h.0 h.1 (onward h.2)
      go (inr h) =
          let ns : List ℕ = step_of w ∷ values_in (uncommented l) (operands_of (tells_privilege kind) (step_of w)) in
          with-line lines at kind size l ls (Steps told) z (ns ∷ []) (bytes_of ns) h.0.0 h.0.1
          (more_steps told (said_by later ls) (rest lines at kind size l ls).bytes ns
          (subst (λ (b : Bool). Stepped b ns) (sym t) (stepped (uncommented l) (tells_privilege kind) w h.1)) (onward h.0.2))

all_steps : (told : Bool) (kind : ℕ) → kind ≢ 5 → told ≡ tells_privilege kind → (ls : List (List ℕ)) (lines at size : ℕ) → (encoded_from lines at kind size ls).refusal.expected ≡ 0
    → Steps told (said_by kind ls) (encoded_from lines at kind size ls).bytes
all_steps told kind n t [] lines at size z = unfold said_by in (subst (λ (e : Encoding). Steps told [] e.bytes) (sym ((Encode.kept).ends lines at kind size n)) (no_steps told))
all_steps told kind n t (l ∷ ls) lines at size z =
    a-step told lines at kind size l ls z n t
    (λ e.
    all_steps told (statement_of kind l).kind (λ f. n (sym e ∙ f)) (t ∙ ap tells_privilege (sym e)) ls (lines + 1) (at + length l + 1) (size + (statement_of kind l).size)
    (still lines at kind size l ls z))

-- ---- a text

pub record Stated (ss : List (List ℕ)) (bs : List ℕ) : Type 0 where
  pub kind : ℕ
  pub numbers : List ℕ
  pub many : length numbers ≡ wanted kind
  pub words : Words (kind ∷ numbers)
  pub rest : List (List ℕ)
  pub after : List ℕ
  pub said : ss ≡ (kind ∷ numbers) ∷ rest
  pub bytes : bs ≡ bytes_of (kind ∷ numbers) ++ after
  pub behind : Steps (tells_privilege kind) rest after

module _ (lines at kind size : ℕ) (l : List ℕ) (ls : List (List ℕ)) (z : (whole lines at kind size l ls).refusal.expected ≡ 0) where
  abbrev first : List ℕ
  first = nth_typed (uncommented l) 0

  a-kind : kind ≡ 5 → ((statement_of kind l).kind ≡ kind → Stated (said_by (statement_of kind l).kind ls) (rest lines at kind size l ls).bytes)
      → Stated (said_by kind (l ∷ ls)) (whole lines at kind size l ls).bytes
  a-kind n onward = go (says-kind kind l n (went lines at kind size l ls z).0)
    where
      go : Mute kind l ⊎ (Speech kind l (kind_of first) (wanted (kind_of first)) (kind_of first) × (kind_of first ≢ 5)) → Stated (said_by kind (l ∷ ls)) (whole lines at kind size l ls).bytes
      go (inl h) = with-line lines at kind size l ls Stated z [] [] h.0 h.1 (onward h.2)
      go (inr h) =
          let ns : List ℕ = values_in (uncommented l) (wanted (kind_of first)) in
          with-line lines at kind size l ls Stated z ((kind_of first ∷ ns) ∷ []) (bytes_of (kind_of first ∷ ns)) h.0.0 h.0.1
          (record {
            kind = kind_of first;
            numbers = ns;
            many = values_many (uncommented l) (wanted (kind_of first));
            words = (kind_fits first, values_fit (uncommented l) (wanted (kind_of first)));
            rest = said_by (statement_of kind l).kind ls;
            after = (rest lines at kind size l ls).bytes;
            said = refl;
            bytes = refl;
            behind =
                all_steps (tells_privilege (kind_of first)) (statement_of kind l).kind (λ f. h.1 (sym h.0.2 ∙ f)) (ap tells_privilege (sym h.0.2)) ls (lines + 1)
                (at + length l + 1) (size + (statement_of kind l).size) (still lines at kind size l ls z);
          })

all-stated : (kind : ℕ) → kind ≡ 5 → (ls : List (List ℕ)) (lines at size : ℕ) → (encoded_from lines at kind size ls).refusal.expected ≡ 0
    → Stated (said_by kind ls) (encoded_from lines at kind size ls).bytes
all-stated kind n [] lines at size z =
    absurd (omega (arith, z, ap (λ (k : ℕ). (encoded_from lines at k size []).refusal.expected) n, ap (λ (e : Encoding). e.refusal.expected) ((Encode.kept).ends_unnamed lines at size)))
all-stated kind n (l ∷ ls) lines at size z =
    a-kind lines at kind size l ls z n
    (λ e. all-stated (statement_of kind l).kind (e ∙ n) ls (lines + 1) (at + length l + 1) (size + (statement_of kind l).size) (still lines at kind size l ls z))

pub text-stated : (ls : List (List ℕ)) → (encoded_from 0 0 5 0 ls).refusal.expected ≡ 0 → Stated (said_by 5 ls) (encoded_from 0 0 5 0 ls).bytes
text-stated ls z = all-stated 5 refl ls 0 0 0 z
