-- A line of words and its comment, as it is encoded.
use Prim.Native.Nat.{ℕ, zero, suc, ◌+◌, ◌^◌, ◌≤◌, ◌<◌}
use mathlib.Core.Path.{◌≡◌, refl, sym, ap, ◌∙◌}
use mathlib.Core.Bool.{true}
use mathlib.Core.List.{List, [], ◌∷◌, ◌++◌}
use mathlib.Core.Logic.{◌≢◌, ◌⊎◌, inl, inr}
use native.Mathlib.Omega.{arith}
use lib.Dec.{eqb}
use lib.ListN.{length, get_or}
use lib.Seq.{ext_get_or}
use Rattle.words.specs.Counting.{lowest_below}
use Rattle.kinds.specs.Kinds.{wanted}
use Rattle.trace.specs.Steps.{operands_of}
use Rattle.tables.specs.Typed.{start_from, past_nth, nth_start, nth_typed}
use Rattle.tables.specs.Number.{is_number, worth}
use Rattle.tables.specs.Layout.{Without}
use Rattle.tables.specs.Reading.{list_of}
use Rattle.tables.proofs.FillLaws.{length-list_of, get_d-list_of, list_of-same}
use Rattle.tables.proofs.NumberLaws.{number-some}
use Rattle.encode.specs.declared.statements.Statement.{Statement}
use Rattle.encode.specs.Bytes.{bytes_of}
use Rattle.encode.specs.Words.{kind_of, step_of}
use Rattle.encode.specs.Statements.{uncommented, statement_of, bytes_in}
use Rattle.encode.specs.Encode.{Encoding, lines_of, after, encoded_from}
use Rattle.encode.proofs.Promises as Encode
use Rattle.explain.proofs.DigitLaws.{High, number-is-high}
use Rattle.explain.proofs.WordLaws.{AllHigh, line_of, Found, words_found, first-stands, without_append, line-without}

-- ---- words that are numbers

-- each of these words is a number of 32 bits, and these are their values
abbrev pub Tells : List (List ℕ) → List ℕ → Type 0
Tells [] [] = Unit
Tells [] (v ∷ vs) = ⊥
Tells (w ∷ ws) [] = ⊥
Tells (w ∷ ws) (v ∷ vs) = (is_number w ≡ true) × (worth w ≡ v) × (v < 2 ^ 32) × Tells ws vs

abbrev Told : List (List ℕ) → List ℕ → ℕ → Type 0
Told ws vs k = (is_number (get_or ws k []) ≡ true) × (worth (get_or ws k []) ≡ get_or vs k 0) × (get_or vs k 0 < 2 ^ 32)

tells-nth : (ws : List (List ℕ)) (vs : List ℕ) → Tells ws vs → (k : ℕ) → k < length ws → Told ws vs k
tells-nth [] vs t k l = absurd (omega arith)
tells-nth (w ∷ ws) [] t k l = absurd t
tells-nth (w ∷ ws) (v ∷ vs) t zero l = (t.0, t.1, t.2)
tells-nth (w ∷ ws) (v ∷ vs) t (suc k) l = tells-nth ws vs t.3 k (omega arith)

tells-length : (ws : List (List ℕ)) (vs : List ℕ) → Tells ws vs → length ws ≡ length vs
tells-length [] [] t = refl
tells-length [] (v ∷ vs) t = absurd t
tells-length (w ∷ ws) [] t = absurd t
tells-length (w ∷ ws) (v ∷ vs) t = ap suc (tells-length ws vs t.3)

pub tells-high : (ws : List (List ℕ)) (vs : List ℕ) → Tells ws vs → AllHigh ws
tells-high [] vs t = tt
tells-high (w ∷ ws) [] t = absurd t
tells-high (w ∷ ws) (v ∷ vs) t = (number-is-high w t.0, number-some w t.0, tells-high ws vs t.3)

-- the first word opens a statement of a controller, or of a step
abbrev pub Opening : ℕ → List ℕ → ℕ → ℕ → ℕ → Type 0
Opening kind w first n later =
    ((kind ≡ 5) × ((first ≡ kind_of w) × ((first ≢ 5) × ((n ≡ wanted first) × (later ≡ first)))))
    ⊎ ((kind ≢ 5) × ((first ≡ step_of w) × ((first ≢ 0) × ((n ≡ operands_of (eqb kind 3) first) × (later ≡ kind)))))

-- ---- a statement with its comment

module _ (kind first later g : ℕ) (w : List ℕ) (ws : List (List ℕ)) (vs c : List ℕ) (high : High w) (some : 0 < length w) (t : Tells ws vs)
    (o : Opening kind w first (length ws) later) (clear : Without 10 c) where
  abbrev text : List ℕ
  text = line_of w ws g

  abbrev pub whole : List ℕ
  whole = text ++ (35 ∷ c)

  all : AllHigh ws
  all = tells-high ws vs t

  found : Found text 0 (w ∷ ws)
  found = words_found w ws g high some all

  bare : uncommented whole ≡ text
  bare = (Encode.kept).comment_gone text c (line-without 35 w ws g (omega arith) (λ e. omega arith) high all)

  first_word : nth_typed (uncommented whole) 0 ≡ w
  first_word = ap (λ (s : List ℕ). nth_typed s 0) bare ∙ found.each 0 (omega arith)

  nth_word : (k : ℕ) → k < length ws → nth_typed (uncommented whole) (k + 1) ≡ get_or ws k []
  nth_word k l =
      let z : k + 1 ≡ 0 + suc k = omega arith in
      ap (λ (s : List ℕ). nth_typed s (k + 1)) bare ∙ ap (nth_typed text) z ∙ found.each (suc k) (omega arith)

  numbered : (k : ℕ) → k < length ws → (is_number (nth_typed (uncommented whole) (k + 1)) ≡ true) × (worth (nth_typed (uncommented whole) (k + 1)) < 2 ^ 32)
  numbered k l = let h = tells-nth ws vs t k l in (ap is_number (nth_word k l) ∙ h.0, omega (arith, ap worth (nth_word k l), h.1, h.2))

  stands : nth_start (uncommented whole) 0 < length (uncommented whole)
  stands = rw bare (first-stands w ws g high some all)

  ends : length (uncommented whole) ≤ nth_start (uncommented whole) (length ws + 1)
  ends =
      let z : length ws + 1 ≡ 0 + suc (length ws) = omega arith in
      rw bare (omega (arith, ap (nth_start text) z, found.last))

  opens : ((kind ≡ 5) × ((first ≡ kind_of (nth_typed (uncommented whole) 0)) × ((first ≢ 5) × ((length ws ≡ wanted first) × (later ≡ first)))))
      ⊎ ((kind ≢ 5) × ((first ≡ step_of (nth_typed (uncommented whole) 0)) × ((first ≢ 0) × ((length ws ≡ operands_of (eqb kind 3) first) × (later ≡ kind)))))
  opens = go o
    where
      go : Opening kind w first (length ws) later
          → ((kind ≡ 5) × ((first ≡ kind_of (nth_typed (uncommented whole) 0)) × ((first ≢ 5) × ((length ws ≡ wanted first) × (later ≡ first)))))
          ⊎ ((kind ≢ 5) × ((first ≡ step_of (nth_typed (uncommented whole) 0)) × ((first ≢ 0) × ((length ws ≡ operands_of (eqb kind 3) first) × (later ≡ kind)))))
      go (inl h) = inl (h.0, (h.1.0 ∙ ap kind_of (sym first_word), h.1.1))
      go (inr h) = inr (h.0, (h.1.0 ∙ ap step_of (sym first_word), h.1.1))

  takes : statement_of kind whole
      ≡ record { expected = 0; word = 0; kind = later; first = first; words = length ws + 1; size = length (bytes_in whole first (length ws + 1)) }
  takes = (Encode.kept).taken kind first (length ws) later whole stands opens numbered ends

  values : list_of (length ws) (λ k. worth (nth_typed (uncommented whole) (k + 1))) ≡ vs
  values =
      list_of-same (length ws) _ (λ k. get_or vs k 0) (λ k l. ap worth (nth_word k l) ∙ (tells-nth ws vs t k l).1)
      ∙ ext_get_or 0 _ vs (length-list_of (length ws) (λ k. get_or vs k 0) ∙ tells-length ws vs t)
      (λ i l. get_d-list_of (length ws) (λ k. get_or vs k 0) i (omega (arith, length-list_of (length ws) (λ k. get_or vs k 0))))

  says : bytes_in whole first (length ws + 1) ≡ bytes_of (first ∷ vs)
  says = (Encode.kept).bytes_said whole first (length ws) numbered ∙ ap (λ (l : List ℕ). bytes_of (first ∷ l)) values

  line_clear : Without 10 whole
  line_clear = without_append 10 text (35 ∷ c) (line-without 10 w ws g (omega arith) (λ e. omega arith) high all) (without_append 10 (35 ∷ []) c one clear)
    where
      one : Without 10 (35 ∷ [])
      one zero l e = omega arith
      one (suc k) l e = omega arith

  -- its bytes before those of the lines behind it
  pub line-encoded : (lines at size : ℕ) (rest : List ℕ) → at + length whole ≤ 5242880 → size + length (bytes_of (first ∷ vs)) ≤ 65536
      → encoded_from lines at kind size (lines_of (whole ++ (10 ∷ rest)))
      ≡ after (bytes_of (first ∷ vs)) (encoded_from (lines + 1) (at + length whole + 1) later (size + length (bytes_of (first ∷ vs))) (lines_of rest))
  line-encoded lines at size rest h m =
      ap (encoded_from lines at kind size) ((Encode.kept).line_ended whole rest line_clear)
      ∙ (Encode.kept).line_taken lines at kind size whole (lines_of rest) h (omega (arith, ap (λ (s : Statement). s.size) takes, ap length says)) (ap (λ (s : Statement). s.expected) takes)
      ∙ ap (λ (s : Statement). after (bytes_in whole s.first s.words) (encoded_from (lines + 1) (at + length whole + 1) s.kind (size + s.size) (lines_of rest))) takes
      ∙ ap (λ (bs : List ℕ). after bs (encoded_from (lines + 1) (at + length whole + 1) later (size + length bs) (lines_of rest))) says

-- ---- lines that say nothing

none-starts : nth_start [] 0 ≡ 0
unfolding nth_start start_from past_nth lowest_below
none-starts = refl

module _ (kind : ℕ) (l : List ℕ) (e : uncommented l ≡ []) where
  silent : statement_of kind l ≡ record { expected = 0; word = 0; kind = kind; first = 0; words = 0; size = 0 }
  silent = (Encode.kept).silent_line kind l (rw e none-starts)

  pub silent-encoded : (lines at size : ℕ) (ls : List (List ℕ)) → at + length l ≤ 5242880 → size ≤ 65536
      → encoded_from lines at kind size (l ∷ ls) ≡ encoded_from (lines + 1) (at + length l + 1) kind (size + 0) ls
  silent-encoded lines at size ls h m =
      (Encode.kept).line_taken lines at kind size l ls h (omega (arith, ap (λ (s : Statement). s.size) silent)) (ap (λ (s : Statement). s.expected) silent)
      ∙ ap (λ (s : Statement). after (bytes_in l s.first s.words) (encoded_from (lines + 1) (at + length l + 1) s.kind (size + s.size) ls)) silent
      ∙ ap (λ (bs : List ℕ). after bs (encoded_from (lines + 1) (at + length l + 1) kind (size + 0) ls)) ((Encode.kept).silent_bytes l 0)

none : Encoding
none = record { refusal = record { expected = 0; line = 0; word = 0 }; bytes = [] }

-- the end of a text that has named its controller
pub end-encoded : (kind : ℕ) → kind ≢ 5 → (lines at size : ℕ) → at ≤ 5242880 → size ≤ 65536
    → encoded_from lines at kind size (lines_of []) ≡ record { refusal = record { expected = 0; line = 0; word = 0 }; bytes = [] }
unfolding lines_of
end-encoded kind n lines at size h m =
    silent-encoded kind [] ((Encode.kept).comment_none [] (λ k l. absurd (omega arith))) lines at size [] (omega arith) m ∙ (Encode.kept).ends (lines + 1) (at + 0 + 1) kind (size + 0) n

-- a last line that is a comment
pub comment-encoded : (kind : ℕ) → kind ≢ 5 → (c : List ℕ) → Without 10 c → (lines at size : ℕ) → at + suc (length c) + 1 ≤ 5242880 → size ≤ 65536
    → encoded_from lines at kind size (lines_of (35 ∷ (c ++ (10 ∷ [])))) ≡ record { refusal = record { expected = 0; line = 0; word = 0 }; bytes = [] }
comment-encoded kind n c clear lines at size h m =
    ap (encoded_from lines at kind size) ((Encode.kept).line_ended (35 ∷ c) [] (without_append 10 (35 ∷ []) c one clear))
    ∙ silent-encoded kind (35 ∷ c) ((Encode.kept).comment_gone [] c (λ k l. absurd (omega arith))) lines at size (lines_of []) (omega arith) m
    ∙ end-encoded kind n (lines + 1) (at + length {A = ℕ} (35 ∷ c) + 1) (size + 0) (omega arith) (omega arith)
  where
    one : Without 10 (35 ∷ [])
    one zero l e = omega arith
    one (suc k) l e = omega arith
