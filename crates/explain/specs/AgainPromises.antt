-- What is promised of an explained trace that is read back: encoding it gives the controller, its configuration and the steps played, each number in its
-- shortest form; and explaining a text that was encoded gives the statements of that text (docs/TEXT.md, "A trace explained").
use Rattle.std.specs.Prelude.{ℕ, suc, ◌+◌, ◌^◌, ◌≤◌, ◌<◌, ◌≡◌, Bool, true, List, [], ◌∷◌, ◌++◌, length, take}
use Rattle.steps.specs.declared.Recorded.{Recorded}
use Rattle.text.specs.Text.{hex_of, decimal}
use Rattle.tables.specs.Typed.{nth_start, nth_typed}
use Rattle.tables.specs.Number.{is_number, worth}
use Rattle.tables.specs.Reading.{list_of}
use Rattle.trace.specs.Steps.{numbers_of}
use Rattle.encode.specs.Bytes.{bytes_of}
use Rattle.encode.specs.Statements.{uncommented, statement_of}
use Rattle.encode.specs.Encode.{encoded}
use Rattle.encode.specs.Promises.{Stands, Opens, Numbered}
use Rattle.beginning.specs.Begin.{begin_of}
use Rattle.beginning.specs.Play.{records_of}
use Rattle.explain.specs.Explain.{explained_of}
use Rattle.explain.specs.Read.{numbers_in, played_numbers}
use Rattle.explain.specs.Said.{said_in, said_by, statements_of, played_statements}

pub record Promises : Type 0 where
  -- a number that is printed is read as that number: a decimal of 32 bits, and hexadecimal digits behind 0x
  pub decimal_read : (v : ℕ) → v < 2 ^ 32 → (is_number (decimal v) ≡ true) × (worth (decimal v) ≡ v)
  pub hex_read : (k v : ℕ) → 1 ≤ k → v < 16 ^ k → (is_number (48 ∷ 120 ∷ hex_of k v) ≡ true) × (worth (48 ∷ 120 ∷ hex_of k v) ≡ v)
  -- the numbers of steps stand one after the other
  pub no_numbers : (told : Bool) → numbers_in told [] ≡ []
  pub more_numbers : (told : Bool) (x : Recorded) (xs : List Recorded) → numbers_in told (x ∷ xs) ≡ numbers_of told x ++ numbers_in told xs
  -- encoding what is printed of a trace that starts a controller refuses nothing, and gives the shortest form of its kind, configuration and steps played
  pub again : (s : List ℕ) (limit : ℕ) → limit ≤ 20000 → (begin_of s).refusal ≡ 0
      → encoded (explained_of s limit) ≡ record { refusal = record { expected = 0; line = 0; word = 0 }; bytes = bytes_of (played_numbers s limit) }
  -- from these bytes a player reads the same controller and the same steps, and then they end
  pub read_again : (s : List ℕ) (limit : ℕ) → (begin_of s).refusal ≡ 0
      → ((begin_of (bytes_of (played_numbers s limit))).refusal ≡ 0)
      × ((begin_of (bytes_of (played_numbers s limit))).machine ≡ (begin_of s).machine)
      × (records_of (bytes_of (played_numbers s limit)) limit
      ≡ record { steps = (records_of s limit).steps; refusal = 0; offset = length (bytes_of (played_numbers s limit)) })
  -- ---- the statements of a text, each as its numbers

  -- a line without a word says nothing; one that is taken says one statement: the number of its first word and what the others are worth
  pub nothing_said : (kind : ℕ) (l : List ℕ) → nth_start (uncommented l) 0 ≡ length (uncommented l) → said_in kind l ≡ []
  pub one_said : (kind first n later : ℕ) (l : List ℕ) → Stands l 0 → Opens kind l first n later → Numbered l n
      → length (uncommented l) ≤ nth_start (uncommented l) (n + 1)
      → said_in kind l ≡ (first ∷ list_of n (λ k. worth (nth_typed (uncommented l) (k + 1)))) ∷ []
  -- lines say what each says, in their order, each with the kind that those before it leave
  pub no_lines : (kind : ℕ) → said_by kind [] ≡ []
  pub more_lines : (kind : ℕ) (l : List ℕ) (ls : List (List ℕ)) → said_by kind (l ∷ ls) ≡ said_in kind l ++ said_by (statement_of kind l).kind ls
  -- what is printed of a trace that starts a controller states its kind and configuration, and the steps played
  pub explained_statements : (s : List ℕ) (limit : ℕ) → limit ≤ 20000 → (begin_of s).refusal ≡ 0 → statements_of (explained_of s limit) ≡ played_statements s limit
  -- these are the statements of the text that the trace was encoded from, the controller and as many steps as are played
  pub text_statements : (text : List ℕ) (limit : ℕ) → (encoded text).refusal.expected ≡ 0 → (begin_of (encoded text).bytes).refusal ≡ 0
      → played_statements (encoded text).bytes limit ≡ take (suc limit) (statements_of text)
  -- so what is printed of an encoded text that starts a controller has the statements of that text, number by number and in their order
  pub same_statements : (text : List ℕ) (limit : ℕ) → limit ≤ 20000 → (encoded text).refusal.expected ≡ 0 → (begin_of (encoded text).bytes).refusal ≡ 0
      → statements_of (explained_of (encoded text).bytes limit) ≡ take (suc limit) (statements_of text)
