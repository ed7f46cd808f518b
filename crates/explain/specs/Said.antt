-- The statements of a text, each as the numbers that it brings into a trace: the controller and its configuration, then the steps (docs/TEXT.md).
use Rattle.std.specs.Prelude.{ℕ, List, [], ◌∷◌, ◌++◌, map, eqb}
use Rattle.words.specs.Choice.{pick}
use Rattle.trace.specs.Steps.{numbers_of as step_numbers}
use Rattle.kinds.specs.Kinds.{tells_privilege}
use Rattle.encode.specs.Words.{no_kind}
use Rattle.encode.specs.Statements.{uncommented, statement_of, numbers_of}
use Rattle.encode.specs.Encode.{lines_of}
use Rattle.beginning.specs.Begin.{begin_of}
use Rattle.beginning.specs.Play.{records_of}
use Rattle.explain.specs.Read.{starting_numbers}

-- what a line says in a text that has named this kind: nothing where it has no word, else its one statement
unfoldable pub said_in : ℕ → List ℕ → List (List ℕ)
said_in kind l =
    pick (eqb (statement_of kind l).words 0) [] (numbers_of (uncommented l) (statement_of kind l).first (statement_of kind l).words ∷ [])

-- what lines say, from the first to the last
unfoldable pub said_by : ℕ → List (List ℕ) → List (List ℕ)
said_by kind [] = []
said_by kind (l ∷ ls) = said_in kind l ++ said_by (statement_of kind l).kind ls

-- the statements of a text
abbrev pub statements_of : List ℕ → List (List ℕ)
statements_of text = said_by no_kind (lines_of text)

-- those that are played of a trace that starts a controller, at most so many steps
abbrev pub played_statements : List ℕ → ℕ → List (List ℕ)
played_statements s limit =
    starting_numbers s (begin_of s).machine.kind ∷ map (step_numbers (tells_privilege (begin_of s).machine.kind)) (records_of s limit).steps
