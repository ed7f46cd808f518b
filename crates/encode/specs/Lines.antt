-- The line that tells a refused text: where, and what was expected (docs/TEXT.md).
use Rattle.std.specs.Prelude.{ℕ, List, [], ◌∷◌, ◌++◌, eqb}
use Rattle.words.specs.Choice.{pick}
use Rattle.text.specs.Text.{newline}
use Rattle.text.specs.Phrases.{bytes, counted}
use Rattle.encode.specs.Statements.{a_controller, a_step, a_number, the_line_end}
use Rattle.encode.specs.declared.Refusal.{Refusal}
use Rattle.encode.specs.Encode.{a_shorter_trace}

-- what was expected: a controller, a step, a number, the end of the line, a shorter trace or a shorter text
unfoldable pub expected_words : ℕ → ℕ → List ℕ
expected_words expected word =
    pick (eqb expected a_controller) (bytes ": a controller was expected: aic, coreinterrupt, cic, aintc or indexed")
    (pick (eqb expected a_step) (bytes ": a step was expected: read, write or line")
    (pick (eqb expected a_number) (counted (bytes ": a number of at most 32 bits was expected as word ") word)
    (pick (eqb expected the_line_end) (counted (bytes ": the end of the line was expected before word ") word)
    (pick (eqb expected a_shorter_trace) (bytes ": the trace is longer than 65536 bytes")
    (bytes ": the text is longer than 5242880 bytes")))))

unfoldable pub refused_line : Refusal → List ℕ
refused_line r = counted (bytes "line ") r.line ++ expected_words r.expected r.word ++ (newline ∷ [])
