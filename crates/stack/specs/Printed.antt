-- The line that states a stack size (02, 4/12).
use Rattle.std.specs.Prelude.{ℕ, List, [], ◌∷◌, ◌++◌, eqb}
use Rattle.words.specs.Choice.{pick}
use Rattle.steps.specs.Refusals.{carried_out}
use Rattle.text.specs.Text.{newline, decimal, field}
use Rattle.stack.specs.declared.Needed.{Needed}

-- a space, the word bytes and the end of the line: the unit is part of the answer (02, 4/12)
abbrev pub in_bytes : List ℕ
in_bytes = 32 ∷ 98 ∷ 121 ∷ 116 ∷ 101 ∷ 115 ∷ 10 ∷ []

-- the figure in decimal, and the word bytes
unfoldable pub figure_line : ℕ → List ℕ
figure_line bytes = decimal bytes ++ in_bytes

-- E and the number of a refusal, as a listing writes them (01, House trace)
unfoldable pub number_line : ℕ → List ℕ
number_line refusal = ((69 ∷ []) ++ field refusal) ++ (newline ∷ [])

-- the line of an answer
unfoldable pub text_of : Needed → List ℕ
text_of n = pick (eqb n.refusal carried_out) (figure_line n.bytes) (number_line n.refusal)
