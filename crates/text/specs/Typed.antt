-- A number as it is typed behind a command: decimal digits and nothing else.
use Rattle.std.specs.Prelude.{ℕ, ◌+◌, ◌-◌, ◌*◌, Bool, ◌&&◌, List, [], ◌∷◌, leb, ltb}
use Rattle.words.specs.Choice.{pick}

-- another digit may follow digits worth v: the byte is one of 0 to 9, and the number stays below 1,000,000,000
abbrev pub goes_on : ℕ → ℕ → Bool
goes_on v b = leb 48 b && leb b 57 && ltb v 100000000

-- what digits are worth after some worth v, 0 for anything else
unfoldable pub typed_after : ℕ → List ℕ → ℕ
typed_after v [] = v
typed_after v (b ∷ bs) = pick (goes_on v b) (typed_after (10 * v + (b - 48)) bs) 0

-- the number typed; 0, which counts no step, for anything else
unfoldable pub typed : List ℕ → ℕ
typed s = typed_after 0 s
