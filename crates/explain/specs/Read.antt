-- The numbers of a trace that was played: the kind, the configuration and those of each step (01, "House trace").
use Rattle.std.specs.Prelude.{ℕ, Bool, List, [], ◌∷◌, ◌++◌}
use Rattle.steps.specs.declared.Recorded.{Recorded}
use Rattle.numbers.specs.Promises.{told_at}
use Rattle.trace.specs.Steps.{numbers_of}
use Rattle.kinds.specs.Kinds.{wanted, tells_privilege}
use Rattle.beginning.specs.Begin.{begin_of}
use Rattle.beginning.specs.Play.{records_of}
use Rattle.explain.specs.Stated.{numbers_at}

-- those of some steps, one after the other
unfoldable pub numbers_in : Bool → List Recorded → List ℕ
numbers_in told [] = []
numbers_in told (x ∷ xs) = numbers_of told x ++ numbers_in told xs

-- those of the kind and its configuration, as the trace begins with them
abbrev pub starting_numbers : List ℕ → ℕ → List ℕ
starting_numbers s kind = kind ∷ numbers_at (wanted kind) s (told_at s 0).place

-- all of a trace that starts a controller, of which at most so many steps are played
abbrev pub played_numbers : List ℕ → ℕ → List ℕ
played_numbers s limit = starting_numbers s (begin_of s).machine.kind ++ numbers_in (tells_privilege (begin_of s).machine.kind) (records_of s limit).steps
