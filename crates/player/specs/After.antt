-- How many status words, of 32 system interrupts each, a read would look at after a trace is played (02, 10/12).
use Rattle.std.specs.Prelude.{List, ℕ, eqb}
use Rattle.words.specs.Choice.{pick}
use Rattle.cic_prioritised.specs.Looking.{look_at}
use Rattle.kinds.specs.Kinds.{indexed_kind}
use Rattle.machine.specs.declared.record.Machine.{Machine}
use Rattle.machine.specs.Machine.{indexed}
use Rattle.beginning.specs.Play.{play_of}

-- of a machine: only a CIC with prioritised indices has a read that looks at words
unfoldable pub words_of : Machine → ℕ → ℕ
words_of m offset = pick (eqb m.kind indexed_kind) (look_at (indexed m) offset).words 0

-- of the machine after a trace of which at most so many steps are played
abbrev pub words_after : List ℕ → ℕ → ℕ → ℕ
words_after s limit offset = words_of (play_of s limit).machine offset
