-- What a read of a CIC with prioritised indices answers, and how many status words, of 32 system interrupts each, it looks at (02, 10/12).
use Rattle.std.specs.Prelude.{Bool, true, false, ℕ, eqb, get_or}
use Rattle.words.specs.Choice.{pick}
use Rattle.steps.specs.Refusals.{carried_out}
use Rattle.cic_record.specs.declared.Cic.{Cic}
use Rattle.cic_record.specs.declared.Host.{Host}
use Rattle.cic_record.specs.Kinds.{host_number}
use Rattle.cic_held.specs.declared.indices.Found.{Found}
use Rattle.cic_held.specs.Looked.{looked_over}
use Rattle.cic_held.specs.Order.{leads, index_of}
use Rattle.cic_held.specs.declared.Answer.{Answer}
use Rattle.cic_held.specs.declared.Prioritised.{Prioritised}
use Rattle.cic_indexed.specs.declared.Own.{Own}
use Rattle.cic_indexed.specs.declared.Own.TheVariants.{Elsewhere, Control, GlobalIndex, HostIndex}
use Rattle.cic_indexed.specs.Registers.{own_at, index_read}
use Rattle.cic_indexed.specs.Model.{read_as, read}
use Rattle.cic_prioritised.specs.declared.looked.Looked.{Looked}

abbrev pub looked : ℕ → ℕ → ℕ → Looked
looked refusal value words = record { refusal = refusal; value = value; words = words }

-- ---- words

-- an index that is held is not searched for; else its channels are, over every channel or those of host h (02, 10/12; 001, 1.3.5)
abbrev pub words_now : Cic → ℕ → Bool → Host → ℕ
words_now c x every h = pick (eqb x 0) (looked_over c (leads c every h)) 0

-- beside the word that the index answers
abbrev pub found_now : Cic → ℕ → Bool → Host → Found
found_now c x every h = record { index = index_read x (index_of c every h); words = words_now c x every h }

-- only the indices look at words (02, 10/12)
unfoldable pub words_at : Prioritised → Own → ℕ
words_at p Elsewhere = 0
words_at p Control = 0
words_at p GlobalIndex = words_now p.cic p.held.global true (host_number 0)
words_at p (HostIndex h) = words_now p.cic (get_or p.held.host h.0 0) false h

-- ---- answers

-- the refusal and the value of a read, and its words where it is carried out (02, 10/12)
abbrev pub looked_from : Answer → ℕ → Looked
looked_from a words = looked a.refusal a.value (pick (eqb a.refusal carried_out) words 0)

abbrev pub look_as : Bool → Prioritised → ℕ → Own → Looked
look_as ok p offset own = looked_from (read_as ok p offset own) (words_at p own)

-- of any record and any offset
unfoldable pub look_at : Prioritised → ℕ → Looked
look_at p offset = looked_from (read p offset) (words_at p (own_at p offset))
