-- The configured numbers of a record, and the answer of a step without its record.
use Rattle.std.specs.Prelude.{ℕ}
use Rattle.steps.specs.Refusals.{carried_out}
use Rattle.cic_record.specs.declared.Answer.{Answer}
use Rattle.cic_record.specs.declared.Cic.{Cic}
use Rattle.cic_record.specs.declared.Reply.{Reply}
use Rattle.cic_record.specs.declared.Size.{Size}

-- the configured numbers of a record
abbrev pub size_of : Cic → Size
size_of c = record { systems = c.systems; channels = c.channels; hosts = c.hosts; revision = c.revision }

-- a reply, with the record after it
abbrev pub answer_of : Reply → Cic → Answer
answer_of r c = record { refusal = r.refusal; value = r.value; cic = c }

-- the reply of a step that is refused: its number and the value 0 (01, Numbers)
abbrev pub refused_reply : ℕ → Reply
refused_reply n = record { refusal = n; value = 0 }

-- the reply of a step that is carried out, with its value
abbrev pub answered_reply : ℕ → Reply
answered_reply v = record { refusal = carried_out; value = v }
