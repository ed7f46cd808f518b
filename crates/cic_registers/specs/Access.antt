-- A read and a write of a register at an aligned offset, by what the register may be used for (01, Numbers; 01, CIC, registers).
use Rattle.std.specs.Prelude.{ℕ, eqb}
use Rattle.words.specs.Choice.{pick}
use Rattle.steps.specs.Refusals.{carried_out, read_access, write_access}
use Rattle.cic_record.specs.declared.Answer.{Answer}
use Rattle.cic_record.specs.declared.Cic.{Cic}
use Rattle.cic_record.specs.declared.Reply.{Reply}
use Rattle.cic_record.specs.Parts.{refused_reply, answered_reply}
use Rattle.cic_record.specs.Record.{refused, answered}
use Rattle.cic_registers.specs.declared.layout.Register.{Register}
use Rattle.cic_registers.specs.Map.{access_of}
use Rattle.cic_registers.specs.Registers.{value_of, value_refusal, written_to}

-- the reply with the value v where nothing is refused, else with the number n (01, Numbers)
abbrev pub reply_by : ℕ → ℕ → Reply
reply_by n v = pick (eqb n carried_out) (answered_reply v) (refused_reply n)

-- the answer with the record d after it where nothing is refused, else with the number n and the same record c (01, Numbers)
abbrev pub answer_by : Cic → ℕ → Cic → Answer
answer_by c n d = pick (eqb n carried_out) (answered d 0) (refused c n)

-- a read of the register r (01, Numbers; 01, CIC, registers)
abbrev pub read_in : Cic → Register → Reply
read_in c r = reply_by (read_access (access_of c r)) (value_of c r)

-- a write of v to the register r (01, Numbers; 01, CIC, registers)
abbrev pub write_in : Cic → Register → ℕ → Answer
write_in c r v = answer_by c (write_access (access_of c r) (value_refusal c r v)) (written_to c r v)
