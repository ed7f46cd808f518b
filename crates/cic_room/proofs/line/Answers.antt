-- That `line` of src/lib.rt keeps its contract.
use mathlib.Core.Path.{refl, sym, ap, ◌∙◌}
use mathlib.Core.Bool.{◌||◌}
use Prim.Native.Nat.{ℕ}
use native.Mathlib.Omega.{arith}
use lib.Dec.{eqb, ltb, leb}
use lib.ListN.{get_or}
use Rattle.cic_record.specs.Kinds.{system}
use Rattle.cic_record.specs.Record.{answered}
use Rattle.cic_record.proofs.RuleLaws.{sound-is}
use Rattle.cic_registers.specs.Model.{moved}
use Rattle.cic_registers.proofs.StepLaws.{line_refused, line-carried}
use Rattle.cic_room.proofs.PutLaws.{systems-is}
use Rattle.cic_room.proofs.ReplyLaws.{done_as, line_stops, line-goes}
use Rattle.cic_room.proofs.line.Goals as goal

pub returns-then-room-number : goal.returns-then-room-number
returns-then-room-number c =
    let a = c.args in
    λ f d ok h.
    let n = systems-is h in
    done_as (line_refused d a.number a.level (line_stops d.systems a.number a.level (sound-is d ok).counts.0.1 (sym (ap (λ (x : ℕ). (leb x a.number || leb 1024 a.number) || ltb 1 a.level) n) ∙ c.if-room-number.true)) (λ q. absurd (omega (arith, q))))
    (h, c.refuse.ensures)

pub overflow_cast-number : goal.overflow_cast-number
overflow_cast-number c =
    let a = c.args in
    let b = (line-goes (get_or a.room.now 1 0) a.number a.level c.if-room-number.false).1 in
    omega (arith, b)

pub move_line-requires : goal.move_line-requires
move_line-requires c =
    let a = c.args in
    let b = (line-goes (get_or a.room.now 1 0) a.number a.level c.if-room-number.false).1 in
    b

pub returns : goal.returns
returns c =
    let a = c.args in
    λ f d ok h.
    let n = systems-is h in
    let g = line-goes d.systems a.number a.level (sym (ap (λ (x : ℕ). (leb x a.number || leb 1024 a.number) || ltb 1 a.level) n) ∙ c.if-room-number.false) in
    done_as (line-carried d a.number a.level {a = answered (moved d (system a.number) (eqb a.level 1)) 0} g.0 refl refl) (c.move_line.ensures f d h, c.answer.ensures)
