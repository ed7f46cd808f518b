-- That `write_channels` of src/writes.rt keeps its contract.
use mathlib.Core.Path.{sym, ap, ◌∙◌}
use Prim.Native.Nat.{◌*◌, ◌<◌}
use native.Mathlib.Omega.{arith}
use Rattle.steps.specs.Refusals.{absent, beyond, write_access}
use Rattle.cic_record.specs.declared.Size.{Size}
use Rattle.cic_registers.specs.Maps.{map_taken}
use Rattle.cic_registers.specs.declared.layout.Register.TheVariants.{ChannelMap}
use Rattle.cic_registers.specs.Map.{access_of, if_any}
use Rattle.cic_registers.specs.Registers.{unless, value_refusal, written_to}
use Rattle.cic_room.proofs.PutLaws.{systems-is}
use Rattle.cic_room.proofs.ReplyLaws.{carried, stopped, within_limit, past_limit, there, not_there}
use Rattle.cic_room.proofs.writes.write_channels.Goals as goal

pub returns-then-room-k : goal.returns-then-room-k
unfolding access_of value_refusal written_to
returns-then-room-k c = let a = c.args in λ f d ok h. stopped d (written_to d (ChannelMap a.k) a.v) (write_access (if_any (4 * a.k) d.systems) (unless (map_taken d.systems d.channels a.k a.v))) absent (not_there (4 * a.k) d.systems (unless (map_taken d.systems d.channels a.k a.v)) (omega (arith, c.if-room-k.true, systems-is h))) (λ q. absurd (omega (arith, q))) c.refuse.ensures h

pub returns-then-taken : goal.returns-then-taken
unfolding access_of value_refusal written_to
returns-then-taken c =
    let a = c.args in
    λ f d ok h.
    let l : 4 * a.k < d.systems = omega (arith, c.if-room-k.false, systems-is h) in
    let t = c.channels_taken-taken.ensures ∙ ap (λ (z : Size). map_taken z.systems z.channels a.k a.v) (c.size_of.ensures f d h) in
    carried d (written_to d (ChannelMap a.k) a.v) (write_access (if_any (4 * a.k) d.systems) (unless (map_taken d.systems d.channels a.k a.v))) (there (4 * a.k) d.systems (unless (map_taken d.systems d.channels a.k a.v)) l ∙ within_limit (sym t ∙ c.if-taken.true)) c.answer.ensures (c.write_channels.ensures f d ok l h)

pub returns : goal.returns
unfolding access_of value_refusal written_to
returns c =
    let a = c.args in
    λ f d ok h.
    let l : 4 * a.k < d.systems = omega (arith, c.if-room-k.false, systems-is h) in
    let t = c.channels_taken-taken.ensures ∙ ap (λ (z : Size). map_taken z.systems z.channels a.k a.v) (c.size_of.ensures f d h) in
    stopped d (written_to d (ChannelMap a.k) a.v) (write_access (if_any (4 * a.k) d.systems) (unless (map_taken d.systems d.channels a.k a.v))) beyond (past_limit (sym t ∙ c.if-taken.false) ∙ sym (there (4 * a.k) d.systems (unless (map_taken d.systems d.channels a.k a.v)) l)) (λ q. absurd (omega (arith, q))) c.refuse-2.ensures h
