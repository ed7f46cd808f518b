-- That `read_map` of src/reads.rt keeps its contract.
use mathlib.Core.Path.{◌∙◌}
use Prim.Native.Nat.{◌-◌, ◌/◌}
use native.Mathlib.Omega.{arith}
use Rattle.cic_record.proofs.RuleLaws.{sound-is}
use Rattle.cic_room.proofs.PutLaws.{systems-is, channels-is}
use Rattle.cic_room.proofs.RoomLaws.{held_of}
use Rattle.cic_room.proofs.ReplyLaws.{at_channels, at_hosts, map_as, told_channels, told_hosts}
use Rattle.cic_room.proofs.reads.read_map.Goals as goal

pub returns-then-offset-lt2048 : goal.returns-then-offset-lt2048
returns-then-offset-lt2048 c =
    let o = c.args.offset in
    let k = (o - 0x400) / 4 in
    let l = c.if-offset-lt2048.true in
    λ f d ok h.
    c.if_any.ensures
    ∙ told_channels d o k _ _ (at_channels o c.requires.1.1 c.requires.0 l) (systems-is h)
    ((held_of h).channel.holds k (omega (arith, l, c.requires.0)) ∙ map_as d.systems 1024 d.channel k (sound-is d ok).counts.0.1 (omega (arith, l, c.requires.0)) (sound-is d ok).spare_channels)

pub returns : goal.returns
returns c =
    let o = c.args.offset in
    let k = (o - 0x800) / 4 in
    let l = c.if-offset-lt2048.false in
    λ f d ok h.
    c.if_any-2.ensures
    ∙ told_hosts d o k _ _ (at_hosts o c.requires.1.1 (omega (arith, l)) c.requires.1.0) (channels-is h)
    ((held_of h).host.holds k (omega (arith, l, c.requires.1.0)) ∙ map_as d.channels 256 d.host k (sound-is d ok).counts.1.0.1 (omega (arith, l, c.requires.1.0)) (sound-is d ok).spare_hosts)
