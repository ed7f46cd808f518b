-- That `read_bits` of src/reads.rt keeps its contract.
use mathlib.Core.Path.{refl, ap₂, ◌∙◌}
use Prim.Native.Nat.{ℕ, ◌/◌, ◌%◌}
use native.Mathlib.Omega.{arith}
use Rattle.words.specs.Word.{both}
use Rattle.cic_record.proofs.PartsLaws.{sound-parts}
use Rattle.cic_room.proofs.PutLaws.{systems-is, status-is, enable-is}
use Rattle.cic_room.proofs.ReplyLaws.{at_raw, at_enabled, word_as, told-raw, told_enabled}
use Rattle.cic_room.proofs.ReplyLaws.{told-either}
use Rattle.cic_room.proofs.reads.read_bits.Goals as goal

pub returns-in-4 : goal.returns-in-4
returns-in-4 c =
    let o = c.args.offset in
    let k = o / 4 % 32 in
    λ f d ok h.
    c.if_any.ensures
    ∙ told-raw d o k _ _ (at_raw o c.requires.1.1 c.in-4.is) (systems-is h) (status-is h k (omega arith) ∙ word_as 32 d.systems d.status k (omega arith) (sound-parts d ok).status)

pub returns-in-5 : goal.returns-in-5
returns-in-5 c =
    let o = c.args.offset in
    let k = o / 4 % 32 in
    λ f d ok h.
    c.if_any-in-5.ensures
    ∙ told_enabled d o k _ _ (at_enabled o c.requires.1.1 c.in-5.is) (systems-is h)
    (c.active_word.ensures f d h
    ∙ ap₂ (λ (x y : ℕ). both x y) (word_as 32 d.systems d.status k (omega arith) (sound-parts d ok).status) (word_as 32 d.systems d.enable k (omega arith) (sound-parts d ok).enable))

pub returns-in_default : goal.returns-in_default
returns-in_default c =
    let o = c.args.offset in
    let k = o / 4 % 32 in
    let r = c.in_default.in_default-own.rest in
    λ f d ok h.
    let w = enable-is h k (omega arith) ∙ word_as 32 d.systems d.enable k (omega arith) (sound-parts d ok).enable in
    c.if_any-in_default.ensures ∙ told-either d o k _ _ c.requires.0 c.requires.1.0 c.requires.1.1 r.0.1 r.1 refl (systems-is h) w
