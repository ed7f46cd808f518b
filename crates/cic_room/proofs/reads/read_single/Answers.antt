-- That `read_single` of src/reads.rt keeps its contract.
use mathlib.Core.Path.{refl, ap, ◌∙◌}
use Prim.Native.Nat.{ℕ}
use Rattle.cic_registers.specs.Map.{register_at, access_of}
use Rattle.cic_registers.proofs.LayoutPromises as of-layout
use Rattle.rooms.specs.Reply.{reply}
use Rattle.cic_room.proofs.PutLaws.{revision-is, global-is}
use Rattle.cic_room.proofs.ReplyLaws.{told-revision, told_global, told-unreadable, told-nothing}
use Rattle.cic_room.proofs.reads.read_single.Goals as goal

pub returns-in-0 : goal.returns-in-0
returns-in-0 c = let a = c.args in λ f d ok h. c.answer.ensures ∙ ap (λ (v : ℕ). reply 0 v) (revision-is h) ∙ told-revision d a.offset (ap register_at c.in-0.is ∙ (of-layout.kept).revision)

pub returns-in-16 : goal.returns-in-16
returns-in-16 c = let a = c.args in λ f d ok h. c.answer-in-16.ensures ∙ ap (λ (v : ℕ). reply 0 v) (global-is h) ∙ told_global d a.offset (ap register_at c.in-16.is ∙ (of-layout.kept).global_enable)

pub returns-in-32 : goal.returns-in-32
unfolding access_of
returns-in-32 c = let a = c.args in λ f d ok h. c.refuse.ensures ∙ told-unreadable d a.offset (ap register_at c.in-32.is ∙ (of-layout.kept).status_index.0) refl

pub returns-in-36 : goal.returns-in-36
unfolding access_of
returns-in-36 c = let a = c.args in λ f d ok h. c.refuse-in-36.ensures ∙ told-unreadable d a.offset (ap register_at c.in-36.is ∙ (of-layout.kept).status_index.1) refl

pub returns-in-40 : goal.returns-in-40
unfolding access_of
returns-in-40 c = let a = c.args in λ f d ok h. c.refuse-in-40.ensures ∙ told-unreadable d a.offset (ap register_at c.in-40.is ∙ (of-layout.kept).enable_index.0) refl

pub returns-in-44 : goal.returns-in-44
unfolding access_of
returns-in-44 c = let a = c.args in λ f d ok h. c.refuse-in-44.ensures ∙ told-unreadable d a.offset (ap register_at c.in-44.is ∙ (of-layout.kept).enable_index.1) refl

pub returns-in-52 : goal.returns-in-52
unfolding access_of
returns-in-52 c = let a = c.args in λ f d ok h. c.refuse-in-52.ensures ∙ told-unreadable d a.offset (ap register_at c.in-52.is ∙ (of-layout.kept).host_index.0) refl

pub returns-in-56 : goal.returns-in-56
unfolding access_of
returns-in-56 c = let a = c.args in λ f d ok h. c.refuse-in-56.ensures ∙ told-unreadable d a.offset (ap register_at c.in-56.is ∙ (of-layout.kept).host_index.1) refl

pub returns-in_default : goal.returns-in_default
returns-in_default c =
    let r = c.in_default.in_default-own.rest in
    λ f d ok h. c.refuse-in_default.ensures ∙ told-nothing d c.args.offset ((of-layout.kept).no_other c.args.offset c.requires r.0.0.0.0.0.0.0.1 r.0.0.0.0.0.0.1 r.0.0.0.0.0.1 r.0.0.0.0.1 r.0.0.0.1 r.0.0.1 r.0.1 r.1)
