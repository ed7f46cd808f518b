-- That `step` of src/lib.rt keeps its contract.
use mathlib.Core.Path.{refl, sym, ◌∙◌}
use native.Mathlib.Omega.{arith}
use Rattle.cic_registers.specs.Model.{step_as}
use Rattle.cic_room.specs.Room.{plain}
use Rattle.trace.proofs.TurnLaws.{step-read, step-write}
use Rattle.machine.specs.Machine.{indexed}
use Rattle.machine.proofs.MachineLaws.{sound_aic, sound_core, sound-cic, sound_aintc, sound-indexed}
use Rattle.machine_room.proofs.RoomLaws.{of-kind, told-kind, told-step, line_step, last_step, aic-done, core-done, cic-done, aintc-done, indexed-done}
use Rattle.machine_room.proofs.step.Goals as goal

pub returns-in-1 : goal.returns-in-1
returns-in-1 c =
    let e = sym c.place.ensures ∙ c.in-1.is in
    λ kept m ok h.
    let k = of-kind h (told-kind _ _ 0 1 c.requires.1 (omega arith) e) in
    let t = told-step _ _ 0 1 c.requires.1 (omega arith) e in
    aic-done kept m _ _ _ _ k (step-read _ _ _ t) (c.read.ensures m.aic (sound_aic m k ∙ ok) (h.aic k))

pub returns-in-2 : goal.returns-in-2
returns-in-2 c =
    let e = sym c.place.ensures ∙ c.in-2.is in
    λ kept m ok h.
    let k = of-kind h (told-kind _ _ 0 2 c.requires.1 (omega arith) e) in
    let t = told-step _ _ 0 2 c.requires.1 (omega arith) e in
    aic-done kept m _ _ _ _ k (step-write _ _ _ t) (c.write.ensures m.aic (sound_aic m k ∙ ok) (h.aic k))

pub returns-in-3 : goal.returns-in-3
returns-in-3 c =
    let e = sym c.place.ensures ∙ c.in-3.is in
    λ kept m ok h.
    let k = of-kind h (told-kind _ _ 0 3 c.requires.1 (omega arith) e) in
    let t = told-step _ _ 0 3 c.requires.1 (omega arith) e in
    aic-done kept m _ _ _ _ k (line_step _ _ _ t) (c.line.ensures m.aic (sound_aic m k ∙ ok) (h.aic k))

pub returns-in-5 : goal.returns-in-5
returns-in-5 c =
    let e = sym c.place.ensures ∙ c.in-5.is in
    λ kept m ok h.
    let k = of-kind h (told-kind _ _ 1 1 c.requires.1 (omega arith) e) in
    let t = told-step _ _ 1 1 c.requires.1 (omega arith) e in
    core-done kept m _ _ _ _ k (step-read _ _ _ t) (c.read-in-5.ensures m.core (sound_core m k ∙ ok) (h.core k))

pub returns-in-6 : goal.returns-in-6
returns-in-6 c =
    let e = sym c.place.ensures ∙ c.in-6.is in
    λ kept m ok h.
    let k = of-kind h (told-kind _ _ 1 2 c.requires.1 (omega arith) e) in
    let t = told-step _ _ 1 2 c.requires.1 (omega arith) e in
    core-done kept m _ _ _ _ k (step-write _ _ _ t) (c.write-in-6.ensures m.core (sound_core m k ∙ ok) (h.core k))

pub returns-in-7 : goal.returns-in-7
returns-in-7 c =
    let e = sym c.place.ensures ∙ c.in-7.is in
    λ kept m ok h.
    let k = of-kind h (told-kind _ _ 1 3 c.requires.1 (omega arith) e) in
    let t = told-step _ _ 1 3 c.requires.1 (omega arith) e in
    core-done kept m _ _ _ _ k (line_step _ _ _ t) (c.line-in-7.ensures m.core (sound_core m k ∙ ok) (h.core k))

pub returns-in-9 : goal.returns-in-9
unfolding step_as
returns-in-9 c =
    let e = sym c.place.ensures ∙ c.in-9.is in
    λ kept m ok h.
    let k = of-kind h (told-kind _ _ 2 1 c.requires.1 (omega arith) e) in
    let t = told-step _ _ 2 1 c.requires.1 (omega arith) e in
    let o = sound-cic m k ∙ ok in
    cic-done kept m _ _ _ _ k o (step-read _ _ _ t) (c.read-in-9.ensures (plain kept) m.cic o (h.cic k))

pub returns-in-10 : goal.returns-in-10
unfolding step_as
returns-in-10 c =
    let e = sym c.place.ensures ∙ c.in-10.is in
    λ kept m ok h.
    let k = of-kind h (told-kind _ _ 2 2 c.requires.1 (omega arith) e) in
    let t = told-step _ _ 2 2 c.requires.1 (omega arith) e in
    let o = sound-cic m k ∙ ok in
    cic-done kept m _ _ _ _ k o (step-write _ _ _ t) (c.write-in-10.ensures (plain kept) m.cic o (h.cic k))

pub returns-in-11 : goal.returns-in-11
unfolding step_as
returns-in-11 c =
    let e = sym c.place.ensures ∙ c.in-11.is in
    λ kept m ok h.
    let k = of-kind h (told-kind _ _ 2 3 c.requires.1 (omega arith) e) in
    let t = told-step _ _ 2 3 c.requires.1 (omega arith) e in
    let o = sound-cic m k ∙ ok in
    cic-done kept m _ _ _ _ k o (line_step _ _ _ t) (c.line-in-11.ensures (plain kept) m.cic o (h.cic k))

pub returns-in-13 : goal.returns-in-13
returns-in-13 c =
    let e = sym c.place.ensures ∙ c.in-13.is in
    λ kept m ok h.
    let k = of-kind h (told-kind _ _ 3 1 c.requires.1 (omega arith) e) in
    let t = told-step _ _ 3 1 c.requires.1 (omega arith) e in
    aintc-done kept m _ _ _ _ k (step-read _ _ _ t) (c.read-in-13.ensures m.aintc (sound_aintc m k ∙ ok) (h.aintc k))

pub returns-in-14 : goal.returns-in-14
returns-in-14 c =
    let e = sym c.place.ensures ∙ c.in-14.is in
    λ kept m ok h.
    let k = of-kind h (told-kind _ _ 3 2 c.requires.1 (omega arith) e) in
    let t = told-step _ _ 3 2 c.requires.1 (omega arith) e in
    aintc-done kept m _ _ _ _ k (step-write _ _ _ t) (c.write-in-14.ensures m.aintc (sound_aintc m k ∙ ok) (h.aintc k))

pub returns-in-15 : goal.returns-in-15
returns-in-15 c =
    let e = sym c.place.ensures ∙ c.in-15.is in
    λ kept m ok h.
    let k = of-kind h (told-kind _ _ 3 3 c.requires.1 (omega arith) e) in
    let t = told-step _ _ 3 3 c.requires.1 (omega arith) e in
    aintc-done kept m _ _ _ _ k (line_step _ _ _ t) (c.line-in-15.ensures m.aintc (sound_aintc m k ∙ ok) (h.aintc k))

pub returns-in-17 : goal.returns-in-17
returns-in-17 c =
    let e = sym c.place.ensures ∙ c.in-17.is in
    λ kept m ok h.
    let k = of-kind h (told-kind _ _ 4 1 c.requires.1 (omega arith) e) in
    indexed-done kept m _ _ _ _ k refl (c.step.ensures (indexed m) (sound-indexed m k ∙ ok) (h.indexed k))

pub returns-in-18 : goal.returns-in-18
returns-in-18 c =
    let e = sym c.place.ensures ∙ c.in-18.is in
    λ kept m ok h.
    let k = of-kind h (told-kind _ _ 4 2 c.requires.1 (omega arith) e) in
    indexed-done kept m _ _ _ _ k refl (c.step-in-18.ensures (indexed m) (sound-indexed m k ∙ ok) (h.indexed k))

pub returns-in_default : goal.returns-in_default
returns-in_default c =
    λ kept m ok h.
    let r = c.in_default.in_default-own.rest in
    let w = last_step h ok _ _ c.requires c.place.ensures r.0.0.0.0.0.0.0.0.0.0.0.0.0.1 r.0.0.0.0.0.0.0.0.0.0.0.0.1 r.0.0.0.0.0.0.0.0.0.0.0.1 r.0.0.0.0.0.0.0.0.0.0.1 r.0.0.0.0.0.0.0.0.0.1 r.0.0.0.0.0.0.0.0.1 r.0.0.0.0.0.0.0.1 r.0.0.0.0.0.0.1 r.0.0.0.0.0.1 r.0.0.0.0.1 r.0.0.0.1 r.0.0.1 r.0.1 r.1 in
    let k = w.0 in
    let t = w.1 in
    indexed-done kept m _ _ _ _ k (line_step _ _ _ t) (c.line-in_default.ensures (indexed m) (sound-indexed m k ∙ ok) (h.indexed k))
