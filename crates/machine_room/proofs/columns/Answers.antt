-- That `columns` of src/lib.rt keeps its contract.
use mathlib.Core.Path.{refl, ap, ◌∙◌}
use mathlib.Core.Bool.{true}
use borrow.Author.Rules.{rules}
use Rattle.cic_room.specs.Room.{plain}
use Rattle.machine.specs.Shown.{aic_columns, core_columns, cic_columns, aintc_columns}
use Rattle.machine.specs.Machine.{indexed}
use Rattle.machine.proofs.MachineLaws.{sound_aic, sound_core, sound-cic, sound_aintc, sound-indexed}
use Rattle.machine_room.proofs.RoomLaws.{of-kind, not-kind, aic_columns_lem, core_columns_lem, cic_columns_lem, aintc_columns_lem, indexed_columns, last-kind}
use Rattle.machine_room.proofs.columns.Goals as goal

pub returns-in-0 : goal.returns-in-0
returns-in-0 c =
    λ m ok h.
    let k = of-kind h c.in-0.is in
    aic_columns_lem m k _ (c.aic_columns.ensures ∙ ap aic_columns (c.outputs.ensures m.aic (sound_aic m k ∙ ok) (h.aic k)))

pub returns-in-1 : goal.returns-in-1
returns-in-1 c =
    λ m ok h.
    let k = of-kind h c.in-1.is in
    core_columns_lem m k _ (c.core_columns.ensures ∙ ap core_columns (c.outputs-in-1.ensures m.core (sound_core m k ∙ ok) (h.core k)))

pub returns-in-2 : goal.returns-in-2
returns-in-2 c =
    λ m ok h.
    let k = of-kind h c.in-2.is in
    cic_columns_lem m k _ (c.cic_columns.ensures ∙ ap cic_columns (c.outputs-in-2.ensures (plain true) m.cic refl (sound-cic m k ∙ ok) (h.cic k)))

pub returns-in-3 : goal.returns-in-3
returns-in-3 c =
    λ m ok h.
    let k = of-kind h c.in-3.is in
    aintc_columns_lem m k _ (c.aintc_columns.ensures ∙ ap aintc_columns (c.outputs-in-3.ensures m.aintc (sound_aintc m k ∙ ok) (h.aintc k)))

pub returns-in_default : goal.returns-in_default
returns-in_default c =
    λ m ok h.
    let k = last-kind m ok (not-kind h (search rules)) (not-kind h (search rules)) (not-kind h (search rules)) (not-kind h (search rules)) in
    indexed_columns m k _ (c.cic_columns-in_default.ensures ∙ ap cic_columns (c.outputs-in_default.ensures (indexed m) (sound-indexed m k ∙ ok) (h.indexed k)))
