-- That `copies` of src/transfer.rt keeps its contract.
use mathlib.Core.Path.{ap, ◌∙◌}
use Prim.Native.Nat.{ℕ}
use lib.ListN.{get_or, length-replicate}
use Rattle.cic_record.specs.Promises.{Shaped}
use Rattle.cic_registers.specs.Maps.{map_read}
use Rattle.cic_room.proofs.LayLaws.{laid-first}
use mathlib.Core.List.{[], ◌∷◌}
use Rattle.cic_room.proofs.CopyLaws.{copied_as, copied_whole}
use borrow.Author.Rules.{rules}
use Rattle.cic_room.proofs.transfer.copies.Goals as goal

pub returns : goal.returns
returns c =
    let d = c.args.c in
    let shaped : Shaped d = (search rules, search rules, search rules, search rules, search rules, search rules) in
    let e = length-replicate {A = ℕ} 2048 0 in
    let c1 = c.copy.ensures e in
    let e1 = c1.long ∙ e in
    let c2 = c.copy-2.ensures e1 in
    let e2 = c2.long ∙ e1 in
    let c3 = c.copy-3.ensures e2 in
    let e3 = c3.long ∙ e2 in
    let c4 = c.copy-4.ensures e3 in
    let e4 = c4.long ∙ e3 in
    let c5 = c.copy-5.ensures e4 in
    let e5 = c5.long ∙ e4 in
    let c6 = c.copy_map.ensures e5 in
    let e6 = c6.long ∙ e5 in
    let c7 = c.copy_map-2.ensures e6 in
    λ ok.
    laid-first d c.args.kept _ _ _ _ _ _ _ ok shaped
    (copied_as (λ k _. ap (λ (x : ℕ). get_or (2 ∷ d.systems ∷ d.channels ∷ d.hosts ∷ d.revision ∷ d.global ∷ x ∷ []) k 0) c.one_if.ensures) c1)
    (copied_whole shaped.5 c2) (copied_whole shaped.0 c3) (copied_whole shaped.1 c4) (copied_whole shaped.2 c5)
    (copied_as (λ k _. ap (λ (n : ℕ). map_read n d.host k) shaped.4) c6) (copied_as (λ k _. ap (λ (n : ℕ). map_read n d.channel k) shaped.3) c7)
