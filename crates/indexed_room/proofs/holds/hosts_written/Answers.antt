-- That `hosts_written` of src/holds.rt keeps its contract.
use mathlib.Core.Path.{ap, ◌∙◌}
use Prim.Native.Nat.{ℕ}
use Rattle.words.specs.Array.{rest_at}
use Rattle.words.specs.Word.{kept}
use Rattle.indexed_room.proofs.FrameLaws.{hosts-is}
use Rattle.indexed_room.proofs.HoldLaws.{hosts-none, hosts-some}
use Rattle.indexed_room.proofs.holds.hosts_written.Goals as goal

pub returns-then-w-eq0 : goal.returns-then-w-eq0
returns-then-w-eq0 c =
    let a = c.args in
    λ p h. hosts-none p _ _ _ (c.keep-w.ensures ∙ ap (λ (n : ℕ). kept n a.v) (c.rest_at.ensures ∙ ap (λ (n : ℕ). rest_at n a.k) (hosts-is h))) c.if-w-eq0.true h

pub returns : goal.returns
returns c =
    let a = c.args in
    λ p h.
    hosts-some p _ _ _ (c.keep-w.ensures ∙ ap (λ (n : ℕ). kept n a.v) (c.rest_at.ensures ∙ ap (λ (n : ℕ). rest_at n a.k) (hosts-is h))) c.if-w-eq0.false
    (c.hold_global.ensures _ (c.free_word.ensures p h))
