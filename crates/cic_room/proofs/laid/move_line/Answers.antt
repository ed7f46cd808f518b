-- That `move_line` of src/laid.rt keeps its contract.
use mathlib.Core.Path.{sym, ap, ◌∙◌}
use mathlib.Core.Bool.{Bool, not, ◌&&◌}
use Prim.Native.Nat.{ℕ, ◌/◌, ◌%◌}
use native.Mathlib.Omega.{arith}
use Rattle.words.specs.Array.{bit_at}
use Rattle.words.specs.Word.{bit}
use Rattle.words.proofs.ChoiceLaws.{pick_true, pick-false}
use Rattle.cic_registers.specs.Model.{moved}
use Rattle.cic_room.proofs.PutLaws.{lines-is}
use Rattle.cic_room.proofs.RoomLaws.{laid_as}
use Rattle.cic_room.proofs.laid.move_line.Goals as goal

pub returns-then-high-old : goal.returns-then-high-old
unfolding moved bit_at
returns-then-high-old c =
    let n = c.args.s.0 in
    λ f d h.
    laid_as (pick_true _ (sym (ap (λ (t : Bool). c.args.high && not t) (c.has-old.ensures ∙ ap (λ (x : ℕ). bit x (n % 32)) (lines-is h (n / 32) (omega (arith, c.requires))))) ∙ c.if-high-old.true))
    (c.mark_bit.ensures f _ (c.put_line.ensures f d h))

pub returns-else-high-old : goal.returns-else-high-old
unfolding moved bit_at
returns-else-high-old c =
    let n = c.args.s.0 in
    λ f d h.
    laid_as (pick-false _ (sym (ap (λ (t : Bool). c.args.high && not t) (c.has-old.ensures ∙ ap (λ (x : ℕ). bit x (n % 32)) (lines-is h (n / 32) (omega (arith, c.requires))))) ∙ c.if-high-old.false))
    (c.put_line.ensures f d h)
