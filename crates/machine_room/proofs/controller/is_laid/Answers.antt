-- That `is_laid` of src/controller.rt keeps its contract.
use mathlib.Core.Path.{◌≡◌, sym, ◌∙◌, subst}
use mathlib.Core.Bool.{true, false≢true}
use mathlib.Core.List.{List}
use lib.ListN.{length}
use Prim.Native.Nat.{ℕ}
use Rattle.words.proofs.TruthLaws.{clash}
use Rattle.machine_room.specs.Room.{Laid}
use Rattle.machine_room.proofs.Promises.{kept as rooms}
use Rattle.machine_room.proofs.ControllerLaws.{same_equal, equal-same}
use borrow.Author.Rules.{rules}
use Rattle.machine_room.proofs.controller.is_laid.Goals as goal

pub returns-then-is_sound : goal.returns-then-is_sound
returns-then-is_sound c =
    let a = c.args in
    let ok = sym c.is_sound.ensures ∙ c.if-is_sound.true in
    let again = c.lay-again.ensures ok in
    let long : length a.room ≡ 2048 = search rules in
    let size = rooms.size true a.m _ ok again in (
      λ e. (ok, subst (λ (r : List ℕ). Laid true a.m r) (sym (same_equal a.room _ long size (sym c.is_same.ensures ∙ e))) again),
      λ e s. clash (equal-same a.room _ (rooms.determined true a.m _ _ ok s.1 again)) (sym c.is_same.ensures ∙ e),
    )

pub returns : goal.returns
returns c = (λ e. absurd (false≢true e), λ _ s. clash s.0 (sym c.is_sound.ensures ∙ c.if-is_sound.false))
