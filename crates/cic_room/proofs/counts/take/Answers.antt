-- That `take` of src/counts.rt keeps its contract.
use mathlib.Core.Path.{◌≡◌, refl, sym, ◌∙◌}
use Prim.Native.Nat.{◌+◌}
use native.Mathlib.Omega.{arith}
use lib.ListN.{get_or}
use Rattle.cic_room.specs.Room.{permitted}
use Rattle.cic_room.specs.Tables.{more}
use Rattle.cic_room.proofs.KeptLaws.{renumbered}
use Rattle.cic_room.proofs.LoadLaws.{more_at, more-off}
use Rattle.cic_room.proofs.ShownLaws.{shown_stays, tables_as}
use Rattle.cic_room.proofs.counts.take.Goals as goal

pub returns-then-before-n : goal.returns-then-before-n
returns-then-before-n c =
    let h = c.args.h.0 in
    λ f d a u g k t. absurd (omega (arith, c.if-before-n.true, t.of_host.holds h c.requires.0, more_at g h c.args.n))

pub returns-then-left-eq0 : goal.returns-then-left-eq0
returns-then-left-eq0 c =
    let h = c.args.h.0 in
    let n = c.args.n in
    λ f d a u g k t.
    let is : get_or c.args.room.now (768 + h) 0 ≡ g h + n = t.of_host.holds h c.requires.0 ∙ sym (more_at g h n) in
    let r = renumbered (permitted d) g c.args.room.now _ h _ _ c.requires.0 (omega (arith, is)) (λ j i. sym (more-off g h n j i)) refl c.mark_raised.ensures k t in
    c.dismiss.ensures f d _ _ _ _ (more g h n) g
    (record { none = omega (arith, is, c.if-left-eq0.true); some = λ e. absurd (omega (arith, e, more_at g h n, c.requires.1)); others = λ j i. more-off g h n j i }) r.0 r.1

pub returns-else-left-eq0 : goal.returns-else-left-eq0
returns-else-left-eq0 c =
    let h = c.args.h.0 in
    let n = c.args.n in
    λ f d a u g k t.
    let is : get_or c.args.room.now (768 + h) 0 ≡ g h + n = t.of_host.holds h c.requires.0 ∙ sym (more_at g h n) in
    let r = renumbered (permitted d) g c.args.room.now _ h _ _ c.requires.0 (omega (arith, is)) (λ j i. sym (more-off g h n j i)) refl c.mark_raised.ensures k t in (
      r.0,
      tables_as (λ i _. shown_stays (permitted d) (more g h n) g h (λ e. absurd (omega (arith, e, more_at g h n, c.requires.1))) (λ e. c.if-left-eq0.false (omega (arith, is, e))) (λ j q. sym (more-off g h n j q)) i)
          (λ i _. refl) (λ i _. refl) (λ i _. refl) (λ i _. refl) (λ i _. refl) r.1,
    )
