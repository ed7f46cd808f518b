-- That `add` of src/counts.rt keeps its contract.
use mathlib.Core.Path.{◌≡◌, refl, sym, ap, ◌∙◌}
use mathlib.Core.Bool.{not}
use Prim.Native.Nat.{◌+◌, ◌%◌}
use native.Mathlib.Omega.{arith}
use borrow.Author.Tests.{ne_eqb}
use lib.ListN.{get_or}
use Rattle.cic_room.specs.Room.{permitted}
use Rattle.cic_room.specs.Tables.{more}
use Rattle.cic_room.proofs.KeptLaws.{renumbered}
use Rattle.cic_room.proofs.LoadLaws.{more_at, more-off}
use Rattle.cic_room.proofs.ShownLaws.{shown_stays, tables_as}
use Rattle.cic_room.proofs.counts.add.Goals as goal

pub returns-then-before-eq0 : goal.returns-then-before-eq0
returns-then-before-eq0 c =
    let h = c.args.h.0 in
    let n = c.args.n in
    λ f d a u g k t l.
    let is : get_or c.args.room.now (768 + h) 0 % 2048 ≡ g h = omega (arith, l, t.of_host.holds h c.requires.0) in
    let r = renumbered (permitted d) (more g h n) c.args.room.now _ h _ _ c.requires.0 (omega (arith, is) ∙ more_at g h n) (λ j i. more-off g h n j i)
    (sym (ap not (ne_eqb (get_or c.args.room.now (768 + h) 0 % 2048 + n) 0 (λ e. absurd (omega (arith, e, c.requires.1.0)))))) c.mark_raised.ensures k t in
    c.admit.ensures f d _ _ _ _ _ g (more g h n)
    (record { none = sym is ∙ c.if-before-eq0.true; some = λ e. absurd (omega (arith, e, more_at g h n, c.requires.1.0)); others = λ j i. more-off g h n j i }) r.0 r.1

pub returns-else-before-eq0 : goal.returns-else-before-eq0
returns-else-before-eq0 c =
    let h = c.args.h.0 in
    let n = c.args.n in
    λ f d a u g k t l.
    let is : get_or c.args.room.now (768 + h) 0 % 2048 ≡ g h = omega (arith, l, t.of_host.holds h c.requires.0) in
    let r = renumbered (permitted d) (more g h n) c.args.room.now _ h _ _ c.requires.0 (omega (arith, is) ∙ more_at g h n) (λ j i. more-off g h n j i)
    (sym (ap not (ne_eqb (get_or c.args.room.now (768 + h) 0 % 2048 + n) 0 (λ e. absurd (omega (arith, e, c.requires.1.0)))))) c.mark_raised.ensures k t in (
      r.0,
      tables_as (λ i _. shown_stays (permitted d) g (more g h n) h (λ e. c.if-before-eq0.false (is ∙ e)) (λ e. absurd (omega (arith, e, more_at g h n, c.requires.1.0))) (λ j q. more-off g h n j q) i) (λ i _. refl)
          (λ i _. refl) (λ i _. refl) (λ i _. refl) (λ i _. refl) r.1,
    )
