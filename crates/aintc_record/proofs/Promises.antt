-- The promises of the record, kept.
use Prim.Native.Nat.{ℕ}
use mathlib.Core.Path.{refl}
use mathlib.Core.List.{List}
use native.Mathlib.Omega.{arith}
use borrow.Author.Tests.{eqb-true, eq-eqb}
use Rattle.words.specs.Choice.{pick}
use Rattle.words.proofs.ArrayLaws.{zeros_get_d, zeros-bit_at}
use Rattle.aintc_record.specs.declared.Aintc.{Aintc}
use Rattle.aintc_record.specs.Bounds.{bounded, chosen_bounded}
use Rattle.aintc_record.specs.Record.{side, reset, blank}
use Rattle.aintc_record.specs.Route.{route_of, route_at, priority, routed}
use Rattle.aintc_record.specs.Promises.{Setters, Fresh, Promises}
use Rattle.aintc_record.proofs.RecordLaws.{bounded-is, is-bounded, same_get_d, masks_full, route-taken, route-bit, route-whole}

reset-fresh : (ws : List ℕ) → Fresh (reset ws)
unfolding reset
reset-fresh ws =
    record {
      mask_words = λ n l. same_get_d 4 0xFFFFFFFF n l;
      masks = masks_full;
      soft_words = zeros_get_d 4;
      soft = zeros-bit_at 4;
      routes = zeros_get_d 128;
      threshold = refl;
      revision = refl;
      guarded = refl;
      autoidle = refl;
      turbo = refl;
      funcidle = refl;
      irq = refl;
      fiq = refl;
    }

setters_of : (s : Aintc) → Setters s
setters_of s =
    record {
      lines = λ ws. refl;
      soft = λ ws. refl;
      masks = λ ws. refl;
      routes = λ bs. refl;
      threshold = λ v. refl;
      revision = λ v. refl;
      guarded = λ t. refl;
      autoidle = λ t. refl;
      idle = λ t u. refl;
      sides = λ a b. refl;
    }

pub kept : Promises
unfolding reset blank side pick priority routed
kept =
    record {
      setters = setters_of;
      nobody_is = refl;
      chosen_is = λ k p. refl;
      side_fiq = λ s. refl;
      side_irq = λ s. refl;
      reset_fresh = reset-fresh;
      reset_lines = λ ws. refl;
      reset_bounded = λ ws. unfold bounded chosen_bounded in refl;
      reset_shaped = λ ws e. (e, refl, refl, refl);
      blank_is = refl;
      blank_bounded = unfold bounded chosen_bounded in refl;
      blank_shaped = (refl, refl, refl, refl);
      bounded_is = λ s. (bounded-is s, is-bounded s);
      route_is = λ s k. refl;
      route_fields = λ b. (refl, refl);
      priority_is = λ s k. refl;
      routed_fiq = λ s k. (eqb-true (route_of (route_at s k)) 1, eq-eqb (route_of (route_at s k)) 1);
      routed_irq = λ s k. (eqb-true (route_of (route_at s k)) 0, eq-eqb (route_of (route_at s k)) 0);
      route_shown = λ b. refl;
      route_taken = route-taken;
      route_kept = λ v k l. route-bit v k;
      route_whole = route-whole;
      route_fits = λ v. omega arith;
      priority_fits = λ b. omega arith;
    }
