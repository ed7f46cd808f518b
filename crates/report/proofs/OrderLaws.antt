-- The totals after traces, in any order.
use Prim.Native.Nat.{ℕ, ◌<◌}
use mathlib.Core.Path.{◌≡◌, refl}
use mathlib.Core.Bool.{true}
use mathlib.Core.List.{List, [], ◌∷◌, map}
use native.Mathlib.Omega.{arith}
use Rattle.totals.specs.Totals.{zeros, all_in, Reordered}
use Rattle.totals.specs.Promises.{Whole, Within, EachWhole, nothing, one, Alike}
use Rattle.totals.proofs.Promises as Sums
use Rattle.tally.proofs.Promises as Tally
use Rattle.report.specs.Put.{figures_of, put_all}

whole-zeros : Whole zeros
unfolding zeros
whole-zeros = record { started = refl; waited = refl; entries = refl }

within-zeros : Within zeros
within-zeros i l = omega (arith, ((Sums.kept).empty i).started)

each-whole : (xs : List (List ℕ)) → EachWhole (map figures_of xs)
each-whole [] = nothing
each-whole (s ∷ xs) = one (figures_of s) (map figures_of xs) ((Tally.kept).sources s 20000) (each-whole xs)

pub any_order : (xs ys : List (List ℕ)) → Reordered (map figures_of xs) (map figures_of ys) → all_in zeros (map figures_of xs) ≡ true
    → (all_in zeros (map figures_of ys) ≡ true) × ((i : ℕ) → i < 32 → Alike (put_all zeros xs) (put_all zeros ys) i)
unfolding put_all
any_order xs ys p a = (Sums.kept).any_order zeros (map figures_of xs) (map figures_of ys) whole-zeros within-zeros (each-whole xs) p a
