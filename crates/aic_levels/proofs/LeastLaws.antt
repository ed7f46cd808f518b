-- The least priority that may start, from the entries.
use mathlib.Core.Path.{◌≡◌, refl, sym, ap, ◌∙◌}
use mathlib.Core.List.{List}
use mathlib.Core.Logic.{◌≢◌}
use Prim.Native.Nat.{ℕ, ◌-◌, ◌≤◌, ◌<◌}
use borrow.Author.Tests.{eq-eqb, ne_eqb, lt-ltb, le-ltb}
use lib.ListN.{get_or}
use native.Mathlib.Omega.{arith}
use Rattle.words.proofs.ChoiceLaws.{pick_true, pick-false}
use Rattle.aic_record.specs.declared.Aic.{Aic}
use Rattle.aic_record.specs.Sound.{no_level, level_below}
use Rattle.aic_record.specs.Passes.{floor_over}
use Rattle.aic_record.proofs.PassLaws.{floor-free}
use Rattle.aic_sources.specs.Search.{least_of}

-- no entry is open: any priority may start
pub least-none : (s : Aic) (depth : ℕ) → s.depth ≡ depth → depth ≡ 0 → 0 ≡ least_of s
unfolding least_of level_below
least-none s depth e z =
    floor-free no_level (level_below s.level s.depth) (pick_true _ (eq-eqb s.depth 0 (e ∙ z))) refl
    ∙ pick_true 8 (lt-ltb s.depth 8 (omega arith))

-- eight are open: none may
pub least_full : (s : Aic) (depth : ℕ) → s.depth ≡ depth → 8 ≤ depth → 8 ≡ least_of s
unfolding least_of
least_full s depth e l = pick-false _ (le-ltb s.depth 8 (omega arith))

-- between: those above the level of the last entry, if it has one
pub least-over : (s : Aic) (level : List ℕ) (depth last r : ℕ) → s.level ≡ level → s.depth ≡ depth → depth ≢ 0 → depth < 8 → last ≡ depth - 1 → r ≡ floor_over (get_or level last 0) → r ≡ least_of s
unfolding least_of level_below
least-over s level depth last r e f n l g h =
    h ∙ ap floor_over (ap (λ (i : ℕ). get_or level i 0) (g ∙ ap (λ (d : ℕ). d - 1) (sym f)) ∙ ap (λ (x : List ℕ). get_or x (s.depth - 1) 0) (sym e)
    ∙ pick-false no_level (ne_eqb s.depth 0 (λ z. n (sym f ∙ z))))
    ∙ pick_true 8 (lt-ltb s.depth 8 (omega arith))
