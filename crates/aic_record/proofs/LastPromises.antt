-- The proof of what is promised of the last entry.
use Prim.Native.Nat.{ℕ, zero, suc, ◌+◌, ◌-◌, ◌≤◌}
use mathlib.Core.Path.{◌≡◌, refl, sym, ap, ◌∙◌}
use mathlib.Core.Bool.{true}
use native.Mathlib.Decide.{ℕ_discrete}
use native.Mathlib.Omega.{arith}
use lib.ListN.{get_or}
use borrow.Author.Tests.{eq-eqb, ne_eqb}
use Rattle.words.proofs.ChoiceLaws.{pick_true, pick-false}
use Rattle.aic_record.specs.declared.Aic.{Aic}
use Rattle.aic_record.specs.Sound.{source_at, level_at, level_below, sound}
use Rattle.aic_record.specs.Promises.{Rules}
use Rattle.aic_record.proofs.SoundLaws.{below_none, below_next, sound-is}
use Rattle.aic_record.specs.Last.{last_source, last_level}
use Rattle.aic_record.specs.LastPromises.{Promises}

none : (s : Aic) → s.depth ≡ 0 → (last_source s ≡ 0) × (last_level s ≡ 255)
unfolding last_source last_level
none s e = (sym (pick_true _ (eq-eqb s.depth 0 e)), ap (level_below s.level) e ∙ below_none s.level)

last : (s : Aic) (n : ℕ) → s.depth ≡ suc n → (last_source s ≡ get_or s.source n 0) × (last_level s ≡ get_or s.level n 0)
unfolding last_source last_level
last s n e =
    let d : s.depth ≡ n + 1 = omega arith in
    let p : s.depth - 1 ≡ n = omega arith in
    (sym (pick-false 0 (ne_eqb s.depth 0 (λ z. omega arith))) ∙ ap (source_at s) p, ap (level_below s.level) d ∙ below_next s.level n)

-- the level below a slot that is used or the first free one: a mark has that below it
pub below_small : (s : Aic) → Rules s → (i : ℕ) → i ≤ s.depth → level_below s.level i ≤ 255
below_small s r zero l = omega (arith, below_none s.level)
below_small s r (suc i) l =
    let e : suc i ≡ i + 1 = omega arith in
    rw (e, below_next s.level i) (go (ℕ_discrete (source_at s i) 0) (below_small s r i (omega arith)))
  where
    go : Dec (source_at s i ≡ 0) → level_below s.level i ≤ 255 → level_at s i ≤ 255
    go (yes z) h = omega (arith, r.marks i (omega arith) z)
    go (no d) h = omega (arith, r.levels i (omega arith) d)

small : (s : Aic) → sound s ≡ true → (last_source s ≤ 31) × (last_level s ≤ 255)
unfolding last_level
small s ok = (go s.depth refl, below_small s r s.depth (omega arith))
  where
    r : Rules s
    r = sound-is s ok

    go : (n : ℕ) → s.depth ≡ n → last_source s ≤ 31
    go zero e = omega (arith, (none s e).0)
    go (suc n) e = omega (arith, (last s n e).0, r.sources n (omega arith))

pub kept : Promises
kept = record { none = none; last = last; small = small }
