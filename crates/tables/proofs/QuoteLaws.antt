-- A text without a quote outside its comments has no name, and is read as it stands.
use Prim.Native.Nat.{ℕ, zero, suc, ◌+◌, ◌*◌, ◌<◌}
use mathlib.Core.Path.{◌≡◌, refl, sym, ap, ◌∙◌}
use mathlib.Core.Bool.{Bool, true, false, not, ◌&&◌}
use mathlib.Core.List.{List, [], ◌∷◌}
use mathlib.Core.Logic.{◌⊎◌, inl, inr}
use native.Mathlib.Omega.{arith}
use native.Mathlib.Decide.{ℕ_discrete}
use lib.Dec.{eqb}
use lib.ListN.{length, get_or}
use Rattle.words.specs.Choice.{pick}
use Rattle.words.proofs.ChoiceLaws.{pick_cases}
use Rattle.words.proofs.TruthLaws.{clash}
use Rattle.tables.specs.Typed.{white, covered, bare_from, bare, past_nth, nth_start}
use Rattle.tables.specs.Names.{named, behind, blanked, quoted, unnamed_at, unnamed_to, cleared}
use Rattle.tables.specs.Layout.{Without}
use Rattle.tables.proofs.BareLaws.{length-bare}
use Rattle.tables.proofs.SeekLaws.{dark, start_sought}
use Rattle.tables.proofs.NameLaws.{byte-within, named-opened}

-- a byte of a text without comments is a space, or it is as it was
bare_byte : (inside : Bool) (s : List ℕ) (k : ℕ) → k < length s → (get_or (bare_from inside s) k 0 ≡ 32) ⊎ (get_or (bare_from inside s) k 0 ≡ get_or s k 0)
unfolding bare_from
bare_byte inside [] k l = absurd (omega arith)
bare_byte inside (b ∷ s) zero l = pick_cases (λ x. (x ≡ 32) ⊎ (x ≡ b)) (covered inside b) (λ e. inl refl) (λ e. inr refl)
bare_byte inside (b ∷ s) (suc k) l = bare_byte (covered inside b && not (eqb b 10)) s k (omega arith)

-- what is not white is no part of a comment
pub dark-kept : (s : List ℕ) (q : ℕ) → q < length s → dark (get_or (bare s) q 0) ≡ true → get_or (bare s) q 0 ≡ get_or s q 0
dark-kept s q l d = go (bare_byte false s q l)
  where
    go : (get_or (bare s) q 0 ≡ 32) ⊎ (get_or (bare s) q 0 ≡ get_or s q 0) → get_or (bare s) q 0 ≡ get_or s q 0
    go (inl e) = clash (sym (ap dark e) ∙ d) (unfold white in refl)
    go (inr e) = e

pub behind_byte : (s : List ℕ) (i : ℕ) → behind s i < length s → get_or (bare s) (behind s i) 0 ≡ get_or s (behind s i) 0
unfolding behind nth_start
behind_byte s i l = dark-kept s _ l ((start_sought (bare s) (past_nth (bare s) (3 * i + 3))).found (omega (arith, length-bare false s)))

module _ (s : List ℕ) (h : Without 34 (bare s)) where
  none-behind : (i : ℕ) → named s (behind s i) ≡ 0
  none-behind i = go (ℕ_discrete (named s (behind s i)) 0)
    where
      go : Dec (named s (behind s i) ≡ 0) → named s (behind s i) ≡ 0
      go (yes e) = e
      go (no d) =
          let e = named-opened s (behind s i) d in
          let l : behind s i < length s = byte-within s (behind s i) 34 e (omega arith) in
          absurd (h (behind s i) (omega (arith, length-bare false s)) (behind_byte s i l ∙ e))

  as_it_was : (i : ℕ) → unnamed_at s i ≡ s
  unfolding unnamed_at quoted blanked pick
  as_it_was i = rw (none-behind i)

  unnamed-same : (n : ℕ) → unnamed_to s n ≡ s
  unfolding unnamed_to
  unnamed-same zero = refl
  unnamed-same (suc n) = ap (λ (x : List ℕ). unnamed_at x n) (unnamed-same n) ∙ as_it_was n

  pub quoteless : cleared s ≡ bare s
  unfolding cleared
  quoteless = ap bare (unnamed-same 32)
