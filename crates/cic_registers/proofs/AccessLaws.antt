-- The registers of a group are there exactly if their first thing is.
use mathlib.Core.Path.{◌≡◌, sym, ap, ◌∙◌}
use mathlib.Core.Bool.{Bool}
use mathlib.Core.Logic.{◌↔◌}
use Prim.Native.Nat.{ℕ, ◌<◌, ◌≤◌}
use native.Mathlib.Decide.{dec_lt}
use native.Mathlib.Omega.{arith}
use borrow.Author.Tests.{lt-ltb, le-ltb}
use Rattle.words.specs.Choice.{pick}
use Rattle.steps.specs.declared.Access.{Access}
use Rattle.steps.specs.declared.Access.TheVariants.{NoRegister, ReadOnly, WriteOnly, ReadWrite}
use Rattle.cic_registers.specs.Map.{if_any}

-- 0 where there is no register
there : Access → ℕ
there NoRegister = 0
there ReadOnly = 1
there WriteOnly = 1
there ReadWrite = 1

differ : ReadWrite ≡ NoRegister → ⊥
unfolding there
differ e = go (ap there e)
  where
    go : ◌≡◌ {A = ℕ} 1 0 → ⊥
    go e = omega arith

pub is_there : (first n : ℕ) → first < n → if_any first n ≡ ReadWrite
unfolding pick
is_there first n l = ap (λ (t : Bool). pick t ReadWrite NoRegister) (lt-ltb first n l)

pub is-absent : (first n : ℕ) → n ≤ first → if_any first n ≡ NoRegister
unfolding pick
is-absent first n l = ap (λ (t : Bool). pick t ReadWrite NoRegister) (le-ltb first n l)

-- both, exactly
pub there_if : (first n : ℕ) → ((if_any first n ≡ ReadWrite) ↔ (first < n)) × ((if_any first n ≡ NoRegister) ↔ (n ≤ first))
there_if first n = ((λ e. go e (dec_lt first n), is_there first n), (λ e. back e (dec_lt first n), is-absent first n))
  where
    go : if_any first n ≡ ReadWrite → Dec (first < n) → first < n
    go e (yes l) = l
    go e (no g) = absurd (differ (sym e ∙ is-absent first n (omega arith)))

    back : if_any first n ≡ NoRegister → Dec (first < n) → n ≤ first
    back e (yes l) = absurd (differ (sym (is_there first n l) ∙ e))
    back e (no g) = omega arith
