-- Which of its own registers stands at an offset, where the choice is on, and what the registers may be used for.
use mathlib.Core.Logic.{◌↔◌, ◌≢◌, ◌⊎◌, inl, inr}
use mathlib.Core.Path.{◌≡◌, sym, ap, subst, ◌∙◌}
use Prim.Native.Nat.{ℕ, ◌+◌, ◌-◌, ◌*◌, ◌/◌, ◌<◌, ◌≤◌}
use native.Mathlib.Decide.{dec_lt, ℕ_discrete}
use native.Mathlib.Omega.{arith}
use borrow.Author.Tests.{eq-eqb, ne_eqb, lt-ltb, le-ltb}
use lib.Dec.{eqb, ltb}
use Rattle.words.specs.Choice.{pick}
use Rattle.words.proofs.ChoiceLaws.{pick_true, pick-false}
use Rattle.steps.specs.declared.Access.{Access}
use Rattle.steps.specs.declared.Access.TheVariants.{NoRegister, ReadWrite}
use Rattle.cic_record.specs.Kinds.{host_number}
use Rattle.cic_registers.specs.Map.{access}
use Rattle.cic_registers.proofs.AccessLaws.{there_if}
use Rattle.cic_held.specs.declared.Prioritised.{Prioritised}
use Rattle.cic_indexed.specs.declared.Own.{Own}
use Rattle.cic_indexed.specs.declared.Own.TheVariants.{Elsewhere, Control, GlobalIndex, HostIndex}
use Rattle.cic_indexed.specs.Registers.{own_at, host_access, access_of}
use Rattle.cic_indexed.specs.Tables.{access_at, MapTable}

-- ---- by the offset

-- unless the choice is on there is none of them
unchosen : (p : Prioritised) (o : ℕ) → p.held.choice ≢ 1 → own_at p o ≡ Elsewhere
unfolding own_at
unchosen p o d = sym (pick-false _ (ne_eqb p.held.choice 1 d))

pub nowhere : (p : Prioritised) (o : ℕ) → p.held.choice ≡ 0 → own_at p o ≡ Elsewhere
nowhere p o z = unchosen p o (λ e. omega (arith, z, e))

-- so the choice is on, or there is none of them
pub on_or-not : (p : Prioritised) (o : ℕ) → (p.held.choice ≡ 1) ⊎ (own_at p o ≡ Elsewhere)
on_or-not p o = go (ℕ_discrete p.held.choice 1)
  where
    go : Dec (p.held.choice ≡ 1) → (p.held.choice ≡ 1) ⊎ (own_at p o ≡ Elsewhere)
    go (yes e) = inl e
    go (no d) = inr (unchosen p o d)

-- the register that stands at an offset where the choice is on
abbrev chosen : ℕ → Own
chosen o =
    pick (eqb o 0x004) Control
    (pick (eqb o 0x080) GlobalIndex
    (pick (ltb o 0x900) Elsewhere
    (pick (ltb o 0xD00) (HostIndex (host_number ((o - 0x900) / 4))) Elsewhere)))

own_on : (p : Prioritised) (o : ℕ) → p.held.choice ≡ 1 → own_at p o ≡ chosen o
unfolding own_at
own_on p o z = sym (pick_true Elsewhere (eq-eqb p.held.choice 1 z))

pub at-control : (p : Prioritised) → p.held.choice ≡ 1 → own_at p 0x004 ≡ Control
unfolding pick
at-control p z = own_on p 0x004 z

pub at_global : (p : Prioritised) → p.held.choice ≡ 1 → own_at p 0x080 ≡ GlobalIndex
unfolding pick
at_global p z = own_on p 0x080 z

-- the indices of the hosts stand from 0x900 to 0xCFC
at_indices : (p : Prioritised) (o : ℕ) → p.held.choice ≡ 1 → 0x900 ≤ o → o < 0xD00 → own_at p o ≡ HostIndex (host_number ((o - 0x900) / 4))
at_indices p o z l m =
    own_on p o z
    ∙ sym (pick-false Control (ne_eqb o 0x004 (λ e. omega (arith, e, l))))
    ∙ sym (pick-false GlobalIndex (ne_eqb o 0x080 (λ e. omega (arith, e, l))))
    ∙ sym (pick-false Elsewhere (le-ltb o 0x900 l))
    ∙ sym (pick_true Elsewhere (lt-ltb o 0xD00 m))

pub at_host : (p : Prioritised) (h : ℕ) → p.held.choice ≡ 1 → h < 256 → own_at p (0x900 + 4 * h) ≡ HostIndex (host_number h)
at_host p h z l =
    let e : (0x900 + 4 * h - 0x900) / 4 ≡ h = omega arith in
    at_indices p (0x900 + 4 * h) z (omega arith) (omega (arith, l)) ∙ ap (λ (n : ℕ). HostIndex (host_number n)) e

pub at_none : (p : Prioritised) (o : ℕ) → p.held.choice ≡ 1 → o ≢ 0x004 → o ≢ 0x080 → (o < 0x900) ⊎ (0xD00 ≤ o) → own_at p o ≡ Elsewhere
at_none p o z a b w =
    own_on p o z ∙ sym (pick-false Control (ne_eqb o 0x004 a)) ∙ sym (pick-false GlobalIndex (ne_eqb o 0x080 b)) ∙ go w
  where
    go : (o < 0x900) ⊎ (0xD00 ≤ o) → pick (ltb o 0x900) Elsewhere (pick (ltb o 0xD00) (HostIndex (host_number ((o - 0x900) / 4))) Elsewhere) ≡ Elsewhere
    go (inl l) = sym (pick_true _ (lt-ltb o 0x900 l))
    go (inr l) = sym (pick-false Elsewhere (le-ltb o 0x900 (omega (arith, l)))) ∙ sym (pick-false _ (le-ltb o 0xD00 l))

-- ---- every offset is one of four kinds

pub data Place (p : Prioritised) (o : ℕ) : Type 0 where
  control : o ≡ 0x004 → own_at p o ≡ Control → Place p o
  global : o ≡ 0x080 → own_at p o ≡ GlobalIndex → Place p o
  indices : 0x900 ≤ o → o < 0xD00 → own_at p o ≡ HostIndex (host_number ((o - 0x900) / 4)) → Place p o
  other : o ≢ 0x004 → o ≢ 0x080 → (o < 0x900) ⊎ (0xD00 ≤ o) → own_at p o ≡ Elsewhere → Place p o

pub place : (p : Prioritised) (o : ℕ) → p.held.choice ≡ 1 → Place p o
place p o z = go (ℕ_discrete o 0x004) (ℕ_discrete o 0x080) (dec_lt o 0x900) (dec_lt o 0xD00)
  where
    go : Dec (o ≡ 0x004) → Dec (o ≡ 0x080) → Dec (o < 0x900) → Dec (o < 0xD00) → Place p o
    go (yes e) b c d = control e (ap (own_at p) e ∙ at-control p z)
    go (no a) (yes e) c d = global e (ap (own_at p) e ∙ at_global p z)
    go (no a) (no b) (yes l) d = other a b (inl l) (at_none p o z a b (inl l))
    go (no a) (no b) (no l) (yes m) = indices (omega (arith, l)) m (at_indices p o z (omega (arith, l)) m)
    go (no a) (no b) (no l) (no m) = let n : 0xD00 ≤ o = omega (arith, m) in other a b (inr n) (at_none p o z a b (inr n))

-- ---- what they may be used for

pub map-off : (p : Prioritised) (o : ℕ) → p.held.choice ≡ 0 → access_at p o ≡ access p.cic o
unfolding access_of
map-off p o z = ap (access_of p o) (nowhere p o z)

pub map_on : (p : Prioritised) → p.held.choice ≡ 1 → MapTable p
unfolding access_of host_access
map_on p z =
    record {
      control = ap (access_of p 0x004) (at-control p z);
      global_index = ap (access_of p 0x080) (at_global p z);
      host_index = λ h l.
          subst (λ (a : Access). ((a ≡ ReadWrite) ↔ (h < p.cic.hosts)) × ((a ≡ NoRegister) ↔ (p.cic.hosts ≤ h)))
          (sym (ap (access_of p (0x900 + 4 * h)) (at_host p h z l))) (there_if h p.cic.hosts);
      elsewhere = λ o a b w. ap (access_of p o) (at_none p o z a b w);
    }
