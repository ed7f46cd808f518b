-- A write begins no hold, and changes none that it does not end.
use mathlib.Core.Bool.{Bool}
use mathlib.Core.List.{List}
use mathlib.Core.Logic.{◌⊎◌, inl, inr}
use mathlib.Core.Path.{◌≡◌, refl, ap, ◌∙◌}
use Prim.Native.Nat.{ℕ, ◌-◌, ◌/◌}
use native.Mathlib.Decide.{ℕ_discrete}
use lib.Dec.{eqb, ltb}
use lib.ListN.{get_or, set}
use Rattle.words.specs.Array.{rest_at}
use Rattle.words.specs.Word.{bit, kept}
use Rattle.words.proofs.ArrayLaws.{zeros_get_d}
use Rattle.words.proofs.ChoiceLaws.{pick_cases}
use Rattle.steps.specs.declared.Access.TheVariants.{ReadWrite}
use Rattle.steps.specs.Refusals.{carried_out, write_refusal}
use Rattle.cic_record.specs.declared.Cic.{Cic}
use Rattle.cic_registers.specs.Model as cic
use Rattle.cic_held.specs.declared.Answer.{Answer}
use Rattle.cic_held.specs.declared.Held.{Held}
use Rattle.cic_held.specs.declared.Prioritised.{Prioritised}
use Rattle.cic_held.specs.Held.{nothing_held, with_global, with_hosts, freed_hosts, sound, controlled}
use Rattle.cic_indexed.specs.declared.Own.{Own}
use Rattle.cic_indexed.specs.declared.Own.TheVariants.{Elsewhere, Control, GlobalIndex, HostIndex}
use Rattle.cic_indexed.specs.Registers.{own_at, host_access, after_host, hosts_written, held_after}
use Rattle.cic_indexed.specs.Model.{write_as, step_as, write}
use Rattle.cic_indexed.proofs.FreedLaws.{Decided, ended, stayed, set_here, set_other, freed}

-- a hold has ended, or is as it was
abbrev Stays : ℕ → ℕ → Type 0
Stays after before = (after ≡ 0) ⊎ (after ≡ before)

-- so it is after two steps
twice : {a b c : ℕ} → Stays a b → Stays b c → Stays a c
twice (inl z) s = inl z
twice (inr e) (inl z) = inl (e ∙ z)
twice (inr e) (inr f) = inr (e ∙ f)

-- what one hold is after each way of ending
record Ways (f : Held → ℕ) : Type 0 where
  pub nothing : (n m : ℕ) → f (nothing_held n m) ≡ 0
  pub global : (x : Held) → Stays (f (with_global x 0)) (f x)
  pub host : (x : Held) (k : ℕ) → Stays (f (with_hosts x (set x.host k 0))) (f x)
  pub hosts : (x : Held) (k w : ℕ) → Stays (f (with_hosts x (freed_hosts k w x.host))) (f x)

module _ (f : Held → ℕ) (ways : Ways f) where
  after_stays : (x : Held) (k : ℕ) → Stays (f (after_host x k)) (f x)
  after_stays x k = twice (ways.global (with_hosts x (set x.host k 0))) (ways.host x k)

  written_stays : (c : Cic) (x : Held) (k v : ℕ) → Stays (f (hosts_written c x k v)) (f x)
  unfolding hosts_written
  written_stays c x k v =
      let w = kept (rest_at c.hosts k) v in
      pick_cases (λ (y : Held). Stays (f y) (f x)) (eqb w 0) (λ _. inr refl)
      (λ _. twice (ways.global (with_hosts x (freed_hosts k w x.host))) (ways.hosts x k w))

  held_stays : (c : Cic) (x : Held) (o v : ℕ) → Stays (f (held_after c x o v)) (f x)
  unfolding held_after
  held_stays c x o v =
      pick_cases (λ (y : Held). Stays (f y) (f x)) (eqb o 0x034) (λ _. after_stays x v)
      (λ _. pick_cases (λ (y : Held). Stays (f y) (f x)) (eqb o 0x038) (λ _. after_stays x v)
      (λ _. pick_cases (λ (y : Held). Stays (f y) (f x)) (ltb o 0x1500) (λ _. inr refl)
      (λ _. pick_cases (λ (y : Held). Stays (f y) (f x)) (ltb o 0x1520) (λ _. written_stays c x ((o - 0x1500) / 4) v) (λ _. inr refl))))

  control_stays : (x : Held) (v : ℕ) → Stays (f (controlled x v)) (f x)
  unfolding controlled
  control_stays x v =
      pick_cases (λ (y : Held). Stays (f y) (f x)) (bit v 4)
      (λ _. pick_cases (λ (y : Held). Stays (f y) (f x)) (eqb x.hold 1) (λ _. inr refl) (λ _. inl (ways.nothing x.choice 1)))
      (λ _. inl (ways.nothing x.choice 0))

  own_stays : (ok : Bool) (p : Prioritised) (o v : ℕ) (at : Own) → Stays (f (write_as ok p o v at).prioritised.held) (f p.held)
  unfolding write_as
  own_stays ok p o v Elsewhere =
      pick_cases (λ (a : Answer). Stays (f a.prioritised.held) (f p.held)) (eqb (cic.write_as ok p.cic o v).refusal carried_out)
      (λ _. pick_cases (λ (y : Held). Stays (f y) (f p.held)) (eqb p.held.hold 1) (λ _. held_stays p.cic p.held o v) (λ _. inr refl)) (λ _. inr refl)
  own_stays ok p o v Control =
      pick_cases (λ (a : Answer). Stays (f a.prioritised.held) (f p.held)) (eqb (write_refusal ok o ReadWrite carried_out) carried_out)
      (λ _. control_stays p.held v) (λ _. inr refl)
  own_stays ok p o v GlobalIndex =
      pick_cases (λ (a : Answer). Stays (f a.prioritised.held) (f p.held)) (eqb (write_refusal ok o ReadWrite carried_out) carried_out)
      (λ _. ways.global p.held) (λ _. inr refl)
  own_stays ok p o v (HostIndex h) =
      pick_cases (λ (a : Answer). Stays (f a.prioritised.held) (f p.held)) (eqb (write_refusal ok o (host_access p h.0) carried_out) carried_out)
      (λ _. ways.host p.held h.0) (λ _. inr refl)

  stays : (p : Prioritised) (o v : ℕ) → Stays (f (write p o v).prioritised.held) (f p.held)
  unfolding step_as
  stays p o v = own_stays (sound p) p o v (own_at p o)

-- ---- the global index, and that of host h

pub global_stays : (p : Prioritised) (o v : ℕ) → ((write p o v).prioritised.held.global ≡ 0) ⊎ ((write p o v).prioritised.held.global ≡ p.held.global)
global_stays =
    stays (λ (x : Held). x.global) (record { nothing = λ n m. refl; global = λ x. inl refl; host = λ x k. inr refl; hosts = λ x k w. inr refl })

set_stays : (xs : List ℕ) (k h : ℕ) → Stays (get_or (set xs k 0) h 0) (get_or xs h 0)
set_stays xs k h = go (ℕ_discrete h k)
  where
    go : Dec (h ≡ k) → Stays (get_or (set xs k 0) h 0) (get_or xs h 0)
    go (yes e) = inl (ap (λ (i : ℕ). get_or (set xs k 0) i 0) e ∙ set_here xs k)
    go (no d) = inr (set_other xs k h d)

freed_stays : (xs : List ℕ) (k w h : ℕ) → Stays (get_or (freed_hosts k w xs) h 0) (get_or xs h 0)
freed_stays xs k w h = go (freed k w h xs)
  where
    go : {E : Type 0} {x b : ℕ} → Decided E x b → Stays x b
    go (ended _ z) = inl z
    go (stayed _ s) = inr s

pub host_stays : (p : Prioritised) (h o v : ℕ)
    → (get_or (write p o v).prioritised.held.host h 0 ≡ 0) ⊎ (get_or (write p o v).prioritised.held.host h 0 ≡ get_or p.held.host h 0)
host_stays p h =
    stays (λ (x : Held). get_or x.host h 0) (record {
      nothing = λ n m. zeros_get_d 256 h;
      global = λ x. inr refl;
      host = λ x k. set_stays x.host k h;
      hosts = λ x k w. freed_stays x.host k w h;
    }) p
