-- No step changes the choice, and none but a write of control the hold mode.
use mathlib.Core.Bool.{Bool, true, false}
use mathlib.Core.List.{List}
use mathlib.Core.Logic.{◌↔◌, ◌≢◌, ◌⊎◌, inl, inr}
use mathlib.Core.Path.{◌≡◌, refl, sym, ap, subst, ◌∙◌}
use Prim.Native.Nat.{ℕ, ◌-◌, ◌/◌}
use native.Mathlib.Decide.{ℕ_discrete}
use native.Mathlib.Omega.{arith}
use lib.Dec.{eqb, ltb}
use lib.ListN.{set}
use Rattle.words.specs.Array.{rest_at}
use Rattle.words.specs.Word.{bit, kept}
use Rattle.words.proofs.ChoiceLaws.{pick_cases}
use Rattle.words.proofs.TruthLaws.{told}
use Rattle.steps.specs.declared.Access.TheVariants.{ReadWrite}
use Rattle.steps.specs.declared.Step.{Step}
use Rattle.steps.specs.declared.Step.TheVariants.{Read, Write, Line}
use Rattle.steps.specs.Refusals.{carried_out, read_refusal, write_refusal}
use Rattle.cic_record.specs.declared.Cic.{Cic}
use Rattle.cic_registers.specs.Model as cic
use Rattle.cic_held.specs.declared.Answer.{Answer}
use Rattle.cic_held.specs.declared.Held.{Held}
use Rattle.cic_held.specs.declared.Prioritised.{Prioritised}
use Rattle.cic_held.specs.Held.{with_global, with_hosts, freed_hosts, sound, controlled}
use Rattle.cic_indexed.specs.declared.Own.{Own}
use Rattle.cic_indexed.specs.declared.Own.TheVariants.{Elsewhere, Control, GlobalIndex, HostIndex}
use Rattle.cic_indexed.specs.Registers.{own_at, host_access, hold_after, global_word, host_word, after_host, hosts_written, held_after}
use Rattle.cic_indexed.specs.Model.{read_as, write_as, step_as, read, write, line, step}
use Rattle.cic_indexed.proofs.SoundLaws.{parts}
use Rattle.cic_indexed.specs.Tables.{Turns}
use Rattle.cic_indexed.proofs.IndexLaws.{control-off, control_on, control_again}
use Rattle.cic_indexed.proofs.PlaceLaws.{Place, control, global, indices, other, place, on_or-not}

-- a part of what is held that no hold is: the choice, and the mode
record Apart (f : Held → ℕ) : Type 0 where
  pub global : (x : Held) (y : ℕ) → f (with_global x y) ≡ f x
  pub hosts : (x : Held) (ys : List ℕ) → f (with_hosts x ys) ≡ f x

module _ (f : Held → ℕ) (apart : Apart f) where
  after : (x : Held) (h : ℕ) → f (after_host x h) ≡ f x
  after x h = apart.global (with_hosts x (set x.host h 0)) 0 ∙ apart.hosts x (set x.host h 0)

  -- what the CIC's own writes leave of it
  written : (c : Cic) (x : Held) (k v : ℕ) → f (hosts_written c x k v) ≡ f x
  unfolding hosts_written
  written c x k v =
      let w = kept (rest_at c.hosts k) v in
      pick_cases (λ (y : Held). f y ≡ f x) (eqb w 0) (λ _. refl)
      (λ _. apart.global (with_hosts x (freed_hosts k w x.host)) 0 ∙ apart.hosts x (freed_hosts k w x.host))

  ended : (c : Cic) (x : Held) (o v : ℕ) → f (held_after c x o v) ≡ f x
  unfolding held_after
  ended c x o v =
      pick_cases (λ (y : Held). f y ≡ f x) (eqb o 0x034) (λ _. after x v)
      (λ _. pick_cases (λ (y : Held). f y ≡ f x) (eqb o 0x038) (λ _. after x v)
      (λ _. pick_cases (λ (y : Held). f y ≡ f x) (ltb o 0x1500) (λ _. refl)
      (λ _. pick_cases (λ (y : Held). f y ≡ f x) (ltb o 0x1520) (λ _. written c x ((o - 0x1500) / 4) v) (λ _. refl))))

  Same : Prioritised → Answer → Type 0
  Same p a = f a.prioritised.held ≡ f p.held

  read_same : (ok : Bool) (p : Prioritised) (o : ℕ) (at : Own) → Same p (read_as ok p o at)
  unfolding Same read_as
  read_same ok p o Elsewhere = refl
  read_same ok p o Control = pick_cases (Same p) (eqb (read_refusal ok o ReadWrite) carried_out) (λ _. refl) (λ _. refl)
  read_same ok p o GlobalIndex =
      pick_cases (Same p) (eqb (read_refusal ok o ReadWrite) carried_out) (λ _. apart.global p.held (hold_after p (global_word p))) (λ _. refl)
  read_same ok p o (HostIndex h) =
      pick_cases (Same p) (eqb (read_refusal ok o (host_access p h.0)) carried_out)
      (λ _. apart.hosts p.held (set p.held.host h.0 (hold_after p (host_word p h.0)))) (λ _. refl)

  -- a write leaves it too, unless it is one of control that does not
  write_same : (ok : Bool) (p : Prioritised) (o v : ℕ) (at : Own) → (at ≡ Control → f (controlled p.held v) ≡ f p.held) → Same p (write_as ok p o v at)
  unfolding Same write_as
  write_same ok p o v Elsewhere _ =
      pick_cases (Same p) (eqb (cic.write_as ok p.cic o v).refusal carried_out)
      (λ _. pick_cases (λ (y : Held). f y ≡ f p.held) (eqb p.held.hold 1) (λ _. ended p.cic p.held o v) (λ _. refl)) (λ _. refl)
  write_same ok p o v Control same = pick_cases (Same p) (eqb (write_refusal ok o ReadWrite carried_out) carried_out) (λ _. same refl) (λ _. refl)
  write_same ok p o v GlobalIndex _ = pick_cases (Same p) (eqb (write_refusal ok o ReadWrite carried_out) carried_out) (λ _. apart.global p.held 0) (λ _. refl)
  write_same ok p o v (HostIndex h) _ =
      pick_cases (Same p) (eqb (write_refusal ok o (host_access p h.0) carried_out) carried_out) (λ _. apart.hosts p.held (set p.held.host h.0 0)) (λ _. refl)

  reads_same : (p : Prioritised) (o : ℕ) → f (read p o).prioritised.held ≡ f p.held
  unfolding step_as Same
  reads_same p o = read_same (sound p) p o (own_at p o)

  writes-same : (p : Prioritised) (o v : ℕ) → (own_at p o ≡ Control → f (controlled p.held v) ≡ f p.held) → f (write p o v).prioritised.held ≡ f p.held
  unfolding step_as Same
  writes-same p o v same = write_same (sound p) p o v (own_at p o) same

  lines_same : (p : Prioritised) (s l : ℕ) → f (line p s l).prioritised.held ≡ f p.held
  unfolding step_as
  lines_same p s l = refl

-- ---- the choice

of_choice : Held → ℕ
of_choice x = x.choice

choice_apart : Apart of_choice
unfolding of_choice
choice_apart = record { global = λ x y. refl; hosts = λ x ys. refl }

-- control leaves it
choice-controlled : (x : Held) (v : ℕ) → of_choice (controlled x v) ≡ of_choice x
unfolding of_choice controlled
choice-controlled x v =
    pick_cases (λ (y : Held). y.choice ≡ x.choice) (bit v 4) (λ _. pick_cases (λ (y : Held). y.choice ≡ x.choice) (eqb x.hold 1) (λ _. refl) (λ _. refl)) (λ _. refl)

pub choice_stays : (p : Prioritised) (x : Step) → (step p x).prioritised.held.choice ≡ p.held.choice
unfolding of_choice
choice_stays p (Read o) = reads_same of_choice choice_apart p o
choice_stays p (Write o v) = writes-same of_choice choice_apart p o v (λ _. choice-controlled p.held v)
choice_stays p (Line s l) = lines_same of_choice choice_apart p s l

-- ---- the mode

of_mode : Held → ℕ
of_mode x = x.hold

mode_apart : Apart of_mode
unfolding of_mode
mode_apart = record { global = λ x y. refl; hosts = λ x ys. refl }

tag : Own → ℕ
tag Elsewhere = 0
tag Control = 1
tag GlobalIndex = 0
tag (HostIndex h) = 0

is_control : {a at : Own} → a ≡ at → a ≡ Control → tag at ≡ 1
unfolding tag
is_control e f = ap tag (sym e ∙ f)

-- where the choice is on, control stands at 0x004 alone
only-control : (p : Prioritised) (o : ℕ) → p.held.choice ≡ 1 → own_at p o ≡ Control → o ≡ 0x004
unfolding tag
only-control p o on e = go (place p o on)
  where
    go : Place p o → o ≡ 0x004
    go (control x _) = x
    go (global _ x) = absurd (omega (arith, is_control x e))
    go (indices _ _ x) = absurd (omega (arith, is_control x e))
    go (other _ _ _ x) = absurd (omega (arith, is_control x e))

module _ (p : Prioritised) (e : sound p ≡ true) where
  Turned : Step → Type 0
  Turned x = (step p x).prioritised.held.hold ≢ p.held.hold

  -- a write of control, where the choice is on
  control-turns : (v : ℕ) → p.held.choice ≡ 1 → Turned (Write 0x004 v) → Turns p.held (Write 0x004 v)
  unfolding Turned
  control-turns v on d = go (told (bit v 4)) (ℕ_discrete p.held.hold 1)
    where
      go : (bit v 4 ≡ true) ⊎ (bit v 4 ≡ false) → Dec (p.held.hold ≡ 1) → Turns p.held (Write 0x004 v)
      go (inr f) (yes z) = (v, refl, (on, inl (z, f)))
      go (inr f) (no n) = absurd (d (ap (λ (a : Answer). a.prioritised.held.hold) (control-off p v e on f) ∙ omega (arith, n, on, (parts p e).hold)))
      go (inl t) (yes z) = absurd (d (ap (λ (a : Answer). a.prioritised.held.hold) (control_again p v e z t)))
      go (inl t) (no n) = (v, refl, (on, inr (omega (arith, n, on, (parts p e).hold), t)))

  turns : (x : Step) → Turned x → Turns p.held x
  unfolding Turned of_mode tag
  turns (Read o) d = absurd (d (reads_same of_mode mode_apart p o))
  turns (Line s l) d = absurd (d (lines_same of_mode mode_apart p s l))
  turns (Write o v) d = go (on_or-not p o) (ℕ_discrete o 0x004)
    where
      go : (p.held.choice ≡ 1) ⊎ (own_at p o ≡ Elsewhere) → Dec (o ≡ 0x004) → Turns p.held (Write o v)
      go (inr x) _ = absurd (d (writes-same of_mode mode_apart p o v (λ c. absurd (omega (arith, is_control x c)))))
      go (inl on) (no n) = absurd (d (writes-same of_mode mode_apart p o v (λ c. absurd (n (only-control p o on c)))))
      go (inl on) (yes at) = subst (λ (i : ℕ). Turned (Write i v) → Turns p.held (Write i v)) (sym at) (control-turns v on) d

  -- such a write turns it
  turned : (x : Step) → Turns p.held x → Turned x
  unfolding Turned
  turned x (v, at, (on, inl (z, f))) same =
      omega (arith, z, same, ap (λ (y : Step). (step p y).prioritised.held.hold) at, ap (λ (a : Answer). a.prioritised.held.hold) (control-off p v e on f))
  turned x (v, at, (on, inr (z, t))) same =
      omega (arith, z, same, ap (λ (y : Step). (step p y).prioritised.held.hold) at, ap (λ (a : Answer). a.prioritised.held.hold) (control_on p v e on z t))

pub mode-turns : (p : Prioritised) (x : Step) → sound p ≡ true → ((step p x).prioritised.held.hold ≢ p.held.hold) ↔ Turns p.held x
unfolding Turned
mode-turns p x e = (turns p e x, turned p e x)
