-- Reads and writes of the registers that prioritisation has: what they answer, and what is held after them.
use mathlib.Core.Bool.{Bool, true, false}
use mathlib.Core.Logic.{◌≢◌, ◌⊎◌, inl, inr}
use mathlib.Core.Path.{◌≡◌, refl, sym, ap, ap₂, subst, ◌∙◌}
use mathlib.Core.List.{List}
use Prim.Native.Nat.{ℕ, ◌+◌, ◌*◌, ◌%◌, ◌≤◌, ◌<◌}
use native.Mathlib.Decide.{ℕ_discrete}
use native.Mathlib.Omega.{arith}
use borrow.Author.Tests.{eq-eqb, ne_eqb, lt-ltb, eqb-true}
use lib.Dec.{eqb, ltb}
use lib.ListN.{get_or, set}
use lib.Seq.{set-get_or}
use Rattle.words.specs.Choice.{pick}
use Rattle.words.specs.Word.{bit}
use Rattle.words.proofs.ChoiceLaws.{pick_true, pick-false, pick_cases}
use Rattle.words.proofs.TruthLaws.{and_right, and_both}
use Rattle.steps.specs.declared.Access.TheVariants.{ReadWrite}
use Rattle.steps.specs.Refusals.{carried_out, read_refusal, write_refusal}
use Rattle.steps.proofs.Promises as checks
use Rattle.cic_record.proofs.PartsLaws.{sound-counts}
use Rattle.cic_held.specs.declared.Answer.{Answer}
use Rattle.cic_held.specs.declared.Held.{Held}
use Rattle.cic_held.specs.declared.Prioritised.{Prioritised}
use Rattle.cic_held.specs.Held.{prioritised, nothing_held, with_global, with_hosts, held_as, word_held, entry_sound, sound, controlled}
use Rattle.cic_held.proofs.HeldLaws.{held_again}
use Rattle.cic_indexed.specs.declared.Own.TheVariants.{Control, GlobalIndex}
use Rattle.cic_indexed.specs.Registers.{host_access, hold_after, global_word, host_word}
use Rattle.cic_indexed.specs.Model.{answered, read_as, write_as, step_as, read, write}
use Rattle.cic_indexed.proofs.SoundLaws.{sound-cic, parts, host_entry_lem, host-below}
use Rattle.cic_indexed.proofs.StepLaws.{carried-by}
use Rattle.cic_indexed.proofs.PlaceLaws.{at-control, at_global, at_host}

-- ---- what a sound record tells

-- where nothing may be held it is nothing
entry-none : (n : ℕ) {t : Bool} (x : ℕ) → entry_sound n t x ≡ true → (t ≡ true → ⊥) → x ≡ 0
unfolding entry_sound
entry-none n {t} x e = pick_cases (λ (b : Bool). b ≡ true → (t ≡ true → ⊥) → x ≡ 0) t (λ a _ d. absurd (d a)) (λ _ b _. eqb-true x 0 b) e

-- where the hold mode is on, the choice is
pub mode-chosen : (p : Prioritised) → sound p ≡ true → p.held.hold ≡ 1 → p.held.choice ≡ 1
mode-chosen p e z = omega (arith, z, (parts p e).hold, (parts p e).choice)

-- something is held only in the mode
pub global_mode : (p : Prioritised) → sound p ≡ true → p.held.global ≢ 0 → p.held.hold ≡ 1
global_mode p e d = go (ℕ_discrete p.held.hold 1)
  where
    go : Dec (p.held.hold ≡ 1) → p.held.hold ≡ 1
    go (yes z) = z
    go (no n) = absurd (d (entry-none p.cic.systems p.held.global (parts p e).global (λ t. n (eqb-true p.held.hold 1 t))))

pub host_mode : (p : Prioritised) (h : ℕ) → sound p ≡ true → h < p.cic.hosts → get_or p.held.host h 0 ≢ 0 → p.held.hold ≡ 1
host_mode p h e l d = go (ℕ_discrete p.held.hold 1)
  where
    go : Dec (p.held.hold ≡ 1) → p.held.hold ≡ 1
    go (yes z) = z
    go (no n) =
        absurd (d (entry-none p.cic.systems (get_or p.held.host h 0) (host_entry_lem p h e (host-below p h e l))
        (λ t. n (eqb-true p.held.hold 1 (and_right (ltb h p.cic.hosts) (eqb p.held.hold 1) t)))))

-- outside it nothing is
global-free : (p : Prioritised) → sound p ≡ true → p.held.hold ≡ 0 → p.held.global ≡ 0
global-free p e z = entry-none p.cic.systems p.held.global (parts p e).global (λ t. omega (arith, z, eqb-true p.held.hold 1 t))

host-free : (p : Prioritised) (h : ℕ) → sound p ≡ true → p.held.hold ≡ 0 → h < p.cic.hosts → get_or p.held.host h 0 ≡ 0
host-free p h e z l =
    entry-none p.cic.systems (get_or p.held.host h 0) (host_entry_lem p h e (host-below p h e l))
    (λ t. omega (arith, z, eqb-true p.held.hold 1 (and_right (ltb h p.cic.hosts) (eqb p.held.hold 1) t)))

systems-most : (p : Prioritised) → sound p ≡ true → p.cic.systems ≤ 1024
systems-most p e = (sound-counts p.cic (sound-cic p e)).systems.1

-- ---- carried out

module _ (p : Prioritised) (e : sound p ≡ true) (z : p.held.choice ≡ 1) where
  pub global-read : read p 0x080 ≡ answered (prioritised p.cic (with_global p.held (hold_after p (global_word p)))) (global_word p)
  unfolding step_as read_as read_refusal pick
  global-read = ap (read_as (sound p) p 0x080) (at_global p z) ∙ ap (λ (t : Bool). read_as t p 0x080 GlobalIndex) e

  pub global-write : (v : ℕ) → write p 0x080 v ≡ answered (prioritised p.cic (with_global p.held 0)) 0
  unfolding step_as write_as write_refusal pick
  global-write v = ap (write_as (sound p) p 0x080 v) (at_global p z) ∙ ap (λ (t : Bool). write_as t p 0x080 v GlobalIndex) e

  pub control-read : read p 0x004 ≡ answered p (16 * p.held.hold)
  unfolding step_as read_as read_refusal pick
  control-read = ap (read_as (sound p) p 0x004) (at-control p z) ∙ ap (λ (t : Bool). read_as t p 0x004 Control) e

  pub control-write : (v : ℕ) → write p 0x004 v ≡ answered (prioritised p.cic (controlled p.held v)) 0
  unfolding step_as write_as write_refusal pick
  control-write v = ap (write_as (sound p) p 0x004 v) (at-control p z) ∙ ap (λ (t : Bool). write_as t p 0x004 v Control) e

  module _ (h : ℕ) (l : h < p.cic.hosts) where
    there : host_access p h ≡ ReadWrite
    unfolding host_access
    there = sym (pick_true _ (lt-ltb h p.cic.hosts l))

    aligned : (0x900 + 4 * h) % 4 ≡ 0
    aligned = omega arith

    pub host-read : read p (0x900 + 4 * h) ≡ answered (prioritised p.cic (with_hosts p.held (set p.held.host h (hold_after p (host_word p h))))) (host_word p h)
    unfolding step_as read_as
    host-read =
        ap (read_as (sound p) p (0x900 + 4 * h)) (at_host p h z (host-below p h e l))
        ∙ sym (carried-by p refl (((checks.kept).reads (sound p) (0x900 + 4 * h) (host_access p h)).none.1 (e, (aligned, inr there))) refl)

    pub host-write : (v : ℕ) → write p (0x900 + 4 * h) v ≡ answered (prioritised p.cic (with_hosts p.held (set p.held.host h 0))) 0
    unfolding step_as write_as
    host-write v =
        ap (write_as (sound p) p (0x900 + 4 * h) v) (at_host p h z (host-below p h e l))
        ∙ sym (carried-by p refl (((checks.kept).writes (sound p) (0x900 + 4 * h) (host_access p h) carried_out (inl refl)).none.1 (e, (aligned, (inr there, refl)))) refl)

-- ---- what a read holds

value : {a b : Answer} → a ≡ b → a.value ≡ b.value
value e = ap (λ (x : Answer). x.value) e

pub global-holds : (p : Prioritised) → sound p ≡ true → p.held.hold ≡ 1
    → read p 0x080 ≡ answered (prioritised p.cic (with_global p.held (held_as (read p 0x080).value))) (read p 0x080).value
global-holds p e z =
    let r = global-read p e (mode-chosen p e z) in
    subst (λ (n : ℕ). read p 0x080 ≡ answered (prioritised p.cic (with_global p.held (held_as n))) n) (sym (value r))
    (r ∙ ap (λ (x : ℕ). answered (prioritised p.cic (with_global p.held x)) (global_word p)) (sym (pick_true 0 (eq-eqb p.held.hold 1 z))))

pub host-holds : (p : Prioritised) (h : ℕ) → sound p ≡ true → p.held.hold ≡ 1 → h < p.cic.hosts
    → read p (0x900 + 4 * h) ≡ answered (prioritised p.cic (with_hosts p.held (set p.held.host h (held_as (read p (0x900 + 4 * h)).value)))) (read p (0x900 + 4 * h)).value
host-holds p h e z l =
    let r = host-read p e (mode-chosen p e z) h l in
    subst (λ (n : ℕ). read p (0x900 + 4 * h) ≡ answered (prioritised p.cic (with_hosts p.held (set p.held.host h (held_as n)))) n) (sym (value r))
    (r ∙ ap (λ (x : ℕ). answered (prioritised p.cic (with_hosts p.held (set p.held.host h x))) (host_word p h)) (sym (pick_true 0 (eq-eqb p.held.hold 1 z))))

-- what is held as it was is the same record
global-same : (p : Prioritised) {x y w v : ℕ} → x ≡ y → y ≡ p.held.global → w ≡ v → answered (prioritised p.cic (with_global p.held x)) w ≡ answered p v
global-same p a b c = ap₂ (λ (x w : ℕ). answered (prioritised p.cic (with_global p.held x)) w) (a ∙ b) c

host-same : (p : Prioritised) (h : ℕ) {x y w v : ℕ} → x ≡ y → y ≡ get_or p.held.host h 0 → w ≡ v
    → answered (prioritised p.cic (with_hosts p.held (set p.held.host h x))) w ≡ answered p v
host-same p h a b c =
    ap₂ (λ (xs : List ℕ) (w : ℕ). answered (prioritised p.cic (with_hosts p.held xs)) w) (ap (set p.held.host h) (a ∙ b) ∙ set-get_or p.held.host h 0) c

pub global-held : (p : Prioritised) → sound p ≡ true → p.held.global ≢ 0 → read p 0x080 ≡ answered p (word_held p.held.global)
global-held p e d =
    let z = global_mode p e d in
    let w : global_word p ≡ word_held p.held.global = sym (pick-false _ (ne_eqb p.held.global 0 d)) in
    global-read p e (mode-chosen p e z)
    ∙ global-same p (sym (pick_true 0 (eq-eqb p.held.hold 1 z)) ∙ ap held_as w) (held_again p.cic.systems p.held.global (systems-most p e) (subst (λ (t : Bool). entry_sound p.cic.systems t p.held.global ≡ true) (eq-eqb p.held.hold 1 z) (parts p e).global) d) w

pub host-held : (p : Prioritised) (h : ℕ) → sound p ≡ true → h < p.cic.hosts → get_or p.held.host h 0 ≢ 0
    → read p (0x900 + 4 * h) ≡ answered p (word_held (get_or p.held.host h 0))
host-held p h e l d =
    let z = host_mode p h e l d in
    let x = get_or p.held.host h 0 in
    let w : host_word p h ≡ word_held x = sym (pick-false _ (ne_eqb x 0 d)) in
    host-read p e (mode-chosen p e z) h l
    ∙ host-same p h (sym (pick_true 0 (eq-eqb p.held.hold 1 z)) ∙ ap held_as w)
    (held_again p.cic.systems x (systems-most p e)
    (subst (λ (t : Bool). entry_sound p.cic.systems t x ≡ true) (and_both (lt-ltb h p.cic.hosts l) (eq-eqb p.held.hold 1 z)) (host_entry_lem p h e (host-below p h e l))) d) w

pub global-shows : (p : Prioritised) → sound p ≡ true → p.held.choice ≡ 1 → p.held.hold ≡ 0 → read p 0x080 ≡ answered p (read p 0x080).value
global-shows p e c z =
    let r = global-read p e c in
    r ∙ global-same p (sym (pick-false _ (ne_eqb p.held.hold 1 (λ h. omega (arith, h, z))))) (sym (global-free p e z)) (sym (value r))

pub host-shows : (p : Prioritised) (h : ℕ) → sound p ≡ true → p.held.choice ≡ 1 → p.held.hold ≡ 0 → h < p.cic.hosts
    → read p (0x900 + 4 * h) ≡ answered p (read p (0x900 + 4 * h)).value
host-shows p h e c z l =
    let r = host-read p e c h l in
    r ∙ host-same p h (sym (pick-false _ (ne_eqb p.held.hold 1 (λ x. omega (arith, x, z))))) (sym (host-free p h e z l)) (sym (value r))

-- ---- control

pub control-reads : (p : Prioritised) → sound p ≡ true → p.held.choice ≡ 1
    → ((p.held.hold ≡ 1) × (read p 0x004 ≡ answered p 0x10)) ⊎ ((p.held.hold ≡ 0) × (read p 0x004 ≡ answered p 0))
control-reads p e c = go (ℕ_discrete p.held.hold 1)
  where
    go : Dec (p.held.hold ≡ 1) → ((p.held.hold ≡ 1) × (read p 0x004 ≡ answered p 0x10)) ⊎ ((p.held.hold ≡ 0) × (read p 0x004 ≡ answered p 0))
    go (yes z) = inl (z, control-read p e c ∙ ap (λ (n : ℕ). answered p (16 * n)) z)
    go (no d) =
        let z : p.held.hold ≡ 0 = omega (arith, d, c, (parts p e).hold) in
        inr (z, control-read p e c ∙ ap (λ (n : ℕ). answered p (16 * n)) z)

-- what control leaves
leaves : (p : Prioritised) (v : ℕ) {x : Held} → sound p ≡ true → p.held.choice ≡ 1 → controlled p.held v ≡ x → write p 0x004 v ≡ answered (prioritised p.cic x) 0
leaves p v e c f = control-write p e c v ∙ ap (λ (x : Held). answered (prioritised p.cic x) 0) f

pub control-off : (p : Prioritised) (v : ℕ) → sound p ≡ true → p.held.choice ≡ 1 → bit v 4 ≡ false → write p 0x004 v ≡ answered (prioritised p.cic (nothing_held 1 0)) 0
unfolding controlled
control-off p v e c b = leaves p v e c (sym (pick-false _ b) ∙ ap (λ (n : ℕ). nothing_held n 0) c)

pub control_on : (p : Prioritised) (v : ℕ) → sound p ≡ true → p.held.choice ≡ 1 → p.held.hold ≡ 0 → bit v 4 ≡ true
    → write p 0x004 v ≡ answered (prioritised p.cic (nothing_held 1 1)) 0
unfolding controlled
control_on p v e c z b =
    leaves p v e c (sym (pick_true _ b) ∙ sym (pick-false _ (ne_eqb p.held.hold 1 (λ h. omega (arith, h, z)))) ∙ ap (λ (n : ℕ). nothing_held n 1) c)

pub control_again : (p : Prioritised) (v : ℕ) → sound p ≡ true → p.held.hold ≡ 1 → bit v 4 ≡ true → write p 0x004 v ≡ answered p 0
unfolding controlled
control_again p v e z b = leaves p v e (mode-chosen p e z) (sym (pick_true _ b) ∙ sym (pick_true _ (eq-eqb p.held.hold 1 z)))
