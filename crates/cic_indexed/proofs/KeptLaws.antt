-- Every step keeps a sound record sound.
use mathlib.Core.Bool.{Bool, true, false, ◌&&◌}
use mathlib.Core.Logic.{◌≢◌, ◌⊎◌, inl, inr}
use mathlib.Core.Path.{◌≡◌, refl, sym, ap, subst, ◌∙◌}
use Prim.Native.Nat.{ℕ, ◌+◌, ◌-◌, ◌/◌, ◌<◌}
use native.Mathlib.Omega.{arith}
use borrow.Author.Tests.{eqb-true, eqb-false, lt-ltb, le-leb}
use lib.Dec.{eqb, ltb}
use lib.ListN.{get_or, set}
use Rattle.words.specs.Array.{rest_at}
use Rattle.words.specs.Choice.{pick}
use Rattle.words.specs.Word.{kept}
use Rattle.words.proofs.ChoiceLaws.{pick_cases}
use Rattle.steps.specs.declared.Access.TheVariants.{ReadWrite}
use Rattle.steps.specs.declared.Step.{Step}
use Rattle.steps.specs.declared.Step.TheVariants.{Read, Write, Line}
use Rattle.steps.specs.Refusals.{carried_out, read_refusal, write_refusal, line_refusal}
use Rattle.cic_record.specs.declared.Answer.{Answer as CicAnswer}
use Rattle.cic_record.specs.declared.Cic.{Cic}
use Rattle.cic_record.specs.declared.Host.{Host}
use Rattle.cic_record.specs.Kinds.{host_number}
use Rattle.cic_record.specs.Sound as cic-sound
use Rattle.cic_registers.specs.Map.{register_at, access}
use Rattle.cic_registers.proofs.Promises as of-registers
use Rattle.cic_registers.specs.Model as cic
use Rattle.cic.proofs.Promises as of-cic
use Rattle.cic_held.specs.Order.{none_word, index_of}
use Rattle.cic_held.specs.declared.Answer.{Answer}
use Rattle.cic_held.specs.declared.Held.{Held}
use Rattle.cic_held.specs.declared.Prioritised.{Prioritised}
use Rattle.cic_held.specs.Held.{prioritised, with_global, with_hosts, held_as, entry_sound, held_sound, freed_hosts, sound, controlled}
use Rattle.cic_held.proofs.HeldLaws.{held_entry, index_below, word_below, nothing_entry, global-kept, host-kept, freed-kept, controlled-kept, counts-kept}
use Rattle.cic_indexed.specs.declared.Own.{Own}
use Rattle.cic_indexed.specs.declared.Own.TheVariants.{Elsewhere, Control, GlobalIndex, HostIndex}
use Rattle.cic_indexed.specs.Registers.{own_at, host_access, index_read, hold_after, global_word, host_word, after_host, hosts_written, held_after}
use Rattle.cic_indexed.specs.Model.{read_as, write_as, step_as, read, write, line, step}
use Rattle.cic_indexed.proofs.SoundLaws.{sound-cic, sound-held, both-parts, parts, host_entry_lem}
use Rattle.cic_indexed.proofs.StepLaws.{read_there}
use Rattle.cic_indexed.proofs.CicLaws.{lines, plain-read, plain-write}
use Rattle.cic_indexed.proofs.PlaceLaws.{on_or-not}

-- ---- no step of the CIC's changes its counts

Same : Cic → Cic → Type 0
Same c d = (d.systems ≡ c.systems) × (d.hosts ≡ c.hosts)

write-counts : (c : Cic) (o v : ℕ) → Same c (cic.write c o v).cic
unfolding Same cic.write_as
write-counts c o v =
    let k = (of-registers.kept).writes_keep c (register_at o) v in
    pick_cases (λ (a : CicAnswer). Same c a.cic) (eqb (write_refusal (cic-sound.sound c) o (access c o) (cic.refusal_at c o v)) carried_out)
    (λ _. (k.systems, k.hosts)) (λ _. (refl, refl))

line-counts : (c : Cic) (s l : ℕ) → Same c (cic.line c s l).cic
unfolding Same cic.line_as cic.moved
line-counts c s l =
    pick_cases (λ (a : CicAnswer). Same c a.cic) (eqb (line_refusal (cic-sound.sound c) c.systems s l) carried_out)
    (λ _. pick_cases (λ (d : Cic). Same c d) _ (λ _. (refl, refl)) (λ _. (refl, refl))) (λ _. (refl, refl))

-- ---- what is held after a write of the CIC's

ended-kept : (c : Cic) (x : Held) → held_sound c x ≡ true → held_sound c (with_global x 0) ≡ true
ended-kept c x e = global-kept c x 0 e (nothing_entry c.systems (eqb x.hold 1))

host-ended : (c : Cic) (x : Held) (h : ℕ) → held_sound c x ≡ true → held_sound c (with_hosts x (set x.host h 0)) ≡ true
host-ended c x h e = host-kept c x h 0 e (λ _. nothing_entry c.systems (ltb h c.hosts && eqb x.hold 1))

after_kept : (c : Cic) (x : Held) (h : ℕ) → held_sound c x ≡ true → held_sound c (after_host x h) ≡ true
after_kept c x h e = ended-kept c (with_hosts x (set x.host h 0)) (host-ended c x h e)

written-kept : (c : Cic) (x : Held) (k v : ℕ) → held_sound c x ≡ true → held_sound c (hosts_written c x k v) ≡ true
unfolding hosts_written
written-kept c x k v e =
    let w = kept (rest_at c.hosts k) v in
    pick_cases (λ (y : Held). held_sound c y ≡ true) (eqb w 0) (λ _. e) (λ _. ended-kept c (with_hosts x (freed_hosts k w x.host)) (freed-kept c x k w e))

pub held_kept : (c : Cic) (x : Held) (o v : ℕ) → held_sound c x ≡ true → held_sound c (held_after c x o v) ≡ true
unfolding held_after
held_kept c x o v e =
    pick_cases (λ (y : Held). held_sound c y ≡ true) (eqb o 0x034) (λ _. after_kept c x v e)
    (λ _. pick_cases (λ (y : Held). held_sound c y ≡ true) (eqb o 0x038) (λ _. after_kept c x v e)
    (λ _. pick_cases (λ (y : Held). held_sound c y ≡ true) (ltb o 0x1500) (λ _. e)
    (λ _. pick_cases (λ (y : Held). held_sound c y ≡ true) (ltb o 0x1520) (λ _. written-kept c x ((o - 0x1500) / 4) v e) (λ _. e))))

-- ---- what is held after a read of an index

-- an entry is sound where something may be held
entry_may : (n : ℕ) (t : Bool) (x : ℕ) → entry_sound n t x ≡ true → entry_sound n true x ≡ true
unfolding entry_sound pick
entry_may n true x e = e
entry_may n false x e = le-leb x (n + 1) (omega (arith, eqb-true x 0 e))

-- the word that is answered is that of none, or a configured system interrupt's
word-under : (c : Cic) (t : Bool) (x : ℕ) (every : Bool) (h : Host) → cic-sound.sound c ≡ true → entry_sound c.systems t x ≡ true
    → index_read x (index_of c every h) ≢ none_word → index_read x (index_of c every h) < c.systems
word-under c t x every h e s =
    pick_cases (λ (w : ℕ). w ≢ none_word → w < c.systems) (eqb x 0) (λ _. index_below c every h e)
    (λ f. word_below c.systems x (entry_may c.systems t x s) (eqb-false x 0 f))

-- it is held in the mode, and nothing outside it
hold_entry : (n w : ℕ) (t : Bool) → (w ≢ none_word → w < n) → entry_sound n t (pick t (held_as w) 0) ≡ true
unfolding pick
hold_entry n w true s = held_entry n w s
hold_entry n w false s = nothing_entry n false

global-read-kept : (p : Prioritised) → sound p ≡ true → held_sound p.cic (with_global p.held (hold_after p (global_word p))) ≡ true
global-read-kept p e =
    global-kept p.cic p.held (hold_after p (global_word p)) (sound-held p e)
    (hold_entry p.cic.systems (global_word p) (eqb p.held.hold 1)
    (word-under p.cic (eqb p.held.hold 1) p.held.global true (host_number 0) (sound-cic p e) (parts p e).global))

host-read-kept : (p : Prioritised) (h : ℕ) → sound p ≡ true → h < p.cic.hosts
    → held_sound p.cic (with_hosts p.held (set p.held.host h (hold_after p (host_word p h)))) ≡ true
host-read-kept p h e l =
    let t : (ltb h p.cic.hosts && eqb p.held.hold 1) ≡ eqb p.held.hold 1 = ap (λ (b : Bool). b && eqb p.held.hold 1) (lt-ltb h p.cic.hosts l) in
    host-kept p.cic p.held h (hold_after p (host_word p h)) (sound-held p e)
    (λ m. ap (λ (b : Bool). entry_sound p.cic.systems b (hold_after p (host_word p h))) t
    ∙ hold_entry p.cic.systems (host_word p h) (eqb p.held.hold 1)
    (word-under p.cic (ltb h p.cic.hosts && eqb p.held.hold 1) (get_or p.held.host h 0) false (host_number h) (sound-cic p e) (host_entry_lem p h e m)))

-- ---- steps

-- beside a CIC whose counts are the same
beside-kept : (p : Prioritised) (x : Held) (d : Cic) → Same p.cic d → cic-sound.sound d ≡ true → held_sound p.cic x ≡ true → sound (prioritised d x) ≡ true
unfolding Same
beside-kept p x d same e k = both-parts d x e (counts-kept p.cic d x same.0 same.1 k)

Kept : Answer → Type 0
Kept a = sound a.prioritised ≡ true

module _ (p : Prioritised) (e : sound p ≡ true) where
  read_own : (o : ℕ) (at : Own) → own_at p o ≡ at → Kept (read p o)
  unfolding Kept
  read_own o Elsewhere f =
      subst Kept (sym (plain-read p o e f)) (ap (λ (d : Cic). sound (prioritised d p.held)) ((of-cic.kept).read_same p.cic o) ∙ e)
  read_own o Control f =
      unfold step_as read_as in
      subst (λ (at : Own). Kept (read_as (sound p) p o at)) (sym f) (pick_cases Kept (eqb (read_refusal (sound p) o ReadWrite) carried_out) (λ _. e) (λ _. e))
  read_own o GlobalIndex f =
      unfold step_as read_as in
      subst (λ (at : Own). Kept (read_as (sound p) p o at)) (sym f)
      (pick_cases Kept (eqb (read_refusal (sound p) o ReadWrite) carried_out)
      (λ _. both-parts p.cic (with_global p.held (hold_after p (global_word p))) (sound-cic p e) (global-read-kept p e)) (λ _. e))
  read_own o (HostIndex h) f =
      unfold step_as read_as in
      subst (λ (at : Own). Kept (read_as (sound p) p o at)) (sym f)
      (pick_cases Kept (eqb (read_refusal (sound p) o (host_access p h.0)) carried_out)
      (λ z. both-parts p.cic (with_hosts p.held (set p.held.host h.0 (hold_after p (host_word p h.0)))) (sound-cic p e)
      (host-read-kept p h.0 e (read_there p o h.0 (ap (λ (t : Bool). read_refusal t o (host_access p h.0)) (sym e) ∙ eqb-true (read_refusal (sound p) o (host_access p h.0)) carried_out z))))
      (λ _. e))

  write-plain : (o v : ℕ) → own_at p o ≡ Elsewhere → Kept (write p o v)
  unfolding Kept cic.step_as
  write-plain o v f =
      let a = cic.write p.cic o v in
      subst Kept (sym (plain-write p o v e f))
      (pick_cases Kept (eqb a.refusal carried_out)
      (λ _. beside-kept p (pick (eqb p.held.hold 1) (held_after p.cic p.held o v) p.held) a.cic (write-counts p.cic o v)
      ((of-cic.kept).step_sound p.cic (Write o v) (sound-cic p e))
      (pick_cases (λ (y : Held). held_sound p.cic y ≡ true) (eqb p.held.hold 1) (λ _. held_kept p.cic p.held o v (sound-held p e)) (λ _. sound-held p e)))
      (λ _. e))

  write_own : (o v : ℕ) → p.held.choice ≡ 1 → (at : Own) → own_at p o ≡ at → Kept (write p o v)
  unfolding Kept
  write_own o v on Elsewhere f = write-plain o v f
  write_own o v on Control f =
      unfold step_as write_as in
      subst (λ (at : Own). Kept (write_as (sound p) p o v at)) (sym f)
      (pick_cases Kept (eqb (write_refusal (sound p) o ReadWrite carried_out) carried_out)
      (λ _. both-parts p.cic (controlled p.held v) (sound-cic p e) (controlled-kept p.cic p.held v (sound-held p e) on)) (λ _. e))
  write_own o v on GlobalIndex f =
      unfold step_as write_as in
      subst (λ (at : Own). Kept (write_as (sound p) p o v at)) (sym f)
      (pick_cases Kept (eqb (write_refusal (sound p) o ReadWrite carried_out) carried_out)
      (λ _. both-parts p.cic (with_global p.held 0) (sound-cic p e) (ended-kept p.cic p.held (sound-held p e))) (λ _. e))
  write_own o v on (HostIndex h) f =
      unfold step_as write_as in
      subst (λ (at : Own). Kept (write_as (sound p) p o v at)) (sym f)
      (pick_cases Kept (eqb (write_refusal (sound p) o (host_access p h.0) carried_out) carried_out)
      (λ _. both-parts p.cic (with_hosts p.held (set p.held.host h.0 0)) (sound-cic p e) (host-ended p.cic p.held h.0 (sound-held p e))) (λ _. e))

  write_kept : (o v : ℕ) → Kept (write p o v)
  write_kept o v = go (on_or-not p o)
    where
      go : (p.held.choice ≡ 1) ⊎ (own_at p o ≡ Elsewhere) → Kept (write p o v)
      go (inl on) = write_own o v on (own_at p o) refl
      go (inr f) = write-plain o v f

  line_kept : (s l : ℕ) → Kept (line p s l)
  unfolding Kept cic.step_as
  line_kept s l =
      subst Kept (sym (lines p s l e))
      (beside-kept p p.held (cic.line p.cic s l).cic (line-counts p.cic s l) ((of-cic.kept).step_sound p.cic (Line s l) (sound-cic p e)) (sound-held p e))

pub step-sound : (p : Prioritised) (x : Step) → sound p ≡ true → sound (step p x).prioritised ≡ true
unfolding Kept
step-sound p (Read o) e = read_own p e o (own_at p o) refl
step-sound p (Write o v) e = write_kept p e o v
step-sound p (Line s l) e = line_kept p e s l
