-- The promises of what a read looks at are kept.
use mathlib.Core.Bool.{Bool, true, false}
use mathlib.Core.Logic.{◌≢◌, ◌⊎◌, inl, inr}
use mathlib.Core.Path.{◌≡◌, refl, sym, ap, subst, ◌∙◌}
use Prim.Native.Nat.{ℕ, ◌+◌, ◌*◌, ◌/◌, ◌<◌, ◌≤◌}
use native.Mathlib.Decide.{ℕ_discrete}
use native.Mathlib.Nat.{mul-le-mul_right}
use native.Mathlib.Omega.{arith}
use borrow.Author.Tests.{eq-eqb, ne_eqb}
use lib.Dec.{eqb}
use lib.ListN.{get_or}
use Rattle.words.specs.Choice.{pick}
use Rattle.words.specs.Counting.{count_below}
use Rattle.words.proofs.ChoiceLaws.{pick_true, pick-false, pick_cases}
use Rattle.words.proofs.CountingLaws.{count_le}
use Rattle.steps.specs.Refusals.{carried_out}
use Rattle.cic_record.specs.declared.Cic.{Cic}
use Rattle.cic_record.specs.declared.Host.{Host}
use Rattle.cic_record.specs.Kinds.{channel_number, host_number}
use Rattle.cic_held.specs.Looked.{searched, looked_over}
use Rattle.cic_held.specs.Order.{leads}
use Rattle.cic_held.proofs.IndicesPromises as indices
use Rattle.cic_held.specs.declared.Answer.{Answer}
use Rattle.cic_held.specs.declared.Prioritised.{Prioritised}
use Rattle.cic_held.specs.Held.{sound}
use Rattle.cic_indexed.specs.declared.Own.{Own}
use Rattle.cic_indexed.specs.declared.Own.TheVariants.{Elsewhere, Control, GlobalIndex, HostIndex}
use Rattle.cic_indexed.specs.Registers.{own_at}
use Rattle.cic_indexed.specs.Model.{read}
use Rattle.cic_indexed.proofs.SoundLaws.{host-below}
use Rattle.cic_indexed.proofs.IndexLaws.{global-read, host-read}
use Rattle.cic_indexed.proofs.PlaceLaws.{nowhere, on_or-not, at-control, at_global, at_host, at_none}
use Rattle.cic_prioritised.specs.Looking.{words_now, words_at, look_at}
use Rattle.cic_prioritised.specs.Promises.{Promises}
use Rattle.cic_prioritised.proofs.LookLaws.{none-either}

looks-same : (p : Prioritised) (o : ℕ) → ((look_at p o).refusal ≡ (read p o).refusal) × ((look_at p o).value ≡ (read p o).value)
unfolding look_at
looks-same p o = (refl, refl)

-- ---- no word

refused_none : (p : Prioritised) (o : ℕ) → (read p o).refusal ≢ 0 → (look_at p o).words ≡ 0
unfolding look_at
refused_none p o d = sym (pick-false (words_at p (own_at p o)) (ne_eqb (read p o).refusal 0 d))

-- the register at the offset looks at none
none_at : (p : Prioritised) (o : ℕ) {w : Own} → own_at p o ≡ w → words_at p w ≡ 0 → (look_at p o).words ≡ 0
unfolding look_at
none_at p o {w} a e = ap (λ (n : ℕ). pick (eqb (read p o).refusal carried_out) n 0) (ap (words_at p) a ∙ e) ∙ sym (none-either (eqb (read p o).refusal carried_out))

elsewhere : (p : Prioritised) → words_at p Elsewhere ≡ 0
unfolding words_at
elsewhere p = refl

control : (p : Prioritised) → words_at p Control ≡ 0
unfolding words_at
control p = refl

off-none : (p : Prioritised) (o : ℕ) → p.held.choice ≡ 0 → (look_at p o).words ≡ 0
off-none p o z = none_at p o (nowhere p o z) (elsewhere p)

elsewhere-none : (p : Prioritised) (o : ℕ) → o ≢ 0x080 → (o < 0x900) ⊎ (0xD00 ≤ o) → (look_at p o).words ≡ 0
elsewhere-none p o d w = go (on_or-not p o) (ℕ_discrete o 0x004)
  where
    go : (p.held.choice ≡ 1) ⊎ (own_at p o ≡ Elsewhere) → Dec (o ≡ 0x004) → (look_at p o).words ≡ 0
    go (inr a) _ = none_at p o a (elsewhere p)
    go (inl z) (yes e) = none_at p o (ap (own_at p) e ∙ at-control p z) (control p)
    go (inl z) (no n) = none_at p o (at_none p o z n d w) (elsewhere p)

-- an index that is held
now-none : (c : Cic) (x : ℕ) (every : Bool) (h : Host) → x ≢ 0 → words_now c x every h ≡ 0
now-none c x every h d = sym (pick-false (looked_over c (leads c every h)) (ne_eqb x 0 d))

global_at : (p : Prioritised) → words_at p GlobalIndex ≡ words_now p.cic p.held.global true (host_number 0)
unfolding words_at
global_at p = refl

host_at : (p : Prioritised) (h : ℕ) → words_at p (HostIndex (host_number h)) ≡ words_now p.cic (get_or p.held.host h 0) false (host_number h)
unfolding words_at
host_at p h = refl

global-held : (p : Prioritised) → p.held.global ≢ 0 → (look_at p 0x080).words ≡ 0
global-held p d = go (on_or-not p 0x080)
  where
    go : (p.held.choice ≡ 1) ⊎ (own_at p 0x080 ≡ Elsewhere) → (look_at p 0x080).words ≡ 0
    go (inl z) = none_at p 0x080 (at_global p z) (global_at p ∙ now-none p.cic p.held.global true (host_number 0) d)
    go (inr a) = none_at p 0x080 a (elsewhere p)

host-held : (p : Prioritised) (h : ℕ) → h < 256 → get_or p.held.host h 0 ≢ 0 → (look_at p (0x900 + 4 * h)).words ≡ 0
host-held p h l d = go (on_or-not p (0x900 + 4 * h))
  where
    go : (p.held.choice ≡ 1) ⊎ (own_at p (0x900 + 4 * h) ≡ Elsewhere) → (look_at p (0x900 + 4 * h)).words ≡ 0
    go (inl z) = none_at p (0x900 + 4 * h) (at_host p h z l) (host_at p h ∙ now-none p.cic (get_or p.held.host h 0) false (host_number h) d)
    go (inr a) = none_at p (0x900 + 4 * h) a (elsewhere p)

-- ---- what the searches look at

-- a read that is carried out
words_at_lem : (p : Prioritised) (o : ℕ) {w : Own} → (read p o).refusal ≡ 0 → own_at p o ≡ w → (look_at p o).words ≡ words_at p w
unfolding look_at
words_at_lem p o e a = sym (pick_true 0 (eq-eqb (read p o).refusal 0 e)) ∙ ap (words_at p) a

now-all : (c : Cic) (x : ℕ) (every : Bool) (h : Host) → x ≡ 0 → words_now c x every h ≡ looked_over c (leads c every h)
now-all c x every h e = sym (pick_true 0 (eq-eqb x 0 e))

global_looks : (p : Prioritised) → sound p ≡ true → p.held.choice ≡ 1 → p.held.global ≡ 0
    → (look_at p 0x080).words ≡ looked_over p.cic (leads p.cic true (host_number 0))
global_looks p e z g =
    words_at_lem p 0x080 (ap (λ (a : Answer). a.refusal) (global-read p e z)) (at_global p z) ∙ global_at p ∙ now-all p.cic p.held.global true (host_number 0) g

host_looks : (p : Prioritised) (h : ℕ) → sound p ≡ true → p.held.choice ≡ 1 → h < p.cic.hosts → get_or p.held.host h 0 ≡ 0
    → (look_at p (0x900 + 4 * h)).words ≡ looked_over p.cic (leads p.cic false (host_number h))
host_looks p h e z l g =
    words_at_lem p (0x900 + 4 * h) (ap (λ (a : Answer). a.refusal) (host-read p e z h l)) (at_host p h z (host-below p h e l)) ∙ host_at p h
    ∙ now-all p.cic (get_or p.held.host h 0) false (host_number h) g

-- ---- at most

-- the words that are told are at most those of the register
words-most : (p : Prioritised) (o : ℕ) → (look_at p o).words ≤ words_at p (own_at p o)
unfolding look_at
words-most p o = pick_cases (λ (n : ℕ). n ≤ words_at p (own_at p o)) (eqb (read p o).refusal carried_out) (λ _. omega arith) (λ _. omega arith)

now-most : (c : Cic) (x : ℕ) (every : Bool) (h : Host)
    → words_now c x every h ≤ count_below (searched c (leads c every h)) (λ k. leads c every h (channel_number k)) * ((c.systems + 31) / 32)
now-most c x every h =
    pick_cases (λ (n : ℕ). n ≤ count_below (searched c (leads c every h)) (λ k. leads c every h (channel_number k)) * ((c.systems + 31) / 32)) (eqb x 0)
    (λ _. (indices.kept).over_most c (leads c every h)) (λ _. omega arith)

-- every register but the one that stands there looks at none
most_at : (p : Prioritised) (o n : ℕ) {w : Own} → (p.held.choice ≡ 1 → own_at p o ≡ w) → words_at p w ≤ n → (look_at p o).words ≤ n
most_at p o n {w} a l = go (on_or-not p o)
  where
    go : (p.held.choice ≡ 1) ⊎ (own_at p o ≡ Elsewhere) → (look_at p o).words ≤ n
    go (inl z) = let e = ap (words_at p) (a z) in omega (arith, words-most p o, e, l)
    go (inr b) = let e = none_at p o b (elsewhere p) in omega (arith, e)

global-most : (p : Prioritised) → (look_at p 0x080).words ≤ searched p.cic (leads p.cic true (host_number 0)) * ((p.cic.systems + 31) / 32)
global-most p =
    let n = searched p.cic (leads p.cic true (host_number 0)) in
    let few = mul-le-mul_right ((p.cic.systems + 31) / 32) (count_le n (λ k. leads p.cic true (host_number 0) (channel_number k))) in
    let now = now-most p.cic p.held.global true (host_number 0) in
    most_at p 0x080 (n * ((p.cic.systems + 31) / 32)) (at_global p) (omega (arith, global_at p, now, few))

host-most : (p : Prioritised) (h : ℕ) → h < 256
    → (look_at p (0x900 + 4 * h)).words
    ≤ count_below (searched p.cic (leads p.cic false (host_number h))) (λ k. eqb (get_or p.cic.host k 0) h) * ((p.cic.systems + 31) / 32)
host-most p h l =
    let now = now-most p.cic (get_or p.held.host h 0) false (host_number h) in
    most_at p (0x900 + 4 * h) (count_below (searched p.cic (leads p.cic false (host_number h))) (λ k. eqb (get_or p.cic.host k 0) h) * ((p.cic.systems + 31) / 32))
    (λ z. at_host p h z l) (subst (λ (n : ℕ). n ≤ count_below (searched p.cic (leads p.cic false (host_number h))) (λ k. eqb (get_or p.cic.host k 0) h) * ((p.cic.systems + 31) / 32)) (sym (host_at p h)) now)

pub kept : Promises
kept =
    record {
      looks_same = looks-same;
      refused_none = refused_none;
      elsewhere_none = elsewhere-none;
      off_none = off-none;
      global_held = global-held;
      host_held = host-held;
      global_looks = global_looks;
      host_looks = host_looks;
      global_most = global-most;
      host_most = host-most;
    }
