-- What a sound record tells of its CIC and of what is held beside it.
use mathlib.Core.Bool.{Bool, true, ◌&&◌}
use mathlib.Core.Logic.{◌≢◌}
use mathlib.Core.Path.{◌≡◌, refl, sym, ◌∙◌}
use Prim.Native.Nat.{ℕ, ◌+◌, ◌≤◌, ◌<◌}
use native.Mathlib.Omega.{arith}
use borrow.Author.Tests.{eqb-true, leb-true}
use lib.Dec.{eqb, ltb}
use lib.ListN.{get_or}
use Rattle.words.proofs.ChoiceLaws.{pick_cases}
use Rattle.words.proofs.CountingLaws.{all_at}
use Rattle.words.proofs.TruthLaws.{and_left, and_right, and_both}
use Rattle.cic_record.specs.declared.Cic.{Cic}
use Rattle.cic_record.specs.declared.Host.{Host}
use Rattle.cic_record.specs.Sound as cic
use Rattle.cic_record.proofs.PartsLaws.{sound-counts}
use Rattle.cic_held.specs.Order.{none_word, index_of}
use Rattle.cic_held.specs.declared.Held.{Held}
use Rattle.cic_held.specs.declared.Prioritised.{Prioritised}
use Rattle.cic_held.specs.Held.{prioritised, word_held, entry_sound, held_sound, sound}
use Rattle.cic_held.proofs.HeldLaws.{host_entry, Parts, held-parts, index_below}
use Rattle.cic_indexed.specs.Registers.{index_read}

-- ---- the two parts of the record

pub sound-cic : (p : Prioritised) → sound p ≡ true → cic.sound p.cic ≡ true
unfolding sound
sound-cic p e = and_left (cic.sound p.cic) (held_sound p.cic p.held) e

pub sound-held : (p : Prioritised) → sound p ≡ true → held_sound p.cic p.held ≡ true
unfolding sound
sound-held p e = and_right (cic.sound p.cic) (held_sound p.cic p.held) e

pub both-parts : (c : Cic) (h : Held) → cic.sound c ≡ true → held_sound c h ≡ true → sound (prioritised c h) ≡ true
unfolding sound
both-parts c h a b = and_both a b

-- both records pass their tests
pub both-sound : (p : Prioritised) → sound p ≡ true → sound p ≡ cic.sound p.cic
both-sound p e = e ∙ sym (sound-cic p e)

-- what is held keeps its rules
pub parts : (p : Prioritised) → sound p ≡ true → Parts p.cic p.held
parts p e = held-parts p.cic p.held (sound-held p e)

pub hold_small : (p : Prioritised) → sound p ≡ true → p.held.hold ≤ 1
hold_small p e = omega (arith, (parts p e).hold, (parts p e).choice)

-- ---- what is held

-- it is at most one more than the systems
entry_small : (n : ℕ) (t : Bool) (x : ℕ) → entry_sound n t x ≡ true → x ≤ n + 1
unfolding entry_sound
entry_small n t x = pick_cases (λ (b : Bool). b ≡ true → x ≤ n + 1) t (λ _ e. leb-true x (n + 1) e) (λ _ e. omega (arith, eqb-true x 0 e))

pub global_small : (p : Prioritised) → sound p ≡ true → p.held.global ≤ p.cic.systems + 1
global_small p e = entry_small p.cic.systems (eqb p.held.hold 1) p.held.global (parts p e).global

-- the entry of host h
pub host_entry_lem : (p : Prioritised) (h : ℕ) → sound p ≡ true → h < 256 → host_entry p.cic p.held.hold h (get_or p.held.host h 0) ≡ true
host_entry_lem p h e l = all_at 256 (λ k. host_entry p.cic p.held.hold k (get_or p.held.host k 0)) (parts p e).hosts h l

pub host_small : (p : Prioritised) (h : ℕ) → sound p ≡ true → h < 256 → get_or p.held.host h 0 ≤ p.cic.systems + 1
host_small p h e l = entry_small p.cic.systems (ltb h p.cic.hosts && eqb p.held.hold 1) (get_or p.held.host h 0) (host_entry_lem p h e l)

-- a configured host is below 256
pub host-below : (p : Prioritised) (h : ℕ) → sound p ≡ true → h < p.cic.hosts → h < 256
host-below p h e l = omega (arith, l, (sound-counts p.cic (sound-cic p e)).hosts.1)

-- ---- words

held_small : (n x : ℕ) → n ≤ 1024 → x ≤ n + 1 → word_held x ≢ none_word → word_held x < 65534
unfolding word_held
held_small n x m l = pick_cases (λ (w : ℕ). w ≢ none_word → w < 65534) (eqb x 1) (λ _ d. absurd (d refl)) (λ _ _. omega (arith, m, l))

-- the word of an index, unless it is that of none, is the number of a system interrupt
pub word_small : (c : Cic) (x : ℕ) (every : Bool) (h : Host) → cic.sound c ≡ true → x ≤ c.systems + 1
    → index_read x (index_of c every h) ≢ none_word → index_read x (index_of c every h) < 65534
word_small c x every h e l =
    let most = (sound-counts c e).systems.1 in
    pick_cases (λ (w : ℕ). w ≢ none_word → w < 65534) (eqb x 0) (λ _ d. omega (arith, index_below c every h e d, most)) (λ _. held_small c.systems x most l)
