-- What is held, law by law: what ends holds, what is sound part by part, and that each part put anew keeps it sound.
use mathlib.Core.Path.{◌≡◌, refl, sym, ap, ap₂, ◌∙◌}
use mathlib.Core.Bool.{Bool, true, false, ◌&&◌, ◌||◌}
use mathlib.Core.List.{List}
use mathlib.Core.Logic.{◌≢◌, ◌⊎◌, inl, inr}
use Prim.Native.Nat.{ℕ, zero, suc, ◌+◌, ◌-◌, ◌*◌, ◌/◌, ◌%◌, ◌≤◌, ◌<◌}
use native.Mathlib.Decide.{dec_lt, ℕ_discrete}
use native.Mathlib.Omega.{arith}
use borrow.Author.Tests.{eq-eqb, ne_eqb, eqb-true, le-leb, leb-true}
use lib.Dec.{eqb, ltb, leb}
use lib.ListN.{length, get_or, set, replicate, length-set, get_or-eq_default}
use lib.Seq.{get_or-set_same, get_or-set_other}
use Rattle.words.specs.Choice.{pick}
use Rattle.words.specs.Counting.{any_below, all_below, upto}
use Rattle.words.specs.Word.{bit}
use Rattle.words.proofs.ArrayLaws.{zeros_get_d, all-put}
use Rattle.words.proofs.ChoiceLaws.{pick_true, pick-false, pick_cases}
use Rattle.words.proofs.CountingLaws.{any_some, some_any, all_at, at_all}
use Rattle.words.proofs.TruthLaws.{and_left, and_right, and_both, same_test, told}
use Rattle.cic_record.specs.declared.Cic.{Cic}
use Rattle.cic_record.specs.declared.Host.{Host}
use Rattle.cic_record.specs.Sound as cic
use Rattle.cic_held.specs.Order.{none_word, index_of}
use Rattle.cic_held.proofs.IndicesPromises as index-promises
use Rattle.cic_held.specs.declared.Held.{Held}
use Rattle.cic_held.specs.Held.{nothing_held, with_global, with_hosts, held_as, word_held, entry_sound, held_sound, freed_hosts, controlled}

-- ---- what ends holds

-- a place that is set to 0, and the others; past the end every place is 0
put-zero : (xs : List ℕ) (n h : ℕ) → get_or (set xs n 0) h 0 ≡ pick (eqb n h) 0 (get_or xs h 0)
put-zero xs n h = go (ℕ_discrete h n)
  where
    zeroed : h ≡ n → Dec (h < length xs) → get_or (set xs n 0) h 0 ≡ 0
    zeroed e (yes l) = ap (λ (j : ℕ). get_or (set xs n 0) j 0) e ∙ get_or-set_same xs n 0 0 (omega (arith, e, l))
    zeroed e (no l) = get_or-eq_default (set xs n 0) 0 (omega (arith, l, length-set xs n 0))

    go : Dec (h ≡ n) → get_or (set xs n 0) h 0 ≡ pick (eqb n h) 0 (get_or xs h 0)
    go (yes e) = zeroed e (dec_lt h (length xs)) ∙ pick_true (get_or xs h 0) (eq-eqb n h (sym e))
    go (no d) = get_or-set_other xs n h 0 0 d ∙ pick-false 0 (ne_eqb n h (λ e. d (sym e)))

-- one turn
abbrev turn : ℕ → ℕ → List ℕ → ℕ → List ℕ
turn k v xs j = pick (bit v j) (set xs (32 * k + j) 0) xs

-- host h is the one of bit j of word k, and the bit is 1
abbrev hit : ℕ → ℕ → ℕ → ℕ → Bool
hit k v h j = bit v j && eqb (32 * k + j) h

one-turn : (k v h j : ℕ) (xs : List ℕ) → get_or (turn k v xs j) h 0 ≡ pick (hit k v h j) 0 (get_or xs h 0)
one-turn k v h j xs = go (told (bit v j))
  where
    go : (bit v j ≡ true) ⊎ (bit v j ≡ false) → get_or (turn k v xs j) h 0 ≡ pick (hit k v h j) 0 (get_or xs h 0)
    go (inl e) =
        ap (λ (ys : List ℕ). get_or ys h 0) (sym (pick_true xs e)) ∙ put-zero xs (32 * k + j) h
        ∙ ap (λ (b : Bool). pick (b && eqb (32 * k + j) h) 0 (get_or xs h 0)) (sym e)
    go (inr e) =
        ap (λ (ys : List ℕ). get_or ys h 0) (sym (pick-false (set xs (32 * k + j) 0) e)) ∙ pick-false 0 (ap (λ (b : Bool). b && eqb (32 * k + j) h) e)

join-zero : (a b : Bool) (x : ℕ) → pick b 0 (pick a 0 x) ≡ pick (a || b) 0 x
unfolding pick
join-zero true true x = refl
join-zero true false x = refl
join-zero false true x = refl
join-zero false false x = refl

turns : (k v h n : ℕ) (xs : List ℕ) → get_or (upto (turn k v) xs n) h 0 ≡ pick (any_below n (hit k v h)) 0 (get_or xs h 0)
unfolding upto any_below
turns k v h zero xs = pick-false 0 refl
turns k v h (suc n) xs =
    one-turn k v h n (upto (turn k v) xs n) ∙ ap (pick (hit k v h n) 0) (turns k v h n xs) ∙ join-zero (any_below n (hit k v h)) (hit k v h n) (get_or xs h 0)

-- the hold of host h ends exactly by a 1 at its bit of its word; of any other host it stays
pub freed_at : (k v : ℕ) (xs : List ℕ) (h : ℕ) → get_or (freed_hosts k v xs) h 0 ≡ pick (eqb (h / 32) k && bit v (h % 32)) 0 (get_or xs h 0)
unfolding freed_hosts
freed_at k v xs h = turns k v h 32 xs ∙ ap (λ (b : Bool). pick b 0 (get_or xs h 0)) (same_test (any_below 32 (hit k v h)) (eqb (h / 32) k && bit v (h % 32)) there back)
  where
    there : any_below 32 (hit k v h) ≡ true → (eqb (h / 32) k && bit v (h % 32)) ≡ true
    there e =
        let r = any_some 32 (hit k v h) e in
        let at = eqb-true (32 * k + r.0) h (and_right (bit v r.0) (eqb (32 * k + r.0) h) r.2) in
        let in-word : h % 32 ≡ r.0 = omega (arith, at, r.1) in
        and_both (eq-eqb (h / 32) k (omega (arith, at, r.1))) (ap (bit v) in-word ∙ and_left (bit v r.0) (eqb (32 * k + r.0) h) r.2)

    back : (eqb (h / 32) k && bit v (h % 32)) ≡ true → any_below 32 (hit k v h) ≡ true
    back e =
        let at = eqb-true (h / 32) k (and_left (eqb (h / 32) k) (bit v (h % 32)) e) in
        some_any 32 (hit k v h) (h % 32) (omega arith) (and_both (and_right (eqb (h / 32) k) (bit v (h % 32)) e) (eq-eqb (32 * k + h % 32) h (omega (arith, at))))

-- ---- words as they are held

-- a word that names a configured system interrupt, or none, may be held
pub held_entry : (systems word : ℕ) → (word ≢ none_word → word < systems) → entry_sound systems true (held_as word) ≡ true
unfolding entry_sound held_as pick
held_entry systems word small = go (ℕ_discrete word none_word)
  where
    go : Dec (word ≡ none_word) → leb (pick (eqb word none_word) 1 (word + 2)) (systems + 1) ≡ true
    go (yes e) = ap (λ (x : ℕ). leb x (systems + 1)) (sym (pick_true (word + 2) (eq-eqb word none_word e))) ∙ le-leb 1 (systems + 1) (omega arith)
    go (no d) = ap (λ (x : ℕ). leb x (systems + 1)) (sym (pick-false 1 (ne_eqb word none_word d))) ∙ le-leb (word + 2) (systems + 1) (omega (arith, small d))

-- an index that names a system interrupt names a configured one
pub index_below : (c : Cic) (every : Bool) (h : Host) → cic.sound c ≡ true → index_of c every h ≢ none_word → index_of c every h < c.systems
index_below c true h e d = ((index-promises.kept).global_names c h e d).0
index_below c false h e d = ((index-promises.kept).host_names c h e d).0.0

-- the word that is held names a configured system interrupt, or none
pub word_below : (systems x : ℕ) → entry_sound systems true x ≡ true → x ≢ 0 → word_held x ≢ none_word → word_held x < systems
unfolding entry_sound word_held pick
word_below systems x s z = go (ℕ_discrete x 1)
  where
    go : Dec (x ≡ 1) → pick (eqb x 1) none_word (x - 2) ≢ none_word → pick (eqb x 1) none_word (x - 2) < systems
    go (yes e) d = absurd (d (sym (pick_true (x - 2) (eq-eqb x 1 e))))
    go (no n) d =
        let e : pick (eqb x 1) none_word (x - 2) ≡ x - 2 = sym (pick-false none_word (ne_eqb x 1 n)) in
        omega (arith, e, leb-true x (systems + 1) s, z, n)

-- a word that is held is held again as it was
pub held_again : (systems x : ℕ) → systems ≤ 1024 → entry_sound systems true x ≡ true → x ≢ 0 → held_as (word_held x) ≡ x
unfolding entry_sound word_held held_as pick
held_again systems x few s z = go (ℕ_discrete x 1)
  where
    go : Dec (x ≡ 1) → pick (eqb (pick (eqb x 1) none_word (x - 2)) none_word) 1 (pick (eqb x 1) none_word (x - 2) + 2) ≡ x
    go (yes e) = ap (λ (w : ℕ). pick (eqb w none_word) 1 (w + 2)) (sym (pick_true (x - 2) (eq-eqb x 1 e))) ∙ sym e
    go (no n) =
        ap (λ (w : ℕ). pick (eqb w none_word) 1 (w + 2)) (sym (pick-false none_word (ne_eqb x 1 n)))
        ∙ sym (pick-false 1 (ne_eqb (x - 2) none_word (λ e. absurd (omega (arith, e, leb-true x (systems + 1) s, few))))) ∙ omega (arith, z, n)

-- ---- sound, part by part

-- what may be held for host k
abbrev pub host_entry : Cic → ℕ → ℕ → ℕ → Bool
host_entry c hold k x = entry_sound c.systems (ltb k c.hosts && eqb hold 1) x

pub record Parts (c : Cic) (h : Held) : Type 0 where
  pub choice : h.choice ≤ 1
  pub hold : h.hold ≤ h.choice
  pub global : entry_sound c.systems (eqb h.hold 1) h.global ≡ true
  pub hosts : all_below 256 (λ k. host_entry c h.hold k (get_or h.host k 0)) ≡ true

pub held-parts : (c : Cic) (h : Held) → held_sound c h ≡ true → Parts c h
unfolding held_sound
held-parts c h e =
    let g = entry_sound c.systems (eqb h.hold 1) h.global in
    let hs = all_below 256 (λ k. host_entry c h.hold k (get_or h.host k 0)) in
    let a = and_right (leb h.choice 1) (leb h.hold h.choice && (g && hs)) e in
    let b = and_right (leb h.hold h.choice) (g && hs) a in
    record {
      choice = leb-true h.choice 1 (and_left (leb h.choice 1) (leb h.hold h.choice && (g && hs)) e);
      hold = leb-true h.hold h.choice (and_left (leb h.hold h.choice) (g && hs) a);
      global = and_left g hs b;
      hosts = and_right g hs b;
    }

pub parts_held : (c : Cic) (h : Held) → Parts c h → held_sound c h ≡ true
unfolding held_sound
parts_held c h p = and_both (le-leb h.choice 1 p.choice) (and_both (le-leb h.hold h.choice p.hold) (and_both p.global p.hosts))

-- nothing may be held everywhere
pub nothing_entry : (systems : ℕ) (may : Bool) → entry_sound systems may 0 ≡ true
unfolding entry_sound
nothing_entry systems may = pick_cases (λ (b : Bool). b ≡ true) may (λ _. le-leb 0 (systems + 1) (omega arith)) (λ _. refl)

-- ---- one part put anew

pub global-kept : (c : Cic) (h : Held) (x : ℕ) → held_sound c h ≡ true → entry_sound c.systems (eqb h.hold 1) x ≡ true → held_sound c (with_global h x) ≡ true
global-kept c h x e n =
    let p = held-parts c h e in parts_held c (with_global h x) (record { choice = p.choice; hold = p.hold; global = n; hosts = p.hosts })

pub hosts-kept : (c : Cic) (h : Held) (xs : List ℕ) → held_sound c h ≡ true → all_below 256 (λ k. host_entry c h.hold k (get_or xs k 0)) ≡ true
    → held_sound c (with_hosts h xs) ≡ true
hosts-kept c h xs e n =
    let p = held-parts c h e in parts_held c (with_hosts h xs) (record { choice = p.choice; hold = p.hold; global = p.global; hosts = n })

-- the hold of one host
pub host-kept : (c : Cic) (h : Held) (k x : ℕ) → held_sound c h ≡ true → (k < 256 → host_entry c h.hold k x ≡ true) → held_sound c (with_hosts h (set h.host k x)) ≡ true
host-kept c h k x e n = hosts-kept c h (set h.host k x) e (all-put (host_entry c h.hold) 256 h.host k x (held-parts c h e).hosts n)

-- the holds of some hosts end
pub freed-kept : (c : Cic) (h : Held) (k v : ℕ) → held_sound c h ≡ true → held_sound c (with_hosts h (freed_hosts k v h.host)) ≡ true
freed-kept c h k v e =
    hosts-kept c h (freed_hosts k v h.host) e (at_all 256 (λ j. host_entry c h.hold j (get_or (freed_hosts k v h.host) j 0)) (λ j l. go j l))
  where
    go : (j : ℕ) → j < 256 → host_entry c h.hold j (get_or (freed_hosts k v h.host) j 0) ≡ true
    go j l =
        ap (host_entry c h.hold j) (freed_at k v h.host j)
        ∙ pick_cases (λ (x : ℕ). host_entry c h.hold j x ≡ true) (eqb (j / 32) k && bit v (j % 32)) (λ _. nothing_entry c.systems (ltb j c.hosts && eqb h.hold 1))
        (λ _. all_at 256 (λ i. host_entry c h.hold i (get_or h.host i 0)) (held-parts c h e).hosts j l)

-- nothing is held
pub nothing-kept : (c : Cic) (choice hold : ℕ) → choice ≤ 1 → hold ≤ choice → held_sound c (nothing_held choice hold) ≡ true
nothing-kept c choice hold a b =
    parts_held c (nothing_held choice hold) (record {
      choice = a;
      hold = b;
      global = nothing_entry c.systems (eqb hold 1);
      hosts = at_all 256 (λ k. host_entry c hold k (get_or (replicate 256 0) k 0)) (λ k l. ap (host_entry c hold k) (zeros_get_d 256 k) ∙ nothing_entry c.systems (ltb k c.hosts && eqb hold 1));
    })

-- the mode is put, where the choice is on
pub controlled-kept : (c : Cic) (h : Held) (v : ℕ) → held_sound c h ≡ true → h.choice ≡ 1 → held_sound c (controlled h v) ≡ true
unfolding controlled
controlled-kept c h v e on =
    let p = held-parts c h e in
    pick_cases (λ (x : Held). held_sound c x ≡ true) (bit v 4)
    (λ _. pick_cases (λ (x : Held). held_sound c x ≡ true) (eqb h.hold 1) (λ _. e) (λ _. nothing-kept c h.choice 1 p.choice (omega (arith, on))))
    (λ _. nothing-kept c h.choice 0 p.choice (omega arith))

-- only the numbers of systems and of hosts are asked of the CIC
pub counts-kept : (c d : Cic) (h : Held) → d.systems ≡ c.systems → d.hosts ≡ c.hosts → held_sound c h ≡ true → held_sound d h ≡ true
counts-kept c d h a b e =
    let p = held-parts c h e in
    parts_held d h (record {
      choice = p.choice;
      hold = p.hold;
      global = ap (λ (n : ℕ). entry_sound n (eqb h.hold 1) h.global) a ∙ p.global;
      hosts = ap₂ (λ (n m : ℕ). all_below 256 (λ k. entry_sound n (ltb k m && eqb h.hold 1) (get_or h.host k 0))) a b ∙ p.hosts;
    })
