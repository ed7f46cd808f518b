-- What the CIC's own writes end: the hold of a host's index, and that of the global one.
use mathlib.Core.Bool.{true}
use mathlib.Core.Logic.{◌≢◌, ◌⊎◌, inl, inr}
use mathlib.Core.Path.{◌≡◌, refl, sym, ap, ◌∙◌}
use Prim.Native.Nat.{ℕ, ◌+◌, ◌-◌, ◌*◌, ◌/◌, ◌%◌, ◌^◌, ◌<◌, ◌≤◌}
use native.Mathlib.Decide.{dec_lt, ℕ_discrete}
use native.Mathlib.Nat.{mod-le}
use native.Mathlib.Omega.{arith}
use borrow.Author.Tests.{eq-eqb, ne_eqb, lt-ltb, le-ltb, ltb-true}
use lib.Dec.{ltb}
use lib.ListN.{get_or, set}
use Rattle.words.specs.Array.{rest_at}
use Rattle.words.specs.Choice.{pick}
use Rattle.words.specs.Word.{bit, kept}
use Rattle.words.proofs.ArrayLaws.{rest-ltb}
use Rattle.words.proofs.ChoiceLaws.{pick_true, pick-false}
use Rattle.words.proofs.TruthLaws.{and_left, and_right, and_both}
use Rattle.words.proofs.WordLaws.{bit_kept, bit-not-zero, some-bit}
use Rattle.cic_record.specs.declared.Cic.{Cic}
use Rattle.cic_held.specs.declared.Held.{Held}
use Rattle.cic_held.specs.Held.{with_global, with_hosts, freed_hosts}
use Rattle.cic_indexed.specs.Registers.{after_host, hosts_written, held_after}
use Rattle.cic_indexed.specs.Tables.{Changes}
use Rattle.cic_indexed.proofs.FreedLaws.{Decided, ended, stayed, set_here, set_other, freed}

-- the same of an entry that is known to be another's
pub decide_by : {E F : Type 0} {x y b : ℕ} → (E → F) → (F → E) → y ≡ x → Decided E x b → Decided F y b
decide_by f g e (ended a z) = ended (f a) (e ∙ z)
decide_by f g e (stayed a z) = stayed (λ b. a (g b)) (e ∙ z)

-- the host that is written by index
index_host : (x : Held) (n h : ℕ) → Decided (n ≡ h) (get_or (after_host x n).host h 0) (get_or x.host h 0)
index_host x n h = go (ℕ_discrete n h)
  where
    go : Dec (n ≡ h) → Decided (n ≡ h) (get_or (set x.host n 0) h 0) (get_or x.host h 0)
    go (yes e) = ended e (ap (λ (i : ℕ). get_or (set x.host n 0) i 0) (sym e) ∙ set_here x.host n)
    go (no d) = stayed d (set_other x.host n h (λ e. d (sym e)))

-- ---- the host enables: word k is written as v, w without the bits of none of the hosts

module _ (c : Cic) (x : Held) (k v : ℕ) where
  abbrev w : ℕ
  w = kept (rest_at c.hosts k) v

  -- a configured host's bit is kept, and no other
  bit_of : (j : ℕ) → bit v j ≡ true → 32 * k + j < c.hosts → bit w j ≡ true
  bit_of j b l = bit_kept (rest_at c.hosts k) v j ∙ and_both b (rest-ltb c.hosts k j ∙ lt-ltb (32 * k + j) c.hosts l)

  of-bit : (j : ℕ) → bit w j ≡ true → (bit v j ≡ true) × (32 * k + j < c.hosts)
  of-bit j b =
      let e = sym (bit_kept (rest_at c.hosts k) v j) ∙ b in
      (and_left (bit v j) (ltb j (rest_at c.hosts k)) e, ltb-true (32 * k + j) c.hosts (sym (rest-ltb c.hosts k j) ∙ and_right (bit v j) (ltb j (rest_at c.hosts k)) e))

  none_written : w ≡ 0 → hosts_written c x k v ≡ x
  unfolding hosts_written
  none_written z = sym (pick_true _ (eq-eqb w 0 z))

  some_written : w ≢ 0 → hosts_written c x k v ≡ with_global (with_hosts x (freed_hosts k w x.host)) 0
  unfolding hosts_written
  some_written d = sym (pick-false x (ne_eqb w 0 d))

  word_host : (h : ℕ) → h < c.hosts → Decided ((h / 32 ≡ k) × (bit v (h % 32) ≡ true)) (get_or (hosts_written c x k v).host h 0) (get_or x.host h 0)
  word_host h l = go (ℕ_discrete w 0)
    where
      here : (h / 32 ≡ k) × (bit v (h % 32) ≡ true) → bit w (h % 32) ≡ true
      here e = bit_of (h % 32) e.1 (omega (arith, e.0, l))

      go : Dec (w ≡ 0) → Decided ((h / 32 ≡ k) × (bit v (h % 32) ≡ true)) (get_or (hosts_written c x k v).host h 0) (get_or x.host h 0)
      go (yes z) = stayed (λ e. bit-not-zero w (h % 32) (here e) z) (ap (λ (y : Held). get_or y.host h 0) (none_written z))
      go (no d) =
          decide_by (λ e. (e.0, (of-bit (h % 32) e.1).0)) (λ e. (e.0, here e)) (ap (λ (y : Held). get_or y.host h 0) (some_written d)) (freed k w h x.host)

  small : v < 2 ^ 32 → w < 2 ^ 32
  unfolding kept
  small b = omega (arith, b, mod-le v (2 ^ rest_at c.hosts k))

  -- one of the hosts has its bit in the word that is left
  some_host : v < 2 ^ 32 → w ≢ 0 → (h : ℕ) × (h < c.hosts) × ((h / 32 ≡ k) × (bit v (h % 32) ≡ true))
  some_host b d = found (some-bit 32 w (small b) d)
    where
      found : (j : ℕ) × (j < 32) × (bit w j ≡ true) → (h : ℕ) × (h < c.hosts) × ((h / 32 ≡ k) × (bit v (h % 32) ≡ true))
      found (j, l, t) =
          let e : (32 * k + j) % 32 ≡ j = omega (arith, l) in
          let f : (32 * k + j) / 32 ≡ k = omega (arith, l) in
          (32 * k + j, (of-bit j t).1, (f, ap (bit v) e ∙ (of-bit j t).0))

  word_global : v < 2 ^ 32 → Decided ((h : ℕ) × (h < c.hosts) × ((h / 32 ≡ k) × (bit v (h % 32) ≡ true))) (hosts_written c x k v).global x.global
  word_global b = go (ℕ_discrete w 0)
    where
      go : Dec (w ≡ 0) → Decided ((h : ℕ) × (h < c.hosts) × ((h / 32 ≡ k) × (bit v (h % 32) ≡ true))) (hosts_written c x k v).global x.global
      go (yes z) =
          stayed (λ e. bit-not-zero w (e.0 % 32) (bit_of (e.0 % 32) e.2.1 (omega (arith, e.2.0, e.1))) z) (ap (λ (y : Held). y.global) (none_written z))
      go (no d) = ended (some_host b d) (ap (λ (y : Held). y.global) (some_written d))

-- ---- every write of the CIC's

-- the five kinds of offset
data Ends (o : ℕ) : Type 0 where
  set-by_index : o ≡ 0x034 → Ends o
  cleared-by_index : o ≡ 0x038 → Ends o
  enables : 0x1500 ≤ o → o < 0x1520 → Ends o
  nothing : o ≢ 0x034 → o ≢ 0x038 → (o < 0x1500) ⊎ (0x1520 ≤ o) → Ends o

ends : (o : ℕ) → Ends o
ends o = go (ℕ_discrete o 0x034) (ℕ_discrete o 0x038) (dec_lt o 0x1500) (dec_lt o 0x1520)
  where
    go : Dec (o ≡ 0x034) → Dec (o ≡ 0x038) → Dec (o < 0x1500) → Dec (o < 0x1520) → Ends o
    go (yes e) b c d = set-by_index e
    go (no a) (yes e) c d = cleared-by_index e
    go (no a) (no b) (yes l) d = nothing a b (inl l)
    go (no a) (no b) (no l) (yes m) = enables (omega (arith, l)) m
    go (no a) (no b) (no l) (no m) = nothing a b (inr (omega (arith, m)))

module _ (c : Cic) (x : Held) (o v : ℕ) where
  at_set : o ≡ 0x034 → held_after c x o v ≡ after_host x v
  unfolding held_after
  at_set e = sym (pick_true _ (eq-eqb o 0x034 e))

  at_clear : o ≡ 0x038 → held_after c x o v ≡ after_host x v
  unfolding held_after
  at_clear e = sym (pick-false _ (ne_eqb o 0x034 (λ f. omega (arith, e, f)))) ∙ sym (pick_true _ (eq-eqb o 0x038 e))

  at_enables : 0x1500 ≤ o → o < 0x1520 → held_after c x o v ≡ hosts_written c x ((o - 0x1500) / 4) v
  unfolding held_after
  at_enables l m =
      sym (pick-false _ (ne_eqb o 0x034 (λ f. omega (arith, l, f)))) ∙ sym (pick-false _ (ne_eqb o 0x038 (λ f. omega (arith, l, f))))
      ∙ sym (pick-false x (le-ltb o 0x1500 l)) ∙ sym (pick_true x (lt-ltb o 0x1520 m))

  at-nothing : o ≢ 0x034 → o ≢ 0x038 → (o < 0x1500) ⊎ (0x1520 ≤ o) → held_after c x o v ≡ x
  unfolding held_after
  at-nothing a b z = sym (pick-false _ (ne_eqb o 0x034 a)) ∙ sym (pick-false _ (ne_eqb o 0x038 b)) ∙ go z
    where
      go : (o < 0x1500) ⊎ (0x1520 ≤ o) → pick (ltb o 0x1500) x (pick (ltb o 0x1520) (hosts_written c x ((o - 0x1500) / 4) v) x) ≡ x
      go (inl l) = sym (pick_true _ (lt-ltb o 0x1500 l))
      go (inr l) = sym (pick-false x (le-ltb o 0x1500 (omega (arith, l)))) ∙ sym (pick-false _ (le-ltb o 0x1520 l))

  -- the offset of a host's enables is one of eight
  not_changed : (h : ℕ) → h < 256 → o ≢ 0x034 → o ≢ 0x038 → (o < 0x1500) ⊎ (0x1520 ≤ o) → Changes h o v → ⊥
  not_changed h l a b z (inl e) = a e.0
  not_changed h l a b z (inr (inl e)) = b e.0
  not_changed h l a b (inl m) (inr (inr e)) = omega (arith, m, e.0)
  not_changed h l a b (inr m) (inr (inr e)) = omega (arith, l, m, e.0)

  by-set : o ≡ 0x034 → (h : ℕ) → Changes h o v → v ≡ h
  by-set e h (inl f) = f.1
  by-set e h (inr (inl f)) = f.1
  by-set e h (inr (inr f)) = absurd (omega (arith, e, f.0))

  by-clear : o ≡ 0x038 → (h : ℕ) → Changes h o v → v ≡ h
  by-clear e h (inl f) = f.1
  by-clear e h (inr (inl f)) = f.1
  by-clear e h (inr (inr f)) = absurd (omega (arith, e, f.0))

  by_enables : 0x1500 ≤ o → (h : ℕ) → Changes h o v → (h / 32 ≡ (o - 0x1500) / 4) × (bit v (h % 32) ≡ true)
  by_enables l h (inl f) = absurd (omega (arith, l, f.0))
  by_enables l h (inr (inl f)) = absurd (omega (arith, l, f.0))
  by_enables l h (inr (inr f)) = (omega (arith, f.0), f.1)

  enables-by : 0x1500 ≤ o → o % 4 ≡ 0 → (h : ℕ) → (h / 32 ≡ (o - 0x1500) / 4) × (bit v (h % 32) ≡ true) → Changes h o v
  enables-by l four h f = inr (inr (omega (arith, l, four, f.0), f.1))

  -- the hold of host h ends exactly if the host is set or cleared
  pub host-after : (h : ℕ) → h < c.hosts → h < 256 → o % 4 ≡ 0 → Decided (Changes h o v) (get_or (held_after c x o v).host h 0) (get_or x.host h 0)
  host-after h l m four = go (ends o)
    where
      go : Ends o → Decided (Changes h o v) (get_or (held_after c x o v).host h 0) (get_or x.host h 0)
      go (set-by_index e) = decide_by (λ f. inl (e, f)) (by-set e h) (ap (λ (y : Held). get_or y.host h 0) (at_set e)) (index_host x v h)
      go (cleared-by_index e) = decide_by (λ f. inr (inl (e, f))) (by-clear e h) (ap (λ (y : Held). get_or y.host h 0) (at_clear e)) (index_host x v h)
      go (enables a b) =
          decide_by (enables-by a four h) (by_enables a h) (ap (λ (y : Held). get_or y.host h 0) (at_enables a b)) (word_host c x ((o - 0x1500) / 4) v h l)
      go (nothing a b z) = stayed (not_changed h m a b z) (ap (λ (y : Held). get_or y.host h 0) (at-nothing a b z))

  -- that of the global index exactly if some host is
  pub global-after : c.hosts ≤ 256 → v < 2 ^ 32 → o % 4 ≡ 0 → (o ≡ 0x034 → v < c.hosts) → (o ≡ 0x038 → v < c.hosts)
      → Decided ((h : ℕ) × (h < c.hosts) × Changes h o v) (held_after c x o v).global x.global
  global-after most b four s t = go (ends o)
    where
      go : Ends o → Decided ((h : ℕ) × (h < c.hosts) × Changes h o v) (held_after c x o v).global x.global
      go (set-by_index e) = ended (v, s e, inl (e, refl)) (ap (λ (y : Held). y.global) (at_set e))
      go (cleared-by_index e) = ended (v, t e, inr (inl (e, refl))) (ap (λ (y : Held). y.global) (at_clear e))
      go (enables l m) =
          decide_by (λ f. (f.0, f.1, enables-by l four f.0 f.2)) (λ f. (f.0, f.1, by_enables l f.0 f.2)) (ap (λ (y : Held). y.global) (at_enables l m))
          (word_global c x ((o - 0x1500) / 4) v b)
      go (nothing l m z) = stayed (λ f. not_changed f.0 (omega (arith, most, f.1)) l m z f.2) (ap (λ (y : Held). y.global) (at-nothing l m z))

  -- where no host is, all stays
  pub none_after : v < 2 ^ 32 → o % 4 ≡ 0 → (o ≡ 0x034 → v < c.hosts) → (o ≡ 0x038 → v < c.hosts) → ((h : ℕ) → h < c.hosts → Changes h o v → ⊥)
      → held_after c x o v ≡ x
  none_after b four s t none = go (ends o)
    where
      k : ℕ
      k = (o - 0x1500) / 4

      in_word : 0x1500 ≤ o → Dec (kept (rest_at c.hosts k) v ≡ 0) → hosts_written c x k v ≡ x
      in_word l (yes z) = none_written c x k v z
      in_word l (no d) = let f = some_host c x k v b d in absurd (none f.0 f.1 (enables-by l four f.0 f.2))

      go : Ends o → held_after c x o v ≡ x
      go (set-by_index e) = absurd (none v (s e) (inl (e, refl)))
      go (cleared-by_index e) = absurd (none v (t e) (inr (inl (e, refl))))
      go (enables l m) = at_enables l m ∙ in_word l (ℕ_discrete (kept (rest_at c.hosts k) v) 0)
      go (nothing l m z) = at-nothing l m z
