-- When a table is refused, what the figure of a level is, and that bit 0 of the forced word plays no part.
use Prim.Native.Nat.{ℕ, zero, suc, ◌+◌, ◌≤◌, ◌<◌}
use mathlib.Core.Path.{◌≡◌, refl, sym, ap}
use mathlib.Core.Bool.{Bool, true, false, not, ◌&&◌}
use mathlib.Core.Logic.{◌↔◌, ◌≢◌, ◌⊎◌, inl, inr}
use native.Mathlib.Omega.{arith}
use native.Mathlib.Decide.{ℕ_discrete}
use lib.Dec.{eqb, leb}
use lib.ListN.{get_or}
use borrow.Author.Tests.{eq-eqb, ne_eqb, eqb-false, leb-false, not-true}
use Rattle.words.specs.Choice.{pick}
use Rattle.words.specs.Counting.{all_below, sum_below}
use Rattle.words.specs.Word.{bit}
use Rattle.words.proofs.TruthLaws.{and_left, and_right, and_both, and_parts, clash, not-holds, told}
use Rattle.words.proofs.CountingLaws.{all_same}
use Rattle.steps.specs.Refusals.{carried_out, oversized}
use Rattle.stack.specs.declared.Table.{Table}
use Rattle.stack.specs.declared.Needed.{Needed}
use Rattle.stack.specs.Bytes.{normal, is_of, taller, largest, level_bytes, stack_bytes, source_within, within_limits, needed}
use Rattle.stack.specs.Promises.{Beyond, NormalOf, Alike}
use Rattle.stack.proofs.SumLaws.{mark_small, level_small, kind_small, frame_small, sum_small}
use Rattle.stack.proofs.BoundLaws.{mark-fits, frame-fits}
use Rattle.stack.proofs.ClimbLaws.{Filler, filled, sum_same}

-- ---- the refusal

some_fails : (n : ℕ) (p : ℕ → Bool) → all_below n p ≡ false → (k : ℕ) × (k < n) × (p k ≡ false)
unfolding all_below
some_fails zero p h = clash refl h
some_fails (suc n) p h = go (told (all_below n p)) (told (p n)) (some_fails n p)
  where
    go : (all_below n p ≡ true) ⊎ (all_below n p ≡ false) → (p n ≡ true) ⊎ (p n ≡ false) → (all_below n p ≡ false → (k : ℕ) × (k < n) × (p k ≡ false))
        → (k : ℕ) × (k < suc n) × (p k ≡ false)
    go a (inr z) ih = (n, omega arith, z)
    go (inr e) (inl z) ih = let (k, l, q) = ih e in (k, omega arith, q)
    go (inl e) (inl z) ih = clash (and_both e z) h

beyond-not : (t : Table) → Beyond t → within_limits t ≡ false
beyond-not t b = not-holds (within_limits t) (λ h. go h b)
  where
    go : within_limits t ≡ true → Beyond t → ⊥
    go h (inl m) = omega (arith, mark_small t h)
    go h (inr (i, l, inl p)) = omega (arith, level_small t h i l)
    go h (inr (i, l, inr (inl k))) = omega (arith, kind_small t h i l)
    go h (inr (i, l, inr (inr f))) = omega (arith, frame_small t h i l)

not_beyond : (t : Table) → within_limits t ≡ false → Beyond t
unfolding within_limits source_within
not_beyond t h = go (told (leb t.mark 65535))
  where
    row : (i : ℕ) → i < 32 → source_within t i ≡ false → Beyond t
    row i l z = by (told (leb (get_or t.priority i 0) 7)) (told (leb (get_or t.kind i 0) 3)) (told (leb (get_or t.frame i 0) 65535))
      where
        by : (leb (get_or t.priority i 0) 7 ≡ true) ⊎ (leb (get_or t.priority i 0) 7 ≡ false) → (leb (get_or t.kind i 0) 3 ≡ true) ⊎ (leb (get_or t.kind i 0) 3 ≡ false)
            → (leb (get_or t.frame i 0) 65535 ≡ true) ⊎ (leb (get_or t.frame i 0) 65535 ≡ false) → Beyond t
        by (inr p) k f = inr (i, l, inl (leb-false (get_or t.priority i 0) 7 p))
        by (inl p) (inr k) f = inr (i, l, inr (inl (leb-false (get_or t.kind i 0) 3 k)))
        by (inl p) (inl k) (inr f) = inr (i, l, inr (inr (leb-false (get_or t.frame i 0) 65535 f)))
        by (inl p) (inl k) (inl f) = clash (unfold source_within in (and_both (and_both p k) f)) z

    go : (leb t.mark 65535 ≡ true) ⊎ (leb t.mark 65535 ≡ false) → Beyond t
    go (inr m) = inl (leb-false t.mark 65535 m)
    go (inl m) = all (told (all_below 32 (source_within t)))
      where
        all : (all_below 32 (source_within t) ≡ true) ⊎ (all_below 32 (source_within t) ≡ false) → Beyond t
        all (inl a) = clash (unfold within_limits in (and_both m a)) h
        all (inr a) = let (i, l, z) = some_fails 32 (source_within t) a in row i l z

pub beyond_or : (t : Table) → Beyond t ⊎ (Beyond t → ⊥)
beyond_or t = go (told (within_limits t))
  where
    go : (within_limits t ≡ true) ⊎ (within_limits t ≡ false) → Beyond t ⊎ (Beyond t → ⊥)
    go (inl h) = inr (λ b. clash h (beyond-not t b))
    go (inr h) = inl (not_beyond t h)

needed-none : (t : Table) → within_limits t ≡ false → needed t ≡ record { refusal = oversized; bytes = 0 }
unfolding needed pick
needed-none t h = rw h

pub needed-beyond : (t : Table) → Beyond t → needed t ≡ record { refusal = oversized; bytes = 0 }
needed-beyond t b = needed-none t (beyond-not t b)

needed-some : (t : Table) → within_limits t ≡ true → needed t ≡ record { refusal = carried_out; bytes = stack_bytes t }
unfolding needed pick
needed-some t h = rw h

pub refused-is : (t : Table) → ((needed t).refusal ≡ oversized) ↔ Beyond t
refused-is t = (λ e. go e (told (within_limits t)), λ b. rw (needed-beyond t b))
  where
    go : (needed t).refusal ≡ oversized → (within_limits t ≡ true) ⊎ (within_limits t ≡ false) → Beyond t
    go e (inl h) = absurd (omega (arith, e, ap (λ (n : Needed). n.refusal) (needed-some t h)))
    go e (inr h) = not_beyond t h

pub refused_none : (t : Table) → (needed t).refusal ≢ carried_out → needed t ≡ record { refusal = oversized; bytes = 0 }
refused_none t d = go (told (within_limits t))
  where
    go : (within_limits t ≡ true) ⊎ (within_limits t ≡ false) → needed t ≡ record { refusal = oversized; bytes = 0 }
    go (inl h) = absurd (d (ap (λ (n : Needed). n.refusal) (needed-some t h)))
    go (inr h) = needed-none t h

pub within-not : (t : Table) → (Beyond t → ⊥) → within_limits t ≡ true
within-not t n = go (told (within_limits t))
  where
    go : (within_limits t ≡ true) ⊎ (within_limits t ≡ false) → within_limits t ≡ true
    go (inl h) = h
    go (inr h) = absurd (n (not_beyond t h))

pub answered-is : (t : Table) → (Beyond t → ⊥) → needed t ≡ record { refusal = carried_out; bytes = stack_bytes t }
answered-is t n = needed-some t (within-not t n)

pub summed : (t : Table) → stack_bytes t
    ≡ level_bytes t 0 + level_bytes t 1 + level_bytes t 2 + level_bytes t 3 + level_bytes t 4 + level_bytes t 5 + level_bytes t 6 + level_bytes t 7
unfolding stack_bytes sum_below
summed t = omega arith

pub most : (t : Table) → (Beyond t → ⊥) → stack_bytes t ≤ 524280
unfolding stack_bytes
most t n = omega (arith, sum_small t (within-not t n) 8)

-- ---- the figure of a level

pub level-mark : (t : Table) (l : ℕ) → t.mark ≤ level_bytes t l
unfolding level_bytes
level-mark t l = mark-fits t l 32

is_normal : (t : Table) (i : ℕ) → 1 ≤ i → bit t.forced i ≡ false → normal t i ≡ true
unfolding normal
is_normal t i p f = rw (ne_eqb i 0 (λ z. omega arith), f)

normal-is : (t : Table) (i : ℕ) → normal t i ≡ true → (1 ≤ i) × (bit t.forced i ≡ false)
unfolding normal
normal-is t i h =
    let d : i ≢ 0 = eqb-false i 0 (not-true (eqb i 0) (and_left (not (eqb i 0)) _ h)) in
    (omega arith, not-true (bit t.forced i) (and_right (not (eqb i 0)) _ h))

pub level-frame : (t : Table) (l i : ℕ) → NormalOf t l i → get_or t.frame i 0 ≤ level_bytes t l
unfolding level_bytes
level-frame t l i (p, m, f, e) = frame-fits t l 32 i m (is_normal t i p f) e

pub level-met : (t : Table) (l : ℕ) → (level_bytes t l ≡ t.mark) ⊎ ((i : ℕ) × NormalOf t l i × (level_bytes t l ≡ get_or t.frame i 0))
unfolding level_bytes
level-met t l = go (filled t l 32)
  where
    go : (largest t l 32 ≡ t.mark) ⊎ Filler t l 32 → (largest t l 32 ≡ t.mark) ⊎ ((i : ℕ) × NormalOf t l i × (largest t l 32 ≡ get_or t.frame i 0))
    go (inl e) = inl e
    go (inr f) = let n = normal-is t f.who f.fine in inr (f.who, (n.0, f.below, n.1, f.there), sym f.whole)

-- ---- bit 0 of the forced word

module _ (t u : Table) (a : Alike t u) where
  normal-same : (i : ℕ) → i < 32 → normal t i ≡ normal u i
  unfolding normal
  normal-same i l = go (ℕ_discrete i 0)
    where
      go : Dec (i ≡ 0) → (not (eqb i 0) && not (bit t.forced i)) ≡ (not (eqb i 0) && not (bit u.forced i))
      go (yes e) = rw (eq-eqb i 0 e)
      go (no d) = rw (a.forced i (omega arith) l)

  largest-same : (l n : ℕ) → n ≤ 32 → largest t l n ≡ largest u l n
  unfolding largest taller is_of
  largest-same l zero h = a.mark
  largest-same l (suc n) h = rw (largest-same l n (omega arith), normal-same n (omega arith), a.priority, a.frame)

  bytes_same : stack_bytes t ≡ stack_bytes u
  unfolding stack_bytes level_bytes
  bytes_same = sum_same 8 (λ l. largest t l 32) (λ l. largest u l 32) (λ l m. largest-same l 32 (omega arith))

  limits-same : within_limits t ≡ within_limits u
  unfolding within_limits
  limits-same =
      and_parts (ap (λ (m : ℕ). leb m 65535) a.mark) (all_same 32 (source_within t) (source_within u) (λ i l. unfold source_within in (rw (a.priority, a.kind, a.frame))))

  pub bit_nought : needed t ≡ needed u
  unfolding needed
  bit_nought = rw (limits-same, bytes_same)
