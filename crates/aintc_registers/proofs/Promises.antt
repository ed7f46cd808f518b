-- The promises of the inputs, kept.
use Prim.Native.Nat.{ℕ, ◌+◌, ◌*◌, ◌%◌, ◌<◌, ◌≤◌}
use mathlib.Core.Path.{◌≡◌, refl, sym, ap, ap₂, ◌∙◌}
use mathlib.Core.Bool.{Bool, true, false, not, ◌&&◌, ◌||◌, and-false}
use mathlib.Core.List.{List}
use mathlib.Core.Logic.{◌↔◌, ◌⊎◌, inl, inr, ⊎_elim}
use native.Mathlib.Omega.{arith}
use lib.Dec.{eqb, ltb}
use borrow.Author.Tests.{eqb-true, eq-eqb, ltb-true, lt-ltb, not-true}
use Rattle.words.specs.Array.{bit_at}
use Rattle.words.specs.Choice.{pick}
use Rattle.words.specs.Counting.{one}
use Rattle.words.proofs.ArrayLaws.{zeros-bit_at}
use Rattle.words.proofs.TruthLaws.{and_left, and_right, and_both, or-either, or_left, or_right, clash, same_test, told}
use Rattle.words.proofs.WordLaws.{word_of_lt, bit-word_of}
use Rattle.aintc_record.specs.declared.Aintc.{Aintc}
use Rattle.aintc_record.specs.declared.Chosen.{Chosen}
use Rattle.aintc_record.specs.Bounds.{bounded}
use Rattle.aintc_record.specs.Record.{side, with_threshold, chosen_at, reset, blank}
use Rattle.aintc_record.specs.Route.{route_at, priority, routed}
use Rattle.aintc_record.proofs.Promises as record-promises
use Rattle.aintc_record.proofs.RecordLaws.{bounded-is, is-bounded, priority-fits}
use Rattle.aintc_registers.specs.Inputs.{raised, unmasked, pending, passes, eligible, pending_word}
use Rattle.aintc_registers.specs.Order.{some}
use Rattle.aintc_registers.specs.Promises.{SomeEligible, NoneEligible, First, Rules, Promises}
use Rattle.aintc_registers.specs.Settle.{settled_side, settle, side_quiet, sound}
use Rattle.aintc_registers.proofs.OrderLaws.{before-is, is-before, before_irreflexive, before_transitive, before_total, first_one, first-none}
use Rattle.aintc_registers.proofs.SettleLaws.{is_some, some_is, is_none, none_is, first-is, below-some, settled-held, settled-first, settled-none, side_settled, eligible-free, settled-sound, settled_same}

raised_is : (s : Aintc) (k : ℕ) → (raised s k ≡ true) ↔ ((bit_at s.lines k ≡ true) ⊎ (bit_at s.soft k ≡ true))
unfolding raised
raised_is s k = (or-either (bit_at s.lines k) (bit_at s.soft k), ⊎_elim (or_left (bit_at s.soft k)) (or_right (bit_at s.lines k)))

pending-is : (s : Aintc) (f : Bool) (k : ℕ)
    → (pending s f k ≡ true) ↔ ((raised s k ≡ true) × (bit_at s.masks k ≡ false) × (route_at s k % 2 ≡ one f))
unfolding pending unmasked routed
pending-is s f k = (
  λ h. let u = and_left (raised s k && not (bit_at s.masks k)) _ h in
      (and_left (raised s k) _ u, not-true (bit_at s.masks k) (and_right (raised s k) _ u), eqb-true (route_at s k % 2) (one f) (and_right (raised s k && not (bit_at s.masks k)) _ h)),
  λ (r, m, e). and_both (and_both r (ap not m)) (eq-eqb (route_at s k % 2) (one f) e),
)

passes-is : (s : Aintc) (p : ℕ) → (passes s p ≡ true) ↔ ((p ≡ 0) ⊎ (p < s.threshold))
unfolding passes
passes-is s p = (
  λ h. ⊎_elim (λ (e : eqb p 0 ≡ true). inl (eqb-true p 0 e)) (λ (e : ltb p s.threshold ≡ true). inr (ltb-true p s.threshold e)) (or-either (eqb p 0) (ltb p s.threshold) h),
  ⊎_elim (λ (e : p ≡ 0). or_left (ltb p s.threshold) (eq-eqb p 0 e)) (λ (l : p < s.threshold). or_right (eqb p 0) (lt-ltb p s.threshold l)),
)

-- with a threshold of 0 or 1 priority 0 alone passes
zero-only : (p t : ℕ) → t ≤ 1 → (p ≡ 0) ⊎ (p < t) → p ≡ 0
zero-only p t l (inl e) = e
zero-only p t l (inr q) = omega arith

threshold-zero : (s : Aintc) (p : ℕ) → passes (with_threshold s 0) p ≡ passes (with_threshold s 1) p
threshold-zero s p =
    same_test (passes (with_threshold s 0) p) (passes (with_threshold s 1) p)
    (λ h. (passes-is (with_threshold s 1) p).1 (inl (zero-only p 0 (omega arith) ((passes-is (with_threshold s 0) p).0 h))))
    (λ h. (passes-is (with_threshold s 0) p).1 (inl (zero-only p 1 (omega arith) ((passes-is (with_threshold s 1) p).0 h))))

threshold-off : (s : Aintc) (k : ℕ) → 128 ≤ s.threshold → passes s (priority s k) ≡ true
threshold-off s k l = (passes-is s (priority s k)).1 (inr (omega (arith, priority-fits s k)))

settled-take : (s : Aintc) (f : Bool) (k : ℕ) → (side s f).active ≡ false → First s f k → side (settle s) f ≡ chosen_at k (priority s k)
settled-take s f k e x =
    side_settled s f ∙ sym (settled-first s f e (is_some s f (k, x.within, x.fit))) ∙ ap (λ (j : ℕ). chosen_at j (priority s j)) (first_one s f k x)

settled-active : (s : Aintc) (f : Bool) → (side s f).active ≡ false → ((side (settle s) f).active ≡ true) ↔ SomeEligible s f
settled-active s f e = (
  λ h. go h (told (some s f)),
  λ x. ap (λ (c : Chosen). c.active) (side_settled s f ∙ sym (settled-first s f e (is_some s f x))),
)
  where
    go : (side (settle s) f).active ≡ true → (some s f ≡ true) ⊎ (some s f ≡ false) → SomeEligible s f
    go h (inl t) = some_is s f t
    go h (inr t) = clash h (ap (λ (c : Chosen). c.active) (side_settled s f ∙ sym (settled-none s f t)) ∙ e)

sound-is : (s : Aintc) → sound s ≡ true → Rules s
unfolding sound side_quiet side pick
sound-is s h =
    let b = bounded-is s (and_left (bounded s) _ (and_left _ (side_quiet s true) h)) in
    record {
      irq = b.0;
      fiq = b.1;
      irq_quiet = quiet false s.irq.active (and_right (bounded s) _ (and_left _ (side_quiet s true) h));
      fiq_quiet = quiet true s.fiq.active (and_right (bounded s && side_quiet s false) _ h);
    }
  where
    quiet : (f t : Bool) → (t || not (some s f)) ≡ true → t ≡ false → NoneEligible s f
    quiet f t q e = none_is s f (⊎_elim (λ (x : t ≡ true). clash x e) (λ (x : not (some s f) ≡ true). not-true (some s f) x) (or-either t (not (some s f)) q))

is-sound : (s : Aintc) → Rules s → sound s ≡ true
unfolding sound side_quiet side pick
is-sound s r = and_both (and_both (is-bounded s (r.irq, r.fiq)) (quiet false s.irq.active r.irq_quiet)) (quiet true s.fiq.active r.fiq_quiet)
  where
    quiet : (f t : Bool) → (t ≡ false → NoneEligible s f) → (t || not (some s f)) ≡ true
    quiet f true h = refl
    quiet f false h = ap not (is_none s f (h refl))

-- a masked input is not eligible, and one that is not raised is not
masked_out : (s : Aintc) (f : Bool) (k : ℕ) → bit_at s.masks k ≡ true → eligible s f k ≡ false
unfolding eligible pending unmasked
masked_out s f k e = rw (e, and-false (raised s k)) refl

idle_out : (s : Aintc) (f : Bool) (k : ℕ) → raised s k ≡ false → eligible s f k ≡ false
unfolding eligible pending unmasked
idle_out s f k e = rw e refl

reset-masked : (ws : List ℕ) (f : Bool) → NoneEligible (reset ws) f
reset-masked ws f k l = masked_out (reset ws) f k (((record-promises.kept).reset_fresh ws).masks k l)

reset-sound : (ws : List ℕ) → sound (reset ws) ≡ true
reset-sound ws =
    let b = bounded-is (reset ws) ((record-promises.kept).reset_bounded ws) in
    is-sound (reset ws) (record { irq = b.0; fiq = b.1; irq_quiet = λ _. reset-masked ws false; fiq_quiet = λ _. reset-masked ws true })

blank-idle : (f : Bool) → NoneEligible blank f
unfolding blank raised
blank-idle f k l = idle_out blank f k (ap₂ ◌||◌ (zeros-bit_at 4 k) (zeros-bit_at 4 k))

blank-sound : sound blank ≡ true
blank-sound =
    let b = bounded-is blank (record-promises.kept).blank_bounded in
    is-sound blank (record { irq = b.0; fiq = b.1; irq_quiet = λ _. blank-idle false; fiq_quiet = λ _. blank-idle true })

pub kept : Promises
unfolding pending_word
kept =
    record {
      raised_is = raised_is;
      pending_is = pending-is;
      passes_is = passes-is;
      eligible_is = λ s f k. unfold eligible in (
        λ h. (and_left (pending s f k) _ h, and_right (pending s f k) _ h),
        λ (p, q). and_both p q,
      );
      pending_bit = λ s f n i l. bit-word_of 32 (λ j. pending s f (32 * n + j)) i l;
      pending_below = λ s f n. word_of_lt 32 (λ j. pending s f (32 * n + j));
      pending_free = λ s t f k. unfold pending unmasked raised routed in refl;
      before_is = λ s a b. (before-is s a b, is-before s a b);
      before_never = before_irreflexive;
      before_through = before_transitive;
      before_either = before_total;
      threshold_zero = threshold-zero;
      threshold_off = threshold-off;
      first_some = λ s f. (λ l. some_is s f (below-some s f l), λ x. (first-is s f (is_some s f x)).within);
      first_is = λ s f x. first-is s f (is_some s f x);
      first_one = first_one;
      first_none = first-none;
      settled_rest = λ s. unfold settle side pick in refl;
      settled_held = λ s f e. side_settled s f ∙ sym (settled-held s f e);
      settled_first = settled-take;
      settled_none = λ s f h. side_settled s f ∙ sym (settled-none s f (is_none s f h));
      settled_active = settled-active;
      eligible_free = λ s f k. unfold settle in (eligible-free s (settled_side s false) (settled_side s true) f k);
      sound_is = λ s. (sound-is s, is-sound s);
      settled_sound = settled-sound;
      settled_same = settled_same;
      reset_sound = reset-sound;
      blank_sound = blank-sound;
    }
