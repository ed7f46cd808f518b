-- The promises of waits added up are kept.
use Prim.Native.Nat.{ℕ, ◌+◌, ◌≤◌, ◌<◌}
use mathlib.Core.Path.{◌≡◌, refl, sym, ap, ◌∙◌}
use mathlib.Core.Bool.{Bool, true, false, not, ◌&&◌}
use mathlib.Core.List.{List, zip_with}
use mathlib.Core.Logic.{◌↔◌, ◌≢◌, ◌⊎◌, inl, inr}
use native.Mathlib.Omega.{arith}
use lib.Dec.{eqb}
use lib.ListN.{get_or, length}
use borrow.Author.Tests.{lt-ltb, le-ltb, eqb-true, eq-eqb, ne_eqb, not-true}
use Rattle.words.proofs.ArrayLaws.{zeros_get_d}
use Rattle.words.proofs.ChoiceLaws.{pick_true, pick-false}
use Rattle.words.proofs.TruthLaws.{and_left, and_right, and_both, told, clash, not-holds}
use Rattle.totals.proofs.TotalsLaws.{length-joined, get_d-joined}
use Rattle.totals.specs.declared.waits.Waits.{Waits}
use Rattle.totals.specs.declared.waits.Added.{Added}
use Rattle.totals.specs.Waits.{no_waits, bound_of, larger, newly, chosen, passes, together, added}
use Rattle.totals.specs.WaitsPromises.{Whole, Numbers, Terms, Passes, Promises}
use Rattle.totals.proofs.WaitLaws.{length-chosen, get_d-chosen, some-passes, passes-some}

empty : (i : ℕ) → Numbers no_waits i 0 0 0 × (bound_of no_waits i ≡ 0) × (get_or no_waits.first i 0 ≡ 0)
unfolding no_waits bound_of
empty i = let z = zeros_get_d 32 i in (record { begun = z; unended = z; unbounded = z }, omega (arith, z), z)

bound-is : (a : Waits) (i : ℕ) → bound_of a i
    ≡ get_or a.pending i 0 + get_or a.edges i 0 + get_or a.commands i 0 + get_or a.turns i 0 + get_or a.closed i 0 + get_or a.remembered i 0
unfolding bound_of
bound-is a i = refl

-- ---- 16

module _ (a b : Waits) where
  left_out_lem : passes a b ≡ true → added a b ≡ record { refusal = 16; waits = a }
  unfolding added
  left_out_lem e = sym (pick_true _ e)

  taken_in : passes a b ≡ false → added a b ≡ record { refusal = 0; waits = together a b }
  unfolding added
  taken_in e = sym (pick-false _ e)

  told_16 : (added a b).refusal ≡ 16 → passes a b ≡ true
  told_16 e = go (told (passes a b))
    where
      go : (passes a b ≡ true) ⊎ (passes a b ≡ false) → passes a b ≡ true
      go (inl h) = h
      go (inr h) = absurd (omega (arith, e, ap (λ (x : Added). x.refusal) (taken_in h)))

  told_0 : (added a b).refusal ≡ 0 → passes a b ≡ false
  told_0 e = not-holds (passes a b) (λ h. absurd (omega (arith, e, ap (λ (x : Added). x.refusal) (left_out_lem h))))

  sixteen : ((added a b).refusal ≡ 16) ↔ ((i : ℕ) × (i < 32) × Passes a b i)
  sixteen = ((λ e. some-passes a b (told_16 e)), (λ h. ap (λ (x : Added). x.refusal) (left_out_lem (passes-some a b h.0 h.1 h.2))))

  not-refused : (added a b).refusal ≢ 16 → (added a b).refusal ≡ 0
  not-refused n = ap (λ (x : Added). x.refusal) (taken_in (not-holds (passes a b) (λ h. n (ap (λ (x : Added). x.refusal) (left_out_lem h)))))

  left_out : (added a b).refusal ≡ 16 → (added a b).waits ≡ a
  left_out e = ap (λ (x : Added). x.waits) (left_out_lem (told_16 e))

  waits_are : (added a b).refusal ≡ 0 → (added a b).waits ≡ together a b
  waits_are e = ap (λ (x : Added). x.waits) (taken_in (told_0 e))

-- ---- source by source

-- one array of numbers joined, one of numbers chosen
joined : (a b : List ℕ) (i : ℕ) → length a ≡ 32 → length b ≡ 32 → i < 32 → get_or (zip_with ◌+◌ a b) i 0 ≡ get_or a i 0 + get_or b i 0
joined a b i la lb l = get_d-joined ◌+◌ a b i (omega (arith, la)) (omega (arith, lb))

module _ (p : ℕ → Bool) (a b : List ℕ) (la : length a ≡ 32) (lb : length b ≡ 32) where
  second : (i : ℕ) → i < 32 → p i ≡ true → get_or (chosen p a b) i 0 ≡ get_or b i 0
  second i l e = get_d-chosen p a b i (omega (arith, la)) (omega (arith, lb)) ∙ sym (pick_true _ e)

  first : (i : ℕ) → i < 32 → p i ≡ false → get_or (chosen p a b) i 0 ≡ get_or a i 0
  first i l e = get_d-chosen p a b i (omega (arith, la)) (omega (arith, lb)) ∙ sym (pick-false _ e)

  long : length (chosen p a b) ≡ 32
  long = length-chosen p 0 a b (la ∙ sym lb) ∙ la

  long-sums : length (zip_with ◌+◌ a b) ≡ 32
  long-sums = length-joined ◌+◌ a b (la ∙ sym lb) ∙ la

module _ (a b : Waits) (w : Whole a) (v : Whole b) where
  sums-together : (i : ℕ) → i < 32
      → Numbers (together a b) i (get_or a.begun i 0 + get_or b.begun i 0) (get_or a.unended i 0 + get_or b.unended i 0) (get_or a.unbounded i 0 + get_or b.unbounded i 0)
  unfolding together
  sums-together i l =
      record {
        begun = joined _ _ i w.begun v.begun l;
        unended = joined _ _ i w.unended v.unended l;
        unbounded = joined _ _ i w.unbounded v.unbounded l;
      }

  more-together : (i : ℕ) → i < 32 → larger a b i ≡ true → Terms (together a b) b i
  unfolding together
  more-together i l e =
      record {
        pending = second _ _ _ w.pending v.pending i l e;
        edges = second _ _ _ w.edges v.edges i l e;
        commands = second _ _ _ w.commands v.commands i l e;
        turns = second _ _ _ w.turns v.turns i l e;
        closed = second _ _ _ w.closed v.closed i l e;
        remembered = second _ _ _ w.remembered v.remembered i l e;
      }

  same-together : (i : ℕ) → i < 32 → larger a b i ≡ false → Terms (together a b) a i
  unfolding together
  same-together i l e =
      record {
        pending = first _ _ _ w.pending v.pending i l e;
        edges = first _ _ _ w.edges v.edges i l e;
        commands = first _ _ _ w.commands v.commands i l e;
        turns = first _ _ _ w.turns v.turns i l e;
        closed = first _ _ _ w.closed v.closed i l e;
        remembered = first _ _ _ w.remembered v.remembered i l e;
      }

  whole-together : Whole (together a b)
  unfolding together
  whole-together =
      record {
        begun = long-sums (newly a b) _ _ w.begun v.begun;
        unended = long-sums (newly a b) _ _ w.unended v.unended;
        unbounded = long-sums (newly a b) _ _ w.unbounded v.unbounded;
        first = long _ _ _ w.first v.first;
        pending = long _ _ _ w.pending v.pending;
        edges = long _ _ _ w.edges v.edges;
        commands = long _ _ _ w.commands v.commands;
        turns = long _ _ _ w.turns v.turns;
        closed = long _ _ _ w.closed v.closed;
        remembered = long _ _ _ w.remembered v.remembered;
      }

  is-larger : (i : ℕ) → bound_of a i < bound_of b i → larger a b i ≡ true
  unfolding larger
  is-larger i h = lt-ltb (bound_of a i) (bound_of b i) h

  not-larger : (i : ℕ) → bound_of b i ≤ bound_of a i → larger a b i ≡ false
  unfolding larger
  not-larger i h = le-ltb (bound_of a i) (bound_of b i) h

  first_stays : (i : ℕ) → i < 32 → get_or a.first i 0 ≢ 0 → get_or (together a b).first i 0 ≡ get_or a.first i 0
  unfolding together newly
  first_stays i l n = first (newly a b) _ _ w.first v.first i l (ap (λ (t : Bool). t && not (eqb (get_or b.first i 0) 0)) (ne_eqb (get_or a.first i 0) 0 n))

  first_comes : (i : ℕ) → i < 32 → get_or a.first i 0 ≡ 0 → get_or (together a b).first i 0 ≡ get_or b.first i 0
  unfolding together newly
  first_comes i l z = go (told (eqb (get_or b.first i 0) 0))
    where
      at_a : eqb (get_or a.first i 0) 0 ≡ true
      at_a = eq-eqb (get_or a.first i 0) 0 z

      go : (eqb (get_or b.first i 0) 0 ≡ true) ⊎ (eqb (get_or b.first i 0) 0 ≡ false) → get_or (together a b).first i 0 ≡ get_or b.first i 0
      go (inl h) = first (newly a b) _ _ w.first v.first i l (ap (λ (t : Bool). eqb (get_or a.first i 0) 0 && not t) h ∙ ap (λ (t : Bool). t && false) at_a)
          ∙ z ∙ sym (eqb-true (get_or b.first i 0) 0 h)
      go (inr h) = second (newly a b) _ _ w.first v.first i l (and_both at_a (ap not h))

newly-is : (a b : Waits) (i : ℕ) → (newly a b i ≡ true) ↔ ((get_or a.first i 0 ≡ 0) × (get_or b.first i 0 ≢ 0))
unfolding newly
newly-is a b i = (
  (λ e.
      let p = eqb (get_or a.first i 0) 0 in
      let q = eqb (get_or b.first i 0) 0 in
      (eqb-true (get_or a.first i 0) 0 (and_left p (not q) e), λ z. clash (eq-eqb (get_or b.first i 0) 0 z) (not-true q (and_right p (not q) e)))),
  (λ h. and_both (eq-eqb _ 0 h.0) (ap not (ne_eqb _ 0 h.1))),
)

module _ (a b : Waits) (w : Whole a) (v : Whole b) where
  lengths : Whole (added a b).waits
  lengths = go (told (passes a b))
    where
      go : (passes a b ≡ true) ⊎ (passes a b ≡ false) → Whole (added a b).waits
      go (inl h) = rw (ap (λ (x : Added). x.waits) (left_out_lem a b h)) w
      go (inr h) = rw (ap (λ (x : Added). x.waits) (taken_in a b h)) (whole-together a b w v)

pub kept : Promises
kept =
    record {
      empty = empty;
      bound_is = bound-is;
      sixteen = sixteen;
      not_refused = not-refused;
      left_out = left_out;
      sums = λ a b w v z i l. rw (waits_are a b z) (sums-together a b w v i l);
      more = λ a b w v z i l h. rw (waits_are a b z) (more-together a b w v i l (is-larger a b w v i h));
      not_more = λ a b w v z i l h. rw (waits_are a b z) (same-together a b w v i l (not-larger a b w v i h));
      first_stays = λ a b w v z i l n. rw (waits_are a b z) (first_stays a b w v i l n);
      first_comes = λ a b w v z i l n. rw (waits_are a b z) (first_comes a b w v i l n);
      newly_is = newly-is;
      lengths = lengths;
    }
