-- The promises of typed numbers, kept.
use Prim.Native.Nat.{ℕ, zero, suc, ◌+◌, ◌-◌, ◌*◌, ◌<◌, ◌≤◌}
use mathlib.Core.Path.{◌≡◌, refl, sym, ◌∙◌}
use mathlib.Core.Bool.{Bool, true, false}
use mathlib.Core.List.{List, [], ◌∷◌}
use mathlib.Core.Logic.{◌≢◌}
use native.Mathlib.Omega.{arith}
use lib.ListN.{length, get_or}
use borrow.Author.Tests.{le-leb, lt-ltb}
use Rattle.words.specs.Choice.{pick}
use Rattle.words.proofs.ChoiceLaws.{pick_true}
use Rattle.words.proofs.TruthLaws.{and_both}
use Rattle.text.specs.Promises.{worth_after}
use Rattle.text.specs.Typed.{goes_on, typed_after, typed}
use Rattle.text.specs.ArgumentsPromises.{Promises}
use Rattle.text.proofs.TypedLaws.{digit_of}

worth-after : (v : ℕ) (s : List ℕ) → typed_after v s ≢ 0 → typed_after v s ≡ worth_after v s
unfolding typed_after worth_after pick
worth-after v [] d = refl
worth-after v (b ∷ bs) d = go (goes_on v b) d (worth-after (10 * v + (b - 48)) bs)
  where
    go : (t : Bool) → pick t (typed_after (10 * v + (b - 48)) bs) 0 ≢ 0
        → (typed_after (10 * v + (b - 48)) bs ≢ 0 → typed_after (10 * v + (b - 48)) bs ≡ worth_after (10 * v + (b - 48)) bs)
        → pick t (typed_after (10 * v + (b - 48)) bs) 0 ≡ worth_after (10 * v + (b - 48)) bs
    go true e ih = ih e
    go false e ih = absurd (e refl)

digits-after : (v : ℕ) (s : List ℕ) (k : ℕ) → typed_after v s ≢ 0 → k < length s → (48 ≤ get_or s k 0) × (get_or s k 0 ≤ 57)
unfolding typed_after pick
digits-after v [] k d h = absurd (omega arith)
digits-after v (b ∷ bs) k d h = go k h (goes_on v b) refl d (digits-after (10 * v + (b - 48)) bs)
  where
    go : (k : ℕ) → k < suc (length bs) → (t : Bool) → goes_on v b ≡ t → pick t (typed_after (10 * v + (b - 48)) bs) 0 ≢ 0
        → ((j : ℕ) → typed_after (10 * v + (b - 48)) bs ≢ 0 → j < length bs → (48 ≤ get_or bs j 0) × (get_or bs j 0 ≤ 57)) → (48 ≤ get_or (b ∷ bs) k 0) × (get_or (b ∷ bs) k 0 ≤ 57)
    go k l false e f ih = absurd (f refl)
    go zero l true e f ih = let x = digit_of v b e in (x.0, x.1)
    go (suc k) l true e f ih = ih k f (omega arith)

small-after : (v : ℕ) (s : List ℕ) → v < 1000000000 → typed_after v s < 1000000000
unfolding typed_after pick
small-after v [] h = h
small-after v (b ∷ bs) h = go (goes_on v b) refl (small-after (10 * v + (b - 48)) bs)
  where
    go : (t : Bool) → goes_on v b ≡ t → (10 * v + (b - 48) < 1000000000 → typed_after (10 * v + (b - 48)) bs < 1000000000)
        → pick t (typed_after (10 * v + (b - 48)) bs) 0 < 1000000000
    go true e ih = let x = digit_of v b e in ih (omega (arith, x.0, x.1, x.2))
    go false e ih = omega arith

-- more digits are not worth less
grows : (v : ℕ) (s : List ℕ) → v ≤ worth_after v s
unfolding worth_after
grows v [] = omega arith
grows v (b ∷ bs) = omega (arith, grows (10 * v + (b - 48)) bs)

read-after : (v : ℕ) (s : List ℕ) → ((k : ℕ) → k < length s → (48 ≤ get_or s k 0) × (get_or s k 0 ≤ 57)) → worth_after v s < 1000000000 → typed_after v s ≡ worth_after v s
unfolding typed_after worth_after
read-after v [] d h = refl
read-after v (b ∷ bs) d h =
    let x : (48 ≤ b) × (b ≤ 57) = d 0 (omega arith) in
    let few : v < 100000000 = omega (arith, grows (10 * v + (b - 48)) bs) in
    sym (pick_true 0 (and_both (and_both (le-leb 48 b x.0) (le-leb b 57 x.1)) (lt-ltb v 100000000 few)))
    ∙ read-after (10 * v + (b - 48)) bs (λ k l. d (suc k) (omega arith)) h

worked : (typed [] ≡ 0) × (typed (53 ∷ 48 ∷ 48 ∷ []) ≡ 500) × (typed (53 ∷ 120 ∷ []) ≡ 0)
unfolding typed typed_after pick
worked = (refl, refl, refl)

pub kept : Promises
unfolding typed
kept =
    record {
      worth = λ s d. worth-after 0 s d;
      digits = λ s k d h. digits-after 0 s k d h;
      small = λ s. small-after 0 s (omega arith);
      read = λ s d h. read-after 0 s d h;
      worked_none = worked.0;
      worked = worked.1;
      worked_bad = worked.2;
    }
