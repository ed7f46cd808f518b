-- So many of the steps of a trace, and those that come after them.
use Prim.Native.Nat.{ℕ, zero, suc, ◌+◌, ◌≤◌, ◌<◌, min}
use mathlib.Core.Path.{◌≡◌, refl, sym, ap, ◌∙◌}
use mathlib.Core.Bool.{Bool}
use mathlib.Core.List.{List, [], ◌∷◌}
use native.Mathlib.Decide.{dec_lt}
use native.Mathlib.Omega.{arith}
use lib.ListN.{length, take, drop}
use lib.Seq.{take_all}
use borrow.Author.Tests.{ne_eqb}
use Rattle.steps.specs.Refusals.{carried_out, limit_reached}
use Rattle.steps.specs.declared.Recorded.{Recorded}
use Rattle.trace.specs.declared.Turn.{Turn}
use Rattle.trace.specs.declared.Turn.TheVariants.{Found, Ended}
use Rattle.trace.specs.Trace.{Trace, ends, go_on, turn_at, steps_from}
use Rattle.trace.proofs.TraceLaws.{turn_cases, trace-ended, steps_limited}

-- a turn asks only whether something is left
turn-left : (told : Bool) (s : List ℕ) (at a b : ℕ) → turn_at told s at (suc a) ≡ turn_at told s at (suc b)
unfolding turn_at
turn-left told s at a b = rw (ne_eqb (suc a) 0 (λ z. absurd (omega arith)), ne_eqb (suc b) 0 (λ z. absurd (omega arith)))

no-more : (xs : List Recorded) → length xs ≤ 0 → xs ≡ []
no-more [] l = refl
no-more (x ∷ xs) l = absurd (omega arith)

-- the first of them are those that a smaller limit leaves
pub steps-take : (told : Bool) (a limit : ℕ) (s : List ℕ) (at : ℕ) → a ≤ limit → take a (steps_from told limit s at).steps ≡ (steps_from told a s at).steps
unfolding steps_from
steps-take told zero limit s at l = sym (no-more _ (steps_limited told 0 s at))
steps-take told (suc a) zero s at l = absurd (omega arith)
steps-take told (suc a) (suc n) s at l =
    go (turn_at told s at (suc n)) (λ p. steps-take told a n s p (omega arith)) ∙ ap (λ (t : Turn). (go_on (steps_from told a s) t).steps) (turn-left told s at n a)
  where
    go : (t : Turn) → ((p : ℕ) → take a (steps_from told n s p).steps ≡ (steps_from told a s p).steps)
        → take (suc a) (go_on (steps_from told n s) t).steps ≡ (go_on (steps_from told a s) t).steps
    go (Found x p) h = ap (λ (r : List Recorded). x ∷ r) (h p)
    go (Ended n p) h = refl

-- past the end there is none
past_end : (told : Bool) (s : List ℕ) (at left : ℕ) → length s ≤ at → turn_at told s at left ≡ Ended carried_out (length s)
past_end told s at left l =
    turn_cases (λ (t : Turn). t ≡ Ended carried_out (length s)) told s at left (λ h. refl) (λ h z. absurd (omega arith)) (λ h z. absurd (omega arith))

-- where the limit is reached, the others stand from there on
pub steps-drop : (told : Bool) (k a limit : ℕ) (s : List ℕ) (at : ℕ) → limit ≡ a + k → length (steps_from told a s at).steps ≡ a
    → drop a (steps_from told limit s at).steps ≡ (steps_from told k s (steps_from told a s at).offset).steps
unfolding steps_from
steps-drop told k zero limit s at l e =
    let q : limit ≡ k = omega arith in
    rw q
    (turn_cases (λ (t : Turn). (steps_from told k s at).steps ≡ (steps_from told k s (go_on (ends limit_reached) t).offset).steps) told s at 0
    (λ h. ended at h ∙ sym (ended (length s) (omega arith)))
    (λ h z. refl)
    (λ h z. absurd (z refl)))
  where
    ended : (p : ℕ) → length s ≤ p → (steps_from told k s p).steps ≡ []
    ended p h = ap (λ (t : Trace). t.steps) (trace-ended told k s p carried_out (length s) (past_end told s p k h))
steps-drop told k (suc a) zero s at l e = absurd (omega arith)
steps-drop told k (suc a) (suc n) s at l e =
    ap (λ (t : Turn). drop (suc a) (go_on (steps_from told n s) t).steps) (turn-left told s at n a)
    ∙ go (turn_at told s at (suc a)) (λ p f. steps-drop told k a n s p (omega arith) f) e
  where
    go : (t : Turn)
        → ((p : ℕ) → length (steps_from told a s p).steps ≡ a → drop a (steps_from told n s p).steps ≡ (steps_from told k s (steps_from told a s p).offset).steps)
        → length (go_on (steps_from told a s) t).steps ≡ suc a
        → drop (suc a) (go_on (steps_from told n s) t).steps ≡ (steps_from told k s (go_on (steps_from told a s) t).offset).steps
    go (Found x p) h f = h p (omega arith)
    go (Ended n p) h f = absurd (omega arith)

-- at most so many of them, be that more than the limit
pub steps-most : (told : Bool) (b k : ℕ) (s : List ℕ) (at : ℕ) → take b (steps_from told k s at).steps ≡ (steps_from told (min b k) s at).steps
steps-most told b k s at = go (dec_lt b k)
  where
    go : Dec (b < k) → take b (steps_from told k s at).steps ≡ (steps_from told (min b k) s at).steps
    go (yes l) = let e : min b k ≡ b = omega arith in rw e (steps-take told b k s at (omega arith))
    go (no l) = let e : min b k ≡ k = omega arith in rw e (take_all b _ (omega (arith, steps_limited told k s at)))
