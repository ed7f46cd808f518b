-- What the crates above need to know of the number at a place: it is refused by 8 where it begins, or it is read.
use Prim.Native.Nat.{ℕ, ◌+◌, ◌^◌, ◌<◌, ◌≤◌}
use mathlib.Core.Path.{◌≡◌, refl, sym, ap, ◌∙◌}
use mathlib.Core.List.{List}
use mathlib.Core.Bool.{false}
use mathlib.Core.Logic.{◌⊎◌, inl, inr, ⊎_elim}
use native.Mathlib.Omega.{arith}
use lib.ListN.{length}
use Rattle.words.proofs.TruthLaws.{told as told-apart}
use Rattle.steps.specs.Refusals.{carried_out, damaged}
use Rattle.numbers.specs.Number.{Number, Value, Refused, size_at, worth_at, faulty, number_at, told}
use Rattle.numbers.proofs.NumberLaws.{sized, Good, faultless, refused, read}

zero_eight : ◌≡◌ {A = ℕ} carried_out damaged → ⊥
zero_eight e = let z : ◌≡◌ {A = ℕ} 0 8 = e in omega arith

-- a number that was read
pub record IsRead (s : List ℕ) (at : ℕ) : Type 0 where
  pub value : ℕ
  pub next : ℕ
  pub is : number_at s at ≡ Value value next
  pub fits : value < 2 ^ 32
  pub beyond : at < next
  pub within : next ≤ length s

-- a number is refused by 8 where it begins, or it is read
pub number_is : (s : List ℕ) (at : ℕ) → (number_at s at ≡ Refused damaged at) ⊎ IsRead s at
number_is s at = ⊎_elim (λ e. inl (sym (refused s at n v (refl, refl) e))) (λ e. inr (good e (faultless s at n v e))) (told-apart (faulty s at n v))
  where
    n : ℕ
    n = size_at s at

    v : ℕ
    v = worth_at s at (size_at s at)

    good : faulty s at n v ≡ false → Good s at n v → IsRead s at
    good e g =
        record {
          value = v;
          next = at + n;
          is = sym (read s at n v (refl, refl) e);
          fits = g.fits;
          beyond = omega (arith, (sized s at).some);
          within = g.within;
        }

-- an answer that tells no refusal is a value, with the place and the value that it tells
pub told-read : (s : List ℕ) (at : ℕ) → (told (number_at s at)).refusal ≡ carried_out → number_at s at ≡ Value (told (number_at s at)).value (told (number_at s at)).place
told-read s at e =
    ⊎_elim
    (λ (h : number_at s at ≡ Refused damaged at). absurd (zero_eight (sym e ∙ ap (λ (x : Number). (told x).refusal) h)))
    (λ (r : IsRead s at). rw r.is)
    (number_is s at)

-- one that tells 8 is refused where it begins
pub told-damaged : (s : List ℕ) (at : ℕ) → (told (number_at s at)).refusal ≡ damaged → number_at s at ≡ Refused damaged at
told-damaged s at e =
    ⊎_elim
    (λ (h : number_at s at ≡ Refused damaged at). h)
    (λ (r : IsRead s at). absurd (zero_eight (sym (ap (λ (x : Number). (told x).refusal) r.is) ∙ e)))
    (number_is s at)

-- the place after a value is beyond it and within the trace
pub next_place : (s : List ℕ) (at v next : ℕ) → number_at s at ≡ Value v next → (at < next) × (next ≤ length s)
next_place s at v next e =
    ⊎_elim
    (λ (h : number_at s at ≡ Refused damaged at). absurd (zero_eight (sym (ap (λ (x : Number). (told x).refusal) e) ∙ ap (λ (x : Number). (told x).refusal) h)))
    (λ (r : IsRead s at).
    let q : r.next ≡ next = ap (λ (x : Number). (told x).place) (sym r.is ∙ e) in
    (omega (arith, r.beyond), omega (arith, r.within)))
    (number_is s at)
