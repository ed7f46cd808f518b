-- The promises of the numbers, kept: a number has a fault and is refused, or it is good and is read.
use Prim.Native.Nat.{ℕ, ◌+◌, ◌-◌, ◌^◌, ◌<◌, ◌≤◌}
use mathlib.Core.Path.{◌≡◌, refl, sym, ap, ◌∙◌}
use mathlib.Core.List.{List, ◌++◌}
use mathlib.Core.Logic.{◌↔◌, ◌≢◌, ◌⊎◌, inl, inr, ⊎_elim}
use native.Mathlib.Omega.{arith}
use lib.ListN.{length, get_or}
use borrow.Author.Tests.{lt-ltb, le-ltb}
use Rattle.words.proofs.TruthLaws.{told as told-apart}
use Rattle.steps.specs.Refusals.{carried_out, damaged}
use Rattle.numbers.specs.Number.{Value, Refused, size_at, worth_at, faulty, number_at, Told, told}
use Rattle.numbers.specs.Promises.{told_at, Spans, Form, Damaged, group_of, padded, Promises}
use Rattle.numbers.proofs.FormLaws.{same-value, padded_form, padded-worth}
use Rattle.numbers.proofs.Examples.{three-groups}
use Rattle.numbers.proofs.NumberLaws.{Sized, sized, size_found, size_none, worth-none, worth-turn, Good, GoodAt, good_faultless, faultless, not-faulty, fault, missing, refused, read}

-- what a refused number tells
abbrev gone : ℕ → Told
gone at = record { refusal = damaged; value = 0; place = at }

-- what a number that is read tells
abbrev had : List ℕ → ℕ → Told
had s at = record { refusal = carried_out; value = worth_at s at (size_at s at); place = at + size_at s at }

-- a number is damaged and refused, or good and read
answer : (s : List ℕ) (at : ℕ) → (Damaged s at × (number_at s at ≡ Refused damaged at)) ⊎ (GoodAt s at × (number_at s at ≡ Value (worth_at s at (size_at s at)) (at + size_at s at)))
answer s at =
    ⊎_elim (λ e. inl (fault s at _ _ e, sym (refused s at _ _ (refl, refl) e))) (λ e. inr (faultless s at _ _ e, sym (read s at _ _ (refl, refl) e)))
    (told-apart (faulty s at (size_at s at) (worth_at s at (size_at s at))))

-- and tells so
outcome : (s : List ℕ) (at : ℕ) → (Damaged s at × (told_at s at ≡ gone at)) ⊎ (GoodAt s at × (told_at s at ≡ had s at))
outcome s at = ⊎_elim (λ h. inl (h.0, ap told h.1)) (λ h. inr (h.0, ap told h.1)) (answer s at)

apart : {A : Type 0} → ◌≡◌ {A = ℕ} carried_out damaged → A
apart e = absurd (let z : ◌≡◌ {A = ℕ} 0 8 = e in omega arith)

-- what a number that is not refused is
taken : (s : List ℕ) (at : ℕ) → (told_at s at).refusal ≡ carried_out → GoodAt s at × (told_at s at ≡ had s at)
taken s at e = ⊎_elim (λ h. apart (sym e ∙ ap (λ (t : Told). t.refusal) h.1)) (λ h. h) (outcome s at)

-- ---- bytes

size : (s : List ℕ) (at n : ℕ) → n ≤ 5 → (size_at s at ≡ n) ↔ Spans s at n
size s at n few = (spans (size_at s at) (sized s at), sizes)
  where
    spans : (m : ℕ) → Sized s at m → m ≡ n → Spans s at n
    spans m z e = (omega (arith, z.some), (λ k l. z.more k (omega arith), z.last (n - 1) (omega (arith, z.some)) (omega arith)))

    sizes : Spans s at n → size_at s at ≡ n
    sizes h =
        let e = size_found s at (n - 1) (omega arith) (λ j l. le-ltb (get_or s (at + j) 0) 128 (h.1.0 j (omega arith))) (lt-ltb (get_or s (at + (n - 1)) 0) 128 h.1.1) in
        omega (arith, h.0)

size-over : (s : List ℕ) (at : ℕ) → (size_at s at ≡ 6) ↔ ((k : ℕ) → k < 5 → 128 ≤ get_or s (at + k) 0)
size-over s at = (
  λ e k l. (sized s at).more k (omega arith),
  λ h. sym (size_none s at 5 (omega arith) (omega arith) (λ j l. le-ltb (get_or s (at + j) 0) 128 (h j l))),
)

-- ---- what is answered

eight : (s : List ℕ) (at : ℕ) → ((told_at s at).refusal ≡ damaged) ↔ Damaged s at
eight s at =
    ⊎_elim
    (λ h. (λ e. h.0, λ d. ap (λ (t : Told). t.refusal) h.1))
    (λ h. (λ e. apart (sym (ap (λ (t : Told). t.refusal) h.1) ∙ e), λ d. absurd (good_faultless s at _ _ h.0 d)))
    (outcome s at)

refused_so : (s : List ℕ) (at : ℕ) → (told_at s at).refusal ≢ carried_out → told_at s at ≡ gone at
refused_so s at n = ⊎_elim (λ h. h.1) (λ h. absurd (n (ap (λ (t : Told). t.refusal) h.1))) (outcome s at)

fits : (s : List ℕ) (at : ℕ) → (told_at s at).value < 2 ^ 32
fits s at = ⊎_elim (λ h. rw h.1 (omega arith)) (λ h. rw h.1 h.0.fits) (outcome s at)

next : (s : List ℕ) (at : ℕ) → (told_at s at).refusal ≡ carried_out → (at < (told_at s at).place) × ((told_at s at).place ≤ length s)
next s at e =
    let h = taken s at e in
    rw h.1 (omega (arith, (sized s at).some), h.0.within)

-- ---- forms of a value

any_form : (s : List ℕ) (at n : ℕ) → Form s at n → worth_at s at n < 2 ^ 32 → told_at s at ≡ record { refusal = carried_out; value = worth_at s at n; place = at + n }
any_form s at n f l =
    let g : Good s at n (worth_at s at n) = record { within = f.1.1; fits = l; short = f.1.0 } in
    ap told (sym (read s at n (worth_at s at n) (sym ((size s at n f.1.0).1 f.0), refl) (not-faulty s at n (worth_at s at n) g)))

same : (s t : List ℕ) (a b : ℕ) → (told_at s a).refusal ≡ carried_out → (told_at t b).refusal ≡ carried_out
    → ((told_at s a).value ≡ (told_at t b).value) ↔ ((k : ℕ) → k < 5 → group_of s a k ≡ group_of t b k)
same s t a b p q =
    let x = taken s a p in
    let y = taken t b q in
    rw (x.1, y.1) (same-value s t a b x.0.short y.0.short)

recorded : (before rest : List ℕ) (v : ℕ) → v < 2 ^ 32
    → told_at (before ++ (padded v ++ rest)) (length before) ≡ record { refusal = carried_out; value = v; place = length before + 5 }
recorded before rest v l =
    let e : worth_at (before ++ (padded v ++ rest)) (length before) 5 ≡ v = padded-worth before rest v l in
    any_form (before ++ (padded v ++ rest)) (length before) 5 (padded_form before rest v l) (rw e l)
    ∙ ap (λ (x : ℕ). record { refusal = carried_out; value = x; place = length before + 5 }) e

pub kept : Promises
kept =
    record {
      told_value = λ v next. refl;
      told_refused = λ n at. refl;
      size = size;
      size_over = size-over;
      size_most = λ s at. (sized s at).most;
      worth_none = λ s at. sym (worth-none s at);
      worth_more = λ s at n. sym (worth-turn s at n refl refl refl);
      answers = λ s at. ⊎_elim (λ h. inl h.1) (λ h. inr h.1) (answer s at);
      eight = eight;
      refused = refused_so;
      missing = λ s at h. ap told (sym (missing s at h));
      value = λ s at e. ap (λ (t : Told). t.value) (taken s at e).1;
      place = λ s at e. ap (λ (t : Told). t.place) (taken s at e).1;
      fits = fits;
      next = next;
      three_bytes = ap told three-groups;
      any_form = any_form;
      same_value = same;
      recorded = recorded;
    }
