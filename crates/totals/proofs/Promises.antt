-- The promises of totals are kept: 16 by the 32 sums, and the order of the traces makes no difference.
use Prim.Native.Nat.{ℕ, ◌+◌, ◌≤◌, ◌<◌, max}
use mathlib.Core.Path.{◌≡◌, refl, sym, ap, ◌∙◌}
use mathlib.Core.Bool.{Bool, true, false, not}
use mathlib.Core.List.{List, [], ◌∷◌, zip_with}
use mathlib.Core.Logic.{◌↔◌, ◌⊎◌, inl, inr}
use native.Mathlib.Omega.{arith}
use lib.Dec.{ltb}
use lib.ListN.{get_or, length}
use borrow.Author.Tests.{lt-ltb, ltb-true, not-true}
use Rattle.words.specs.Choice.{pick}
use Rattle.words.specs.Counting.{any_below}
use Rattle.words.proofs.ArrayLaws.{zeros_get_d}
use Rattle.words.proofs.ChoiceLaws.{pick_true, pick-false}
use Rattle.words.proofs.CountingLaws.{any_some, some_any}
use Rattle.words.proofs.TruthLaws.{and_left, and_right, and_both, told, not-holds}
use Rattle.totals.specs.declared.Totals.{Totals}
use Rattle.totals.specs.declared.Added.{Added}
use Rattle.totals.specs.Totals.{zeros, passes, together, added, added_all, all_in, Reordered, none, keep, swap, then}
use Rattle.totals.specs.Worked.{only}
use Rattle.totals.specs.Promises.{Whole, Within, EachWhole, one, Source, Promises}
use Rattle.totals.proofs.TotalsLaws.{length-joined, get_d-joined, fit_at}

-- ---- one trace more

module _ (t f : Totals) where
  left_out_lem : passes t.started f.started ≡ true → added t f ≡ record { refusal = 16; totals = t }
  unfolding added
  left_out_lem e = sym (pick_true _ e)

  taken_in : passes t.started f.started ≡ false → added t f ≡ record { refusal = 0; totals = together t f }
  unfolding added
  taken_in e = sym (pick-false _ e)

  is_16 : passes t.started f.started ≡ true → (added t f).refusal ≡ 16
  is_16 e = ap (λ (x : Added). x.refusal) (left_out_lem e)

  is_0 : passes t.started f.started ≡ false → (added t f).refusal ≡ 0
  is_0 e = ap (λ (x : Added). x.refusal) (taken_in e)

  -- the refusal tells whether a sum passes
  told_16 : (added t f).refusal ≡ 16 → passes t.started f.started ≡ true
  told_16 e = go (told (passes t.started f.started))
    where
      go : (passes t.started f.started ≡ true) ⊎ (passes t.started f.started ≡ false) → passes t.started f.started ≡ true
      go (inl h) = h
      go (inr h) = absurd (omega (arith, e, is_0 h))

  told_0 : (added t f).refusal ≡ 0 → passes t.started f.started ≡ false
  told_0 e = not-holds (passes t.started f.started) (λ h. absurd (omega (arith, e, is_16 h)))

  when_16 : ((added t f).refusal ≡ 16) ↔ ((i : ℕ) × (i < 32) × (4294967295 < get_or t.started i 0 + get_or f.started i 0))
  unfolding passes
  when_16 =
      let past : ℕ → Bool = λ i. ltb 4294967295 (get_or t.started i 0 + get_or f.started i 0) in (
        (λ e. let r = any_some 32 past (told_16 e) in (r.0, r.1, ltb-true 4294967295 (get_or t.started r.0 0 + get_or f.started r.0 0) r.2)),
        (λ h. is_16 (some_any 32 past h.0 h.1 (lt-ltb 4294967295 (get_or t.started h.0 0 + get_or f.started h.0 0) h.2))),
      )

  when_0 : ((added t f).refusal ≡ 0) ↔ ((i : ℕ) → i < 32 → get_or t.started i 0 + get_or f.started i 0 < 4294967296)
  when_0 = (
    (λ e i l. omega (arith, fit_at t.started f.started (told_0 e) i l)),
    (λ h. is_0 (not-holds (passes t.started f.started) (λ p.
        let r = when_16.0 (is_16 p) in absurd (omega (arith, r.2, h r.0 r.1))))),
  )

-- what joining leaves whole, and its figures
whole-together : (t f : Totals) → Whole t → Whole f → Whole (together t f)
unfolding together
whole-together t f w v =
    record {
      started = length-joined ◌+◌ t.started f.started (w.started ∙ sym v.started) ∙ w.started;
      waited = length-joined max t.waited f.waited (w.waited ∙ sym v.waited) ∙ w.waited;
      entries = length-joined max t.entries f.entries (w.entries ∙ sym v.entries) ∙ w.entries;
    }

at_source : (op : ℕ → ℕ → ℕ) (a b : List ℕ) (i : ℕ) → length a ≡ 32 → length b ≡ 32 → i < 32 → get_or (zip_with op a b) i 0 ≡ op (get_or a i 0) (get_or b i 0)
at_source op a b i la lb l = get_d-joined op a b i (omega (arith, la)) (omega (arith, lb))

figures-together : (t f : Totals) → Whole t → Whole f → (i : ℕ) → i < 32
    → Source (together t f) i (get_or t.started i 0 + get_or f.started i 0) (max (get_or t.waited i 0) (get_or f.waited i 0)) (max (get_or t.entries i 0) (get_or f.entries i 0))
unfolding together
figures-together t f w v i l =
    record {
      started = at_source ◌+◌ t.started f.started i w.started v.started l;
      waited = at_source max t.waited f.waited i w.waited v.waited l;
      entries = at_source max t.entries f.entries i w.entries v.entries l;
    }

-- ---- one column of the totals, whatever joins its figures

-- the figures that g tells of traces, joined to z one after the other
unfoldable joined_to : (ℕ → ℕ → ℕ) → (Totals → ℕ) → ℕ → List Totals → ℕ
joined_to op g z [] = z
joined_to op g z (f ∷ fs) = joined_to op g (op z (g f)) fs

-- where two figures may be joined in either order, so may all
same-joined : (op : ℕ → ℕ → ℕ) → ((z a b : ℕ) → op (op z a) b ≡ op (op z b) a) → (g : Totals → ℕ) (z : ℕ) (xs ys : List Totals) → Reordered xs ys → joined_to op g z xs ≡ joined_to op g z ys
unfolding joined_to
same-joined op s g z xs ys none = refl
same-joined op s g z xs ys (keep f us bs p) = same-joined op s g (op z (g f)) us bs p
same-joined op s g z xs ys (swap f h us) = ap (λ (n : ℕ). joined_to op g n us) (s z (g f) (g h))
same-joined op s g z xs ys (then us bs cs p q) = same-joined op s g z us bs p ∙ same-joined op s g z bs cs q

-- the same traces are whole in any order
still-whole : (xs ys : List Totals) → Reordered xs ys → EachWhole xs → EachWhole ys
still-whole xs ys none w = w
still-whole xs ys (keep f us bs p) (one h hs v w) = one f bs v (still-whole us bs p w)
still-whole xs ys (swap f g us) (one h hs v (one k ks u w)) = one g (f ∷ us) u (one f us v w)
still-whole xs ys (then us bs cs p q) w = still-whole bs cs q (still-whole us bs p w)

-- what is left where the first is in
first_in : (t f : Totals) (fs : List Totals) → all_in t (f ∷ fs) ≡ true → passes t.started f.started ≡ false
unfolding all_in
first_in t f fs a = not-true (passes t.started f.started) (and_left (not (passes t.started f.started)) (all_in (added t f).totals fs) a)

rest_in : (t f : Totals) (fs : List Totals) → all_in t (f ∷ fs) ≡ true → all_in (added t f).totals fs ≡ true
unfolding all_in
rest_in t f fs a = and_right (not (passes t.started f.started)) (all_in (added t f).totals fs) a

next-whole : (t f : Totals) → Whole t → Whole f → passes t.started f.started ≡ false → Whole (added t f).totals
next-whole t f w v p = rw (ap (λ (x : Added). x.totals) (taken_in t f p)) (whole-together t f w v)

next_started : (t f : Totals) → Whole t → Whole f → passes t.started f.started ≡ false → (i : ℕ) → i < 32
    → get_or (added t f).totals.started i 0 ≡ get_or t.started i 0 + get_or f.started i 0
next_started t f w v p i l = ap (λ (x : Added). get_or x.totals.started i 0) (taken_in t f p) ∙ (figures-together t f w v i l).started

module _ (op : ℕ → ℕ → ℕ) (get : Totals → List ℕ) (i : ℕ)
    (joins : (t f : Totals) → Whole t → Whole f → get_or (get (together t f)) i 0 ≡ op (get_or (get t) i 0) (get_or (get f) i 0)) where
  column-is : (t : Totals) (fs : List Totals) → Whole t → EachWhole fs → all_in t fs ≡ true
      → get_or (get (added_all t fs)) i 0 ≡ joined_to op (λ f. get_or (get f) i 0) (get_or (get t) i 0) fs
  unfolding added_all joined_to
  column-is t [] w v a = refl
  column-is t (f ∷ fs) w (one h hs u v) a =
      let fits = first_in t f fs a in
      let e = ap (λ (x : Added). x.totals) (taken_in t f fits) in
      column-is (added t f).totals fs (next-whole t f w u fits) v (rest_in t f fs a)
      ∙ ap (λ (n : ℕ). joined_to op (λ x. get_or (get x) i 0) n fs) (ap (λ (x : Totals). get_or (get x) i 0) e ∙ joins t f w u)

  alike : ((z a b : ℕ) → op (op z a) b ≡ op (op z b) a) → (t : Totals) (xs ys : List Totals) → Whole t → EachWhole xs → Reordered xs ys
      → all_in t xs ≡ true → all_in t ys ≡ true → get_or (get (added_all t xs)) i 0 ≡ get_or (get (added_all t ys)) i 0
  alike s t xs ys w v p a b =
      column-is t xs w v a ∙ same-joined op s (λ f. get_or (get f) i 0) (get_or (get t) i 0) xs ys p ∙ sym (column-is t ys w (still-whole xs ys p v) b)

-- ---- where one order leaves no trace out, no order does: all are in exactly if no sum over all of them passes the figure

sum_grows : (g : Totals → ℕ) (z : ℕ) (fs : List Totals) → z ≤ joined_to ◌+◌ g z fs
unfolding joined_to
sum_grows g z [] = omega arith
sum_grows g z (f ∷ fs) = omega (arith, sum_grows g (z + g f) fs)

in_within : (t : Totals) (fs : List Totals) → Whole t → EachWhole fs → Within t → all_in t fs ≡ true → (i : ℕ) → i < 32
    → joined_to ◌+◌ (λ f. get_or f.started i 0) (get_or t.started i 0) fs < 4294967296
unfolding joined_to
in_within t [] w v b a i l = b i l
in_within t (f ∷ fs) w (one h hs u v) b a i l =
    let fits = first_in t f fs a in
    let next : Within (added t f).totals = λ j m. omega (arith, next_started t f w u fits j m, fit_at t.started f.started fits j m) in
    let more = in_within (added t f).totals fs (next-whole t f w u fits) v next (rest_in t f fs a) i l in
    omega (arith, more, ap (λ (n : ℕ). joined_to ◌+◌ (λ x. get_or x.started i 0) n fs) (next_started t f w u fits i l))

within_in : (t : Totals) (fs : List Totals) → Whole t → EachWhole fs
    → ((i : ℕ) → i < 32 → joined_to ◌+◌ (λ f. get_or f.started i 0) (get_or t.started i 0) fs < 4294967296) → all_in t fs ≡ true
unfolding joined_to all_in
within_in t [] w v b = refl
within_in t (f ∷ fs) w (one h hs u v) b =
    let fits = told_0 t f ((when_0 t f).1 (λ i l. omega (arith, b i l, sum_grows (λ x. get_or x.started i 0) (get_or t.started i 0 + get_or f.started i 0) fs))) in
    and_both (ap not fits)
    (within_in (added t f).totals fs (next-whole t f w u fits) v (λ i l.
    omega (arith, b i l, ap (λ (n : ℕ). joined_to ◌+◌ (λ x. get_or x.started i 0) n fs) (next_started t f w u fits i l))))

sums : (z a b : ℕ) → (z + a) + b ≡ (z + b) + a
sums z a b = omega arith

largest : (z a b : ℕ) → max (max z a) b ≡ max (max z b) a
largest z a b = omega arith

no_order : (t : Totals) (xs ys : List Totals) → Whole t → Within t → EachWhole xs → Reordered xs ys → all_in t xs ≡ true → all_in t ys ≡ true
no_order t xs ys w b v p a =
    within_in t ys w (still-whole xs ys p v) (λ i l.
    omega (arith, in_within t xs w v b a i l, same-joined ◌+◌ sums (λ f. get_or f.started i 0) (get_or t.started i 0) xs ys p))

no_figures : (i : ℕ) → Source zeros i 0 0 0
unfolding zeros
no_figures i = record { started = zeros_get_d 32 i; waited = zeros_get_d 32 i; entries = zeros_get_d 32 i }

worked_full : ((added (only 4294967290) (only 5)).refusal ≡ 0) × ((added (only 4294967290) (only 5)).totals ≡ only 4294967295)
unfolding added passes any_below pick together zip_with only
worked_full = (refl, refl)

worked-past : ((added (only 4294967290) (only 6)).refusal ≡ 16) × ((added (only 4294967290) (only 6)).totals ≡ only 4294967290)
unfolding added passes any_below pick only
worked-past = (refl, refl)

none_yet : (t : Totals) → added_all t [] ≡ t
unfolding added_all
none_yet t = refl

one_more : (t f : Totals) (fs : List Totals) → added_all t (f ∷ fs) ≡ added_all (added t f).totals fs
unfolding added_all
one_more t f fs = refl

all_none : (t : Totals) → all_in t [] ≡ true
unfolding all_in
all_none t = refl

all_more : (t f : Totals) (fs : List Totals) → (all_in t (f ∷ fs) ≡ true) ↔ (((added t f).refusal ≡ 0) × (all_in (added t f).totals fs ≡ true))
unfolding all_in
all_more t f fs = (
  (λ a. (is_0 t f (first_in t f fs a), rest_in t f fs a)),
  (λ h. and_both (ap not (told_0 t f h.0)) h.1),
)

pub kept : Promises
kept =
    record {
      empty = no_figures;
      sixteen = when_16;
      not_refused = when_0;
      left_out = λ t f e. ap (λ (x : Added). x.totals) (left_out_lem t f (told_16 t f e));
      taken = λ t f w v e i l. rw (taken_in t f (told_0 t f e)) (figures-together t f w v i l);
      worked_full = worked_full;
      worked_past = worked-past;
      none_yet = none_yet;
      one_more = one_more;
      all_none = all_none;
      all_more = all_more;
      any_order =
          λ t xs ys w m v p a.
          let b = no_order t xs ys w m v p a in (
            b,
            λ i l.
                record {
                  started = alike ◌+◌ (λ t. t.started) i (λ t f w v. (figures-together t f w v i l).started) sums t xs ys w v p a b;
                  waited = alike max (λ t. t.waited) i (λ t f w v. (figures-together t f w v i l).waited) largest t xs ys w v p a b;
                  entries = alike max (λ t. t.entries) i (λ t f w v. (figures-together t f w v i l).entries) largest t xs ys w v p a b;
                },
          );
    }
