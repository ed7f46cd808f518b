-- The first column in which a place is free.
use Prim.Native.Nat.{ℕ, zero, suc, ◌+◌, ◌-◌, ◌<◌, ◌≤◌, max}
use mathlib.Core.Path.{◌≡◌, refl, sym, ◌∙◌}
use mathlib.Core.Bool.{Bool, true, false}
use mathlib.Core.List.{List}
use native.Mathlib.Decide.{dec_lt, ℕ_discrete}
use native.Mathlib.Omega.{arith}
use lib.Dec.{leb}
use lib.ListN.{length}
use borrow.Author.Tests.{le-leb, lt-leb, ltb-true}
use Rattle.words.specs.Choice.{pick}
use Rattle.words.proofs.ChoiceLaws.{pick_true, pick-false}
use Rattle.drawing.specs.Bars.{entries_at, free_from, free, opens, opened}
use Rattle.drawing.specs.Promises.{Stays}

pub free_here : (ws : List ℕ) (place k : ℕ) → k < length ws → entries_at ws k ≤ place → k ≡ free ws place k
unfolding free pick
free_here ws place k l e = go (length ws - k) (omega arith)
  where
    go : (n : ℕ) → 0 < n → k ≡ free_from n ws place k
    go zero h = absurd (omega arith)
    go (suc n) h = unfold free_from in (rw (le-leb (entries_at ws k) place e))

free_step : (ws : List ℕ) (place k m n : ℕ) → n ≡ m + 1 → place < entries_at ws k → free_from m ws place (k + 1) ≡ free_from n ws place k
unfolding free_from pick
free_step ws place k m zero h d = absurd (omega arith)
free_step ws place k m (suc n) h d = let e : m ≡ n = omega arith in rw (e, lt-leb (entries_at ws k) place d)

pub free_on : (ws : List ℕ) (place k : ℕ) → k < length ws → place < entries_at ws k → free ws place (k + 1) ≡ free ws place k
unfolding free
free_on ws place k l d = free_step ws place k (length ws - (k + 1)) (length ws - k) (omega arith) d

pub free-over : (ws : List ℕ) (place k : ℕ) → length ws ≤ k → k ≡ free ws place k
unfolding free
free-over ws place k l = go (length ws - k) (omega arith)
  where
    go : (n : ℕ) → n ≡ 0 → k ≡ free_from n ws place k
    go zero h = unfold free_from in refl
    go (suc n) h = absurd (omega arith)

-- where no column from the kth on is it, the one after them, or k itself
pub free_end : (ws : List ℕ) (place j k m : ℕ) → m ≡ max k (length ws) → (k ≤ length ws → j ≡ length ws) → free ws place j ≡ free ws place k → m ≡ free ws place k
free_end ws place j k m e f h = go (dec_lt (length ws) k)
  where
    go : Dec (length ws < k) → m ≡ free ws place k
    go (yes l) = let q : m ≡ k = omega arith in q ∙ free-over ws place k (omega arith)
    go (no l) =
        let i : j ≡ length ws = f (omega arith) in
        let q : m ≡ j = omega arith in
        q ∙ free-over ws place j (omega arith) ∙ h

-- it is one of the columns from there on, or the one after them
from-within : (n : ℕ) (ws : List ℕ) (place k : ℕ) → (k ≤ free_from n ws place k) × (free_from n ws place k ≤ k + n)
unfolding free_from pick
from-within zero ws place k = (omega arith, omega arith)
from-within (suc n) ws place k = go (leb (entries_at ws k) place) (from-within n ws place (k + 1))
  where
    go : (b : Bool) → (k + 1 ≤ free_from n ws place (k + 1)) × (free_from n ws place (k + 1) ≤ k + 1 + n)
        → (k ≤ pick b k (free_from n ws place (k + 1))) × (pick b k (free_from n ws place (k + 1)) ≤ k + suc n)
    go true h = (omega arith, omega arith)
    go false h = (omega (arith, h.0), omega (arith, h.1))

pub free-within : (ws : List ℕ) (place k r : ℕ) → r ≡ free ws place k → (k ≤ r) × (r ≤ k + (length ws - k))
unfolding free
free-within ws place k r e =
    let h = from-within (length ws - k) ws place k in
    (omega (arith, h.0), omega (arith, h.1))

-- ---- until then the place is taken

here : (n : ℕ) (ws : List ℕ) (place k : ℕ) → entries_at ws k ≤ place → free_from (suc n) ws place k ≡ k
unfolding free_from
here n ws place k h = sym (pick_true _ (le-leb (entries_at ws k) place h))

later : (n : ℕ) (ws : List ℕ) (place k : ℕ) → place < entries_at ws k → free_from (suc n) ws place k ≡ free_from n ws place (k + 1)
unfolding free_from
later n ws place k h = sym (pick-false _ (lt-leb (entries_at ws k) place h))

none_left : (ws : List ℕ) (place k : ℕ) → free_from 0 ws place k ≡ k
unfolding free_from
none_left ws place k = refl

taken-before : (n : ℕ) (ws : List ℕ) (place k j : ℕ) → k ≤ j → j < free_from n ws place k → place < entries_at ws j
taken-before zero ws place k j a b = absurd (omega (arith, none_left ws place k))
taken-before (suc n) ws place k j a b = go (dec_lt place (entries_at ws k)) (ℕ_discrete j k) (taken-before n ws place (k + 1) j)
  where
    go : Dec (place < entries_at ws k) → Dec (j ≡ k) → (k + 1 ≤ j → j < free_from n ws place (k + 1) → place < entries_at ws j) → place < entries_at ws j
    go (yes t) (yes e) ih = rw e t
    go (yes t) (no e) ih = ih (omega (arith, e)) (omega (arith, later n ws place k t))
    go (no t) d ih = absurd (omega (arith, here n ws place k (omega (arith, t))))

gone_at : (n : ℕ) (ws : List ℕ) (place k : ℕ) → free_from n ws place k < k + n → entries_at ws (free_from n ws place k) ≤ place
gone_at zero ws place k l = absurd (omega (arith, none_left ws place k))
gone_at (suc n) ws place k l = go (dec_lt place (entries_at ws k)) (gone_at n ws place (k + 1))
  where
    go : Dec (place < entries_at ws k) → (free_from n ws place (k + 1) < k + 1 + n → entries_at ws (free_from n ws place (k + 1)) ≤ place) → entries_at ws (free_from (suc n) ws place k) ≤ place
    go (yes t) ih = rw (later n ws place k t) (ih (omega (arith, later n ws place k t)))
    go (no t) ih = rw (here n ws place k (omega (arith, t))) (omega (arith, t))

pub stays : (ws : List ℕ) (place k : ℕ) → k ≤ length ws → Stays ws place k (free ws place k)
unfolding free
stays ws place k h =
    record {
      there = taken-before (length ws - k) ws place k;
      gone = λ l. gone_at (length ws - k) ws place k (omega arith);
      within = omega (arith, (from-within (length ws - k) ws place k).1);
    }

-- an entry is in its place from the column that opens it
pub stays-opened : (ws : List ℕ) (k : ℕ) → k < length ws → opens ws k ≡ true → Stays ws (opened ws k).place k (opened ws k).to
unfolding opens opened
stays-opened ws k h o =
    let s = stays ws (entries_at ws k - 1) (k + 1) (omega arith) in
    let p : entries_at ws (k - 1) < entries_at ws k = ltb-true (entries_at ws (k - 1)) (entries_at ws k) o in
    record { there = λ j a b. go j p (s.there j) (ℕ_discrete j k) a b; gone = s.gone; within = s.within }
  where
    go : (j : ℕ) → entries_at ws (k - 1) < entries_at ws k → (k + 1 ≤ j → j < free ws (entries_at ws k - 1) (k + 1) → entries_at ws k - 1 < entries_at ws j) → Dec (j ≡ k) → k ≤ j
        → j < free ws (entries_at ws k - 1) (k + 1) → entries_at ws k - 1 < entries_at ws j
    go j p s (yes e) a b = rw e (omega (arith, p))
    go j p s (no e) a b = s (omega (arith, e)) b
