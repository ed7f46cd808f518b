-- The search keeps the one before all others among the inputs that it has seen, and ends with the first.
use Prim.Native.Nat.{ℕ, zero, suc, ◌+◌, ◌-◌, ◌*◌, ◌≤◌, ◌<◌}
use mathlib.Core.Path.{◌≡◌, refl, sym, ap, ap₂, ◌∙◌, subst}
use mathlib.Core.Bool.{Bool, true, false, ◌&&◌}
use mathlib.Core.List.{List}
use mathlib.Core.Logic.{◌⊎◌, inl, inr, ⊎_elim}
use native.Mathlib.Nat.{eq-or-lt_of_le}
use native.Mathlib.Omega.{arith}
use mir.Val.{bool_byte}
use borrow.Author.Tests.{leb-true, leb-false, le-leb}
use lib.Dec.{eqb, leb}
use lib.ListN.{get_or}
use Rattle.std.specs.Prelude.{Option, Some, None, unwrap_or, IfSome}
use Rattle.words.specs.Choice.{pick}
use Rattle.words.specs.Counting.{one, upto, lowest_below}
use Rattle.words.specs.Word.{bit, with_bit}
use Rattle.words.proofs.ChoiceLaws.{pick_true, pick-false, pick_cases}
use Rattle.words.proofs.HopLaws.{lowest-before, hop_here, hop-other}
use Rattle.words.proofs.TruthLaws.{and_left, and_right, and_both, clash, not-holds}
use Rattle.words.proofs.WordLaws.{bit-none, bit-word_of}
use Rattle.aintc_record.specs.declared.Aintc.{Aintc}
use Rattle.aintc_record.specs.Route.{priority_of, route_of, priority, routed}
use Rattle.aintc_registers.specs.declared.choice.Best.{Best}
use Rattle.aintc_registers.specs.Inputs.{unmasked, pending, eligible, open_word}
use Rattle.aintc_registers.specs.Order.{first}
use Rattle.aintc_registers.specs.Promises.{NoneEligible, First}
use Rattle.aintc_registers.specs.Search.{turned, word_searched, searched}
use Rattle.aintc_registers.proofs.InputLaws.{passes_limit}
use Rattle.aintc_registers.proofs.OrderLaws.{lt-before, first_one, first-none}

-- a number below n + 1 is n or below it
upto_last : (j n : ℕ) → j < suc n → (j ≡ n) ⊎ (j < n)
upto_last j n q = eq-or-lt_of_le (omega arith)

-- a word of none: no turn takes anything
idle-turn : (x : Best) (t : Bool) (k route q : ℕ) → t ≡ false → x ≡ turned x t k route q
unfolding turned pick
idle-turn x t k route q e = rw e refl

-- the turns that the word w takes from input `base` on
abbrev pub turns : ℕ → ℕ → List ℕ → ℕ → Best → ℕ → Best
turns w base routes q y i = turned y (bit w i) (base + i) (get_or routes (base + i) 0) q

-- while no bit of w is set, nothing is taken
idle-turns : (w base : ℕ) (routes : List ℕ) (q : ℕ) (x : Best) (n : ℕ) → ((j : ℕ) → j < n → bit w j ≡ false) → x ≡ upto (turns w base routes q) x n
unfolding upto
idle-turns w base routes q x zero h = refl
idle-turns w base routes q x (suc n) h =
    idle-turns w base routes q x n (λ j l. h j (omega arith))
    ∙ idle-turn (upto (turns w base routes q) x n) (bit w n) (base + n) (get_or routes (base + n) 0) q (h n (omega arith))

pub word_none : (w base : ℕ) (routes : List ℕ) (q : ℕ) (x : Best) → w ≡ 0 → x ≡ word_searched w base routes q x
unfolding word_searched
word_none w base routes q x e = idle-turns w base routes q x 32 (λ j l. ap (λ (v : ℕ). bit v j) e ∙ bit-none j)

-- from one that waits to the next: the turn of the lowest, then the search through the others
module _ (w base : ℕ) (routes : List ℕ) (q : ℕ) (x : Best) (i : ℕ) (e : i ≡ lowest_below 32 (bit w)) (l : i < 32) (b : bit w i ≡ true) where
  abbrev rest : ℕ
  rest = with_bit w i false

  abbrev next : Best
  next = turned x true (base + i) (get_or routes (base + i) 0) q

  before-rest : (j : ℕ) → j < i → bit rest j ≡ false
  before-rest j m = hop-other w i j (omega arith) (λ y. omega arith) ∙ lowest-before w i e j m

  here : next ≡ upto (turns w base routes q) x (suc i)
  unfolding upto
  here = ap₂ (λ (y : Best) (t : Bool). turned y t (base + i) (get_or routes (base + i) 0) q) (idle-turns w base routes q x i (lowest-before w i e)) (sym b)

  there : next ≡ upto (turns rest base routes q) next (suc i)
  unfolding upto
  there =
      idle-turns rest base routes q next i before-rest
      ∙ idle-turn (upto (turns rest base routes q) next i) (bit rest i) (base + i) (get_or routes (base + i) 0) q (hop_here w i l)

  after : (n : ℕ) → i < n → n ≤ 32 → upto (turns rest base routes q) next n ≡ upto (turns w base routes q) x n
  unfolding upto
  after zero m o = absurd (omega arith)
  after (suc n) m o =
      ⊎_elim
      (λ (p : i ≡ n). subst (λ (k : ℕ). upto (turns rest base routes q) next (suc k) ≡ upto (turns w base routes q) x (suc k)) p (sym there ∙ here))
      (λ (p : i < n). ap₂ (λ (y : Best) (t : Bool). turned y t (base + n) (get_or routes (base + n) 0) q) (after n p (omega arith)) (hop-other w i n (omega arith) (λ y. omega arith)))
      (upto_last i n m)

  pub word-hop : word_searched rest base routes q next ≡ word_searched w base routes q x
  unfolding word_searched
  word-hop = after 32 l (omega arith)

-- the two ways out of a turn
module _ (x : Best) (waits h : Bool) (k route q p : ℕ) (ep : p ≡ priority_of route) (eh : h ≡ eqb (route_of route) q) where
  test : (waits && h && leb p x.limit) ≡ (waits && eqb (route_of route) q && leb (priority_of route) x.limit)
  test = ap₂ (λ (b : Bool) (n : ℕ). waits && b && leb n x.limit) eh ep

  pub turn-taken : (waits && h && leb p x.limit) ≡ true → record { number = Some k; limit = p } ≡ turned x waits k route q
  unfolding turned
  turn-taken t = ap (λ (n : ℕ). record { number = Some k; limit = n }) ep ∙ pick_true x (sym test ∙ t)

  pub turn-left : (waits && h && leb p x.limit) ≡ false → x ≡ turned x waits k route q
  unfolding turned
  turn-left t = pick-false _ (sym test ∙ t)

-- the number of the best so far, 128 where there is none
abbrev pub number : Best → ℕ
number x = unwrap_or x.number 128

-- ---- what the search has found, of inputs whose waiting, priority number and first limit are these

module _ (waits : ℕ → Bool) (rank : ℕ → ℕ) (top : ℕ) where
  abbrev may : ℕ → Bool
  may j = waits j && leb (rank j) top

  pub record Nobody (n : ℕ) (x : Best) : Type 0 where
    pub none : x.number ≡ None
    pub limit : x.limit ≡ top
    pub each : (j : ℕ) → j < n → may j ≡ false

  -- of 128 inputs a lower priority number counts for more than any input number
  pub record Leader (n : ℕ) (x : Best) : Type 0 where
    pub within : number x < n
    pub limit : x.limit ≡ rank (number x)
    pub fit : may (number x) ≡ true
    pub each : (j : ℕ) → j < n → may j ≡ true → rank (number x) * 128 + j ≤ rank j * 128 + number x

  abbrev pub Found : ℕ → Best → Type 0
  Found n x = Nobody n x ⊎ Leader n x

  may-top : (j : ℕ) → may j ≡ true → rank j ≤ top
  may-top j e = leb-true (rank j) top (and_right (waits j) _ e)

  limit-top : (n : ℕ) (x : Best) → Found n x → x.limit ≤ top
  limit-top n x (inl y) = omega (arith, y.limit)
  limit-top n x (inr y) = omega (arith, y.limit, may-top (number x) y.fit)

  limit-each : (n : ℕ) (x : Best) → n ≤ 128 → Found n x → (j : ℕ) → j < n → may j ≡ true → x.limit ≤ rank j
  limit-each n x b (inl y) j l e = clash e (y.each j l)
  limit-each n x b (inr y) j l e = omega (arith, y.limit, y.within, y.each j l e)

  -- the next input is taken
  taken : (n : ℕ) (x : Best) → n < 128 → Found n x → waits n ≡ true → rank n ≤ x.limit → Found (suc n) (record { number = Some n; limit = rank n })
  taken n x b found w l =
      inr (record { within = omega arith; limit = refl; fit = and_both w (le-leb (rank n) top (omega (arith, limit-top n x found))); each = others })
    where
      others : (j : ℕ) → j < suc n → may j ≡ true → rank n * 128 + j ≤ rank j * 128 + n
      others j q m =
          ⊎_elim (λ (p : j ≡ n). omega (arith, ap rank p)) (λ (p : j < n). omega (arith, limit-each n x (omega arith) found j p m)) (upto_last j n q)

  -- the next input is passed over
  passed : (n : ℕ) (x : Best) → n < 128 → Found n x → (waits n ≡ true → x.limit < rank n) → Found (suc n) x
  passed n x b (inl y) h = inl (record { none = y.none; limit = y.limit; each = none })
    where
      none : (j : ℕ) → j < suc n → may j ≡ false
      none j q =
          ⊎_elim
          (λ (p : j ≡ n). ap may p ∙ not-holds (may n) (λ m. omega (arith, h (and_left (waits n) _ m), may-top n m, y.limit)))
          (λ (p : j < n). y.each j p)
          (upto_last j n q)
  passed n x b (inr y) h = inr (record { within = omega (arith, y.within); limit = y.limit; fit = y.fit; each = others })
    where
      others : (j : ℕ) → j < suc n → may j ≡ true → rank (number x) * 128 + j ≤ rank j * 128 + number x
      others j q m =
          ⊎_elim
          (λ (p : j ≡ n). omega (arith, ap rank p, h (and_left (waits n) _ (ap may (sym p) ∙ m)), y.limit))
          (λ (p : j < n). y.each j p m)
          (upto_last j n q)

  -- a turn
  turn_found : (n : ℕ) (x : Best) → n < 128 → Found n x → Found (suc n) (pick (waits n && leb (rank n) x.limit) (record { number = Some n; limit = rank n }) x)
  turn_found n x b found =
      pick_cases (Found (suc n)) (waits n && leb (rank n) x.limit)
      (λ t. taken n x b found (and_left (waits n) _ t) (leb-true (rank n) x.limit (and_right (waits n) _ t)))
      (λ t. passed n x b found (λ w. leb-false (rank n) x.limit (ap (λ (u : Bool). u && leb (rank n) x.limit) (sym w) ∙ t)))

-- ---- the search through some inputs of a record

module _ (s : Aintc) (f : Bool) (inputs : ℕ → Bool) where
  abbrev pub waiting : ℕ → Bool
  waiting k = inputs k && routed s f k

  abbrev pub top : ℕ
  top = s.threshold - 1

  -- one turn, as the code has it
  turn_is : (w n i : ℕ) (x : Best) → bit w i ≡ inputs (32 * n + i)
      → turned x (bit w i) (32 * n + i) (get_or s.routes (32 * n + i) 0) (one f)
      ≡ pick (waiting (32 * n + i) && leb (priority s (32 * n + i)) x.limit) (record { number = Some (32 * n + i); limit = priority s (32 * n + i) }) x
  unfolding turned priority routed
  turn_is w n i x e = rw e

  turns_found : (w n : ℕ) (x : Best) → n < 4 → ((i : ℕ) → i < 32 → bit w i ≡ inputs (32 * n + i)) → Found waiting (priority s) top (32 * n) x
      → (i : ℕ) → i ≤ 32 → Found waiting (priority s) top (32 * n + i) (upto (turns w (32 * n) s.routes (one f)) x i)
  unfolding upto
  turns_found w n x b h found zero l = let e : 32 * n ≡ 32 * n + 0 = omega arith in subst (λ (m : ℕ). Found waiting (priority s) top m x) e found
  turns_found w n x b h found (suc i) l =
      let y = upto (turns w (32 * n) s.routes (one f)) x i in
      let e : suc (32 * n + i) ≡ 32 * n + suc i = omega arith in
      subst (λ (m : ℕ). Found waiting (priority s) top m (turns w (32 * n) s.routes (one f) y i)) e
      (subst (Found waiting (priority s) top (suc (32 * n + i))) (sym (turn_is w n i y (h i (omega arith))))
      (turn_found waiting (priority s) top (32 * n + i) y (omega arith) (turns_found w n x b h found i (omega arith))))

  -- a word of them
  pub word_found : (w n : ℕ) (x : Best) → n < 4 → ((i : ℕ) → i < 32 → bit w i ≡ inputs (32 * n + i)) → Found waiting (priority s) top (32 * n) x
      → Found waiting (priority s) top (32 * n + 32) (word_searched w (32 * n) s.routes (one f) x)
  unfolding word_searched
  word_found w n x b h found = turns_found w n x b h found 32 (omega arith)

  -- where no other input is eligible: none is and the search ends with 128, or one is first and it ends with that
  module _ (only : (k : ℕ) → k < 128 → (waiting k && leb (priority s k) top) ≡ eligible s f k) (x : Best) where
    none-by : Nobody waiting (priority s) top 128 x → NoneEligible s f
    none-by y k l = sym (only k l) ∙ y.each k l

    first_by : Leader waiting (priority s) top 128 x → First s f (number x)
    first_by y =
        record {
          within = y.within;
          fit = sym (only (number x) y.within) ∙ y.fit;
          others = λ j l c d. lt-before s (number x) j y.within (omega (arith, y.each j l (only j l ∙ c)));
        }

    pub found_cases : Found waiting (priority s) top 128 x → (NoneEligible s f × (x.number ≡ None)) ⊎ (First s f (number x) × (x.limit ≡ priority s (number x)))
    found_cases = ⊎_elim (λ (y : Nobody waiting (priority s) top 128 x). inl (none-by y, y.none)) (λ (y : Leader waiting (priority s) top 128 x). inr (first_by y, y.limit))

-- ---- the search through all of them

module _ (s : Aintc) (f : Bool) where
  may-is : (k : ℕ) → k < 128 → (waiting s f (unmasked s) k && leb (priority s k) (top s f (unmasked s))) ≡ eligible s f k
  unfolding eligible pending
  may-is k l = ap (λ (b : Bool). waiting s f (unmasked s) k && b) (passes_limit s (priority s k))

  open-bit : (n i : ℕ) → i < 32 → bit (open_word s n) i ≡ unmasked s (32 * n + i)
  unfolding open_word
  open-bit n i l = bit-word_of 32 (λ j. unmasked s (32 * n + j)) i l

  words_found : (n : ℕ) → n ≤ 4
      → Found (waiting s f (unmasked s)) (priority s) (s.threshold - 1) (32 * n) (upto (λ x m. word_searched (open_word s m) (32 * m) s.routes (one f) x) (record { number = None; limit = s.threshold - 1 }) n)
  unfolding upto
  words_found zero l = inl (record { none = refl; limit = refl; each = λ j l. absurd (omega arith) })
  words_found (suc n) l =
      let y = upto (λ x m. word_searched (open_word s m) (32 * m) s.routes (one f) x) (record { number = None; limit = s.threshold - 1 }) n in
      let e : 32 * n + 32 ≡ 32 * suc n = omega arith in
      subst (λ (m : ℕ). Found (waiting s f (unmasked s)) (priority s) (s.threshold - 1) m (word_searched (open_word s n) (32 * n) s.routes (one f) y)) e
      (word_found s f (unmasked s) (open_word s n) n y (omega arith) (open-bit n) (words_found n (omega arith)))

  searched_found : Found (waiting s f (unmasked s)) (priority s) (s.threshold - 1) 128 (searched s f)
  unfolding searched
  searched_found = words_found 4 (omega arith)

  pub search_cases : (NoneEligible s f × ((searched s f).number ≡ None)) ⊎ (First s f (number (searched s f)) × ((searched s f).limit ≡ priority s (number (searched s f))))
  search_cases = found_cases s f (unmasked s) may-is (searched s f) searched_found

  pub searched-first : number (searched s f) ≡ first s f
  searched-first = go search_cases
    where
      go : (NoneEligible s f × ((searched s f).number ≡ None)) ⊎ (First s f (number (searched s f)) × ((searched s f).limit ≡ priority s (number (searched s f))))
          → number (searched s f) ≡ first s f
      go (inl (h, e)) = ap (λ (o : Option ℕ). unwrap_or o 128) e ∙ sym (first-none s f h)
      go (inr (x, e)) = sym (first_one s f (number (searched s f)) x)

  -- so there is a first one, or none is eligible
  pub first_cases : (NoneEligible s f × (first s f ≡ 128)) ⊎ First s f (first s f)
  first_cases = go search_cases
    where
      go : (NoneEligible s f × ((searched s f).number ≡ None)) ⊎ (First s f (number (searched s f)) × ((searched s f).limit ≡ priority s (number (searched s f))))
          → (NoneEligible s f × (first s f ≡ 128)) ⊎ First s f (first s f)
      go (inl (h, e)) = inl (h, first-none s f h)
      go (inr (x, e)) = inr (subst (First s f) searched-first x)

  -- a number that is found is one of an input
  pub searched-within : IfSome (searched s f).number (λ k. k < 128)
  searched-within = go search_cases
    where
      below : (o : Option ℕ) → unwrap_or o 128 < 128 → IfSome o (λ k. k < 128)
      below None l = tt
      below (Some k) l = l

      go : (NoneEligible s f × ((searched s f).number ≡ None)) ⊎ (First s f (number (searched s f)) × ((searched s f).limit ≡ priority s (number (searched s f))))
          → IfSome (searched s f).number (λ k. k < 128)
      go (inl (h, e)) = rw e tt
      go (inr (x, e)) = below (searched s f).number x.within

-- the bit of a route that asks for an output
pub byte-one : (f : Bool) → bool_byte f ≡ one f
byte-one true = refl
byte-one false = refl
