-- What is promised of totals.
use Rattle.std.specs.Prelude.{ℕ, ◌+◌, ◌<◌, max, ◌≡◌, true, List, [], ◌∷◌, ◌↔◌, get_or, length}
use Rattle.totals.specs.declared.Totals.{Totals}
use Rattle.totals.specs.Totals.{zeros, added, added_all, all_in, Reordered}
use Rattle.totals.specs.Worked.{only}

-- the arrays have their lengths, as those of every such record in the code do
pub record Whole (t : Totals) : Type 0 where
  pub started : length t.started ≡ 32
  pub waited : length t.waited ≡ 32
  pub entries : length t.entries ≡ 32

-- so have those of every trace of a list
pub data EachWhole : List Totals → Type 0 where
  nothing : EachWhole []
  one : (f : Totals) (fs : List Totals) → Whole f → EachWhole fs → EachWhole (f ∷ fs)

-- the handlers started of each source are a number of 32 bits, as in the code they are
abbrev pub Within : Totals → Type 0
Within t = (i : ℕ) → i < 32 → get_or t.started i 0 < 4294967296

-- the three figures of source i are these
pub record Source (t : Totals) (i handlers most deepest : ℕ) : Type 0 where
  pub started : get_or t.started i 0 ≡ handlers
  pub waited : get_or t.waited i 0 ≡ most
  pub entries : get_or t.entries i 0 ≡ deepest

-- the three figures of source i are the same
abbrev pub Alike : Totals → Totals → ℕ → Type 0
Alike t u i = Source t i (get_or u.started i 0) (get_or u.waited i 0) (get_or u.entries i 0)

pub record Promises : Type 0 where
  -- before any trace every figure of every source is 0
  pub empty : (i : ℕ) → Source zeros i 0 0 0
  -- 16 is given exactly if the handlers started of some source would pass 4,294,967,295, and else 0 (02, 11/12)
  pub sixteen : (t f : Totals) → ((added t f).refusal ≡ 16) ↔ ((i : ℕ) × (i < 32) × (4294967295 < get_or t.started i 0 + get_or f.started i 0))
  pub not_refused : (t f : Totals) → ((added t f).refusal ≡ 0) ↔ ((i : ℕ) → i < 32 → get_or t.started i 0 + get_or f.started i 0 < 4294967296)
  -- a trace left out changes nothing (02, 11/12)
  pub left_out : (t f : Totals) → (added t f).refusal ≡ 16 → (added t f).totals ≡ t
  -- else the handlers started add up and of the two largest numbers the larger stays, source by source (02, 11/12)
  pub taken : (t f : Totals) → Whole t → Whole f → (added t f).refusal ≡ 0 → (i : ℕ) → i < 32
      → Source (added t f).totals i (get_or t.started i 0 + get_or f.started i 0) (max (get_or t.waited i 0) (get_or f.waited i 0))
      (max (get_or t.entries i 0) (get_or f.entries i 0))
  -- a sum that reaches 4,294,967,295 is kept, and one that would pass it by one leaves the trace out (02, 11/12)
  pub worked_full : ((added (only 4294967290) (only 5)).refusal ≡ 0) × ((added (only 4294967290) (only 5)).totals ≡ only 4294967295)
  pub worked_past : ((added (only 4294967290) (only 6)).refusal ≡ 16) × ((added (only 4294967290) (only 6)).totals ≡ only 4294967290)
  -- traces are put to the totals one after the other
  pub none_yet : (t : Totals) → added_all t [] ≡ t
  pub one_more : (t f : Totals) (fs : List Totals) → added_all t (f ∷ fs) ≡ added_all (added t f).totals fs
  -- and none of them is left out exactly if the first is not, nor one of those after it
  pub all_none : (t : Totals) → all_in t [] ≡ true
  pub all_more : (t f : Totals) (fs : List Totals) → (all_in t (f ∷ fs) ≡ true) ↔ (((added t f).refusal ≡ 0) × (all_in (added t f).totals fs ≡ true))
  -- where no trace is left out, none is in another order, and the same traces give the same figures of every source (02, 11/12)
  pub any_order : (t : Totals) (xs ys : List Totals) → Whole t → Within t → EachWhole xs → Reordered xs ys → all_in t xs ≡ true
      → (all_in t ys ≡ true) × ((i : ℕ) → i < 32 → Alike (added_all t xs) (added_all t ys) i)
