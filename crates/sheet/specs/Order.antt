-- Which sources the page shows, and in which order: normal ones ahead first, then the fast ones (01, AIC, Normal side; 003, 27.7.3.1).
use Rattle.std.specs.Prelude.{ℕ, zero, suc, Bool, true, false, not, ◌&&◌, ◌||◌, List, [], ◌∷◌, ◌++◌, eqb, ltb, get_or}
use Rattle.words.specs.Choice.{pick}
use Rattle.words.specs.Counting.{count_below}
use Rattle.words.specs.Word.{bit}
use Rattle.stack.specs.declared.Table.{Table}
use Rattle.stack.specs.Bytes.{normal}
use Rattle.sheet.specs.Texts.{down}

-- a source is shown if it is enabled in some trace, or is not 0 0 0 in the table
unfoldable pub shown : Table → ℕ → ℕ → Bool
shown t used i = bit used i || (not (eqb (get_or t.priority i 0) 0) || (not (eqb (get_or t.kind i 0) 0) || not (eqb (get_or t.frame i 0) 0)))

-- ---- the order

-- source i is shown among the fast ones, or among the normal ones, of level l
unfoldable pub stands : Table → ℕ → Bool → ℕ → ℕ → Bool
stands t used fast l i = shown t used i && (pick fast (not (normal t i)) (normal t i) && eqb (get_or t.priority i 0) l)

-- the numbers below n that pass, the lowest first
unfoldable pub chosen : (ℕ → Bool) → ℕ → List ℕ
chosen p zero = []
chosen p (suc n) = chosen p n ++ pick (p n) (n ∷ []) []

-- those of eight levels, the highest level first
unfoldable pub by_level : (ℕ → ℕ → Bool) → List ℕ
by_level p = down (λ l. chosen (p l) 32) 8

-- all of them
unfoldable pub in_order : Table → ℕ → List ℕ
in_order t used = by_level (stands t used false) ++ by_level (stands t used true)

-- ---- what is counted of them

-- source j is ahead of source i: its priority is higher, or the same and its number lower (01, AIC, Normal side; 003, 27.7.3.1)
unfoldable pub ahead : Table → ℕ → ℕ → Bool
ahead t j i = ltb (get_or t.priority i 0) (get_or t.priority j 0) || (eqb (get_or t.priority j 0) (get_or t.priority i 0) && ltb j i)

-- how many normal sources that are shown are ahead of source i
unfoldable pub ahead_of : Table → ℕ → ℕ → ℕ
ahead_of t used i = count_below 32 (λ j. shown t used j && (normal t j && ahead t j i))

-- how many are not shown
unfoldable pub hidden : Table → ℕ → ℕ
hidden t used = count_below 32 (λ i. not (shown t used i))
