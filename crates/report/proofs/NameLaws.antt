-- The traces that are put to the totals while names are taken: for each line feed at most one.
use Prim.Native.Nat.{ℕ, ◌+◌, ◌≤◌, ◌<◌}
use mathlib.Core.Path.{◌≡◌}
use mathlib.Core.Bool.{Bool, not}
use mathlib.Core.List.{List}
use native.Mathlib.Numerals.{add-one}
use native.Mathlib.Omega.{arith}
use lib.ListN.{get_or, length}
use Rattle.words.specs.Counting.{one}
use Rattle.words.proofs.CountingLaws.{one_le}
use Rattle.totals.specs.declared.Totals.{Totals}
use Rattle.report.specs.Lines.{line_end, feeds_before}
use Rattle.report.proofs.LineLaws.{line-within, end_at, feeds_feed, feeds-most, feeds_grow}
use Rattle.report.specs.Put.{Put}
use Rattle.report.proofs.PutLaws.{put-within, put_then}

-- a name that ends in a line feed, and those before it
pub lines_more : (s : List ℕ) (at e : ℕ) (skips : Bool) {t u v : Totals} → at ≤ length s → e ≡ line_end s at → e < length s
    → Put t (feeds_before s at) u → Put u (one (not skips)) v → Put t (feeds_before s (e + 1)) v
lines_more s at e skips l h m p q =
    let feed : get_or s e 0 ≡ 10 = rw h (end_at s at l (omega (arith, h, m))) in
    let more : feeds_before s (e + 1) ≡ feeds_before s e + 1 = rw (add-one e) (feeds_feed s e feed) in
    put-within (feeds_before s (e + 1)) (omega (arith, one_le (not skips), feeds_grow s at e (line-within s at e l h).0, more)) (put_then p q)

-- all of them, where the last begins at a place
pub lines-all : (s : List ℕ) (at : ℕ) {t u : Totals} → at ≤ length s → Put t (feeds_before s at) u → Put t (feeds_before s (length s)) u
lines-all s at l p = put-within (feeds_before s (length s)) (feeds_grow s at (length s) l) p

-- no more than bytes, and what is kept of a begun name leaves the totals
pub lines-room : (s : List ℕ) (n : ℕ) {t u v : Totals} → length s ≤ n → Put t (feeds_before s (length s)) u → v ≡ u → Put t n v
lines-room s n l p e = rw e (put-within n (omega (arith, l, feeds-most s (length s))) p)
