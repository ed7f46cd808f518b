-- Where a byte first stands, and the words of a line.
use Prim.Native.Nat.{ℕ, ◌-◌, ◌≤◌}
use mathlib.Core.Path.{◌≡◌, refl}
use mathlib.Core.Bool.{Bool}
use mathlib.Core.List.{List}
use native.Mathlib.Omega.{arith}
use lib.Dec.{eqb}
use lib.ListN.{length, take, drop}
use Rattle.tables.specs.declared.Next.{Next}
use Rattle.tables.specs.Typed.{start_from, past_nth, nth_start, nth_typed}
use Rattle.tables.specs.Passes.{read_next}
use Rattle.tables.proofs.SeekLaws.{Sought, sought, sought-is, end_sought, past-within}
use Rattle.tables.proofs.ReadLaws.{NextIs, next-is}
use Rattle.encode.specs.Statements.{place_from}

abbrev pub is : ℕ → ℕ → Bool
is b x = eqb x b

pub place_is : (b : ℕ) (s : List ℕ) (at i : ℕ) → Sought (is b) s at i → i ≡ place_from b s at
unfolding place_from
place_is b s at i h = sought-is (is b) s at i h

pub place_sought : (b : ℕ) (s : List ℕ) (at : ℕ) → Sought (is b) s at (place_from b s at)
unfolding place_from
place_sought b s at = sought (is b) s at

pub place-within : (b : ℕ) (s : List ℕ) (at : ℕ) → at ≤ length s → place_from b s at ≤ length s
place-within b s at l = omega (arith, (place_sought b s at).within)

-- ---- the first word

none-past : (s : List ℕ) → ◌≡◌ {A = ℕ} 0 (past_nth s 0)
unfolding past_nth
none-past s = refl

-- what is read at the start of a line is its first word
pub first-is : (s : List ℕ) (x : Next) → x ≡ read_next s 0 → NextIs s 0 x
first-is s x e = next-is s 0 0 x (none-past s) e

pub first_ordered : (s : List ℕ) (x : Next) → x ≡ read_next s 0 → x.start ≤ x.past
unfolding read_next
first_ordered s x e = rw e (end_sought s (start_from s 0)).from

pub first-within : (s : List ℕ) (x : Next) → x ≡ read_next s 0 → x.past ≤ length s
first-within s x e = rw (first-is s x e).past (past-within s 1)

pub first_word : (s : List ℕ) (x : Next) → x ≡ read_next s 0 → take (x.past - x.start) (drop x.start s) ≡ nth_typed s 0
unfolding read_next nth_typed nth_start past_nth
first_word s x e = rw e
