-- That `lit_word` of src/search.rt keeps its contract.
use mathlib.Core.Path.{sym, subst}
use Prim.Native.Nat.{ℕ, ◌<◌}
use native.Mathlib.Omega.{arith}
use Rattle.words.proofs.WordLaws.{both_lt}
use Rattle.indexed_room.proofs.FirstLaws.{lit-none, lit-some}
use Rattle.indexed_room.proofs.search.lit_word.Goals as goal

pub returns-then-active-eq0 : goal.returns-then-active-eq0
returns-then-active-eq0 c = (omega arith, λ p h. lit-none {p = p} h _ _ c.requires c.if-active-eq0.true)

pub returns : goal.returns
returns c = (
  subst (λ (n : ℕ). n < 4294967296) (sym c.meet.ensures) (both_lt _ _),
  λ p h. lit-some {p = p} h _ _ _ _ c.requires c.members-of.ensures c.meet.ensures,
)
