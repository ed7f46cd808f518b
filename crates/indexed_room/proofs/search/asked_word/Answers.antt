-- That `asked_word` of src/search.rt keeps its contract.
use mathlib.Core.Path.{refl, sym, subst}
use Prim.Native.Nat.{ℕ, ◌<◌}
use Rattle.words.proofs.WordLaws.{both_lt}
use Rattle.cic_indexed.proofs.SoundLaws.{sound-cic}
use Rattle.indexed_room.proofs.FirstLaws.{asked-some, asked_of}
use Rattle.indexed_room.proofs.search.asked_word.Goals as goal

pub returns-then-every-some : goal.returns-then-every-some
returns-then-every-some c = (
  c.fits-room _,
  λ p ok h. asked-some {p = p} h _ _ _ _ (sound-cic p ok) c.requires refl c.if-every-some.true,
)

pub returns : goal.returns
returns c = (
  subst (λ (n : ℕ). n < 4294967296) (sym c.meet.ensures) (both_lt _ _),
  λ p ok h. asked_of {p = p} h _ _ _ _ _ _ (sound-cic p ok) c.requires refl c.if-every-some.false c.members-of.ensures c.meet.ensures,
)
