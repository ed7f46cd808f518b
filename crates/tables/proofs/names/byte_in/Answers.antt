-- That `byte_in` of src/names.rt keeps its contract.
use Prim.Native.Nat.{ℕ}
use mathlib.Core.Path.{ap, ◌∙◌}
use mathlib.Core.List.{List}
use native.Mathlib.Omega.{arith}
use lib.ListN.{get_or}
use Rattle.tables.proofs.NameLaws.{byte-behind, byte-beyond, byte_there}
use Rattle.tables.proofs.names.byte_in.Goals as goal

pub returns-then-place-k : goal.returns-then-place-k
returns-then-place-k c = byte-behind _ _ _ _ c.if-place-k.true

pub returns-in-Some : goal.returns-in-Some
returns-in-Some c =
    let a = c.args in
    byte_there a.text.now a.place.start a.place.count a.k _ c.if-place-k.false (c.byte_or.ensures ∙ ap (λ (l : List ℕ). get_or l a.k 0) c.in-Some.ensures.lookup.0.2)

pub returns-in-None : goal.returns-in-None
returns-in-None c = byte-beyond _ _ _ _ c.if-place-k.false (omega (arith, c.in-None.ensures.lookup.0))
