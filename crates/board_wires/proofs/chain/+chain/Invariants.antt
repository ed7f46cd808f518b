-- What the longest chain's function, which calls itself for lower numbers, and its loop go by.
use Prim.Native.Nat.{◌≤◌}
use mathlib.Core.Path.{◌≡◌}
use Rattle.board_wires.specs.Chain.{longest, chains}
use Rattle.board_wires.proofs.chain.+chain.Given as goal

abbrev pub decreases-chain : goal.decreases-chain
decreases-chain l = l.c

abbrev pub invariant-loop-d : goal.invariant-loop-d
invariant-loop-d l = (l.d ≤ l.n) × (l.most ≡ longest l.b (chains l.b l.c) l.c l.d)
