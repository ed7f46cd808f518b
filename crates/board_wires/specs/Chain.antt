-- The longest chain below a controller, by all its wires, those of unused inputs too (02, 8/12).
use Rattle.std.specs.Prelude.{ℕ, zero, suc, ◌+◌, max, Bool, false, List, eqb, ltb}
use Rattle.words.specs.Choice.{pick}
use Rattle.words.specs.Counting.{any_below}
use Rattle.board_wires.specs.declared.Board.{Board}
use Rattle.board_wires.specs.declared.Wire.{Wire}
use Rattle.board_wires.specs.declared.Wire.TheVariants.{Nothing, Pin, Irq, Fiq}
use Rattle.board_wires.specs.Wires.{wire_in}

-- the wire leads to an output of controller d
unfoldable pub leads_to : Wire → ℕ → Bool
leads_to Nothing d = false
leads_to (Pin p) d = false
leads_to (Irq e) d = eqb e d
leads_to (Fiq e) d = eqb e d

-- some input of controller c, used or not, is wired to an output of d (02, 8/12)
unfoldable pub feeds_in : List ℕ → ℕ → ℕ → Bool
feeds_in ws c d = any_below 40 (λ i. leads_to (wire_in ws c i) d)

abbrev pub feeds : Board → ℕ → ℕ → Bool
feeds b c d = feeds_in b.wire c d

-- of the controllers below n that controller c is wired to, one more than the longest of their chains, as g tells them; 0 where there is none
unfoldable pub longest : Board → (ℕ → ℕ) → ℕ → ℕ → ℕ
longest b g c zero = 0
longest b g c (suc d) = max (longest b g c d) (pick (feeds b c d) (g d + 1) 0)

-- the chains below the controllers below n, from the lowest upwards: that of the next asks only those below it
unfoldable pub chains : Board → ℕ → ℕ → ℕ
chains b zero d = 0
chains b (suc n) d = pick (eqb d n) (longest b (chains b n) n n) (chains b n d)

-- how many controllers the longest chain below c has, itself not counted (02, 8/12)
unfoldable pub chain : Board → ℕ → ℕ
chain b c = longest b (chains b c) c c

-- the numbers that controller c may be wired to are those below this one; a number beyond the 8 has no wire
abbrev pub lower_of : ℕ → ℕ
lower_of c = pick (ltb c 8) c 0
