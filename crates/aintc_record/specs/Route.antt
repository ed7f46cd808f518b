-- The route of an input: its priority and its output, as the record keeps them in a byte and as AINTC_ILRm shows them (000, 4.5.20).
use Rattle.std.specs.Prelude.{ℕ, ◌+◌, ◌*◌, ◌/◌, ◌%◌, Bool, eqb, get_or}
use Rattle.words.specs.Counting.{one}
use Rattle.aintc_record.specs.declared.Aintc.{Aintc}

-- the priority, 0 to 127, in bits 7:1 of the byte: 0 is the highest (000, 4.3.1.2.2)
abbrev pub priority_of : ℕ → ℕ
priority_of b = b / 2 % 128

-- the output, in bit 0 of the byte: 1 is FIQ, 0 is IRQ (000, table 4-23)
abbrev pub route_of : ℕ → ℕ
route_of b = b % 2

-- what the register reads: the priority in bits 8:2, the output in bit 0, all else 0 (000, figure 4-25)
abbrev pub route_value : ℕ → ℕ
route_value b = priority_of b * 4 + route_of b

-- what is kept of a value that is written: bits 8:2 and bit 0 (000, figure 4-25)
abbrev pub route_byte : ℕ → ℕ
route_byte v = v / 4 % 128 * 2 + v % 2

-- the route of input k (000, 4.5.20)
abbrev pub route_at : Aintc → ℕ → ℕ
route_at s k = get_or s.routes k 0

-- the priority of input k (000, 4.3.1.2.3)
unfoldable pub priority : Aintc → ℕ → ℕ
priority s k = priority_of (route_at s k)

-- input k asks for the FIQ output, where f, or for the IRQ output (000, 4.3.1.2.1)
unfoldable pub routed : Aintc → Bool → ℕ → Bool
routed s f k = eqb (route_of (route_at s k)) (one f)
