-- When an input is raised, pending and eligible (000, 4.3.1).
use Rattle.std.specs.Prelude.{ℕ, ◌+◌, ◌*◌, Bool, not, ◌&&◌, ◌||◌, eqb, ltb}
use Rattle.words.specs.Array.{bit_at}
use Rattle.words.specs.Word.{word_of}
use Rattle.aintc_record.specs.declared.Aintc.{Aintc}
use Rattle.aintc_record.specs.Route.{priority, routed}

-- raised, by its line or by a soft interrupt (000, 4.3.1.1)
unfoldable pub raised : Aintc → ℕ → Bool
raised s k = bit_at s.lines k || bit_at s.soft k

-- raised and not masked (000, 4.3.1.2.1)
unfoldable pub unmasked : Aintc → ℕ → Bool
unmasked s k = raised s k && not (bit_at s.masks k)

-- pending for FIQ, where f, or for IRQ: raised, not masked and routed there; the threshold plays no part (000, 4.3.1.2.1)
unfoldable pub pending : Aintc → Bool → ℕ → Bool
pending s f k = unmasked s k && routed s f k

-- the threshold lets a priority pass: priority 0 always, any other if it is below the threshold (000, 4.3.1.2.2)
unfoldable pub passes : Aintc → ℕ → Bool
passes s p = eqb p 0 || ltb p s.threshold

-- it may be chosen: pending, and of a priority that passes (000, 4.3.1.2.2 and 4.3.1.2.3)
unfoldable pub eligible : Aintc → Bool → ℕ → Bool
eligible s f k = pending s f k && passes s (priority s k)

-- word n of the inputs that are raised and not masked (000, 4.3.1.2.1)
unfoldable pub open_word : Aintc → ℕ → ℕ
open_word s n = word_of 32 (λ i. unmasked s (32 * n + i))

-- PENDING_FIQn, where f, or PENDING_IRQn (000, 4.5.18 and 4.5.19)
unfoldable pub pending_word : Aintc → Bool → ℕ → ℕ
pending_word s f n = word_of 32 (λ i. pending s f (32 * n + i))
