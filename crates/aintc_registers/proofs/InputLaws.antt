-- The words of the inputs, from the words of the record.
use Prim.Native.Nat.{ℕ, ◌+◌, ◌-◌, ◌*◌, ◌<◌}
use mathlib.Core.Path.{◌≡◌, sym, ap, ap₂, ◌∙◌}
use mathlib.Core.Bool.{Bool, not, ◌&&◌, ◌||◌}
use native.Mathlib.Omega.{arith}
use native.Mathlib.Decide.{dec_lt, ℕ_discrete}
use lib.Dec.{eqb, ltb, leb}
use lib.ListN.{get_or}
use borrow.Author.Tests.{eq-eqb, ne_eqb, lt-ltb, le-ltb, le-leb, lt-leb}
use Rattle.words.specs.Counting.{one}
use Rattle.words.specs.Word.{bit, either, both, without}
use Rattle.words.proofs.ArrayLaws.{bit_at_word}
use Rattle.words.proofs.WordLaws.{bit-word_of, word_of-same, bit-either}
use Rattle.aintc_record.specs.declared.Aintc.{Aintc}
use Rattle.aintc_record.specs.Route.{route_of, routed}
use Rattle.aintc_registers.specs.Inputs.{raised, unmasked, pending, passes, open_word, pending_word}
use Rattle.aintc_registers.specs.Search.{route_word}

-- an input by the words of the record
unmasked-is : (s : Aintc) (n i : ℕ) → i < 32
    → unmasked s (32 * n + i) ≡ ((bit (get_or s.lines n 0) i || bit (get_or s.soft n 0) i) && not (bit (get_or s.masks n 0) i))
unfolding unmasked raised
unmasked-is s n i l = rw (bit_at_word s.lines n i l, bit_at_word s.soft n i l, bit_at_word s.masks n i l)

pub open-from : (s : Aintc) (n a b m j r : ℕ) → a ≡ get_or s.lines n 0 → b ≡ get_or s.soft n 0 → j ≡ either a b → m ≡ get_or s.masks n 0
    → r ≡ without j m → r ≡ open_word s n
unfolding open_word without
open-from s n a b m j r ea eb ej em er =
    er
    ∙ word_of-same 32 (λ k. bit j k && not (bit m k)) (λ i. unmasked s (32 * n + i))
    (λ k l. ap₂ (λ (x y : Bool). x && not y) (ap (λ (w : ℕ). bit w k) ej ∙ bit-either a b k l ∙ ap₂ (λ (x y : ℕ). bit x k || bit y k) ea eb) (ap (λ (w : ℕ). bit w k) em) ∙ sym (unmasked-is s n k l))

pub pending-from : (s : Aintc) (f : Bool) (n q o w r : ℕ) → q ≡ one f → o ≡ open_word s n → w ≡ route_word s.routes (32 * n) q → r ≡ both o w → r ≡ pending_word s f n
unfolding open_word pending_word route_word both pending routed
pending-from s f n q o w r eq eo ew er =
    er
    ∙ word_of-same 32 (λ k. bit o k && bit w k) (λ i. unmasked s (32 * n + i) && eqb (route_of (get_or s.routes (32 * n + i) 0)) (one f))
    (λ k l. ap₂ ◌&&◌ (ap (λ (x : ℕ). bit x k) eo ∙ bit-word_of 32 (λ i. unmasked s (32 * n + i)) k l)
    (ap (λ (x : ℕ). bit x k) ew ∙ bit-word_of 32 (λ i. eqb (route_of (get_or s.routes (32 * n + i) 0)) q) k l ∙ ap (eqb (route_of (get_or s.routes (32 * n + k) 0))) eq))

-- a priority passes the threshold exactly if it is no lower than the first limit
pub passes_limit : (s : Aintc) (p : ℕ) → leb p (s.threshold - 1) ≡ passes s p
unfolding passes
passes_limit s p = go (ℕ_discrete p 0) (dec_lt p s.threshold)
  where
    go : Dec (p ≡ 0) → Dec (p < s.threshold) → leb p (s.threshold - 1) ≡ (eqb p 0 || ltb p s.threshold)
    go (yes e) d = rw (eq-eqb p 0 e) (le-leb p (s.threshold - 1) (omega arith))
    go (no z) (yes l) = rw (ne_eqb p 0 z, lt-ltb p s.threshold l) (le-leb p (s.threshold - 1) (omega arith))
    go (no z) (no g) = rw (ne_eqb p 0 z, le-ltb p s.threshold (omega arith)) (lt-leb p (s.threshold - 1) (omega arith))
