-- Texts of deeds, of which a part is known to be another, and the hosts that a step gained.
use Prim.Native.Nat.{ℕ, ◌/◌, ◌%◌, ◌<◌}
use mathlib.Core.Path.{◌≡◌, sym, ap, ◌∙◌}
use mathlib.Core.Bool.{Bool, true, false, not, ◌&&◌}
use mathlib.Core.List.{List, []}
use native.Mathlib.Nat.{mod-lt}
use native.Mathlib.Omega.{arith}
use lib.ListN.{get_or}
use Rattle.words.specs.Choice.{pick}
use Rattle.words.specs.Array.{bit_at}
use Rattle.words.specs.Counting.{count_below, lowest_below}
use Rattle.words.specs.Word.{bit, without}
use Rattle.words.proofs.ChoiceLaws.{pick_true, pick-false}
use Rattle.words.proofs.CountingLaws.{count_same, lowest-same}
use Rattle.words.proofs.TruthLaws.{and_parts}
use Rattle.words.proofs.WordLaws.{bit-without}
use Rattle.text.specs.Text.{write}
use Rattle.text.proofs.WriteLaws.{and_then}
use Rattle.text.specs.Phrases.{bytes}
use Rattle.steps.specs.declared.Step.{Step}
use Rattle.cic_record.specs.declared.Cic.{Cic}
use Rattle.cic_record.specs.Kinds.{host_number}
use Rattle.cic_registers.specs.Hosts.{asserted}
use Rattle.machine.specs.declared.record.Columns.{Columns}
use Rattle.machine.specs.declared.record.Machine.{Machine}
use Rattle.machine.specs.Shown.{shown}
use Rattle.deeds.specs.Deeds.{opened_words, closed_words, ends, gains, host_words, gain_words, turn_words, side_words}

-- ---- the AIC

pub opened_text : (o p : List ℕ × ℕ) (k l : ℕ) (m n : ℕ) → p ≡ write o (opened_words (k % 32) (l % 8)) → k ≡ m → l ≡ n → p ≡ write o (opened_words (m % 32) (n % 8))
opened_text o p k l m n e f g = e ∙ ap (λ (x : ℕ). write o (opened_words (x % 32) (l % 8))) f ∙ ap (λ (x : ℕ). write o (opened_words (m % 32) (x % 8))) g

pub closed_text : (o p : List ℕ × ℕ) (k m : ℕ) → p ≡ write o (closed_words (k % 32)) → k ≡ m → p ≡ write o (closed_words (m % 32))
closed_text o p k m e f = e ∙ ap (λ (x : ℕ). write o (closed_words (x % 32))) f

module _ (b : Bool) (x : Step) (t : Bool) (l : List ℕ) (h : b ≡ ends x) where
  pub ends-true : (b && t) ≡ true → l ≡ pick (ends x && t) l []
  ends-true e = pick_true [] (ap (λ (c : Bool). c && t) (sym h) ∙ e)

  pub ends-false : (b && t) ≡ false → [] ≡ pick (ends x && t) l []
  ends-false e = pick-false l (ap (λ (c : Bool). c && t) (sym h) ∙ e)

-- ---- hosts

-- the hosts gained, from the words of those asserted before and after
pub gain-is : (c d : Cic) (r before after : List ℕ) → ((h : ℕ) → h < 256 → bit_at before h ≡ asserted c (host_number h))
    → ((h : ℕ) → h < 256 → bit_at after h ≡ asserted d (host_number h)) → ((h : ℕ) → h < 256 → bit_at r h ≡ (bit_at after h && not (bit_at before h)))
    → (h : ℕ) → h < 256 → bit_at r h ≡ gains c d h
unfolding gains
gain-is c d r before after e f g h l = g h l ∙ and_parts (f h l) (ap not (e h l))

pub bit_at-without : (out a b : List ℕ) (h : ℕ) → get_or out (h / 32) 0 ≡ without (get_or a (h / 32) 0) (get_or b (h / 32) 0) → bit_at out h ≡ (bit_at a h && not (bit_at b h))
unfolding bit_at
bit_at-without out a b h e = ap (λ (w : ℕ). bit w (h % 32)) e ∙ bit-without (get_or a (h / 32) 0) (get_or b (h / 32) 0) (h % 32) (mod-lt h (omega arith))

pub gains_text : (o p : List ℕ × ℕ) (what : List ℕ) (c d : Cic) (ws : List ℕ) (count lowest : ℕ) → p ≡ write o (host_words what count lowest)
    → ((h : ℕ) → h < 256 → bit_at ws h ≡ gains c d h) → count ≡ count_below 256 (bit_at ws) → lowest ≡ lowest_below 256 (bit_at ws)
    → p ≡ write o (gain_words what c d)
unfolding gain_words
gains_text o p what c d ws count lowest e s f g =
    e ∙ ap (λ (x : ℕ). write o (host_words what x lowest)) (f ∙ count_same 256 (bit_at ws) (gains c d) s)
    ∙ ap (λ (x : ℕ). write o (host_words what (count_below 256 (gains c d)) x)) (g ∙ lowest-same 256 (bit_at ws) (gains c d) s)

-- ---- outputs

pub sides_text : (o p q : List ℕ × ℕ) (m a : Machine) (x y : Columns) → p ≡ write o (turn_words (bytes "; IRQ active") (bytes "; IRQ inactive") x.first y.first)
    → q ≡ write p (turn_words (bytes "; FIQ active") (bytes "; FIQ inactive") x.second y.second) → x ≡ shown m → y ≡ shown a → q ≡ write o (side_words m a)
unfolding side_words
sides_text o p q m a x y e f g h = rw (sym g, sym h) (and_then o _ _ e f)
