-- What is held beside a CIC, when a record is sound, the start, and what ends holds (02, 6/12; 001, 1.3.5 and 2.2.2).
use Rattle.std.specs.Prelude.{Bool, ◌&&◌, List, ℕ, ◌+◌, ◌-◌, ◌*◌, eqb, ltb, leb, get_or, set, replicate}
use Rattle.words.specs.Choice.{pick}
use Rattle.words.specs.Counting.{all_below, upto}
use Rattle.words.specs.Word.{bit}
use Rattle.steps.specs.Refusals.{carried_out, misconfigured}
use Rattle.cic_record.specs.declared.Cic.{Cic}
use Rattle.cic_record.specs.Sound as cic
use Rattle.cic_record.specs.Start.{fresh}
use Rattle.cic_record.specs.Start as cic_start
use Rattle.cic_held.specs.Order.{none_word}
use Rattle.cic_held.specs.declared.Begun.{Begun}
use Rattle.cic_held.specs.declared.Held.{Held}
use Rattle.cic_held.specs.declared.Prioritised.{Prioritised}

-- ---- the record, each literal once

abbrev pub prioritised : Cic → Held → Prioritised
prioritised c h = record { cic = c; held = h }

abbrev pub held_of : ℕ → ℕ → ℕ → List ℕ → Held
held_of choice hold global host = record { choice = choice; hold = hold; global = global; host = host }

abbrev pub begun : ℕ → Prioritised → Begun
begun n p = record { refusal = n; prioritised = p }

-- nothing is held
abbrev pub nothing_held : ℕ → ℕ → Held
nothing_held choice hold = held_of choice hold 0 (replicate 256 0)

-- another hold of the global index, or of the hosts' indices
abbrev pub with_global : Held → ℕ → Held
with_global h x = held_of h.choice h.hold x h.host

abbrev pub with_hosts : Held → List ℕ → Held
with_hosts h xs = held_of h.choice h.hold h.global xs

-- ---- a word as it is held: 0 is no hold, 1 the word of none, s + 2 that of system interrupt s

unfoldable pub held_as : ℕ → ℕ
held_as word = pick (eqb word none_word) 1 (word + 2)

unfoldable pub word_held : ℕ → ℕ
word_held x = pick (eqb x 1) none_word (x - 2)

-- ---- a sound record, and the start

-- the first four configuration numbers are the CIC's, the fifth is the choice, 0 or 1 (02, 6/12)
unfoldable pub within : ℕ → ℕ → Bool
within nth value = pick (eqb nth 4) (leb value 1) (cic.within nth value)

-- where something may be held it is nothing, none or a configured system interrupt; elsewhere it is nothing (02, 6/12)
unfoldable pub entry_sound : ℕ → Bool → ℕ → Bool
entry_sound systems may x = pick may (leb x (systems + 1)) (eqb x 0)

-- choice and hold are 0 or 1; there is no hold mode without the choice, and nothing is held outside the mode or beyond the hosts (02, 6/12)
unfoldable pub held_sound : Cic → Held → Bool
held_sound c h =
    leb h.choice 1 && (leb h.hold h.choice && (entry_sound c.systems (eqb h.hold 1) h.global
    && all_below 256 (λ k. entry_sound c.systems (ltb k c.hosts && eqb h.hold 1) (get_or h.host k 0))))

unfoldable pub sound : Prioritised → Bool
sound p = cic.sound p.cic && held_sound p.cic p.held

-- the CIC's start; the hold mode is on where the choice is (001, figure 2-2), and nothing is held
unfoldable pub start : ℕ → ℕ → ℕ → ℕ → ℕ → Begun
start systems channels hosts revision choice =
    pick (eqb (cic_start.start systems channels hosts revision).refusal carried_out && within 4 choice)
    (begun carried_out (prioritised (cic_start.start systems channels hosts revision).cic (nothing_held choice choice)))
    (begun misconfigured (prioritised (fresh 0 0 0 0) (nothing_held 0 0)))

-- ---- what ends holds

-- the holds of the hosts whose bit in word k of the hosts is 1 in v end (001, 1.3.5)
unfoldable pub freed_hosts : ℕ → ℕ → List ℕ → List ℕ
freed_hosts k v host = upto (λ xs j. pick (bit v j) (set xs (32 * k + j) 0) xs) host 32

-- the mode is bit 4 of control; where it is off nothing is held (001, 2.2.2)
unfoldable pub controlled : Held → ℕ → Held
controlled h v = pick (bit v 4) (pick (eqb h.hold 1) h (nothing_held h.choice 1)) (nothing_held h.choice 0)
