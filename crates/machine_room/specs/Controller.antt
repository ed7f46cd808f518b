-- One controller in 2,048 words that a caller outside keeps, whatever stands in them: what a call leaves there, and what it answers (01, "House trace",
-- "Numbers"; docs/EMBED.md).
use Rattle.std.specs.Prelude.{ℕ, ◌≡◌, Bool, true, List, ◌≢◌, eqb, get_or}
use Rattle.words.specs.Choice.{pick}
use Rattle.words.specs.Counting.{all_below}
use Rattle.steps.specs.Refusals.{carried_out, unknown, misconfigured, unsound}
use Rattle.steps.specs.declared.Recorded.{Recorded}
use Rattle.rooms.specs.Reply.{Reply, reply}
use Rattle.kinds.specs.declared.Configuration.{Configuration}
use Rattle.kinds.specs.Configuration.{number_in}
use Rattle.kinds.specs.Kinds.{is_kind, wanted, within}
use Rattle.machine.specs.declared.record.Columns.{Columns}
use Rattle.machine.specs.declared.record.Machine.{Machine}
use Rattle.machine.specs.Machine.{start, sound}
use Rattle.machine.specs.Shown.{no_columns, shown}
use Rattle.machine.specs.Steps.{step}
use Rattle.machine_room.specs.Room.{Laid, Done}
use Rattle.machine_room.specs.declared.controller.Shown.{Shown}

-- a machine that keeps the rules of its model stands in the words, with what a listing shows
abbrev pub Stands : List ℕ → Machine → Type 0
Stands r m = (sound m ≡ true) × Laid true m r

-- none does
abbrev pub Vacant : List ℕ → Type 0
Vacant r = (m : Machine) → Stands r m → ⊥

-- two rooms have the same words
unfoldable pub same : List ℕ → List ℕ → Bool
same r s = all_below 2048 (λ k. eqb (get_or r k 0) (get_or s k 0))

-- ---- a start

-- the numbers as a caller lends them
abbrev pub numbered : List ℕ → Configuration
numbered numbers = record { numbers = numbers }

-- every number that configures the kind is within its limit; further ones are not looked at (01, Numbers, 10)
unfoldable pub accepted : ℕ → Configuration → Bool
accepted kind c = all_below (wanted kind) (λ n. within kind n (number_in c n))

-- no such kind is 9, a number beyond its limit 10 (01, Numbers)
unfoldable pub start_refusal : ℕ → Configuration → ℕ
start_refusal kind c = pick (is_kind kind) (pick (accepted kind c) carried_out misconfigured) unknown

-- the words before and after it, and its answer: the machine started stands there, or no word has changed
pub record Started (before : List ℕ) (kind : ℕ) (c : Configuration) (after : List ℕ) (r : ℕ) : Type 0 where
  pub refusal : r ≡ start_refusal kind c
  pub carried : r ≡ 0 → Stands after (start kind c)
  pub refused : r ≢ 0 → after ≡ before

-- ---- a step

-- what the machine that stands in the words does and answers; where none stands there 12 and the value 0, and no word has changed (01, Numbers)
pub record Stepped (before : List ℕ) (x : Recorded) (after : List ℕ) (q : Reply) : Type 0 where
  pub standing : (m : Machine) → Stands before m → Done true (step m x) after q
  pub vacant : Vacant before → (after ≡ before) × (q ≡ reply unsound 0)

-- ---- what it shows

-- the three numbers of a listing's line, with the refusal before them
abbrev pub shown_as : ℕ → Columns → Shown
shown_as refusal c = record { refusal = refusal; first = c.first; second = c.second; third = c.third }

-- the same, lent as an array of three
abbrev pub shown_in : ℕ → List ℕ → Shown
shown_in refusal columns = record { refusal = refusal; first = get_or columns 0 0; second = get_or columns 1 0; third = get_or columns 2 0 }

pub record Showing (words : List ℕ) (s : Shown) : Type 0 where
  pub standing : (m : Machine) → Stands words m → s ≡ shown_as carried_out (shown m)
  pub vacant : Vacant words → s ≡ shown_as unsound no_columns
