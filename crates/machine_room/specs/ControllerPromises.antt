-- What is promised of a controller in words that a caller keeps: which starts are refused, what a refused step leaves, and that
-- many steps at once are the single ones (01, Numbers).
use Rattle.std.specs.Prelude.{ℕ, suc, ◌+◌, ◌*◌, ◌≤◌, ◌<◌, ◌≡◌, true, false, List, ◌↔◌, ◌≢◌, ◌⊎◌, length, get_or, set}
use Rattle.steps.specs.declared.Recorded.{Recorded}
use Rattle.steps.specs.declared.Step.TheVariants.{Read, Write, Line}
use Rattle.trace.specs.Turns.{made, step_of}
use Rattle.rooms.specs.Reply.{Reply}
use Rattle.kinds.specs.declared.Configuration.{Configuration}
use Rattle.kinds.specs.Kinds.{is_kind, wanted, within}
use Rattle.machine.specs.declared.record.Machine.{Machine}
use Rattle.machine.specs.Machine.{start, sound}
use Rattle.machine.specs.Steps.{step}
use Rattle.machine_room.specs.Batch.{step_told, kth_told, after_steps, answers_in, SteppedAll}
use Rattle.machine_room.specs.Controller.{Stands, Vacant, same, start_refusal, Stepped}

pub record Promises : Type 0 where
  -- ---- a start

  -- no such kind is 9, one number of its own beyond its limit 10, and nothing else is refused (01, Numbers)
  pub unknown_kind : (kind : ℕ) (c : Configuration) → is_kind kind ≡ false → start_refusal kind c ≡ 9
  pub beyond_limit : (kind : ℕ) (c : Configuration) (n : ℕ) → is_kind kind ≡ true → n < wanted kind → within kind n (get_or c.numbers n 0) ≡ false
      → start_refusal kind c ≡ 10
  pub taken : (kind : ℕ) (c : Configuration) → is_kind kind ≡ true → ((n : ℕ) → n < wanted kind → within kind n (get_or c.numbers n 0) ≡ true)
      → start_refusal kind c ≡ 0
  -- what is started keeps the rules of its model
  pub start_sound : (kind : ℕ) (c : Configuration) → start_refusal kind c ≡ 0 → sound (start kind c) ≡ true
  -- ---- the words

  -- all 2,048 of them are compared
  pub same_is : (r s : List ℕ) → (same r s ≡ true) ↔ ((k : ℕ) → k < 2048 → get_or r k 0 ≡ get_or s k 0)
  -- ---- a step

  -- one that the machine refuses leaves every word as it was, and answers the value 0 (01, Numbers)
  pub refused_same : (m : Machine) (x : Recorded) (before after : List ℕ) (q : Reply) → Stands before m → Stepped before x after q → q.0 ≢ 0
      → (after ≡ before) × (q.1 ≡ 0)
  -- and where no sound machine stands in the words it is 12, and they stay
  pub vacant_same : (x : Recorded) (before after : List ℕ) (q : Reply) → Vacant before → Stepped before x after q
      → (after ≡ before) × (q.0 ≡ 12) × (q.1 ≡ 0)
  -- ---- many steps at once

  -- a step is told as a trace tells it: kind 1 and the offset of a read, 2 and the offset and value of a write, 3 and the line and its level (01, House
  -- trace); a read looks at no second number
  pub told_read : (m : Machine) (offset second p : ℕ) → step_told m 1 offset second p ≡ step m (record { step = Read offset; privilege = p })
  pub told_write : (m : Machine) (offset value p : ℕ) → step_told m 2 offset value p ≡ step m (record { step = Write offset value; privilege = p })
  pub told_line : (m : Machine) (line level p : ℕ) → step_told m 3 line level p ≡ step m (record { step = Line line level; privilege = p })
  -- another kind is refused by 9 and changes nothing (01, Numbers)
  pub told_none : (m : Machine) (kind x y p : ℕ) → (kind < 1) ⊎ (3 < kind) → step_told m kind x y p ≡ record { refusal = 9; value = 0; machine = m }
  -- four words tell a step, and it is made on what the steps before it left
  pub kth_is : (m : Machine) (told : List ℕ) (k : ℕ)
      → kth_told m told k ≡ step_told m (get_or told (4 * k) 0) (get_or told (4 * k + 1) 0) (get_or told (4 * k + 2) 0) (get_or told (4 * k + 3) 0)
  pub after_none : (m : Machine) (told : List ℕ) → after_steps m told 0 ≡ m
  pub after_more : (m : Machine) (told : List ℕ) (k : ℕ) → after_steps m told (suc k) ≡ (kth_told (after_steps m told k) told k).machine
  -- two words answer it, the refusal and the value, and no other word of the answers is written
  pub refusal_at : (q : ℕ → Reply) (answers : List ℕ) (n k : ℕ) → k < n → 2 * n ≤ length answers → get_or (answers_in q answers n) (2 * k) 0 ≡ (q k).0
  pub value_at : (q : ℕ → Reply) (answers : List ℕ) (n k : ℕ) → k < n → 2 * n ≤ length answers → get_or (answers_in q answers n) (2 * k + 1) 0 ≡ (q k).1
  pub rest_same : (q : ℕ → Reply) (answers : List ℕ) (n i : ℕ) → 2 * n ≤ i → get_or (answers_in q answers n) i 0 ≡ get_or answers i 0
  pub as_long : (q : ℕ → Reply) (answers : List ℕ) (n : ℕ) → length (answers_in q answers n) ≡ length answers
  -- so n steps at once and then a single one are n + 1 steps at once, whatever stands in the words
  pub singly : (before told answers after answered next : List ℕ) (n r kind x y p : ℕ) (q : Reply) → SteppedAll before told answers n after answered r
      → 0 < kind → kind < 4 → kind ≡ get_or told (4 * n) 0 → x ≡ get_or told (4 * n + 1) 0 → y ≡ get_or told (4 * n + 2) 0 → p ≡ get_or told (4 * n + 3) 0
      → Stepped after (made (step_of kind x y) p) next q
      → SteppedAll before told answers (n + 1) next (set (set answered (2 * n) q.0) (2 * n + 1) q.1) r
