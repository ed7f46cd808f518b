-- Many steps at once on a controller in words that a caller outside keeps: four words tell a step, two answer it (01, "House trace", "Numbers";
-- docs/EMBED.md).
use Rattle.std.specs.Prelude.{ℕ, ◌+◌, ◌*◌, ◌/◌, min, ◌≡◌, Bool, ◌&&◌, List, ltb, length, get_or, set}
use Rattle.words.specs.Choice.{pick}
use Rattle.words.specs.Counting.{upto}
use Rattle.steps.specs.Refusals.{carried_out, unknown, unsound}
use Rattle.trace.specs.Turns.{made, step_of}
use Rattle.rooms.specs.Reply.{Reply, reply}
use Rattle.machine.specs.declared.record.Machine.{Machine}
use Rattle.machine.specs.declared.Answer.{Answer}
use Rattle.machine.specs.Steps.{refused, step}
use Rattle.machine_room.specs.Room.{reply_of}
use Rattle.machine_room.specs.Controller.{Stands, Vacant}

-- ---- one step

-- a kind of step: 1 a read, 2 a write, 3 a line (01, House trace)
abbrev pub is_step : ℕ → Bool
is_step kind = ltb 0 kind && ltb kind 4

-- the step of a kind with its two numbers, of which a read has one, made by a privilege; of another kind there is none, and 9 is answered (01, Numbers)
unfoldable pub step_told : Machine → ℕ → ℕ → ℕ → ℕ → Answer
step_told m kind x y privilege = pick (is_step kind) (step m (made (step_of kind x y) privilege)) (refused m unknown)

-- the machine of an answer stands in the words, and the reply is its own
abbrev pub Taken : Answer → List ℕ → Reply → Type 0
Taken a after q = Stands after a.machine × (q ≡ reply_of a)

-- ---- all of them

-- the kth of the steps that words tell, counted from 0: kind, first number, second number, privilege
unfoldable pub kth_told : Machine → List ℕ → ℕ → Answer
kth_told m told k = step_told m (get_or told (4 * k) 0) (get_or told (4 * k + 1) 0) (get_or told (4 * k + 2) 0) (get_or told (4 * k + 3) 0)

-- the machine after the first n of them
unfoldable pub after_steps : Machine → List ℕ → ℕ → Machine
after_steps m told n = upto (λ s k. (kth_told s told k).machine) m n

-- what the kth answers: it is made on the machine that those before it left
abbrev pub kth_reply : Machine → List ℕ → ℕ → Reply
kth_reply m told k = reply_of (kth_told (after_steps m told k) told k)

-- the words of the answers with the first n of them put: the refusal, then the value
unfoldable pub answers_in : (ℕ → Reply) → List ℕ → ℕ → List ℕ
answers_in q answers n = upto (λ l k. set (set l (2 * k) (q k).0) (2 * k + 1) (q k).1) answers n

-- how many steps: as many as are told whole and as there is room to answer
abbrev pub steps_in : List ℕ → List ℕ → ℕ
steps_in told answers = min (length told / 4) (length answers / 2)

-- the words and the answers before and after n steps, and what the call answers: the machine that stands in the words takes one after the other; where none
-- stands there each is answered 12 and the value 0, and no word has changed (01, Numbers)
pub record SteppedAll (before told answers : List ℕ) (n : ℕ) (after answered : List ℕ) (r : ℕ) : Type 0 where
  pub standing : (m : Machine) → Stands before m
      → Stands after (after_steps m told n) × (answered ≡ answers_in (kth_reply m told) answers n) × (r ≡ carried_out)
  pub vacant : Vacant before → (after ≡ before) × (answered ≡ answers_in (λ _. reply unsound 0) answers n) × (r ≡ unsound)
