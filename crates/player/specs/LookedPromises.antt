-- What is promised of the words that a read would look at after a trace (02, 10/12).
use Rattle.std.specs.Prelude.{List, ◌≢◌, ◌≡◌, ℕ}
use Rattle.cic_prioritised.specs.Looking.{look_at}
use Rattle.machine.specs.Machine.{indexed}
use Rattle.beginning.specs.Play.{play_of}
use Rattle.player.specs.After.{words_after}

pub record Promises : Type 0 where
  -- after a trace of kind 4 they are those that look_at tells of the machine's record
  pub of_indexed : (s : List ℕ) (limit o : ℕ) → (play_of s limit).machine.kind ≡ 4 → words_after s limit o ≡ (look_at (indexed (play_of s limit).machine) o).words
  -- after any other there are none
  pub of_others : (s : List ℕ) (limit o : ℕ) → (play_of s limit).machine.kind ≢ 4 → words_after s limit o ≡ 0
