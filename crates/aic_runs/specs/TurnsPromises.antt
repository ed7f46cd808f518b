-- What is promised of a source that waits behind level-sensitive ones, sentence by sentence (docs/DEMANDS.md, demand 3; 02, 12/12).
use Rattle.std.specs.Prelude.{ℕ, ◌+◌, ◌≤◌, ◌<◌, ◌≡◌, Bool, true, false, not, ◌&&◌, List, ◌≢◌}
use Rattle.words.specs.Counting.{one}
use Rattle.steps.specs.declared.Step.{Step}
use Rattle.aic_record.specs.declared.Aic.{Aic}
use Rattle.aic_record.specs.Mode.{edge}
use Rattle.aic_record.specs.Promises.{Shaped}
use Rattle.aic_sources.specs.Fast.{fast}
use Rattle.aic_sources.specs.Normal.{ahead}
use Rattle.aic_runs.specs.Counted.{recalls, carries, starts_of, starts_other, closes, rises, edges, commands, steady, waits}
use Rattle.aic_runs.specs.Runs.{run, count, always, owed, received, sum_over}
use Rattle.aic_runs.specs.Promises.{EdgeTriggered, ahead_of, rival_of}
use Rattle.aic_runs.specs.Turns.{cool, Cool, gained, due}
use Rattle.aic_runs.specs.TurnsTables.{Counts, Dues, Gathers, Steps}
use Rattle.aic_runs.specs.TurnsWorked.{board, quieted, entered, rest, noisy, raised, twice}

-- source i is ahead of source k and edge-triggered, or ahead of it and level-sensitive
abbrev pub edge_ahead : Aic → ℕ → ℕ → Bool
edge_ahead s k i = ahead s i k && edge s i

abbrev pub level_ahead : Aic → ℕ → ℕ → Bool
level_ahead s k i = ahead s i k && not (edge s i)

pub record Promises : Type 0 where
  -- what is counted, step by step and over a run
  pub counts : (i : ℕ) (s : Aic) (x : Step) → Counts i s x
  pub dues : (i : ℕ) (s : Aic) → Dues i s
  pub gathers : Gathers
  pub worked : Steps
  -- a source that is not fast, edge-triggered or not, starts no more than it is due and gains, and one more if it is remembered at the outset, if its
  -- line, where it is level-sensitive, is inactive whenever one of its handlers is closed; what it is due in the end is left over (02, 9/12 and 12/12)
  pub per_source_any : (s : Aic) (i : ℕ) (xs : List Step) → Shaped s → i < 32 → fast s i ≡ false → always steady s xs ≡ true → always (cool i) s xs ≡ true
      → count (starts_of i) s xs + due (run s xs) i ≤ due s i + gained i s xs + one (recalls i s)
  -- while source k waits, if no level-sensitive source ahead has its line active when a handler of it is closed, at most so many handlers of others are
  -- started: one for each source ahead that is pending before the first step, one for each edge and each set command of an edge-triggered one ahead, one
  -- for each time that the line of a level-sensitive one ahead turned active, and one more if a source other than k is remembered before the first step
  -- (02, 9/12 and 12/12)
  pub bound_levels : (s : Aic) (k : ℕ) (xs : List Step) → Shaped s → k < 32 → always (waits k) s xs ≡ true → Cool s (ahead_of s k) xs
      → count (starts_other k) s xs ≤ sum_over (ahead_of s k) (λ i. owed s i + gained i s xs) + one (carries k s)
  -- the right side by its four figures: pending, edges, commands, turns
  pub bound_figures : (s : Aic) (k : ℕ) (xs : List Step) → always steady s xs ≡ true
      → sum_over (ahead_of s k) (λ i. owed s i + gained i s xs)
      ≡ sum_over (ahead_of s k) (owed s) + sum_over (edge_ahead s k) (λ i. count (edges i) s xs) + sum_over (edge_ahead s k) (λ i. count (commands i) s xs)
      + sum_over (level_ahead s k) (λ i. count (rises i) s xs)
  -- the same for less: only the sources ahead that are not fast need the premise and are counted, and a level-sensitive one that is pending at the
  -- outset counts only if no handler of it is open at its priority or above
  pub bound_levels_normal : (s : Aic) (k : ℕ) (xs : List Step) → Shaped s → k < 32 → always (waits k) s xs ≡ true → Cool s (rival_of s k) xs
      → count (starts_other k) s xs ≤ sum_over (rival_of s k) (λ i. due s i + gained i s xs) + one (carries k s)
  -- an edge-triggered source gains what the old bound says that it receives; a level-sensitive one gains the turns of its line
  pub bound_edges : (s : Aic) (i : ℕ) (xs : List Step) → edge s i ≡ true → always steady s xs ≡ true → gained i s xs ≡ received i s xs
  pub bound_turns : (s : Aic) (i : ℕ) (xs : List Step) → edge s i ≡ false → always steady s xs ≡ true → gained i s xs ≡ count (rises i) s xs
  -- so with no level-sensitive source ahead it is the old bound: the premise holds by itself, and the right side is the same, source by source
  pub bound_same : (s : Aic) (k : ℕ) (xs : List Step) → always steady s xs ≡ true → EdgeTriggered s (ahead_of s k)
      → Cool s (ahead_of s k) xs × ((i : ℕ) → i < 32 → ahead_of s k i ≡ true → owed s i + gained i s xs ≡ owed s i + received i s xs)
      × (sum_over (ahead_of s k) (λ i. owed s i + gained i s xs) ≡ sum_over (ahead_of s k) (λ i. owed s i + received i s xs))
  -- and so is the lesser bound the old lesser one
  pub bound_same_normal : (s : Aic) (k : ℕ) (xs : List Step) → always steady s xs ≡ true → EdgeTriggered s (rival_of s k)
      → Cool s (rival_of s k) xs × ((i : ℕ) → i < 32 → rival_of s k i ≡ true → due s i + gained i s xs ≡ owed s i + received i s xs)
      × (sum_over (rival_of s k) (λ i. due s i + gained i s xs) ≡ sum_over (rival_of s k) (λ i. owed s i + received i s xs))
  -- the bound is met: sources 4, level-sensitive, and 6, edge-triggered, are ahead of source 9, which waits
  pub levels_met : (always (waits 9) board quieted ≡ true) × Cool board (ahead_of board 9) quieted × (edge board 4 ≡ false) × (edge board 6 ≡ true)
      × (ahead board 4 9 ≡ true) × (ahead board 6 9 ≡ true) × (count (starts_other 9) board quieted ≡ 4)
      × (sum_over (ahead_of board 9) (λ i. owed board i + gained i board quieted) ≡ 4) × (carries 9 board ≡ false)
  -- and its figures: 1 pending at the outset, 1 edge, 1 command, 1 turn; 4 is started twice and 6 twice; 5 closes, one of them of a mark, and none is
  -- open in the end
  pub levels_parts : (sum_over (ahead_of board 9) (owed board) ≡ 1) × (sum_over (edge_ahead board 9) (λ i. count (edges i) board quieted) ≡ 1)
      × (sum_over (edge_ahead board 9) (λ i. count (commands i) board quieted) ≡ 1) × (sum_over (level_ahead board 9) (λ i. count (rises i) board quieted) ≡ 1)
      × (count (starts_of 4) board quieted ≡ 2) × (count (starts_of 6) board quieted ≡ 2) × (count closes board quieted ≡ 5) × ((run board quieted).depth ≡ 0)
  -- with the handler of 4 open from before the wait, 4 is pending and not due: three starts, which the lesser bound allows, and not one more
  pub held_met : (always (waits 9) entered rest ≡ true) × Cool entered (ahead_of entered 9) rest × (count (starts_other 9) entered rest ≡ 3)
      × (sum_over (rival_of entered 9) (λ i. due entered i + gained i entered rest) ≡ 3) × (sum_over (ahead_of entered 9) (λ i. owed entered i + gained i entered rest) ≡ 4)
      × (carries 9 entered ≡ false)
  -- the premise is needed: the line of 4, and of no other source, is active at a close of its handler, and the bound is broken
  pub levels_needed : (always (waits 9) board noisy ≡ true) × (always (cool 4) board noisy ≡ false)
      × ((i : ℕ) → i < 32 → i ≢ 4 → always (cool i) board noisy ≡ true) × (count (starts_other 9) board noisy ≡ 2)
      × (sum_over (ahead_of board 9) (λ i. owed board i + gained i board noisy) ≡ 1) × (carries 9 board ≡ false)
  -- the one more is needed: source 4 is remembered at a level below its priority, and is started twice while source 9 waits, though it is pending once
  -- and its line never turns (02, 9/12)
  pub twice_met : (always (waits 9) raised twice ≡ true) × Cool raised (ahead_of raised 9) twice × (count (starts_other 9) raised twice ≡ 2)
      × (sum_over (ahead_of raised 9) (λ i. owed raised i + gained i raised twice) ≡ 1) × (carries 9 raised ≡ true)
