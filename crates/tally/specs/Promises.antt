-- What is promised of the figures of a trace.
use Rattle.std.specs.Prelude.{ℕ, ◌+◌, ◌≤◌, ◌<◌, ◌≡◌, Bool, not, List, [], ◌∷◌, ◌≢◌, eqb, get_or, length}
use Rattle.words.specs.Counting.{one}
use Rattle.steps.specs.declared.Recorded.{Recorded}
use Rattle.steps.specs.declared.Step.{Step}
use Rattle.trace.specs.declared.Turn.TheVariants.{Found}
use Rattle.trace.specs.Steps.{step_at}
use Rattle.trace.specs.Promises.{made, Ends}
use Rattle.kinds.specs.Kinds.{tells_privilege}
use Rattle.aic_record.specs.declared.Aic.{Aic}
use Rattle.aic_waits.specs.Figures.{started_of, waited_of, entries_of}
use Rattle.machine.specs.declared.record.Machine.{Machine}
use Rattle.machine.specs.Steps.{step}
use Rattle.beginning.specs.Begin.{begin_of}
use Rattle.beginning.specs.Play.{records_of, play_of}
use Rattle.totals.specs.Promises.{Whole, Source}
use Rattle.tally.specs.Tally.{refused_in, steps_in, tally_of}

-- the AIC that a trace begins with, and the steps that are played on it
abbrev pub aic_of : List ℕ → Aic
aic_of s = (begin_of s).machine.aic

abbrev pub played_of : List ℕ → ℕ → List Step
played_of s limit = steps_in (records_of s limit).steps

-- these steps stand in a trace one after the other from a place on, by whatever privilege each is made, and then comes the place p
abbrev pub Holds : Bool → List ℕ → ℕ → List Step → ℕ → Type 0
Holds told s at [] p = at ≡ p
Holds told s at (x ∷ xs) p = (privilege : ℕ) × (next : ℕ) × (step_at told s at ≡ Found (made x privilege) next) × Holds told s next xs p

pub record Promises : Type 0 where
  -- the steps played, the number of E and its offset are those of the player (02, 11/12)
  pub played : (s : List ℕ) (limit : ℕ)
      → ((tally_of s limit).steps ≡ (play_of s limit).steps) × ((tally_of s limit).refusal ≡ (play_of s limit).refusal) × ((tally_of s limit).offset ≡ (play_of s limit).offset)
  -- the steps refused are those that the machine refuses as they are played, each in the machine that it meets (02, 11/12)
  pub refused : (s : List ℕ) (limit : ℕ) → (tally_of s limit).refused ≡ refused_in (begin_of s).machine (records_of s limit).steps
  pub refused_none : (m : Machine) → refused_in m [] ≡ 0
  pub refused_more : (m : Machine) (x : Recorded) (xs : List Recorded) → refused_in m (x ∷ xs) ≡ one (not (eqb (step m x).refusal 0)) + refused_in (step m x).machine xs
  -- no more than are played
  pub refused_most : (s : List ℕ) (limit : ℕ) → (tally_of s limit).refused ≤ (tally_of s limit).steps
  -- the steps over which the figures go are those that the trace holds behind its beginning, from the first to where it ends, whether the machine refuses
  -- them or not, and as many as are played; none where it has no beginning (01, House trace; 02, 11/12)
  pub follows : (s : List ℕ) (limit : ℕ) → (begin_of s).refusal ≡ 0
      → (p : ℕ) × Holds (tells_privilege (begin_of s).machine.kind) s (begin_of s).place (played_of s limit) p
      × Ends (tells_privilege (begin_of s).machine.kind) limit s (length (played_of s limit)) p (tally_of s limit).refusal (tally_of s limit).offset
  pub follows_all : (s : List ℕ) (limit : ℕ) → length (played_of s limit) ≡ (tally_of s limit).steps
  -- of an AIC each figure of each source is its definition over the steps played, from the record that the trace begins with (02, 11/12)
  pub figure : (s : List ℕ) (limit i : ℕ) → (begin_of s).machine.kind ≡ 0 → i < 32
      → Source (tally_of s limit).figures i (started_of i (aic_of s) (played_of s limit)) (waited_of i (aic_of s) (played_of s limit)) (entries_of i (aic_of s) (played_of s limit))
  -- of other kinds it is 0, and so where no configuration is accepted (02, 11/12)
  pub other_kinds : (s : List ℕ) (limit i : ℕ) → (begin_of s).machine.kind ≢ 0 → Source (tally_of s limit).figures i 0 0 0
  pub not_begun : (s : List ℕ) (limit i : ℕ) → (begin_of s).refusal ≢ 0 → ((tally_of s limit).steps ≡ 0) × ((tally_of s limit).refused ≡ 0) × Source (tally_of s limit).figures i 0 0 0
  -- there are 32 of each
  pub sources : (s : List ℕ) (limit : ℕ) → Whole (tally_of s limit).figures
  -- source 0 has none (01, AIC, Fast side), never more than eight entries are open (demand 3), and no source is started more often than there are steps
  pub zero : (s : List ℕ) (limit : ℕ) → Source (tally_of s limit).figures 0 0 0 0
  pub eight : (s : List ℕ) (limit i : ℕ) → i < 32 → get_or (tally_of s limit).figures.entries i 0 ≤ 8
  pub most : (s : List ℕ) (limit i : ℕ) → i < 32 → get_or (tally_of s limit).figures.started i 0 ≤ (tally_of s limit).steps
  -- a trace has no more steps than bytes, so no count of 32 bits is ever short (01, Numbers, 11)
  pub short : (s : List ℕ) (limit : ℕ) → (tally_of s limit).steps ≤ 65536
