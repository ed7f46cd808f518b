-- The bound of a wait on words of sources, with numbers of 32 bits, and what a step brings, as words.
use Rattle.std.specs.Prelude.{ℕ, ◌+◌, ◌-◌, Bool, false, not, ◌&&◌, ◌||◌, List, [], ◌∷◌, eqb, ltb}
use Rattle.words.specs.Choice.{pick}
use Rattle.words.specs.Counting.{count_below}
use Rattle.words.specs.Word.{bit, word_of, either, both, without, with_bit}
use Rattle.steps.specs.declared.Step.{Step}
use Rattle.steps.specs.declared.Step.TheVariants.{Read, Write, Line}
use Rattle.aic_record.specs.declared.Aic.{Aic}
use Rattle.aic_record.specs.Mode.{edge}
use Rattle.aic_record.specs.Sound.{source_at}
use Rattle.aic_sources.specs.Pending.{active, pending, edge_word}
use Rattle.aic_registers.specs.Map.{svr, iscr, eoicr, ffer, ffdr}
use Rattle.aic_registers.specs.Effects.{turns}
use Rattle.aic.specs.Model.{step}
use Rattle.aic_runs.specs.Counted.{edges, rewrites}
use Rattle.aic_runs.specs.Turns.{closes_hot, held}
use Rattle.aic_waits.specs.Figures.{wait_after}
use Rattle.aic_waits.specs.Following.{capped}
use Rattle.aic_bounds.specs.declared.Bound.{Bound}
use Rattle.aic_bounds.specs.declared.Marks.{Marks}
use Rattle.aic_bounds.specs.Bounds.{sets, lifts, idle, enabled_of, fresh}

-- source i is due a start
unfoldable pub dues : Aic → ℕ → Bool
dues s i = pending s i && (edge s i || not (held s i))

-- what a step brings
abbrev pub marks_of : Aic → Step → Marks
marks_of s x =
    record {
      edges = word_of 32 (λ i. edges i s x);
      commands = word_of 32 (λ i. sets i s x);
      turns = word_of 32 (λ i. lifts i s x);
      closed = word_of 32 (λ i. closes_hot i s x);
      rewrote = rewrites s x;
    }

-- n and the number of sources that two words share; a count that would pass the largest number of 32 bits stays there
abbrev pub plus : ℕ → ℕ → ℕ → ℕ
plus n a b = capped (n + count_below 32 (bit (both a b)))

-- a wait that goes on, to the record t
abbrev pub grown_by : ℕ → Bound → ℕ → Marks → Aic → Bound
grown_by w b n m t =
    record {
      wait = w;
      rivals = b.rivals;
      on = either b.on (enabled_of b.rivals t);
      pending = plus b.pending (without (enabled_of b.rivals t) b.on) (word_of 32 (dues t));
      edges = plus b.edges b.on m.edges;
      commands = plus b.commands b.on m.commands;
      turns = plus b.turns b.on m.turns;
      closed = plus b.closed b.on m.closed;
      remembered = b.remembered;
      broke = pick (eqb b.broke 0 && m.rewrote) n b.broke;
    }

-- after a step that brought m, to the record t
unfoldable pub bound_by : ℕ → ℕ → ℕ → Bound → Marks → Aic → Bound
bound_by k w n b m t = pick (ltb w 2) (idle w) (pick (ltb b.wait 2) (fresh k t) (grown_by w b n m t))

-- after a run, n steps having gone before
unfoldable pub bound_followed : ℕ → ℕ → Bound → Aic → List Step → Bound
bound_followed k n b s [] = b
bound_followed k n b s (x ∷ xs) =
    bound_followed k (n + 1) (bound_by k (wait_after k b.wait s x) (n + 1) b (marks_of s x) (step s x).aic) (step s x).aic xs

-- ---- what a step brings, by whether it is carried out

abbrev pub no_marks : Marks
no_marks = record { edges = 0; commands = 0; turns = 0; closed = 0; rewrote = false }

-- source i is j, level-sensitive, and its line is active; source 0 is a mark's (02, 3/12)
unfoldable pub hot_last : Aic → ℕ → ℕ → Bool
hot_last s j i = not (eqb i 0) && eqb j i && not (edge s i) && active s i

-- a write of v at the offset o
abbrev pub write_marks : Bool → Aic → ℕ → ℕ → Marks
write_marks c s o v =
    record {
      edges = 0;
      commands = pick (c && eqb o iscr) (both v (edge_word s)) 0;
      turns = 0;
      closed = pick (c && eqb o eoicr && not (eqb s.depth 0)) (word_of 32 (hot_last s (source_at s (s.depth - 1)))) 0;
      rewrote = c && (ltb o svr || eqb o ffer || eqb o ffdr);
    }

-- the line of source k goes to the level l
abbrev pub line_marks : Bool → Aic → ℕ → ℕ → Marks
line_marks c s k l =
    record {
      edges = with_bit 0 k (c && turns s k (eqb l 1) && edge s k);
      commands = 0;
      turns = with_bit 0 k (c && turns s k (eqb l 1) && not (edge s k));
      closed = 0;
      rewrote = false;
    }

-- of a step x; c says that it is carried out
unfoldable pub marks_by : Bool → Aic → Step → Marks
marks_by c s (Read o) = no_marks
marks_by c s (Write o v) = write_marks c s o v
marks_by c s (Line k l) = line_marks c s k l
