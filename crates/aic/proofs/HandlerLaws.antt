-- The steps that may clear or set one memory: starts, vector reads, mode writes and line steps.
use Prim.Native.Nat.{ℕ, ◌+◌, ◌^◌, ◌<◌, ◌≤◌}
use mathlib.Core.Path.{◌≡◌, refl, sym, ap, ◌∙◌}
use mathlib.Core.Bool.{Bool, true, false, not, ◌&&◌, ◌||◌, and-true, and-false}
use mathlib.Core.Logic.{◌≢◌, ◌⊎◌, inl, inr}
use native.Mathlib.Omega.{arith}
use lib.Dec.{eqb, ltb}
use lib.ListN.{set}
use borrow.Author.Tests.{ne_eqb, lt-ltb, le-ltb, le-leb}
use Rattle.words.specs.Choice.{pick}
use Rattle.words.specs.Word.{bit, with_bit}
use Rattle.words.proofs.ChoiceLaws.{pick_cases}
use Rattle.words.proofs.TruthLaws.{or_right, clash, not-holds}
use Rattle.words.proofs.CountingLaws.{some_any, any_none}
use Rattle.steps.specs.Refusals.{read_refusal, line_refusal}
use Rattle.aic_record.specs.declared.Aic.{Aic}
use Rattle.aic_record.specs.Record.{with_lines, with_memory, with_mode, with_handlers}
use Rattle.aic_record.specs.Mode.{type_of, kept_mode, priority, kind, edge}
use Rattle.aic_record.specs.Sound.{level_below, protects, sound}
use Rattle.aic_sources.specs.Pending.{pending, active_low, active_at, active}
use Rattle.aic_sources.specs.Fast.{fast, fast_asks}
use Rattle.aic_sources.specs.Normal.{candidate, candidates, chosen}
use Rattle.aic_sources.specs.Promises.{AheadOfOthers}
use Rattle.aic_sources.proofs.FastLaws.{fast-some, some-fast}
use Rattle.aic_sources.proofs.HandlerLaws.{candidate-waits, waiting-is, candidate-room}
use Rattle.aic_sources.proofs.OrderLaws.{chosen_is, chosen-one}
use Rattle.aic_registers.specs.declared.Answer.{Answer}
use Rattle.aic_registers.specs.Map.{ivr, fvr, access}
use Rattle.aic_registers.specs.Handlers.{answered, forgotten, spent, opened, started_at, marked, vector_at, ivr_taken, ivr_looked, ivr_read, fast_spent, fvr_read}
use Rattle.aic_registers.specs.Effects.{moded, turns, moved}
use Rattle.aic_registers.specs.Registers.{read_at}
use Rattle.aic.specs.Model.{read_number, line_number, read, line}
use Rattle.aic.specs.Tables.{Sets}
use Rattle.words.proofs.WordLaws.{bit-cleared_if, bit-put_if, with_bit_lt}

-- ---- the record after each, with one memory cleared or set where a test holds

pub spent-is : (s : Aic) (k : ℕ) → spent s k ≡ with_memory s (pick (edge s k) (with_bit s.memory k false) s.memory)
unfolding spent pick
spent-is s k = go (edge s k)
  where
    go : (t : Bool) → pick t (forgotten s k) s ≡ with_memory s (pick t (with_bit s.memory k false) s.memory)
    go true = refl
    go false = refl

pub fast-spent-is : (s : Aic) → fast_spent s ≡ with_memory s (pick (edge s 0 && eqb s.forced 0) (with_bit s.memory 0 false) s.memory)
unfolding fast_spent pick spent
fast-spent-is s = go (eqb s.forced 0) (edge s 0)
  where
    go : (f t : Bool) → pick f (pick t (forgotten s 0) s) s ≡ with_memory s (pick (t && f) (with_bit s.memory 0 false) s.memory)
    go true true = refl
    go true false = refl
    go false true = refl
    go false false = refl

pub moved-is : (s : Aic) (k : ℕ) (high : Bool)
    → moved s k high ≡ with_lines (with_memory s (pick (edge s k && turns s k high) (with_bit s.memory k true) s.memory)) (with_bit s.lines k high)
unfolding moved pick
moved-is s k high = go (edge s k && turns s k high)
  where
    go : (t : Bool) → with_lines (pick t (with_memory s (with_bit s.memory k true)) s) (with_bit s.lines k high)
        ≡ with_lines (with_memory s (pick t (with_bit s.memory k true) s.memory)) (with_bit s.lines k high)
    go true = refl
    go false = refl

pub moded-is : (s : Aic) (k v : ℕ) → moded s k v
    ≡ with_mode (with_memory s (pick (not (eqb (kind s k) (type_of v))) (with_bit s.memory k false) s.memory)) (set s.mode k (kept_mode v))
unfolding moded pick
moded-is s k v = go (eqb (kind s k) (type_of v))
  where
    go : (t : Bool) → with_mode (pick t s (forgotten s k)) (set s.mode k (kept_mode v))
        ≡ with_mode (with_memory s (pick (not t) (with_bit s.memory k false) s.memory)) (set s.mode k (kept_mode v))
    go true = refl
    go false = refl

-- a start, as the record with one more handler
pub started-is : (s : Aic) (k p : ℕ) → started_at s k p
    ≡ with_handlers (with_memory s (pick (edge s k) (with_bit s.memory k false) s.memory)) (set s.source s.depth k) (set s.level s.depth p) (s.depth + 1)
unfolding started_at opened
started-is s k p = rw (spent-is s k)

-- a word of 32 bits stays one where one of its bits may be put anew
pub put-below : (w k : ℕ) (b t : Bool) → w < 2 ^ 32 → pick t (with_bit w k b) w < 2 ^ 32
put-below w k b t l = pick_cases (λ (n : ℕ). n < 2 ^ 32) t (λ _. with_bit_lt w k b) (λ _. l)

-- ---- reads of IVR outside protect mode

module _ (s : Aic) (ok : sound s ≡ true) where
  pub ivr-done : read s ivr ≡ ivr_read s
  unfolding read read_number read_refusal access read_at pick
  ivr-done = rw ok

  ivr-taken : protects s ≡ false → read s ivr ≡ ivr_taken s
  unfolding ivr_read pick
  ivr-taken o = ivr-done ∙ rw o

  fvr-done : read s fvr ≡ fvr_read s
  unfolding read read_number read_refusal access read_at pick
  fvr-done = rw ok

  pub vector-read : (k : ℕ) → protects s ≡ false → k < 32 → candidate s k ≡ true → AheadOfOthers s k
      → Sets (read s ivr) (vector_at s k) s.memory
      (λ w. with_handlers (with_memory s w) (set s.source s.depth k) (set s.level s.depth (priority s k)) (s.depth + 1))
      (λ j. bit s.memory j && not (eqb j k && edge s k))
  unfolding ivr_taken candidates pick
  vector-read k o l c h =
      record {
        word = pick (edge s k) (with_bit s.memory k false) s.memory;
        done = ivr-taken o
            ∙ rw (some_any 32 (candidate s) k l c, chosen-one s k (record { below = l; fit = c; first = h }), started-is s k (priority s k));
        bits = bit-cleared_if s.memory k (edge s k);
        below = put-below s.memory k false (edge s k);
      }

  pub vector-spurious : protects s ≡ false → s.depth < 8 → ((k : ℕ) → k < 32 → candidate s k ≡ false)
      → read s ivr ≡ answered (with_handlers s (set s.source s.depth 0) (set s.level s.depth (level_below s.level s.depth)) (s.depth + 1)) s.spurious
  unfolding ivr_taken candidates marked opened pick
  vector-spurious o l h = ivr-taken o ∙ rw (any_none 32 (candidate s) h, lt-ltb s.depth 8 l)

  pub vector_full : protects s ≡ false → 8 ≤ s.depth → read s ivr ≡ answered s s.spurious
  unfolding ivr_taken candidates marked pick
  vector_full o l =
      ivr-taken o
      ∙ rw (any_none 32 (candidate s) (λ k m. not-holds (candidate s k) (λ c. omega (arith, candidate-room s k c))), le-ltb s.depth 8 l)

  -- ---- reads of FVR

  pub fast-read : (k : ℕ) → k < 32 → fast s k ≡ true → pending s k ≡ true → bit s.enabled k ≡ true
      → Sets (read s fvr) (vector_at s 0) s.memory (with_memory s) (λ j. bit s.memory j && not (eqb j 0 && (edge s 0 && eqb s.forced 0)))
  unfolding fvr_read pick
  fast-read k l f p e =
      record {
        word = pick (edge s 0 && eqb s.forced 0) (with_bit s.memory 0 false) s.memory;
        done = fvr-done ∙ rw (some-fast s k l f p e, fast-spent-is s);
        bits = bit-cleared_if s.memory 0 (edge s 0 && eqb s.forced 0);
        below = put-below s.memory 0 false (edge s 0 && eqb s.forced 0);
      }

  pub fast-spurious : ((k : ℕ) → k < 32 → fast s k ≡ true → pending s k ≡ true → bit s.enabled k ≡ false) → read s fvr ≡ answered s s.spurious
  unfolding fvr_read pick
  fast-spurious h = fvr-done ∙ rw (not-holds (fast_asks s) (λ e. let r = fast-some s e in clash r.4 (h r.0 r.1 r.2 r.3)))

  -- ---- line steps

  pub line_moves : (k l : ℕ) → k < 32 → l ≤ 1
      → Sets (line s k l) 0 s.memory (λ w. with_lines (with_memory s w) (with_bit s.lines k (eqb l 1)))
      (λ j. bit s.memory j || (eqb j k && (edge s k && turns s k (eqb l 1))))
  unfolding line line_number line_refusal pick
  line_moves k l m n =
      record {
        word = pick (edge s k && turns s k (eqb l 1)) (with_bit s.memory k true) s.memory;
        done = rw (ok, lt-ltb k 32 m, le-leb l 1 n, moved-is s k (eqb l 1));
        bits = bit-put_if s.memory k (edge s k && turns s k (eqb l 1));
        below = put-below s.memory k true (edge s k && turns s k (eqb l 1));
      }

-- a forced source is fast, so it is not the one that a read of IVR starts
started_forced : (s : Aic) (j : ℕ) → j < 32 → bit s.forced j ≡ true → candidates s ≡ true
    → bit (started_at s (chosen s) (priority s (chosen s))).memory j ≡ bit s.memory j
unfolding fast
started_forced s j l b c =
    rw (started-is s (chosen s) (priority s (chosen s)), bit-cleared_if s.memory (chosen s) (edge s (chosen s)) j l, ne_eqb j (chosen s) other)
    (and-true (bit s.memory j))
  where
    normal : fast s (chosen s) ≡ false
    normal = (waiting-is s (chosen s) (candidate-waits s (chosen s) (chosen_is s c).fit)).2

    other : j ≢ chosen s
    other e = clash (or_right (eqb (chosen s) 0) (ap (bit s.forced) (sym e) ∙ b)) normal

pub vector_forced : (s : Aic) (j : ℕ) → j < 32 → bit s.forced j ≡ true → bit (read s ivr).aic.memory j ≡ bit s.memory j
unfolding read read_at ivr_read ivr_looked ivr_taken marked opened pick
vector_forced s j l b =
    pick_cases A (eqb (read_number s ivr) 0)
    (λ _. pick_cases A (protects s) (λ _. pick_cases A (candidates s) (λ _. refl) (λ _. refl))
    (λ _. pick_cases A (candidates s) (started_forced s j l b) (λ _. pick_cases (λ (t : Aic). bit t.memory j ≡ bit s.memory j) (ltb s.depth 8) (λ _. refl) (λ _. refl))))
    (λ _. refl)
  where
    A : Answer → Type 0
    A a = bit a.aic.memory j ≡ bit s.memory j

-- with a forced source a read of FVR changes nothing
pub fast_forced : (s : Aic) → s.forced ≢ 0 → (read s fvr).aic ≡ s
unfolding read read_at fvr_read fast_spent pick
fast_forced s d =
    pick_cases (λ (a : Answer). a.aic ≡ s) (eqb (read_number s fvr) 0)
    (λ _. pick_cases (λ (a : Answer). a.aic ≡ s) (fast_asks s) (λ _. rw (ne_eqb s.forced 0 d)) (λ _. refl)) (λ _. refl)

pub line_repeated : (s : Aic) (k : ℕ) → turns s k (bit s.lines k) ≡ false
unfolding turns active
line_repeated s k = go (active s k)
  where
    go : (t : Bool) → (not t && t) ≡ false
    go true = refl
    go false = refl

-- what an edge is: a fall of the line of an external source of type 0 or 1, a rise of any other
pub edge-falls : (s : Aic) (k : ℕ) (high : Bool) → bit s.external k ≡ true → kind s k < 2 → turns s k high ≡ (bit s.lines k && not high)
unfolding turns active active_at active_low pick
edge-falls s k high e l = rw (e, lt-ltb (kind s k) 2 l) (go (bit s.lines k))
  where
    go : (b : Bool) → (not (not b) && not high) ≡ (b && not high)
    go true = refl
    go false = refl

pub edge-rises : (s : Aic) (k : ℕ) (high : Bool) → (bit s.external k ≡ false) ⊎ (2 ≤ kind s k) → turns s k high ≡ (not (bit s.lines k) && high)
unfolding turns active active_at active_low pick
edge-rises s k high (inl e) = rw e
edge-rises s k high (inr l) = rw (le-ltb (kind s k) 2 l, and-false (bit s.external k))
