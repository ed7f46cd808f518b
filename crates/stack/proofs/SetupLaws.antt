-- From reset the forcing, the enables and the 32 modes of a table are written, and from there the levels are climbed.
use Prim.Native.Nat.{ℕ, zero, suc, ◌+◌, ◌*◌, ◌/◌, ◌≤◌, ◌<◌}
use mathlib.Core.Path.{◌≡◌, refl, sym, ap, ◌∙◌, subst}
use mathlib.Core.Bool.{Bool, true, false, not, ◌&&◌, ◌||◌}
use mathlib.Core.List.{List, [], ◌∷◌}
use mathlib.Core.Logic.{◌⊎◌, inl, inr}
use native.Mathlib.Omega.{arith}
use native.Mathlib.Decide.{ℕ_discrete}
use lib.Dec.{eqb}
use lib.ListN.{get_or, set}
use lib.Seq.{get_or-set_same, get_or-set_other}
use borrow.Author.Tests.{ne_eqb}
use Rattle.words.specs.Counting.{sum_below}
use Rattle.words.specs.Word.{bit, word_of}
use Rattle.words.proofs.TruthLaws.{and_left, or_right, clash, not-holds, told}
use Rattle.words.proofs.WordLaws.{bit-none, bit-word_of}
use Rattle.steps.specs.declared.Step.{Step}
use Rattle.steps.specs.declared.Step.TheVariants.{Write}
use Rattle.aic_record.specs.declared.Aic.{Aic}
use Rattle.aic_record.specs.Record.{with_enabled, with_memory, with_forced, with_mode, reset}
use Rattle.aic_record.specs.Mode.{priority, kind, edge, type_of, priority_of, kept_mode}
use Rattle.aic_record.specs.Sound.{no_level, level_below, protects, sound}
use Rattle.aic_record.specs.Promises.{Shaped}
use Rattle.aic_record.proofs.PassLaws.{floor-free}
use Rattle.aic_record.proofs.SoundLaws.{below_none}
use Rattle.aic_sources.specs.Pending.{pending}
use Rattle.aic_sources.proofs.HandlerLaws.{waiting-is}
use Rattle.aic_registers.specs.declared.Answer.{Answer}
use Rattle.aic_registers.specs.Map.{ffer, iecr}
use Rattle.aic.specs.Model.{step, write}
use Rattle.aic.specs.Tables.{Sets}
use Rattle.aic_runs.specs.Runs.{run}
use Rattle.stack.specs.declared.Table.{Table}
use Rattle.stack.specs.Bytes.{open_bytes, within_limits, Set}
use Rattle.stack.specs.Promises.{Reached}
use Rattle.stack.proofs.SumLaws.{level_small, kind_small}
use Rattle.stack.proofs.BoundLaws.{set-fast}
use Rattle.stack.proofs.ClimbLaws.{rank, Tower, Climbed, climb}
use Rattle.aic_record.proofs.Promises as Record
use Rattle.aic_sources.proofs.Promises as Sources
use Rattle.aic.proofs.Promises as Controller

-- outside protect mode no entry is open, all lines are low, no edge and no source is remembered, all sources are enabled; the forcing is the
-- table's, and so are the modes below n
pub record Ready (t : Table) (n : ℕ) (u : Aic) : Type 0 where
  pub shaped : Shaped u
  pub ok : sound u ≡ true
  pub outside : protects u ≡ false
  pub remembered : u.seen.what ≡ 0
  pub inner : u.external ≡ 0
  pub dark : u.lines ≡ 0
  pub blank : (i : ℕ) → i < 32 → bit u.memory i ≡ false
  pub lit : (i : ℕ) → i < 32 → bit u.enabled i ≡ true
  pub forcings : (i : ℕ) → 1 ≤ i → i < 32 → bit u.forced i ≡ bit t.forced i
  pub empty : u.depth ≡ 0
  pub modes : (i : ℕ) → i < n → (priority u i ≡ get_or t.priority i 0) × (kind u i ≡ get_or t.kind i 0)

-- ---- a mode is written

abbrev mode_of : Table → ℕ → ℕ
mode_of t n = get_or t.kind n 0 * 32 + get_or t.priority n 0

priority_of_lem : (k p : ℕ) → p ≤ 7 → priority_of (k * 32 + p) ≡ p
priority_of_lem k p b = omega arith

type_of_lem : (k p : ℕ) → k ≤ 3 → p ≤ 7 → type_of (k * 32 + p) ≡ k
type_of_lem k p a b =
    let d : (k * 32 + p) / 32 ≡ k = omega arith in
    rw d (omega arith)

-- the mode of source n is put anew, and of what was remembered w is left
abbrev put_mode : Aic → ℕ → ℕ → ℕ → Aic
put_mode u n v w = with_mode (with_memory u w) (set u.mode n (kept_mode v))

pub record Put (u : Aic) (n v : ℕ) : Type 0 where
  pub word : ℕ
  pub is : (step u (Write (n * 4) v)).aic ≡ put_mode u n v word
  pub fewer : (i : ℕ) → i < 32 → bit word i ≡ true → bit u.memory i ≡ true

putting : (u : Aic) (n v : ℕ) → sound u ≡ true → n < 32 → Put u n v
putting u n v ok l = go (ℕ_discrete (kind u n) (type_of v))
  where
    go : Dec (kind u n ≡ type_of v) → Put u n v
    go (yes e) =
        record {
          word = u.memory;
          is = ap (λ (a : Answer). a.aic) (((Controller.kept).writes u v ok).reranked n l e);
          fewer = λ i m z. z;
        }
    go (no d) =
        let r = ((Controller.kept).writes u v ok).retyped n l d in
        record {
          word = r.word;
          is = ap (λ (a : Answer). a.aic) r.done;
          fewer = λ i m z. and_left (bit u.memory i) _ (sym (r.bits i m) ∙ z);
        }

module _ (t : Table) (n : ℕ) (u : Aic) (small : n < 32) (p : get_or t.priority n 0 ≤ 7) (k : get_or t.kind n 0 ≤ 3) (r : Ready t n u) where
  abbrev Val : ℕ
  Val = mode_of t n

  put : Put u n Val
  put = putting u n Val r.ok small

  abbrev Next : Aic
  Next = put_mode u n Val put.word

  kept-is : (priority_of (kept_mode Val) ≡ get_or t.priority n 0) × (type_of (kept_mode Val) ≡ get_or t.kind n 0)
  kept-is =
      let f = (Record.kept).kept_fields Val in
      (f.0 ∙ priority_of_lem (get_or t.kind n 0) (get_or t.priority n 0) p, f.1 ∙ type_of_lem (get_or t.kind n 0) (get_or t.priority n 0) k p)

  set_modes : (i : ℕ) → i < suc n → (priority Next i ≡ get_or t.priority i 0) × (kind Next i ≡ get_or t.kind i 0)
  unfolding priority kind
  set_modes i l = go (ℕ_discrete i n)
    where
      go : Dec (i ≡ n) → (priority_of (get_or (set u.mode n (kept_mode Val)) i 0) ≡ get_or t.priority i 0) × (type_of (get_or (set u.mode n (kept_mode Val)) i 0) ≡ get_or t.kind i 0)
      go (yes e) = rw (e, get_or-set_same u.mode n (kept_mode Val) 0 (omega (arith, r.shaped.0))) kept-is
      go (no d) = rw (get_or-set_other u.mode n i (kept_mode Val) 0 d) (unfold priority kind in (r.modes i (omega arith)))

  blanks : (i : ℕ) → i < 32 → bit put.word i ≡ false
  blanks i l = not-holds (bit put.word i) (λ z. clash (put.fewer i l z) (r.blank i l))

  ready-more : Ready t (suc n) (step u (Write (n * 4) Val)).aic
  ready-more =
      rw put.is (record {
        shaped = subst Shaped put.is ((Controller.kept).step_shaped u (Write (n * 4) Val) r.shaped);
        ok = subst (λ (v : Aic). sound v ≡ true) put.is ((Controller.kept).step_sound u (Write (n * 4) Val) r.shaped r.ok);
        outside = r.outside;
        remembered = r.remembered;
        inner = r.inner;
        dark = r.dark;
        blank = blanks;
        lit = r.lit;
        forcings = r.forcings;
        empty = r.empty;
        modes = set_modes;
      })

-- what the modes are set by
pub record Settled (t : Table) (u : Aic) : Type 0 where
  pub steps : List Step
  pub ready : Ready t 32 (run u steps)

all_set : (t : Table) (n : ℕ) (u : Aic) → n ≡ 32 → Ready t n u → Ready t 32 (run u [])
unfolding run
all_set t n u e r = subst (λ (m : ℕ). Ready t m u) e r

settle : (t : Table) → within_limits t ≡ true → (k n : ℕ) (u : Aic) → k + n ≡ 32 → Ready t n u → Settled t u
settle t fits zero n u e r = record { steps = []; ready = all_set t n u (omega arith) r }
settle t fits (suc k) n u e r =
    go (settle t fits k (suc n) (step u (Write (n * 4) (mode_of t n))).aic (omega arith)
    (ready-more t n u (omega arith) (level_small t fits n (omega arith)) (kind_small t fits n (omega arith)) r))
  where
    go : Settled t (step u (Write (n * 4) (mode_of t n))).aic → Settled t u
    go s = record { steps = Write (n * 4) (mode_of t n) ∷ s.steps; ready = unfold run in s.ready }

-- ---- the forcing and the enables are written

abbrev all : ℕ
all = word_of 32 (λ i. true)

abbrev prepared : Table → Aic
prepared t = (step (step (reset 0 0) (Write ffer t.forced)).aic (Write iecr all)).aic

module _ (t : Table) where
  abbrev R : Aic
  R = reset 0 0

  ok_r : sound R ≡ true
  ok_r = (Record.kept).reset_sound 0 0

  shaped_r : Shaped R
  shaped_r = (Record.kept).reset_shaped 0 0

  forces : Sets (write R ffer t.forced) 0 R.forced (with_forced R) (λ k. bit R.forced k || (bit t.forced k && not (eqb k 0)))
  forces = ((Controller.kept).writes R t.forced ok_r).forces

  abbrev F : Aic
  F = with_forced R forces.word

  forced-is : (step R (Write ffer t.forced)).aic ≡ F
  forced-is = ap (λ (a : Answer). a.aic) forces.done

  ok_f : sound F ≡ true
  ok_f = subst (λ (v : Aic). sound v ≡ true) forced-is ((Controller.kept).step_sound R (Write ffer t.forced) shaped_r ok_r)

  shaped_f : Shaped F
  shaped_f = subst Shaped forced-is ((Controller.kept).step_shaped R (Write ffer t.forced) shaped_r)

  lights : Sets (write F iecr all) 0 F.enabled (with_enabled F) (λ k. bit F.enabled k || bit all k)
  lights = ((Controller.kept).writes F all ok_f).enables

  abbrev L : Aic
  L = with_enabled F lights.word

  lit_is : (step F (Write iecr all)).aic ≡ L
  lit_is = ap (λ (a : Answer). a.aic) lights.done

  kept-bit : (b : Bool) → (false || (b && not false)) ≡ b
  kept-bit true = refl
  kept-bit false = refl

  first_forcing : (i : ℕ) → 1 ≤ i → i < 32 → bit L.forced i ≡ bit t.forced i
  first_forcing i p l = forces.bits i l ∙ unfold reset in (rw (bit-none i, ne_eqb i 0 (λ z. omega arith)) (kept-bit (bit t.forced i)))

  ready_l : Ready t 0 L
  ready_l =
      record {
        shaped = subst Shaped lit_is ((Controller.kept).step_shaped F (Write iecr all) shaped_f);
        ok = subst (λ (v : Aic). sound v ≡ true) lit_is ((Controller.kept).step_sound F (Write iecr all) shaped_f ok_f);
        outside = unfold reset in (bit-none 0);
        remembered = unfold reset in refl;
        inner = unfold reset in refl;
        dark = unfold reset in refl;
        blank = λ i l. unfold reset in (bit-none i);
        lit = λ i l. lights.bits i l ∙ or_right (bit F.enabled i) (bit-word_of 32 (λ k. true) i l);
        forcings = first_forcing;
        empty = unfold reset in refl;
        modes = λ i l. absurd (omega arith);
      }

  pub first : Ready t 0 (prepared t)
  first = subst (λ (v : Aic). Ready t 0 (step v (Write iecr all)).aic) (sym forced-is) (subst (Ready t 0) (sym lit_is) ready_l)

-- ---- the ground of the tower

module _ (t : Table) (u : Aic) (r : Ready t 32 u) where
  low-line : (i : ℕ) → bit u.lines i ≡ false
  low-line i = rw r.dark (bit-none i)

  none_pends : (i : ℕ) → i < 32 → pending u i ≡ false
  none_pends i l = go (told (edge u i))
    where
      go : (edge u i ≡ true) ⊎ (edge u i ≡ false) → pending u i ≡ false
      go (inl e) = (Sources.kept).edge_pending u i e ∙ r.blank i l
      go (inr e) = (Sources.kept).level_pending u i e ∙ (Sources.kept).high_active u i (inl (rw r.inner (bit-none i))) ∙ low-line i

  no-rank : rank u ≡ 0
  no-rank = rw r.empty (sym (floor-free no_level (level_below u.level 0) (sym (below_none u.level)) refl))

  ground : Tower t 0 u
  ground =
      record {
        shaped = r.shaped;
        ok = r.ok;
        agrees = record { levels = λ i l. (r.modes i l).0; forcings = set-fast t u r.forcings };
        outside = r.outside;
        inner = r.inner;
        lit = r.lit;
        tall = r.empty;
        capped = omega (arith, no-rank);
        low = λ i l p. low-line i;
        calm = λ i l q. clash (waiting-is u i q).0 (none_pends i l);
        sum = unfold open_bytes sum_below in (rw r.empty);
      }

  begins : Set t u
  begins = record { none = r.empty; remembered = omega (arith, r.remembered); levels = λ i l. (r.modes i l).0; types = λ i l. (r.modes i l).1; forcings = r.forcings }

joined : (t : Table) (s : Settled t (prepared t)) → Climbed t (run (prepared t) s.steps) → Reached t
unfolding run
joined t s c =
    record {
      setup = Write ffer t.forced ∷ Write iecr all ∷ s.steps;
      steps = c.steps;
      begins = begins t (run (prepared t) s.steps) s.ready;
      held = c.held;
      full = c.full;
    }

pub reached : (t : Table) → within_limits t ≡ true → Reached t
reached t fits =
    let s = settle t fits 32 0 (prepared t) refl (first t) in
    joined t s (climb t 8 0 (run (prepared t) s.steps) refl (ground t (run (prepared t) s.steps) s.ready))
