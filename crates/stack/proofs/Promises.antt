-- The promises of a stack size, kept.
use Prim.Native.Nat.{ℕ, ◌/◌, ◌%◌, ◌^◌, ◌≤◌, ◌<◌}
use mathlib.Core.Path.{◌≡◌, refl, sym, ap, ◌∙◌}
use mathlib.Core.Bool.{true, false}
use mathlib.Core.List.{List, [], ◌∷◌}
use mathlib.Core.Logic.{◌↔◌, ◌⊎◌, inl, inr}
use native.Mathlib.Omega.{arith}
use native.Mathlib.Decide.{ℕ_discrete}
use lib.Dec.{eqb}
use lib.ListN.{get_or}
use borrow.Author.Tests.{eq-eqb, ne_eqb}
use Rattle.words.specs.Choice.{pick}
use Rattle.words.specs.Counting.{sum_below}
use Rattle.words.specs.Word.{bit}
use Rattle.words.proofs.TruthLaws.{told, clash}
use Rattle.steps.specs.declared.Step.{Step}
use Rattle.steps.specs.declared.Step.TheVariants.{Read, Write, Line}
use Rattle.steps.specs.Refusals.{unsound}
use Rattle.aic_record.specs.declared.Aic.{Aic}
use Rattle.aic_record.specs.Mode.{priority, kind}
use Rattle.aic_record.specs.Sound.{source_at, sound}
use Rattle.aic_record.specs.Promises.{Shaped}
use Rattle.aic_record.proofs.SoundLaws.{sound-is}
use Rattle.aic_registers.specs.declared.Answer.{Answer}
use Rattle.aic.specs.Model.{step}
use Rattle.aic_runs.specs.Counted.{steady}
use Rattle.aic_runs.specs.Runs.{run, always}
use Rattle.aic_runs.proofs.SoundRuns.{run_sound}
use Rattle.stack.specs.declared.Table.{Table}
use Rattle.stack.specs.Bytes.{stack_bytes, frame_of, open_bytes, Set}
use Rattle.stack.specs.Promises.{Outset, Promises}
use Rattle.stack.proofs.BoundLaws.{set-fast, bounded, along}
use Rattle.stack.proofs.SetupLaws.{reached}
use Rattle.stack.proofs.FigureLaws.{refused-is, refused_none, within-not, answered-is, summed, most, level-mark, level-frame, level-met, bit_nought}
use Rattle.stack.proofs.PrintedLaws.{figure_text, number_text, printed, printed-refused, printed-most}
use Rattle.stack.proofs.Worked.{eight-levels, line, plain, forced, refused}
use Rattle.aic.proofs.Promises as Controller

-- of an unsound record nothing is carried out
twelve : (s : Aic) (x : Step) → sound s ≡ false → (step s x).refusal ≡ unsound
twelve s (Read o) e = ((Controller.kept).read_numbers s o).twelve.1 e
twelve s (Write o v) e = ((Controller.kept).write_numbers s o v).twelve.1 e
twelve s (Line k l) e = ((Controller.kept).line_numbers s k l).twelve.1 e

stays : (s : Aic) (x : Step) → sound s ≡ false → (step s x).aic ≡ s
stays s x e = ap (λ (a : Answer). a.aic) ((Controller.kept).refused_same s x (λ z. omega (arith, twelve s x e)))

pub run_stays : (s : Aic) (xs : List Step) → sound s ≡ false → run s xs ≡ s
unfolding run
run_stays s [] e = refl
run_stays s (x ∷ xs) e = rw (stays s x e) (run_stays s xs e)

never-more : (t : Table) (s : Aic) (xs : List Step) → Shaped s → Set t s → always steady s xs ≡ true → open_bytes t (run s xs) ≤ stack_bytes t
unfolding open_bytes
never-more t s xs h b q = go (told (sound s))
  where
    go : (sound s ≡ true) ⊎ (sound s ≡ false) → sum_below (run s xs).depth (λ d. frame_of t (source_at (run s xs) d)) ≤ stack_bytes t
    go (inl ok) =
        bounded t (run s xs) (sound-is (run s xs) (run_sound s xs h ok))
        (along t s xs h (record { levels = b.levels; forcings = set-fast t s b.forcings })
        (λ d l. absurd (omega (arith, b.none)), λ w. absurd (omega (arith, b.remembered))) q).0
    go (inr e) = rw (run_stays s xs e, b.none) (unfold sum_below in (omega arith))

-- two bits are the same exactly if the digits are
digit-same : (x y : ℕ) → x < 2 → y < 2 → eqb x 1 ≡ eqb y 1 → x ≡ y
digit-same x y l m e = go (ℕ_discrete x 1) (ℕ_discrete y 1)
  where
    go : Dec (x ≡ 1) → Dec (y ≡ 1) → x ≡ y
    go (yes p) (yes q) = omega arith
    go (no p) (no q) = omega arith
    go (yes p) (no q) = absurd (clash (sym e ∙ eq-eqb x 1 p) (ne_eqb y 1 q))
    go (no p) (yes q) = absurd (clash (e ∙ eq-eqb y 1 q) (ne_eqb x 1 p))

set_is : (t : Table) (s : Aic) → Set t s ↔ Outset t s
unfolding priority kind bit
set_is t s = (
  λ b. record {
    empty = b.none;
    forgotten = b.remembered;
    modes = λ i l. (b.levels i l, b.types i l);
    forced = λ i l m. digit-same (s.forced / 2 ^ i % 2) (t.forced / 2 ^ i % 2) (omega arith) (omega arith) (b.forcings i l m);
  },
  λ o. record {
    none = o.empty;
    remembered = o.forgotten;
    levels = λ i l. (o.modes i l).0;
    types = λ i l. (o.modes i l).1;
    forcings = λ i l m. ap (λ (x : ℕ). eqb x 1) (o.forced i l m);
  },
)

open_is : (t : Table) (s : Aic) → open_bytes t s
    ≡ sum_below s.depth (λ d. pick (eqb (get_or s.source d 0) 0) t.mark (get_or t.frame (get_or s.source d 0) 0))
unfolding open_bytes frame_of
open_is t s = refl

pub kept : Promises
kept =
    record {
      refused_is = refused-is;
      refused_none = refused_none;
      answered_is = answered-is;
      summed = summed;
      most = most;
      level_mark = level-mark;
      level_frame = level-frame;
      level_met = level-met;
      bit_nought = bit_nought;
      open_is = open_is;
      set_is = set_is;
      never_more = never-more;
      reached = λ t n. reached t (within-not t n);
      printed = printed;
      printed_refused = printed-refused;
      figure_text = figure_text;
      number_text = number_text;
      printed_most = printed-most;
      worked_board = eight-levels;
      worked_line = line;
      worked_sparse = plain;
      worked_forced = forced;
      worked_refused = refused;
    }
