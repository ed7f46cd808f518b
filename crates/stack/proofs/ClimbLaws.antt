-- Level by level the source with the largest frame is raised and started, or a mark is opened: the open frames come to the stack bytes.
use Prim.Native.Nat.{ℕ, zero, suc, ◌+◌, ◌≤◌, ◌<◌, max}
use mathlib.Core.Path.{◌≡◌, refl, sym, ap, ◌∙◌, subst}
use mathlib.Core.Bool.{true, false, not, ◌&&◌, ◌||◌}
use mathlib.Core.List.{List, [], ◌∷◌}
use mathlib.Core.Logic.{◌≢◌, ◌⊎◌, inl, inr}
use native.Mathlib.Omega.{arith}
use native.Mathlib.Decide.{ℕ_discrete, dec_lt}
use native.Mathlib.Numerals.{add-one}
use lib.Dec.{eqb}
use lib.ListN.{get_or, set, length}
use lib.Seq.{get_or-set_same, get_or-set_other}
use borrow.Author.Tests.{eqb-true, eq-eqb, ne_eqb, leb-true, le-leb}
use Rattle.words.specs.Choice.{pick}
use Rattle.words.specs.Counting.{sum_below}
use Rattle.words.specs.Word.{bit, with_bit}
use Rattle.words.proofs.TruthLaws.{and_left, and_right, and_both, or-either, or_right, clash, not-holds, told}
use Rattle.words.proofs.WordLaws.{bit-none, bit-with_bit}
use Rattle.steps.specs.declared.Step.{Step}
use Rattle.steps.specs.declared.Step.TheVariants.{Read, Line}
use Rattle.aic_record.specs.declared.Aic.{Aic}
use Rattle.aic_record.specs.Record.{with_lines, with_memory, with_handlers}
use Rattle.aic_record.specs.Mode.{priority, edge}
use Rattle.aic_record.specs.Sound.{level_below, protects, sound}
use Rattle.aic_record.specs.Passes.{floor_over}
use Rattle.aic_record.specs.Promises.{Shaped, Over}
use Rattle.aic_record.proofs.PassLaws.{floor_rule}
use Rattle.aic_record.proofs.RankLaws.{floor-some}
use Rattle.aic_record.proofs.SoundLaws.{below_next, over-is, is-over}
use Rattle.aic_sources.specs.Pending.{active_low, active_at, active, pending, asking}
use Rattle.aic_sources.specs.Fast.{fast}
use Rattle.aic_sources.specs.Normal.{waiting, candidate}
use Rattle.aic_sources.specs.Promises.{AheadOfOthers}
use Rattle.aic_sources.proofs.HandlerLaws.{candidate-waits, candidate-over, waiting-is, is-candidate}
use Rattle.aic_registers.specs.declared.Answer.{Answer}
use Rattle.aic_registers.specs.Map.{ivr}
use Rattle.aic_registers.specs.Effects.{turns}
use Rattle.aic_registers.specs.Handlers.{vector_at}
use Rattle.aic.specs.Model.{step, read, line}
use Rattle.aic.specs.Tables.{Sets}
use Rattle.aic_runs.specs.Counted.{rewrites, steady}
use Rattle.aic_runs.specs.Runs.{run, always}
use Rattle.aic_runs.proofs.StepLaws.{edge_modes, fast_forcing}
use Rattle.stack.specs.declared.Table.{Table}
use Rattle.stack.specs.Bytes.{normal, is_of, taller, largest, level_bytes, stack_bytes, frame_of, open_bytes}
use Rattle.stack.proofs.BoundLaws.{Agrees, agrees_law}
use Rattle.aic_sources.proofs.Promises as Sources
use Rattle.aic.proofs.Promises as Controller

-- ---- who has the largest frame of a level, if not the mark

pub record Filler (t : Table) (l n : ℕ) : Type 0 where
  pub who : ℕ
  pub below : who < n
  pub fine : normal t who ≡ true
  pub there : get_or t.priority who 0 ≡ l
  pub whole : get_or t.frame who 0 ≡ largest t l n

pub of_is : (t : Table) (l i : ℕ) → is_of t l i ≡ true → (normal t i ≡ true) × (get_or t.priority i 0 ≡ l)
unfolding is_of
of_is t l i h = (and_left (normal t i) _ h, eqb-true (get_or t.priority i 0) l (and_right (normal t i) _ h))

pub filled : (t : Table) (l n : ℕ) → (largest t l n ≡ t.mark) ⊎ Filler t l n
filled t l zero = inl (unfold largest in refl)
filled t l (suc n) = go (told (is_of t l n)) (filled t l n)
  where
    more : largest t l n ≡ largest t l (suc n) → (largest t l n ≡ t.mark) ⊎ Filler t l n → (largest t l (suc n) ≡ t.mark) ⊎ Filler t l (suc n)
    more e (inl q) = inl (sym e ∙ q)
    more e (inr f) = inr (record { who = f.who; below = omega (arith, f.below); fine = f.fine; there = f.there; whole = f.whole ∙ e })

    go : (is_of t l n ≡ true) ⊎ (is_of t l n ≡ false) → (largest t l n ≡ t.mark) ⊎ Filler t l n → (largest t l (suc n) ≡ t.mark) ⊎ Filler t l (suc n)
    go (inl h) r = by (dec_lt (largest t l n) (get_or t.frame n 0))
      where
        q : largest t l (suc n) ≡ max (largest t l n) (get_or t.frame n 0)
        q = unfold largest taller pick in (rw h)

        by : Dec (largest t l n < get_or t.frame n 0) → (largest t l (suc n) ≡ t.mark) ⊎ Filler t l (suc n)
        by (yes m) =
            inr (record {
              who = n;
              below = omega arith;
              fine = (of_is t l n h).0;
              there = (of_is t l n h).1;
              whole = omega (arith, q);
            })
        by (no m) = more (omega (arith, q)) r
    go (inr h) r = more (unfold largest taller pick in (rw h)) r

-- ---- what waits, where no source is external

inner-active : (s : Aic) (k : ℕ) → s.external ≡ 0 → active s k ≡ bit s.lines k
inner-active s k e = (Sources.kept).high_active s k (inl (rw e (bit-none k)))

inner-high : (s : Aic) (k : ℕ) → s.external ≡ 0 → active_at s k true ≡ true
unfolding active_at active_low pick
inner-high s k e = rw (e, bit-none k)

is-waiting : (s : Aic) (k : ℕ) → pending s k ≡ true → bit s.enabled k ≡ true → fast s k ≡ false → waiting s k ≡ true
unfolding waiting asking
is-waiting s k p e f = and_both (and_both p e) (rw f)

-- v is u with no more of source i remembered and its line no higher
pub record Less (u v : Aic) (i : ℕ) : Type 0 where
  pub inner : u.external ≡ 0
  pub external : v.external ≡ u.external
  pub mode : v.mode ≡ u.mode
  pub enabled : v.enabled ≡ u.enabled
  pub forced : v.forced ≡ u.forced
  pub memory : bit v.memory i ≡ true → bit u.memory i ≡ true
  pub lines : bit v.lines i ≡ true → bit u.lines i ≡ true

less-waits : (u v : Aic) (i : ℕ) → Less u v i → waiting v i ≡ true → waiting u i ≡ true
less-waits u v i b w =
    let (p, e, f) = waiting-is v i w in
    is-waiting u i (go (told (edge u i)) p) (rw (← b.enabled) e) (sym (fast_forcing u v i b.forced) ∙ f)
  where
    go : (edge u i ≡ true) ⊎ (edge u i ≡ false) → pending v i ≡ true → pending u i ≡ true
    go (inl e) p = (Sources.kept).edge_pending u i e ∙ b.memory (sym ((Sources.kept).edge_pending v i (edge_modes u v i b.mode ∙ e)) ∙ p)
    go (inr e) p =
        (Sources.kept).level_pending u i e ∙ inner-active u i b.inner
        ∙ b.lines (sym ((Sources.kept).level_pending v i (edge_modes u v i b.mode ∙ e) ∙ inner-active v i (b.external ∙ b.inner)) ∙ p)

-- ---- the least priority over the last entry

abbrev pub rank : Aic → ℕ
rank s = floor_over (level_below s.level s.depth)

rank-over : (s : Aic) (p : ℕ) → Over (level_below s.level s.depth) p → rank s ≤ p
rank-over s p o = leb-true (rank s) p (floor_rule _ p ∙ is-over _ p o)

over-rank : (s : Aic) (p : ℕ) → rank s ≤ p → Over (level_below s.level s.depth) p
over-rank s p h = over-is _ p (sym (floor_rule _ p) ∙ le-leb (rank s) p h)

calm-none : (u : Aic) → ((i : ℕ) → i < 32 → waiting u i ≡ true → priority u i < rank u) → (k : ℕ) → k < 32 → candidate u k ≡ false
calm-none u h k l = not-holds (candidate u k) (λ c. omega (arith, h k l (candidate-waits u k c), rank-over u (priority u k) (candidate-over u k c)))

-- ---- the frames with one more entry

pub sum_same : (n : ℕ) (f g : ℕ → ℕ) → ((i : ℕ) → i < n → f i ≡ g i) → sum_below n f ≡ sum_below n g
unfolding sum_below
sum_same zero f g h = refl
sum_same (suc n) f g h = rw (sum_same n f g (λ i l. h i (omega arith)), h n (omega arith))

one_more : (t : Table) (source : List ℕ) (depth j : ℕ) → depth < length source
    → sum_below (depth + 1) (λ d. frame_of t (get_or (set source depth j) d 0)) ≡ sum_below depth (λ d. frame_of t (get_or source d 0)) + frame_of t j
unfolding sum_below
one_more t source depth j l =
    rw (add-one, get_or-set_same source depth j 0 l, sum_same depth (λ d. frame_of t (get_or (set source depth j) d 0)) (λ d. frame_of t (get_or source d 0)) (λ d m. rw (get_or-set_other source depth d j 0 (omega arith))))

-- ---- outside protect mode l entries are open, whose frames are the largest of the levels below l; nothing waits above them, and the lines of the
-- levels from l on are low

pub record Tower (t : Table) (l : ℕ) (u : Aic) : Type 0 where
  pub shaped : Shaped u
  pub ok : sound u ≡ true
  pub agrees : Agrees t u
  pub outside : protects u ≡ false
  pub inner : u.external ≡ 0
  pub lit : (i : ℕ) → i < 32 → bit u.enabled i ≡ true
  pub tall : u.depth ≡ l
  pub capped : rank u ≤ l
  pub low : (i : ℕ) → i < 32 → l ≤ priority u i → bit u.lines i ≡ false
  pub calm : (i : ℕ) → i < 32 → waiting u i ≡ true → priority u i < rank u
  pub sum : open_bytes t u ≡ sum_below l (level_bytes t)

-- an entry of source k at level p is opened, and w is remembered
abbrev over_with : Aic → ℕ → ℕ → ℕ → Aic
over_with v k p w = with_handlers (with_memory v w) (set v.source v.depth k) (set v.level v.depth p) (v.depth + 1)

module _ (t : Table) (l : ℕ) (v : Aic) (k p w : ℕ) where
  abbrev Top : Aic
  Top = over_with v k p w

  top-rank : Shaped v → v.depth < 8 → rank Top ≡ floor_over p
  top-rank h r = ap floor_over (below_next (set v.level v.depth p) v.depth ∙ get_or-set_same v.level v.depth p 0 (omega (arith, h.3)))

  top_level : (i : ℕ) → priority Top i ≡ priority v i
  unfolding priority
  top_level i = refl

  top_sum : Shaped v → v.depth < 8 → open_bytes t Top ≡ open_bytes t v + frame_of t k
  unfolding open_bytes
  top_sum h r = one_more t v.source v.depth k (omega (arith, h.2))

  raised : Shaped v → l < 8 → v.depth ≡ l → protects v ≡ false → v.external ≡ 0 → ((i : ℕ) → i < 32 → bit v.enabled i ≡ true)
      → open_bytes t v ≡ sum_below l (level_bytes t) → frame_of t k ≡ level_bytes t l → floor_over p ≤ suc l
      → ((i : ℕ) → i < 32 → bit w i ≡ true → bit v.memory i ≡ true)
      → ((i : ℕ) → i < 32 → suc l ≤ priority v i → bit v.lines i ≡ false)
      → ((i : ℕ) → i < 32 → waiting v i ≡ true → priority v i < floor_over p)
      → Shaped Top → sound Top ≡ true → Agrees t Top → Tower t (suc l) Top
  raised h small d out inner lit s f cap fewer low calm th tok ta =
      let e = top-rank h (omega arith) in
      record {
        shaped = th;
        ok = tok;
        agrees = ta;
        outside = out;
        inner = inner;
        lit = lit;
        tall = omega (arith, d);
        capped = rw e cap;
        low = λ i m q. low i m (omega (arith, top_level i));
        calm = λ i m q.
            rw e (omega (arith, top_level i, calm i m (less-waits v Top i (record { inner = inner; external = refl; mode = refl; enabled = refl; forced = refl; memory = fewer i m; lines = λ z. z }) q)));
        sum = top_sum h (omega arith) ∙ rw (s, f) (unfold sum_below in refl);
      }

-- ---- a mark

mark-frame : (t : Table) (l : ℕ) → largest t l 32 ≡ t.mark → frame_of t 0 ≡ level_bytes t l
unfolding frame_of level_bytes pick
mark-frame t l e = sym e

read-steady : (s : Aic) (o : ℕ) → rewrites s (Read o) ≡ false
unfolding rewrites
read-steady s o = refl

line-steady : (s : Aic) (k l : ℕ) → rewrites s (Line k l) ≡ false
unfolding rewrites
line-steady s k l = refl

module _ (t : Table) (l : ℕ) (u : Aic) (small : l < 8) (w : Tower t l u) where
  marking : (step u (Read ivr)).aic ≡ over_with u 0 (level_below u.level u.depth) u.memory
  marking = ap (λ (a : Answer). a.aic) ((Controller.kept).vector_spurious u w.ok w.outside (omega (arith, w.tall)) (calm-none u w.calm))

  mark_up : largest t l 32 ≡ t.mark → Tower t (suc l) (step u (Read ivr)).aic
  mark_up e =
      rw marking (raised t l u 0 (level_below u.level u.depth) u.memory w.shaped small w.tall w.outside w.inner w.lit w.sum (mark-frame t l e)
      (omega (arith, w.capped)) (λ i m z. z) (λ i m q. w.low i m (omega arith)) w.calm
      (subst Shaped marking ((Controller.kept).step_shaped u (Read ivr) w.shaped))
      (subst (λ (v : Aic). sound v ≡ true) marking ((Controller.kept).step_sound u (Read ivr) w.shaped w.ok))
      (subst (Agrees t) marking (agrees_law t u (Read ivr) (read-steady u ivr) w.agrees)))

-- ---- a handler: the line of its source is raised, and it is started

module _ (t : Table) (l : ℕ) (u : Aic) (small : l < 8) (w : Tower t l u) (f : Filler t l 32) where
  abbrev J : ℕ
  J = f.who

  level_j : priority u J ≡ l
  level_j = w.agrees.levels J f.below ∙ f.there

  normal_j : fast u J ≡ false
  normal_j = w.agrees.forcings J f.below ∙ ap not f.fine

  line_low : bit u.lines J ≡ false
  line_low = w.low J f.below (omega (arith, level_j))

  abbrev Moves : Type 0
  Moves = Sets (line u J 1) 0 u.memory (λ m. with_lines (with_memory u m) (with_bit u.lines J true)) (λ i. bit u.memory i || (eqb i J && (edge u J && turns u J true)))

  moves : Moves
  moves = (Controller.kept).line_moves u J 1 w.ok f.below (omega arith)

  abbrev Up : Aic
  Up = with_lines (with_memory u moves.word) (with_bit u.lines J true)

  raising : (step u (Line J 1)).aic ≡ Up
  raising = ap (λ (a : Answer). a.aic) moves.done

  shaped_up : Shaped Up
  shaped_up = subst Shaped raising ((Controller.kept).step_shaped u (Line J 1) w.shaped)

  sound_up : sound Up ≡ true
  sound_up = subst (λ (v : Aic). sound v ≡ true) raising ((Controller.kept).step_sound u (Line J 1) w.shaped w.ok)

  agrees_up : Agrees t Up
  agrees_up = subst (Agrees t) raising (agrees_law t u (Line J 1) (line-steady u J 1) w.agrees)

  up_level : (i : ℕ) → priority Up i ≡ priority u i
  unfolding priority
  up_level i = refl

  line_up : bit Up.lines J ≡ true
  line_up = bit-with_bit u.lines J true J f.below ∙ unfold pick in (rw (eq-eqb J J refl))

  line_else : (i : ℕ) → i < 32 → i ≢ J → bit Up.lines i ≡ bit u.lines i
  line_else i m d = bit-with_bit u.lines J true i m ∙ unfold pick in (rw (ne_eqb i J d))

  memory_else : (i : ℕ) → i < 32 → i ≢ J → bit Up.memory i ≡ true → bit u.memory i ≡ true
  memory_else i m d q = go (or-either (bit u.memory i) _ (sym (moves.bits i m) ∙ q))
    where
      go : (bit u.memory i ≡ true) ⊎ ((eqb i J && (edge u J && turns u J true)) ≡ true) → bit u.memory i ≡ true
      go (inl z) = z
      go (inr z) = clash (and_left (eqb i J) _ z) (ne_eqb i J d)

  waits_else : (i : ℕ) → i < 32 → i ≢ J → waiting Up i ≡ true → waiting u i ≡ true
  waits_else i m d =
      less-waits u Up i (record { inner = w.inner; external = refl; mode = refl; enabled = refl; forced = refl; memory = memory_else i m d; lines = λ z. sym (line_else i m d) ∙ z })

  turned : turns u J true ≡ true
  unfolding turns
  turned = rw (inner-active u J w.inner, line_low, inner-high u J w.inner)

  pends : pending Up J ≡ true
  pends = go (told (edge u J))
    where
      go : (edge u J ≡ true) ⊎ (edge u J ≡ false) → pending Up J ≡ true
      go (inl e) =
          (Sources.kept).edge_pending Up J (edge_modes u Up J refl ∙ e) ∙ moves.bits J f.below
          ∙ or_right (bit u.memory J) (and_both (eq-eqb J J refl) (and_both e turned))
      go (inr e) = (Sources.kept).level_pending Up J (edge_modes u Up J refl ∙ e) ∙ inner-active Up J w.inner ∙ line_up

  fits : candidate Up J ≡ true
  fits =
      is-candidate Up J pends (w.lit J f.below) (fast_forcing u Up J refl ∙ normal_j) (omega (arith, w.tall))
      (over-rank Up (priority Up J) (omega (arith, up_level J, level_j, w.capped)))

  first : AheadOfOthers Up J
  first i m c d =
      absurd (omega (arith, up_level i, w.calm i m (waits_else i m d (candidate-waits Up i c)), rank-over Up (priority Up i) (candidate-over Up i c)))

  abbrev Takes : Type 0
  Takes =
      Sets (read Up ivr) (vector_at Up J) Up.memory
      (λ m. with_handlers (with_memory Up m) (set Up.source Up.depth J) (set Up.level Up.depth (priority Up J)) (Up.depth + 1))
      (λ i. bit Up.memory i && not (eqb i J && edge Up J))

  takes : Takes
  takes = (Controller.kept).vector_read Up J sound_up w.outside f.below fits first

  taking : (step Up (Read ivr)).aic ≡ over_with Up J (priority Up J) takes.word
  taking = ap (λ (a : Answer). a.aic) takes.done

  rank_j : floor_over (priority Up J) ≡ suc l
  rank_j = floor-some (priority Up J) (λ z. omega (arith, up_level J, level_j)) ∙ omega (arith, up_level J, level_j)

  frame_j : frame_of t J ≡ level_bytes t l
  unfolding frame_of level_bytes pick
  frame_j = rw (ne_eqb J 0 some) f.whole
    where
      some : J ≢ 0
      some e = clash f.fine (unfold normal in (rw e))

  still-low : (i : ℕ) → i < 32 → suc l ≤ priority Up i → bit Up.lines i ≡ false
  still-low i m q =
      let d : i ≢ J = λ e. absurd (omega (arith, up_level i, level_j, ap (priority u) e)) in
      line_else i m d ∙ w.low i m (omega (arith, up_level i))

  below_j : (i : ℕ) → i < 32 → waiting Up i ≡ true → priority Up i < floor_over (priority Up J)
  below_j i m q = go (ℕ_discrete i J)
    where
      go : Dec (i ≡ J) → priority Up i < floor_over (priority Up J)
      go (yes e) = rw e (omega (arith, rank_j, up_level J, level_j))
      go (no d) = omega (arith, rank_j, up_level i, w.capped, w.calm i m (waits_else i m d q))

  frames_up : open_bytes t Up ≡ sum_below l (level_bytes t)
  unfolding open_bytes
  frames_up = unfold open_bytes in w.sum

  taken : Tower t (suc l) (step Up (Read ivr)).aic
  taken =
      rw taking (raised t l Up J (priority Up J) takes.word shaped_up small w.tall w.outside w.inner w.lit frames_up frame_j
      (omega (arith, rank_j)) (λ i m z. and_left (bit Up.memory i) _ (sym (takes.bits i m) ∙ z)) still-low below_j
      (subst Shaped taking ((Controller.kept).step_shaped Up (Read ivr) shaped_up))
      (subst (λ (v : Aic). sound v ≡ true) taking ((Controller.kept).step_sound Up (Read ivr) shaped_up sound_up))
      (subst (Agrees t) taking (agrees_law t Up (Read ivr) (read-steady Up ivr) agrees_up)))

  take_up : Tower t (suc l) (step (step u (Line J 1)).aic (Read ivr)).aic
  take_up = rw raising taken

-- ---- all levels

pub record Climbed (t : Table) (u : Aic) : Type 0 where
  pub steps : List Step
  pub held : always steady u steps ≡ true
  pub full : open_bytes t (run u steps) ≡ stack_bytes t

at_top : (t : Table) (l : ℕ) (u : Aic) → l ≡ 8 → Tower t l u → open_bytes t (run u []) ≡ stack_bytes t
unfolding run stack_bytes
at_top t l u e w = w.sum ∙ rw e

steadily : (s : Aic) (x : Step) (xs : List Step) → rewrites s x ≡ false → always steady (step s x).aic xs ≡ true → always steady s (x ∷ xs) ≡ true
unfolding always steady
steadily s x xs r h = and_both (ap not r) h

pub climb : (t : Table) (k l : ℕ) (u : Aic) → k + l ≡ 8 → Tower t l u → Climbed t u
climb t zero l u e w = record { steps = []; held = unfold always in refl; full = at_top t l u (omega arith) w }
climb t (suc k) l u e w = go (filled t l 32) (λ v. climb t k (suc l) v (omega arith))
  where
    go : (largest t l 32 ≡ t.mark) ⊎ Filler t l 32 → ((v : Aic) → Tower t (suc l) v → Climbed t v) → Climbed t u
    go (inl q) more =
        let r = more (step u (Read ivr)).aic (mark_up t l u (omega arith) w q) in
        record { steps = Read ivr ∷ r.steps; held = steadily u (Read ivr) r.steps (read-steady u ivr) r.held; full = unfold run in r.full }
    go (inr f) more =
        let v = (step u (Line f.who 1)).aic in
        let r = more (step (step u (Line f.who 1)).aic (Read ivr)).aic (take_up t l u (omega arith) w f) in
        record {
          steps = Line f.who 1 ∷ Read ivr ∷ r.steps;
          held = steadily u (Line f.who 1) (Read ivr ∷ r.steps) (line-steady u f.who 1)
              (steadily (step u (Line f.who 1)).aic (Read ivr) r.steps (read-steady (step u (Line f.who 1)).aic ivr) r.held);
          full = unfold run in r.full;
        }
