-- What is watched step by step is its definition over the run.
use Prim.Native.Nat.{ℕ, ◌+◌, ◌/◌, ◌%◌, ◌^◌, ◌≤◌, ◌<◌}
use mathlib.Core.Path.{◌≡◌, refl, sym, ap, ap₂, ◌∙◌}
use mathlib.Core.Bool.{Bool, true, false, not, ◌&&◌, ◌||◌}
use mathlib.Core.List.{List, [], ◌∷◌}
use mathlib.Core.Logic.{◌≢◌, ◌⊎◌, inl, inr, ⊎_elim}
use native.Mathlib.Omega.{arith}
use native.Mathlib.Nat.{add-zero, zero-add}
use native.Mathlib.Decide.{ℕ_discrete}
use lib.Dec.{eqb, ltb}
use lib.ListN.{get_or}
use borrow.Author.Tests.{eq-eqb, ne_eqb, eqb-true, not-true, not-false, lt-ltb, le-ltb, ltb-false}
use Rattle.words.specs.Choice.{pick}
use Rattle.words.specs.Counting.{one}
use Rattle.words.specs.Word.{bit, either, with_bit}
use Rattle.words.proofs.ChoiceLaws.{pick_true, pick-false}
use Rattle.words.proofs.TruthLaws.{told, clash, not_fails, and_left, and_right, and_both, or_left, or_right, or-either, or_neither}
use Rattle.words.proofs.WordLaws.{bit-either, either_lt, same_word, bit-some, bit-none, bit-cleared, with_bit_lt}
use Rattle.steps.specs.declared.Step.{Step}
use Rattle.steps.specs.declared.Step.TheVariants.{Read, Write, Line}
use Rattle.trace.specs.Steps.{read_kind, write_kind}
use Rattle.trace.specs.Turns.{step_of}
use Rattle.trace.proofs.TurnLaws.{step-read, step-write, step_line}
use Rattle.aic_record.specs.declared.Aic.{Aic}
use Rattle.aic_record.specs.Promises.{Shaped}
use Rattle.aic_record.specs.Sound.{sound}
use Rattle.aic_record.proofs.SoundLaws.{sound-is}
use Rattle.aic.specs.Model.{step}
use Rattle.aic.proofs.SoundLaws.{step-sound}
use Rattle.aic_room.specs.Room.{Laid}
use Rattle.aic_room.proofs.CellLaws.{depth_is, enabled-is, source_is}
use Rattle.aic_registers.specs.Map.{eoicr}
use Rattle.aic_runs.specs.Counted.{carried, rewrites}
use Rattle.aic_runs.specs.Runs.{run, count}
use Rattle.aic_runs.proofs.StepLaws.{modes_law}
use Rattle.aic_bounds.specs.declared.Marks.{Marks}
use Rattle.aic_bounds.specs.Following.{marks_of, marks_by, no_marks}
use Rattle.aic_bounds.proofs.MarkLaws.{marks-is}
use Rattle.stack.specs.declared.Table.{Table}
use Rattle.stack.specs.Kept.{keeps, unkept}
use Rattle.stack.proofs.KeptLaws.{keeps-is, unkept-none}
use Rattle.sheet_traces.specs.declared.Watched.{Watched}
use Rattle.sheet_traces.specs.Watched.{opens_mark, idle_end, used_in, strays_in, astray_from, watched_in}
use Rattle.sheet_traces.specs.Following.{watched_first, strays_next, watched_by, watched_all, Met}

-- ---- one step

-- a step that writes no mode and no forcing, and leaves the same sources enabled, changes nothing that a table is kept by
pub still-keeps : (t : Table) (s : Aic) (x : Step) → rewrites s x ≡ false → (step s x).aic.enabled ≡ s.enabled → keeps t s ≡ true → keeps t (step s x).aic ≡ true
still-keeps t s x r e h =
    let m = modes_law s x r in
    (keeps-is t (step s x).aic).1 (λ i l b.
    let q = (keeps-is t s).0 h i l (ap (λ (w : ℕ). bit w i) (sym e) ∙ b) in
    record {
      level = ap (λ (ms : List ℕ). get_or ms i 0 % 8) m.0 ∙ q.level;
      type = ap (λ (ms : List ℕ). get_or ms i 0 / 32 % 4) m.0 ∙ q.type;
      forcing = λ n. ap (λ (w : ℕ). bit w i) m.1 ∙ q.forcing n;
    })

-- where nothing that matters is written
pub kept_if-same : (t : Table) (w : Watched) (s : Aic) (x : Step) (room : List ℕ) {before enabled : ℕ} {idle wrote : Bool} → Laid (step s x).aic room
    → Met t w s x before enabled idle wrote → (not wrote && eqb (get_or room 2 0) enabled) ≡ true → w.strays ≡ 32 → unkept t (step s x).aic ≡ 32
kept_if-same t w s x room {before} {enabled} {idle} {wrote} laid q h z =
    (unkept-none t (step s x).aic).0
    (still-keeps t s x (sym q.writes ∙ not-true wrote (and_left (not wrote) (eqb (get_or room 2 0) enabled) h))
    (sym (enabled-is laid) ∙ eqb-true (get_or room 2 0) enabled (and_right (not wrote) (eqb (get_or room 2 0) enabled) h) ∙ q.sources) (q.kept z))

module _ (t : Table) (s : Aic) (strays : ℕ) (same : Bool) where
  pub strays_as_they_were : (same || not (eqb strays 32)) ≡ true → (same ≡ true → strays ≡ 32 → unkept t s ≡ 32) → strays ≡ strays_next t strays s
  strays_as_they_were e h = go (ℕ_discrete strays 32)
    where
      go : Dec (strays ≡ 32) → strays ≡ strays_next t strays s
      go (no n) = pick-false _ (ne_eqb strays 32 n)
      go (yes z) =
          z ∙ sym (h (⊎_elim (λ (p : same ≡ true). p) (λ (p : not (eqb strays 32) ≡ true). clash (eq-eqb strays 32 z) (not-true (eqb strays 32) p)) (or-either same (not (eqb strays 32)) e)) z)
          ∙ pick_true _ (eq-eqb strays 32 z)

  pub strays_anew : (same || not (eqb strays 32)) ≡ false → unkept t s ≡ strays_next t strays s
  strays_anew e = pick_true _ (not_fails (eqb strays 32) (λ f. clash (ap not f) (or_neither same (not (eqb strays 32)) e).1))

-- whether the step opened a mark
pub no-mark : (s : Aic) (x : Step) (room : List ℕ) (before : ℕ) → Laid (step s x).aic room → before ≡ s.depth → get_or room 7 0 ≤ before → false ≡ opens_mark s x
unfolding opens_mark
no-mark s x room before laid e l =
    sym (ap (λ (b : Bool). b && eqb (get_or (step s x).aic.source s.depth 0) 0) (le-ltb s.depth (step s x).aic.depth (omega (arith, l, e, depth_is laid))))

pub mark-is : (s : Aic) (x : Step) (room : List ℕ) (before : ℕ) → sound s ≡ true → Shaped s → Laid (step s x).aic room → before ≡ s.depth → before < get_or room 7 0
    → eqb (get_or room (40 + before % 8) 0) 0 ≡ opens_mark s x
unfolding opens_mark
mark-is s x room before ok h laid e l =
    let top = (sound-is (step s x).aic (step-sound s x h ok)).entries in
    let m : before < 8 = omega (arith, top, l, depth_is laid) in
    let k : before % 8 ≡ before = omega (arith, m) in
    ap (λ (i : ℕ). eqb (get_or room (40 + i) 0) 0) k ∙ ap (λ (v : ℕ). eqb v 0) (source_is laid before m ∙ ap (λ (i : ℕ). get_or (step s x).aic.source i 0) e)
    ∙ ap (λ (b : Bool). b && eqb (get_or (step s x).aic.source s.depth 0) 0) (sym (lt-ltb s.depth (step s x).aic.depth (omega (arith, l, e, depth_is laid))))

-- what the code puts together
pub watched-from : (t : Table) (n : ℕ) (w : Watched) (s : Aic) (x : Step) {o i d u v z a : ℕ} {b c : Bool} → o ≡ one b → b ≡ opens_mark s x → i ≡ one c → c ≡ idle_end s x
    → d ≡ (step s x).aic.depth → u ≡ either w.used v → v ≡ (step s x).aic.enabled → z ≡ strays_next t w.strays (step s x).aic
    → a ≡ pick (eqb w.strays 32 && not (eqb z 32)) n w.astray
    → record { marks = w.marks + o; idle = w.idle + i; left = d; used = u; strays = z; astray = a } ≡ watched_by t n w s x
unfolding watched_by
watched-from t n w s x {z = z} eo eb ei ec ed eu ev ez ea =
    let p = ap (λ (k : ℕ). w.marks + k) (eo ∙ ap one eb) in
    let q = ap (λ (k : ℕ). w.idle + k) (ei ∙ ap one ec) in
    let r = eu ∙ ap (either w.used) ev in
    let f = ea ∙ ap (λ (k : ℕ). pick (eqb w.strays 32 && not (eqb k 32)) n w.astray) ez in
    λ j. record { marks = p j; idle = q j; left = ed j; used = r j; strays = ez j; astray = f j }

-- where it brought nothing that is looked for
neither : (b : Bool) → (b && not b) ≡ false
neither true = refl
neither false = refl

module _ (t : Table) (n : ℕ) (w : Watched) (s : Aic) (x : Step) (room : List ℕ) {before enabled : ℕ} {idle wrote : Bool} (laid : Laid (step s x).aic room)
    (q : Met t w s x before enabled idle wrote)
    (h : (((idle || wrote) || ltb before (get_or room 7 0)) || not (eqb (get_or room 2 0) enabled)) ≡ false) where
  same_sources : eqb (get_or room 2 0) enabled ≡ true
  same_sources = not-false _ (or_neither ((idle || wrote) || ltb before (get_or room 7 0)) (not (eqb (get_or room 2 0) enabled)) h).1

  others : ((idle || wrote) ≡ false) × (ltb before (get_or room 7 0) ≡ false)
  others = or_neither (idle || wrote) (ltb before (get_or room 7 0)) (or_neither ((idle || wrote) || ltb before (get_or room 7 0)) (not (eqb (get_or room 2 0) enabled)) h).0

  strays-same : w.strays ≡ strays_next t w.strays (step s x).aic
  strays-same =
      strays_as_they_were t (step s x).aic w.strays true refl
      (λ _ z. kept_if-same t w s x room laid q (and_both (ap not (or_neither idle wrote others.0).1) same_sources) z)

  pub watched-still : {u : ℕ} → u ≡ either w.used (get_or room 2 0)
      → record { marks = w.marks; idle = w.idle; left = get_or room 7 0; used = u; strays = w.strays; astray = w.astray } ≡ watched_by t n w s x
  unfolding watched_by
  watched-still eu =
      let a = sym (add-zero w.marks) ∙ ap (λ (b : Bool). w.marks + one b) (no-mark s x room before laid q.depth (ltb-false before (get_or room 7 0) others.1)) in
      let b = sym (add-zero w.idle) ∙ ap (λ (c : Bool). w.idle + one c) (sym (or_neither idle wrote others.0).0 ∙ q.ends) in
      let d = eu ∙ ap (either w.used) (enabled-is laid) in
      let c = ap (λ (k : ℕ). eqb w.strays 32 && not (eqb k 32)) (sym strays-same) ∙ neither (eqb w.strays 32) in
      let f = pick-false _ c in
      λ i. record { marks = a i; idle = b i; left = depth_is laid i; used = d i; strays = strays-same i; astray = f i }

-- a step is one of three kinds
data Kind (kind x y : ℕ) : Type 0 where
  reads : eqb kind write_kind ≡ false → step_of kind x y ≡ Read x → Kind kind x y
  writes : eqb kind write_kind ≡ true → step_of kind x y ≡ Write x y → Kind kind x y
  lines : eqb kind write_kind ≡ false → step_of kind x y ≡ Line x y → Kind kind x y

kind_of : (kind x y : ℕ) → Kind kind x y
kind_of kind x y = go (ℕ_discrete kind read_kind) (ℕ_discrete kind write_kind)
  where
    go : Dec (kind ≡ read_kind) → Dec (kind ≡ write_kind) → Kind kind x y
    go r (yes e) = writes (eq-eqb kind write_kind e) (step-write kind x y e)
    go (yes e) (no w) = reads (ne_eqb kind write_kind w) (step-read kind x y e)
    go (no r) (no w) = lines (ne_eqb kind write_kind w) (step_line kind x y r w)

-- a test that a step that was carried out is a write
none : (c k o : Bool) → k ≡ false → ((c && k) && o) ≡ false
none false k o e = refl
none true k o e = ap (λ (b : Bool). b && o) e

three : (c k o d : Bool) → k ≡ false → (((c && k) && o) && d) ≡ false
three c k o d e = ap (λ (b : Bool). b && d) (none c k o e)

four : (c k o d : Bool) → k ≡ true → (((c && k) && o) && d) ≡ (c && o && d)
four false k o d e = refl
four true k o d e = ap (λ (b : Bool). (b && o) && d) e

module _ (s : Aic) (kind x y : ℕ) where
  pub idle-is : (c : Bool) → c ≡ carried s (step_of kind x y) → (((c && eqb kind write_kind) && eqb x eoicr) && eqb s.depth 0) ≡ idle_end s (step_of kind x y)
  unfolding idle_end
  idle-is c h = go (kind_of kind x y)
    where
      go : Kind kind x y → (((c && eqb kind write_kind) && eqb x eoicr) && eqb s.depth 0) ≡ idle_end s (step_of kind x y)
      go (reads k e) = three c _ _ _ k ∙ ap (idle_end s) (sym e)
      go (writes k e) =
          four c _ (eqb x eoicr) (eqb s.depth 0) k ∙ ap (λ (b : Bool). b && eqb x eoicr && eqb s.depth 0) (h ∙ ap (carried s) e) ∙ ap (idle_end s) (sym e)
      go (lines k e) = three c _ _ _ k ∙ ap (idle_end s) (sym e)

-- what a step brings, by whether it is carried out
no-bit : (k : ℕ) → with_bit 0 k false ≡ 0
no-bit k = bit-some 32 (with_bit 0 k false) (with_bit_lt 0 k false) (λ j l. bit-cleared 0 k j l ∙ ap (λ (b : Bool). b && not (eqb j k)) (bit-none j))

refused-marks : (s : Aic) (x : Step) → marks_by false s x ≡ no_marks
unfolding marks_by pick
refused-marks s (Read o) = refl
refused-marks s (Write o v) = refl
refused-marks s (Line k l) = rw (no-bit k)

pub brought-is : (s : Aic) (x : Step) (c : Bool) (b m : Marks) → c ≡ carried s x → b ≡ marks_by true s x → m ≡ pick c b no_marks → m ≡ marks_of s x
brought-is s x c b m ec eb em = go (told c)
  where
    go : (c ≡ true) ⊎ (c ≡ false) → m ≡ marks_of s x
    go (inl h) = em ∙ sym (pick_true _ h) ∙ eb ∙ ap (λ (d : Bool). marks_by d s x) (sym h ∙ ec) ∙ marks-is s x
    go (inr h) = em ∙ sym (pick-false _ h) ∙ sym (refused-marks s x) ∙ ap (λ (d : Bool). marks_by d s x) (sym h ∙ ec) ∙ marks-is s x

-- ---- a run, figure by figure

module _ (t : Table) where
  marks-all : (n : ℕ) (w : Watched) (s : Aic) (xs : List Step) → (watched_all t n w s xs).marks ≡ w.marks + count opens_mark s xs
  unfolding watched_all watched_by count
  marks-all n w s [] = sym (add-zero w.marks)
  marks-all n w s (x ∷ xs) =
      let e : w.marks + one (opens_mark s x) + count opens_mark (step s x).aic xs ≡ w.marks + (one (opens_mark s x) + count opens_mark (step s x).aic xs) = omega arith in
      marks-all (n + 1) (watched_by t (n + 1) w s x) (step s x).aic xs ∙ e

  idle-all : (n : ℕ) (w : Watched) (s : Aic) (xs : List Step) → (watched_all t n w s xs).idle ≡ w.idle + count idle_end s xs
  unfolding watched_all watched_by count
  idle-all n w s [] = sym (add-zero w.idle)
  idle-all n w s (x ∷ xs) =
      let e : w.idle + one (idle_end s x) + count idle_end (step s x).aic xs ≡ w.idle + (one (idle_end s x) + count idle_end (step s x).aic xs) = omega arith in
      idle-all (n + 1) (watched_by t (n + 1) w s x) (step s x).aic xs ∙ e

  left-all : (n : ℕ) (w : Watched) (s : Aic) (xs : List Step) → w.left ≡ s.depth → (watched_all t n w s xs).left ≡ (run s xs).depth
  unfolding watched_all watched_by run
  left-all n w s [] e = e
  left-all n w s (x ∷ xs) e = left-all (n + 1) (watched_by t (n + 1) w s x) (step s x).aic xs refl

-- ---- the sources that are used

absorbs : (p q : Bool) → (q ≡ true → p ≡ true) → p ≡ (p || q)
absorbs true q h = refl
absorbs false true h = clash (h refl) refl
absorbs false false h = refl

absorbed : (p q : Bool) → (p ≡ true → q ≡ true) → (p || q) ≡ q
absorbed true q h = sym (h refl)
absorbed false q h = refl

merges : (w u r s : Bool) → (s ≡ true → w ≡ true) → (u ≡ true → r ≡ true) → ((w || u) || r) ≡ (w || (s || r))
merges true u r s f g = refl
merges false u r true f g = clash (f refl) refl
merges false u r false f g = absorbed u r g

-- what is enabled in the first record is used
first_used : (s : Aic) (xs : List Step) (k : ℕ) → k < 32 → bit s.enabled k ≡ true → bit (used_in s xs) k ≡ true
unfolding used_in
first_used s [] k l h = h
first_used s (x ∷ xs) k l h = bit-either s.enabled (used_in (step s x).aic xs) k l ∙ or_left (bit (used_in (step s x).aic xs) k) h

module _ (t : Table) where
  used-bit : (n : ℕ) (w : Watched) (s : Aic) (xs : List Step) (k : ℕ) → k < 32 → (bit s.enabled k ≡ true → bit w.used k ≡ true)
      → bit (watched_all t n w s xs).used k ≡ (bit w.used k || bit (used_in s xs) k)
  unfolding watched_all watched_by used_in
  used-bit n w s [] k l h = absorbs (bit w.used k) (bit s.enabled k) h
  used-bit n w s (x ∷ xs) k l h =
      let u = (step s x).aic.enabled in
      let r = used_in (step s x).aic xs in
      used-bit (n + 1) (watched_by t (n + 1) w s x) (step s x).aic xs k l (λ e. bit-either w.used u k l ∙ or_right (bit w.used k) e)
      ∙ ap (λ (b : Bool). b || bit r k) (bit-either w.used u k l)
      ∙ merges (bit w.used k) (bit u k) (bit r k) (bit s.enabled k) h (first_used (step s x).aic xs k l)
      ∙ ap (λ (b : Bool). bit w.used k || b) (sym (bit-either s.enabled r k l))

  used_small : (n : ℕ) (w : Watched) (s : Aic) (xs : List Step) → w.used < 2 ^ 32 → (watched_all t n w s xs).used < 2 ^ 32
  unfolding watched_all watched_by
  used_small n w s [] l = l
  used_small n w s (x ∷ xs) l = used_small (n + 1) (watched_by t (n + 1) w s x) (step s x).aic xs (either_lt w.used (step s x).aic.enabled)

  used-is : (s : Aic) (xs : List Step) → (watched_all t 0 (watched_first t s) s xs).used ≡ used_in s xs
  unfolding watched_all watched_by used_in
  used-is s [] = refl
  used-is s (x ∷ xs) =
      same_word 32 (watched_all t 0 (watched_first t s) s (x ∷ xs)).used (used_in s (x ∷ xs))
      (used_small 1 (watched_by t 1 (watched_first t s) s x) (step s x).aic xs (either_lt s.enabled (step s x).aic.enabled))
      (either_lt s.enabled (used_in (step s x).aic xs))
      (λ k l. used-bit 0 (watched_first t s) s (x ∷ xs) k l (λ h. h) ∙ absorbed (bit s.enabled k) (bit (used_in s (x ∷ xs)) k) (first_used s (x ∷ xs) k l))

-- ---- the first record that does not keep the table

module _ (t : Table) where
  -- once one did not, that is told
  strays_stay : (n : ℕ) (w : Watched) (s : Aic) (xs : List Step) → w.strays ≢ 32 → (watched_all t n w s xs).strays ≡ w.strays
  unfolding watched_all watched_by
  strays_stay n w s [] h = refl
  strays_stay n w s (x ∷ xs) h =
      let e : strays_next t w.strays (step s x).aic ≡ w.strays = sym (pick-false _ (ne_eqb w.strays 32 h)) in
      strays_stay (n + 1) (watched_by t (n + 1) w s x) (step s x).aic xs (λ z. h (sym e ∙ z)) ∙ e

  astray_stays : (n : ℕ) (w : Watched) (s : Aic) (xs : List Step) → w.strays ≢ 32 → (watched_all t n w s xs).astray ≡ w.astray
  unfolding watched_all watched_by
  astray_stays n w s [] h = refl
  astray_stays n w s (x ∷ xs) h =
      let e : strays_next t w.strays (step s x).aic ≡ w.strays = sym (pick-false _ (ne_eqb w.strays 32 h)) in
      astray_stays (n + 1) (watched_by t (n + 1) w s x) (step s x).aic xs (λ z. h (sym e ∙ z))
      ∙ sym (pick-false _ (ap (λ (b : Bool). b && not (eqb (strays_next t w.strays (step s x).aic) 32)) (ne_eqb w.strays 32 h)))

  not_32 : (s : Aic) → keeps t s ≡ false → unkept t s ≢ 32
  not_32 s h z = clash ((unkept-none t s).1 z) h

  strays-all : (n : ℕ) (w : Watched) (s : Aic) (xs : List Step) → w.strays ≡ unkept t s → (watched_all t n w s xs).strays ≡ strays_in t s xs
  unfolding strays_in watched_all watched_by
  strays-all n w s [] e = e
  strays-all n w s (x ∷ xs) e = go (told (keeps t s)) (strays-all (n + 1) (watched_by t (n + 1) w s x) (step s x).aic xs)
    where
      go : (keeps t s ≡ true) ⊎ (keeps t s ≡ false)
          → ((watched_by t (n + 1) w s x).strays ≡ unkept t (step s x).aic → (watched_all t (n + 1) (watched_by t (n + 1) w s x) (step s x).aic xs).strays ≡ strays_in t (step s x).aic xs)
          → (watched_all t (n + 1) (watched_by t (n + 1) w s x) (step s x).aic xs).strays ≡ pick (keeps t s) (strays_in t (step s x).aic xs) (unkept t s)
      go (inl h) rest = rest (sym (pick_true _ (eq-eqb w.strays 32 (e ∙ (unkept-none t s).0 h)))) ∙ pick_true _ h
      go (inr h) rest = strays_stay n w s (x ∷ xs) (λ z. not_32 s h (sym e ∙ z)) ∙ e ∙ pick-false _ h

  -- where every record before it keeps the table
  astray_next : (n : ℕ) (w : Watched) (s : Aic) (x : Step) → w.strays ≡ 32 → w.astray ≡ 0 → (watched_by t (n + 1) w s x).astray ≡ pick (keeps t (step s x).aic) 0 (n + 1)
  unfolding watched_by
  astray_next n w s x z a = go (told (keeps t (step s x).aic))
    where
      i : strays_next t w.strays (step s x).aic ≡ unkept t (step s x).aic
      i = sym (pick_true _ (eq-eqb w.strays 32 z))

      go : (keeps t (step s x).aic ≡ true) ⊎ (keeps t (step s x).aic ≡ false)
          → pick (eqb w.strays 32 && not (eqb (strays_next t w.strays (step s x).aic) 32)) (n + 1) w.astray ≡ pick (keeps t (step s x).aic) 0 (n + 1)
      go (inl k) =
          sym (pick-false _ (ap₂ (λ (p q : Bool). p && not q) (eq-eqb w.strays 32 z) (eq-eqb (strays_next t w.strays (step s x).aic) 32 (i ∙ (unkept-none t (step s x).aic).0 k))))
          ∙ a ∙ pick_true _ k
      go (inr k) =
          sym (pick_true _ (ap₂ (λ (p q : Bool). p && not q) (eq-eqb w.strays 32 z) (ne_eqb (strays_next t w.strays (step s x).aic) 32 (λ v. not_32 (step s x).aic k (sym i ∙ v)))))
          ∙ pick-false _ k

  astray-all : (n : ℕ) (w : Watched) (s : Aic) (xs : List Step) → w.strays ≡ unkept t s → w.astray ≡ pick (keeps t s) 0 n → (watched_all t n w s xs).astray ≡ astray_from t n s xs
  unfolding astray_from watched_all watched_by
  astray-all n w s [] e a = a
  astray-all n w s (x ∷ xs) e a = go (told (keeps t s)) (astray-all (n + 1) (watched_by t (n + 1) w s x) (step s x).aic xs)
    where
      go : (keeps t s ≡ true) ⊎ (keeps t s ≡ false)
          → ((watched_by t (n + 1) w s x).strays ≡ unkept t (step s x).aic → (watched_by t (n + 1) w s x).astray ≡ pick (keeps t (step s x).aic) 0 (n + 1)
          → (watched_all t (n + 1) (watched_by t (n + 1) w s x) (step s x).aic xs).astray ≡ astray_from t (n + 1) (step s x).aic xs)
          → (watched_all t (n + 1) (watched_by t (n + 1) w s x) (step s x).aic xs).astray ≡ pick (keeps t s) (astray_from t (n + 1) (step s x).aic xs) n
      go (inl h) rest =
          let z = e ∙ (unkept-none t s).0 h in
          rest (sym (pick_true _ (eq-eqb w.strays 32 z))) (astray_next n w s x z (a ∙ sym (pick_true _ h))) ∙ pick_true _ h
      go (inr h) rest = astray_stays n w s (x ∷ xs) (λ z. not_32 s h (sym e ∙ z)) ∙ a ∙ sym (pick-false _ h) ∙ pick-false _ h

-- ---- all of it

pub watched-is : (t : Table) (s : Aic) (xs : List Step) → watched_all t 0 (watched_first t s) s xs ≡ watched_in t s xs
unfolding watched_in
watched-is t s xs =
    let w = watched_first t s in
    let a = marks-all t 0 w s xs ∙ zero-add (count opens_mark s xs) in
    let b = idle-all t 0 w s xs ∙ zero-add (count idle_end s xs) in
    let c = left-all t 0 w s xs refl in
    let d = used-is t s xs in
    let e = strays-all t 0 w s xs refl in
    let f = astray-all t 0 w s xs refl (start (told (keeps t s))) in
    λ i. record { marks = a i; idle = b i; left = c i; used = d i; strays = e i; astray = f i }
  where
    start : (keeps t s ≡ true) ⊎ (keeps t s ≡ false) → ◌≡◌ {A = ℕ} 0 (pick (keeps t s) 0 0)
    start (inl h) = pick_true _ h
    start (inr h) = pick-false _ h
