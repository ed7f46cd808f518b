-- What the entries of a room tell: the source of a start, and who is open.
use Prim.Native.Nat.{ℕ, suc, ◌+◌, ◌-◌, ◌%◌, ◌≤◌, ◌<◌, max}
use mathlib.Core.Path.{◌≡◌, refl, sym, ap, ap₂, ◌∙◌, subst}
use mathlib.Core.Bool.{Bool, true, false, not, ◌&&◌, ◌||◌, or-false}
use mathlib.Core.List.{List}
use mathlib.Core.Logic.{◌⊎◌, inl, inr}
use native.Mathlib.Omega.{arith}
use native.Mathlib.Decide.{ℕ_discrete}
use native.Mathlib.Numerals.{add-one}
use lib.Dec.{eqb, ltb}
use lib.ListN.{get_or, set, length, length-set}
use lib.Seq.{get_or-set_other}
use borrow.Author.Tests.{eq-eqb, ne_eqb, lt-ltb, le-ltb}
use Rattle.words.specs.Choice.{pick}
use Rattle.words.specs.Counting.{one, any_below}
use Rattle.words.proofs.ChoiceLaws.{pick_true, pick-false, pick_cases}
use Rattle.words.proofs.CountingLaws.{any_same, any_some, some_any}
use Rattle.words.proofs.TruthLaws.{told, and_left, and_right}
use Rattle.steps.specs.declared.Step.{Step}
use Rattle.aic_record.specs.declared.Aic.{Aic}
use Rattle.aic_record.specs.Sound.{source_at, sound}
use Rattle.aic_record.proofs.SoundLaws.{sound-is}
use Rattle.aic_registers.specs.Handlers.{opened, closed_last}
use Rattle.aic.specs.Model.{step}
use Rattle.aic_runs.specs.Counted.{starts, closes}
use Rattle.aic_runs.proofs.StepLaws.{depth_law, close_law, other_law}
use Rattle.aic_room.specs.Room.{Laid}
use Rattle.aic_room.proofs.CellLaws.{source_is}
use Rattle.aic_waits.specs.Figures.{is_open, entries_now}
use Rattle.aic_figures.specs.Book.{Put}
use Rattle.aic_figures.proofs.BookLaws.{here, there}

-- ---- the source of a start

pub started_at : {t : Aic} {room : List ℕ} {before : ℕ} → Laid t room → t.depth ≤ 8 → before < t.depth → get_or room (40 + before % 8) 0 ≡ source_at t before
started_at {t} {room} {before} h d l =
    let e : before % 8 ≡ before = omega (arith, d, l) in
    rw e (source_is h before (omega (arith, d, l)))

-- ---- who is open

-- source i is one of the first d entries of a room
abbrev pub saw : List ℕ → ℕ → ℕ → Bool
saw room d i = any_below d (λ e. eqb (get_or room (40 + e) 0 % 32) i) && not (eqb i 0)

-- they have seen so many entries
abbrev pub Seen : List ℕ → ℕ → ℕ → List ℕ → List ℕ → Type 0
Seen room depth d old new = Put 128 (λ i. max (get_or old (128 + i) 0) (pick (saw room d i) depth 0)) old new

pub seen_none : (room : List ℕ) (depth : ℕ) (old : List ℕ) → Seen room depth 0 old old
unfolding any_below pick
seen_none room depth old = record { size = refl; inside = λ i l. omega arith; outside = λ k o. refl }

max-same : (a b d : ℕ) → max (max a (pick true d b)) d ≡ max a d
unfolding pick
max-same a b d = omega arith

pub seen_more : (room : List ℕ) (depth d k : ℕ) (old new next : List ℕ) → 160 ≤ length old → k < 32 → k ≡ get_or room (40 + d) 0 % 32
    → next ≡ pick (ltb 0 k) (set new (128 + k) (max (get_or new (128 + k) 0) depth)) new → Seen room depth d old new → Seen room depth (d + 1) old next
unfolding any_below
seen_more room depth d k old new next m l e f s = rw (add-one d) (go (ℕ_discrete k 0))
  where
    -- another source than this one
    next-saw : ℕ → Bool
    next-saw i = (any_below d (λ n. eqb (get_or room (40 + n) 0 % 32) i) || eqb (get_or room (40 + d) 0 % 32) i) && not (eqb i 0)

    other : (i : ℕ) → (i ≡ k → ⊥) → saw room d i ≡ next-saw i
    other i n =
        ap (λ (b : Bool). b && not (eqb i 0)) (sym (or-false (any_below d (λ n. eqb (get_or room (40 + n) 0 % 32) i))) ∙ ap (λ (b : Bool). any_below d (λ n. eqb (get_or room (40 + n) 0 % 32) i) || b) (sym (ne_eqb (get_or room (40 + d) 0 % 32) i (λ q. n (sym (e ∙ q))))))

    both_false : (a b c : Bool) → c ≡ true → (a && not c) ≡ (b && not c)
    both_false true true c q = refl
    both_false true false c q = rw q
    both_false false true c q = rw q
    both_false false false c q = refl

    off : k ≡ 0 → (i : ℕ) → Dec (i ≡ 0) → saw room d i ≡ next-saw i
    off z i (yes q) =
        both_false (any_below d (λ n. eqb (get_or room (40 + n) 0 % 32) i)) (any_below d (λ n. eqb (get_or room (40 + n) 0 % 32) i) || eqb (get_or room (40 + d) 0 % 32) i) (eqb i 0) (eq-eqb i 0 q)
    off z i (no q) = other i (λ r. q (r ∙ z))

    go : Dec (k ≡ 0) → Put 128 (λ i. max (get_or old (128 + i) 0) (pick (saw room (suc d) i) depth 0)) old next
    go (yes z) =
        let g : next ≡ new = f ∙ sym (pick-false (set new (128 + k) (max (get_or new (128 + k) 0) depth)) (le-ltb 0 k (omega (arith, z)))) in
        rw g (record {
          size = s.size;
          inside = λ i n. s.inside i n ∙ ap (λ (b : Bool). max (get_or old (128 + i) 0) (pick b depth 0)) (off z i (ℕ_discrete i 0));
          outside = s.outside;
        })
    go (no z) =
        let g : next ≡ set new (128 + k) (max (get_or new (128 + k) 0) depth) = f ∙ sym (pick_true new (lt-ltb 0 k (omega (arith, z)))) in
        rw g (record {
          size = length-set new (128 + k) _ ∙ s.size;
          inside = λ i n. at i n (ℕ_discrete i k);
          outside = λ j o. there new (128 + k) j _ (λ q. away j o q) ∙ s.outside j o;
        })
      where
        away : (j : ℕ) → (j < 128) ⊎ (128 + 32 ≤ j) → j ≡ 128 + k → ⊥
        away j (inl a) q = absurd (omega (arith, a, q))
        away j (inr a) q = absurd (omega (arith, a, q, l))

        on : saw room (suc d) k ≡ true
        on = rw (eq-eqb _ k (sym e), ne_eqb k 0 z) (last (any_below d (λ n. eqb (get_or room (40 + n) 0 % 32) k)))
          where
            last : (b : Bool) → ((b || true) && not false) ≡ true
            last true = refl
            last false = refl

        at : (i : ℕ) → i < 32 → Dec (i ≡ k) → get_or (set new (128 + k) (max (get_or new (128 + k) 0) depth)) (128 + i) 0 ≡ max (get_or old (128 + i) 0) (pick (saw room (suc d) i) depth 0)
        at i n (yes q) =
            rw q (here new 128 k _ (omega (arith, s.size, m, l)) ∙ ap (λ (x : ℕ). max x depth) (s.inside k l)
            ∙ pick_cases (λ x. max (max (get_or old (128 + k) 0) x) depth ≡ max (get_or old (128 + k) 0) depth) (saw room d k) (λ _. omega arith) (λ _. omega arith)
            ∙ ap (λ (x : ℕ). max (get_or old (128 + k) 0) x) (pick_true 0 on))
        at i n (no q) =
            there new (128 + k) (128 + i) _ (λ r. q (omega (arith, r))) ∙ s.inside i n
            ∙ ap (λ (b : Bool). max (get_or old (128 + i) 0) (pick b depth 0)) (other i q)

-- the sources of a sound record's entries stand in its room
stand : {t : Aic} {room : List ℕ} → sound t ≡ true → Laid t room → (e : ℕ) → e < t.depth → get_or room (40 + e) 0 % 32 ≡ source_at t e
stand {t} {room} ok h e l =
    let r = sound-is t ok in
    let p = source_is h e (omega (arith, l, r.entries)) in
    let q = r.sources e l in
    omega (arith, p, q)

saw_open : {t : Aic} {room : List ℕ} → sound t ≡ true → Laid t room → (i : ℕ) → saw room t.depth i ≡ is_open t i
unfolding is_open
saw_open {t} {room} ok h i =
    ap (λ (b : Bool). b && not (eqb i 0)) (any_same t.depth _ _ (λ e l. ap (λ (k : ℕ). eqb k i) (stand ok h e l)))

pub seen_all : (t : Aic) (room : List ℕ) (depth d : ℕ) (old new : List ℕ) → sound t ≡ true → Laid t room → depth ≡ t.depth → d ≡ depth → Seen room depth d old new
    → Put 128 (λ i. max (get_or old (128 + i) 0) (entries_now t i)) old new
seen_all t room depth d old new ok h e f s =
    record {
      size = s.size;
      inside = λ i l. s.inside i l
          ∙ ap₂ (λ (n : ℕ) (b : Bool). max (get_or old (128 + i) 0) (pick b n 0)) e (ap (λ (n : ℕ). saw room n i) (f ∙ e) ∙ saw_open ok h i);
      outside = s.outside;
    }

-- ---- a step that opens no entry

-- whoever is open after it was open before it
pub shrinks : (s : Aic) (x : Step) → (step s x).aic.depth ≤ s.depth → (i : ℕ) → is_open (step s x).aic i ≡ true → is_open s i ≡ true
unfolding is_open opened closed_last
shrinks s x l i o = go (told (starts s x)) (told (closes s x))
  where
    t : Aic
    t = (step s x).aic

    -- the entries left are those of before
    from : ((e : ℕ) → e < t.depth → source_at t e ≡ source_at s e) → (any_below s.depth (λ e. eqb (source_at s e) i) && not (eqb i 0)) ≡ true
    from same =
        let a = any_some t.depth (λ e. eqb (source_at t e) i) (and_left (any_below t.depth (λ e. eqb (source_at t e) i)) (not (eqb i 0)) o) in
        rw (some_any s.depth (λ e. eqb (source_at s e) i) a.0 (omega (arith, a.1, l)) (ap (λ (k : ℕ). eqb k i) (sym (same a.0 a.1)) ∙ a.2), and_right (any_below t.depth (λ e. eqb (source_at t e) i)) (not (eqb i 0)) o)

    go : (starts s x ≡ true) ⊎ (starts s x ≡ false) → (closes s x ≡ true) ⊎ (closes s x ≡ false)
        → (any_below s.depth (λ e. eqb (source_at s e) i) && not (eqb i 0)) ≡ true
    go a (inl c) =
        let q = close_law s x c in
        from (λ e n. ap (λ (u : Aic). source_at u e) q ∙ get_or-set_other s.source (s.depth - 1) e 0 0 (λ w. absurd (omega (arith, w, n, ap (λ (u : Aic). u.depth) q))))
    go (inl a) (inr c) = absurd (omega (arith, l, subst (λ (b : Bool). t.depth + one b ≡ s.depth + one (starts s x)) c (depth_law s x), ap one a))
    go (inr a) (inr c) = let q = other_law s x a c in from (λ e n. ap (λ (u : List ℕ). get_or u e 0) q.0)
