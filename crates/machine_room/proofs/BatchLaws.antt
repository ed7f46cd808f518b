-- Steps that words tell, one after the other: that each leaves a controller standing, and where its answer stands.
use Prim.Native.Nat.{ℕ, zero, suc, ◌+◌, ◌*◌, ◌≤◌, ◌<◌}
use mathlib.Core.Path.{◌≡◌, refl, sym, ap, ap₂, ◌∙◌, subst}
use mathlib.Core.Bool.{true, false}
use mathlib.Core.List.{List}
use mathlib.Core.Logic.{◌⊎◌, ⊎_elim}
use native.Mathlib.Omega.{arith}
use native.Mathlib.Decide.{ℕ_discrete}
use borrow.Author.Tests.{lt-ltb, ltb-true}
use lib.Dec.{ltb}
use lib.ListN.{length, get_or, set, length-set}
use lib.Seq.{get_or-set_same, get_or-set_other}
use Rattle.words.specs.Counting.{upto}
use Rattle.words.proofs.ChoiceLaws.{pick_true, pick-false}
use Rattle.words.proofs.TruthLaws.{and_left, and_right, and_both, not-holds}
use Rattle.words.proofs.CountingLaws.{upto-none, upto-more}
use Rattle.steps.specs.Refusals.{carried_out, unknown, unsound}
use Rattle.steps.specs.declared.Recorded.{Recorded}
use Rattle.coreinterrupt.proofs.Promises.{kept as core}
use Rattle.cic.proofs.Promises.{kept as cic}
use Rattle.cic_indexed.proofs.Promises.{kept as prioritised}
use Rattle.aintc.proofs.Promises.{kept as aintc}
use Rattle.trace.specs.Turns.{made, step_of}
use Rattle.rooms.specs.Reply.{Reply, reply}
use Rattle.kinds.proofs.KindLaws.{KindOf, is_aic, is_core, is_cic, is_aintc, is_indexed, is_none, kind_of}
use Rattle.machine.specs.declared.record.Machine.{Machine}
use Rattle.machine.specs.Machine.{sound, indexed}
use Rattle.machine.proofs.MachineLaws.{sound_core, sound-cic, sound_aintc, sound-indexed, fifth-kind}
use Rattle.machine.specs.declared.Answer.{Answer}
use Rattle.machine.specs.Steps.{refused, step}
use Rattle.machine.proofs.StepLaws.{core_steps, cic_steps, aintc_steps, indexed_steps, step-ready}
use Rattle.machine_room.specs.Room.{Done}
use Rattle.machine_room.specs.Batch.{is_step, step_told, Taken, kth_told, after_steps, kth_reply, answers_in, SteppedAll}
use Rattle.machine_room.specs.Controller.{Stands, Vacant, Stepped}

-- ---- one step

-- what stands in a room is sound after any step
pub sound-step : (m : Machine) (x : Recorded) (r : List ℕ) → Stands r m → sound (step m x).machine ≡ true
sound-step m x r s = go (kind_of m.kind)
  where
    go : KindOf m.kind → sound (step m x).machine ≡ true
    go (is_aic k) = (step-ready m x (s.0, (s.1.aic k).shaped)).0
    go (is_core k) = rw (core_steps m x k) (sym (sound_core _ k) ∙ core.step_sound m.core x.step (sound_core m k ∙ s.0))
    go (is_cic k) = rw (cic_steps m x k) (sym (sound-cic _ k) ∙ cic.step_sound m.cic x.step (sound-cic m k ∙ s.0))
    go (is_aintc k) = rw (aintc_steps m x k) (sym (sound_aintc _ k) ∙ aintc.step_sound m.aintc x.privilege x.step (sound_aintc m k ∙ s.0))
    go (is_indexed k) = rw (indexed_steps m x k) (sym (sound-indexed _ k) ∙ prioritised.step_sound (indexed m) x.step (sound-indexed m k ∙ s.0))
    go (is_none a b c d e) = absurd (e (fifth-kind m s.0 a b c d))

-- a step of one of the three kinds
pub told-one : (m : Machine) (kind x y privilege : ℕ) → is_step kind ≡ true → step_told m kind x y privilege ≡ step m (made (step_of kind x y) privilege)
unfolding step_told
told-one m kind x y privilege e = sym (pick_true _ e)

pub takes : {before after : List ℕ} {q : Reply} (m : Machine) (kind x y privilege : ℕ) → is_step kind ≡ true → Stands before m
    → Done true (step m (made (step_of kind x y) privilege)) after q → Taken (step_told m kind x y privilege) after q
unfolding step_told
takes {before} {after} {q} m kind x y privilege e s d =
    subst (λ (a : Answer). Taken a after q) (pick_true (refused m unknown) e) ((sound-step m _ before s, d.0), d.1)

pub step_kinds : (kind : ℕ) → is_step kind ≡ true → (0 < kind) × (kind < 4)
step_kinds kind e = (ltb-true 0 kind (and_left (ltb 0 kind) (ltb kind 4) e), ltb-true kind 4 (and_right (ltb 0 kind) (ltb kind 4) e))

-- and of none of them
no_step : (kind : ℕ) → (kind < 1) ⊎ (3 < kind) → is_step kind ≡ false
no_step kind h =
    not-holds (is_step kind) (λ e. let k = step_kinds kind e in ⊎_elim (λ l. omega (arith, l, k.0)) (λ l. omega (arith, l, k.1)) h)

pub told_none : (m : Machine) (kind x y privilege : ℕ) → (kind < 1) ⊎ (3 < kind) → step_told m kind x y privilege ≡ refused m unknown
unfolding step_told
told_none m kind x y privilege h = sym (pick-false _ (no_step kind h))

pub takes_none : {before : List ℕ} {q : Reply} (m : Machine) (kind x y privilege : ℕ) → is_step kind ≡ false → Stands before m → q ≡ reply unknown 0
    → Taken (step_told m kind x y privilege) before q
unfolding step_told
takes_none {before} {q} m kind x y privilege e s d =
    subst (λ (a : Answer). Taken a before q) (pick-false (step m (made (step_of kind x y) privilege)) e) (s, d)

-- ---- none is taken

pub refused_none : (answers : List ℕ) → answers ≡ answers_in (λ _. reply unsound 0) answers 0
unfolding answers_in
refused_none answers = upto-none _ answers

-- one more is answered 12
pub refused-more : (answers : List ℕ) (k : ℕ) {answered : List ℕ} {refusal value : ℕ} → answered ≡ answers_in (λ _. reply unsound 0) answers k → refusal ≡ unsound
    → value ≡ 0 → set (set answered (2 * k) refusal) (2 * k + 1) value ≡ answers_in (λ _. reply unsound 0) answers (k + 1)
unfolding answers_in
refused-more answers k {answered} h er ev =
    upto-more (λ l j. set (set l (2 * j) unsound) (2 * j + 1) 0) answers k h (ap₂ (λ (x y : ℕ). set (set answered (2 * k) x) (2 * k + 1) y) er ev)

-- ---- one after the other

-- the first k steps are taken and answered
abbrev pub Along : List ℕ → List ℕ → List ℕ → ℕ → List ℕ → List ℕ → Type 0
Along before told answers k after answered =
    (m : Machine) → Stands before m → Stands after (after_steps m told k) × (answered ≡ answers_in (kth_reply m told) answers k)

pub along-none : (before told answers : List ℕ) → Along before told answers 0 before answers
unfolding after_steps answers_in
along-none before told answers m s = (subst (λ (n : Machine). Stands before n) (upto-none _ m) s, upto-none _ answers)

-- one more
pub along-more : (before told answers after answered next : List ℕ) (k refusal value : ℕ) (q : Reply) → Along before told answers k after answered
    → ((m : Machine) → Stands after m → Taken (step_told m (get_or told (4 * k) 0) (get_or told (4 * k + 1) 0) (get_or told (4 * k + 2) 0) (get_or told (4 * k + 3) 0)) next q)
    → refusal ≡ q.0 → value ≡ q.1 → Along before told answers (k + 1) next (set (set answered (2 * k) refusal) (2 * k + 1) value)
unfolding after_steps answers_in kth_told
along-more before told answers after answered next k refusal value q h t er ev m s =
    let a = h m s in
    let d = t _ a.0 in (
      subst (λ (n : Machine). Stands next n) (upto-more (λ n j. (kth_told n told j).machine) m k refl refl) d.0,
      upto-more (λ l j. set (set l (2 * j) (kth_reply m told j).0) (2 * j + 1) (kth_reply m told j).1) answers k a.1
          (ap₂ (λ (x y : ℕ). set (set answered (2 * k) x) (2 * k + 1) y) (er ∙ ap (λ (p : Reply). p.0) d.1) (ev ∙ ap (λ (p : Reply). p.1) d.1)),
    )

-- ---- the whole call

pub all-taken : (before told answers after answered : List ℕ) (n k : ℕ) → n ≡ k → Along before told answers n after answered
    → (m : Machine) × Stands before m → SteppedAll before told answers k after answered carried_out
all-taken before told answers after answered n k e h w =
    subst (λ (j : ℕ). SteppedAll before told answers j after answered carried_out) e
    (record { standing = λ m s. let a = h m s in (a.0, a.1, refl); vacant = λ v. absurd (v w.0 w.1) })

pub all-refused : (before told answers answered : List ℕ) (n k : ℕ) → n ≡ k → answered ≡ answers_in (λ _. reply unsound 0) answers n → Vacant before
    → SteppedAll before told answers k before answered unsound
all-refused before told answers answered n k e h v =
    subst (λ (j : ℕ). SteppedAll before told answers j before answered unsound) e
    (record { standing = λ m s. absurd (v m s); vacant = λ _. (refl, h, refl) })

-- ---- and one more singly

both_below : {kind : ℕ} → 0 < kind → kind < 4 → is_step kind ≡ true
both_below {kind} a b = and_both (lt-ltb 0 kind a) (lt-ltb kind 4 b)

pub one_more : (before told answers after answered next : List ℕ) (n r kind x y p : ℕ) (q : Reply) → SteppedAll before told answers n after answered r
    → 0 < kind → kind < 4 → kind ≡ get_or told (4 * n) 0 → x ≡ get_or told (4 * n + 1) 0 → y ≡ get_or told (4 * n + 2) 0 → p ≡ get_or told (4 * n + 3) 0
    → Stepped after (made (step_of kind x y) p) next q
    → SteppedAll before told answers (n + 1) next (set (set answered (2 * n) q.0) (2 * n + 1) q.1) r
one_more before told answers after answered next n r kind x y p q h lo hi ek ex ey ep s =
    let there : Along before told answers n after answered = λ m z. let a = h.standing m z in (a.0, a.1) in
    let more = along-more before told answers after answered next n q.0 q.1 q there
    (λ m z. rw (sym ek) (rw (sym ex) (rw (sym ey) (rw (sym ep) (takes m kind x y p (both_below lo hi) z (s.standing m z)))))) refl refl in
    record {
      standing = λ m z. let a = more m z in (a.0, a.1, (h.standing m z).2);
      vacant = λ v.
          let a = h.vacant v in
          let b = s.vacant (subst (λ (w : List ℕ). Vacant w) (sym a.0) v) in (
            b.0 ∙ a.0,
            refused-more answers n a.1 (ap (λ (z : Reply). z.0) b.1) (ap (λ (z : Reply). z.1) b.1),
            a.2,
          );
    }

-- ---- the words of the answers

pub answers-length : (q : ℕ → Reply) (answers : List ℕ) (n : ℕ) → length (answers_in q answers n) ≡ length answers
unfolding answers_in upto
answers-length q answers zero = refl
answers-length q answers (suc n) =
    length-set (set (answers_in q answers n) (2 * n) (q n).0) (2 * n + 1) (q n).1 ∙ length-set (answers_in q answers n) (2 * n) (q n).0
    ∙ answers-length q answers n

-- behind them nothing is written
pub answers-past : (q : ℕ → Reply) (answers : List ℕ) (n i : ℕ) → 2 * n ≤ i → get_or (answers_in q answers n) i 0 ≡ get_or answers i 0
unfolding answers_in upto
answers-past q answers zero i l = refl
answers-past q answers (suc n) i l =
    get_or-set_other (set (answers_in q answers n) (2 * n) (q n).0) (2 * n + 1) i (q n).1 0 (λ e. omega (arith, l, e))
    ∙ get_or-set_other (answers_in q answers n) (2 * n) i (q n).0 0 (λ e. omega (arith, l, e)) ∙ answers-past q answers n i (omega (arith, l))

pub refusal_at_lem : (q : ℕ → Reply) (answers : List ℕ) (n k : ℕ) → k < n → 2 * n ≤ length answers → get_or (answers_in q answers n) (2 * k) 0 ≡ (q k).0
unfolding answers_in upto
refusal_at_lem q answers zero k l f = absurd (omega (arith, l))
refusal_at_lem q answers (suc n) k l f =
    get_or-set_other (set (answers_in q answers n) (2 * n) (q n).0) (2 * n + 1) (2 * k) (q n).1 0 (λ e. omega (arith, e))
    ∙ go (λ m. refusal_at_lem q answers n k m (omega (arith, f))) (ℕ_discrete k n)
  where
    go : (k < n → get_or (answers_in q answers n) (2 * k) 0 ≡ (q k).0) → Dec (k ≡ n) → get_or (set (answers_in q answers n) (2 * n) (q n).0) (2 * k) 0 ≡ (q k).0
    go h (yes e) =
        subst (λ (j : ℕ). get_or (set (answers_in q answers n) (2 * n) (q n).0) (2 * j) 0 ≡ (q j).0) (sym e)
        (get_or-set_same (answers_in q answers n) (2 * n) (q n).0 0 (omega (arith, f, answers-length q answers n)))
    go h (no d) = get_or-set_other (answers_in q answers n) (2 * n) (2 * k) (q n).0 0 (λ e. d (omega (arith, e))) ∙ h (omega (arith, l, d))

pub value_at_lem : (q : ℕ → Reply) (answers : List ℕ) (n k : ℕ) → k < n → 2 * n ≤ length answers → get_or (answers_in q answers n) (2 * k + 1) 0 ≡ (q k).1
unfolding answers_in upto
value_at_lem q answers zero k l f = absurd (omega (arith, l))
value_at_lem q answers (suc n) k l f = go (λ m. value_at_lem q answers n k m (omega (arith, f))) (ℕ_discrete k n)
  where
    first : List ℕ
    first = set (answers_in q answers n) (2 * n) (q n).0

    long : length (set (answers_in q answers n) (2 * n) (q n).0) ≡ length answers
    long = length-set (answers_in q answers n) (2 * n) (q n).0 ∙ answers-length q answers n

    go : (k < n → get_or (answers_in q answers n) (2 * k + 1) 0 ≡ (q k).1) → Dec (k ≡ n) → get_or (set (set (answers_in q answers n) (2 * n) (q n).0) (2 * n + 1) (q n).1) (2 * k + 1) 0 ≡ (q k).1
    go h (yes e) =
        subst (λ (j : ℕ). get_or (set first (2 * n + 1) (q n).1) (2 * j + 1) 0 ≡ (q j).1) (sym e)
        (get_or-set_same first (2 * n + 1) (q n).1 0 (omega (arith, f, long)))
    go h (no d) =
        get_or-set_other first (2 * n + 1) (2 * k + 1) (q n).1 0 (λ e. d (omega (arith, e)))
        ∙ get_or-set_other (answers_in q answers n) (2 * n) (2 * k + 1) (q n).0 0 (λ e. omega (arith, e))
        ∙ h (omega (arith, l, d))
