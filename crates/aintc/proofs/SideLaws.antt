-- What steps do to the chosen ones: held, freed, taken anew; and that a sound record stays sound.
use Prim.Native.Nat.{ℕ}
use mathlib.Core.Path.{◌≡◌, refl, sym, ap, ap₂, ◌∙◌}
use mathlib.Core.Bool.{Bool, true, false, ◌&&◌}
use mathlib.Core.List.{List}
use mathlib.Core.Logic.{◌↔◌, ◌⊎◌, inl, inr, ⊎_elim}
use native.Mathlib.Omega.{arith}
use lib.Dec.{eqb}
use borrow.Author.Tests.{eqb-false}
use Rattle.words.specs.Choice.{pick}
use Rattle.words.specs.Counting.{one}
use Rattle.words.specs.Word.{bit}
use Rattle.words.proofs.ChoiceLaws.{pick_cases}
use Rattle.words.proofs.TruthLaws.{clash, not-holds, told}
use Rattle.steps.specs.declared.Step.{Step}
use Rattle.steps.specs.declared.Step.TheVariants.{Read, Write, Line}
use Rattle.steps.specs.Refusals.{carried_out}
use Rattle.aintc_record.specs.declared.Aintc.{Aintc}
use Rattle.aintc_record.specs.declared.Chosen.{Chosen}
use Rattle.aintc_record.specs.Bounds.{chosen_bounded, bounded}
use Rattle.aintc_record.specs.Promises.{Shaped, Bounds, Fresh}
use Rattle.aintc_record.specs.Record.{side, nobody, chosen_at, reset}
use Rattle.aintc_record.specs.Route.{priority, routed}
use Rattle.aintc_record.proofs.RecordLaws.{bounded-is, is-bounded}
use Rattle.aintc_record.proofs.Promises as record-promises
use Rattle.aintc_registers.specs.Inputs.{raised, unmasked, pending, passes, eligible}
use Rattle.aintc_registers.specs.Order.{before}
use Rattle.aintc_registers.specs.Promises.{SomeEligible, NoneEligible, First}
use Rattle.aintc_registers.specs.Settle.{settle, sound}
use Rattle.aintc_registers.proofs.Promises as choice-promises
use Rattle.aintc_registers.specs.declared.Answer.{Answer}
use Rattle.aintc_registers.specs.Effects.{released, agreed, configured, single_written, written_at, moved}
use Rattle.aintc_registers.specs.Model.{read_number, write_number, line_number, read, write, line, step}
use Rattle.aintc.specs.Promises.{Ends, Free}
use Rattle.aintc.proofs.WriteLaws.{Plain, moved_plain, written}

-- the write of v at the offset o ends what an output holds, if it is carried out
abbrev Ended : Bool → ℕ → ℕ → Type 0
Ended f o v = ((o ≡ 0x48) × (bit v (one f) ≡ true)) ⊎ ((o ≡ 0x10) × (bit v 1 ≡ true))

-- ---- the chosen ones of a record that is written

module _ (s : Aintc) where
  plain-side : (t : Aintc) → Plain s t → (f : Bool) → side t f ≡ side s f
  unfolding side pick
  plain-side t h true = h.fiq
  plain-side t h false = h.irq

  plain-bounded : bounded s ≡ true → (t : Aintc) → Plain s t → bounded t ≡ true
  unfolding bounded
  plain-bounded b t h = ap₂ (λ (x y : Chosen). chosen_bounded x && chosen_bounded y) h.irq h.fiq ∙ b

  none-bounds : Bounds nobody
  none-bounds = record { number = λ e. clash e refl; priority = λ e. clash e refl; none = λ _. (refl, refl) }

  released-bounds : (t : Bool) (c : Chosen) → Bounds c → Bounds (released t c)
  unfolding released
  released-bounds t c b = pick_cases Bounds t (λ _. none-bounds) (λ _. b)

  agreed-bounded : (v : ℕ) → bounded s ≡ true → bounded (agreed s v) ≡ true
  unfolding agreed
  agreed-bounded v b = let c = bounded-is s b in is-bounded (agreed s v) (released-bounds (bit v 0) s.irq c.0, released-bounds (bit v 1) s.fiq c.1)

  written-bounded : (o v : ℕ) → bounded s ≡ true → bounded (written_at s o v) ≡ true
  written-bounded o v b =
      written s o v (λ t. bounded t ≡ true) (plain-bounded b) (λ _. agreed-bounded v b) (λ _ _. (record-promises.kept).reset_bounded s.lines)

  -- an agreement bit of 0 leaves its output
  agreed-kept : (v : ℕ) (f : Bool) → bit v (one f) ≡ false → side (agreed s v) f ≡ side s f
  unfolding side agreed released pick
  agreed-kept v true e = rw e
  agreed-kept v false e = rw e

  -- and one of 1 frees it
  agreed-free : (v : ℕ) (f : Bool) → bit v (one f) ≡ true → (side (agreed s v) f).active ≡ false
  unfolding side agreed released pick
  agreed-free v true e = rw e
  agreed-free v false e = rw e

  reset-free : (ws : List ℕ) (f : Bool) → (side (reset ws) f).active ≡ false
  unfolding side reset pick
  reset-free ws true = refl
  reset-free ws false = refl

  -- a write that is neither of its agreement bit nor of the soft reset leaves it
  written-kept : (o v : ℕ) (f : Bool) → (Ended f o v → ⊥) → side (written_at s o v) f ≡ side s f
  written-kept o v f n =
      written s o v (λ t. side t f ≡ side s f) (λ t h. plain-side t h f)
      (λ e. agreed-kept v f (not-holds (bit v (one f)) (λ b. n (inl (e, b))))) (λ e b. absurd (n (inr (e, b))))

  -- what was free stays free
  still-free : (v : ℕ) (f : Bool) → (side s f).active ≡ false → (side (agreed s v) f).active ≡ false
  still-free v f e = ⊎_elim (λ (b : bit v (one f) ≡ true). agreed-free v f b) (λ (b : bit v (one f) ≡ false). ap (λ (c : Chosen). c.active) (agreed-kept v f b) ∙ e) (told (bit v (one f)))

  written-free : (o v : ℕ) (f : Bool) → (side s f).active ≡ false → (side (written_at s o v) f).active ≡ false
  written-free o v f e =
      written s o v (λ t. (side t f).active ≡ false) (λ t h. ap (λ (c : Chosen). c.active) (plain-side t h f) ∙ e) (λ _. still-free v f e) (λ _ _. reset-free s.lines f)

  agreed_at : (v : ℕ) → written_at s 0x48 v ≡ agreed s v
  unfolding written_at single_written pick
  agreed_at v = refl

  restarted_at : (v : ℕ) → bit v 1 ≡ true → written_at s 0x10 v ≡ reset s.lines
  unfolding written_at single_written configured pick
  restarted_at v e = rw e

  written_freed : (o v : ℕ) (f : Bool) → Ended f o v → (side (written_at s o v) f).active ≡ false
  written_freed o v f (inl (e, b)) = rw (e, agreed_at v) (agreed-free v f b)
  written_freed o v f (inr (e, b)) = rw (e, restarted_at v b) (reset-free s.lines f)

  moved-side : (k : ℕ) (high : Bool) (f : Bool) → side (moved s k high) f ≡ side s f
  moved-side k high f = plain-side (moved s k high) (moved_plain s k high) f

-- ---- who is first does not hang on who is chosen

first-free : (t : Aintc) (f : Bool) (k : ℕ) → First (settle t) f k → First t f k
unfolding settle eligible pending unmasked raised passes priority routed before
first-free t f k x = record { within = x.within; fit = x.fit; others = x.others }

priority-free : (t : Aintc) (k : ℕ) → priority (settle t) k ≡ priority t k
unfolding settle priority
priority-free t k = refl

some-free : (t : Aintc) (f : Bool) → SomeEligible t f → SomeEligible (settle t) f
some-free t f (k, l, e) = (k, l, (choice-promises.kept).eligible_free t f k ∙ e)

free-some : (t : Aintc) (f : Bool) → SomeEligible (settle t) f → SomeEligible t f
free-some t f (k, l, e) = (k, l, sym ((choice-promises.kept).eligible_free t f k) ∙ e)

settled-first : (t : Aintc) (f : Bool) (k : ℕ) → (side t f).active ≡ false → First (settle t) f k → side (settle t) f ≡ chosen_at k (priority (settle t) k)
settled-first t f k e x = (choice-promises.kept).settled_first t f k e (first-free t f k x) ∙ ap (chosen_at k) (sym (priority-free t k))

settled-active : (t : Aintc) (f : Bool) → (side t f).active ≡ false → ((side (settle t) f).active ≡ true) ↔ SomeEligible (settle t) f
settled-active t f e = let a = (choice-promises.kept).settled_active t f e in (λ h. some-free t f (a.0 h), λ x. a.1 (free-some t f x))

-- ---- the steps

sound-bounded : (s : Aintc) → sound s ≡ true → bounded s ≡ true
sound-bounded s h = let r = ((choice-promises.kept).sound_is s).0 h in is-bounded s (r.irq, r.fiq)

pub quiet : (s : Aintc) (f : Bool) → sound s ≡ true → (side s f).active ≡ false → NoneEligible s f
unfolding side pick
quiet s true h = (((choice-promises.kept).sound_is s).0 h).fiq_quiet
quiet s false h = (((choice-promises.kept).sound_is s).0 h).irq_quiet

pub step-sound : (s : Aintc) (p : ℕ) (x : Step) → sound s ≡ true → sound (step s p x).aintc ≡ true
unfolding read write line
step-sound s p (Read o) h = pick_cases (λ (a : Answer). sound a.aintc ≡ true) (eqb (read_number s p o) carried_out) (λ _. h) (λ _. h)
step-sound s p (Write o v) h =
    pick_cases (λ (a : Answer). sound a.aintc ≡ true) (eqb (write_number s p o) carried_out)
    (λ _. (choice-promises.kept).settled_sound (written_at s o v) (written-bounded s o v (sound-bounded s h))) (λ _. h)
step-sound s p (Line k l) h =
    pick_cases (λ (a : Answer). sound a.aintc ≡ true) (eqb (line_number s k l) carried_out)
    (λ _. (choice-promises.kept).settled_sound (moved s k (eqb l 1)) (plain-bounded s (sound-bounded s h) _ (moved_plain s k (eqb l 1)))) (λ _. h)

pub read_same : (s : Aintc) (p o : ℕ) → (read s p o).aintc ≡ s
unfolding read
read_same s p o = pick_cases (λ (a : Answer). a.aintc ≡ s) (eqb (read_number s p o) carried_out) (λ _. refl) (λ _. refl)

-- settling holds what is held
settled-held : (s t : Aintc) (f : Bool) → (side s f).active ≡ true → side t f ≡ side s f → side (settle t) f ≡ side s f
settled-held s t f a e = (choice-promises.kept).settled_held t f (ap (λ (c : Chosen). c.active) e ∙ a) ∙ e

pub held : (s : Aintc) (f : Bool) (p : ℕ) (x : Step) → (side s f).active ≡ true → (Ends s f p x → ⊥) → side (step s p x).aintc f ≡ side s f
unfolding write line
held s f p (Read o) a n = ap (λ (t : Aintc). side t f) (read_same s p o)
held s f p (Write o v) a n =
    pick_cases (λ (b : Answer). ((b.refusal ≡ carried_out) × Ended f o v → ⊥) → side b.aintc f ≡ side s f) (eqb (write_number s p o) carried_out)
    (λ _ m. settled-held s (written_at s o v) f a (written-kept s o v f (λ e. m (refl, e)))) (λ _ _. refl) n
held s f p (Line k l) a _ =
    pick_cases (λ (b : Answer). side b.aintc f ≡ side s f) (eqb (line_number s k l) carried_out)
    (λ _. settled-held s (moved s k (eqb l 1)) f a (moved-side s k (eqb l 1) f)) (λ _. refl)

-- the agreement of one output: the other one, where it has none, still finds none
agreed-none : (s : Aintc) (v : ℕ) (f : Bool) → NoneEligible s f → NoneEligible (agreed s v) f
unfolding agreed eligible pending unmasked raised passes priority routed
agreed-none s v f n = n

pub other-side : (s : Aintc) (f : Bool) (p v : ℕ) → sound s ≡ true → bit v (one f) ≡ false → side (write s p 0x48 v).aintc f ≡ side s f
unfolding write
other-side s f p v h z =
    ⊎_elim (λ (a : (side s f).active ≡ true). held s f p (Write 0x48 v) a not-ended)
    (λ (e : (side s f).active ≡ false).
    pick_cases (λ (b : Answer). side b.aintc f ≡ side s f) (eqb (write_number s p 0x48) carried_out)
    (λ _. ap (λ (t : Aintc). side (settle t) f) (agreed_at s v) ∙ (choice-promises.kept).settled_none (agreed s v) f (agreed-none s v f (quiet s f h e)) ∙ agreed-kept s v f z)
    (λ _. refl))
    (told (side s f).active)
  where
    not-ended : Ends s f p (Write 0x48 v) → ⊥
    not-ended (_, inl (_, b)) = clash b z
    not-ended (_, inr (e, _)) = omega (arith, e)

-- a write after which the output has none chosen
write-free : (s : Aintc) (f : Bool) (p o v : ℕ) → Free s f p (Write o v) → (side (written_at s o v) f).active ≡ false
write-free s f p o v (inl e) = written-free s o v f e
write-free s f p o v (inr (_, e)) = written_freed s o v f e

line-free : (s : Aintc) (f : Bool) (p k l : ℕ) → Free s f p (Line k l) → (side (moved s k (eqb l 1)) f).active ≡ false
line-free s f p k l (inl e) = ap (λ (c : Chosen). c.active) (moved-side s k (eqb l 1) f) ∙ e
line-free s f p k l (inr z) = absurd z

-- a law of the record after an accepted step
module _ (s : Aintc) (f : Bool) (P : Aintc → Type 0) (settled : (t : Aintc) → (side t f).active ≡ false → P (settle t)) (idle : (side s f).active ≡ false → P s) where
  pub after : (p : ℕ) (x : Step) → (step s p x).refusal ≡ carried_out → Free s f p x → P (step s p x).aintc
  unfolding read write line
  after p (Read o) z (inl e) = pick_cases (λ (a : Answer). P a.aintc) (eqb (read_number s p o) carried_out) (λ _. idle e) (λ _. idle e)
  after p (Read o) z (inr n) = absurd n
  after p (Write o v) z h =
      pick_cases (λ (a : Answer). a.refusal ≡ carried_out → P a.aintc) (eqb (write_number s p o) carried_out)
      (λ _ _. settled (written_at s o v) (write-free s f p o v h)) (λ n y. absurd (eqb-false (write_number s p o) carried_out n y)) z
  after p (Line k l) z h =
      pick_cases (λ (a : Answer). a.refusal ≡ carried_out → P a.aintc) (eqb (line_number s k l) carried_out)
      (λ _ _. settled (moved s k (eqb l 1)) (line-free s f p k l h)) (λ n y. absurd (eqb-false (line_number s k l) carried_out n y)) z

pub chosen-first : (s : Aintc) (f : Bool) (p : ℕ) (x : Step) (k : ℕ) → sound s ≡ true → (step s p x).refusal ≡ carried_out → Free s f p x → First (step s p x).aintc f k
    → side (step s p x).aintc f ≡ chosen_at k (priority (step s p x).aintc k)
chosen-first s f p x k h z g =
    after s f (λ t. First t f k → side t f ≡ chosen_at k (priority t k)) (λ t e y. settled-first t f k e y) (λ e y. clash y.fit (quiet s f h e k y.within)) p x z g

pub chosen-active : (s : Aintc) (f : Bool) (p : ℕ) (x : Step) → sound s ≡ true → (step s p x).refusal ≡ carried_out → Free s f p x
    → ((side (step s p x).aintc f).active ≡ true) ↔ SomeEligible (step s p x).aintc f
chosen-active s f p x h z g =
    after s f (λ t. ((side t f).active ≡ true) ↔ SomeEligible t f) (λ t e. settled-active t f e) (λ e. (λ a. clash a e, λ (k, l, y). clash y (quiet s f h e k l))) p x z g

-- ---- the soft reset

restarted : (s : Aintc) (v : ℕ) → bit v 1 ≡ true → settle (written_at s 0x10 v) ≡ reset s.lines
restarted s v e = ap settle (restarted_at s v e) ∙ (choice-promises.kept).settled_same (reset s.lines) ((choice-promises.kept).reset_sound s.lines)

pub soft-reset : (s : Aintc) (p v : ℕ) → (write s p 0x10 v).refusal ≡ carried_out → bit v 1 ≡ true → Fresh (write s p 0x10 v).aintc × ((write s p 0x10 v).aintc.lines ≡ s.lines)
unfolding write
soft-reset s p v z e =
    pick_cases (λ (a : Answer). a.refusal ≡ carried_out → Fresh a.aintc × (a.aintc.lines ≡ s.lines)) (eqb (write_number s p 0x10) carried_out)
    (λ _ _. rw (restarted s v e) ((record-promises.kept).reset_fresh s.lines, (record-promises.kept).reset_lines s.lines))
    (λ n y. absurd (eqb-false (write_number s p 0x10) carried_out n y)) z

-- ---- the lengths of the arrays

pub step_shaped : (s : Aintc) (p : ℕ) (x : Step) → Shaped s → Shaped (step s p x).aintc
unfolding read write line settle agreed
step_shaped s p (Read o) h = pick_cases (λ (a : Answer). Shaped a.aintc) (eqb (read_number s p o) carried_out) (λ _. h) (λ _. h)
step_shaped s p (Write o v) h =
    pick_cases (λ (a : Answer). Shaped a.aintc) (eqb (write_number s p o) carried_out)
    (λ _. written s o v Shaped (λ t q. q.shaped h) (λ _. h) (λ _ _. (record-promises.kept).reset_shaped s.lines h.0)) (λ _. h)
step_shaped s p (Line k l) h = pick_cases (λ (a : Answer). Shaped a.aintc) (eqb (line_number s k l) carried_out) (λ _. (moved_plain s k (eqb l 1)).shaped h) (λ _. h)
