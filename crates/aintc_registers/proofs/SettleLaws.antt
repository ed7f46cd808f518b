-- What the outputs take and keep, and what makes a record sound.
use Prim.Native.Nat.{ℕ, ◌≤◌, ◌<◌}
use mathlib.Core.Path.{◌≡◌, refl, sym, ap, ap₂, ◌∙◌}
use mathlib.Core.Bool.{Bool, true, false, not, ◌&&◌, ◌||◌}
use mathlib.Core.Logic.{◌⊎◌, inl, inr, ⊎_elim}
use native.Mathlib.Omega.{arith}
use borrow.Author.Tests.{not-true}
use Rattle.std.specs.Prelude.{Option, Some, None, unwrap_or, IfSome, is_none as is_nothing}
use Rattle.words.specs.Choice.{pick}
use Rattle.words.proofs.ChoiceLaws.{pick_true, pick-false, pick_cases}
use Rattle.words.proofs.TruthLaws.{and_left, and_right, and_both, or-either, or_left, or_right, clash, told}
use Rattle.words.proofs.CountingLaws.{any_some, some_any, any_fails, any_none}
use Rattle.aintc_record.specs.declared.Aintc.{Aintc}
use Rattle.aintc_record.specs.declared.Chosen.{Chosen}
use Rattle.aintc_record.specs.Bounds.{bounded}
use Rattle.aintc_record.specs.Promises.{Bounds}
use Rattle.aintc_record.specs.Record.{side, with_sides, chosen_at}
use Rattle.aintc_record.specs.Route.{priority, routed}
use Rattle.aintc_record.proofs.RecordLaws.{bounded-is, is-bounded, priority-fits}
use Rattle.aintc_registers.specs.Inputs.{raised, unmasked, pending, passes, eligible}
use Rattle.aintc_registers.specs.Order.{some, first}
use Rattle.aintc_registers.specs.Promises.{SomeEligible, NoneEligible, First}
use Rattle.aintc_registers.specs.Settle.{settled_side, settle, side_quiet, sound}
use Rattle.aintc_registers.proofs.OrderLaws.{first-none}
use Rattle.aintc_registers.proofs.SearchLaws.{first_cases}

pub twice_not : (t : Bool) → t ≡ not (not t)
twice_not true = refl
twice_not false = refl

-- ---- some input is eligible

module _ (s : Aintc) (f : Bool) where
  pub some_is : some s f ≡ true → SomeEligible s f
  unfolding some
  some_is h = any_some 128 (eligible s f) h

  pub is_some : SomeEligible s f → some s f ≡ true
  unfolding some
  is_some (k, l, e) = some_any 128 (eligible s f) k l e

  pub none_is : some s f ≡ false → NoneEligible s f
  unfolding some
  none_is h = any_fails 128 (eligible s f) h

  pub is_none : NoneEligible s f → some s f ≡ false
  unfolding some
  is_none h = any_none 128 (eligible s f) h

  pub first-is : some s f ≡ true → First s f (first s f)
  first-is h = go (first_cases s f)
    where
      go : (NoneEligible s f × (first s f ≡ 128)) ⊎ First s f (first s f) → First s f (first s f)
      go (inl (n, e)) = clash h (is_none n)
      go (inr x) = x

  -- the first is below 128 exactly if some input is eligible
  pub below-some : first s f < 128 → some s f ≡ true
  below-some l = go (first_cases s f)
    where
      go : (NoneEligible s f × (first s f ≡ 128)) ⊎ First s f (first s f) → some s f ≡ true
      go (inl (n, e)) = absurd (omega arith)
      go (inr x) = is_some (first s f, x.within, x.fit)

  -- ---- one output

  pub settled-held : (side s f).active ≡ true → side s f ≡ settled_side s f
  unfolding settled_side
  settled-held e = pick_true _ e

  pub settled-first : (side s f).active ≡ false → some s f ≡ true → chosen_at (first s f) (priority s (first s f)) ≡ settled_side s f
  unfolding settled_side
  settled-first e h = pick_true _ h ∙ pick-false _ e

  pub settled-none : some s f ≡ false → side s f ≡ settled_side s f
  unfolding settled_side
  settled-none h = go (told (side s f).active)
    where
      go : ((side s f).active ≡ true) ⊎ ((side s f).active ≡ false)
          → side s f ≡ pick (side s f).active (side s f) (pick (some s f) (chosen_at (first s f) (priority s (first s f))) (side s f))
      go (inl e) = pick_true _ e
      go (inr e) = pick-false _ h ∙ pick-false _ e

  -- as the code has it: c is the one that is chosen
  module _ (c : Chosen) (ec : c ≡ side s f) where
    pub quiet-from : (o : Option ℕ) → unwrap_or o 128 ≡ first s f → IfSome o (λ k. k < 128) → c.active ≡ false → is_nothing o ≡ side_quiet s f
    unfolding side_quiet
    quiet-from o eo l e = rw (ap (λ (d : Chosen). d.active) (sym ec) ∙ e) (go o eo l (told (some s f)))
      where
        go : (o : Option ℕ) → unwrap_or o 128 ≡ first s f → IfSome o (λ k. k < 128) → (some s f ≡ true) ⊎ (some s f ≡ false) → is_nothing o ≡ not (some s f)
        go None eo l (inl h) = absurd (omega (arith, eo, (first-is h).within))
        go (Some k) eo l (inl h) = rw h
        go None eo l (inr h) = rw h
        go (Some k) eo l (inr h) = absurd (omega (arith, eo, l, first-none s f (none_is h)))

    pub quiet-held : c.active ≡ true → true ≡ side_quiet s f
    unfolding side_quiet
    quiet-held e = sym (or_left _ (ap (λ (d : Chosen). d.active) (sym ec) ∙ e))

-- ---- both outputs

pub side_settled : (s : Aintc) (f : Bool) → side (settle s) f ≡ settled_side s f
unfolding side settle pick
side_settled s true = refl
side_settled s false = refl

-- what is eligible, and which is first, does not hang on who is chosen
pub eligible-free : (s : Aintc) (a b : Chosen) (f : Bool) (k : ℕ) → eligible (with_sides s a b) f k ≡ eligible s f k
unfolding eligible pending unmasked raised passes priority routed
eligible-free s a b f k = refl

pub some-free : (s : Aintc) (a b : Chosen) (f : Bool) → some (with_sides s a b) f ≡ some s f
unfolding some eligible pending unmasked raised passes priority routed
some-free s a b f = refl

pub some_settled : (s : Aintc) (f : Bool) → some (settle s) f ≡ some s f
unfolding settle
some_settled s f = some-free s (settled_side s false) (settled_side s true) f

module _ (s : Aintc) where
  side-bounds : bounded s ≡ true → (f : Bool) → Bounds (side s f)
  unfolding side pick
  side-bounds h true = (bounded-is s h).1
  side-bounds h false = (bounded-is s h).0

  chosen-bounds : (k p : ℕ) → k < 128 → p ≤ 127 → Bounds (chosen_at k p)
  chosen-bounds k p l m = record { number = λ e. omega arith; priority = λ e. m; none = λ e. clash refl e }

  settled-bounds : bounded s ≡ true → (f : Bool) → Bounds (settled_side s f)
  unfolding settled_side
  settled-bounds h f =
      pick_cases Bounds (side s f).active (λ _. side-bounds h f)
      (λ _. pick_cases Bounds (some s f) (λ e. chosen-bounds (first s f) (priority s (first s f)) (first-is s f e).within (priority-fits s (first s f))) (λ _. side-bounds h f))

  settled_quiet : (f : Bool) → side_quiet (settle s) f ≡ true
  unfolding side_quiet
  settled_quiet f = rw (side_settled s f, some_settled s f) (go (told (some s f)) (told (side s f).active))
    where
      go : (some s f ≡ true) ⊎ (some s f ≡ false) → ((side s f).active ≡ true) ⊎ ((side s f).active ≡ false) → ((settled_side s f).active || not (some s f)) ≡ true
      go (inr h) d = or_right (settled_side s f).active (ap not h)
      go (inl h) (inl e) = or_left _ (ap (λ (d : Chosen). d.active) (sym (settled-held s f e)) ∙ e)
      go (inl h) (inr e) = or_left _ (ap (λ (d : Chosen). d.active) (sym (settled-first s f e h)))

  settled-bounded : bounded s ≡ true → bounded (settle s) ≡ true
  unfolding settle
  settled-bounded h = is-bounded (settle s) (settled-bounds h false, settled-bounds h true)

  pub settled-sound : bounded s ≡ true → sound (settle s) ≡ true
  unfolding sound
  settled-sound h = and_both (and_both (settled-bounded h) (settled_quiet false)) (settled_quiet true)

  quiet_same : (f : Bool) → side_quiet s f ≡ true → settled_side s f ≡ side s f
  unfolding side_quiet
  quiet_same f h =
      ⊎_elim (λ (e : (side s f).active ≡ true). sym (settled-held s f e)) (λ (e : not (some s f) ≡ true). sym (settled-none s f (not-true (some s f) e)))
      (or-either (side s f).active (not (some s f)) h)

  side-irq : side s false ≡ s.irq
  unfolding side pick
  side-irq = refl

  side-fiq : side s true ≡ s.fiq
  unfolding side pick
  side-fiq = refl

  pub settled_same : sound s ≡ true → settle s ≡ s
  unfolding sound settle
  settled_same h =
      ap₂ (with_sides s) (quiet_same false (and_right (bounded s) _ (and_left _ (side_quiet s true) h)) ∙ side-irq)
      (quiet_same true (and_right (bounded s && side_quiet s false) _ h) ∙ side-fiq)
