-- What an output takes of the input that is before all others, and what both take where one input alone may be taken.
use Prim.Native.Nat.{ℕ, ◌+◌, ◌*◌, ◌/◌, ◌%◌, ◌≤◌, ◌<◌}
use mathlib.Core.Path.{◌≡◌, refl, sym, ap, ap₂, ◌∙◌, subst}
use mathlib.Core.Bool.{Bool, true, false, not, ◌&&◌, ◌||◌}
use mathlib.Core.List.{List}
use mathlib.Core.Logic.{◌≢◌, ◌⊎◌, inl, inr}
use native.Mathlib.Decide.{ℕ_discrete}
use native.Mathlib.Nat.{mod-eq_of_lt}
use native.Mathlib.Omega.{arith}
use borrow.Author.Tests.{eq-eqb, ne_eqb, eqb-true}
use lib.Dec.{eqb, ltb}
use lib.ListN.{length, get_or, set}
use Rattle.words.specs.Array.{with_bit_at}
use Rattle.words.specs.Choice.{pick}
use Rattle.words.specs.Counting.{one}
use Rattle.words.specs.Word.{bit, with_bit, either}
use Rattle.words.proofs.ArrayLaws.{bit_at-with_bit_at}
use Rattle.words.proofs.ChoiceLaws.{pick-false}
use Rattle.words.proofs.TruthLaws.{and_left, and_right, and_both, clash, told, not-holds}
use Rattle.words.proofs.WordLaws.{bit-word_of}
use Rattle.aintc_record.specs.declared.Aintc.{Aintc}
use Rattle.aintc_record.specs.declared.Chosen.{Chosen}
use Rattle.aintc_record.specs.Record.{side, with_sides, with_lines, chosen_at}
use Rattle.aintc_record.specs.Route.{route_of, route_at, priority, routed}
use Rattle.aintc_registers.specs.Inputs.{raised, unmasked, pending, passes, eligible, open_word, pending_word}
use Rattle.aintc_registers.specs.Order.{before, foremost, some, first}
use Rattle.aintc_registers.specs.Promises.{NoneEligible, First}
use Rattle.aintc_registers.specs.Settle.{settled_side, settle, sound}
use Rattle.aintc_registers.proofs.Promises as choice-promises
use Rattle.aintc_registers.proofs.SettleLaws.{is_none, settled-held, settled-none, side_settled}
use Rattle.aintc_registers.specs.Effects.{moved}
use Rattle.aintc_room.specs.Room.{Laid, chosen_from, with_side}
use Rattle.aintc_room.proofs.CellLaws.{laid_as, threshold-is, active-is, route-is, put-side, put_lines, lines-is}
use Rattle.aintc_room.proofs.Promises.{fiq-bit}
use Rattle.aintc_room.specs.First.{held, FirstOf, Leads, Alone}
use Rattle.aintc_room.proofs.SearchLaws.{held-is, none-held}

-- ---- whether one is chosen, from its word

pub is_free : {a : Aintc} {room : List ℕ} → Laid a room → (f : Bool) (at : ℕ) → at ≡ chosen_from f → get_or room at 0 ≡ 0 → (side a f).active ≡ false
is_free {a} {room} h f at e z = go (told (side a f).active)
  where
    word : one (side a f).active ≡ 0
    word = sym (active-is h f) ∙ ap (λ (n : ℕ). get_or room n 0) (sym e) ∙ z

    go : ((side a f).active ≡ true) ⊎ ((side a f).active ≡ false) → (side a f).active ≡ false
    go (inl t) = absurd (omega (arith, word, ap one t))
    go (inr t) = t

pub is-taken : {a : Aintc} {room : List ℕ} → Laid a room → (f : Bool) (at : ℕ) → at ≡ chosen_from f → (get_or room at 0 ≡ 0 → ⊥) → (side a f).active ≡ true
is-taken {a} {room} h f at e z = go (told (side a f).active)
  where
    go : ((side a f).active ≡ true) ⊎ ((side a f).active ≡ false) → (side a f).active ≡ true
    go (inl t) = t
    go (inr t) = absurd (z (ap (λ (n : ℕ). get_or room n 0) e ∙ active-is h f ∙ ap one t))

-- ---- an output

-- the one that it has
own-side : (a : Aintc) (f : Bool) → with_side a f (side a f) ≡ a
unfolding side pick
own-side a true = refl
own-side a false = refl

-- its priority as the room has it
priority_in : {a : Aintc} {room : List ℕ} → Laid a room → (k p : ℕ) → k < 128 → p ≡ get_or room (128 + k) 0 / 2 → p ≡ priority a k
unfolding priority
priority_in {a} h k p l e = e ∙ ap (λ (n : ℕ). n / 2) (route-is h k l) ∙ sym (mod-eq_of_lt (omega (arith, h.bytes.routes k l)))

passes_in : {a : Aintc} {room : List ℕ} → Laid a room → (k p : ℕ) → p ≡ priority a k → (eqb p 0 || ltb p (get_or room 1 0)) ≡ passes a (priority a k)
unfolding passes
passes_in h k p e = ap₂ (λ (n m : ℕ). eqb n 0 || ltb n m) e (threshold-is h)

module _ (a : Aintc) (f : Bool) (k : ℕ) (t : Leads a f k) where
  -- what passes for a priority passes for one that is no lower
  passes_too : (p q : ℕ) → p ≤ q → passes a q ≡ true → passes a p ≡ true
  passes_too p q l e = ((choice-promises.kept).passes_is a p).1 (go (((choice-promises.kept).passes_is a q).0 e))
    where
      go : (q ≡ 0) ⊎ (q < a.threshold) → (p ≡ 0) ⊎ (p < a.threshold)
      go (inl z) = inl (omega (arith, z, l))
      go (inr m) = inr (omega (arith, m, l))

  is-first : passes a (priority a k) ≡ true → First a f k
  is-first e = record { within = t.within; fit = ((choice-promises.kept).eligible_is a f k).1 (t.waits, e); others = λ j l g d. t.others j l g d }

  none_first : passes a (priority a k) ≡ false → NoneEligible a f
  none_first e j l = not-holds (eligible a f j) (λ g. go g (ℕ_discrete j k))
    where
      go : eligible a f j ≡ true → Dec (j ≡ k) → ⊥
      go g (yes z) = clash (((choice-promises.kept).eligible_is a f k).0 (subst (λ (n : ℕ). eligible a f n ≡ true) z g)).1 e
      go g (no d) = clash (passes_too (priority a k) (priority a j) (lower (((choice-promises.kept).before_is a k j).0 (t.others j l g d))) (((choice-promises.kept).eligible_is a f j).0 g).1) e
        where
          lower : (priority a k < priority a j) ⊎ ((priority a k ≡ priority a j) × (j < k)) → priority a k ≤ priority a j
          lower (inl m) = omega (arith, m)
          lower (inr m) = omega (arith, m.0)

  pub taken_on : {room : List ℕ} (at p : ℕ) → Laid a room → at ≡ chosen_from f → p ≡ get_or room (128 + k) 0 / 2 → (eqb p 0 || ltb p (get_or room 1 0)) ≡ true → (side a f).active ≡ false
      → Laid (with_side a f (settled_side a f)) (set (set (set room at 1) (at + 1) k) (at + 2) p)
  taken_on {room} at p h e ep pass free =
      let q : p ≡ priority a k = priority_in h k p t.within ep in
      subst (λ (r : List ℕ). Laid (with_side a f (settled_side a f)) r) (sym (ap₂ (λ (n m : ℕ). set (set (set room n 1) (n + 1) k) (n + 2) m) e q))
      (laid_as (ap (with_side a f) (sym ((choice-promises.kept).settled_first a f k free (is-first (sym (passes_in h k p q) ∙ pass))) ∙ side_settled a f)) (put-side h f (chosen_at k (priority a k))))

  pub taken-off : {room : List ℕ} (p : ℕ) → Laid a room → p ≡ get_or room (128 + k) 0 / 2 → (eqb p 0 || ltb p (get_or room 1 0)) ≡ false → Laid (with_side a f (settled_side a f)) room
  taken-off {room} p h ep pass =
      let q : p ≡ priority a k = priority_in h k p t.within ep in
      laid_as (sym (own-side a f) ∙ ap (with_side a f) (settled-none a f (is_none a f (none_first (sym (passes_in h k p q) ∙ pass))))) h

pub held_stays : (a : Aintc) (f : Bool) {room : List ℕ} → Laid a room → (side a f).active ≡ true → Laid (with_side a f (settled_side a f)) room
held_stays a f h e = laid_as (sym (own-side a f) ∙ ap (with_side a f) (settled-held a f e)) h

-- ---- the search through all that are pending

module _ (a : Aintc) (f : Bool) (w x y z : ℕ) (ew : w ≡ pending_word a f 0) (ex : x ≡ pending_word a f 1) (ey : y ≡ pending_word a f 2) (ez : z ≡ pending_word a f 3) where
  pub held-pending : (k : ℕ) → k < 128 → held w x y z k ≡ pending a f k
  unfolding pending_word
  held-pending k l =
      let e : 32 * (k / 32) + k % 32 ≡ k = omega arith in
      held-is w x y z (pending_word a f) ew ex ey ez k l ∙ bit-word_of 32 (λ i. pending a f (32 * (k / 32) + i)) (k % 32) (omega arith) ∙ ap (pending a f) e

  pub none-pending : {room : List ℕ} (v : ℕ) → v ≡ either (either w x) (either y z) → v ≡ 0 → Laid a room → Laid (with_side a f (settled_side a f)) room
  none-pending v e o h = laid_as (sym (own-side a f) ∙ ap (with_side a f) (settled-none a f (is_none a f (λ k l. off k (sym (held-pending k l) ∙ none-held w x y z v e o k l))))) h
    where
      off : (k : ℕ) → pending a f k ≡ false → eligible a f k ≡ false
      off k z = not-holds (eligible a f k) (λ g. clash (((choice-promises.kept).eligible_is a f k).0 g).0 z)

  pub first-leads : (k m : ℕ) → FirstOf a (held w x y z) k → m ≡ k % 128 → Leads a f m
  first-leads k m h e =
      let q : m ≡ k = e ∙ mod-eq_of_lt h.within in
      subst (λ (n : ℕ). Leads a f n) (sym q)
      (record {
        within = h.within;
        waits = sym (held-pending k h.within) ∙ h.fit;
        others = λ j l g d. h.others j l (held-pending j l ∙ (((choice-promises.kept).eligible_is a f j).0 g).0) d;
      })

-- ---- both outputs, one after the other

pub both_settled : (a : Aintc) → with_side (with_side a false (settled_side a false)) true (settled_side (with_side a false (settled_side a false)) true) ≡ settle a
unfolding settle settled_side some first foremost eligible pending unmasked raised routed passes priority before side pick
both_settled a = refl

-- ---- where one input alone may be taken

-- both outputs stay as they are
stay : (a : Aintc) → ((f : Bool) → side a f ≡ settled_side a f) → a ≡ settle a
unfolding settle side pick
stay a h = ap₂ (with_sides a) (h false) (h true)

module _ (a : Aintc) (k : ℕ) (l : k < 128) (alone : Alone a k) where
  -- an output stays for which input k is not eligible
  stays : (f : Bool) → ((side a f).active ≡ false → eligible a f k ≡ false) → side a f ≡ settled_side a f
  stays f n = go (told (side a f).active)
    where
      go : ((side a f).active ≡ true) ⊎ ((side a f).active ≡ false) → side a f ≡ settled_side a f
      go (inl e) = settled-held a f e
      go (inr e) = settled-none a f (is_none a f (λ j m. at j m (ℕ_discrete j k)))
        where
          at : (j : ℕ) → j < 128 → Dec (j ≡ k) → eligible a f j ≡ false
          at j m (yes z) = ap (eligible a f) z ∙ n e
          at j m (no d) = alone f e j m d

  -- it is not open
  pub not_open : (o : ℕ) (b : Bool) → o ≡ open_word a (k / 32) → b ≡ bit o (k % 32) → b ≡ false → a ≡ settle a
  unfolding open_word eligible pending
  not_open o b eo eb z = stay a (λ f. stays f (λ _. off f))
    where
      closed : unmasked a k ≡ false
      closed =
          let e : 32 * (k / 32) + k % 32 ≡ k = omega arith in
          sym (ap (λ (w : ℕ). bit w (k % 32)) eo ∙ bit-word_of 32 (λ i. unmasked a (32 * (k / 32) + i)) (k % 32) (omega arith) ∙ ap (unmasked a) e) ∙ sym eb ∙ z

      off : (f : Bool) → eligible a f k ≡ false
      off f = ap (λ (t : Bool). (t && routed a f k) && passes a (priority a k)) closed

  -- it asks for one output
  module _ {room : List ℕ} (h : Laid a room) (f : Bool) (ef : f ≡ bit (get_or room (28 + k / 32) 0) (k % 32)) where
    asks : f ≡ eqb (route_of (route_at a k)) 1
    asks =
        let e : 32 * (k / 32) + k % 32 ≡ k = omega arith in
        ef ∙ fiq-bit a room h (k / 32) (k % 32) (omega (arith, l)) (omega arith) ∙ ap (λ (n : ℕ). eqb (route_of (route_at a n)) 1) e

    routed_there : (g : Bool) → g ≡ eqb (route_of (route_at a k)) 1 → routed a g k ≡ true
    unfolding routed
    routed_there true e = sym e
    routed_there false e = eq-eqb (route_at a k % 2) 0 (omega (arith, differs))
      where
        differs : route_at a k % 2 ≢ 1
        differs z = clash (eq-eqb (route_at a k % 2) 1 z) (sym e)

    routed-other : (g : Bool) → g ≡ eqb (route_of (route_at a k)) 1 → routed a (not g) k ≡ false
    unfolding routed
    routed-other true e = ne_eqb (route_at a k % 2) 0 (λ z. omega (arith, z, eqb-true (route_at a k % 2) 1 (sym e)))
    routed-other false e = sym e

    other-off : eligible a (not f) k ≡ false
    unfolding eligible pending
    other-off = not-holds _ (λ g. clash (and_right (unmasked a k) (routed a (not f) k) (and_left (unmasked a k && routed a (not f) k) (passes a (priority a k)) g)) (routed-other f asks))

    -- for either output, by the one that it asks for
    by_side : (P : Bool → Type 0) (g : Bool) → P g → P (not g) → (u : Bool) → P u
    by_side P true p q true = p
    by_side P true p q false = q
    by_side P false p q true = q
    by_side P false p q false = p

    other_stays : side a (not f) ≡ settled_side a (not f)
    other_stays = stays (not f) (λ _. other-off)

    -- which has one already
    pub side-taken : (side a f).active ≡ true → a ≡ settle a
    side-taken e = stay a (by_side (λ u. side a u ≡ settled_side a u) f (settled-held a f e) other_stays)

    -- or takes it
    pub side_settles : with_side a f (settled_side a f) ≡ settle a
    unfolding settle side pick
    side_settles = go f other_stays
      where
        go : (u : Bool) → side a (not u) ≡ settled_side a (not u) → with_side a u (settled_side a u) ≡ settle a
        go true e = ap (λ (c : Chosen). with_sides a c (settled_side a true)) e
        go false e = ap (with_sides a (settled_side a false)) e

    pub alone-leads : (o : ℕ) (b : Bool) → o ≡ open_word a (k / 32) → b ≡ bit o (k % 32) → b ≡ true → (side a f).active ≡ false → Leads a f k
    unfolding open_word pending
    alone-leads o b eo eb z e =
        let q : 32 * (k / 32) + k % 32 ≡ k = omega arith in
        record {
          within = l;
          waits = and_both (sym (ap (λ (w : ℕ). bit w (k % 32)) eo ∙ bit-word_of 32 (λ i. unmasked a (32 * (k / 32) + i)) (k % 32) (omega arith) ∙ ap (unmasked a) q) ∙ sym eb ∙ z) (routed_there f asks);
          others = λ j m g d. clash g (alone f e j m d);
        }

-- ---- a line step

module _ (a : Aintc) (k : ℕ) (t : Bool) where
  -- another input is as it was
  moved_other : k / 32 < length a.lines → (f : Bool) (j : ℕ) → j ≢ k → eligible (moved a k t) f j ≡ eligible a f j
  unfolding moved eligible pending unmasked raised passes priority routed
  moved_other l f j d = rw (bit_at-with_bit_at a.lines k t j l ∙ sym (pick-false t (ne_eqb j k d))) refl

  moved-side : (f : Bool) → side (moved a k t) f ≡ side a f
  unfolding moved side pick
  moved-side true = refl
  moved-side false = refl

  quiet : sound a ≡ true → (f : Bool) → (side a f).active ≡ false → NoneEligible a f
  unfolding side pick
  quiet ok true e = (((choice-promises.kept).sound_is a).0 ok).fiq_quiet e
  quiet ok false e = (((choice-promises.kept).sound_is a).0 ok).irq_quiet e

  -- where the record was sound no other one may be taken
  pub moved_alone : sound a ≡ true → k / 32 < length a.lines → Alone (moved a k t) k
  moved_alone ok l f e j m d = moved_other l f j d ∙ quiet ok f (ap (λ (c : Chosen). c.active) (sym (moved-side f)) ∙ e) j m

  pub moved-laid : {room : List ℕ} → Laid a room → k < 128 → (w : ℕ) → w ≡ with_bit (get_or room (16 + k / 32) 0) (k % 32) t → Laid (moved a k t) (set room (16 + k / 32) w)
  unfolding moved with_bit_at
  moved-laid {room} h l w e =
      let n : k / 32 < 4 = omega (arith, l) in
      subst (λ (x : ℕ). Laid (with_lines a (set a.lines (k / 32) x)) (set room (16 + k / 32) w)) (e ∙ ap (λ (x : ℕ). with_bit x (k % 32) t) (lines-is h (k / 32) n)) (put_lines h (k / 32) w n)
