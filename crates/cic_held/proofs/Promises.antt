-- The promises of what is held are kept.
use mathlib.Core.Path.{◌≡◌, refl, sym, ap, ◌∙◌}
use mathlib.Core.Bool.{Bool, true, false, ◌&&◌}
use mathlib.Core.List.{List}
use mathlib.Core.Logic.{◌↔◌, ◌≢◌, ◌⊎◌, inl, inr, ⊎_elim}
use Prim.Native.Nat.{ℕ, ◌+◌, ◌-◌, ◌/◌, ◌%◌, ◌<◌, ◌≤◌}
use native.Mathlib.Decide.{ℕ_discrete}
use native.Mathlib.Omega.{arith}
use borrow.Author.Tests.{eq-eqb, ne_eqb, eqb-true, lt-ltb, ltb-true, le-leb, leb-true}
use lib.Dec.{eqb, ltb, leb}
use lib.ListN.{get_or, replicate}
use Rattle.words.specs.Choice.{pick}
use Rattle.words.specs.Word.{bit}
use Rattle.words.proofs.ChoiceLaws.{pick_true, pick-false}
use Rattle.words.proofs.CountingLaws.{all_at, at_all}
use Rattle.words.proofs.TruthLaws.{and_left, and_right, and_both, not-holds, told}
use Rattle.steps.specs.Refusals.{carried_out, misconfigured}
use Rattle.cic_record.specs.declared.Begun.{Begun as CicBegun}
use Rattle.cic_record.specs.declared.Cic.{Cic}
use Rattle.cic_record.specs.Sound as cic
use Rattle.cic_record.specs.Start.{fresh}
use Rattle.cic_record.specs.Start as cic_start
use Rattle.cic_record.proofs.Promises as record-promises
use Rattle.cic_held.specs.Order.{none_word}
use Rattle.cic_held.specs.declared.Begun.{Begun}
use Rattle.cic_held.specs.declared.Held.{Held}
use Rattle.cic_held.specs.declared.Prioritised.{Prioritised}
use Rattle.cic_held.specs.Held.{prioritised, begun, nothing_held, held_as, word_held, within, entry_sound, held_sound, sound, start, freed_hosts, controlled}
use Rattle.cic_held.specs.Promises.{Holds, Starts, Configured, HeldAsOne, Rules, Promises}
use Rattle.cic_held.proofs.HeldLaws.{freed_at, host_entry, Parts, held-parts, parts_held, nothing-kept}

-- 0 or 1, and at most 1
zero_or-one : (x : ℕ) → x ≤ 1 → (x ≡ 0) ⊎ (x ≡ 1)
zero_or-one x l = go (ℕ_discrete x 0)
  where
    go : Dec (x ≡ 0) → (x ≡ 0) ⊎ (x ≡ 1)
    go (yes e) = inl e
    go (no d) = inr (omega arith)

most-one : (x : ℕ) → (x ≡ 0) ⊎ (x ≡ 1) → x ≤ 1
most-one x = ⊎_elim (λ (e : x ≡ 0). omega arith) (λ (e : x ≡ 1). omega arith)

-- ---- configuration and start

-- nothing is held, part by part
nothing_is : (choice hold : ℕ) (h : Held) → h ≡ nothing_held choice hold → Holds h choice hold 0 (replicate 256 0)
nothing_is choice hold h e = (ap (λ (x : Held). x.choice) e, ap (λ (x : Held). x.hold) e, ap (λ (x : Held). x.global) e, ap (λ (x : Held). x.host) e)

-- the choice is 0 or 1
within_choice : (value : ℕ) → within 4 value ≡ leb value 1
unfolding within
within_choice value = sym (pick_true (cic.within 4 value) refl)

configuration : (nth value : ℕ) → (within nth value ≡ true) ↔ (((nth ≡ 4) × ((value ≡ 0) ⊎ (value ≡ 1))) ⊎ ((nth ≢ 4) × (cic.within nth value ≡ true)))
unfolding within
configuration nth value = (λ e. there e (ℕ_discrete nth 4), back)
  where
    there : pick (eqb nth 4) (leb value 1) (cic.within nth value) ≡ true → Dec (nth ≡ 4)
        → ((nth ≡ 4) × ((value ≡ 0) ⊎ (value ≡ 1))) ⊎ ((nth ≢ 4) × (cic.within nth value ≡ true))
    there e (yes q) = inl (q, zero_or-one value (leb-true value 1 (pick_true (cic.within nth value) (eq-eqb nth 4 q) ∙ e)))
    there e (no d) = inr (d, pick-false (leb value 1) (ne_eqb nth 4 d) ∙ e)

    back : ((nth ≡ 4) × ((value ≡ 0) ⊎ (value ≡ 1))) ⊎ ((nth ≢ 4) × (cic.within nth value ≡ true)) → pick (eqb nth 4) (leb value 1) (cic.within nth value) ≡ true
    back (inl r) = sym (pick_true (cic.within nth value) (eq-eqb nth 4 r.0)) ∙ le-leb value 1 (most-one value r.1)
    back (inr r) = sym (pick-false (leb value 1) (ne_eqb nth 4 r.0)) ∙ r.1

module _ (systems channels hosts revision choice : ℕ) where
  -- the test of the start
  abbrev taken : Bool
  taken = eqb (cic_start.start systems channels hosts revision).refusal carried_out && within 4 choice

  taken_is : (taken ≡ true) ↔ Configured systems channels hosts choice
  taken_is =
      let r = (cic_start.start systems channels hosts revision).refusal in
      let is = (record-promises.kept).start_taken systems channels hosts revision in (
        λ e. (
          is.0 (eqb-true r carried_out (and_left (eqb r carried_out) (within 4 choice) e)),
          zero_or-one choice (leb-true choice 1 (sym (within_choice choice) ∙ and_right (eqb r carried_out) (within 4 choice) e)),
        ),
        λ k. and_both (eq-eqb r carried_out (is.1 k.0)) (within_choice choice ∙ le-leb choice 1 (most-one choice k.1)),
      )

  abbrev good : Begun
  good = begun carried_out (prioritised (cic_start.start systems channels hosts revision).cic (nothing_held choice choice))

  abbrev bad : Begun
  bad = begun misconfigured (prioritised (fresh 0 0 0 0) (nothing_held 0 0))

  when-taken : taken ≡ true → start systems channels hosts revision choice ≡ good
  unfolding start
  when-taken e = sym (pick_true bad e)

  when-not : taken ≡ false → start systems channels hosts revision choice ≡ bad
  unfolding start
  when-not e = sym (pick-false good e)

  start_is : Configured systems channels hosts choice → Starts (start systems channels hosts revision choice) 0 (fresh systems channels hosts revision) choice choice
  start_is k =
      let e = when-taken (taken_is.1 k) in
      let c = ap (λ (b : CicBegun). b.cic) ((record-promises.kept).start_is systems channels hosts revision k.0) in
      (ap (λ (b : Begun). b.refusal) e, ap (λ (b : Begun). b.prioritised.cic) e ∙ c, nothing_is choice choice (start systems channels hosts revision choice).prioritised.held (ap (λ (b : Begun). b.prioritised.held) e))

  start-refused : (Configured systems channels hosts choice → ⊥) → Starts (start systems channels hosts revision choice) 10 (fresh 0 0 0 0) 0 0
  start-refused n =
      let e = when-not (not-holds taken (λ t. n (taken_is.0 t))) in
      (ap (λ (b : Begun). b.refusal) e, ap (λ (b : Begun). b.prioritised.cic) e, nothing_is 0 0 (start systems channels hosts revision choice).prioritised.held (ap (λ (b : Begun). b.prioritised.held) e))

  start-taken : ((start systems channels hosts revision choice).refusal ≡ 0) ↔ Configured systems channels hosts choice
  start-taken = (λ q. there q (told taken), λ k. (start_is k).0)
    where
      there : (start systems channels hosts revision choice).refusal ≡ 0 → (taken ≡ true) ⊎ (taken ≡ false) → Configured systems channels hosts choice
      there q (inl t) = taken_is.0 t
      there q (inr t) = absurd (omega (arith, q, ap (λ (b : Begun). b.refusal) (when-not t)))

  start-sound : Configured systems channels hosts choice → sound (start systems channels hosts revision choice).prioritised ≡ true
  unfolding sound
  start-sound k =
      let e = when-taken (taken_is.1 k) in
      let l = most-one choice k.1 in
      let b = (cic_start.start systems channels hosts revision).cic in
      ap (λ (x : Begun). sound x.prioritised) e ∙ and_both ((record-promises.kept).start_sound systems channels hosts revision k.0).0 (nothing-kept b choice choice l (omega arith))

-- ---- which records are sound

-- where something is held, it is none or a configured system interrupt
one-held : (c : Cic) (x : ℕ) → x ≢ 0 → x ≤ c.systems + 1 → HeldAsOne c x
one-held c x z l = go (ℕ_discrete x 1)
  where
    go : Dec (x ≡ 1) → HeldAsOne c x
    go (yes e) = inl e
    go (no d) = inr (x - 2, omega (arith, z, l, d), omega (arith, z, d))

held_one : (c : Cic) (x : ℕ) → HeldAsOne c x → x ≤ c.systems + 1
held_one c x (inl e) = omega (arith, e)
held_one c x (inr r) = omega (arith, r.1, r.2)

entry-is : (c : Cic) (may : Bool) (x : ℕ) → (entry_sound c.systems may x ≡ true) ↔ ((x ≡ 0) ⊎ ((may ≡ true) × HeldAsOne c x))
unfolding entry_sound
entry-is c may x = (λ e. there e (told may) (ℕ_discrete x 0), λ r. back r (told may))
  where
    there : pick may (leb x (c.systems + 1)) (eqb x 0) ≡ true → (may ≡ true) ⊎ (may ≡ false) → Dec (x ≡ 0) → (x ≡ 0) ⊎ ((may ≡ true) × HeldAsOne c x)
    there e m (yes z) = inl z
    there e (inl m) (no z) = inr (m, one-held c x z (leb-true x (c.systems + 1) (pick_true (eqb x 0) m ∙ e)))
    there e (inr m) (no z) = inl (eqb-true x 0 (pick-false (leb x (c.systems + 1)) m ∙ e))

    back : (x ≡ 0) ⊎ ((may ≡ true) × HeldAsOne c x) → (may ≡ true) ⊎ (may ≡ false) → pick may (leb x (c.systems + 1)) (eqb x 0) ≡ true
    back (inl z) (inl m) = sym (pick_true (eqb x 0) m) ∙ le-leb x (c.systems + 1) (omega (arith, z))
    back (inl z) (inr m) = sym (pick-false (leb x (c.systems + 1)) m) ∙ eq-eqb x 0 z
    back (inr r) m = sym (pick_true (eqb x 0) r.0) ∙ le-leb x (c.systems + 1) (held_one c x r.1)

sound-is : (p : Prioritised) → sound p ≡ true → Rules p
unfolding sound
sound-is p e =
    record {
      cic = and_left (cic.sound c) (held_sound c h) e;
      choice = zero_or-one h.choice q.choice;
      hold = holds (ℕ_discrete h.hold 0);
      global = global ((entry-is c (eqb h.hold 1) h.global).0 q.global);
      hosts = λ k l. host k ((entry-is c (ltb k c.hosts && eqb h.hold 1) (get_or h.host k 0)).0 (all_at 256 (λ i. host_entry c h.hold i (get_or h.host i 0)) q.hosts k l));
    }
  where
    c : Cic
    c = p.cic

    h : Held
    h = p.held

    q : Parts c h
    q = held-parts c h (and_right (cic.sound c) (held_sound c h) e)

    holds : Dec (h.hold ≡ 0) → (h.hold ≡ 0) ⊎ ((h.hold ≡ 1) × (h.choice ≡ 1))
    holds (yes z) = inl z
    holds (no z) = inr (omega (arith, z, q.choice, q.hold), omega (arith, z, q.choice, q.hold))

    global : (h.global ≡ 0) ⊎ ((eqb h.hold 1 ≡ true) × HeldAsOne c h.global) → (h.global ≡ 0) ⊎ ((h.hold ≡ 1) × HeldAsOne c h.global)
    global (inl z) = inl z
    global (inr r) = inr (eqb-true h.hold 1 r.0, r.1)

    host : (k : ℕ) → (get_or h.host k 0 ≡ 0) ⊎ (((ltb k c.hosts && eqb h.hold 1) ≡ true) × HeldAsOne c (get_or h.host k 0))
        → (get_or h.host k 0 ≡ 0) ⊎ ((k < c.hosts) × ((h.hold ≡ 1) × HeldAsOne c (get_or h.host k 0)))
    host k (inl z) = inl z
    host k (inr r) =
        inr (ltb-true k c.hosts (and_left (ltb k c.hosts) (eqb h.hold 1) r.0), (eqb-true h.hold 1 (and_right (ltb k c.hosts) (eqb h.hold 1) r.0), r.1))

is-sound : (p : Prioritised) → Rules p → sound p ≡ true
unfolding sound
is-sound p r =
    and_both r.cic (parts_held c h (record {
      choice = most-one h.choice r.choice;
      hold = hold r.hold;
      global = (entry-is c (eqb h.hold 1) h.global).1 (global r.global);
      hosts = at_all 256 (λ k. host_entry c h.hold k (get_or h.host k 0)) (λ k l. (entry-is c (ltb k c.hosts && eqb h.hold 1) (get_or h.host k 0)).1 (host k (r.hosts k l)));
    }))
  where
    c : Cic
    c = p.cic

    h : Held
    h = p.held

    hold : (h.hold ≡ 0) ⊎ ((h.hold ≡ 1) × (h.choice ≡ 1)) → h.hold ≤ h.choice
    hold (inl z) = omega (arith, z)
    hold (inr m) = omega (arith, m.0, m.1)

    global : (h.global ≡ 0) ⊎ ((h.hold ≡ 1) × HeldAsOne c h.global) → (h.global ≡ 0) ⊎ ((eqb h.hold 1 ≡ true) × HeldAsOne c h.global)
    global (inl z) = inl z
    global (inr m) = inr (eq-eqb h.hold 1 m.0, m.1)

    host : (k : ℕ) → (get_or h.host k 0 ≡ 0) ⊎ ((k < c.hosts) × ((h.hold ≡ 1) × HeldAsOne c (get_or h.host k 0)))
        → (get_or h.host k 0 ≡ 0) ⊎ (((ltb k c.hosts && eqb h.hold 1) ≡ true) × HeldAsOne c (get_or h.host k 0))
    host k (inl z) = inl z
    host k (inr m) = inr (and_both (lt-ltb k c.hosts m.0) (eq-eqb h.hold 1 m.1.0), m.1.1)

-- ---- words as they are held

held_none : (word : ℕ) → word ≡ none_word → held_as word ≡ 1
unfolding held_as
held_none word e = sym (pick_true (word + 2) (eq-eqb word none_word e))

held-some : (word : ℕ) → word ≢ none_word → held_as word ≡ word + 2
unfolding held_as
held-some word d = sym (pick-false 1 (ne_eqb word none_word d))

told_none : (x : ℕ) → x ≡ 1 → word_held x ≡ none_word
unfolding word_held
told_none x e = sym (pick_true (x - 2) (eq-eqb x 1 e))

told-some : (x : ℕ) → x ≢ 1 → word_held x ≡ x - 2
unfolding word_held
told-some x d = sym (pick-false none_word (ne_eqb x 1 d))

told_back : (word : ℕ) → word_held (held_as word) ≡ word
told_back word = go (ℕ_discrete word none_word)
  where
    go : Dec (word ≡ none_word) → word_held (held_as word) ≡ word
    go (yes e) = told_none (held_as word) (held_none word e) ∙ sym e
    go (no d) =
        let e = held-some word d in
        told-some (held_as word) (λ q. absurd (omega (arith, q, e))) ∙ omega (arith, e)

held_back : (x : ℕ) → x ≢ 0 → x < 65536 → held_as (word_held x) ≡ x
held_back x z l = go (ℕ_discrete x 1)
  where
    go : Dec (x ≡ 1) → held_as (word_held x) ≡ x
    go (yes e) = held_none (word_held x) (told_none x e) ∙ sym e
    go (no d) =
        let e = told-some x d in
        held-some (word_held x) (λ q. absurd (omega (arith, q, e, l))) ∙ omega (arith, e, z, d)

-- ---- what ends holds

freed_ends : (k v : ℕ) (host : List ℕ) (h : ℕ) → h / 32 ≡ k → bit v (h % 32) ≡ true → get_or (freed_hosts k v host) h 0 ≡ 0
freed_ends k v host h e b = freed_at k v host h ∙ sym (pick_true (get_or host h 0) (and_both (eq-eqb (h / 32) k e) b))

freed_stays : (k v : ℕ) (host : List ℕ) (h : ℕ) → ((h / 32 ≡ k) × (bit v (h % 32) ≡ true) → ⊥) → get_or (freed_hosts k v host) h 0 ≡ get_or host h 0
freed_stays k v host h n =
    freed_at k v host h
    ∙ sym (pick-false 0 (not-holds (eqb (h / 32) k && bit v (h % 32)) (λ e. n (eqb-true (h / 32) k (and_left (eqb (h / 32) k) (bit v (h % 32)) e), and_right (eqb (h / 32) k) (bit v (h % 32)) e))))

control-off : (h : Held) (v : ℕ) → bit v 4 ≡ false → Holds (controlled h v) h.choice 0 0 (replicate 256 0)
unfolding controlled
control-off h v b = nothing_is h.choice 0 (controlled h v) (sym (pick-false (pick (eqb h.hold 1) h (nothing_held h.choice 1)) b))

control_on : (h : Held) (v : ℕ) → bit v 4 ≡ true → h.hold ≢ 1 → Holds (controlled h v) h.choice 1 0 (replicate 256 0)
unfolding controlled
control_on h v b d =
    nothing_is h.choice 1 (controlled h v) (sym (pick-false h (ne_eqb h.hold 1 d) ∙ pick_true (nothing_held h.choice 0) b))

control_stays : (h : Held) (v : ℕ) → bit v 4 ≡ true → h.hold ≡ 1 → controlled h v ≡ h
unfolding controlled
control_stays h v b e = sym (pick_true (nothing_held h.choice 1) (eq-eqb h.hold 1 e) ∙ pick_true (nothing_held h.choice 0) b)

pub kept : Promises
kept =
    record {
      configuration = configuration;
      start_taken = start-taken;
      start_is = start_is;
      start_refused = start-refused;
      start_sound = start-sound;
      sound_is = λ p. (sound-is p, is-sound p);
      none_held = held_none 0x80000000 refl;
      system_held = λ s l. held-some s (λ e. absurd (omega (arith, e, l)));
      told_back = told_back;
      held_back = held_back;
      freed_ends = freed_ends;
      freed_stays = freed_stays;
      control_off = control-off;
      control_on = control_on;
      control_stays = control_stays;
      joined = λ c h. (refl, refl);
      begun_is = λ n p. (refl, refl);
      nothing_is = λ choice hold. nothing_is choice hold (nothing_held choice hold) refl;
      global_put = λ h x. (refl, refl, refl, refl);
      hosts_put = λ h xs. (refl, refl, refl, refl);
    }
