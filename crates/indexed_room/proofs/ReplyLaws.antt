-- What a step in a room answers is what the step of the record answers.
use mathlib.Core.Path.{◌≡◌, refl, sym, ap, ◌∙◌, subst}
use mathlib.Core.Bool.{true, false}
use mathlib.Core.List.{List}
use mathlib.Core.Logic.{◌≢◌}
use Prim.Native.Nat.{ℕ, ◌-◌, ◌*◌, ◌/◌, ◌%◌, ◌≤◌, ◌<◌}
use native.Mathlib.Decide.{dec_lt}
use native.Mathlib.Omega.{arith}
use borrow.Author.Tests.{eq-eqb, ne_eqb, lt-ltb, le-ltb}
use lib.ListN.{get_or, set}
use Rattle.words.proofs.ChoiceLaws.{pick_true, pick-false}
use Rattle.steps.specs.declared.Access.{Access}
use Rattle.steps.specs.declared.Access.TheVariants.{NoRegister, ReadWrite}
use Rattle.steps.specs.Refusals.{carried_out, read_refusal, write_refusal}
use Rattle.rooms.specs.Reply.{Reply, reply}
use Rattle.cic_record.specs.declared.Host.{Host}
use Rattle.cic_record.specs.Kinds.{host_number}
use Rattle.cic_held.specs.Order.{none_word, index_of}
use Rattle.cic_held.specs.declared.Answer.{Answer}
use Rattle.cic_held.specs.declared.Prioritised.{Prioritised}
use Rattle.cic_held.specs.Held.{prioritised, with_global, with_hosts, sound, controlled}
use Rattle.cic_indexed.specs.declared.Own.TheVariants.{Elsewhere, Control, GlobalIndex, HostIndex}
use Rattle.cic_indexed.specs.Registers.{own_at, host_access, index_read, hold_after, global_word, host_word}
use Rattle.cic_indexed.specs.Model.{answered, unless_refused, read_as, write_as}
use Rattle.cic_indexed.proofs.SoundLaws.{sound-cic, hold_small, global_small, host_small, host-below, word_small}
use Rattle.cic_indexed.proofs.StepLaws.{refused-by, carried-by, no_write, not_there, read_there}
use Rattle.indexed_room.specs.Reply.{Done}
use Rattle.indexed_room.specs.Room.{Laid}
use Rattle.indexed_room.proofs.HoldLaws.{holds_as, mode-is}

-- a reply to one answer is one to an equal answer
pub done_as : {x y : Answer} {room : List ℕ} {r : Reply} → x ≡ y → Done x room r → Done y room r
done_as {room = room} {r = r} e h = subst (λ (z : Answer). Done z room r) e h

-- by the number that the code reckons
stopped : (p : Prioritised) {n m : ℕ} (a : Answer) {room : List ℕ} {r : Reply} → n ≡ m → (n ≡ carried_out → ⊥) → Laid p room → r ≡ reply n 0 → Done (unless_refused p m a) room r
stopped p a e z h er = done_as (refused-by p a e z) (h, er)

carried : (p q : Prioritised) (v : ℕ) {n m w : ℕ} {room : List ℕ} {r : Reply} → n ≡ m → n ≡ carried_out → Laid q room → w ≡ v → r ≡ reply 0 w → Done (unless_refused p m (answered q v)) room r
carried p q v e z h d er = done_as (carried-by p e z refl) (h, er ∙ ap (reply 0) d)

-- ---- control

module _ (p : Prioritised) (o : ℕ) {n : ℕ} {room : List ℕ} {r : Reply} (e : n ≡ read_refusal true o ReadWrite) where
  pub control-refused : (n ≡ carried_out → ⊥) → Laid p room → r ≡ reply n 0 → Done (read_as true p o Control) room r
  unfolding read_as
  control-refused z h er = stopped p _ e z h er

  pub control-read : (w : ℕ) → sound p ≡ true → n ≡ carried_out → Laid p room → w ≡ 16 * (get_or room 10 0 % 2) → r ≡ reply 0 w → Done (read_as true p o Control) room r
  unfolding read_as
  control-read w ok z h d er = carried p p (16 * p.held.hold) e z h (d ∙ (let x = mode-is p h in let y = hold_small p ok in omega (arith, x, y))) er

  -- ---- the global index

  pub global-refused : (n ≡ carried_out → ⊥) → Laid p room → r ≡ reply n 0 → Done (read_as true p o GlobalIndex) room r
  unfolding read_as
  global-refused z h er = stopped p _ e z h er

  pub global-read : (x w y : ℕ) → sound p ≡ true → n ≡ carried_out → x ≡ p.held.global → w ≡ index_read x (index_of p.cic true (host_number 0))
      → ((w ≢ none_word → w < 65534) → y ≡ hold_after p w) → Laid (prioritised p.cic (with_global p.held y)) room → r ≡ reply 0 w → Done (read_as true p o GlobalIndex) room r
  unfolding read_as
  global-read x w y ok z d f g h er = carried p _ (global_word p) e z (holds_as p (ap (with_global p.held) (g small ∙ ap (hold_after p) is)) h) is er
    where
      is : w ≡ global_word p
      is = f ∙ ap (λ (t : ℕ). index_read t (index_of p.cic true (host_number 0))) d

      small : w ≢ none_word → w < 65534
      small = subst (λ (t : ℕ). t ≢ none_word → t < 65534) (sym is) (word_small p.cic p.held.global true (host_number 0) (sound-cic p ok) (global_small p ok))

-- ---- the index of a host

module _ (p : Prioritised) (i : Host) (o : ℕ) {n : ℕ} {a : Access} (ea : a ≡ host_access p i.0) (e : n ≡ read_refusal true o a) where
  by-access : n ≡ read_refusal true o (host_access p i.0)
  by-access = e ∙ ap (read_refusal true o) ea

  pub host-refused : {room : List ℕ} {r : Reply} → (n ≡ carried_out → ⊥) → Laid p room → r ≡ reply n 0 → Done (read_as true p o (HostIndex i)) room r
  unfolding read_as
  host-refused z h er = stopped p _ by-access z h er

  pub host_there : sound p ≡ true → n ≡ carried_out → i.0 < 256
  host_there ok z = host-below p i.0 ok (read_there p o i.0 (sym by-access ∙ z))

  pub host-read : {room : List ℕ} {r : Reply} (x w y : ℕ) → sound p ≡ true → n ≡ carried_out → x ≡ get_or p.held.host i.0 0 → w ≡ index_read x (index_of p.cic false i)
      → ((w ≢ none_word → w < 65534) → y ≡ hold_after p w) → Laid (prioritised p.cic (with_hosts p.held (set p.held.host i.0 y))) room → r ≡ reply 0 w
      → Done (read_as true p o (HostIndex i)) room r
  unfolding read_as
  host-read x w y ok z d f g h er =
      carried p _ (host_word p i.0) by-access z (holds_as p (ap (λ (t : ℕ). with_hosts p.held (set p.held.host i.0 t)) (g small ∙ ap (hold_after p) is)) h) is er
    where
      is : w ≡ host_word p i.0
      is = f ∙ ap (λ (t : ℕ). index_read t (index_of p.cic false (host_number i.0))) d

      small : w ≢ none_word → w < 65534
      small =
          subst (λ (t : ℕ). t ≢ none_word → t < 65534) (sym is)
          (word_small p.cic (get_or p.held.host i.0 0) false (host_number i.0) (sound-cic p ok) (host_small p i.0 ok (host_there ok z)))

-- ---- writes

module _ (p : Prioritised) (o : ℕ) {n : ℕ} {room : List ℕ} {r : Reply} (v : ℕ) (e : n ≡ write_refusal true o ReadWrite carried_out) where
  pub control_unwritten : (n ≡ carried_out → ⊥) → Laid p room → r ≡ reply n 0 → Done (write_as true p o v Control) room r
  unfolding write_as
  control_unwritten z h er = stopped p _ e z h er

  pub control-written : n ≡ carried_out → Laid (prioritised p.cic (controlled p.held v)) room → r ≡ reply 0 0 → Done (write_as true p o v Control) room r
  unfolding write_as
  control-written z h er = carried p _ 0 e z h refl er

  pub global_unwritten : (n ≡ carried_out → ⊥) → Laid p room → r ≡ reply n 0 → Done (write_as true p o v GlobalIndex) room r
  unfolding write_as
  global_unwritten z h er = stopped p _ e z h er

  pub global-written : n ≡ carried_out → Laid (prioritised p.cic (with_global p.held 0)) room → r ≡ reply 0 0 → Done (write_as true p o v GlobalIndex) room r
  unfolding write_as
  global-written z h er = carried p _ 0 e z h refl er

module _ (p : Prioritised) (i : Host) (o : ℕ) {n : ℕ} {a : Access} (v : ℕ) (ea : a ≡ host_access p i.0) (e : n ≡ write_refusal true o a carried_out) where
  to-access : n ≡ write_refusal true o (host_access p i.0) carried_out
  to-access = e ∙ ap (λ (x : Access). write_refusal true o x carried_out) ea

  pub host_unwritten : {room : List ℕ} {r : Reply} → (n ≡ carried_out → ⊥) → Laid p room → r ≡ reply n 0 → Done (write_as true p o v (HostIndex i)) room r
  unfolding write_as
  host_unwritten z h er = stopped p _ to-access z h er

  pub write_there : sound p ≡ true → n ≡ carried_out → i.0 < 256
  write_there ok z = go (dec_lt i.0 p.cic.hosts)
    where
      go : Dec (i.0 < p.cic.hosts) → i.0 < 256
      go (yes l) = host-below p i.0 ok l
      go (no l) = absurd (no_write o carried_out (ap (λ (x : Access). write_refusal true o x carried_out) (not_there p i.0 (omega (arith, l))) ∙ sym to-access ∙ z))

  pub host-written : {room : List ℕ} {r : Reply} → n ≡ carried_out → Laid (prioritised p.cic (with_hosts p.held (set p.held.host i.0 0))) room → r ≡ reply 0 0 → Done (write_as true p o v (HostIndex i)) room r
  unfolding write_as
  host-written z h er = carried p _ 0 to-access z h refl er

-- ---- which register stands at an offset

module _ (p : Prioritised) (x o : ℕ) (e : x ≡ p.held.choice) where
  pub own-off : x ≢ 1 → Elsewhere ≡ own_at p o
  unfolding own_at
  own-off d = pick-false _ (ne_eqb p.held.choice 1 (λ z. d (e ∙ z)))

  pub own-control : x ≡ 1 → o ≡ 0x004 → Control ≡ own_at p o
  unfolding own_at
  own-control d z = pick_true _ (eq-eqb o 0x004 z) ∙ pick_true _ (eq-eqb p.held.choice 1 (sym e ∙ d))

  pub own_global : x ≡ 1 → o ≢ 0x004 → o ≡ 0x080 → GlobalIndex ≡ own_at p o
  unfolding own_at
  own_global d a z = pick_true _ (eq-eqb o 0x080 z) ∙ pick-false _ (ne_eqb o 0x004 a) ∙ pick_true _ (eq-eqb p.held.choice 1 (sym e ∙ d))

  pub own_below : x ≡ 1 → o ≢ 0x004 → o ≢ 0x080 → o < 0x900 → Elsewhere ≡ own_at p o
  unfolding own_at
  own_below d a b l =
      pick_true _ (lt-ltb o 0x900 l) ∙ pick-false _ (ne_eqb o 0x080 b) ∙ pick-false _ (ne_eqb o 0x004 a) ∙ pick_true _ (eq-eqb p.held.choice 1 (sym e ∙ d))

  pub own_host : x ≡ 1 → o ≢ 0x004 → o ≢ 0x080 → 0x900 ≤ o → o < 0xD00 → HostIndex (host_number ((o - 0x900) / 4)) ≡ own_at p o
  unfolding own_at
  own_host d a b l m =
      pick_true _ (lt-ltb o 0xD00 m) ∙ pick-false _ (le-ltb o 0x900 l) ∙ pick-false _ (ne_eqb o 0x080 b) ∙ pick-false _ (ne_eqb o 0x004 a)
      ∙ pick_true _ (eq-eqb p.held.choice 1 (sym e ∙ d))

  pub own-past : x ≡ 1 → o ≢ 0x004 → o ≢ 0x080 → 0x900 ≤ o → 0xD00 ≤ o → Elsewhere ≡ own_at p o
  unfolding own_at
  own-past d a b l m =
      pick-false _ (le-ltb o 0xD00 m) ∙ pick-false _ (le-ltb o 0x900 l) ∙ pick-false _ (ne_eqb o 0x080 b) ∙ pick-false _ (ne_eqb o 0x004 a)
      ∙ pick_true _ (eq-eqb p.held.choice 1 (sym e ∙ d))

pub access_there : (p : Prioritised) (h n : ℕ) → n ≡ p.cic.hosts → h < n → ReadWrite ≡ host_access p h
unfolding host_access
access_there p h n e l = pick_true NoRegister (lt-ltb h p.cic.hosts (omega (arith, e, l)))

pub access-none : (p : Prioritised) (h n : ℕ) → n ≡ p.cic.hosts → n ≤ h → NoRegister ≡ host_access p h
access-none p h n e l = not_there p h (omega (arith, e, l))
