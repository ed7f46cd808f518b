-- The machine in a room by its kind, what a step makes of it, and what it shows.
use mathlib.Core.Path.{◌≡◌, refl, sym, ap, ◌∙◌, subst}
use mathlib.Core.Bool.{Bool, true}
use mathlib.Core.List.{List}
use mathlib.Core.Logic.{◌≢◌}
use Prim.Native.Nat.{ℕ, ◌+◌, ◌*◌, ◌<◌}
use native.Mathlib.Omega.{arith}
use lib.ListN.{get_or}
use Rattle.steps.specs.declared.Recorded.{Recorded}
use Rattle.steps.specs.declared.Step.{Step}
use Rattle.steps.specs.declared.Step.TheVariants.{Line}
use Rattle.aic_record.specs.declared.Aic.{Aic}
use Rattle.aic.specs.Model.{step as aic_step, outputs as aic_outputs}
use Rattle.aic_room.specs.Room.{Laid as AicLaid}
use Rattle.aic_room.proofs.CellLaws.{kind-is as aic-kind}
use Rattle.aic_room.specs.Reply.{Done as AicDone}
use Rattle.coreinterrupt.specs.declared.Core.{Core}
use Rattle.coreinterrupt.specs.Model.{step as core_step, outputs as core_outputs}
use Rattle.coreinterrupt_room.specs.Room.{Laid as CoreLaid, Done as CoreDone}
use Rattle.coreinterrupt_room.proofs.RoomLaws.{kind-is as core-kind}
use Rattle.cic_record.specs.declared.Cic.{Cic}
use Rattle.cic_record.specs.Sound.{sound as cic_sound}
use Rattle.cic_registers.specs.Hosts.{outputs as cic_outputs}
use Rattle.cic_registers.specs.Model.{step as cic_step, step_as as cic_step_as}
use Rattle.cic_room.specs.Room.{plain, Laid as CicLaid}
use Rattle.cic_room.proofs.Promises.{kept as laid_cic}
use Rattle.cic_room.specs.Reply.{Done as CicDone}
use Rattle.cic_held.specs.declared.Prioritised.{Prioritised}
use Rattle.cic_held.specs.Held.{sound as indexed_sound}
use Rattle.cic_indexed.specs.Model.{step as indexed_step, outputs as indexed_outputs}
use Rattle.indexed_room.specs.Room.{Laid as IndexedLaid}
use Rattle.indexed_room.specs.Reply.{Done as IndexedDone}
use Rattle.indexed_room.proofs.Promises.{kept as laid_indexed}
use Rattle.aintc_record.specs.declared.Aintc.{Aintc}
use Rattle.aintc_registers.specs.Model.{step as aintc_step, outputs as aintc_outputs}
use Rattle.aintc_room.specs.Room.{Laid as AintcLaid}
use Rattle.aintc_room.proofs.CellLaws.{kind-is as aintc-kind}
use Rattle.aintc_room.specs.Reply.{Done as AintcDone}
use Rattle.kinds.specs.Kinds.{aic_kind, core_kind, cic_kind, aintc_kind, indexed_kind}
use Rattle.kinds.proofs.KindLaws.{KindOf, is_aic, is_core, is_cic, is_aintc, is_indexed, is_none, kind_of}
use Rattle.machine.specs.declared.record.Machine.{Machine}
use Rattle.machine.specs.declared.record.Columns.{Columns}
use Rattle.machine.specs.Machine.{indexed, sound}
use Rattle.machine.specs.Shown.{aic_columns, core_columns, cic_columns, aintc_columns, shown}
use Rattle.machine.proofs.MachineLaws.{sound-indexed, fifth-kind}
use Rattle.machine.proofs.ShownLaws.{aic-shows, core-shows, cic-shows, aintc-shows, indexed-shows}
use Rattle.machine.specs.declared.Answer.{Answer}
use Rattle.machine.specs.Steps.{after_aic, after_core, after_cic, after_aintc, after_indexed, step}
use Rattle.machine.proofs.StepLaws.{aic_steps, core_steps, cic_steps, aintc_steps, indexed_steps}
use Rattle.trace.specs.Turns.{made, step_of}
use Rattle.trace.proofs.TurnLaws.{step_line}
use Rattle.rooms.specs.Reply.{Reply}
use Rattle.machine_room.specs.Room.{Laid, Done, with_aic, with_core, with_cic, with_aintc, with_indexed, Beside}

-- ---- a machine laid

module _ (kept : Bool) (m : Machine) (room : List ℕ) where
  pub aic-laid : m.kind ≡ aic_kind → AicLaid m.aic room → Laid kept m room
  aic-laid k h = record { kind = aic-kind h ∙ sym k; aic = λ _. h; core = λ e. absurd (omega (arith, k, e)); cic = λ e. absurd (omega (arith, k, e)); aintc = λ e. absurd (omega (arith, k, e)); indexed = λ e. absurd (omega (arith, k, e)) }

  pub core-laid : m.kind ≡ core_kind → CoreLaid m.core room → Laid kept m room
  core-laid k h = record { kind = core-kind h ∙ sym k; aic = λ e. absurd (omega (arith, k, e)); core = λ _. h; cic = λ e. absurd (omega (arith, k, e)); aintc = λ e. absurd (omega (arith, k, e)); indexed = λ e. absurd (omega (arith, k, e)) }

  pub cic-laid : m.kind ≡ cic_kind → CicLaid (plain kept) m.cic room → Laid kept m room
  cic-laid k h = record { kind = (laid_cic.size (plain kept) m.cic room h).1 ∙ sym k; aic = λ e. absurd (omega (arith, k, e)); core = λ e. absurd (omega (arith, k, e)); cic = λ _. h; aintc = λ e. absurd (omega (arith, k, e)); indexed = λ e. absurd (omega (arith, k, e)) }

  pub indexed-laid : m.kind ≡ indexed_kind → IndexedLaid (indexed m) room → Laid kept m room
  indexed-laid k h = record { kind = (laid_indexed.size (indexed m) room h).1 ∙ sym k; aic = λ e. absurd (omega (arith, k, e)); core = λ e. absurd (omega (arith, k, e)); cic = λ e. absurd (omega (arith, k, e)); aintc = λ e. absurd (omega (arith, k, e)); indexed = λ _. h }

  pub aintc-laid : m.kind ≡ aintc_kind → AintcLaid m.aintc room → Laid kept m room
  aintc-laid k h = record { kind = aintc-kind h ∙ sym k; aic = λ e. absurd (omega (arith, k, e)); core = λ e. absurd (omega (arith, k, e)); cic = λ e. absurd (omega (arith, k, e)); aintc = λ _. h; indexed = λ e. absurd (omega (arith, k, e)) }

-- a CIC with prioritised indices that is put together from its two parts
pub indexed-laid_as : (kept : Bool) (m : Machine) (room : List ℕ) (p : Prioritised) → p ≡ indexed m → m.kind ≡ indexed_kind → sound m ≡ true
    → (indexed_sound p ≡ true → IndexedLaid p room) → Laid kept m room
indexed-laid_as kept m room p e k ok h =
    indexed-laid kept m room k (subst (λ (q : Prioritised). IndexedLaid q room) e (h (ap indexed_sound e ∙ sound-indexed m k ∙ ok)))

-- the last of the kinds
pub last-kind : (m : Machine) → sound m ≡ true → m.kind ≢ aic_kind → m.kind ≢ core_kind → m.kind ≢ cic_kind → m.kind ≢ aintc_kind → m.kind ≡ indexed_kind
last-kind = fifth-kind

module _ {kept : Bool} {m : Machine} {room : List ℕ} (h : Laid kept m room) where
  -- the kind that word 0 says
  pub of-kind : {k : ℕ} → get_or room 0 0 ≡ k → m.kind ≡ k
  of-kind e = sym h.kind ∙ e

  pub not-kind : {k : ℕ} → get_or room 0 0 ≢ k → m.kind ≢ k
  not-kind n e = n (h.kind ∙ e)

-- ---- a step

-- the kind of controller and that of step which a number of both tells
pub told-kind : (k s a b : ℕ) → s < 4 → b < 4 → 4 * k + s ≡ 4 * a + b → k ≡ a
told-kind k s a b l n e = omega (arith, l, n, e)

pub told-step : (k s a b : ℕ) → s < 4 → b < 4 → 4 * k + s ≡ 4 * a + b → s ≡ b
told-step k s a b l n e = omega (arith, l, n, e)

-- a step of the third kind
pub line_step : (s x y : ℕ) → s ≡ 3 → step_of s x y ≡ Line x y
line_step s x y e = step_line s x y (λ z. absurd (omega (arith, e, z))) (λ z. absurd (omega (arith, e, z)))

-- of three steps one is meant, and the third if neither of the others is
one_of : (w s n a : ℕ) → (0 < s) × (s < 4) → n ≡ 4 * w + s → w ≡ a → n ≢ 4 * a + 1 → n ≢ 4 * a + 2 → n ≢ 4 * a + 3 → ⊥
one_of w s n a b e k x y z = omega (arith, b.0, b.1, e, k, x, y, z)

third : (w s n a : ℕ) → (0 < s) × (s < 4) → n ≡ 4 * w + s → w ≡ a → n ≢ 4 * a + 1 → n ≢ 4 * a + 2 → s ≡ 3
third w s n a b e k x y = omega (arith, b.0, b.1, e, k, x, y)

-- what is left where no other place is meant: the last kind, and its line step
pub last_step : {kept : Bool} {m : Machine} {room : List ℕ} → Laid kept m room → sound m ≡ true → (s n : ℕ) → (0 < s) × (s < 4) → n ≡ 4 * get_or room 0 0 + s
    → n ≢ 1 → n ≢ 2 → n ≢ 3 → n ≢ 5 → n ≢ 6 → n ≢ 7 → n ≢ 9 → n ≢ 10 → n ≢ 11 → n ≢ 13 → n ≢ 14 → n ≢ 15
    → n ≢ 17 → n ≢ 18 → (m.kind ≡ indexed_kind) × (s ≡ 3)
last_step {m = m} h ok s n b e n1 n2 n3 n5 n6 n7 n9 n10 n11 n13 n14 n15 n17 n18 = go (kind_of m.kind)
  where
    go : KindOf m.kind → (m.kind ≡ indexed_kind) × (s ≡ 3)
    go (is_aic k) = absurd (one_of _ s n 0 b e (h.kind ∙ k) n1 n2 n3)
    go (is_core k) = absurd (one_of _ s n 1 b e (h.kind ∙ k) n5 n6 n7)
    go (is_aintc k) = absurd (one_of _ s n 3 b e (h.kind ∙ k) n13 n14 n15)
    go (is_cic k) = absurd (one_of _ s n 2 b e (h.kind ∙ k) n9 n10 n11)
    go (is_indexed k) = (k, third _ s n 4 b e (h.kind ∙ k) n17 n18)
    go (is_none p q r u v) = absurd (v (fifth-kind m ok p q r u))

module _ (kept : Bool) (m : Machine) (kind x y privilege : ℕ) {z : Step} {room : List ℕ} {r : Reply} where
  pub aic-done : m.kind ≡ aic_kind → step_of kind x y ≡ z → AicDone (aic_step m.aic z) room r → Done kept (step m (made (step_of kind x y) privilege)) room r
  aic-done k e d =
      subst (λ (w : Step). Done kept (step m (made w privilege)) room r) (sym e)
      (subst (λ (a : Answer). Done kept a room r) (sym (aic_steps m (made z privilege) k)) (aic-laid kept (after_aic m (aic_step m.aic z)).machine room k d.0, d.1))

  pub core-done : m.kind ≡ core_kind → step_of kind x y ≡ z → CoreDone (core_step m.core z) room r → Done kept (step m (made (step_of kind x y) privilege)) room r
  core-done k e d =
      subst (λ (w : Step). Done kept (step m (made w privilege)) room r) (sym e)
      (subst (λ (a : Answer). Done kept a room r) (sym (core_steps m (made z privilege) k)) (core-laid kept (after_core m (core_step m.core z)).machine room k d.0, d.1))

  pub cic-done : m.kind ≡ cic_kind → cic_sound m.cic ≡ true → step_of kind x y ≡ z → CicDone (plain kept) (cic_step_as true m.cic z) room r
      → Done kept (step m (made (step_of kind x y) privilege)) room r
  cic-done k ok e d =
      let f = subst (λ (b : Bool). CicDone (plain kept) (cic_step_as b m.cic z) room r) (sym ok) d in
      subst (λ (w : Step). Done kept (step m (made w privilege)) room r) (sym e)
      (subst (λ (a : Answer). Done kept a room r) (sym (cic_steps m (made z privilege) k)) (cic-laid kept (after_cic m (cic_step m.cic z)).machine room k f.0, f.1))

  pub indexed-done : m.kind ≡ indexed_kind → step_of kind x y ≡ z → IndexedDone (indexed_step (indexed m) z) room r
      → Done kept (step m (made (step_of kind x y) privilege)) room r
  indexed-done k e d =
      subst (λ (w : Step). Done kept (step m (made w privilege)) room r) (sym e)
      (subst (λ (a : Answer). Done kept a room r) (sym (indexed_steps m (made z privilege) k)) (indexed-laid kept (after_indexed m (indexed_step (indexed m) z)).machine room k d.0, d.1))

  pub aintc-done : m.kind ≡ aintc_kind → step_of kind x y ≡ z → AintcDone (aintc_step m.aintc privilege z) room r → Done kept (step m (made (step_of kind x y) privilege)) room r
  aintc-done k e d =
      subst (λ (w : Step). Done kept (step m (made w privilege)) room r) (sym e)
      (subst (λ (a : Answer). Done kept a room r) (sym (aintc_steps m (made z privilege) k)) (aintc-laid kept (after_aintc m (aintc_step m.aintc privilege z)).machine room k d.0, d.1))

-- ---- what it shows

pub aic_columns_lem : (m : Machine) (k : m.kind ≡ aic_kind) (r : Columns) → r ≡ aic_columns (aic_outputs m.aic) → r ≡ shown m
aic_columns_lem m k r e = e ∙ sym (aic-shows m k)

pub core_columns_lem : (m : Machine) (k : m.kind ≡ core_kind) (r : Columns) → r ≡ core_columns (core_outputs m.core) → r ≡ shown m
core_columns_lem m k r e = e ∙ sym (core-shows m k)

pub cic_columns_lem : (m : Machine) (k : m.kind ≡ cic_kind) (r : Columns) → r ≡ cic_columns (cic_outputs m.cic) → r ≡ shown m
cic_columns_lem m k r e = e ∙ sym (cic-shows m k)

pub indexed_columns : (m : Machine) (k : m.kind ≡ indexed_kind) (r : Columns) → r ≡ cic_columns (indexed_outputs (indexed m)) → r ≡ shown m
indexed_columns m k r e = e ∙ sym (indexed-shows m k)

pub aintc_columns_lem : (m : Machine) (k : m.kind ≡ aintc_kind) (r : Columns) → r ≡ aintc_columns (aintc_outputs m.aintc) → r ≡ shown m
aintc_columns_lem m k r e = e ∙ sym (aintc-shows m k)

-- ---- nothing but the record of its kind

pub beside_same : (m : Machine) → Beside m m
beside_same m = record { aic = λ _. refl; core = λ _. refl; cic = λ _. refl; aintc = λ _. refl; indexed = λ _. refl }

pub beside-step : (first m : Machine) (x : Recorded) → sound m ≡ true → Beside first m → Beside first (step m x).machine
beside-step first m x ok b = go (kind_of m.kind)
  where
    go : KindOf m.kind → Beside first (step m x).machine
    go (is_aic k) =
        subst (λ (a : Answer). Beside first a.machine) (sym (aic_steps m x k))
        (record {
          aic = λ _. ap (λ (n : Machine). with_aic n (aic_step m.aic x.step).aic) (b.aic k);
          core = λ e. absurd (omega (arith, k, e));
          cic = λ e. absurd (omega (arith, k, e));
          aintc = λ e. absurd (omega (arith, k, e));
          indexed = λ e. absurd (omega (arith, k, e));
        })
    go (is_core k) =
        subst (λ (a : Answer). Beside first a.machine) (sym (core_steps m x k))
        (record {
          aic = λ e. absurd (omega (arith, k, e));
          core = λ _. ap (λ (n : Machine). with_core n (core_step m.core x.step).core) (b.core k);
          cic = λ e. absurd (omega (arith, k, e));
          aintc = λ e. absurd (omega (arith, k, e));
          indexed = λ e. absurd (omega (arith, k, e));
        })
    go (is_aintc k) =
        subst (λ (a : Answer). Beside first a.machine) (sym (aintc_steps m x k))
        (record {
          aic = λ e. absurd (omega (arith, k, e));
          core = λ e. absurd (omega (arith, k, e));
          cic = λ e. absurd (omega (arith, k, e));
          aintc = λ _. ap (λ (n : Machine). with_aintc n (aintc_step m.aintc x.privilege x.step).aintc) (b.aintc k);
          indexed = λ e. absurd (omega (arith, k, e));
        })
    go (is_cic k) =
        subst (λ (a : Answer). Beside first a.machine) (sym (cic_steps m x k))
        (record {
          aic = λ e. absurd (omega (arith, k, e));
          core = λ e. absurd (omega (arith, k, e));
          cic = λ _. ap (λ (n : Machine). with_cic n (cic_step m.cic x.step).cic) (b.cic k);
          aintc = λ e. absurd (omega (arith, k, e));
          indexed = λ e. absurd (omega (arith, k, e));
        })
    go (is_indexed k) =
        subst (λ (a : Answer). Beside first a.machine) (sym (indexed_steps m x k))
        (record {
          aic = λ e. absurd (omega (arith, k, e));
          core = λ e. absurd (omega (arith, k, e));
          cic = λ e. absurd (omega (arith, k, e));
          aintc = λ e. absurd (omega (arith, k, e));
          indexed = λ _. ap (λ (n : Machine). with_indexed n (indexed_step (indexed m) x.step).prioritised) (b.indexed k);
        })
    go (is_none p q r s t) = absurd (t (fifth-kind m ok p q r s))

pub aic-record : (first m : Machine) (a : Aic) → m.kind ≡ aic_kind → Beside first m → a ≡ m.aic → with_aic first a ≡ m
aic-record first m a k b e = ap (with_aic first) e ∙ sym (b.aic k)

pub core-record : (first m : Machine) (c : Core) → m.kind ≡ core_kind → Beside first m → c ≡ m.core → with_core first c ≡ m
core-record first m c k b e = ap (with_core first) e ∙ sym (b.core k)

pub cic-record : (first m : Machine) (c : Cic) → m.kind ≡ cic_kind → Beside first m → c ≡ m.cic → with_cic first c ≡ m
cic-record first m c k b e = ap (with_cic first) e ∙ sym (b.cic k)

pub indexed-record : (first m : Machine) (p : Prioritised) → m.kind ≡ indexed_kind → Beside first m → p ≡ indexed m → with_indexed first p ≡ m
indexed-record first m p k b e = ap (with_indexed first) e ∙ sym (b.indexed k)

pub aintc-record : (first m : Machine) (a : Aintc) → m.kind ≡ aintc_kind → Beside first m → a ≡ m.aintc → with_aintc first a ≡ m
aintc-record first m a k b e = ap (with_aintc first) e ∙ sym (b.aintc k)
