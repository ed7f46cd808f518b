-- Rooms word by word, starts that are accepted, and the one machine that may stand in a room.
use Prim.Native.Nat.{ℕ, ◌≤◌, ◌<◌}
use mathlib.Core.Path.{◌≡◌, refl, sym, ap, ap₂, ◌∙◌, subst}
use mathlib.Core.Bool.{Bool, true, false}
use mathlib.Core.List.{List, [], ◌∷◌}
use mathlib.Core.Logic.{◌≢◌, inl, inr, ⊎_elim}
use native.Mathlib.Omega.{arith}
use lib.ListN.{length, get_or}
use lib.Seq.{ext_get_or}
use borrow.Author.Tests.{eq-eqb, eqb-true}
use Rattle.words.proofs.CountingLaws.{all_at, at_all}
use Rattle.words.specs.Choice.{pick}
use Rattle.steps.specs.Refusals.{carried_out, unknown, misconfigured}
use Rattle.steps.specs.declared.Recorded.{Recorded}
use Rattle.steps.specs.declared.Step.{Step}
use Rattle.trace.specs.Turns.{made}
use Rattle.rooms.specs.Reply.{Reply}
use Rattle.kinds.specs.declared.Configuration.{Configuration}
use Rattle.kinds.specs.Configuration.{number_in}
use Rattle.kinds.specs.Kinds.{aic_kind, core_kind, cic_kind, aintc_kind, indexed_kind, is_kind, wanted, within}
use Rattle.kinds.proofs.KindLaws.{KindOf, is_aic, is_core, is_cic, is_aintc, is_indexed, is_none, kind_of, at_none}
use Rattle.kinds.proofs.Promises.{kept as kinds}
use Rattle.machine.specs.declared.record.Machine.{Machine}
use Rattle.machine.specs.Machine.{blank, start, sound, indexed}
use Rattle.machine.specs.RecordPromises.{Ready}
use Rattle.machine.proofs.RecordPromises.{kept as records}
use Rattle.machine.proofs.MachineLaws.{sound_aic, sound_core, sound-cic, sound_aintc, sound-indexed, fifth-kind, aic-starts, core-starts, cic-starts, aintc-starts, indexed-starts, start-ready}
use Rattle.machine_room.specs.Room.{Laid, Beside, with_aic, with_core, with_cic, with_aintc, with_indexed}
use Rattle.machine_room.proofs.RoomLaws.{aic-laid, core-laid, cic-laid, aintc-laid, indexed-laid}
use Rattle.machine_room.specs.Controller.{Stands, same, accepted, start_refusal, Stepped}

-- ---- words

pub same_equal : (r s : List ℕ) → length r ≡ 2048 → length s ≡ 2048 → same r s ≡ true → r ≡ s
unfolding same
same_equal r s a b e = ext_get_or 0 r s (a ∙ sym b) (λ i l. eqb-true _ _ (all_at 2048 _ e i (omega (arith, a, l))))

pub equal-same : (r s : List ℕ) → r ≡ s → same r s ≡ true
unfolding same
equal-same r s e = at_all 2048 _ (λ k l. eq-eqb _ _ (ap (λ (x : List ℕ). get_or x k 0) e))

-- ---- a start

none-wanted : (kind : ℕ) → kind ≢ aic_kind → kind ≢ core_kind → kind ≢ cic_kind → kind ≢ aintc_kind → kind ≢ indexed_kind → 0 ≡ wanted kind
unfolding wanted
none-wanted kind a b c d e = at_none kind _ a b c d e

pub wanted-most : (kind : ℕ) → wanted kind ≤ 5
wanted-most kind = go (kind_of kind)
  where
    go : KindOf kind → wanted kind ≤ 5
    go (is_aic k) = omega (arith, ap wanted k ∙ kinds.aic_numbers)
    go (is_core k) = omega (arith, ap wanted k ∙ kinds.core_numbers)
    go (is_cic k) = omega (arith, ap wanted k ∙ kinds.cic_numbers)
    go (is_aintc k) = omega (arith, ap wanted k ∙ kinds.aintc_numbers)
    go (is_indexed k) = omega (arith, ap wanted k ∙ kinds.indexed_numbers)
    go (is_none a b c d e) = omega (arith, none-wanted kind a b c d e)

-- the numbers of an accepted configuration are within their limits
fits : (kind : ℕ) (c : Configuration) → accepted kind c ≡ true → (n : ℕ) → n < wanted kind → within kind n (number_in c n) ≡ true
unfolding accepted
fits kind c e n l = all_at (wanted kind) _ e n l

-- so the machine that starts from them is ready: what it starts from are its own numbers
aic-fits : (c : Configuration) → accepted aic_kind c ≡ true → Ready (start aic_kind c)
aic-fits c e =
    let w = kinds.aic_numbers in
    let f = fits aic_kind c e in
    subst (λ (m : Machine). Ready m) (aic-starts (number_in c 0) (number_in c 1) ∙ sym (records.aic_starts c))
    (start-ready aic_kind (number_in c 0 ∷ number_in c 1 ∷ []) ((kinds.kinds aic_kind).1 (inl refl)) (sym w) (f 0 (omega (arith, w)), (f 1 (omega (arith, w)), tt)))

core-fits : (c : Configuration) → accepted core_kind c ≡ true → Ready (start core_kind c)
core-fits c e =
    let w = kinds.core_numbers in
    let f = fits core_kind c e in
    subst (λ (m : Machine). Ready m) (core-starts (number_in c 0) (number_in c 1) (number_in c 2) (number_in c 3) ∙ sym (records.core_starts c))
    (start-ready core_kind (number_in c 0 ∷ number_in c 1 ∷ number_in c 2 ∷ number_in c 3 ∷ []) ((kinds.kinds core_kind).1 (inr (inl refl))) (sym w)
    (f 0 (omega (arith, w)), (f 1 (omega (arith, w)), (f 2 (omega (arith, w)), (f 3 (omega (arith, w)), tt)))))

cic-fits : (c : Configuration) → accepted cic_kind c ≡ true → Ready (start cic_kind c)
cic-fits c e =
    let w = kinds.cic_numbers in
    let f = fits cic_kind c e in
    subst (λ (m : Machine). Ready m) (cic-starts (number_in c 0) (number_in c 1) (number_in c 2) (number_in c 3) ∙ sym (records.cic_starts c))
    (start-ready cic_kind (number_in c 0 ∷ number_in c 1 ∷ number_in c 2 ∷ number_in c 3 ∷ []) ((kinds.kinds cic_kind).1 (inr (inr (inl refl)))) (sym w)
    (f 0 (omega (arith, w)), (f 1 (omega (arith, w)), (f 2 (omega (arith, w)), (f 3 (omega (arith, w)), tt)))))

aintc-fits : (c : Configuration) → Ready (start aintc_kind c)
aintc-fits c =
    subst (λ (m : Machine). Ready m) (aintc-starts ∙ sym (records.aintc_starts c))
    (start-ready aintc_kind [] ((kinds.kinds aintc_kind).1 (inr (inr (inr (inl refl))))) (sym kinds.aintc_numbers) tt)

indexed-fits : (c : Configuration) → accepted indexed_kind c ≡ true → Ready (start indexed_kind c)
indexed-fits c e =
    let w = kinds.indexed_numbers in
    let f = fits indexed_kind c e in
    subst (λ (m : Machine). Ready m)
    (indexed-starts (number_in c 0) (number_in c 1) (number_in c 2) (number_in c 3) (number_in c 4) ∙ sym (records.indexed_starts c))
    (start-ready indexed_kind (number_in c 0 ∷ number_in c 1 ∷ number_in c 2 ∷ number_in c 3 ∷ number_in c 4 ∷ [])
    ((kinds.kinds indexed_kind).1 (inr (inr (inr (inr refl))))) (sym w)
    (f 0 (omega (arith, w)), (f 1 (omega (arith, w)), (f 2 (omega (arith, w)), (f 3 (omega (arith, w)), (f 4 (omega (arith, w)), tt))))))

pub start_fits : (kind : ℕ) (c : Configuration) → is_kind kind ≡ true → accepted kind c ≡ true → Ready (start kind c)
start_fits kind c i e = go (kind_of kind)
  where
    at : {k : ℕ} → kind ≡ k → (accepted k c ≡ true → Ready (start k c)) → Ready (start kind c)
    at {k} p f = subst (λ (n : ℕ). Ready (start n c)) (sym p) (f (subst (λ (n : ℕ). accepted n c ≡ true) p e))

    go : KindOf kind → Ready (start kind c)
    go (is_aic k) = at k (aic-fits c)
    go (is_core k) = at k (core-fits c)
    go (is_cic k) = at k (cic-fits c)
    go (is_aintc k) = at k (λ _. aintc-fits c)
    go (is_indexed k) = at k (indexed-fits c)
    go (is_none a b d f g) = absurd (⊎_elim a (⊎_elim b (⊎_elim d (⊎_elim f g))) ((kinds.kinds kind).0 i))

-- a start that is not refused
both_hold : (b d : Bool) → pick b (pick d carried_out misconfigured) unknown ≡ carried_out → (b ≡ true) × (d ≡ true)
unfolding pick
both_hold true true e = (refl, refl)
both_hold true false e = absurd (omega (arith, e))
both_hold false d e = absurd (omega (arith, e))

pub start-taken : (kind : ℕ) (c : Configuration) → start_refusal kind c ≡ carried_out → sound (start kind c) ≡ true
unfolding start_refusal
start-taken kind c e = let p = both_hold (is_kind kind) (accepted kind c) e in (start_fits kind c p.0 p.1).0

-- ---- the machine that may stand in a room

-- a machine with another kind, and one of a kind of which nothing else is known
abbrev pub with_kind : Machine → ℕ → Machine
with_kind m kind = record { kind = kind; aic = m.aic; core = m.core; cic = m.cic; aintc = m.aintc; held = m.held }

abbrev pub bare : ℕ → Machine
bare kind = with_kind blank kind

-- where any machine stands, one stands whose other records are blank
pub alone : (r : List ℕ) (n : Machine) → Stands r n → (m : Machine) × Stands r m × Beside (bare (get_or r 0 0)) m
alone r n s = go (kind_of n.kind)
  where
    h : Laid true n r
    h = s.1

    f : Machine
    f = bare (get_or r 0 0)

    go : KindOf n.kind → (m : Machine) × Stands r m × Beside f m
    go (is_aic k) =
        let e : get_or r 0 0 ≡ aic_kind = h.kind ∙ k in
        let m = with_aic f n.aic in (
          m,
          (sym (sound_aic m e) ∙ sound_aic n k ∙ s.0, aic-laid true m r e (h.aic k)),
          record { aic = λ _. refl; core = λ z. absurd (omega (arith, e, z)); cic = λ z. absurd (omega (arith, e, z)); aintc = λ z. absurd (omega (arith, e, z)); indexed = λ z. absurd (omega (arith, e, z)) },
        )
    go (is_core k) =
        let e : get_or r 0 0 ≡ core_kind = h.kind ∙ k in
        let m = with_core f n.core in (
          m,
          (sym (sound_core m e) ∙ sound_core n k ∙ s.0, core-laid true m r e (h.core k)),
          record { aic = λ z. absurd (omega (arith, e, z)); core = λ _. refl; cic = λ z. absurd (omega (arith, e, z)); aintc = λ z. absurd (omega (arith, e, z)); indexed = λ z. absurd (omega (arith, e, z)) },
        )
    go (is_cic k) =
        let e : get_or r 0 0 ≡ cic_kind = h.kind ∙ k in
        let m = with_cic f n.cic in (
          m,
          (sym (sound-cic m e) ∙ sound-cic n k ∙ s.0, cic-laid true m r e (h.cic k)),
          record { aic = λ z. absurd (omega (arith, e, z)); core = λ z. absurd (omega (arith, e, z)); cic = λ _. refl; aintc = λ z. absurd (omega (arith, e, z)); indexed = λ z. absurd (omega (arith, e, z)) },
        )
    go (is_aintc k) =
        let e : get_or r 0 0 ≡ aintc_kind = h.kind ∙ k in
        let m = with_aintc f n.aintc in (
          m,
          (sym (sound_aintc m e) ∙ sound_aintc n k ∙ s.0, aintc-laid true m r e (h.aintc k)),
          record { aic = λ z. absurd (omega (arith, e, z)); core = λ z. absurd (omega (arith, e, z)); cic = λ z. absurd (omega (arith, e, z)); aintc = λ _. refl; indexed = λ z. absurd (omega (arith, e, z)) },
        )
    go (is_indexed k) =
        let e : get_or r 0 0 ≡ indexed_kind = h.kind ∙ k in
        let m = with_indexed f (indexed n) in (
          m,
          (sym (sound-indexed m e) ∙ sound-indexed n k ∙ s.0, indexed-laid true m r e (h.indexed k)),
          record { aic = λ z. absurd (omega (arith, e, z)); core = λ z. absurd (omega (arith, e, z)); cic = λ z. absurd (omega (arith, e, z)); aintc = λ z. absurd (omega (arith, e, z)); indexed = λ _. refl },
        )
    go (is_none a b c d e) = absurd (e (fifth-kind n s.0 a b c d))

-- ---- a step

-- two ways to say one step
pub stepped_as : {before after : List ℕ} {x y : Step} {privilege : ℕ} {q : Reply} → x ≡ y → Stepped before (made x privilege) after q
    → Stepped before (made y privilege) after q
stepped_as {before} {after} {x} {y} {privilege} {q} e h = subst (λ (z : Step). Stepped before (made z privilege) after q) e h

-- the two numbers of a reply, each for itself
pub stepped_to : {before after : List ℕ} {x : Recorded} {q : Reply} {r v : ℕ} → r ≡ q.0 → v ≡ q.1 → Stepped before x after q → Stepped before x after (r, v)
stepped_to {before} {after} {x} e f h = subst (λ (p : Reply). Stepped before x after p) (sym (ap₂ (λ (a b : ℕ). (a, b)) e f)) h
