-- The promises of a machine in a room, kept.
use mathlib.Core.Path.{◌≡◌, sym, ap, ◌∙◌, subst}
use mathlib.Core.Bool.{Bool, true}
use mathlib.Core.List.{List}
use mathlib.Core.Logic.{◌≢◌}
use Prim.Native.Nat.{ℕ}
use lib.ListN.{length}
use Rattle.steps.specs.declared.Recorded.{Recorded}
use Rattle.rooms.specs.Reply.{Reply}
use Rattle.aic_room.proofs.Promises.{kept as laid_aic}
use Rattle.coreinterrupt_room.proofs.Promises.{kept as laid_core}
use Rattle.cic_room.specs.Room.{plain}
use Rattle.cic_room.proofs.Promises.{kept as laid_cic}
use Rattle.indexed_room.proofs.Promises.{kept as laid_indexed}
use Rattle.aintc_room.proofs.Promises.{kept as laid_aintc}
use Rattle.kinds.proofs.KindLaws.{KindOf, is_aic, is_core, is_cic, is_aintc, is_indexed, is_none, kind_of}
use Rattle.machine.specs.declared.record.Machine.{Machine}
use Rattle.machine.specs.Machine.{indexed, sound}
use Rattle.machine.proofs.MachineLaws.{fifth-kind}
use Rattle.machine.specs.declared.Answer.{Answer}
use Rattle.machine.specs.Steps.{step}
use Rattle.machine.proofs.Promises.{kept as steps}
use Rattle.machine_room.specs.Promises.{Promises}
use Rattle.machine_room.specs.Room.{Laid, Done, Beside}
use Rattle.machine_room.proofs.RoomLaws.{aic-record, core-record, cic-record, aintc-record, indexed-record}

room-length : (kept : Bool) (m : Machine) (r : List ℕ) → sound m ≡ true → Laid kept m r → length r ≡ 2048
room-length kept m r ok h = go (kind_of m.kind)
  where
    go : KindOf m.kind → length r ≡ 2048
    go (is_aic k) = (laid_aic.size m.aic r (h.aic k)).0
    go (is_core k) = (laid_core.size m.core r (h.core k)).0
    go (is_cic k) = (laid_cic.size (plain kept) m.cic r (h.cic k)).0
    go (is_aintc k) = (laid_aintc.size m.aintc r (h.aintc k)).0
    go (is_indexed k) = (laid_indexed.size (indexed m) r (h.indexed k)).0
    go (is_none a b c d e) = absurd (e (fifth-kind m ok a b c d))

one-room : (kept : Bool) (m : Machine) (r s : List ℕ) → sound m ≡ true → Laid kept m r → Laid kept m s → r ≡ s
one-room kept m r s ok h i = go (kind_of m.kind)
  where
    go : KindOf m.kind → r ≡ s
    go (is_aic k) = laid_aic.determined m.aic r s (h.aic k) (i.aic k)
    go (is_core k) = laid_core.determined m.core r s (h.core k) (i.core k)
    go (is_cic k) = laid_cic.determined (plain kept) m.cic r s (h.cic k) (i.cic k)
    go (is_aintc k) = laid_aintc.determined m.aintc r s (h.aintc k) (i.aintc k)
    go (is_indexed k) = laid_indexed.determined (indexed m) r s (h.indexed k) (i.indexed k)
    go (is_none a b c d e) = absurd (e (fifth-kind m ok a b c d))

one_machine : (kept : Bool) (first m n : Machine) (r : List ℕ) → sound m ≡ true → Laid kept m r → Laid kept n r → Beside first m → Beside first n → m ≡ n
one_machine kept first m n r ok h i b c = go (kind_of m.kind)
  where
    same : n.kind ≡ m.kind
    same = sym i.kind ∙ h.kind

    go : KindOf m.kind → m ≡ n
    go (is_aic k) = b.aic k ∙ aic-record first n m.aic (same ∙ k) c (laid_aic.whole m.aic n.aic r (h.aic k) (i.aic (same ∙ k)))
    go (is_core k) = b.core k ∙ core-record first n m.core (same ∙ k) c (laid_core.whole m.core n.core r (h.core k) (i.core (same ∙ k)))
    go (is_cic k) =
        b.cic k ∙ cic-record first n m.cic (same ∙ k) c (laid_cic.whole (plain kept) (plain kept) m.cic n.cic r (h.cic k) (i.cic (same ∙ k)))
    go (is_aintc k) = b.aintc k ∙ aintc-record first n m.aintc (same ∙ k) c (laid_aintc.whole m.aintc n.aintc r (h.aintc k) (i.aintc (same ∙ k)))
    go (is_indexed k) =
        b.indexed k ∙ indexed-record first n (indexed m) (same ∙ k) c (laid_indexed.whole (indexed m) (indexed n) r (h.indexed k) (i.indexed (same ∙ k)))
    go (is_none u v w x e) = absurd (e (fifth-kind m ok u v w x))

refused-same : (kept : Bool) (m : Machine) (x : Recorded) (r s : List ℕ) (q : Reply) → sound m ≡ true → Laid kept m r → Done kept (step m x) s q
    → q.0 ≢ 0 → (s ≡ r) × (q.1 ≡ 0)
refused-same kept m x r s q ok h d n =
    let e = steps.refused_same m x (λ z. n (ap (λ (p : Reply). p.0) d.1 ∙ z)) in (
      one-room kept m s r ok (subst (λ (k : Machine). Laid kept k s) (ap (λ (a : Answer). a.machine) e) d.0) h,
      ap (λ (p : Reply). p.1) d.1 ∙ ap (λ (a : Answer). a.value) e,
    )

pub kept : Promises
kept =
    record {
      kind_told = λ k m r h. h.kind;
      size = room-length;
      determined = one-room;
      whole = one_machine;
      answers = λ k m x s q d. (ap (λ (p : Reply). p.0) d.1, ap (λ (p : Reply). p.1) d.1);
      refused_same = refused-same;
    }
