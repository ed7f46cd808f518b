-- What a step in a room answers is what the step of the record answers.
use mathlib.Core.Path.{◌≡◌, refl, sym, ap, ◌∙◌, subst}
use mathlib.Core.Bool.{Bool, true, false, ◌&&◌}
use mathlib.Core.List.{List}
use Prim.Native.Nat.{ℕ, ◌%◌, ◌≤◌}
use native.Mathlib.Omega.{arith}
use lib.Dec.{eqb, ltb, leb}
use lib.ListN.{length, get_or, get_or-eq_default}
use Rattle.words.specs.Choice.{pick}
use Rattle.words.specs.Counting.{one}
use Rattle.words.proofs.ChoiceLaws.{pick_true, pick-false}
use Rattle.steps.specs.Refusals.{carried_out, read_refusal, write_refusal, line_refusal}
use Rattle.steps.specs.declared.Access.{Access}
use Rattle.aintc_record.specs.declared.Aintc.{Aintc}
use Rattle.aintc_record.specs.Record.{side}
use Rattle.aintc_record.specs.Route.{route_value, route_at}
use Rattle.aintc_registers.specs.Settle.{settle, sound}
use Rattle.aintc_registers.specs.declared.Answer.{Answer}
use Rattle.aintc_registers.specs.Map.{access}
use Rattle.aintc_registers.specs.Effects.{written_at, moved}
use Rattle.aintc_registers.specs.Registers.{answered, refused, shown, read_at}
use Rattle.aintc_registers.specs.declared.model.Signals.{Signals}
use Rattle.aintc_registers.specs.Model.{barred, access_number, read_number, write_number, line_number, read, write, line, outputs}
use Rattle.aintc_registers.proofs.CallLaws.{read_number_lem, write_number_lem, line_number_lem, done, stopped}
use Rattle.aintc_room.specs.Room.{Laid, chosen_from}
use Rattle.aintc_room.proofs.CellLaws.{active-is, number_is}
use Rattle.aintc_room.proofs.RecordLaws.{flag}
use Rattle.rooms.specs.Reply.{Reply, reply}
use Rattle.aintc_room.specs.Reply.{Done}
use Rattle.aintc_room.proofs.SideLaws.{is_free, is-taken}

-- a reply to one answer is one to an equal answer
pub done_as : {x y : Answer} {room : List ℕ} {r : Reply} → x ≡ y → Done x room r → Done y room r
done_as {room = room} {r = r} e h = subst (λ (z : Answer). Done z room r) e h

-- ---- what is shown of a chosen one

pub shown-none : {a : Aintc} {room : List ℕ} → Laid a room → (f : Bool) (at n : ℕ) → at ≡ chosen_from f → get_or room at 0 ≡ 0 → 0xFFFFFF80 ≡ shown (side a f).active n
unfolding shown
shown-none h f at n e z = pick-false n (is_free h f at e z)

pub shown-some : {a : Aintc} {room : List ℕ} → Laid a room → (f : Bool) (at n : ℕ) → at ≡ chosen_from f → (get_or room at 0 ≡ 0 → ⊥) → n ≡ shown (side a f).active n
unfolding shown
shown-some h f at n e z = pick_true 0xFFFFFF80 (is-taken h f at e z)

pub bit_is : (w : ℕ) (t : Bool) → w ≡ one t → w % 2 ≡ one t
bit_is w true e = ap (λ (x : ℕ). x % 2) e
bit_is w false e = ap (λ (x : ℕ). x % 2) e

-- ---- by which number

pub number-privileged : (g : Bool) (p o rest : ℕ) → p ≡ 1 → rest ≡ access_number true p (barred g p o) rest
unfolding access_number barred pick
number-privileged g p o rest e = sym (ap (λ (q : ℕ). access_number true q (barred g q o) rest) e)

module _ (a : Aintc) (p o n rest : ℕ) (x : Access) (ok : sound a ≡ true) (e : x ≡ access o) (en : n ≡ access_number true p (barred a.guarded p o) rest) where
  pub read_done : (room : List ℕ) (v : ℕ) {r : Reply} → rest ≡ read_refusal true o x → n ≡ carried_out → Laid a room → v ≡ read_at a o → r ≡ reply 0 v → Done (read a p o) room r
  unfolding read
  read_done room v f z h ev er = done_as (done n (read_number a p o) (answered a (read_at a o)) a (read_number_lem a p o n rest _ x ok e f refl en) z) (h, er ∙ ap (reply 0) ev)

  pub read_stopped : (room : List ℕ) {r : Reply} → rest ≡ read_refusal true o x → (n ≡ carried_out → ⊥) → Laid a room → r ≡ reply n 0 → Done (read a p o) room r
  unfolding read
  read_stopped room f z h er = done_as (stopped n (read_number a p o) (answered a (read_at a o)) a (read_number_lem a p o n rest _ x ok e f refl en) z) (h, er)

  pub write_done : (room : List ℕ) (v : ℕ) {r : Reply} → rest ≡ write_refusal true o x carried_out → n ≡ carried_out → Laid (settle (written_at a o v)) room → r ≡ reply 0 0 → Done (write a p o v) room r
  unfolding write
  write_done room v f z h er = done_as (done n (write_number a p o) (answered (settle (written_at a o v)) 0) a (write_number_lem a p o n rest _ x ok e f refl en) z) (h, er)

  pub write_stopped : (room : List ℕ) (v : ℕ) {r : Reply} → rest ≡ write_refusal true o x carried_out → (n ≡ carried_out → ⊥) → Laid a room → r ≡ reply n 0 → Done (write a p o v) room r
  unfolding write
  write_stopped room v f z h er = done_as (stopped n (write_number a p o) (answered (settle (written_at a o v)) 0) a (write_number_lem a p o n rest _ x ok e f refl en) z) (h, er)

-- ---- line steps

module _ (a : Aintc) (k l : ℕ) (ok : sound a ≡ true) where
  pub line-done : (ltb k 128 && leb l 1) ≡ true → answered (settle (moved a k (eqb l 1))) 0 ≡ line a k l
  unfolding line line_refusal pick
  line-done t = done 0 (line_number a k l) (answered (settle (moved a k (eqb l 1))) 0) a (line_number_lem a k l 0 ok (pick_true 6 t)) refl

  pub line_stopped : (ltb k 128 && leb l 1) ≡ false → refused a 6 ≡ line a k l
  unfolding line line_refusal pick
  line_stopped t = stopped 6 (line_number a k l) (answered (settle (moved a k (eqb l 1))) 0) a (line_number_lem a k l 6 ok (pick-false 0 t)) (λ z. let y : ◌≡◌ {A = ℕ} 6 0 = z in absurd (omega arith))

-- ---- outputs

pub outputs-told : (a : Aintc) {room : List ℕ} → sound a ≡ true → Laid a room
    → ◌≡◌ {A = Signals} (record { refusal = 0; irq = eqb (get_or room 8 0) 1; fiq = eqb (get_or room 12 0) 1; number = get_or room 9 0 }) (outputs a)
unfolding outputs side pick
outputs-told a {room} ok h =
    rw (flag (get_or room 8 0) a.irq.active (active-is h false), flag (get_or room 12 0) a.fiq.active (active-is h true), number_is h false) (pick_true _ ok)

-- ---- a route past the last one

pub route-none : (a : Aintc) (k : ℕ) → length a.routes ≡ 128 → 128 ≤ k → 0 ≡ route_value (route_at a k)
route-none a k e l = sym (ap route_value (get_or-eq_default a.routes 0 {n = k} (omega (arith, e, l))))
