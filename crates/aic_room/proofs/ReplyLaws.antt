-- What a step in a room answers is what the step of the record answers.
use mathlib.Core.Path.{◌≡◌, refl, sym, ap, ap₂, ◌∙◌, subst}
use mathlib.Core.Bool.{Bool, true, false, ◌&&◌}
use mathlib.Core.List.{List}
use Prim.Native.Nat.{ℕ, ◌≤◌}
use native.Mathlib.Omega.{arith}
use lib.Dec.{eqb, ltb, leb}
use Rattle.words.specs.Choice.{pick}
use Rattle.words.proofs.ChoiceLaws.{pick_true, pick-false, pick_cases}
use Rattle.steps.specs.Refusals.{carried_out, read_refusal, write_refusal, line_refusal}
use Rattle.steps.specs.declared.Access.{Access}
use Rattle.aic_record.specs.declared.Aic.{Aic}
use Rattle.aic_record.specs.Sound.{sound, protects}
use Rattle.aic_record.proofs.SoundLaws.{sound-is}
use Rattle.aic_sources.specs.Fast.{fast_asks, fiq}
use Rattle.aic_sources.specs.Normal.{candidates, irq}
use Rattle.aic_registers.specs.declared.Answer.{Answer}
use Rattle.aic_registers.specs.Map.{access, ivr, fvr, eoicr}
use Rattle.aic_registers.specs.Handlers.{answered, refused, ended, ivr_taken, ivr_looked, ivr_read, fvr_read}
use Rattle.aic_registers.specs.Effects.{moved}
use Rattle.aic_registers.specs.Registers.{read_at, written_at}
use Rattle.aic.specs.declared.Signals.{Signals}
use Rattle.aic.specs.Model.{read_number, write_number, line_number, read, write, line, outputs}
use Rattle.aic.proofs.CallLaws.{read_number_lem, write_number_lem, line_number_lem, done, stopped}
use Rattle.aic_room.specs.Room.{Laid, Gives}
use Rattle.rooms.specs.Reply.{Reply, reply}
use Rattle.aic_room.specs.Reply.{Done}

-- a reply to one answer is one to an equal answer
pub done_as : {x y : Answer} {room : List ℕ} {r : Reply} → x ≡ y → Done x room r → Done y room r
done_as {room = room} {r = r} e h = subst (λ (z : Answer). Done z room r) e h

-- the room of a record that goes by an offset, at the offset of an arm
pub laid_at : (f : ℕ → Aic) {o k : ℕ} {room : List ℕ} → o ≡ k → Laid (f k) room → Laid (f o) room
laid_at f {room = room} e h = subst (λ (x : ℕ). Laid (f x) room) (sym e) h

pub gives_at : (f : ℕ → Answer) {o k : ℕ} {room : List ℕ} {v : ℕ} → o ≡ k → Gives (f k) room v → Gives (f o) room v
gives_at f {room = room} {v = v} e h = subst (λ (x : ℕ). Gives (f x) room v) (sym e) h

-- at most eight entries are open
pub few : (a : Aic) → sound a ≡ true → a.depth ≤ 8
few a ok = (sound-is a ok).entries

-- ---- reads

-- a read that is carried out is refused by no number
carried : (a : Aic) (o : ℕ) → (read_at a o).refusal ≡ carried_out
unfolding read_at ivr_read ivr_looked ivr_taken fvr_read
carried a o =
    pick_cases P (eqb o ivr)
    (λ _. pick_cases P (protects a) (λ _. pick_cases P (candidates a) (λ _. refl) (λ _. refl)) (λ _. pick_cases P (candidates a) (λ _. refl) (λ _. refl)))
    (λ _. pick_cases P (eqb o fvr) (λ _. pick_cases P (fast_asks a) (λ _. refl) (λ _. refl)) (λ _. refl))
  where
    P : Answer → Type 0
    P x = x.refusal ≡ carried_out

module _ (a : Aic) (o n : ℕ) (x : Access) (ok : sound a ≡ true) (e : x ≡ access o) where
  pub read_done : (room : List ℕ) (v : ℕ) {r : Reply} → n ≡ read_refusal true o x → n ≡ carried_out → Gives (read_at a o) room v → r ≡ reply 0 v → Done (read a o) room r
  unfolding read
  read_done room v f z g p =
      done_as (done n (read_number a o) (read_at a o) a (read_number_lem a o n x ok e f) z)
      (g.0, p ∙ ap₂ reply (sym (carried a o)) g.1)

  pub read_stopped : (room : List ℕ) {r : Reply} → n ≡ read_refusal true o x → (n ≡ carried_out → ⊥) → Laid a room → r ≡ reply n 0 → Done (read a o) room r
  unfolding read
  read_stopped room f z h p = done_as (stopped n (read_number a o) (read_at a o) a (read_number_lem a o n x ok e f) z) (h, p)

  -- ---- writes

  pub write_done : (room : List ℕ) (v : ℕ) {r : Reply} → n ≡ write_refusal true o x carried_out → n ≡ carried_out → Laid (written_at a o v) room
      → r ≡ reply 0 0 → Done (write a o v) room r
  unfolding write
  write_done room v f z h p =
      done_as (done n (write_number a o v) (answered (written_at a o v) 0) a (write_number_lem a o v n x ok e f) z) (h, p)

  pub write_stopped : (room : List ℕ) (v : ℕ) {r : Reply} → n ≡ write_refusal true o x carried_out → (n ≡ carried_out → ⊥) → Laid a room
      → r ≡ reply n 0 → Done (write a o v) room r
  unfolding write
  write_stopped room v f z h p = done_as (stopped n (write_number a o v) (answered (written_at a o v) 0) a (write_number_lem a o v n x ok e f) z) (h, p)

-- ---- the two registers that are asked for first

module _ (a : Aic) (o : ℕ) (ok : sound a ≡ true) where
  pub ivr-done : o ≡ ivr → (room : List ℕ) (v : ℕ) {r : Reply} → Gives (ivr_read a) room v → r ≡ reply 0 v → Done (read a o) room r
  unfolding read_at pick read_refusal access
  ivr-done e room v g p = read_done a o 0 (access o) ok refl room v (sym (ap (λ (x : ℕ). read_refusal true x (access x)) e)) refl (gives_at (read_at a) e g) p

  pub eoicr-done : o ≡ eoicr → (room : List ℕ) (v : ℕ) {r : Reply} → Laid (ended a) room → r ≡ reply 0 0 → Done (write a o v) room r
  unfolding written_at pick write_refusal access
  eoicr-done e room v h p =
      write_done a o 0 (access o) ok refl room v (sym (ap (λ (x : ℕ). write_refusal true x (access x) carried_out) e)) refl (laid_at (λ (x : ℕ). written_at a x v) e h) p

-- ---- line steps

module _ (a : Aic) (k l : ℕ) (ok : sound a ≡ true) where
  pub line-done : (ltb k 32 && leb l 1) ≡ true → answered (moved a k (eqb l 1)) 0 ≡ line a k l
  unfolding line line_refusal pick
  line-done t = done 0 (line_number a k l) (answered (moved a k (eqb l 1)) 0) a (line_number_lem a k l 0 ok (pick_true 6 t)) refl

  pub line_stopped : (ltb k 32 && leb l 1) ≡ false → refused a 6 ≡ line a k l
  unfolding line line_refusal pick
  line_stopped t = stopped 6 (line_number a k l) (answered (moved a k (eqb l 1)) 0) a (line_number_lem a k l 6 ok (pick-false 0 t)) (λ z. let y : ◌≡◌ {A = ℕ} 6 0 = z in absurd (omega arith))

-- ---- outputs

pub outputs-told : (a : Aic) (i f : Bool) (d : ℕ) → sound a ≡ true → i ≡ irq a → f ≡ fiq a → d ≡ a.depth
    → ◌≡◌ {A = Signals} (record { refusal = 0; irq = i; fiq = f; entries = d }) (outputs a)
unfolding outputs
outputs-told a i f d ok e g h = rw (e, g, h) (pick_true _ ok)
