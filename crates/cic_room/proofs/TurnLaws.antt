-- A system interrupt that becomes active, or is so no longer; and a word of them.
use mathlib.Core.Path.{◌≡◌, refl, sym, ap, subst, ◌∙◌}
use mathlib.Core.Bool.{Bool, true, false, not}
use mathlib.Core.List.{List}
use Prim.Native.Nat.{ℕ, ◌+◌, ◌*◌, ◌/◌, ◌%◌, ◌^◌, ◌<◌}
use native.Mathlib.Decide.{ℕ_discrete}
use native.Mathlib.Omega.{arith}
use borrow.Author.Tests.{ne_eqb}
use lib.Dec.{eqb}
use lib.ListN.{get_or, set}
use lib.Seq.{set-set, set-get_or, get_or-set_same, get_or-set_other}
use Rattle.words.specs.Array.{bit_at, with_bit_at}
use Rattle.words.specs.Word.{bit, both, with_bit}
use Rattle.words.proofs.WordLaws.{with_bit_lt}
use Rattle.rooms.specs.Parts.{made}
use Rattle.rooms.proofs.PartLaws.{made-length, made_get}
use Rattle.cic_record.specs.declared.Cic.{Cic}
use Rattle.cic_room.specs.Room.{Frame, permitted, active_word}
use Rattle.cic_room.specs.Tables.{Held, Beside, channel_at, host_at, load_by, more, Counted, Standing, Stale}
use Rattle.cic_room.proofs.LeftLaws.{differs, Left, left-none, was-not, word-put, left_less}
use Rattle.cic_room.proofs.LoadLaws.{load-most, more_at, more-off, long-put, load_on, load-off}
use Rattle.cic_room.proofs.ShownLaws.{beside_as}
use Rattle.cic_room.proofs.KeptLaws.{counted_on, on-counted, Bare, of_bare, turned}

module _ {f : Frame} {c : Cic} {ws : List ℕ} (room r2 r3 r4 : List ℕ) (s k h x : ℕ) (t : Bool) (l : s < 1024) (m : k < 256) (on : f.kept ≡ true) (u : Counted f c ws room)
    (p : k ≡ channel_at c s) (q : h ≡ host_at c s) where
  kept : Beside (permitted c) (λ i. get_or ws i 0) (load_by (channel_at c) ws) (load_by (host_at c) ws) room
  kept = counted_on on u

  -- it becomes active
  pub turned_on : bit_at ws s ≡ false → x ≡ get_or room (512 + k) 0 % 2048 + 1 → t ≡ true
      → r2 ≡ set (set room (512 + k) x) (32 + k / 32) (with_bit (get_or (set room (512 + k) x) (32 + k / 32) 0) (k % 32) t)
      → r3 ≡ set r2 (160 + s / 32) (with_bit (get_or r2 (160 + s / 32) 0) (s % 32) true)
      → ((a u g : ℕ → ℕ) → Held f c r3 → Beside (permitted c) a u g r3 → g h < 2048 → Held f c r4 × Beside (permitted c) a u (more g h 1) r4) → Counted f c (with_bit_at ws s true) r4
  turned_on b e y e2 e3 add =
      let d = turned (permitted c) {f = f} {c = c} {g = load_by (host_at c) ws} ws (load_by (channel_at c) ws) (load_by (channel_at c) (with_bit_at ws s true)) room r2 r3 s k x t true l m u.long
      (e ∙ omega (arith, kept.of_channel.holds k m, load-most (channel_at c) ws k) ∙ more_at (load_by (channel_at c) ws) k 1
      ∙ sym (load_on (channel_at c) ws s u.long l b k ∙ ap (λ (i : ℕ). more (load_by (channel_at c) ws) i 1 k) (sym p)))
      (λ j n. more-off (load_by (channel_at c) ws) k 1 j n ∙ sym (load_on (channel_at c) ws s u.long l b j ∙ ap (λ (i : ℕ). more (load_by (channel_at c) ws) i 1 j) (sym p)))
      (y ∙ sym (ap not (ne_eqb x 0 (λ z. absurd (omega (arith, z, e)))))) e2 e3 u.held kept in
      let v = add _ _ _ d.0 d.1 (omega (arith, load-most (host_at c) ws h)) in
      on-counted on v.0 (long-put ws s true u.long)
      (beside_as (permitted c) (load_by (host_at c) (with_bit_at ws s true)) (λ i _. ap (λ (z : ℕ). more (load_by (host_at c) ws) z 1 i) q ∙ sym (load_on (host_at c) ws s u.long l b i)) v.1)

  -- it is active no longer
  pub turned-off : bit_at ws s ≡ true → x ≡ (get_or room (512 + k) 0 % 2048 + 2047) % 2048 → t ≡ not (eqb x 0)
      → r2 ≡ set (set room (512 + k) x) (32 + k / 32) (with_bit (get_or (set room (512 + k) x) (32 + k / 32) 0) (k % 32) t)
      → r3 ≡ set r2 (160 + s / 32) (with_bit (get_or r2 (160 + s / 32) 0) (s % 32) false)
      → ((a u g : ℕ → ℕ) → Held f c r3 → Beside (permitted c) a u (more g h 1) r3 → Held f c r4 × Beside (permitted c) a u g r4) → Counted f c (with_bit_at ws s false) r4
  turned-off b e y e2 e3 take =
      let less : (j : ℕ) → load_by (channel_at c) ws j ≡ more (load_by (channel_at c) (with_bit_at ws s false)) k 1 j
      = λ j. load-off (channel_at c) ws s u.long l b j ∙ ap (λ (i : ℕ). more (load_by (channel_at c) (with_bit_at ws s false)) i 1 j) (sym p) in
      let d = turned (permitted c) {f = f} {c = c} {g = load_by (host_at c) ws} ws (load_by (channel_at c) ws) (load_by (channel_at c) (with_bit_at ws s false)) room r2 r3 s k x t false l m u.long
      (e ∙ omega (arith, kept.of_channel.holds k m, load-most (channel_at c) ws k, less k, more_at (load_by (channel_at c) (with_bit_at ws s false)) k 1))
      (λ j n. less j ∙ sym (more-off (load_by (channel_at c) (with_bit_at ws s false)) k 1 j n))
      y e2 e3 u.held kept in
      let v = take _ _ (load_by (host_at c) (with_bit_at ws s false)) d.0
      (beside_as (permitted c) (more (load_by (host_at c) (with_bit_at ws s false)) h 1) (λ i _. load-off (host_at c) ws s u.long l b i ∙ ap (λ (z : ℕ). more (load_by (host_at c) (with_bit_at ws s false)) z 1 i) (sym q)) d.1) in
      on-counted on v.0 (long-put ws s false u.long) v.1

-- ---- a word

-- word k is on its way to a new one: these bits are left
pub record Going (f : Frame) (c : Cic) (first : List ℕ) (k new left : ℕ) (room : List ℕ) : Type 0 where
  pub active : List ℕ
  pub counted : Counted f c active room
  pub others : active ≡ set first k (get_or active k 0)
  pub rest : Left left (get_or active k 0) new
  pub fits : get_or active k 0 < 2 ^ 32

pub going-first : {f : Frame} {c : Cic} {ws : List ℕ} (room : List ℕ) (k new left : ℕ) → k < 32 → f.kept ≡ true → Counted f c ws room → get_or room (160 + k) 0 < 2 ^ 32
    → Left left (get_or room (160 + k) 0) new → Going f c ws k new left room
going-first {ws = ws} room k new left l on u d e =
    let w = (counted_on on u).active.holds k l in
    record { active = ws; counted = u; others = sym (set-get_or ws k 0); rest = subst (λ (x : ℕ). Left left x new) w e; fits = subst (λ (x : ℕ). x < 2 ^ 32) w d }

-- one bit less is left
pub going_on : {f : Frame} {c : Cic} {first : List ℕ} (k new left i left' : ℕ) (t : Bool) (room room' : List ℕ) → k < 32 → i < 32 → bit left i ≡ true → t ≡ bit new i → left' ≡ with_bit left i false
    → ((ws : List ℕ) → Counted f c ws room → bit_at ws (32 * k + i) ≡ not t → Counted f c (with_bit_at ws (32 * k + i) t) room') → Going f c first k new left room → Going f c first k new left' room'
going_on {first = first} k new left i left' t room room' l m b e d turn g =
    record {
      active = after;
      counted = turn g.active g.counted (was-not g.active left new k i m g.rest b ∙ ap not (sym e));
      others = put ∙ ap (λ (x : List ℕ). set x k (with_bit old i t)) g.others ∙ set-set first k _ _ ∙ ap (λ (x : ℕ). set first k x) (sym word);
      rest = λ j o.
          ap (λ (x : ℕ). bit x j) d ∙ left_less left old new i m g.rest j o
          ∙ ap (λ (x : ℕ). differs (bit x j) (bit new j)) (ap (λ (x : Bool). with_bit old i x) (sym e) ∙ sym word);
      fits = subst (λ (x : ℕ). x < 2 ^ 32) (sym word) (with_bit_lt old i t);
    }
  where
    old : ℕ
    old = get_or g.active k 0

    after : List ℕ
    after = with_bit_at g.active (32 * k + i) t

    put : after ≡ set g.active k (with_bit old i t)
    put = word-put g.active after k i (32 * k + i) t m refl refl

    word : get_or after k 0 ≡ with_bit old i t
    word = ap (λ (x : List ℕ). get_or x k 0) put ∙ get_or-set_same g.active k _ 0 (omega (arith, l, g.counted.long))

-- equal words
pub counted_as : {f : Frame} {c : Cic} {ws ws' : List ℕ} {room : List ℕ} → ws ≡ ws' → Counted f c ws room → Counted f c ws' room
counted_as {f = f} {c = c} {room = room} e u = subst (λ (x : List ℕ). Counted f c x room) e u

-- none is left
pub going_done : {f : Frame} {c : Cic} {first : List ℕ} (k new left : ℕ) (room : List ℕ) → new < 2 ^ 32 → left ≡ 0 → Going f c first k new left room → Counted f c (set first k new) room
going_done {first = first} k new left room d e g =
    counted_as (g.others ∙ ap (set first k) (left-none left (get_or g.active k 0) new g.fits d e g.rest)) g.counted

-- the word that was to be renewed is what is set and enabled
pub renewed : {f : Frame} {c : Cic} (k w : ℕ) (room room' : List ℕ) → k < 32 → w ≡ both (get_or room (96 + k) 0) (get_or room (128 + k) 0) → (u : Stale f c k room)
    → Counted f c (set u.active k w) room' → Standing f c room'
renewed {f} {c} k w room room' l e u d = record { active = set u.active k w; counted = d; words = λ i m. go i m (ℕ_discrete i k) }
  where
    both_is : w ≡ active_word c k
    both_is = e ∙ ap (λ (x : ℕ). both x (get_or room (128 + k) 0)) (u.counted.held.status.holds k l) ∙ ap (both (get_or c.status k 0)) (u.counted.held.enable.holds k l)

    go : (i : ℕ) → i < 32 → Dec (i ≡ k) → get_or (set u.active k w) i 0 ≡ active_word c i
    go i m (yes p) = ap (λ (j : ℕ). get_or (set u.active k w) j 0) p ∙ get_or-set_same u.active k w 0 (omega (arith, l, u.counted.long)) ∙ both_is ∙ ap (active_word c) (sym p)
    go i m (no p) = get_or-set_other u.active k i w 0 p ∙ u.others i m p

-- where nothing is kept there is nothing to renew
pub stood-bare : {f : Frame} {c : Cic} {room : List ℕ} → Held f c room → Bare f room → Standing f c room
stood-bare {c = c} h b =
    record { active = made 32 (active_word c); counted = of_bare (made 32 (active_word c)) h (made-length 32 (active_word c)) b; words = λ i l. made_get 32 (active_word c) i l }
