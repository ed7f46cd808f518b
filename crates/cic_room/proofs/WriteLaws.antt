-- A register of the channel map or of the host map is written.
use mathlib.Core.Path.{◌≡◌, refl, sym, ap, ◌∙◌}
use mathlib.Core.Bool.{Bool, true, false, ◌&&◌, ◌||◌, not}
use mathlib.Core.Logic.{⊎_elim}
use mathlib.Core.List.{List}
use Prim.Native.Nat.{ℕ, ◌+◌, ◌*◌, ◌/◌, ◌%◌, ◌<◌, ◌≤◌}
use native.Mathlib.Decide.{dec_lt, ℕ_discrete}
use native.Mathlib.Omega.{arith}
use borrow.Author.Tests.{eq-eqb, eqb-true, lt-ltb, le-ltb}
use lib.Dec.{eqb, ltb}
use lib.ListN.{length, get_or, set}
use lib.Seq.{get_or-set_other}
use Rattle.words.specs.Array.{bit_at, byte_of}
use Rattle.words.specs.Choice.{pick}
use Rattle.words.specs.Word.{bit}
use Rattle.words.proofs.ChoiceLaws.{pick_true, pick-false}
use Rattle.words.proofs.TruthLaws.{clash, or-either, or_neither}
use Rattle.cic_record.specs.declared.Cic.{Cic}
use Rattle.cic_record.specs.Record.{with_channel, with_host}
use Rattle.cic_registers.specs.Maps.{map_read, map_put}
use Rattle.cic_registers.proofs.MapsPromises as of-maps
use Rattle.cic_room.specs.Room.{Frame, permitted, active_word, Laid}
use Rattle.cic_room.specs.Tables.{Held, Beside, channel_at, host_at, load_by, more, Counted, Standing, Stale, Taken, Move}
use Rattle.cic_room.proofs.TableLaws.{put_channel, put_host, kept_channel, kept_host}
use Rattle.cic_room.proofs.LoadLaws.{load_stays, load-most, moves}
use Rattle.cic_room.proofs.ShownLaws.{beside_as, beside_for}
use Rattle.cic_room.proofs.FourLaws.{four_out}
use Rattle.cic_room.proofs.KeptLaws.{counted_on, on-counted, bare_of}
use Rattle.cic_room.proofs.TurnLaws.{stood-bare}
use Rattle.cic_room.proofs.RoomLaws.{standing, laid_of}
use Rattle.cic_room.proofs.MapLaws.{new_long, new-other, new-bytes, new_words}

-- ---- the channel map

-- four system interrupts are taken out
pub taken_out : {f : Frame} {c : Cic} {ws : List ℕ} (room room' : List ℕ) (k new : ℕ) → k < 256 → f.kept ≡ true → Counted f c ws room
    → ((j : ℕ) → j < 32 → bit new j ≡ (bit (get_or room (160 + k / 8) 0) j && not (eqb (j / 4) (k % 8)))) → Counted f c (set ws (k / 8) new) room' → Taken f c ws k room'
taken_out {ws = ws} room room' k new l on u e d =
    record {
      active = set ws (k / 8) new;
      counted = d;
      out = four_out ws (set ws (k / 8) new) k new u.long l refl (λ j m. e j m ∙ ap (λ (w : ℕ). bit w j && not (eqb (j / 4) (k % 8))) ((counted_on on u).active.holds (k / 8) (omega (arith, l))));
      others = λ i o. get_or-set_other ws (k / 8) i new 0 o;
    }

-- what is active and not taken out is of another register
not_out : (b t : Bool) → (b && not t) ≡ true → t ≡ false
not_out true true e = sym e
not_out true false e = refl
not_out false true e = sym e
not_out false false e = refl

-- the register of a record, of which the maps hold bytes
module _ (f : Frame) (c : Cic) (k v w : ℕ) (l : k < 256) (e : w ≡ map_read 1024 (map_put c.systems k v c.channel) k) where
  abbrev chans : List ℕ
  chans = map_put c.systems k v c.channel

  fits_in : 4 * k + 3 < 1024
  fits_in = omega (arith, l)

  put_it : {room : List ℕ} → Held f c room → Held f (with_channel c (map_put c.systems k v c.channel)) (set room (256 + k) w)
  put_it h =
      put_channel k w chans l (new_long 1024 c.systems k v c.channel h.shaped.3 fits_in) (new-bytes 1024 c.systems k v c.channel h.shaped.3 fits_in h.bytes.0) e
      (λ j _ o. new_words 1024 c.systems k v c.channel h.shaped.3 fits_in j o) h

  -- nothing is kept
  pub channels-bare : {room : List ℕ} → f.kept ≡ false → Laid f c room → Laid f (with_channel c (map_put c.systems k v c.channel)) (set room (256 + k) w)
  channels-bare off h =
      let u = (standing h).counted in
      let b = bare_of off u in
      laid_of (stood-bare (put_it u.held) (off, kept_channel k w l b.1))

  -- the word of four is to be renewed
  pub stale_channel : {first : List ℕ} (room : List ℕ) → f.kept ≡ true → ((i : ℕ) → i < 32 → get_or first i 0 ≡ active_word c i) → Taken f c first k room
      → Stale f (with_channel c (map_put c.systems k v c.channel)) (k / 8) (set room (256 + k) w)
  stale_channel {first} room on h t =
      record {
        active = t.active;
        counted =
            on-counted on (put_it t.counted.held) t.counted.long
            (beside_for (permitted c) (load_by (λ s. get_or chans s 0) t.active) (λ x _. load_stays (channel_at c) (λ s. get_or chans s 0) t.active x stays)
            (beside_as (permitted c) (load_by (λ s. get_or c.host (get_or chans s 0) 0) t.active)
            (λ x _. load_stays (host_at c) (λ s. get_or c.host (get_or chans s 0) 0) t.active x (λ s i b. ap (λ (y : ℕ). get_or c.host y 0) (stays s i b)))
            (kept_channel k w l (counted_on on t.counted))));
        others = λ i i' o. t.others i o ∙ h i i';
      }
    where
      stays : (s : ℕ) → s < 1024 → bit_at t.active s ≡ true → get_or c.channel s 0 ≡ get_or (map_put c.systems k v c.channel) s 0
      stays s i b =
          new-other 1024 c.systems k v c.channel t.counted.held.shaped.3 fits_in s
          (λ q. clash (eq-eqb (s / 4) k q) (not_out (bit_at first s) (eqb (s / 4) k) (sym (t.out s i) ∙ b)))

-- ---- the host map

zero_at : (b : Bool) → ◌≡◌ {A = ℕ} (pick b 0 0) 0
unfolding pick
zero_at true = refl
zero_at false = refl

-- nothing moves where there is nothing, or no other host
pub stays_put : (p : ℕ → Bool) {a u : ℕ → ℕ} (g : ℕ → ℕ) {room : List ℕ} (n from to : ℕ) (x y : ℕ) → (eqb x 0 || eqb y to) ≡ true → (x ≡ 0 → n ≡ 0) → y ≡ from → Beside p a u (more g from n) room
    → Beside p a u (more g to n) room
stays_put p g n from to x y e z w t = beside_as p (more g to n) (λ i _. ⊎_elim (λ (q : eqb x 0 ≡ true). none i (z (eqb-true x 0 q))) (λ (q : eqb y to ≡ true). ap (λ (h : ℕ). more g h n i) (sym w ∙ eqb-true y to q)) (or-either (eqb x 0) (eqb y to) e)) t
  where
    none : (i : ℕ) → n ≡ 0 → more g from n i ≡ more g to n i
    none i q =
        ap (λ (m : ℕ). g i + pick (eqb i from) m 0) q ∙ ap (λ (m : ℕ). g i + m) (zero_at (eqb i from)) ∙ sym (ap (λ (m : ℕ). g i + pick (eqb i to) m 0) q ∙ ap (λ (m : ℕ). g i + m) (zero_at (eqb i to)))

pub some_moves : (x : ℕ) (b : Bool) → (eqb x 0 || b) ≡ false → 0 < x
some_moves x b e = go (ℕ_discrete x 0)
  where
    go : Dec (x ≡ 0) → 0 < x
    go (yes q) = clash (eq-eqb x 0 q) (or_neither (eqb x 0) b e).0
    go (no q) = omega (arith, q)

module _ (c : Cic) (ws : List ℕ) (k v : ℕ) (l : k < 64) (long : length c.host ≡ 256) where
  abbrev old : List ℕ
  old = c.host

  abbrev new : List ℕ
  new = map_put c.channels k v c.host

  fits : 4 * k + 3 < 256
  fits = omega (arith, l)

  -- where channels go once the first j of the register have moved
  abbrev to : ℕ → ℕ → ℕ
  to j x = pick (ltb x (4 * k + j)) (get_or new x 0) (get_or old x 0)

  abbrev chan : ℕ → ℕ
  chan s = get_or c.channel s 0

  to_new : (j x : ℕ) → x < 4 * k + j → get_or new x 0 ≡ to j x
  to_new j x i = pick_true (get_or old x 0) (lt-ltb x (4 * k + j) i)

  to_old : (j x : ℕ) → 4 * k + j ≤ x → get_or old x 0 ≡ to j x
  to_old j x i = pick-false (get_or new x 0) (le-ltb x (4 * k + j) i)

  to_next : (j x : ℕ) → (x ≡ 4 * k + j → ⊥) → to j x ≡ to (j + 1) x
  to_next j x o = go (dec_lt x (4 * k + j))
    where
      go : Dec (x < 4 * k + j) → to j x ≡ to (j + 1) x
      go (yes i) = sym (to_new j x i) ∙ to_new (j + 1) x (omega (arith, i))
      go (no i) = sym (to_old j x (omega (arith, i))) ∙ to_old (j + 1) x (omega (arith, i, o))

  -- at first as before, in the end as after
  pub at_first : (h : ℕ) → load_by (host_at c) ws h ≡ load_by (λ s. to 0 (chan s)) ws h
  at_first h = load_stays (host_at c) (λ s. to 0 (chan s)) ws h (λ s _ _. go (chan s) (dec_lt (chan s) (4 * k + 0)))
    where
      go : (x : ℕ) → Dec (x < 4 * k + 0) → get_or old x 0 ≡ to 0 x
      go x (yes i) = new-other 256 c.channels k v old long fits x (λ q. absurd (omega (arith, q, i))) ∙ to_new 0 x i
      go x (no i) = to_old 0 x (omega (arith, i))

  pub at_last : (h : ℕ) → load_by (λ s. to 4 (chan s)) ws h ≡ load_by (λ s. get_or (map_put c.channels k v c.host) (get_or c.channel s 0) 0) ws h
  at_last h = load_stays (λ s. to 4 (chan s)) (λ s. get_or new (get_or c.channel s 0) 0) ws h (λ s _ _. go (chan s) (dec_lt (chan s) (4 * k + 4)))
    where
      go : (x : ℕ) → Dec (x < 4 * k + 4) → to 4 x ≡ get_or new x 0
      go x (yes i) = sym (to_new 4 x i)
      go x (no i) = sym (to_old 4 x (omega (arith, i))) ∙ new-other 256 c.channels k v old long fits x (λ q. absurd (omega (arith, q, i)))

  -- one channel of the register moves
  pub moved_on : (f : Frame) (d : Cic) (p : ℕ → Bool) (a : ℕ → ℕ) (j w w' : ℕ) (room room' : List ℕ) → j < 4 → byte_of w j ≡ get_or old (4 * k + j) 0
      → byte_of w' j ≡ get_or (map_put c.channels k v c.host) (4 * k + j) 0
      → ((a u g : ℕ → ℕ) → Held f d room → Beside p a u (more g (byte_of w j) (u (4 * k + j))) room → u (4 * k + j) < 2048 → g (byte_of w' j) < 2048
      → Held f d room' × Beside p a u (more g (byte_of w' j) (u (4 * k + j))) room')
      → Held f d room × Beside p a (load_by chan ws) (load_by (λ s. to j (chan s)) ws) room → Held f d room' × Beside p a (load_by chan ws) (load_by (λ s. to (j + 1) (chan s)) ws) room'
  moved_on f d p a j w w' room room' i e e' move u =
      let x = 4 * k + j in
      let n = load_by chan ws x in
      let m = moves chan (to j) (to (j + 1)) ws x (to_next j) in
      let r = move a (load_by chan ws) m.rest u.0
      (beside_as p (more m.rest (byte_of w j) n) (λ h _. m.was h ∙ ap (λ (y : ℕ). more m.rest y n h) (sym (e ∙ to_old j x (omega arith)))) u.1)
      (omega (arith, load-most chan ws x)) (omega (arith, m.was (byte_of w' j), load-most (λ s. to j (chan s)) ws (byte_of w' j))) in
      (r.0, beside_as p (load_by (λ s. to (j + 1) (chan s)) ws) (λ h _. ap (λ (y : ℕ). more m.rest y n h) (e' ∙ to_new (j + 1) x (omega arith)) ∙ m.is h) r.1)

module _ {f : Frame} {c : Cic} (room : List ℕ) (k v w : ℕ) (l : k < 64) (g : Laid f c room) (e : w ≡ map_read 256 (map_put c.channels k v c.host) k) where
  abbrev hosts : List ℕ
  hosts = map_put c.channels k v c.host

  abbrev written : Cic
  written = with_host c (map_put c.channels k v c.host)

  h : Standing f c room
  h = standing g

  long : length c.host ≡ 256
  long = g.shaped.4

  fit : 4 * k + 3 < 256
  fit = omega (arith, l)

  bytes : (i : ℕ) → get_or (map_put c.channels k v c.host) i 0 < 256
  bytes = new-bytes 256 c.channels k v c.host long fit g.bytes.1

  pub put_hosts : Held f (with_host c (map_put c.channels k v c.host)) (set room (192 + k) w)
  put_hosts = put_host k w hosts l (new_long 256 c.channels k v c.host long fit) bytes e (λ j _ o. new_words 256 c.channels k v c.host long fit j o) h.counted.held

  -- nothing is kept
  pub hosts-bare : f.kept ≡ false → Laid f (with_host c (map_put c.channels k v c.host)) (set room (192 + k) w)
  hosts-bare off = laid_of (stood-bare put_hosts (off, kept_host k w l (bare_of off h.counted).1))

  -- all four channels move
  pub hosts-written : (r1 r2 r3 r4 : List ℕ) → f.kept ≡ true → Move f (with_host c (map_put c.channels k v c.host)) k 0 (get_or room (192 + k) 0) w (set room (192 + k) w) r1 → Move f (with_host c (map_put c.channels k v c.host)) k 1 (get_or room (192 + k) 0) w r1 r2
      → Move f (with_host c (map_put c.channels k v c.host)) k 2 (get_or room (192 + k) 0) w r2 r3 → Move f (with_host c (map_put c.channels k v c.host)) k 3 (get_or room (192 + k) 0) w r3 r4 → Laid f (with_host c (map_put c.channels k v c.host)) r4
  hosts-written r1 r2 r3 r4 on m1 m2 m3 m4 =
      let s1 = moved_on c ws k v l long f written p a 0 old' w (set room (192 + k) w) r1 (omega arith) (old-is 0 (omega arith)) (new_is 0 (omega arith)) m1 start in
      let s2 = moved_on c ws k v l long f written p a 1 old' w r1 r2 (omega arith) (old-is 1 (omega arith)) (new_is 1 (omega arith)) m2 s1 in
      let s3 = moved_on c ws k v l long f written p a 2 old' w r2 r3 (omega arith) (old-is 2 (omega arith)) (new_is 2 (omega arith)) m3 s2 in
      let s4 = moved_on c ws k v l long f written p a 3 old' w r3 r4 (omega arith) (old-is 3 (omega arith)) (new_is 3 (omega arith)) m4 s3 in
      laid_of (record { active = ws; counted = on-counted on s4.0 h.counted.long (beside_as p (load_by (host_at written) ws) (λ i _. at_last c ws k v l long i) s4.1); words = h.words })
    where
      ws : List ℕ
      ws = h.active

      p : ℕ → Bool
      p = permitted c

      a : ℕ → ℕ
      a i = get_or h.active i 0

      old' : ℕ
      old' = get_or room (192 + k) 0

      start : Held f written (set room (192 + k) w) × Beside (permitted c) a (load_by (channel_at c) h.active) (load_by (λ s. pick (ltb (channel_at c s) (4 * k + 0)) (get_or hosts (channel_at c s) 0) (get_or c.host (channel_at c s) 0)) h.active) (set room (192 + k) w)
      start = (put_hosts, beside_as (permitted c) _ (λ i _. at_first c h.active k v l long i) (kept_host k w l (counted_on on h.counted)))

      old-is : (j : ℕ) → j < 4 → byte_of (get_or room (192 + k) 0) j ≡ get_or c.host (4 * k + j) 0
      old-is j i = ap (λ (x : ℕ). byte_of x j) (h.counted.held.host.holds k l) ∙ (of-maps.kept).reads 256 c.host k j g.bytes.1 i (omega (arith, i, l))

      new_is : (j : ℕ) → j < 4 → byte_of w j ≡ get_or (map_put c.channels k v c.host) (4 * k + j) 0
      new_is j i = ap (λ (x : ℕ). byte_of x j) e ∙ (of-maps.kept).reads 256 (map_put c.channels k v c.host) k j bytes i (omega (arith, i, l))
