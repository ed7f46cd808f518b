-- A room of zeros into which the parts of a record are copied, and the record that a room holds.
use mathlib.Core.Path.{◌≡◌, refl, sym, ap, ◌∙◌}
use mathlib.Core.Bool.{Bool, true, false, ◌&&◌, not, and-false}
use mathlib.Core.List.{List}
use Prim.Native.Nat.{ℕ, ◌+◌, ◌*◌, ◌<◌, ◌≤◌}
use native.Mathlib.Decide.{ℕ_discrete, dec_lt}
use native.Mathlib.Omega.{arith}
use borrow.Author.Tests.{eq-eqb}
use lib.Dec.{eqb}
use lib.ListN.{length, get_or, set, replicate, length-replicate, get_or-eq_default}
use lib.Seq.{ext_get_or, get_or-set_same, get_or-set_other}
use Rattle.words.specs.Array.{bit_at}
use Rattle.words.specs.Word.{both}
use Rattle.words.proofs.ArrayLaws.{zeros_get_d, zeros-bit_at}
use Rattle.words.proofs.WordLaws.{bit-some, bit-word_of, word_of_lt}
use Rattle.cic_record.specs.declared.Cic.{Cic}
use Rattle.cic_record.specs.Promises.{Shaped}
use Rattle.cic_record.specs.Sound.{sound}
use Rattle.cic_record.proofs.RuleLaws.{sound-is}
use Rattle.cic_registers.specs.Maps.{map_read}
use Rattle.cic_room.specs.Room.{Frame, plain, cells, Bytes, active_word, permitted, reached, some_word, shown_word}
use Rattle.cic_room.specs.Tables.{Table, Held, channel_at, host_at, load_by, Counted, Standing}
use Rattle.cic_room.proofs.AssertLaws.{lowest-none}
use Rattle.cic_room.proofs.KeptLaws.{on-counted}
use Rattle.cic_room.proofs.LoadLaws.{count-nothing}
use Rattle.cic_room.proofs.ShownLaws.{tables_as}
use Rattle.cic_room.proofs.TableLaws.{held-shown, put-shown}
use Rattle.cic_room.specs.Copies.{Copied, Blank, Upto}
use Rattle.cic_room.proofs.CopyLaws.{below, above}

-- a sound record holds bytes
pub sound-bytes : (c : Cic) → sound c ≡ true → Shaped c → Bytes c
sound-bytes c ok h = (λ i. chan i (dec_lt i c.systems) (dec_lt i 1024), λ i. host i (dec_lt i c.channels) (dec_lt i 256))
  where
    chan : (i : ℕ) → Dec (i < c.systems) → Dec (i < 1024) → get_or c.channel i 0 < 256
    chan i (yes l) _ = omega (arith, (sound-is c ok).channels i l, (sound-is c ok).counts.1.0.1)
    chan i (no l) (yes m) = omega (arith, (sound-is c ok).spare_channels i (omega (arith, l)) m)
    chan i (no l) (no m) = let e : get_or c.channel i 0 ≡ 0 = get_or-eq_default c.channel 0 (omega (arith, m, h.3)) in omega (arith, e)

    host : (i : ℕ) → Dec (i < c.channels) → Dec (i < 256) → get_or c.host i 0 < 256
    host i (yes l) _ = omega (arith, (sound-is c ok).hosts i l, (sound-is c ok).counts.1.1.1)
    host i (no l) (yes m) = omega (arith, (sound-is c ok).spare_hosts i (omega (arith, l)) m)
    host i (no l) (no m) = let e : get_or c.host i 0 ≡ 0 = get_or-eq_default c.host 0 (omega (arith, m, h.4)) in omega (arith, e)

-- ---- nothing is active

none_loaded : (t : ℕ → ℕ) (h : ℕ) → load_by t (replicate 32 0) h ≡ 0
none_loaded t h = count-nothing 1024 (λ s. bit_at (replicate 32 0) s && eqb (t s) h) (λ s _. ap (λ (b : Bool). b && eqb (t s) h) (zeros-bit_at 32 s))

none-raised : (g : ℕ → ℕ) (w : ℕ) → ((h : ℕ) → g h ≡ 0) → some_word g w ≡ 0
unfolding some_word
none-raised g w z = bit-some 32 _ (word_of_lt 32 _) (λ j l. bit-word_of 32 (λ i. not (eqb (g (32 * w + i)) 0)) j l ∙ ap (λ (x : ℕ). not (eqb x 0)) (z (32 * w + j)))

none-shown : (p : ℕ → Bool) (g : ℕ → ℕ) → ((h : ℕ) → g h ≡ 0) → (h : ℕ) → reached p g h ≡ false
none-shown p g z h = ap (λ (b : Bool). p h && not b) (eq-eqb (g h) 0 (z h)) ∙ and-false (p h)

zeros : (at n : ℕ) (f : ℕ → ℕ) → ((k : ℕ) → f k ≡ 0) → Table (replicate 2048 0) at n f
zeros at n f z = record { holds = λ k _. zeros_get_d 2048 (at + k) ∙ sym (z k) }

-- ---- the parts of a record are copied into a room of zeros

pub laid-first : (c : Cic) (kept : Bool) (r1 r2 r3 r4 r5 r6 r7 : List ℕ) → sound c ≡ true → Shaped c
    → Copied 0 7 (λ k. get_or (cells (plain kept) c) k 0) (replicate 2048 0) r1 → Copied 16 8 (λ k. get_or c.allow k 0) r1 r2 → Copied 64 32 (λ k. get_or c.lines k 0) r2 r3
    → Copied 96 32 (λ k. get_or c.status k 0) r3 r4 → Copied 128 32 (λ k. get_or c.enable k 0) r4 r5
    → Copied 192 64 (map_read 256 c.host) r5 r6 → Copied 256 256 (map_read 1024 c.channel) r6 r7 → Held (plain kept) c r7 × Blank r7
laid-first c kept r1 r2 r3 r4 r5 r6 r7 ok h c1 c2 c3 c4 c5 c6 c7 = (
  record {
    framed = record { index = length-replicate {A = ℕ} 3 0; held = length-replicate {A = ℕ} 256 0; words = length-replicate {A = ℕ} 256 0 };
    shaped = h;
    bytes = sound-bytes c ok h;
    long = long;
    first = below c7 (omega arith) (below c6 (omega arith) (below c5 (omega arith) (below c4 (omega arith) (below c3 (omega arith) (below c2 (omega arith) c1.table)))));
    index = low 9 7 (λ k. get_or (replicate 3 0) k 0) (omega arith) (omega arith) (λ k. zeros_get_d 3 k);
    allow = below c7 (omega arith) (below c6 (omega arith) (below c5 (omega arith) (below c4 (omega arith) (below c3 (omega arith) c2.table))));
    gap = mid 40 24 (λ k. 0) (omega arith) (omega arith) (λ k. refl);
    lines = below c7 (omega arith) (below c6 (omega arith) (below c5 (omega arith) (below c4 (omega arith) c3.table)));
    status = below c7 (omega arith) (below c6 (omega arith) (below c5 (omega arith) c4.table));
    enable = below c7 (omega arith) (below c6 (omega arith) c5.table);
    host = below c7 (omega arith) c6.table;
    channel = c7.table;
    held = past 1024 256 (λ k. get_or (replicate 256 0) k 0) (omega arith) (λ k. zeros_get_d 256 k);
    words = past 1280 768 (λ k. get_or (replicate 256 0) k 0) (omega arith) (λ k. zeros_get_d 256 k);
  },
  record {
    long = long;
    shown = low 7 2 (λ _. 0) (omega arith) (omega arith) (λ k. refl);
    raised = mid 24 8 (λ _. 0) (omega arith) (omega arith) (λ k. refl);
    busy = mid 32 8 (λ _. 0) (omega arith) (omega arith) (λ k. refl);
    active = high 160 32 (λ _. 0) (omega arith) (omega arith) (λ k. refl);
    of_channel = past 512 256 (λ _. 0) (omega arith) (λ k. refl);
    of_host = past 768 256 (λ _. 0) (omega arith) (λ k. refl);
  },
)
  where
    long : length r7 ≡ 2048
    long = c7.long ∙ c6.long ∙ c5.long ∙ c4.long ∙ c3.long ∙ c2.long ∙ c1.long ∙ length-replicate {A = ℕ} 2048 0

    past : (at n : ℕ) (f : ℕ → ℕ) → 512 ≤ at → ((k : ℕ) → f k ≡ 0) → Table r7 at n f
    past at n f l z =
        above c7 (omega (arith, l)) (above c6 (omega (arith, l)) (above c5 (omega (arith, l)) (above c4 (omega (arith, l)) (above c3 (omega (arith, l)) (above c2 (omega (arith, l)) (above c1 (omega (arith, l)) (zeros at n f z)))))))

    low : (at n : ℕ) (f : ℕ → ℕ) → 7 ≤ at → at + n ≤ 16 → ((k : ℕ) → f k ≡ 0) → Table r7 at n f
    low at n f l m z =
        below c7 (omega (arith, m)) (below c6 (omega (arith, m)) (below c5 (omega (arith, m)) (below c4 (omega (arith, m)) (below c3 (omega (arith, m)) (below c2 m (above c1 l (zeros at n f z)))))))

    mid : (at n : ℕ) (f : ℕ → ℕ) → 24 ≤ at → at + n ≤ 64 → ((k : ℕ) → f k ≡ 0) → Table r7 at n f
    mid at n f l m z =
        below c7 (omega (arith, m)) (below c6 (omega (arith, m)) (below c5 (omega (arith, m)) (below c4 (omega (arith, m)) (below c3 m (above c2 l (above c1 (omega (arith, l)) (zeros at n f z)))))))

    high : (at n : ℕ) (f : ℕ → ℕ) → 160 ≤ at → at + n ≤ 192 → ((k : ℕ) → f k ≡ 0) → Table r7 at n f
    high at n f l m z =
        below c7 (omega (arith, m)) (below c6 m (above c5 l (above c4 (omega (arith, l)) (above c3 (omega (arith, l)) (above c2 (omega (arith, l)) (above c1 (omega (arith, l)) (zeros at n f z)))))))

-- no system interrupt is active yet: no host is asserted, and the lowest is 256
pub counted-first : {f : Frame} {c : Cic} (room : List ℕ) → f.kept ≡ true → Held f c room → Blank room → Counted f c (replicate 32 0) (set room 8 256)
unfolding shown_word
counted-first {f} {c} room on h b =
    on-counted on (held-shown 1 256 (omega arith) h) (length-replicate {A = ℕ} 32 0)
    (tables_as (λ k _. refl) (λ k _. sym (none-raised g k none)) (λ k _. sym (none-raised u k (none_loaded (channel_at c)))) (λ k _. sym (zeros_get_d 32 k)) (λ k _. sym (none_loaded (channel_at c) k)) (λ k _. sym (none k))
    (put-shown 1 256 (shown_word (permitted c) g) (omega arith) (lowest-none (reached (permitted c) g) (λ i _. none-shown (permitted c) g none i)) first b))
  where
    g : ℕ → ℕ
    g = load_by (host_at c) (replicate 32 0)

    u : ℕ → ℕ
    u = load_by (channel_at c) (replicate 32 0)

    none : (i : ℕ) → load_by (host_at c) (replicate 32 0) i ≡ 0
    none = none_loaded (host_at c)

    first : (j : ℕ) → j < 2 → (j ≡ 1 → ⊥) → ◌≡◌ {A = ℕ} 0 (shown_word (permitted c) (load_by (host_at c) (replicate 32 0)) j)
    first j l o =
        let e : j ≡ 0 = omega (arith, l, o) in
        sym (ap (shown_word (permitted c) (load_by (host_at c) (replicate 32 0))) e ∙ count-nothing 256 (reached (permitted c) (load_by (host_at c) (replicate 32 0))) (λ i _. none-shown (permitted c) (load_by (host_at c) (replicate 32 0)) (none_loaded (host_at c)) i))

-- ---- all words are renewed

pub upto-first : {f : Frame} {c : Cic} {ws room : List ℕ} → Counted f c ws room → Upto f c 0 room
upto-first {ws = ws} u = record { active = ws; counted = u; words = λ i l. absurd (omega (arith, l)) }

pub upto_next : {f : Frame} {c : Cic} (k w : ℕ) (room room' : List ℕ) → k < 32 → w ≡ both (get_or room (96 + k) 0) (get_or room (128 + k) 0) → (u : Upto f c k room) → Counted f c (set u.active k w) room' → Upto f c (k + 1) room'
upto_next {c = c} k w room room' l e u d = record { active = set u.active k w; counted = d; words = λ i m. go i m (ℕ_discrete i k) }
  where
    both_is : w ≡ active_word c k
    both_is = e ∙ ap (λ (x : ℕ). both x (get_or room (128 + k) 0)) (u.counted.held.status.holds k l) ∙ ap (both (get_or c.status k 0)) (u.counted.held.enable.holds k l)

    go : (i : ℕ) → i < k + 1 → Dec (i ≡ k) → get_or (set u.active k w) i 0 ≡ active_word c i
    go i m (yes p) =
        ap (λ (j : ℕ). get_or (set u.active k w) j 0) p ∙ get_or-set_same u.active k w 0 (omega (arith, l, u.counted.long)) ∙ both_is
        ∙ ap (active_word c) (sym p)
    go i m (no p) = get_or-set_other u.active k i w 0 p ∙ u.words i (omega (arith, m, p))

pub upto_all : {f : Frame} {c : Cic} {k : ℕ} {room : List ℕ} → 32 ≤ k → Upto f c k room → Standing f c room
upto_all l u = record { active = u.active; counted = u.counted; words = λ i m. u.words i (omega (arith, l, m)) }

-- ---- the record of a room

module _ {f : Frame} {c : Cic} {room : List ℕ} (h : Held f c room) where
  pub words-told : (r ws : List ℕ) (n at : ℕ) → length r ≡ n → length ws ≡ n → Table room at n (λ k. get_or ws k 0) → ((k : ℕ) → k < n → get_or r k 0 ≡ get_or room (at + k) 0) → r ≡ ws
  words-told r ws n at e f t g = ext_get_or 0 r ws (e ∙ sym f) (λ k l. let m : k < n = omega (arith, e, l) in g k m ∙ t.holds k m)

  pub map-told : (r m : List ℕ) (n : ℕ) → length r ≡ n → length m ≡ n → ((k : ℕ) → k < n → get_or r k 0 ≡ get_or m k 0) → r ≡ m
  map-told r m n e f g = ext_get_or 0 r m (e ∙ sym f) (λ k l. g k (omega (arith, e, l)))

  pub record-told : (li st en ch ho al : List ℕ) → li ≡ c.lines → st ≡ c.status → en ≡ c.enable → ch ≡ c.channel → ho ≡ c.host → al ≡ c.allow
      → ◌≡◌ {A = Cic} (record { systems = get_or room 1 0; channels = get_or room 2 0; hosts = get_or room 3 0; revision = get_or room 4 0; global = get_or room 5 0; lines = li; status = st; enable = en; channel = ch; host = ho; allow = al }) c
  record-told li st en ch ho al p q r s t u =
      let w = h.first.holds in
      rw (p, q, r, s, t, u, w 1 (omega arith), w 2 (omega arith), w 3 (omega arith), w 4 (omega arith), w 5 (omega arith))
