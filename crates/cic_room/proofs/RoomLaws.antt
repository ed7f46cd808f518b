-- The room as one list and table by table: each follows from the other.
use mathlib.Core.Path.{◌≡◌, refl, sym, ap, subst, ◌∙◌}
use mathlib.Core.Bool.{Bool, ◌&&◌}
use mathlib.Core.List.{List, [], ◌∷◌, ◌++◌}
use Prim.Native.Nat.{ℕ, ◌+◌, ◌-◌, ◌*◌, ◌<◌}
use native.Mathlib.Decide.{dec_lt}
use native.Mathlib.Nat.{zero-add}
use native.Mathlib.Omega.{arith}
use lib.Dec.{eqb}
use lib.ListN.{length, get_or, replicate, length-replicate, get_or-append, get_or-eq_default}
use lib.Seq.{ext_get_or, get_or-append-add}
use Rattle.words.specs.Array.{bit_at}
use Rattle.words.specs.Choice.{pick}
use Rattle.words.proofs.ArrayLaws.{zeros_get_d}
use Rattle.words.proofs.CountingLaws.{count_same}
use Rattle.rooms.specs.Parts.{flat, Sized, place, made}
use Rattle.rooms.proofs.PartLaws.{part_get, flat-length, made-length, made_get}
use Rattle.cic_record.specs.declared.Cic.{Cic}
use Rattle.cic_record.specs.Promises.{Shaped}
use Rattle.cic_registers.specs.Maps.{map_read}
use Rattle.cic_room.specs.Room.{Frame, Framed, active_word, of_channel, of_host, some_word, permitted, shown_word, if_kept, parts, sizes, laid, Laid}
use Rattle.cic_room.specs.Tables.{Table, Held, Tables, channel_at, host_at, load_by, Standing}
use Rattle.cic_room.proofs.FourLaws.{words-active}
use Rattle.cic_room.proofs.ShownLaws.{some_same, shown-same, reached_as, tables_as}

-- ---- parts and tables, of any room

-- each part stands as a table, one after another
abbrev Stand : List ℕ → ℕ → List (List ℕ) → List ℕ → Type 0
Stand room at [] ns = length ns ≡ 0
Stand room at (p ∷ ps) [] = ⊥
Stand room at (p ∷ ps) (n ∷ ns) = Table room at n (λ k. get_or p k 0) × Stand room (at + n) ps ns

stand_get : (room : List ℕ) (ps : List (List ℕ)) (ns : List ℕ) (at : ℕ) → Sized ps ns → Stand room at ps ns → (j : ℕ) → j < place ns (length ns) → get_or room (at + j) 0 ≡ get_or (flat ps) j 0
stand_get room [] ns at s t j l = absurd (omega (arith, l, t, ap (λ (m : List ℕ). place m (length m)) s))
stand_get room (p ∷ ps) [] at s t j l = absurd s
stand_get room (p ∷ ps) (n ∷ ns) at s t j l = go (λ i m. stand_get room ps ns (at + n) s.1 t.1 i m) (dec_lt j n)
  where
    go : ((i : ℕ) → i < place ns (length ns) → get_or room (at + n + i) 0 ≡ get_or (flat ps) i 0) → Dec (j < n) → get_or room (at + j) 0 ≡ get_or (p ++ flat ps) j 0
    go r (yes m) = t.0.holds j m ∙ sym (get_or-append p (flat ps) 0 j (omega (arith, s.0, m)))
    go r (no m) =
        let i = j - n in
        let e : at + j ≡ at + n + i = omega (arith, m) in
        let d : length p + i ≡ j = omega (arith, m, s.0) in
        ap (λ (x : ℕ). get_or room x 0) e ∙ r i (omega (arith, l, m)) ∙ sym (get_or-append-add p (flat ps) i 0) ∙ ap (λ (x : ℕ). get_or (p ++ flat ps) x 0) d

stand-flat : (room : List ℕ) (ps : List (List ℕ)) (ns : List ℕ) → Sized ps ns → length room ≡ place ns (length ns) → Stand room 0 ps ns → room ≡ flat ps
stand-flat room ps ns s e t =
    ext_get_or 0 room (flat ps) (e ∙ sym (flat-length ps ns s))
    (λ j l. ap (λ (x : ℕ). get_or room x 0) (sym (zero-add j)) ∙ stand_get room ps ns 0 s t j (omega (arith, l, e)))

-- ---- what the record determines

module _ (c : Cic) (ws : List ℕ) (w : (i : ℕ) → i < 32 → get_or ws i 0 ≡ active_word c i) where
  pub of_channel_lem : (k : ℕ) → load_by (channel_at c) ws k ≡ of_channel c k
  unfolding of_channel
  of_channel_lem k =
      count_same 1024 (λ s. bit_at ws s && eqb (channel_at c s) k) (λ s. (bit_at c.status s && bit_at c.enable s) && eqb (channel_at c s) k)
      (λ s l. ap (λ (b : Bool). b && eqb (channel_at c s) k) (words-active c.status c.enable ws w s l))

  pub of_host_lem : (h : ℕ) → load_by (host_at c) ws h ≡ of_host c h
  unfolding of_host
  of_host_lem h =
      count_same 1024 (λ s. bit_at ws s && eqb (host_at c s) h) (λ s. (bit_at c.status s && bit_at c.enable s) && eqb (host_at c s) h)
      (λ s l. ap (λ (b : Bool). b && eqb (host_at c s) h) (words-active c.status c.enable ws w s l))

if-same : (f : Frame) (t t' : ℕ → ℕ) (k : ℕ) → t k ≡ t' k → if_kept f t k ≡ if_kept f t' k
if-same f t t' k e = ap (λ (x : ℕ). pick f.kept x 0) e

-- ---- the parts of the room of a record that has its shape

pub sized : (f : Frame) (c : Cic) → Framed f → Shaped c → Sized (parts f c) sizes
sized f c r s = (refl, (made-length 2 (if_kept f (shown_word (permitted c) (of_host c))), (r.index, (length-replicate {A = ℕ} 4 0, (s.5, (made-length 8 (if_kept f (some_word (of_host c))), (made-length 8 (if_kept f (some_word (of_channel c))), (length-replicate {A = ℕ} 24 0, (s.0, (s.1, (s.2, (made-length 32 (if_kept f (active_word c)), (made-length 64 (map_read 256 c.host), (made-length 256 (map_read 1024 c.channel), (made-length 256 (if_kept f (of_channel c)), (made-length 256 (if_kept f (of_host c)), (r.held, (r.words, (length-replicate {A = ℕ} 512 0, refl)))))))))))))))))))

pub long-is : {f : Frame} {c : Cic} {room : List ℕ} → Laid f c room → length room ≡ 2048
unfolding laid
long-is {f} {c} h = ap (λ (l : List ℕ). length l) h.words ∙ flat-length (parts f c) sizes (sized f c h.framed h.shaped)

-- ---- from the list

module _ {f : Frame} {c : Cic} {room : List ℕ} (h : Laid f c room) where
  pub part-is : (i k : ℕ) → k < get_or sizes i 0 → get_or room (place sizes i + k) 0 ≡ get_or (get_or (parts f c) i []) k 0
  unfolding laid
  part-is i k l = ap (λ (x : List ℕ). get_or x (place sizes i + k) 0) h.words ∙ part_get (parts f c) sizes (sized f c h.framed h.shaped) i k l

  from_index : (k : ℕ) → k < 7 → Dec (k < 3) → get_or room (9 + k) 0 ≡ get_or f.index k 0
  from_index k l (yes m) = part-is 2 k m
  from_index k l (no m) =
      let e : 9 + k ≡ 12 + (k - 3) = omega (arith, m) in
      ap (λ (x : ℕ). get_or room x 0) e ∙ part-is 3 (k - 3) (omega (arith, l, m)) ∙ zeros_get_d 4 (k - 3) ∙ sym (get_or-eq_default f.index 0 (omega (arith, m, h.framed.index)))

  from_words : (k : ℕ) → k < 768 → Dec (k < 256) → get_or room (1280 + k) 0 ≡ get_or f.words k 0
  from_words k l (yes m) = part-is 17 k m
  from_words k l (no m) =
      let e : 1280 + k ≡ 1536 + (k - 256) = omega (arith, m) in
      ap (λ (x : ℕ). get_or room x 0) e ∙ part-is 18 (k - 256) (omega (arith, l, m)) ∙ zeros_get_d 512 (k - 256) ∙ sym (get_or-eq_default f.words 0 (omega (arith, m, h.framed.words)))

  pub held_of : Held f c room
  held_of =
      record {
        framed = h.framed;
        shaped = h.shaped;
        bytes = h.bytes;
        long = long-is h;
        first = record { holds = λ k l. part-is 0 k l };
        index = record { holds = λ k l. from_index k l (dec_lt k 3) };
        allow = record { holds = λ k l. part-is 4 k l };
        gap = record { holds = λ k l. part-is 7 k l ∙ zeros_get_d 24 k };
        lines = record { holds = λ k l. part-is 8 k l };
        status = record { holds = λ k l. part-is 9 k l };
        enable = record { holds = λ k l. part-is 10 k l };
        host = record { holds = λ k l. part-is 12 k l ∙ made_get 64 (map_read 256 c.host) k l };
        channel = record { holds = λ k l. part-is 13 k l ∙ made_get 256 (map_read 1024 c.channel) k l };
        held = record { holds = λ k l. part-is 16 k l };
        words = record { holds = λ k l. from_words k l (dec_lt k 256) };
      }

  pub tables_of : Tables (if_kept f (shown_word (permitted c) (of_host c))) (if_kept f (some_word (of_host c))) (if_kept f (some_word (of_channel c))) (if_kept f (active_word c)) (if_kept f (of_channel c)) (if_kept f (of_host c)) room
  tables_of =
      record {
        long = long-is h;
        shown = record { holds = λ k l. part-is 1 k l ∙ made_get 2 (if_kept f (shown_word (permitted c) (of_host c))) k l };
        raised = record { holds = λ k l. part-is 5 k l ∙ made_get 8 (if_kept f (some_word (of_host c))) k l };
        busy = record { holds = λ k l. part-is 6 k l ∙ made_get 8 (if_kept f (some_word (of_channel c))) k l };
        active = record { holds = λ k l. part-is 11 k l ∙ made_get 32 (if_kept f (active_word c)) k l };
        of_channel = record { holds = λ k l. part-is 14 k l ∙ made_get 256 (if_kept f (of_channel c)) k l };
        of_host = record { holds = λ k l. part-is 15 k l ∙ made_get 256 (if_kept f (of_host c)) k l };
      }

  pub standing : Standing f c room
  standing =
      record {
        active = ws;
        counted =
            record {
              held = held_of;
              long = made-length 32 (active_word c);
              kept =
                  tables_as
                  (λ k _. if-same f (shown_word (permitted c) (of_host c)) (shown_word (permitted c) (load_by (host_at c) ws)) k
                  (shown-same (permitted c) (permitted c) (of_host c) (load_by (host_at c) ws) (λ j _. reached_as (permitted c) (of_host c) (load_by (host_at c) ws) j (sym (of_host_lem c ws is j))) k))
                  (λ k _. if-same f (some_word (of_host c)) (some_word (load_by (host_at c) ws)) k (some_same (of_host c) (load_by (host_at c) ws) k (λ j _. sym (of_host_lem c ws is (32 * k + j)))))
                  (λ k _. if-same f (some_word (of_channel c)) (some_word (load_by (channel_at c) ws)) k (some_same (of_channel c) (load_by (channel_at c) ws) k (λ j _. sym (of_channel_lem c ws is (32 * k + j)))))
                  (λ k l. if-same f (active_word c) (λ i. get_or ws i 0) k (sym (is k l))) (λ k _. if-same f (of_channel c) (load_by (channel_at c) ws) k (sym (of_channel_lem c ws is k)))
                  (λ k _. if-same f (of_host c) (load_by (host_at c) ws) k (sym (of_host_lem c ws is k))) tables_of;
            };
        words = is;
      }
    where
      ws : List ℕ
      ws = made 32 (active_word c)

      is : (i : ℕ) → i < 32 → get_or (made 32 (active_word c)) i 0 ≡ active_word c i
      is i l = made_get 32 (active_word c) i l

-- ---- and back

pub laid_of : {f : Frame} {c : Cic} {room : List ℕ} → Standing f c room → Laid f c room
unfolding laid
laid_of {f} {c} {room} s =
    record {
      framed = h.framed;
      shaped = h.shaped;
      bytes = h.bytes;
      words =
          stand-flat room (parts f c) sizes (sized f c h.framed h.shaped) h.long (
            h.first,
            (
              made_table 2 (if_kept f (shown_word (permitted c) (of_host c))) t.shown,
              (
                record { holds = λ k l. h.index.holds k (omega (arith, l)) },
                (
                  record { holds = λ k l. spare k l },
                  (
                    h.allow,
                    (
                      made_table 8 (if_kept f (some_word (of_host c))) t.raised,
                      (
                        made_table 8 (if_kept f (some_word (of_channel c))) t.busy,
                        (
                          record { holds = λ k l. h.gap.holds k l ∙ sym (zeros_get_d 24 k) },
                          (
                            h.lines,
                            (
                              h.status,
                              (
                                h.enable,
                                (
                                  made_table 32 (if_kept f (active_word c)) t.active,
                                  (
                                    made_table 64 (map_read 256 c.host) h.host,
                                    (
                                      made_table 256 (map_read 1024 c.channel) h.channel,
                                      (
                                        made_table 256 (if_kept f (of_channel c)) t.of_channel,
                                        (
                                          made_table 256 (if_kept f (of_host c)) t.of_host,
                                          (h.held, (record { holds = λ k l. h.words.holds k (omega (arith, l)) }, (record { holds = λ k l. last k l }, refl))),
                                        ),
                                      ),
                                    ),
                                  ),
                                ),
                              ),
                            ),
                          ),
                        ),
                      ),
                    ),
                  ),
                ),
              ),
            ),
          );
    }
  where
    h : Held f c room
    h = s.counted.held

    ws : List ℕ
    ws = s.active

    t : Tables (if_kept f (shown_word (permitted c) (of_host c))) (if_kept f (some_word (of_host c))) (if_kept f (some_word (of_channel c))) (if_kept f (active_word c)) (if_kept f (of_channel c)) (if_kept f (of_host c)) room
    t =
        tables_as
        (λ k _. if-same f (shown_word (permitted c) (load_by (host_at c) ws)) (shown_word (permitted c) (of_host c)) k
        (shown-same (permitted c) (permitted c) (load_by (host_at c) ws) (of_host c) (λ j _. reached_as (permitted c) (load_by (host_at c) ws) (of_host c) j (of_host_lem c ws s.words j)) k))
        (λ k _. if-same f (some_word (load_by (host_at c) ws)) (some_word (of_host c)) k (some_same (load_by (host_at c) ws) (of_host c) k (λ j _. of_host_lem c ws s.words (32 * k + j))))
        (λ k _. if-same f (some_word (load_by (channel_at c) ws)) (some_word (of_channel c)) k (some_same (load_by (channel_at c) ws) (of_channel c) k (λ j _. of_channel_lem c ws s.words (32 * k + j))))
        (λ k l. if-same f (λ i. get_or ws i 0) (active_word c) k (s.words k l))
        (λ k _. if-same f (load_by (channel_at c) ws) (of_channel c) k (of_channel_lem c ws s.words k))
        (λ k _. if-same f (load_by (host_at c) ws) (of_host c) k (of_host_lem c ws s.words k))
        s.counted.kept

    made_table : {at : ℕ} (n : ℕ) (g : ℕ → ℕ) → Table room at n g → Table room at n (λ k. get_or (made n g) k 0)
    made_table n g x = record { holds = λ k l. x.holds k l ∙ sym (made_get n g k l) }

    spare : (k : ℕ) → k < 4 → get_or room (12 + k) 0 ≡ get_or (replicate 4 0) k 0
    spare k l =
        let e : 12 + k ≡ 9 + (3 + k) = omega arith in
        ap (λ (x : ℕ). get_or room x 0) e ∙ h.index.holds (3 + k) (omega (arith, l)) ∙ get_or-eq_default f.index 0 (omega (arith, h.framed.index)) ∙ sym (zeros_get_d 4 k)

    last : (k : ℕ) → k < 512 → get_or room (1536 + k) 0 ≡ get_or (replicate 512 0) k 0
    last k l =
        let e : 1536 + k ≡ 1280 + (256 + k) = omega arith in
        ap (λ (x : ℕ). get_or room x 0) e ∙ h.words.holds (256 + k) (omega (arith, l)) ∙ get_or-eq_default f.words 0 (omega (arith, h.framed.words)) ∙ sym (zeros_get_d 512 k)

-- an equal record
pub laid_as : {f : Frame} {c d : Cic} {room : List ℕ} → c ≡ d → Laid f c room → Laid f d room
laid_as {f} {room = room} e h = subst (λ (x : Cic). Laid f x room) e h
