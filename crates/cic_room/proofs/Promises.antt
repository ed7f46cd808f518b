-- The promises of the layout, kept.
use Prim.Native.Nat.{ℕ, ◌+◌, ◌*◌, ◌/◌, ◌%◌, ◌<◌, ◌≤◌}
use mathlib.Core.Bool.{Bool, true, false, ◌&&◌, not, and_assoc}
use mathlib.Core.List.{List}
use mathlib.Core.Path.{◌≡◌, refl, sym, ap, ap₂, ◌∙◌}
use native.Mathlib.Omega.{arith}
use lib.Dec.{eqb}
use lib.ListN.{length, get_or}
use lib.Seq.{ext_get_or}
use Rattle.words.specs.Array.{bit_at, byte_of}
use Rattle.words.specs.Counting.{any_below, count_below}
use Rattle.words.specs.Word.{bit}
use Rattle.words.proofs.ArrayLaws.{bit_at_word, clean-bit, zeros_get_d}
use Rattle.words.proofs.ChoiceLaws.{pick_true}
use Rattle.words.proofs.CountingLaws.{count_same, lowest-same}
use Rattle.words.proofs.WordLaws.{bit-both, bit-word_of}
use Rattle.cic_record.specs.declared.Cic.{Cic}
use Rattle.cic_record.specs.Kinds.{system, host_number}
use Rattle.cic_record.specs.Sound.{sound}
use Rattle.cic_record.proofs.PartsLaws.{sound-parts, sound-counts}
use Rattle.cic_registers.specs.Hosts.{raises, asserted, shown}
use Rattle.cic_registers.specs.Maps.{map_read}
use Rattle.cic_room.specs.Room.{Frame, of_channel, of_host, some_word, cells, permitted, reached, shown_word, laid, Laid}
use Rattle.cic_room.specs.Tables.{Held, host_at}
use Rattle.cic_room.specs.Promises.{Promises}
use Rattle.cic_room.proofs.LoadLaws.{count_cut, any-count}
use Rattle.cic_room.proofs.MapLaws.{byte_in}
use Rattle.cic_room.proofs.RoomLaws.{held_of, tables_of, long-is, part-is}

-- ---- the counts of a sound record

-- no system interrupt beyond the configured ones raises a host
none-beyond : (c : Cic) (h s : ℕ) → sound c ≡ true → c.systems ≤ s → s < 1024 → raises c (host_number h) (system s) ≡ false
unfolding raises
none-beyond c h s e l m = ap (λ (b : Bool). b && (bit_at c.enable s && eqb (host_at c s) h)) (clean-bit 32 c.systems c.status (sound-parts c e).status s l m)

pub load-record : (c : Cic) (h : ℕ) → sound c ≡ true → of_host c h ≡ count_below c.systems (λ s. raises c (host_number h) (system s))
unfolding of_host raises
load-record c h e =
    count_same 1024 (λ s. (bit_at c.status s && bit_at c.enable s) && eqb (host_at c s) h) (λ s. raises c (host_number h) (system s))
    (λ s _. and_assoc (bit_at c.status s) (bit_at c.enable s) (eqb (host_at c s) h))
    ∙ count_cut 1024 c.systems (λ s. raises c (host_number h) (system s)) (sound-counts c e).systems.1 (λ s l m. none-beyond c h s e l m)

some-record : (c : Cic) (h : ℕ) → sound c ≡ true → not (eqb (of_host c h) 0) ≡ any_below c.systems (λ s. raises c (host_number h) (system s))
some-record c h e = ap (λ (n : ℕ). not (eqb n 0)) (load-record c h e) ∙ any-count c.systems (λ s. raises c (host_number h) (system s))

reached-record : (c : Cic) (h : ℕ) → sound c ≡ true → reached (permitted c) (of_host c) h ≡ asserted c (host_number h)
unfolding asserted
reached-record c h e =
    and_assoc (eqb c.global 1) (bit_at c.allow h) (not (eqb (of_host c h) 0)) ∙ ap (λ (t : Bool). eqb c.global 1 && (bit_at c.allow h && t)) (some-record c h e)

-- ---- what is kept

module _ (f : Frame) (c : Cic) (r : List ℕ) (h : Laid f c r) (on : f.kept ≡ true) where
  word_bits : (k j : ℕ) → k < 32 → j < 32 → bit (get_or r (160 + k) 0) j ≡ (bit_at c.status (32 * k + j) && bit_at c.enable (32 * k + j))
  word_bits k j l m =
      ap (λ (w : ℕ). bit w j) ((tables_of h).active.holds k l ∙ sym (pick_true 0 on)) ∙ bit-both (get_or c.status k 0) (get_or c.enable k 0) j m
      ∙ ap₂ (λ (x y : Bool). x && y) (sym (bit_at_word c.status k j m)) (sym (bit_at_word c.enable k j m))

  some_bits : (k j : ℕ) → sound c ≡ true → k < 8 → j < 32 → bit (get_or r (24 + k) 0) j ≡ any_below c.systems (λ s. raises c (host_number (32 * k + j)) (system s))
  unfolding some_word
  some_bits k j ok l m =
      ap (λ (w : ℕ). bit w j) ((tables_of h).raised.holds k l ∙ sym (pick_true 0 on)) ∙ bit-word_of 32 (λ i. not (eqb (of_host c (32 * k + i)) 0)) j m ∙ some-record c (32 * k + j) ok

  channel-count : (k : ℕ) → k < 256 → get_or r (512 + k) 0 ≡ of_channel c k
  channel-count k l = (tables_of h).of_channel.holds k l ∙ sym (pick_true 0 on)

  busy_bits : (k j : ℕ) → k < 8 → j < 32 → bit (get_or r (32 + k) 0) j ≡ not (eqb (get_or r (512 + (32 * k + j)) 0) 0)
  unfolding some_word
  busy_bits k j l m =
      ap (λ (w : ℕ). bit w j) ((tables_of h).busy.holds k l ∙ sym (pick_true 0 on)) ∙ bit-word_of 32 (λ i. not (eqb (of_channel c (32 * k + i)) 0)) j m
      ∙ ap (λ (n : ℕ). not (eqb n 0)) (sym (channel-count (32 * k + j) (omega (arith, l, m))))

  two_columns : sound c ≡ true → (get_or r 7 0 ≡ (shown c).hosts) × (get_or r 8 0 ≡ (shown c).lowest)
  unfolding shown_word shown
  two_columns ok = (
    (tables_of h).shown.holds 0 (omega arith) ∙ sym (pick_true 0 on) ∙ count_same 256 (reached (permitted c) (of_host c)) (λ i. asserted c (host_number i)) (λ i _. reached-record c i ok),
    (tables_of h).shown.holds 1 (omega arith) ∙ sym (pick_true 0 on) ∙ lowest-same 256 (reached (permitted c) (of_host c)) (λ i. asserted c (host_number i)) (λ i _. reached-record c i ok),
  )

-- ---- one record in a room

one-record : (f g : Frame) (c d : Cic) (r : List ℕ) → Laid f c r → Laid g d r → c ≡ d
one-record f g c d r h k =
    alike (cell 1 (omega arith) (omega arith)) (cell 2 (omega arith) (omega arith)) (cell 3 (omega arith) (omega arith)) (cell 4 (omega arith) (omega arith)) (cell 5 (omega arith) (omega arith))
    (same 32 h.shaped.0 k.shaped.0 (λ i l. sym (p.lines.holds i l) ∙ q.lines.holds i l)) (same 32 h.shaped.1 k.shaped.1 (λ i l. sym (p.status.holds i l) ∙ q.status.holds i l))
    (same 32 h.shaped.2 k.shaped.2 (λ i l. sym (p.enable.holds i l) ∙ q.enable.holds i l))
    (same 1024 h.shaped.3 k.shaped.3 (λ i l. bytes 1024 c.channel d.channel i h.bytes.0 k.bytes.0 l (sym (p.channel.holds (i / 4) (omega (arith, l))) ∙ q.channel.holds (i / 4) (omega (arith, l)))))
    (same 256 h.shaped.4 k.shaped.4 (λ i l. bytes 256 c.host d.host i h.bytes.1 k.bytes.1 l (sym (p.host.holds (i / 4) (omega (arith, l))) ∙ q.host.holds (i / 4) (omega (arith, l)))))
    (same 8 h.shaped.5 k.shaped.5 (λ i l. sym (p.allow.holds i l) ∙ q.allow.holds i l))
  where
    p : Held f c r
    p = held_of h

    q : Held g d r
    q = held_of k

    cell : (i : ℕ) → 0 < i → i < 6 → get_or (cells f c) i 0 ≡ get_or (cells g d) i 0
    cell i _ l = sym ((held_of h).first.holds i (omega (arith, l))) ∙ (held_of k).first.holds i (omega (arith, l))

    same : {xs ys : List ℕ} (n : ℕ) → length xs ≡ n → length ys ≡ n → ((i : ℕ) → i < n → get_or xs i 0 ≡ get_or ys i 0) → xs ≡ ys
    same {xs} {ys} n a b e = ext_get_or 0 xs ys (a ∙ sym b) (λ i l. e i (omega (arith, l, a)))

    bytes : (n : ℕ) (xs ys : List ℕ) (i : ℕ) → ((j : ℕ) → get_or xs j 0 < 256) → ((j : ℕ) → get_or ys j 0 < 256) → i < n → map_read n xs (i / 4) ≡ map_read n ys (i / 4) → get_or xs i 0 ≡ get_or ys i 0
    bytes n xs ys i a b l e = sym (byte_in n xs i a l) ∙ ap (λ (w : ℕ). byte_of w (i % 4)) e ∙ byte_in n ys i b l

    alike : c.systems ≡ d.systems → c.channels ≡ d.channels → c.hosts ≡ d.hosts → c.revision ≡ d.revision → c.global ≡ d.global → c.lines ≡ d.lines → c.status ≡ d.status
        → c.enable ≡ d.enable → c.channel ≡ d.channel → c.host ≡ d.host → c.allow ≡ d.allow → c ≡ d
    alike e₁ e₂ e₃ e₄ e₅ e₆ e₇ e₈ e₉ e₁₀ e₁₁ = rw (e₁, e₂, e₃, e₄, e₅, e₆, e₇, e₈, e₉, e₁₀, e₁₁)

pub kept : Promises
unfolding of_channel
kept =
    record {
      determined = λ f c r s h k. h.words ∙ sym k.words;
      whole = one-record;
      stands = λ f c e s b. (laid f c, record { framed = e; shaped = s; bytes = b; words = refl });
      size = λ f c r h. (long-is h, (held_of h).first.holds 0 (omega arith));
      words = λ f c r k j h on l m. word_bits f c r h on k j l m;
      counts = λ f c r h ok k on l. (tables_of k).of_host.holds h l ∙ sym (pick_true 0 on) ∙ load-record c h ok;
      bits = λ f c r k j ok h on l m. some_bits f c r h on k j ok l m;
      channels = λ f c r k h on l. channel-count f c r h on k l;
      busy = λ f c r k j h on l m. busy_bits f c r h on k j l m;
      columns = λ f c r ok h on. two_columns f c r h on ok;
      rest = λ f c r i h l. part-is h 18 i l ∙ zeros_get_d 512 i;
    }
