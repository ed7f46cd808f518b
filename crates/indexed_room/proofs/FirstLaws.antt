-- That a search by busy channels, by the words of a channel and by the active words finds what an index names.
use mathlib.Core.Path.{◌≡◌, refl, sym, ap, ap₂, ◌∙◌}
use mathlib.Core.Bool.{Bool, true, false, not, ◌&&◌, ◌||◌}
use mathlib.Core.List.{List}
use mathlib.Core.Logic.{◌≢◌, ◌⊎◌, inl, inr}
use Prim.Native.Nat.{ℕ, ◌+◌, ◌-◌, ◌*◌, ◌/◌, ◌%◌, ◌^◌, ◌<◌}
use native.Mathlib.Decide.{dec_lt}
use native.Mathlib.Omega.{arith}
use borrow.Author.Tests.{eq-eqb, eqb-true}
use lib.Dec.{eqb}
use lib.ListN.{get_or}
use Rattle.words.specs.Array.{bit_at}
use Rattle.words.specs.Counting.{any_below, lowest_below}
use Rattle.words.specs.Word.{bit, both, with_bit}
use Rattle.words.proofs.ArrayLaws.{bit_at_word, clean-bit}
use Rattle.words.proofs.CountingLaws.{any_fails, any_none}
use Rattle.words.proofs.HopLaws.{lowest_in, lowest-before, hop-other}
use Rattle.words.proofs.TruthLaws.{and_left, clash, told}
use Rattle.words.proofs.WordLaws.{bit-word_of, bit-both, bit-none}
use Rattle.cic_record.specs.declared.Cic.{Cic}
use Rattle.cic_record.specs.declared.Host.{Host}
use Rattle.cic_record.specs.Kinds.{system, channel_number}
use Rattle.cic_record.specs.Sound.{sound}
use Rattle.cic_record.proofs.PartsLaws.{sound-parts, sound-counts}
use Rattle.cic_held.specs.Order.{none_word, pending_in, busy, first_in, index_of}
use Rattle.cic_held.proofs.SearchLaws.{found_here}
use Rattle.cic_held.specs.declared.Prioritised.{Prioritised}
use Rattle.rooms.proofs.PartLaws.{made_get}
use Rattle.indexed_room.specs.Marks.{Marks}
use Rattle.indexed_room.specs.Room.{Laid}
use Rattle.indexed_room.specs.Search.{Lit, Asked}
use Rattle.indexed_room.proofs.AskLaws.{asked-every, asked-none, asked_host, host-idle, index-none}
use Rattle.indexed_room.proofs.FrameLaws.{words-is, active-is, busy-is, host-count-is, channel-marks, host-marks}
use Rattle.indexed_room.specs.Words.{in_word, words_of}

-- system interrupt 32 * w + i is set and enabled, and its channel is k
abbrev pub lit_in : Cic → ℕ → ℕ → ℕ → Bool
lit_in c k w i = bit (both (get_or c.status w 0) (get_or c.enable w 0)) i && eqb (get_or c.channel (32 * w + i) 0) k

-- that is what it is to be pending in the channel
lit-pending : (c : Cic) (k w i : ℕ) → i < 32 → lit_in c k w i ≡ pending_in c (channel_number k) (system (32 * w + i))
unfolding pending_in
lit-pending c k w i l =
    ap (λ (b : Bool). b && eqb (get_or c.channel (32 * w + i) 0) k)
    (bit-both (get_or c.status w 0) (get_or c.enable w 0) i l
    ∙ ap₂ (λ (a b : Bool). a && b) (sym (bit_at_word c.status w i l)) (sym (bit_at_word c.enable w i l)))
    ∙ regroup (bit_at c.status (32 * w + i)) (bit_at c.enable (32 * w + i)) (eqb (get_or c.channel (32 * w + i) 0) k)
  where
    regroup : (a b d : Bool) → ((a && b) && d) ≡ (a && (b && d))
    regroup true b d = refl
    regroup false b d = refl

-- ---- the first of a channel

-- no word below 32 but those that are left has one of channel k
abbrev pub OnlyLeft : Cic → ℕ → ℕ → Type 0
OnlyLeft c k left = (w : ℕ) → w < 32 → bit left w ≡ false → (i : ℕ) → i < 32 → lit_in c k w i ≡ false

-- a word in which no byte of the map is k has none
pub left-all : (c : Cic) (k : ℕ) → OnlyLeft c k (words_of c.channel k)
unfolding words_of in_word
left-all c k w l e i m =
    let none = any_fails 32 (λ j. eqb (get_or c.channel (32 * w + j) 0) k) (sym (bit-word_of 32 (λ v. any_below 32 (λ j. eqb (get_or c.channel (32 * v + j) 0) k)) w l) ∙ e) i m in
    ap (λ (b : Bool). bit (both (get_or c.status w 0) (get_or c.enable w 0)) i && b) none ∙ and-off (bit (both (get_or c.status w 0) (get_or c.enable w 0)) i)
  where
    and-off : (b : Bool) → (b && false) ≡ false
    and-off true = refl
    and-off false = refl

-- one of them that has none is left out
pub left_less : (c : Cic) (k left w : ℕ) → OnlyLeft c k left → w < 32 → ((i : ℕ) → i < 32 → lit_in c k w i ≡ false) → OnlyLeft c k (with_bit left w false)
left_less c k left w h l none v m e i n = go (told (eqb v w))
  where
    go : (eqb v w ≡ true) ⊎ (eqb v w ≡ false) → lit_in c k v i ≡ false
    go (inl q) = rw (eqb-true v w q) (none i n)
    go (inr q) = h v m (sym (hop-other left w v m (λ z. clash (eq-eqb v w z) q)) ∙ e) i n

-- none before the lowest that is left
pub before-left : (c : Cic) (k left w : ℕ) → OnlyLeft c k left → w < 32 → ((v : ℕ) → v < w → bit left v ≡ false) → (s : ℕ) → s < 32 * w
    → pending_in c (channel_number k) (system s) ≡ false
before-left c k left w h l none s m =
    let e : 32 * (s / 32) + s % 32 ≡ s = omega arith in
    ap (λ (x : ℕ). pending_in c (channel_number k) (system x)) (sym e)
    ∙ sym (lit-pending c k (s / 32) (s % 32) (omega arith))
    ∙ h (s / 32) (omega (arith, l, m)) (none (s / 32) (omega (arith, m))) (s % 32) (omega arith)

-- bit i of word w is the first
pub first_here : (c : Cic) (k left w i : ℕ) → sound c ≡ true → OnlyLeft c k left → w < 32 → ((v : ℕ) → v < w → bit left v ≡ false)
    → i < 32 → lit_in c k w i ≡ true → ((j : ℕ) → j < i → lit_in c k w j ≡ false) → 32 * w + i ≡ first_in c (channel_number k)
unfolding first_in
first_here c k left w i ok h l none m is low = found_here p c.systems (32 * w + i) there before here
  where
    p : ℕ → Bool
    p s = pending_in c (channel_number k) (system s)

    here : p (32 * w + i) ≡ true
    here = sym (lit-pending c k w i m) ∙ is

    there : 32 * w + i < c.systems
    there = go (dec_lt (32 * w + i) c.systems)
      where
        set : bit_at c.status (32 * w + i) ≡ true
        set = unfold pending_in in (and_left (bit_at c.status (32 * w + i)) (bit_at c.enable (32 * w + i) && eqb (get_or c.channel (32 * w + i) 0) k) here)

        go : Dec (32 * w + i < c.systems) → 32 * w + i < c.systems
        go (yes d) = d
        go (no d) = clash set (clean-bit 32 c.systems c.status (sound-parts c ok).status (32 * w + i) (omega (arith, d)) (omega (arith, l, m)))

    before : (s : ℕ) → s < 32 * w + i → p s ≡ false
    before s d = go (dec_lt s (32 * w))
      where
        go : Dec (s < 32 * w) → p s ≡ false
        go (yes b) = before-left c k left w h l none s b
        go (no b) =
            let e : 32 * w + (s - 32 * w) ≡ s = omega (arith, b) in
            ap (λ (x : ℕ). p x) (sym e) ∙ sym (lit-pending c k w (s - 32 * w) (omega (arith, b, d, m))) ∙ low (s - 32 * w) (omega (arith, b, d))

-- where nothing is left the channel is not busy
pub nothing_left : (c : Cic) (k left : ℕ) → sound c ≡ true → OnlyLeft c k left → ((w : ℕ) → bit left w ≡ false) → busy c (channel_number k) ≡ false
unfolding busy
nothing_left c k left ok h z =
    any_none c.systems (λ s. pending_in c (channel_number k) (system s))
    (λ s l. let e : 32 * (s / 32) + s % 32 ≡ s = omega arith in
    ap (λ (x : ℕ). pending_in c (channel_number k) (system x)) (sym e) ∙ sym (lit-pending c k (s / 32) (s % 32) (omega arith))
    ∙ h (s / 32) (omega (arith, l, (sound-counts c ok).systems)) (z (s / 32)) (s % 32) (omega arith))

-- ---- word by word

module _ (c : Cic) (k left w x : ℕ) (h : OnlyLeft c k left) (fits : left < 2 ^ 32) (some : left ≢ 0) (low : w ≡ lowest_below 32 (bit left)) (lit : Lit c k w x) where
  -- the lowest bit of the lowest word that is left, if it has one
  pub first_found : (i : ℕ) → sound c ≡ true → x < 2 ^ 32 → x ≢ 0 → i ≡ lowest_below 32 (bit x) → 32 * w + i ≡ first_in c (channel_number k)
  first_found i ok f n e =
      let m = lowest_in x i f n e in
      first_here c k left w i ok h (lowest_in left w fits some low).0 (lowest-before left w low) m.0 (sym (lit.bits i m.0) ∙ m.1)
      (λ j l. sym (lit.bits j (omega (arith, l, m.0))) ∙ lowest-before x i e j l)

  -- else the word is left out
  pub first_on : (y : ℕ) → x ≡ 0 → y ≡ with_bit left w false → OnlyLeft c k y
  first_on y z e =
      rw e (left_less c k left w h (lowest_in left w fits some low).0 (λ i l. sym (lit.bits i l) ∙ ap (λ (n : ℕ). bit n i) z ∙ bit-none i))

pub first_never : (c : Cic) (k left : ℕ) → sound c ≡ true → OnlyLeft c k left → left ≡ 0 → busy c (channel_number k) ≡ false
first_never c k left ok h z = nothing_left c k left ok h (λ w. ap (λ (n : ℕ). bit n w) z ∙ bit-none w)

-- ---- in a room

module _ {p : Prioritised} {room : List ℕ} (h : Laid p room) where
  pub lit-none : (k w : ℕ) → w < 32 → get_or room (160 + w) 0 ≡ 0 → Lit p.cic k w 0
  lit-none k w l z =
      record { bits = λ i m. bit-none i ∙ sym (ap (λ (x : ℕ). bit x i && eqb (get_or p.cic.channel (32 * w + i) 0) k) (sym (active-is h refl w l) ∙ z) ∙ ap (λ (b : Bool). b && eqb (get_or p.cic.channel (32 * w + i) 0) k) (bit-none i)) }

  pub lit-some : (k w m x : ℕ) → w < 32 → Marks room (256 + 8 * w) k 32 m → x ≡ both (get_or room (160 + w) 0) m → Lit p.cic k w x
  lit-some k w m x l a e =
      record {
        bits = λ i n. ap (λ (y : ℕ). bit y i) e ∙ bit-both (get_or room (160 + w) 0) m i n
            ∙ ap₂ (λ (y z : Bool). y && z) (ap (λ (y : ℕ). bit y i) (active-is h refl w l)) (channel-marks h w k m l a i n);
      }

  pub left-first : (k x : ℕ) → k < 256 → x ≡ get_or room (1280 + k) 0 → OnlyLeft p.cic k x
  left-first k x l e = rw (e ∙ words-is h k l ∙ made_get 256 (words_of p.cic.channel) k l) (left-all p.cic k)

  pub asked-some : (every : Bool) (g : Host) (w x : ℕ) → sound p.cic ≡ true → w < 8 → x ≡ get_or room (32 + w) 0 → (every || eqb x 0) ≡ true → Asked p.cic every g w x
  asked-some true g w x ok l e t = asked-every p.cic g w x ok (e ∙ busy-is h refl w l)
  asked-some false g w x ok l e t = asked-none p.cic false g w x ok (e ∙ busy-is h refl w l) (eqb-true x 0 t)

  pub asked_of : (every : Bool) (g : Host) (w x m y : ℕ) → sound p.cic ≡ true → w < 8 → x ≡ get_or room (32 + w) 0 → (every || eqb x 0) ≡ false
      → Marks room (192 + 8 * w) g.0 32 m → y ≡ both x m → Asked p.cic every g w y
  asked_of true g w x m y ok l e t a f = clash refl t
  asked_of false g w x m y ok l e t a f = rw f (asked_host p.cic g w x m ok (e ∙ busy-is h refl w l) (host-marks h w g.0 m l a))

  pub idle_host : (every : Bool) (g : Host) → sound p.cic ≡ true → g.0 < 256 → (not every && eqb (get_or room (768 + g.0) 0) 0) ≡ true → none_word ≡ index_of p.cic every g
  idle_host true g ok l t = clash t refl
  idle_host false g ok l t = index-none p.cic false g ok (host-idle p.cic g ok (sym (host-count-is h refl g.0 l) ∙ eqb-true _ 0 t))
