-- What the scan of the words rests on: a host marked, one bit more, one word more, and all of them.
use mathlib.Core.Path.{◌≡◌, refl, sym, ap, ap₂, ◌∙◌}
use mathlib.Core.Bool.{Bool, true, false, ◌&&◌, ◌||◌, or-false, or_assoc, and-false}
use mathlib.Core.Logic.{⊎_elim}
use mathlib.Core.List.{List}
use Prim.Native.Nat.{ℕ, ◌+◌, ◌*◌, ◌/◌, ◌%◌, ◌≤◌, ◌<◌}
use native.Mathlib.Decide.{dec_lt, ℕ_discrete}
use native.Mathlib.Omega.{arith}
use borrow.Author.Tests.{eq-eqb, ne_eqb, lt-ltb, ltb-true}
use lib.Dec.{eqb, ltb}
use lib.ListN.{length, get_or, get_or-eq_default}
use Rattle.words.specs.Array.{bit_at, with_bit_at, rest_at}
use Rattle.words.specs.Choice.{pick}
use Rattle.words.specs.Counting.{any_below, count_below, lowest_below}
use Rattle.words.specs.Word.{bit, both, with_bit, kept}
use Rattle.words.proofs.ArrayLaws.{bit_at-with_bit_at, bit_at_word, rest-ltb}
use Rattle.words.proofs.CountingLaws.{count_same, any-add, any_same, any_some, some_any, any_none, lowest-same}
use Rattle.words.proofs.HopLaws.{hop_here, hop-other}
use Rattle.words.proofs.TruthLaws.{and_left, and_right, and_both, or-either, or_left, or_right, clash, same_test, eqb_iff}
use Rattle.words.proofs.WordLaws.{bit-none, bit-both, bit_kept}
use Rattle.steps.specs.Refusals.{carried_out}
use Rattle.cic_record.specs.declared.Cic.{Cic}
use Rattle.cic_record.specs.declared.Host.{Host}
use Rattle.cic_record.specs.declared.Signals.{Signals}
use Rattle.cic_record.specs.Kinds.{system, host_number, channel_in, host_in}
use Rattle.cic_registers.specs.Hosts.{raises, asserted, shown}
use Rattle.cic_registers.specs.Scan.{goes}

-- ---- one host

set-bit : (e b : Bool) → pick e true b ≡ (b || e)
unfolding pick
set-bit true true = refl
set-bit true false = refl
set-bit false true = refl
set-bit false false = refl

-- a host is marked
pub marked : (ws ws' : List ℕ) (x y h : ℕ) → y / 32 < length ws → y ≡ x → ws' ≡ with_bit_at ws y true → bit_at ws' h ≡ (bit_at ws h || eqb x h)
marked ws ws' x y h l e s =
    ap (λ (v : List ℕ). bit_at v h) s ∙ bit_at-with_bit_at ws y true h l ∙ set-bit (eqb h y) (bit_at ws h)
    ∙ ap (λ (b : Bool). bit_at ws h || b) (eqb_iff h y x h (λ p. sym (p ∙ e)) (λ p. sym (e ∙ p)))

-- ---- one bit more

-- the bits that pass a test are the lowest, if it passes, and those that are left without it
one_hop : (w i : ℕ) (q : ℕ → Bool) → i < 32 → bit w i ≡ true
    → any_below 32 (λ j. bit w j && q j) ≡ (q i || any_below 32 (λ j. bit (with_bit w i false) j && q j))
one_hop w i q m s = same_test (any_below 32 (λ j. bit w j && q j)) (q i || any_below 32 (λ j. bit (with_bit w i false) j && q j)) there back
  where
    there : any_below 32 (λ j. bit w j && q j) ≡ true → (q i || any_below 32 (λ j. bit (with_bit w i false) j && q j)) ≡ true
    there e = let r = any_some 32 (λ j. bit w j && q j) e in go r.0 r.1 r.2 (ℕ_discrete r.0 i)
      where
        go : (k : ℕ) → k < 32 → (bit w k && q k) ≡ true → Dec (k ≡ i) → (q i || any_below 32 (λ j. bit (with_bit w i false) j && q j)) ≡ true
        go k l b (yes d) = or_left (any_below 32 (λ j. bit (with_bit w i false) j && q j)) (ap q (sym d) ∙ and_right (bit w k) (q k) b)
        go k l b (no d) =
            or_right (q i)
            (some_any 32 (λ j. bit (with_bit w i false) j && q j) k l (and_both (hop-other w i k l d ∙ and_left (bit w k) (q k) b) (and_right (bit w k) (q k) b)))

    back : (q i || any_below 32 (λ j. bit (with_bit w i false) j && q j)) ≡ true → any_below 32 (λ j. bit w j && q j) ≡ true
    back e =
        ⊎_elim
        (λ (x : q i ≡ true). some_any 32 (λ j. bit w j && q j) i m (and_both s x))
        (λ (x : any_below 32 (λ j. bit (with_bit w i false) j && q j) ≡ true). let r = any_some 32 (λ j. bit (with_bit w i false) j && q j) x in go r.0 r.1 r.2 (ℕ_discrete r.0 i))
        (or-either (q i) (any_below 32 (λ j. bit (with_bit w i false) j && q j)) e)
      where
        go : (k : ℕ) → k < 32 → (bit (with_bit w i false) k && q k) ≡ true → Dec (k ≡ i) → any_below 32 (λ j. bit w j && q j) ≡ true
        go k l b (yes d) = clash (and_left (bit (with_bit w i false) k) (q k) b) (ap (bit (with_bit w i false)) d ∙ hop_here w i m)
        go k l b (no d) =
            some_any 32 (λ j. bit w j && q j) k l
            (and_both (sym (hop-other w i k l d) ∙ and_left (bit (with_bit w i false) k) (q k) b) (and_right (bit (with_bit w i false) k) (q k) b))

-- the host of the lowest is marked: what is marked and what is left to mark are as they were
pub hopped : (w w' i : ℕ) (q : ℕ → Bool) (b b' all : Bool) → i < 32 → bit w i ≡ true → w' ≡ with_bit w i false → b' ≡ (b || q i)
    → (b || any_below 32 (λ j. bit w j && q j)) ≡ all → (b' || any_below 32 (λ j. bit w' j && q j)) ≡ all
hopped w w' i q b b' all m s e f g =
    ap₂ (λ (x : Bool) (v : ℕ). x || any_below 32 (λ j. bit v j && q j)) f e ∙ or_assoc b (q i) (any_below 32 (λ j. bit (with_bit w i false) j && q j))
    ∙ ap (λ (x : Bool). b || x) (sym (one_hop w i q m s)) ∙ g

-- nothing is left
pub no_hop : (w : ℕ) (q : ℕ → Bool) (b all : Bool) → w ≡ 0 → (b || any_below 32 (λ j. bit w j && q j)) ≡ all → b ≡ all
no_hop w q b all e g =
    sym (ap (λ (x : Bool). b || x) (any_none 32 (λ j. bit w j && q j) (λ k l. ap (λ (v : ℕ). bit v k && q k) e ∙ ap (λ (x : Bool). x && q k) (bit-none k))) ∙ or-false b) ∙ g

-- ---- one word more

-- system interrupt s is configured and raises h
abbrev pub counts : Cic → ℕ → ℕ → Bool
counts c h s = ltb s c.systems && raises c (host_number h) (system s)

regroup : (a b d e : Bool) → (((a && b) && d) && e) ≡ (d && (a && (b && e)))
regroup true true true e = refl
regroup true true false e = refl
regroup true false true e = refl
regroup true false false e = refl
regroup false b true e = refl
regroup false b false e = refl

-- the bits of word k, those beyond the systems dropped, are the system interrupts from 32 * k on
of_word : (c : Cic) (k h i : ℕ) → i < 32
    → goes c.channel c.host (32 * k) (kept (rest_at c.systems k) (both (get_or c.status k 0) (get_or c.enable k 0))) h i ≡ counts c h (32 * k + i)
unfolding raises
of_word c k h i l =
    let to = eqb (host_in c.host (channel_in c.channel (system (32 * k + i)))).0 h in
    ap (λ (b : Bool). b && to)
    (bit_kept (rest_at c.systems k) (both (get_or c.status k 0) (get_or c.enable k 0)) i
    ∙ ap₂ (λ (a b : Bool). a && b)
    (bit-both (get_or c.status k 0) (get_or c.enable k 0) i l ∙ ap₂ (λ (a b : Bool). a && b) (sym (bit_at_word c.status k i l)) (sym (bit_at_word c.enable k i l)))
    (rest-ltb c.systems k i))
    ∙ regroup (bit_at c.status (32 * k + i)) (bit_at c.enable (32 * k + i)) (ltb (32 * k + i) c.systems) to

pub word_more : (c : Cic) (k h base w : ℕ) (o o' : Bool) → base ≡ 32 * k → w ≡ kept (rest_at c.systems k) (both (get_or c.status k 0) (get_or c.enable k 0))
    → o' ≡ (o || any_below 32 (goes c.channel c.host base w h)) → o ≡ any_below (32 * k) (counts c h) → o' ≡ any_below (32 * (k + 1)) (counts c h)
word_more c k h base w o o' b v e f =
    e ∙ ap₂ (λ (x y : ℕ). o || any_below 32 (goes c.channel c.host x y h)) b v
    ∙ ap₂ (λ (x y : Bool). x || y) f
    (any_same 32 (goes c.channel c.host (32 * k) (kept (rest_at c.systems k) (both (get_or c.status k 0) (get_or c.enable k 0))) h) (λ i. counts c h (32 * k + i)) (of_word c k h))
    ∙ sym (any-add (32 * k) 32 (counts c h)) ∙ ap (λ (n : ℕ). any_below n (counts c h)) (omega arith)

-- ---- all words

-- an array of 32 words has no bit from 1,024 on
past_end : (ws : List ℕ) (s : ℕ) → length ws ≡ 32 → 1024 ≤ s → bit_at ws s ≡ false
unfolding bit_at
past_end ws s e l = ap (λ (w : ℕ). bit w (s % 32)) (get_or-eq_default ws 0 (omega arith)) ∙ bit-none (s % 32)

-- those of the 1,024 that are configured are the configured ones
pub all_words : (c : Cic) (h : ℕ) → length c.status ≡ 32 → any_below 1024 (counts c h) ≡ any_below c.systems (λ s. raises c (host_number h) (system s))
unfolding raises
all_words c h len = same_test (any_below 1024 (counts c h)) (any_below c.systems (λ s. raises c (host_number h) (system s))) there back
  where
    there : any_below 1024 (counts c h) ≡ true → any_below c.systems (λ s. raises c (host_number h) (system s)) ≡ true
    there e =
        let r = any_some 1024 (counts c h) e in
        some_any c.systems (λ s. raises c (host_number h) (system s)) r.0 (ltb-true r.0 c.systems (and_left (ltb r.0 c.systems) (raises c (host_number h) (system r.0)) r.2))
        (and_right (ltb r.0 c.systems) (raises c (host_number h) (system r.0)) r.2)

    inside : (s : ℕ) → raises c (host_number h) (system s) ≡ true → Dec (s < 1024) → s < 1024
    inside s e (yes p) = p
    inside s e (no p) =
        clash (and_left (bit_at c.status s) (bit_at c.enable s && eqb (host_in c.host (channel_in c.channel (system s))).0 h) e) (past_end c.status s len (omega arith))

    back : any_below c.systems (λ s. raises c (host_number h) (system s)) ≡ true → any_below 1024 (counts c h) ≡ true
    back e =
        let r = any_some c.systems (λ s. raises c (host_number h) (system s)) e in
        some_any 1024 (counts c h) r.0 (inside r.0 r.2 (dec_lt r.0 1024)) (and_both (lt-ltb r.0 c.systems r.1) r.2)

-- ---- the asserted hosts

pub not_global : (c : Cic) (h : Host) → (c.global ≡ 1 → ⊥) → asserted c h ≡ false
unfolding asserted
not_global c h n = ap (λ (t : Bool). t && (bit_at c.allow h.0 && any_below c.systems (λ s. raises c h (system s)))) (ne_eqb c.global 1 n)

pub with_global : (c : Cic) (h : Host) {r : Bool} → c.global ≡ 1 → r ≡ (bit_at c.allow h.0 && any_below c.systems (λ s. raises c h (system s))) → r ≡ asserted c h
unfolding asserted
with_global c h e f = f ∙ sym (ap (λ (t : Bool). t && (bit_at c.allow h.0 && any_below c.systems (λ s. raises c h (system s)))) (eq-eqb c.global 1 e))

-- a host that is not enabled
pub not-allowed : (c : Cic) (h : Host) → bit_at c.allow h.0 ≡ false → asserted c h ≡ false
unfolding asserted
not-allowed c h e = ap (λ (t : Bool). eqb c.global 1 && (t && any_below c.systems (λ s. raises c h (system s)))) e ∙ and-false (eqb c.global 1)

-- there is no host from 256 on
pub no_host : (c : Cic) (h : Host) → length c.allow ≡ 8 → 256 ≤ h.0 → asserted c h ≡ false
unfolding bit_at
no_host c h e l = not-allowed c h (ap (λ (w : ℕ). bit w (h.0 % 32)) (get_or-eq_default c.allow 0 (omega arith)) ∙ bit-none (h.0 % 32))

-- the count and the lowest of words that hold the asserted hosts
pub shown_words : (c : Cic) (ws : List ℕ) (n low : ℕ) → ((h : ℕ) → h < 256 → bit_at ws h ≡ asserted c (host_number h)) → n ≡ count_below 256 (bit_at ws) → low ≡ lowest_below 256 (bit_at ws)
    → ◌≡◌ {A = Signals} (record { refusal = carried_out; hosts = n; lowest = low }) (shown c)
unfolding shown
shown_words c ws n low h e f =
    ap₂ (λ (a b : ℕ). record { refusal = carried_out; hosts = a; lowest = b })
    (e ∙ count_same 256 (bit_at ws) (λ k. asserted c (host_number k)) h) (f ∙ lowest-same 256 (bit_at ws) (λ k. asserted c (host_number k)) h)
