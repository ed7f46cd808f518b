-- What a step touches has no line feed in words, and is at most so long: the place 36 bytes, the fields 76, what is beyond its limit 32.
use Prim.Native.Nat.{ℕ, zero, suc, ◌+◌, ◌-◌, ◌*◌, ◌/◌, ◌%◌, ◌^◌, ◌≤◌, ◌<◌}
use mathlib.Core.Path.{◌≡◌, refl, ap}
use mathlib.Core.Bool.{Bool, true, false, ◌&&◌}
use mathlib.Core.List.{List, [], ◌++◌}
use native.Mathlib.Omega.{arith}
use lib.Dec.{ltb}
use lib.ListN.{length, length-append}
use borrow.Author.Tests.{ltb-true}
use Rattle.words.specs.Array.{byte_of}
use Rattle.words.specs.Counting.{one, count_below}
use Rattle.words.specs.Word.{bit, without, kept}
use Rattle.words.proofs.ChoiceLaws.{pick_cases}
use Rattle.words.proofs.CountingLaws.{count_le}
use Rattle.words.proofs.TruthLaws.{and_left, and_right}
use Rattle.text.specs.Phrases.{bytes, counted}
use Rattle.tables.specs.Layout.{Without}
use Rattle.steps.specs.declared.Step.{Step}
use Rattle.steps.specs.declared.Step.TheVariants.{Read, Write, Line}
use Rattle.steps.specs.declared.Recorded.{Recorded}
use Rattle.aic_record.specs.Mode.{priority_of}
use Rattle.kinds.specs.Kinds.{Each, by_kind}
use Rattle.machine.specs.declared.record.Machine.{Machine}
use Rattle.register_names.proofs.TextLaws.{Fits, clear, short, known, empty, wider, joined, either, number, few, behind}
use Rattle.register_names.proofs.FitLaws.{place-fits, aic-fits, core-fits, cic-fits, index-fits, aintc-fits}
use Rattle.register_words.specs.Fields.{told_bit, told_below, more_words, bit_words, share_words, byte_words, map_words, type_words, mode_words, aic_fields, core_fields, cic_singles, cic_fields, indexed_fields, route_words, aintc_singles, aintc_fields}
use Rattle.register_words.specs.Registers.{register_words, below, input_words, line_words, place_at, place_words, written_words, fields_at, field_words, beyond_words, access_words, level_words, limit_at, limit_words}

-- what holds of every kind's holds of any
by-kind : {A : Type 0} (P : A → Type 0) (kind : ℕ) (e : Each A) → P e.aic → P e.core → P e.cic → P e.aintc → P e.indexed → P e.none → P (by_kind kind e)
unfolding by_kind
by-kind P kind e a b c d i n =
    pick_cases P _ (λ t. a) (λ t. pick_cases P _ (λ t. b) (λ t. pick_cases P _ (λ t. c) (λ t. pick_cases P _ (λ t. d) (λ t. pick_cases P _ (λ t. i) (λ t. n)))))

-- ---- the place

register-fits : (m : Machine) (written : Bool) (o : ℕ) → Fits 36 (register_words m written o)
unfolding register_words
register-fits m written o =
    let s = m.cic.systems in
    let c = m.cic.channels in
    let h = m.cic.hosts in
    by-kind (Fits 36) m.kind _ (place-fits _ o (aic-fits written)) (place-fits _ o core-fits) (place-fits _ o (cic-fits written s c h)) (place-fits _ o (aintc-fits written))
    (either 36 _ _ _ (place-fits _ o (index-fits written s c h)) (place-fits _ o (cic-fits written s c h))) (empty 36)

below-fits : (n : ℕ) (what : List ℕ) (k : ℕ) → short 16 what ≡ true → Fits 36 (below n what k)
unfolding below
below-fits n what k h = either 36 _ _ _ (behind 16 20 what k (known 16 what h) (number k)) (empty 36)

line-fits : (m : Machine) (k : ℕ) → Fits 36 (line_words m k)
unfolding line_words input_words bytes short clear
line-fits m k =
    by-kind (Fits 36) m.kind _ (below-fits 32 (bytes " source ") k refl)
    (either 36 _ _ _ (behind 16 20 (bytes " IRQ input ") k (known 16 (bytes " IRQ input ") refl) (number k))
    (either 36 _ _ _ (behind 16 20 (bytes " FIQ input ") (k - 32) (known 16 (bytes " FIQ input ") refl) (number (k - 32))) (empty 36)))
    (below-fits m.cic.systems (bytes " system ") k refl) (below-fits 128 (bytes " input ") k refl) (below-fits m.cic.systems (bytes " system ") k refl) (empty 36)

at-fits : (m : Machine) (x : Step) → Fits 36 (place_at m x)
unfolding place_at
at-fits m (Read o) = register-fits m false o
at-fits m (Write o v) = register-fits m true o
at-fits m (Line k l) = line-fits m k

place_fit : (m : Machine) (x : Recorded) → Fits 36 (place_words m x)
unfolding place_words
place_fit m x = at-fits m x.step

pub place-plain : (m : Machine) (x : Recorded) → Without 10 (place_words m x)
place-plain m x = (place_fit m x).plain

pub place-length : (m : Machine) (x : Recorded) → length (place_words m x) ≤ 36
place-length m x = (place_fit m x).most

-- ---- bits

bit-fits : (base w n : ℕ) → base + n < 10 ^ 4 → Fits 6 (told_bit base w n)
unfolding told_bit bytes short clear
bit-fits base w n h = either 6 _ _ _ (behind 2 4 _ (base + n) (either 2 _ _ _ (known 2 (bytes " ") refl) (known 2 (bytes ", ") refl)) (few 4 (base + n) (omega arith) h)) (empty 6)

told-join : (l t : List ℕ) (c u : ℕ) → Fits 48 l → length l ≤ 6 * c → c < 8 → u ≡ 1 → Fits 6 t → Fits 48 (l ++ t) × (length (l ++ t) ≤ 6 * (c + u))
told-join l t c u f h m e g =
    let n = length-append l t in
    (record { plain = (joined 48 6 l t f g).plain; most = omega (arith, n, h, m, g.most) }, omega (arith, n, h, e, g.most))

told_same : (l : List ℕ) (c u : ℕ) → Fits 48 l → length l ≤ 6 * c → Fits 48 (l ++ []) × (length (l ++ []) ≤ 6 * (c + u))
told_same l c u f h = let n = length-append l [] in
    (record { plain = (joined 48 0 l [] f (empty 0)).plain; most = omega (arith, n, f.most) }, omega (arith, n, h))

told-step : (base w n : ℕ) → Fits 48 (told_below base w n) × (length (told_below base w n) ≤ 6 * count_below n (bit w)) → Fits 6 (told_bit base w n)
    → Fits 48 (told_below base w n ++ told_bit base w n) × (length (told_below base w n ++ told_bit base w n) ≤ 6 * (count_below n (bit w) + one (bit w n)))
unfolding told_bit
told-step base w n i f =
    let l = told_below base w n in
    let c = count_below n (bit w) in
    let u = one (bit w n) in
    pick_cases (λ (t : List ℕ). Fits 6 t → Fits 48 (l ++ t) × (length (l ++ t) ≤ 6 * (c + u))) (bit w n && ltb c 8)
    (λ e g. told-join l _ c u i.0 i.1 (ltb-true c 8 (and_right (bit w n) (ltb c 8) e)) (ap one (and_left (bit w n) (ltb c 8) e)) g)
    (λ e g. told_same l c u i.0 i.1) f

-- six bytes for each that is told, at most eight
told-fits : (base w n : ℕ) → base + n < 10 ^ 4 → Fits 48 (told_below base w n) × (length (told_below base w n) ≤ 6 * count_below n (bit w))
unfolding told_below count_below
told-fits base w zero h = (empty 48, omega arith)
told-fits base w (suc n) h =
    let i = told-fits base w n (omega (arith, h)) in
    told-step base w n i (bit-fits base w n (omega (arith, h)))

more-fits : (n : ℕ) → n ≤ 32 → Fits 12 (more_words n)
unfolding more_words bytes short clear
more-fits n h =
    either 12 _ _ _ (joined 7 5 _ (bytes " more") (behind 5 2 (bytes " and ") (n - 8) (known 5 (bytes " and ") refl) (few 2 (n - 8) (omega arith) (omega (arith, h)))) (known 5 (bytes " more") refl)) (empty 12)

bits_fit : (noun : List ℕ) (base w : ℕ) → short 10 noun ≡ true → base + 32 < 10 ^ 4 → Fits 76 (bit_words noun base w)
unfolding bit_words bytes short clear
bits_fit noun base w s h =
    wider (10 + 60) 76 _ (omega arith)
    (joined 10 60 noun _ (known 10 noun s)
    (either 60 _ _ _ (known 60 (bytes " none") refl) (joined 48 12 _ _ (told-fits base w 32 h).0 (more-fits (count_below 32 (bit w)) (count_le 32 (bit w))))))

share-fits : (noun : List ℕ) (count k v : ℕ) → short 10 noun ≡ true → k < 32 → Fits 76 (share_words noun count k v)
unfolding share_words
share-fits noun count k v s h = bits_fit noun (32 * k) _ s (omega (arith, h))

-- ---- bytes

rest-fits : (v : ℕ) → v % 256 < 10 ^ 3
rest-fits v = omega arith

byte_small : (v j : ℕ) → byte_of v j < 10 ^ 3
unfolding byte_of
byte_small v j = rest-fits _

byte_fits : (count n v j : ℕ) → n < 10 ^ 4 → Fits 13 (byte_words count n (byte_of v j))
unfolding byte_words bytes short clear
byte_fits count n v j h =
    either 13 _ _ _ (joined 6 7 _ _ (behind 2 4 (bytes ", ") n (known 2 (bytes ", ") refl) (few 4 n (omega arith) h))
    (behind 4 3 (bytes " to ") _ (known 4 (bytes " to ") refl) (few 3 _ (omega arith) (byte_small v j)))) (empty 13)

map-fits : (thing target : List ℕ) (count first v : ℕ) → short 10 thing ≡ true → short 12 target ≡ true → first < 2000 → Fits 76 (map_words thing target count first v)
unfolding map_words
map-fits thing target count first v s t h =
    wider (14 + 15 + 13 + 13 + 13) 76 _ (omega arith)
    (joined (14 + 15 + 13 + 13) 13 _ _
    (joined (14 + 15 + 13) 13 _ _
    (joined (14 + 15) 13 _ _
    (joined 14 15 _ _ (behind 10 4 thing first (known 10 thing s) (few 4 first (omega arith) (omega (arith, h)))) (behind 12 3 target _ (known 12 target t) (few 3 _ (omega arith) (byte_small v 0))))
    (byte_fits count (first + 1) v 1 (omega (arith, h)))) (byte_fits count (first + 2) v 2 (omega (arith, h)))) (byte_fits count (first + 3) v 3 (omega (arith, h))))

-- ---- the fields of each kind

one-fits : (what : List ℕ) (n : ℕ) → short 30 what ≡ true → Fits 76 (counted what n)
one-fits what n s = wider 50 76 _ (omega arith) (behind 30 20 what n (known 30 what s) (number n))

pair_fits : (a b : List ℕ) (m n : ℕ) → short 18 a ≡ true → short 18 b ≡ true → Fits 76 (counted a m ++ counted b n)
pair_fits a b m n s t = joined 38 38 _ _ (behind 18 20 a m (known 18 a s) (number m)) (behind 18 20 b n (known 18 b t) (number n))

mode-fits : (external : Bool) (v : ℕ) → Fits 76 (mode_words external v)
unfolding mode_words type_words bytes short clear
mode-fits external v =
    wider (16 + (11 + 20)) 76 _ (omega arith)
    (joined 16 (11 + 20) _ _
    (either 16 _ _ _ (either 16 external _ _ (known 16 (bytes "; low level") refl) (known 16 (bytes "; high level") refl))
    (either 16 _ _ _ (either 16 external _ _ (known 16 (bytes "; falling edge") refl) (known 16 (bytes "; rising edge") refl))
    (either 16 _ _ _ (known 16 (bytes "; high level") refl) (known 16 (bytes "; rising edge") refl))))
    (behind 11 20 (bytes ", priority ") _ (known 11 (bytes ", priority ") refl) (number (priority_of v))))

aic_fit : (external o v : ℕ) → Fits 76 (aic_fields external o v)
unfolding aic_fields bytes short clear
aic_fit external o v =
    either 76 _ _ _ (mode-fits _ v)
    (either 76 _ _ _ (empty 76)
    (either 76 _ _ _ (bits_fit (bytes "; sources") 0 v refl (omega arith))
    (either 76 _ _ _ (pair_fits (bytes "; PROT ") (bytes ", GMSK ") _ _ refl refl)
    (either 76 _ _ _ (empty 76) (either 76 _ _ _ (bits_fit (bytes "; sources") 0 (without v 1) refl (omega arith)) (empty 76))))))

core_fit : (fiqs irqs o v : ℕ) → Fits 76 (core_fields fiqs irqs o v)
unfolding core_fields bytes short clear
core_fit fiqs irqs o v =
    either 76 _ _ _ (bits_fit (bytes "; sources") 0 (kept fiqs v) refl (omega arith))
    (either 76 _ _ _ (empty 76) (either 76 _ _ _ (bits_fit (bytes "; sources") 0 (kept irqs v) refl (omega arith)) (empty 76)))

single-fits : (o v : ℕ) → Fits 76 (cic_singles o v)
unfolding cic_singles bytes short clear
single-fits o v =
    either 76 _ _ _ (one-fits (bytes "; ENABLE ") _ refl)
    (either 76 _ _ _ (empty 76)
    (either 76 _ _ _ (one-fits (bytes "; system ") v refl) (either 76 _ _ _ (empty 76) (either 76 _ _ _ (one-fits (bytes "; host ") v refl) (empty 76)))))

cic_fit : (systems channels hosts o v : ℕ) → Fits 76 (cic_fields systems channels hosts o v)
unfolding cic_fields bytes short clear
cic_fit systems channels hosts o v =
    either 76 _ _ _ (single-fits o v)
    (either 76 _ _ _ (share-fits (bytes "; systems") systems (o / 4 % 32) v refl (omega arith))
    (pick_cases (Fits 76) (ltb o 0x800)
    (λ e. map-fits (bytes "; system ") (bytes " to channel ") systems (o - 0x400) v refl refl (omega (arith, ltb-true o 0x800 e)))
    (λ d. pick_cases (Fits 76) (ltb o 0x900)
    (λ e. map-fits (bytes "; channel ") (bytes " to host ") channels (o - 0x800) v refl refl (omega (arith, ltb-true o 0x900 e)))
    (λ e. either 76 _ _ _ (empty 76) (either 76 _ _ _ (share-fits (bytes "; hosts") hosts (o / 4 % 32) v refl (omega arith)) (empty 76))))))

indexed_fit : (systems channels hosts o v : ℕ) → Fits 76 (indexed_fields systems channels hosts o v)
unfolding indexed_fields bytes short clear
indexed_fit systems channels hosts o v = either 76 _ _ _ (one-fits (bytes "; PRIORITY_HOLD ") _ refl) (cic_fit systems channels hosts o v)

route-fits : (v : ℕ) → Fits 76 (route_words v)
unfolding route_words bytes short clear
route-fits v =
    wider 50 76 _ (omega arith)
    (behind 30 20 _ _ (either 30 _ _ _ (known 30 (bytes "; to FIQ, priority ") refl) (known 30 (bytes "; to IRQ, priority ") refl)) (number (v / 4 % 128)))

aintc-single-fits : (o v : ℕ) → Fits 76 (aintc_singles o v)
unfolding aintc_singles bytes short clear
aintc-single-fits o v =
    either 76 _ _ _ (pair_fits (bytes "; SOFTRESET ") (bytes ", AUTOIDLE ") _ _ refl refl)
    (either 76 _ _ _ (pair_fits (bytes "; NEWIRQAGR ") (bytes ", NEWFIQAGR ") _ _ refl refl)
    (either 76 _ _ _ (one-fits (bytes "; PROTECTION ") _ refl)
    (either 76 _ _ _ (pair_fits (bytes "; TURBO ") (bytes ", FUNCIDLE ") _ _ refl refl)
    (either 76 _ _ _ (one-fits (bytes "; PRIORITYTHRESHOLD ") _ refl) (empty 76)))))

aintc_fit : (o v : ℕ) → Fits 76 (aintc_fields o v)
unfolding aintc_fields bytes short clear
aintc_fit o v =
    either 76 _ _ _ (aintc-single-fits o v)
    (pick_cases (Fits 76) (ltb o 0x100)
    (λ e. bits_fit (bytes "; inputs") (32 * ((o - 0x080) / 0x20)) v refl (omega (arith, ltb-true o 0x100 e)))
    (λ e. either 76 _ _ _ (route-fits v) (empty 76)))

written-fits : (m : Machine) (o v : ℕ) → Fits 76 (written_words m o v)
unfolding written_words
written-fits m o v =
    by-kind (Fits 76) m.kind _ (aic_fit _ o v) (core_fit _ _ o v) (cic_fit _ _ _ o v) (aintc_fit o v) (indexed_fit _ _ _ o v) (empty 76)

step_fits : (m : Machine) (x : Step) → Fits 76 (fields_at m x)
unfolding fields_at
step_fits m (Read o) = empty 76
step_fits m (Write o v) = written-fits m o v
step_fits m (Line k l) = empty 76

field_fit : (m : Machine) (x : Recorded) → Fits 76 (field_words m x)
unfolding field_words
field_fit m x = step_fits m x.step

pub field_plain : (m : Machine) (x : Recorded) → Without 10 (field_words m x)
field_plain m x = (field_fit m x).plain

pub field-length : (m : Machine) (x : Recorded) → length (field_words m x) ≤ 76
field-length m x = (field_fit m x).most

-- ---- what is beyond its limit

access-fits : (kind privilege o : ℕ) → Fits 32 (access_words kind privilege o)
unfolding access_words beyond_words bytes short clear
access-fits kind privilege o =
    let n = known 32 (bytes "a number is beyond its limit") refl in
    either 32 _ _ _ (known 32 (bytes "a privilege is 0 or 1") refl)
    (either 32 _ _ _
    (either 32 _ _ _ n
    (either 32 _ _ _ (known 32 (bytes "no such system") refl)
    (either 32 _ _ _ (known 32 (bytes "no such host") refl)
    (either 32 _ _ _ (known 32 (bytes "a byte names no channel") refl) (either 32 _ _ _ (known 32 (bytes "a byte names no host") refl) n))))) n)

limit_at_lem : (kind privilege : ℕ) (x : Step) → Fits 32 (limit_at kind privilege x)
unfolding limit_at level_words bytes short clear
limit_at_lem kind privilege (Read o) = access-fits kind privilege o
limit_at_lem kind privilege (Write o v) = access-fits kind privilege o
limit_at_lem kind privilege (Line k l) = either 32 _ _ _ (known 32 (bytes "a level is 0 or 1") refl) (known 32 (bytes "no such line") refl)

limit_fit : (m : Machine) (x : Recorded) → Fits 32 (limit_words m x)
unfolding limit_words
limit_fit m x = limit_at_lem m.kind x.privilege x.step

pub limit-plain : (m : Machine) (x : Recorded) → Without 10 (limit_words m x)
limit-plain m x = (limit_fit m x).plain

pub limit-length : (m : Machine) (x : Recorded) → length (limit_words m x) ≤ 32
limit-length m x = (limit_fit m x).most
