-- What an index rests on: one channel, and all of them.
use mathlib.Core.Path.{◌≡◌, refl, sym, ap, ap₂, ◌∙◌}
use mathlib.Core.Bool.{Bool, true, false, ◌&&◌}
use mathlib.Core.Logic.{◌⊎◌, inl, inr}
use Prim.Native.Nat.{ℕ, zero, suc, ◌+◌, ◌*◌, ◌≤◌, ◌<◌}
use native.Mathlib.Numerals.{add-one}
use native.Mathlib.Omega.{arith}
use borrow.Author.Tests.{lt-ltb, le-ltb}
use Rattle.words.specs.Choice.{pick}
use Rattle.words.specs.Counting.{lowest_below, sum_below}
use Rattle.words.proofs.ChoiceLaws.{pick_true, pick-false, pick_cases, pick-ap}
use Rattle.words.proofs.CountingLaws.{any_none, some_any, Lowest, lowest_found}
use Rattle.words.proofs.TruthLaws.{and_both, told}
use Rattle.cic_record.specs.declared.Channel.{Channel}
use Rattle.cic_record.specs.declared.Cic.{Cic}
use Rattle.cic_record.specs.Kinds.{system, channel_number}
use Rattle.cic_held.specs.declared.indices.Found.{Found}
use Rattle.cic_held.specs.Looked.{words_of, word_has, looked_in, found_in, searched, looked_over, found_over}
use Rattle.cic_held.specs.Order.{none_word, pending_in, busy, first_in, channel_first, index_over}
use Rattle.cic_held.specs.Search.{first_of, has_of, looked_of, found_of, turn_of}
use Rattle.cic_held.proofs.SearchLaws.{found_here, found_nowhere}

-- ---- one channel

pub lowest_in : (c : Cic) (k : Channel) → Lowest (λ s. pending_in c k (system s)) c.systems (first_in c k)
unfolding first_in
lowest_in c k = lowest_found c.systems (λ s. pending_in c k (system s))

-- a channel has one exactly if its first one is a configured system interrupt
pub first-busy : (c : Cic) (k : Channel) → first_in c k < c.systems → busy c k ≡ true
unfolding busy
first-busy c k l = some_any c.systems (λ s. pending_in c k (system s)) (first_in c k) l ((lowest_in c k).found l)

pub first-idle : (c : Cic) (k : Channel) → c.systems ≤ first_in c k → busy c k ≡ false
unfolding busy
first-idle c k l = any_none c.systems (λ s. pending_in c k (system s)) (λ s m. (lowest_in c k).before s (omega arith))

-- channel k passes the test and has one
abbrev pub passes : Cic → (Channel → Bool) → ℕ → Bool
passes c t k = t (channel_number k) && busy c (channel_number k)

-- the first one of a channel, on the parts of the record
pub first-parts : (c : Cic) (k : Channel) → first_in c k ≡ first_of c.systems c.status c.enable c.channel k
unfolding first_of first_in pending_in
first-parts c k = refl

-- ---- all channels

-- it is found in channel k
pub found_channel : (c : Cic) (t : Channel → Bool) (k s : ℕ) → k < c.channels → ((i : ℕ) → i < k → passes c t i ≡ false)
    → passes c t k ≡ true → s ≡ first_of c.systems c.status c.enable c.channel (channel_number k) → s ≡ index_over c t
unfolding index_over channel_first first_of first_in pending_in
found_channel c t k s l n p e =
    let first : k ≡ lowest_below c.channels (passes c t) = found_here (passes c t) c.channels k l n p in
    e ∙ ap (λ (x : ℕ). first_in c (channel_number x)) first
    ∙ pick_true none_word (lt-ltb (lowest_below c.channels (passes c t)) c.channels (omega (arith, first, l)))

-- it is found in none
pub found_no_channel : (c : Cic) (t : Channel → Bool) → ((i : ℕ) → i < c.channels → passes c t i ≡ false) → none_word ≡ index_over c t
unfolding index_over channel_first
found_no_channel c t n =
    let none : c.channels ≡ lowest_below c.channels (passes c t) = found_nowhere (passes c t) c.channels n in
    pick-false (first_in c (channel_number (lowest_below c.channels (passes c t)))) (le-ltb (lowest_below c.channels (passes c t)) c.channels (omega (arith, none)))

-- ---- channel by channel, with the words looked at

-- a search on the parts of a record answers what it answers for the record
pub parts_found : (c : Cic) (k : Channel) → found_of c.systems c.status c.enable c.channel k ≡ found_in c k
unfolding found_of found_in first_of first_in looked_of looked_in has_of word_has pending_in
parts_found c k = refl

-- channel k's turn
abbrev pub turn_in : Cic → (Channel → Bool) → ℕ → Found
turn_in c t k = turn_of (t (channel_number k)) c.systems (found_in c (channel_number k))

-- the same as the code tells it
pub turn_as : (c : Cic) (t : Channel → Bool) (k : ℕ) {asked : Bool} {f : Found} → asked ≡ t (channel_number k)
    → f ≡ turn_of asked c.systems (found_of c.systems c.status c.enable c.channel (channel_number k)) → f ≡ turn_in c t k
turn_as c t k e g = g ∙ ap₂ (λ (b : Bool) (f : Found). turn_of b c.systems f) e (parts_found c (channel_number k))

-- a search looks at no more words than there are
pub looked-most : (c : Cic) (k : Channel) → looked_in c k ≤ words_of c
unfolding looked_in
looked-most c k = omega arith

-- a channel that passes is searched, any other is not
turn-yes : (c : Cic) (t : Channel → Bool) (k : ℕ) → t (channel_number k) ≡ true → (turn_in c t k).index ≡ first_in c (channel_number k)
unfolding turn_of found_in
turn-yes c t k p = ap (λ (x : Found). x.index) (sym (pick_true _ p))

turn_no : (c : Cic) (t : Channel → Bool) (k : ℕ) → t (channel_number k) ≡ false → (turn_in c t k).index ≡ c.systems
unfolding turn_of found_in
turn_no c t k p = ap (λ (x : Found). x.index) (sym (pick-false _ p))

-- a turn finds a configured system interrupt: the channel passes the test and has one
pub turn_found : (c : Cic) (t : Channel → Bool) (k : ℕ) {f : Found} → f ≡ turn_in c t k → f.index < c.systems
    → (passes c t k ≡ true) × (f.index ≡ first_in c (channel_number k))
turn_found c t k {f} e l = go (told (t (channel_number k)))
  where
    go : (t (channel_number k) ≡ true) ⊎ (t (channel_number k) ≡ false) → (passes c t k ≡ true) × (f.index ≡ first_in c (channel_number k))
    go (inl p) =
        let q : f.index ≡ first_in c (channel_number k) = ap (λ (x : Found). x.index) e ∙ turn-yes c t k p in
        (and_both p (first-busy c (channel_number k) (omega (arith, q, l))), q)
    go (inr p) = let q : f.index ≡ c.systems = ap (λ (x : Found). x.index) e ∙ turn_no c t k p in absurd (omega (arith, q, l))

-- or it finds none: the channel does not pass, or has none
pub turn-none : (c : Cic) (t : Channel → Bool) (k : ℕ) {f : Found} → f ≡ turn_in c t k → c.systems ≤ f.index → passes c t k ≡ false
turn-none c t k {f} e l = go (told (t (channel_number k)))
  where
    go : (t (channel_number k) ≡ true) ⊎ (t (channel_number k) ≡ false) → passes c t k ≡ false
    go (inl p) =
        let q : f.index ≡ first_in c (channel_number k) = ap (λ (x : Found). x.index) e ∙ turn-yes c t k p in
        ap₂ (λ (a b : Bool). a && b) p (first-idle c (channel_number k) (omega (arith, q, l)))
    go (inr p) = ap (λ (a : Bool). a && busy c (channel_number k)) p

-- the words that channel k's turn looks at
abbrev pub words_in : Cic → (Channel → Bool) → ℕ → ℕ
words_in c t k = pick (t (channel_number k)) (looked_in c (channel_number k)) 0

pub turn_words : (c : Cic) (t : Channel → Bool) (k : ℕ) {f : Found} → f ≡ turn_in c t k → f.words ≡ words_in c t k
unfolding turn_of found_in
turn_words c t k e = ap (λ (x : Found). x.words) e ∙ pick-ap (λ (x : Found). x.words) (t (channel_number k)) _ _

pub words-most : (c : Cic) (t : Channel → Bool) (k : ℕ) → words_in c t k ≤ words_of c
words-most c t k = pick_cases (λ (n : ℕ). n ≤ words_of c) (t (channel_number k)) (λ _. looked-most c (channel_number k)) (λ _. omega arith)

pub sum-none_yet : (f : ℕ → ℕ) → ◌≡◌ {A = ℕ} 0 (sum_below 0 f)
unfolding sum_below
sum-none_yet f = refl

pub sum_more : (f : ℕ → ℕ) (n : ℕ) {x y : ℕ} → x ≡ sum_below n f → y ≡ f n → x + y ≡ sum_below (n + 1) f
unfolding sum_below
sum_more f n e g = ap₂ (λ (a b : ℕ). a + b) e g ∙ sym (ap (λ (k : ℕ). sum_below k f) (add-one n))

-- at most 32 words a channel
pub sum_few : (f : ℕ → ℕ) (n : ℕ) → ((k : ℕ) → f k ≤ 32) → sum_below n f ≤ 32 * n
unfolding sum_below
sum_few f zero h = omega arith
sum_few f (suc n) h = omega (arith, sum_few f n h, h n)

-- the words so far, before and after one turn more
pub turn_adds : (c : Cic) (t : Channel → Bool) (k words : ℕ) {f : Found} → c.systems ≤ 1024 → words ≡ sum_below k (words_in c t) → f ≡ turn_in c t k
    → words + f.words ≤ 32 * k + 32
turn_adds c t k words l e g =
    omega (arith, turn_words c t k g, words-most c t k, sum_few (words_in c t) k (λ i. omega (arith, words-most c t i, l)), e, l)

-- it is found in channel k
pub found_turn : (c : Cic) (t : Channel → Bool) (k : ℕ) {index words : ℕ} → k < c.channels → ((i : ℕ) → i < k → passes c t i ≡ false) → passes c t k ≡ true
    → index ≡ first_in c (channel_number k) → words ≡ sum_below (k + 1) (words_in c t) → ◌≡◌ {A = Found} (record { index = index; words = words }) (found_over c t)
unfolding found_over looked_over searched channel_first
found_turn c t k l n p e w =
    let first : k ≡ lowest_below c.channels (passes c t) = found_here (passes c t) c.channels k l n p in
    ap₂ (λ (a b : ℕ). record { index = a; words = b }) (found_channel c t k _ l n p (e ∙ first-parts c (channel_number k)))
    (w ∙ ap (λ (x : ℕ). sum_below x (words_in c t)) (omega (arith, first, l)))

-- it is found in none
pub found_no-turn : (c : Cic) (t : Channel → Bool) {words : ℕ} → ((i : ℕ) → i < c.channels → passes c t i ≡ false)
    → words ≡ sum_below c.channels (words_in c t) → ◌≡◌ {A = Found} (record { index = none_word; words = words }) (found_over c t)
unfolding found_over looked_over searched channel_first
found_no-turn c t n w =
    let none : c.channels ≡ lowest_below c.channels (passes c t) = found_nowhere (passes c t) c.channels n in
    ap₂ (λ (a b : ℕ). record { index = a; words = b }) (found_no_channel c t n) (w ∙ ap (λ (x : ℕ). sum_below x (words_in c t)) (omega (arith, none)))
