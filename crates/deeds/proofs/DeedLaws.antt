-- What a step did has no line feed in words, and at most 64 bytes; the outputs that it changed have at most 30.
use Prim.Native.Nat.{ℕ, ◌+◌, ◌-◌, ◌%◌, ◌≤◌}
use mathlib.Core.Path.{◌≡◌, refl}
use mathlib.Core.Bool.{true}
use mathlib.Core.List.{List}
use native.Mathlib.Omega.{arith}
use lib.ListN.{length}
use Rattle.words.specs.Counting.{lowest_below}
use Rattle.words.proofs.ChoiceLaws.{pick_cases}
use Rattle.words.proofs.CountingLaws.{count_le}
use Rattle.words.proofs.Promises.{kept as words}
use Rattle.text.specs.Phrases.{bytes}
use Rattle.tables.specs.Layout.{Without}
use Rattle.steps.specs.declared.Step.{Step}
use Rattle.steps.specs.declared.Recorded.{Recorded}
use Rattle.aic_record.specs.declared.Aic.{Aic}
use Rattle.aic_record.specs.declared.Seen.{Seen}
use Rattle.cic_record.specs.declared.Cic.{Cic}
use Rattle.aintc_record.specs.declared.Chosen.{Chosen}
use Rattle.kinds.specs.Kinds.{Each, by_kind}
use Rattle.machine.specs.declared.record.Machine.{Machine}
use Rattle.register_names.proofs.TextLaws.{Fits, clear, short, known, empty, wider, joined, either, few, behind}
use Rattle.deeds.specs.Deeds.{opened_words, closed_words, entry_words, seen_words, aic_deeds, gains, further_words, host_words, gain_words, cic_deeds, chosen_words, choice_words, aintc_deeds, deeds_at, deed_words, turn_words, side_words, output_words}

by-kind : {A : Type 0} (P : A → Type 0) (kind : ℕ) (e : Each A) → P e.aic → P e.core → P e.cic → P e.aintc → P e.indexed → P e.none → P (by_kind kind e)
unfolding by_kind
by-kind P kind e a b c d i n =
    pick_cases P _ (λ t. a) (λ t. pick_cases P _ (λ t. b) (λ t. pick_cases P _ (λ t. c) (λ t. pick_cases P _ (λ t. d) (λ t. pick_cases P _ (λ t. i) (λ t. n)))))

-- ---- the AIC

opened-fits : (k l : ℕ) → Fits 32 (opened_words (k % 32) (l % 8))
unfolding opened_words bytes short clear
opened-fits k l =
    either 32 _ _ _ (known 32 (bytes "; opens a mark") refl)
    (wider (18 + 11) 32 _ (omega arith)
    (joined 18 11 _ _ (behind 16 2 (bytes "; starts source ") (k % 32) (known 16 (bytes "; starts source ") refl) (few 2 (k % 32) (omega arith) (omega arith)))
    (behind 10 1 (bytes " at level ") (l % 8) (known 10 (bytes " at level ") refl) (few 1 (l % 8) (omega arith) (omega arith)))))

closed-fits : (k : ℕ) → Fits 32 (closed_words (k % 32))
unfolding closed_words bytes short clear
closed-fits k =
    either 32 _ _ _ (known 32 (bytes "; closes a mark") refl)
    (wider 18 32 _ (omega arith) (behind 16 2 (bytes "; closes source ") (k % 32) (known 16 (bytes "; closes source ") refl) (few 2 (k % 32) (omega arith) (omega arith))))

entry-fits : (s : Aic) (x : Step) (t : Aic) → Fits 32 (entry_words s x t)
unfolding entry_words bytes short clear
entry-fits s x t =
    either 32 _ _ _ (opened-fits _ _) (either 32 _ _ _ (closed-fits _) (either 32 _ _ _ (known 32 (bytes "; nothing open") refl) (empty 32)))

seen-fits : (a b : Seen) → Fits 32 (seen_words a b)
unfolding seen_words bytes short clear
seen-fits a b =
    either 32 _ _ _ (empty 32)
    (either 32 _ _ _ (known 32 (bytes "; forgets") refl)
    (either 32 _ _ _
    (wider 21 32 _ (omega arith) (behind 19 2 (bytes "; remembers source ") (b.source % 32) (known 19 (bytes "; remembers source ") refl) (few 2 (b.source % 32) (omega arith) (omega arith))))
    (known 32 (bytes "; remembers no source") refl)))

aic-fits : (s : Aic) (x : Step) (t : Aic) → Fits 64 (aic_deeds s x t)
unfolding aic_deeds
aic-fits s x t = joined 32 32 _ _ (entry-fits s x t) (seen-fits s.seen t.seen)

-- ---- the CIC

further-fits : (count : ℕ) → count ≤ 256 → Fits 13 (further_words count)
unfolding further_words bytes short clear
further-fits count h =
    either 13 _ _ _ (empty 13)
    (joined 8 5 _ (bytes " more") (behind 5 3 (bytes " and ") (count - 1) (known 5 (bytes " and ") refl) (few 3 (count - 1) (omega arith) (omega (arith, h)))) (known 5 (bytes " more") refl))

gains_fit : (n : ℕ) (what : List ℕ) (c d : Cic) → short n what ≡ true → Fits (n + 3 + 13) (gain_words what c d)
unfolding gain_words host_words
gains_fit n what c d s =
    let l = lowest_below 256 (gains c d) in
    either (n + 3 + 13) _ _ _ (empty (n + 3 + 13))
    (joined (n + 3) 13 _ _ (behind n 3 what l (known n what s) (few 3 l (omega arith) (omega (arith, words.lowest_within 256 (gains c d))))) (further-fits _ (count_le 256 (gains c d))))

cic-fits : (c d : Cic) → Fits 64 (cic_deeds c d)
unfolding cic_deeds bytes short clear
cic-fits c d =
    wider (15 + 3 + 13 + (12 + 3 + 13)) 64 _ (omega arith)
    (joined (15 + 3 + 13) (12 + 3 + 13) _ _ (gains_fit 15 (bytes "; asserts host ") c d refl) (gains_fit 12 (bytes "; ends host ") d c refl))

-- ---- the AINTC

choice-fits : (chooses frees : List ℕ) (a b : Chosen) → short 8 chooses ≡ true → short 27 frees ≡ true → Fits 27 (choice_words chooses frees a b)
unfolding choice_words chosen_words bytes short clear
choice-fits chooses frees a b s t =
    either 27 _ _ _
    (either 27 _ _ _ (empty 27)
    (joined 19 8 _ chooses (behind 16 3 (bytes "; chooses input ") (b.number % 128) (known 16 (bytes "; chooses input ") refl) (few 3 (b.number % 128) (omega arith) (omega arith))) (known 8 chooses s)))
    (either 27 _ _ _ (known 27 frees t) (empty 27))

aintc-fits : (i f j g : Chosen) → Fits 64 (aintc_deeds i f j g)
unfolding aintc_deeds bytes short clear
aintc-fits i f j g =
    wider (27 + 27) 64 _ (omega arith)
    (joined 27 27 _ _ (choice-fits (bytes " for IRQ") (bytes "; frees IRQ") i j refl refl) (choice-fits (bytes " for FIQ") (bytes "; frees FIQ") f g refl refl))

-- ---- all

deeds_fit : (m : Machine) (x : Step) (a : Machine) → Fits 64 (deeds_at m x a)
unfolding deeds_at
deeds_fit m x a = by-kind (Fits 64) m.kind _ (aic-fits _ x _) (empty 64) (cic-fits _ _) (aintc-fits _ _ _ _) (cic-fits _ _) (empty 64)

deed_fit : (m : Machine) (x : Recorded) (a : Machine) → Fits 64 (deed_words m x a)
unfolding deed_words
deed_fit m x a = deeds_fit m x.step a

pub deed-plain : (m : Machine) (x : Recorded) (a : Machine) → Without 10 (deed_words m x a)
deed-plain m x a = (deed_fit m x a).plain

pub deed-length : (m : Machine) (x : Recorded) (a : Machine) → length (deed_words m x a) ≤ 64
deed-length m x a = (deed_fit m x a).most

turn-fits : (active inactive : List ℕ) (before after : ℕ) → short 15 active ≡ true → short 15 inactive ≡ true → Fits 15 (turn_words active inactive before after)
unfolding turn_words
turn-fits active inactive before after s t = either 15 _ _ _ (empty 15) (either 15 _ _ _ (known 15 active s) (known 15 inactive t))

side-fits : (m a : Machine) → Fits 30 (side_words m a)
unfolding side_words bytes short clear
side-fits m a =
    joined 15 15 _ _ (turn-fits (bytes "; IRQ active") (bytes "; IRQ inactive") _ _ refl refl) (turn-fits (bytes "; FIQ active") (bytes "; FIQ inactive") _ _ refl refl)

output_fit : (m a : Machine) → Fits 30 (output_words m a)
unfolding output_words
output_fit m a = by-kind (Fits 30) m.kind _ (side-fits m a) (side-fits m a) (empty 30) (side-fits m a) (empty 30) (empty 30)

pub output-plain : (m a : Machine) → Without 10 (output_words m a)
output-plain m a = (output_fit m a).plain

pub output-length : (m a : Machine) → length (output_words m a) ≤ 30
output-length m a = (output_fit m a).most
