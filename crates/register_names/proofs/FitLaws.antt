-- Every name with its section has no line feed and at most 36 bytes.
use Prim.Native.Nat.{ℕ, ◌+◌, ◌-◌, ◌*◌, ◌/◌, ◌%◌, ◌^◌, ◌≤◌, ◌<◌}
use mathlib.Core.Path.{◌≡◌, refl}
use mathlib.Core.Bool.{Bool, true, false, ◌&&◌}
use mathlib.Core.List.{List, [], ◌∷◌, ◌++◌}
use native.Mathlib.Omega.{arith}
use lib.Dec.{eqb, ltb, leb}
use lib.ListN.{length}
use borrow.Author.Tests.{leb-false, ltb-true}
use Rattle.words.specs.Choice.{pick}
use Rattle.words.proofs.ChoiceLaws.{pick_cases}
use Rattle.words.proofs.TruthLaws.{and_right}
use Rattle.text.specs.Text.{space}
use Rattle.text.specs.Phrases.{bytes, counted}
use Rattle.register_names.specs.Rows.{Row, alone, group, in_group, in_row, sectioned, named, numbered, row_words, place_in, there_of, at_most}
use Rattle.register_names.specs.Maps.{aic_rows, aic_commands, core_rows, core_irq_rows, cic_rows, cic_groups, index_rows, aintc_rows, aintc_banks}
use Rattle.register_names.proofs.TextLaws.{Fits, clear, short, known, empty, wider, joined, few, behind}

-- name and section together are short enough, and the numbers of a group have at most three digits
abbrev pub RowFits : Row → Type 0
RowFits (alone first name section) = (short 32 name ≡ true) × (short (32 - length name) section ≡ true)
RowFits (group first count step name section) = (count ≤ 256) × (short 14 name ≡ true) × (short 12 section ≡ true)

abbrev pub AllFit : List Row → Type 0
AllFit [] = Unit
AllFit (r ∷ rs) = RowFits r × AllFit rs

section-fits : (n : ℕ) (s : List ℕ) → Fits n s → Fits (2 + n + 1) (sectioned s)
unfolding sectioned bytes short clear
section-fits n s f = joined (2 + n) 1 (bytes " (" ++ s) (bytes ")") (joined 2 n (bytes " (") s (known 2 (bytes " (") refl) f) (known 1 (bytes ")") refl)

below-count : (first count step o : ℕ) → in_group first count step o ≡ true → count ≤ 256 → (o - first) / step < 10 ^ 3
unfolding in_group
below-count first count step o t m =
    omega (arith, m, ltb-true ((o - first) / step) count (and_right (eqb ((o - first) % step) 0) (ltb ((o - first) / step) count) (and_right (leb first o) (eqb ((o - first) % step) 0 && ltb ((o - first) / step) count) t)))

row_fits : (r : Row) (o : ℕ) → RowFits r → in_row r o ≡ true → Fits 36 (row_words r o)
unfolding row_words in_row named numbered short clear
row_fits (alone first name section) o h e =
    let n = length name in
    let k = known 32 name h.0 in
    wider (1 + n + (2 + (32 - n) + 1)) 36 _ (omega (arith, k.most))
    (joined (1 + n) (2 + (32 - n) + 1) ((space ∷ []) ++ name) (sectioned section)
    (joined 1 n (space ∷ []) name (known 1 (space ∷ []) refl) (record { plain = k.plain; most = omega arith })) (section-fits (32 - n) section (known (32 - n) section h.1)))
row_fits (group first count step name section) o h e =
    wider (1 + (14 + 3) + (2 + 12 + 1)) 36 _ (omega arith)
    (joined (1 + (14 + 3)) (2 + 12 + 1) ((space ∷ []) ++ counted name ((o - first) / step)) (sectioned section)
    (joined 1 (14 + 3) (space ∷ []) (counted name ((o - first) / step)) (known 1 (space ∷ []) refl)
    (behind 14 3 name ((o - first) / step) (known 14 name h.1) (few 3 ((o - first) / step) (omega arith) (below-count first count step o e h.0))))
    (section-fits 12 section (known 12 section h.2)))

pub place-fits : (rs : List Row) (o : ℕ) → AllFit rs → Fits 36 (place_in rs o)
unfolding place_in
place-fits [] o h = empty 36
place-fits (r ∷ rs) o h = pick_cases (Fits 36) (in_row r o) (λ e. row_fits r o h.0 e) (λ e. place-fits rs o h.1)

-- ---- how many there are

there_words : (most n : ℕ) → most ≤ 256 → there_of 32 most n ≤ 256
unfolding there_of
there_words most n h = pick_cases (λ (k : ℕ). k ≤ 256) (leb (32 * most) n) (λ e. h) (λ e. omega (arith, leb-false (32 * most) n e))

there_quarters : (most n : ℕ) → most ≤ 256 → there_of 4 most n ≤ 256
unfolding there_of
there_quarters most n h = pick_cases (λ (k : ℕ). k ≤ 256) (leb (4 * most) n) (λ e. h) (λ e. omega (arith, leb-false (4 * most) n e))

at-most-fits : (n : ℕ) → at_most 256 n ≤ 256
unfolding at_most
at-most-fits n = pick_cases (λ (k : ℕ). k ≤ 256) (leb 256 n) (λ e. omega arith) (λ e. omega (arith, leb-false 256 n e))

-- ---- the maps

commands_fit : AllFit aic_commands
unfolding bytes short clear
commands_fit = ((refl, refl), ((refl, refl), ((refl, refl), ((refl, refl), ((refl, refl), ((refl, refl), ((refl, refl), ((refl, refl), ((refl, refl), ((refl, refl), tt))))))))))

pub aic-fits : (written : Bool) → AllFit (aic_rows written)
unfolding bytes short clear pick
aic-fits true = ((omega arith, refl, refl), ((omega arith, refl, refl), ((refl, refl), ((refl, refl), ((refl, refl), ((refl, refl), ((refl, refl), ((refl, refl), commands_fit))))))))
aic-fits false = ((omega arith, refl, refl), ((omega arith, refl, refl), ((refl, refl), ((refl, refl), ((refl, refl), ((refl, refl), ((refl, refl), ((refl, refl), commands_fit))))))))

irq-fits : AllFit core_irq_rows
unfolding bytes short clear
irq-fits = ((refl, refl), ((refl, refl), ((refl, refl), ((refl, refl), ((refl, refl), ((refl, refl), tt))))))

pub core-fits : AllFit core_rows
unfolding bytes short clear
core-fits = ((refl, refl), ((refl, refl), ((refl, refl), ((refl, refl), ((refl, refl), ((refl, refl), irq-fits))))))

groups_fit : (written : Bool) (systems channels hosts : ℕ) → AllFit (cic_groups written systems channels hosts)
unfolding bytes short clear pick
groups_fit true systems channels hosts = ((there_words _ _ (omega arith), refl, refl), ((there_words _ _ (omega arith), refl, refl), ((there_words _ _ (omega arith), refl, refl), ((there_words _ _ (omega arith), refl, refl), ((there_quarters _ _ (omega arith), refl, refl), ((there_quarters _ _ (omega arith), refl, refl), ((there_words _ _ (omega arith), refl, refl), tt)))))))
groups_fit false systems channels hosts = ((there_words _ _ (omega arith), refl, refl), ((there_words _ _ (omega arith), refl, refl), ((there_words _ _ (omega arith), refl, refl), ((there_words _ _ (omega arith), refl, refl), ((there_quarters _ _ (omega arith), refl, refl), ((there_quarters _ _ (omega arith), refl, refl), ((there_words _ _ (omega arith), refl, refl), tt)))))))

pub cic-fits : (written : Bool) (systems channels hosts : ℕ) → AllFit (cic_rows written systems channels hosts)
unfolding bytes short clear pick
cic-fits true systems channels hosts = ((refl, refl), ((refl, refl), ((refl, refl), ((refl, refl), ((refl, refl), ((refl, refl), ((refl, refl), ((refl, refl), groups_fit true systems channels hosts))))))))
cic-fits false systems channels hosts = ((refl, refl), ((refl, refl), ((refl, refl), ((refl, refl), ((refl, refl), ((refl, refl), ((refl, refl), ((refl, refl), groups_fit false systems channels hosts))))))))

pub index-fits : (written : Bool) (systems channels hosts : ℕ) → AllFit (index_rows written systems channels hosts)
unfolding bytes short clear pick
index-fits true systems channels hosts = ((refl, refl), ((refl, refl), ((at-most-fits hosts, refl, refl), cic-fits true systems channels hosts)))
index-fits false systems channels hosts = ((refl, refl), ((refl, refl), ((at-most-fits hosts, refl, refl), cic-fits false systems channels hosts)))

banks_fit : (written : Bool) → AllFit (aintc_banks written)
unfolding bytes short clear pick
banks_fit true = ((omega arith, refl, refl), ((omega arith, refl, refl), ((omega arith, refl, refl), ((omega arith, refl, refl), ((omega arith, refl, refl), ((omega arith, refl, refl), ((omega arith, refl, refl), ((omega arith, refl, refl), ((omega arith, refl, refl), tt)))))))))
banks_fit false = ((omega arith, refl, refl), ((omega arith, refl, refl), ((omega arith, refl, refl), ((omega arith, refl, refl), ((omega arith, refl, refl), ((omega arith, refl, refl), ((omega arith, refl, refl), ((omega arith, refl, refl), ((omega arith, refl, refl), tt)))))))))

pub aintc-fits : (written : Bool) → AllFit (aintc_rows written)
unfolding bytes short clear pick
aintc-fits true = ((refl, refl), ((refl, refl), ((refl, refl), ((refl, refl), ((refl, refl), ((refl, refl), ((refl, refl), ((refl, refl), ((refl, refl), ((refl, refl), ((refl, refl), banks_fit true)))))))))))
aintc-fits false = ((refl, refl), ((refl, refl), ((refl, refl), ((refl, refl), ((refl, refl), ((refl, refl), ((refl, refl), ((refl, refl), ((refl, refl), ((refl, refl), ((refl, refl), banks_fit false)))))))))))
