-- The parts of a line, in each of the ways that a function writes them.
use Prim.Native.Nat.{ℕ, ◌-◌, ◌<◌, ◌≤◌}
use mathlib.Core.Path.{◌≡◌, refl, sym, ap, ap₂, ◌∙◌}
use mathlib.Core.Bool.{Bool, true, false}
use mathlib.Core.List.{List, [], ◌∷◌, ◌++◌, append-nil, append_assoc}
use borrow.Author.Tests.{eq-eqb, ne_eqb, lt-ltb, le-ltb}
use Rattle.words.specs.Choice.{pick}
use Rattle.words.proofs.ChoiceLaws.{pick_true, pick-false}
use Rattle.text.specs.Text.{decimal, newline, write}
use Rattle.text.specs.Phrases.{bytes, counted}
use Rattle.aic_bounds.specs.declared.Bound.{Bound}
use Rattle.aic_bounds.specs.Bounds.{bound_of}
use Rattle.trace_bounds.specs.Waits.{Wait, waited, only_if}
use Rattle.trace_bounds.specs.Lines.{end_words, term_words, bound_words, wait_line, wait_lines, most_words, last_line}

pub not-ended : (ended : ℕ) → ended ≡ 0 → bytes ", not ended" ≡ end_words ended
unfolding end_words
not-ended ended e = pick_true _ (eq-eqb ended 0 e)

pub ended_by : (ended : ℕ) → (ended ≡ 0 → ⊥) → counted (bytes ", ended by step ") ended ≡ end_words ended
unfolding end_words
ended_by ended n = pick-false _ (ne_eqb ended 0 n)

has_bound : (b : Bound) → b.broke ≡ 0 → bytes ", at most " ++ decimal (bound_of b) ++ term_words b ≡ bound_words b
unfolding bound_words counted
has_bound b e = pick_true _ (eq-eqb b.broke 0 e)

pub bound-made : (o p : List ℕ × ℕ) (b : Bound) {n : ℕ} → n ≡ bound_of b → b.broke ≡ 0 → p ≡ write o (bytes ", at most " ++ decimal n ++ term_words b) → p ≡ write o (bound_words b)
bound-made o p b e z h = h ∙ ap (λ (n : ℕ). write o (bytes ", at most " ++ decimal n ++ term_words b)) e ∙ ap (write o) (has_bound b z)

pub no_bound : (b : Bound) → (b.broke ≡ 0 → ⊥) → counted (bytes ", no bound: a mode or a forcing written by step ") b.broke ≡ bound_words b
unfolding bound_words
no_bound b n = pick-false _ (ne_eqb b.broke 0 n)

pub some-most : (begun unbounded most : ℕ) → unbounded < begun
    → bytes "; handlers started in one with a bound at most " ++ decimal most ≡ most_words begun unbounded most
unfolding most_words counted
some-most begun unbounded most l = pick_true _ (lt-ltb unbounded begun l)

pub no-most : (begun unbounded most : ℕ) → begun ≤ unbounded → [] ≡ most_words begun unbounded most
unfolding most_words
no-most begun unbounded most l = pick-false _ (le-ltb unbounded begun l)

pub wait-made : (o p : List ℕ × ℕ) (began ended : ℕ) (b : Bound) {l : ℕ} → l ≡ b.wait - 2
    → p ≡ write o (counted (bytes "began by step ") began ++ end_words ended ++ counted (bytes "; handlers started ") l ++ bound_words b ++ (newline ∷ []))
    → p ≡ write o (wait_line (waited began ended b))
unfolding wait_line
wait-made o p began ended b e h =
    h ∙ ap (λ (l : ℕ). write o (counted (bytes "began by step ") began ++ end_words ended ++ counted (bytes "; handlers started ") l ++ bound_words b ++ (newline ∷ []))) e

pub last_made : (o p : List ℕ × ℕ) (k begun unbounded : ℕ) {u v m n : ℕ} → u ≡ v → m ≡ n → p ≡ write o (last_line k begun u unbounded m)
    → p ≡ write o (last_line k begun v unbounded n)
last_made o p k begun unbounded e f h = h ∙ ap₂ (λ (u m : ℕ). write o (last_line k begun u unbounded m)) e f

-- ---- lines

pub lines_append : (us ws : List Wait) → wait_lines (us ++ ws) ≡ wait_lines us ++ wait_lines ws
unfolding wait_lines
lines_append [] ws = refl
lines_append (u ∷ us) ws = ap (λ (r : List ℕ). wait_line u ++ r) (lines_append us ws) ∙ sym (append_assoc (wait_line u) (wait_lines us) (wait_lines ws))

pub one_line : (t : Bool) (w : Wait) → t ≡ true → wait_line w ≡ wait_lines (only_if t w)
unfolding only_if wait_lines pick
one_line t w e = rw e (sym (append-nil (wait_line w)))

pub no_line : (t : Bool) (w : Wait) → t ≡ false → [] ≡ wait_lines (only_if t w)
unfolding only_if wait_lines pick
no_line t w e = rw e
