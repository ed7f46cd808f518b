-- The texts of bars, one after the other, and the whole drawing from its parts.
use Prim.Native.Nat.{ℕ, zero, suc, ◌+◌, ◌-◌, ◌<◌, ◌≤◌}
use mathlib.Core.Path.{◌≡◌, refl, sym, ap, ◌∙◌}
use mathlib.Core.Bool.{Bool, true, false}
use mathlib.Core.List.{List, [], ◌∷◌, ◌++◌, append-nil, append_assoc}
use native.Mathlib.Omega.{arith}
use native.Mathlib.Numerals.{add-one}
use lib.ListN.{length, get_or}
use borrow.Author.Tests.{lt-ltb, le-ltb}
use Rattle.words.specs.Choice.{pick}
use Rattle.words.proofs.ChoiceLaws.{pick_true, pick-false}
use Rattle.text.specs.Text.{write}
use Rattle.text.proofs.WriteLaws.{and_then, nothing}
use Rattle.text.specs.Phrases.{bytes}
use Rattle.drawing.specs.Bars.{Bar, column_at, entries_at, free, opens, opened, opened_from, stayed, still, bars}
use Rattle.drawing.specs.Shapes.{bar}
use Rattle.drawing.specs.Frame.{head, rows}
use Rattle.drawing.specs.Drawing.{column_texts, bar_text, bar_texts, drawing}

pub bars_append : (a b : List Bar) → bar_texts (a ++ b) ≡ bar_texts a ++ bar_texts b
unfolding bar_texts
bars_append [] b = refl
bars_append (x ∷ a) b = ap (λ (t : List ℕ). bar_text x ++ t) (bars_append a b) ∙ sym (append_assoc (bar_text x) (bar_texts a) (bar_texts b))

bar-one : (b : Bar) → bar_texts (b ∷ []) ≡ bar_text b
unfolding bar_texts
bar-one b = append-nil (bar_text b)

-- ---- opened in the window

if-opened : (t : Bool) (b : Bar) → bar_texts (pick t (b ∷ []) []) ≡ pick t (bar_text b) []
unfolding pick bar_texts
if-opened true b = append-nil (bar_text b)
if-opened false b = refl

pub opening-made : (ws : List ℕ) (k was is to : ℕ) → was ≡ entries_at ws (k - 1) → is ≡ entries_at ws k → was < is → to ≡ free ws (is - 1) (k + 1)
    → bar (is - 1) k to (column_at ws k).source (column_at ws k).level ≡ pick (opens ws k) (bar_text (opened ws k)) []
unfolding opens opened bar_text
opening-made ws k was is to a b h t = rw (t, b) (pick_true [] (lt-ltb (entries_at ws (k - 1)) (entries_at ws k) (omega (arith, a, b))))

pub opening-none : (ws : List ℕ) (k was is : ℕ) → was ≡ entries_at ws (k - 1) → is ≡ entries_at ws k → is ≤ was → [] ≡ pick (opens ws k) (bar_text (opened ws k)) []
unfolding opens
opening-none ws k was is a b h = pick-false (bar_text (opened ws k)) (le-ltb (entries_at ws (k - 1)) (entries_at ws k) (omega (arith, a, b)))

opened-step : (ws : List ℕ) (k m n : ℕ) → n ≡ m + 1 → pick (opens ws k) (bar_text (opened ws k)) [] ++ bar_texts (opened_from m ws (k + 1)) ≡ bar_texts (opened_from n ws k)
unfolding opened_from
opened-step ws k m zero h = absurd (omega arith)
opened-step ws k m (suc n) h =
    let e : m ≡ n = omega arith in
    rw e
    (sym
    (bars_append (pick (opens ws k) (opened ws k ∷ []) []) (opened_from n ws (k + 1))
    ∙ ap (λ (t : List ℕ). t ++ bar_texts (opened_from n ws (k + 1))) (if-opened (opens ws k) (opened ws k))))

pub opened_on : (ws : List ℕ) (k : ℕ) → k < length ws
    → pick (opens ws k) (bar_text (opened ws k)) [] ++ bar_texts (opened_from (length ws - (k + 1)) ws (k + 1)) ≡ bar_texts (opened_from (length ws - k) ws k)
opened_on ws k h = opened-step ws k (length ws - (k + 1)) (length ws - k) (omega arith)

pub opened-over : (ws : List ℕ) (k : ℕ) → length ws ≤ k → [] ≡ bar_texts (opened_from (length ws - k) ws k)
opened-over ws k h = go (length ws - k) (omega arith)
  where
    go : (n : ℕ) → n ≡ 0 → [] ≡ bar_texts (opened_from n ws k)
    go zero e = unfold opened_from in unfold bar_texts in refl
    go (suc n) e = absurd (omega arith)

-- ---- open before it

pub stayed-none : (o : List ℕ × ℕ) (ws source level : List ℕ) → o ≡ write o (bar_texts (stayed 0 ws source level))
unfolding stayed bar_texts
stayed-none o ws source level = nothing o

pub stayed-more : (o p q : List ℕ × ℕ) (ws source level : List ℕ) (n : ℕ) → p ≡ write o (bar_texts (stayed n ws source level))
    → q ≡ write p (bar_text (record { place = n; from = 1; to = free ws n 1; source = get_or source n 0; level = get_or level n 0 }))
    → q ≡ write o (bar_texts (stayed (n + 1) ws source level))
unfolding stayed
stayed-more o p q ws source level n e f =
    let b : Bar = record { place = n; from = 1; to = free ws n 1; source = get_or source n 0; level = get_or level n 0 } in
    and_then o (bar_texts (stayed n ws source level)) (bar_text b) e f
    ∙ ap (write o) (sym (bars_append (stayed n ws source level) (b ∷ []) ∙ ap (λ (t : List ℕ). bar_texts (stayed n ws source level) ++ t) (bar-one b)))
    ∙ ap (λ (n : ℕ). write o (bar_texts (stayed n ws source level))) (sym (add-one n))

-- ---- the whole

pub drawing-made : (first n : ℕ) (ws source level : List ℕ) → n ≡ length ws - 1
    → head first n ++ rows 8 ++ column_texts (length ws - 1) first ws 1 ++ bar_texts (stayed (still ws) ws source level) ++ bar_texts (opened_from (length ws - 1) ws 1) ++ bytes "</svg>\n"
    ≡ drawing first ws source level
unfolding drawing bars
drawing-made first n ws source level e = rw (e, bars_append (stayed (still ws) ws source level) (opened_from (length ws - 1) ws 1)) (simp append_assoc)
