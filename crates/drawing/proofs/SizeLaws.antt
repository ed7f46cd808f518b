-- How long a drawing is at most.
use Prim.Native.Nat.{ℕ, zero, suc, ◌+◌, ◌-◌, ◌*◌, ◌/◌, ◌%◌, ◌≤◌}
use mathlib.Core.Path.{refl}
use mathlib.Core.Bool.{Bool, true, false}
use mathlib.Core.List.{List, [], ◌∷◌}
use native.Mathlib.Nat.{min-le_left}
use native.Mathlib.Omega.{arith}
use lib.ListN.{length, length-append, get_or}
use Rattle.words.specs.Choice.{pick}
use Rattle.text.specs.Phrases.{bytes}
use Rattle.drawing.proofs.ShapeSizeLaws.{length-active, length-refused, length-numbered, length-bar}
use Rattle.drawing.proofs.FrameSizeLaws.{length-head, length-rows}
use Rattle.drawing.specs.Bars.{Bar, column, entries_at, free, opens, opened, opened_from, stayed, still, bars}
use Rattle.drawing.specs.Drawing.{column_text, column_texts, bar_text, bar_texts, drawing}
use Rattle.drawing.proofs.BarLaws.{bars_append}
use Rattle.drawing.proofs.FreeLaws.{free-within}

length-column : (first k w : ℕ) → first ≤ 65536 → k ≤ 500 → length (column_text first k (column w)) ≤ 279
unfolding column_text
length-column first k w f h =
    simp length-append
    (omega (
      arith,
      length-active 26 k (w % 2) (omega arith) h,
      length-active 46 k (w / 2 % 2) (omega arith) h,
      length-refused k (w / 524288 % 4294967296) h (omega arith),
      length-numbered k (first + k - 1) h (omega arith),
    ))

length_columns : (n first : ℕ) (ws : List ℕ) (k : ℕ) → first ≤ 65536 → n + k ≤ 501 → length (column_texts n first ws k) ≤ 279 * n
unfolding column_texts
length_columns zero first ws k f h = omega arith
length_columns (suc n) first ws k f h =
    simp length-append (omega (arith, length-column first k (get_or ws k 0) f (omega arith), length_columns n first ws (k + 1) f (omega arith)))

-- ---- bars

length_text : (b : Bar) → b.from ≤ 501 → b.to ≤ 501 → b.source ≤ 255 → b.level ≤ 255 → length (bar_text b) ≤ 152
unfolding bar_text
length_text b f t s l = length-bar b.place b.from b.to b.source b.level f t s l

length-stayed : (n : ℕ) (ws source level : List ℕ) → length ws ≤ 501 → ((k : ℕ) → get_or source k 0 ≤ 255) → ((k : ℕ) → get_or level k 0 ≤ 255)
    → length (bar_texts (stayed n ws source level)) ≤ 152 * n
unfolding stayed bar_texts
length-stayed zero ws source level h s l = omega arith
length-stayed (suc n) ws source level h s l =
    let b : Bar = record { place = n; from = 1; to = free ws n 1; source = get_or source n 0; level = get_or level n 0 } in
    let t : free ws n 1 ≤ 501 = omega (arith, (free-within ws n 1 (free ws n 1) refl).1) in
    rw (bars_append (stayed n ws source level) (b ∷ []))
    (simp length-append (omega (arith, length-stayed n ws source level h s l, length_text b (omega arith) t (s n) (l n))))

length_if : (t : Bool) (b : Bar) → length (bar_text b) ≤ 152 → length (bar_texts (pick t (b ∷ []) [])) ≤ 152
unfolding pick bar_texts
length_if true b h = simp length-append (omega arith)
length_if false b h = omega arith

length-opened : (n : ℕ) (ws : List ℕ) (k : ℕ) → length ws ≤ 501 → n + k ≤ 501 → length (bar_texts (opened_from n ws k)) ≤ 152 * n
unfolding opened_from bar_texts
length-opened zero ws k h e = omega arith
length-opened (suc n) ws k h e =
    rw (bars_append (pick (opens ws k) (opened ws k ∷ []) []) (opened_from n ws (k + 1)))
    (simp length-append (omega (arith, length_if (opens ws k) (opened ws k) one, length-opened n ws (k + 1) h (omega arith))))
  where
    one : length (bar_text (opened ws k)) ≤ 152
    one =
        unfold opened in
        length_text (opened ws k) (omega arith)
        (omega (arith, (free-within ws (entries_at ws k - 1) (k + 1) (free ws (entries_at ws k - 1) (k + 1)) refl).1))
        (omega arith)
        (omega arith)

-- ---- the whole

few_stay : (ws : List ℕ) → still ws ≤ 15
few_stay ws = omega (arith, min-le_left (entries_at ws 0) (entries_at ws 1))

pub length-drawing : (first : ℕ) (ws source level : List ℕ) → first ≤ 65536 → length ws ≤ 501 → ((k : ℕ) → get_or source k 0 ≤ 255) → ((k : ℕ) → get_or level k 0 ≤ 255)
    → length (drawing first ws source level) ≤ 219082
unfolding drawing bars bytes
length-drawing first ws source level f h s l =
    rw (bars_append (stayed (still ws) ws source level) (opened_from (length ws - 1) ws 1))
    (simp length-append
    (omega (
      arith,
      length-head first (length ws - 1) f (omega arith),
      length-rows 8 (omega arith),
      length_columns (length ws - 1) first ws 1 f (omega arith),
      length-stayed (still ws) ws source level h s l,
      few_stay ws,
      length-opened (length ws - 1) ws 1 h (omega arith),
    )))
