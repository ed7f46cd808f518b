-- The promises of the drawing, kept.
use Prim.Native.Nat.{ℕ, zero, suc, ◌+◌, ◌-◌, ◌*◌, ◌%◌, ◌<◌, ◌≤◌, min}
use mathlib.Core.Path.{◌≡◌, refl, sym}
use mathlib.Core.Bool.{Bool, true, false}
use mathlib.Core.List.{List, [], ◌∷◌, ◌++◌}
use mathlib.Core.Logic.{◌↔◌, ◌≢◌}
use native.Mathlib.Nat.{min-le_left}
use native.Mathlib.Omega.{arith}
use lib.ListN.{length, length-append, get_or}
use borrow.Author.Tests.{ltb-true, lt-ltb, le-ltb, eq-eqb, ne_eqb}
use Rattle.words.specs.Choice.{pick}
use Rattle.words.specs.Counting.{one}
use Rattle.words.proofs.ChoiceLaws.{pick_true, pick-false}
use Rattle.text.specs.Text.{decimal_of}
use Rattle.text.specs.Phrases.{bytes, counted}
use Rattle.drawing.specs.Bars.{Column, Bar, packed, column, column_at, entries_at, free_from, free, opens, opened, opened_from, stayed, still, bars}
use Rattle.drawing.specs.Shapes.{box, label, centred, active, refused, numbered, mark, handler, bar}
use Rattle.drawing.specs.Frame.{wide, title, axes, signs, head, rows}
use Rattle.drawing.specs.Drawing.{column_text, column_texts, bar_text, bar_texts, drawing}
use Rattle.drawing.specs.Promises.{Promises, Small, openings, Below, window, drawn}
use Rattle.drawing.proofs.FreeLaws.{free_here, stays, stays-opened}
use Rattle.drawing.proofs.SizeLaws.{length-drawing}

-- ---- columns

same-column : (i f e s l r i₂ f₂ e₂ s₂ l₂ r₂ : ℕ) → i ≡ i₂ → f ≡ f₂ → e ≡ e₂ → s ≡ s₂ → l ≡ l₂ → r ≡ r₂
    → ◌≡◌ {A = Column} (record { irq = i; fiq = f; entries = e; source = s; level = l; refusal = r }) (record { irq = i₂; fiq = f₂; entries = e₂; source = s₂; level = l₂; refusal = r₂ })
same-column i f e s l r i₂ f₂ e₂ s₂ l₂ r₂ a b c d g h = rw (a, b, c, d, g, h)

back : (c : Column) → Small c → column (packed c) ≡ c
back c s =
    same-column _ _ _ _ _ _ c.irq c.fiq c.entries c.source c.level c.refusal (omega (arith, s.irq)) (omega (arith, s.irq, s.fiq)) (omega (arith, s.irq, s.fiq, s.entries))
    (omega (arith, s.irq, s.fiq, s.entries, s.source))
    (omega (arith, s.irq, s.fiq, s.entries, s.source, s.level))
    (omega (arith, s.irq, s.fiq, s.entries, s.source, s.level, s.refusal))

-- ---- how many bars

many-stayed : (n : ℕ) (ws source level : List ℕ) → length (stayed n ws source level) ≡ n
unfolding stayed
many-stayed zero ws source level = refl
many-stayed (suc n) ws source level = simp length-append (omega (arith, many-stayed n ws source level))

many_if : (t : Bool) (b : Bar) → length (pick t (b ∷ []) []) ≡ one t
unfolding pick
many_if true b = refl
many_if false b = refl

many-opened : (n : ℕ) (ws : List ℕ) (k : ℕ) → length (opened_from n ws k) ≡ openings n ws k
unfolding opened_from openings
many-opened zero ws k = refl
many-opened (suc n) ws k = simp length-append (omega (arith, many_if (opens ws k) (opened ws k), many-opened n ws (k + 1)))

as_many : (ws source level : List ℕ) → length (bars ws source level) ≡ min (entries_at ws 0) (entries_at ws 1) + openings (length ws - 1) ws 1
unfolding bars
as_many ws source level = simp length-append (omega (arith, many-stayed (still ws) ws source level, many-opened (length ws - 1) ws 1))

openings-none : (ws : List ℕ) (k : ℕ) → openings 0 ws k ≡ 0
unfolding openings
openings-none ws k = refl

openings-more : (n : ℕ) (ws : List ℕ) (k : ℕ) → openings (suc n) ws k ≡ one (opens ws k) + openings n ws (k + 1)
unfolding openings
openings-more n ws k = refl

-- ---- which bars

opening : (ws : List ℕ) (k : ℕ) → (opens ws k ≡ true) ↔ (entries_at ws (k - 1) < entries_at ws k)
unfolding opens
opening ws k = (ltb-true (entries_at ws (k - 1)) (entries_at ws k), lt-ltb (entries_at ws (k - 1)) (entries_at ws k))

opened_at : (ws : List ℕ) (k : ℕ)
    → ((opened ws k).place ≡ entries_at ws k - 1) × ((opened ws k).from ≡ k) × ((opened ws k).source ≡ (column_at ws k).source) × ((opened ws k).level ≡ (column_at ws k).level)
unfolding opened
opened_at ws k = (refl, refl, refl, refl)

stayed-none : (ws source level : List ℕ) → stayed 0 ws source level ≡ []
unfolding stayed
stayed-none ws source level = refl

stayed-more : (n : ℕ) (ws source level : List ℕ)
    → stayed (suc n) ws source level
    ≡ stayed n ws source level ++ (record { place = n; from = 1; to = free ws n 1; source = get_or source n 0; level = get_or level n 0 } ∷ [])
unfolding stayed
stayed-more n ws source level = refl

opened-none : (n : ℕ) (ws : List ℕ) (k : ℕ) → opens ws k ≡ false → opened_from (suc n) ws k ≡ opened_from n ws (k + 1)
unfolding opened_from pick
opened-none n ws k e = rw e

opened-more : (n : ℕ) (ws : List ℕ) (k : ℕ) → opens ws k ≡ true → opened_from (suc n) ws k ≡ opened ws k ∷ opened_from n ws (k + 1)
unfolding opened_from pick
opened-more n ws k e = rw e

all : (ws source level : List ℕ) → bars ws source level ≡ stayed (min (entries_at ws 0) (entries_at ws 1)) ws source level ++ opened_from (length ws - 1) ws 1
unfolding bars
all ws source level = refl

-- ---- eight rows

below_append : (n : ℕ) (a b : List Bar) → Below n a → Below n b → Below n (a ++ b)
below_append n [] b p q = q
below_append n (x ∷ a) b p q = (p.0, below_append n a b p.1 q)

below-stayed : (n : ℕ) (ws source level : List ℕ) → n ≤ 8 → Below 8 (stayed n ws source level)
unfolding stayed
below-stayed zero ws source level h = tt
below-stayed (suc n) ws source level h =
    below_append 8 (stayed n ws source level) (record { place = n; from = 1; to = free ws n 1; source = get_or source n 0; level = get_or level n 0 } ∷ [])
    (below-stayed n ws source level (omega arith))
    (omega arith, tt)

below_if : (t : Bool) (b : Bar) → b.place < 8 → Below 8 (pick t (b ∷ []) [])
unfolding pick
below_if true b h = (h, tt)
below_if false b h = tt

below-opened : (n : ℕ) (ws : List ℕ) (k : ℕ) → ((k : ℕ) → entries_at ws k ≤ 8) → Below 8 (opened_from n ws k)
unfolding opened_from opened
below-opened zero ws k h = tt
below-opened (suc n) ws k h =
    below_append 8 (pick (opens ws k) (opened ws k ∷ []) []) (opened_from n ws (k + 1)) (below_if (opens ws k) (opened ws k) (omega (arith, h k))) (below-opened n ws (k + 1) h)

eighth : (ws source level : List ℕ) → ((k : ℕ) → entries_at ws k ≤ 8) → Below 8 (bars ws source level)
unfolding bars
eighth ws source level h =
    below_append 8 (stayed (still ws) ws source level) (opened_from (length ws - 1) ws 1)
    (below-stayed (still ws) ws source level (omega (arith, h 0, min-le_left (entries_at ws 0) (entries_at ws 1))))
    (below-opened (length ws - 1) ws 1 h)

-- ---- a whole drawing

worked : drawing 4 window (3 ∷ []) (2 ∷ []) ≡ drawn
unfolding drawing head title axes signs wide rows column_texts column_text active refused numbered box label centred bar_texts bar_text bar mark handler bars stayed opened_from opened opens free free_from counted bytes decimal_of pick
worked = refl

-- ---- its parts

whole : (first : ℕ) (ws source level : List ℕ)
    → drawing first ws source level
    ≡ head first (length ws - 1) ++ rows 8 ++ column_texts (length ws - 1) first ws 1 ++ bar_texts (bars ws source level) ++ bytes "</svg>\n"
unfolding drawing
whole first ws source level = refl

framed : (first n : ℕ) → head first n ≡ title first n ++ axes n ++ signs
unfolding head
framed first n = refl

columns-none : (first : ℕ) (ws : List ℕ) (k : ℕ) → column_texts 0 first ws k ≡ []
unfolding column_texts
columns-none first ws k = refl

columns-more : (n first : ℕ) (ws : List ℕ) (k : ℕ) → column_texts (suc n) first ws k ≡ column_text first k (column_at ws k) ++ column_texts n first ws (k + 1)
unfolding column_texts
columns-more n first ws k = refl

column-shows : (first k : ℕ) (c : Column)
    → column_text first k c ≡ active 26 k c.irq ++ active 46 k c.fiq ++ refused k c.refusal ++ numbered k (first + k - 1)
unfolding column_text
column-shows first k c = refl

dark : (y k on : ℕ) → on ≢ 0 → active y k on ≡ box (40 + 24 * k) y 24 14 (bytes "fill=\"#333\"")
unfolding active
dark y k on d = sym (pick-false _ (ne_eqb on 0 d))

light : (y k : ℕ) → active y k 0 ≡ []
unfolding active pick
light y k = refl

refused-by : (k n : ℕ) → n ≢ 0
    → refused k n ≡ counted (bytes "<path d=\"M") (52 + 24 * k) ++ bytes " 64v8\" stroke=\"black\"/>\n" ++ centred (52 + 24 * k) 84 n
unfolding refused
refused-by k n d = sym (pick-false _ (ne_eqb n 0 d))

not-refused : (k : ℕ) → refused k 0 ≡ []
unfolding refused pick
not-refused k = refl

bars-none : bar_texts [] ≡ []
unfolding bar_texts
bars-none = refl

bars-more : (b : Bar) (bs : List Bar) → bar_texts (b ∷ bs) ≡ bar_text b ++ bar_texts bs
unfolding bar_texts
bars-more b bs = refl

mark-bar : (b : Bar) → b.source ≡ 0 → bar_text b ≡ mark (40 + 24 * b.from) (288 - 28 * b.place) (24 * (b.to - b.from))
unfolding bar_text bar
mark-bar b e = sym (pick_true _ (eq-eqb b.source 0 e))

handler-bar : (b : Bar) → b.source ≢ 0
    → bar_text b ≡ handler (40 + 24 * b.from) (288 - 28 * b.place) (24 * (b.to - b.from)) b.source b.level
unfolding bar_text bar
handler-bar b d = sym (pick-false _ (ne_eqb b.source 0 d))

narrow : (n : ℕ) → n < 26 → wide n ≡ 704
unfolding wide
narrow n h = sym (pick_true _ (lt-ltb n 26 h))

wider : (n : ℕ) → 26 ≤ n → wide n ≡ 80 + 24 * n
unfolding wide
wider n h = sym (pick-false _ (le-ltb n 26 h))

fifth : (k step : ℕ) → step % 5 ≡ 0 → numbered k step ≡ centred (52 + 24 * k) 332 step
unfolding numbered
fifth k step e = sym (pick_true _ (eq-eqb (step % 5) 0 e))

others : (k step : ℕ) → step % 5 ≢ 0 → numbered k step ≡ []
unfolding numbered
others k step d = sym (pick-false _ (ne_eqb (step % 5) 0 d))

pub kept : Promises
kept =
    record {
      back = back;
      as_many = as_many;
      openings_none = openings-none;
      openings_more = openings-more;
      opening = opening;
      opened_at = opened_at;
      opened_to = stays-opened;
      stayed_to = λ ws place h p. stays ws place 1 (omega arith);
      free_at_once = λ ws place k h e. sym (free_here ws place k h e);
      stayed_none = stayed-none;
      stayed_more = stayed-more;
      opened_none = opened-none;
      opened_more = opened-more;
      all = all;
      eighth = eighth;
      worked = worked;
      whole = whole;
      framed = framed;
      titled = unfold title in (λ first n. refl);
      axis = unfold axes in (λ n. refl);
      columns_none = columns-none;
      columns_more = columns-more;
      column_shows = column-shows;
      dark = dark;
      light = light;
      refused_by = refused-by;
      not_refused = not-refused;
      bars_none = bars-none;
      bars_more = bars-more;
      mark_bar = mark-bar;
      handler_bar = handler-bar;
      boxed = unfold box in (λ x y w h look. refl);
      labelled = unfold label in (λ x y word n. refl);
      in_middle = unfold centred in (λ x y n. refl);
      mark_shape = unfold mark in (λ x y w. refl);
      handler_shape = unfold handler in (λ x y w source level. refl);
      narrow = narrow;
      wider = wider;
      fifth = fifth;
      others = others;
      most = length-drawing;
    }
