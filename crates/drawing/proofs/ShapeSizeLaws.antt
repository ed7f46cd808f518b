-- How long the shapes of a drawing are at most.
use Prim.Native.Nat.{ℕ, ◌+◌, ◌-◌, ◌*◌, ◌%◌, ◌^◌, ◌<◌, ◌≤◌}
use mathlib.Core.List.{List, ◌++◌}
use native.Mathlib.Omega.{arith}
use lib.Dec.{eqb}
use lib.ListN.{length, length-append}
use Rattle.words.proofs.ChoiceLaws.{pick_cases}
use Rattle.text.specs.Phrases.{bytes}
use Rattle.text.proofs.SizeLaws.{length_few}
use Rattle.drawing.specs.Shapes.{left, middle, top, box, label, centred, active, refused, numbered, mark, handler, bar}

-- ---- shapes, whose numbers have so many digits

length-box : (x y w h : ℕ) (look : List ℕ) (d e : ℕ) → 0 < d → 0 < e → x < 10 ^ 5 → y < 10 ^ d → w < 10 ^ e → h < 10 ^ 2
    → length (box x y w h look) ≤ length look + 45 + d + e
unfolding box bytes
length-box x y w h look d e p q a b c f =
    simp length-append
    (omega (arith, length_few (bytes "<rect x=\"") x 5 (omega arith) a, length_few (bytes "\" y=\"") y d p b, length_few (bytes "\" width=\"") w e q c, length_few (bytes "\" height=\"") h 2 (omega arith) f))

length_label : (x y : ℕ) (word : List ℕ) (n : ℕ) → x < 10 ^ 5 → y < 10 ^ 3 → n < 10 ^ 3 → length (label x y word n) ≤ length word + 35
unfolding label bytes
length_label x y word n a b c =
    simp length-append
    (omega (arith, length_few (bytes "<text x=\"") x 5 (omega arith) a, length_few (bytes "\" y=\"") y 3 (omega arith) b, length_few (bytes "\">" ++ word) n 3 (omega arith) c))

pub length-centred : (x y n c d e : ℕ) → 0 < c → 0 < d → 0 < e → x < 10 ^ c → y < 10 ^ d → n < 10 ^ e → length (centred x y n) ≤ 45 + c + d + e
unfolding centred bytes
length-centred x y n c d e p q r f g h =
    simp length-append
    (omega (arith, length_few (bytes "<text text-anchor=\"middle\" x=\"") x c p f, length_few (bytes "\" y=\"") y d q g, length_few (bytes "\">") n e r h))

-- ---- columns

pub length-active : (y k on : ℕ) → y < 10 ^ 2 → k ≤ 500 → length (active y k on) ≤ 60
unfolding active bytes
length-active y k on a h =
    pick_cases (λ (l : List ℕ). length l ≤ 60) (eqb on 0) (λ e. omega arith)
    (λ e. omega (arith, length-box (left k) y 24 14 (bytes "fill=\"#333\"") 2 2 (omega arith) (omega arith) (omega arith) a (omega arith) (omega arith)))

pub length-refused : (k refusal : ℕ) → k ≤ 500 → refusal < 10 ^ 10 → length (refused k refusal) ≤ 101
unfolding refused bytes
length-refused k refusal h r =
    pick_cases (λ (l : List ℕ). length l ≤ 101) (eqb refusal 0) (λ e. omega arith)
    (λ e. simp length-append
    (omega (arith, length_few (bytes "<path d=\"M") (middle k) 5 (omega arith) (omega arith), length-centred (middle k) 84 refusal 5 2 10 (omega arith) (omega arith) (omega arith) (omega arith) (omega arith) r)))

pub length-numbered : (k step : ℕ) → k ≤ 500 → step < 10 ^ 5 → length (numbered k step) ≤ 58
unfolding numbered
length-numbered k step h s =
    pick_cases (λ (l : List ℕ). length l ≤ 58) (eqb (step % 5) 0)
    (λ e. length-centred (middle k) 332 step 5 3 5 (omega arith) (omega arith) (omega arith) (omega arith) (omega arith) s)
    (λ e. omega arith)

-- ---- bars

length-mark : (x y w : ℕ) → x + 1 < 10 ^ 5 → y + 17 < 10 ^ 3 → w < 10 ^ 5 → length (mark x y w) ≤ 152
unfolding mark bytes
length-mark x y w a b c =
    simp length-append
    (omega (
      arith,
      length-box x y w 26 (bytes "fill=\"#ddd\" stroke=\"black\" stroke-dasharray=\"3 2\"") 3 5 (omega arith) (omega arith) (omega arith) (omega arith) c (omega arith),
      length_few (bytes "<text font-size=\"9\" x=\"") (x + 1) 5 (omega arith) a,
      length_few (bytes "\" y=\"") (y + 17) 3 (omega arith) b,
    ))

length-handler : (x y w source level : ℕ) → x + 3 < 10 ^ 5 → y + 22 < 10 ^ 3 → w < 10 ^ 5 → source ≤ 255 → level ≤ 255 → length (handler x y w source level) ≤ 152
unfolding handler bytes
length-handler x y w source level a b c s l =
    simp length-append
    (omega (
      arith,
      length-box x y w 26 (bytes "fill=\"white\" stroke=\"black\"") 3 5 (omega arith) (omega arith) (omega arith) (omega arith) c (omega arith),
      length_label (x + 3) (y + 11) (bytes "S") source a (omega arith) (omega arith),
      length_label (x + 3) (y + 22) (bytes "L") level a b (omega arith),
    ))

pub length-bar : (place from to source level : ℕ) → from ≤ 501 → to ≤ 501 → source ≤ 255 → level ≤ 255
    → length (bar place from to source level) ≤ 152
unfolding bar
length-bar place from to source level f t s l =
    pick_cases (λ (x : List ℕ). length x ≤ 152) (eqb source 0)
    (λ e. length-mark (left from) (top place) (24 * (to - from)) (omega arith) (omega arith) (omega arith))
    (λ e. length-handler (left from) (top place) (24 * (to - from)) source level (omega arith) (omega arith) (omega arith) s l)
