-- A name byte by byte as the page shows it, and that it can be read back from there.
use Prim.Native.Nat.{ℕ, ◌+◌, ◌-◌, ◌*◌, ◌/◌, ◌%◌, ◌<◌, ◌≤◌}
use mathlib.Core.Path.{◌≡◌, refl, sym, ap, ap₂, ◌∙◌}
use mathlib.Core.Bool.{Bool, true, false, ◌&&◌, and-false}
use mathlib.Core.List.{List, [], ◌∷◌, ◌++◌}
use mathlib.Core.Logic.{◌≢◌, ◌⊎◌, inl, inr}
use native.Mathlib.Decide.{dec_lt}
use native.Mathlib.Omega.{arith}
use lib.Dec.{eqb, leb, ltb}
use lib.ListN.{length, get_or, drop, length-append}
use borrow.Author.Tests.{eqb-true, eqb-false, ne_eqb, le-leb, lt-leb, lt-ltb, le-ltb}
use Rattle.words.specs.Choice.{pick}
use Rattle.words.proofs.ChoiceLaws.{pick_true, pick-false, pick_cases}
use Rattle.words.proofs.TruthLaws.{and_both, told}
use Rattle.text.specs.Text.{hex_of, hex_digit}
use Rattle.text.specs.Phrases.{bytes}
use Rattle.sheet.specs.Texts.{each}
use Rattle.sheet.specs.Names.{plain, escape}
use Rattle.sheet.specs.Promises.{Bytes}

-- ---- what a byte is shown as

pub printed : (b : ℕ) → 32 ≤ b → b ≤ 126 → b ≢ 38 → b ≢ 60 → b ≢ 62 → b ≢ 34 → b ≢ 92 → escape b ≡ b ∷ []
unfolding escape plain
printed b l h p q r s t =
    sym
    (pick_true _ (and_both (le-leb 32 b l) (le-leb b 126 h)) ∙ pick-false _ (ne_eqb b 92 t) ∙ pick-false _ (ne_eqb b 34 s) ∙ pick-false _ (ne_eqb b 62 r)
    ∙ pick-false _ (ne_eqb b 60 q) ∙ pick-false _ (ne_eqb b 38 p))

outside : (b : ℕ) → (b < 32) ⊎ (126 < b) → (leb 32 b && leb b 126) ≡ false
outside b (inl h) = ap (λ (x : Bool). x && leb b 126) (lt-leb 32 b h)
outside b (inr h) = ap (λ (x : Bool). leb 32 b && x) (lt-leb b 126 h) ∙ and-false (leb 32 b)

far : (b k : ℕ) → 32 ≤ k → k ≤ 126 → (b < 32) ⊎ (126 < b) → b ≢ k
far b k l h (inl o) e = omega arith
far b k l h (inr o) e = omega arith

pub numbered : (b : ℕ) → (b < 32) ⊎ (126 < b) → escape b ≡ bytes "\\x" ++ hex_of 2 b
unfolding escape plain
numbered b o =
    sym
    (pick-false _ (outside b o) ∙ pick-false _ (ne_eqb b 92 (far b 92 (omega arith) (omega arith) o)) ∙ pick-false _ (ne_eqb b 34 (far b 34 (omega arith) (omega arith) o))
    ∙ pick-false _ (ne_eqb b 62 (far b 62 (omega arith) (omega arith) o)) ∙ pick-false _ (ne_eqb b 60 (far b 60 (omega arith) (omega arith) o))
    ∙ pick-false _ (ne_eqb b 38 (far b 38 (omega arith) (omega arith) o)))

-- ---- reading it back

-- the worth of a hexadecimal digit
abbrev worth : ℕ → ℕ
worth d = pick (ltb d 58) (d - 48) (d - 55)

worth-digit : (n : ℕ) → n < 16 → worth (hex_digit n) ≡ n
worth-digit n h = go (dec_lt n 10)
  where
    go : Dec (n < 10) → worth (hex_digit n) ≡ n
    go (yes l) =
        let e : hex_digit n ≡ 48 + n = unfold hex_digit in (sym (pick_true (55 + n) (lt-ltb n 10 l))) in
        rw e (sym (pick_true (48 + n - 55) (lt-ltb (48 + n) 58 (omega arith))) ∙ omega arith)
    go (no l) =
        let e : hex_digit n ≡ 55 + n = unfold hex_digit in (sym (pick-false (48 + n) (le-ltb n 10 (omega arith)))) in
        rw e (sym (pick-false (55 + n - 48) (le-ltb (55 + n) 58 (omega arith))) ∙ omega arith)

-- the byte that a text begins with, and how much of the text tells it
abbrev value : List ℕ → ℕ
value x =
    pick (eqb (get_or x 0 0) 38) (pick (eqb (get_or x 1 0) 97) 38 (pick (eqb (get_or x 1 0) 108) 60 (pick (eqb (get_or x 1 0) 103) 62 34)))
    (pick (eqb (get_or x 0 0) 92) (pick (eqb (get_or x 1 0) 92) 92 (16 * worth (get_or x 2 0) + worth (get_or x 3 0))) (get_or x 0 0))

abbrev size : List ℕ → ℕ
size x =
    pick (eqb (get_or x 0 0) 38) (pick (eqb (get_or x 1 0) 97) 5 (pick (eqb (get_or x 1 0) 108) 4 (pick (eqb (get_or x 1 0) 103) 4 6)))
    (pick (eqb (get_or x 0 0) 92) (pick (eqb (get_or x 1 0) 92) 2 4) 1)

abbrev Reads : ℕ → List ℕ → Type 0
Reads b x = (value (escape b ++ x) ≡ b) × (drop (size (escape b ++ x)) (escape b ++ x) ≡ x)

reads_printed : (b : ℕ) (x : List ℕ) → b ≢ 38 → b ≢ 92 → escape b ≡ b ∷ [] → Reads b x
reads_printed b x p q e =
    let v : value (b ∷ x) ≡ b = unfold pick in (rw (ne_eqb b 38 p, ne_eqb b 92 q)) in
    let s : size (b ∷ x) ≡ 1 = unfold pick in (rw (ne_eqb b 38 p, ne_eqb b 92 q)) in
    rw e (v, rw s)

reads-numbered : (b : ℕ) (x : List ℕ) → b < 256 → escape b ≡ bytes "\\x" ++ hex_of 2 b → Reads b x
unfolding pick
reads-numbered b x l e =
    let f : bytes "\\x" ++ hex_of 2 b ≡ 92 ∷ 120 ∷ hex_digit (b / 16 % 16) ∷ hex_digit (b % 16) ∷ [] = unfold bytes hex_of in refl in
    let v : 16 * worth (hex_digit (b / 16 % 16)) + worth (hex_digit (b % 16)) ≡ b = rw (worth-digit (b / 16 % 16) (omega arith), worth-digit (b % 16) (omega arith)) (omega arith) in
    rw (e ∙ f) (v, refl)

reads : (b : ℕ) (x : List ℕ) → b < 256 → Reads b x
reads b x l = go (told (eqb b 38)) (told (eqb b 60)) (told (eqb b 62)) (told (eqb b 34)) (told (eqb b 92)) (dec_lt b 32) (dec_lt 126 b)
  where
    go : (eqb b 38 ≡ true) ⊎ (eqb b 38 ≡ false) → (eqb b 60 ≡ true) ⊎ (eqb b 60 ≡ false) → (eqb b 62 ≡ true) ⊎ (eqb b 62 ≡ false) → (eqb b 34 ≡ true) ⊎ (eqb b 34 ≡ false)
        → (eqb b 92 ≡ true) ⊎ (eqb b 92 ≡ false) → Dec (b < 32) → Dec (126 < b) → Reads b x
    go (inl e) p q r s c d = rw (eqb-true b 38 e) (unfold escape bytes pick in (refl, refl))
    go (inr o) (inl e) q r s c d = rw (eqb-true b 60 e) (unfold escape bytes pick in (refl, refl))
    go (inr o) (inr p) (inl e) r s c d = rw (eqb-true b 62 e) (unfold escape bytes pick in (refl, refl))
    go (inr o) (inr p) (inr q) (inl e) s c d = rw (eqb-true b 34 e) (unfold escape bytes pick in (refl, refl))
    go (inr o) (inr p) (inr q) (inr r) (inl e) c d = rw (eqb-true b 92 e) (unfold escape bytes pick in (refl, refl))
    go (inr o) (inr p) (inr q) (inr r) (inr s) (yes c) d = reads-numbered b x l (numbered b (inl c))
    go (inr o) (inr p) (inr q) (inr r) (inr s) (no c) (yes d) = reads-numbered b x l (numbered b (inr d))
    go (inr o) (inr p) (inr q) (inr r) (inr s) (no c) (no d) =
        reads_printed b x (eqb-false b 38 o) (eqb-false b 92 s)
        (printed b (omega arith) (omega arith) (eqb-false b 38 o) (eqb-false b 60 p) (eqb-false b 62 q) (eqb-false b 34 r) (eqb-false b 92 s))

-- ---- two names that look alike

some_byte : (b : ℕ) → 1 ≤ length (escape b)
unfolding escape plain bytes
some_byte b =
    pick_cases (λ (l : List ℕ). 1 ≤ length l) (eqb b 38) (λ e. omega arith)
    (λ e. pick_cases (λ (l : List ℕ). 1 ≤ length l) (eqb b 60) (λ e. omega arith)
    (λ e. pick_cases (λ (l : List ℕ). 1 ≤ length l) (eqb b 62) (λ e. omega arith)
    (λ e. pick_cases (λ (l : List ℕ). 1 ≤ length l) (eqb b 34) (λ e. omega arith)
    (λ e. pick_cases (λ (l : List ℕ). 1 ≤ length l) (eqb b 92) (λ e. omega arith)
    (λ e. pick_cases (λ (l : List ℕ). 1 ≤ length l) (leb 32 b && leb b 126) (λ e. omega arith) (λ e. simp length-append (omega arith)))))))

not-empty : (b : ℕ) (x : List ℕ) → [] ≡ escape b ++ x → ⊥
not-empty b x e =
    let n : 0 ≡ length (escape b) + length x = ap length e ∙ length-append (escape b) x in
    omega (arith, some_byte b)

pub unlike : (a b : List ℕ) → Bytes a → Bytes b → each escape a ≡ each escape b → a ≡ b
unfolding each
unlike [] [] p q e = refl
unlike [] (c ∷ b) p q e = absurd (not-empty c (each escape b) e)
unlike (c ∷ a) [] p q e = absurd (not-empty c (each escape a) (sym e))
unlike (c ∷ a) (d ∷ b) p q e =
    let r = reads c (each escape a) p.0 in
    let s = reads d (each escape b) q.0 in
    ap₂ (λ (x : ℕ) (y : List ℕ). x ∷ y) (sym r.0 ∙ ap value e ∙ s.0)
    (unlike a b p.1 q.1 (sym r.1 ∙ ap (λ (x : List ℕ). drop (size x) x) e ∙ s.1))
