-- The bytes of numbers are read as these numbers, and those of steps as these steps.
use Prim.Native.Nat.{ℕ, zero, suc, ◌+◌, ◌*◌, ◌/◌, ◌%◌, ◌^◌, ◌≤◌, ◌<◌}
use mathlib.Core.Path.{◌≡◌, refl, sym, ap, ap₂, ◌∙◌, subst}
use mathlib.Core.Bool.{Bool}
use mathlib.Core.List.{List, [], ◌∷◌, ◌++◌, append_assoc}
use native.Mathlib.Decide.{dec_lt}
use native.Mathlib.Omega.{arith}
use lib.ListN.{length, get_or, length-append, get_or-append}
use lib.Seq.{get_or-append-add}
use Rattle.steps.specs.declared.Recorded.{Recorded}
use Rattle.numbers.specs.Number.{worth_at, Told}
use Rattle.numbers.specs.Promises.{told_at, Form}
use Rattle.numbers.proofs.Promises as Numbers
use Rattle.trace.specs.Promises.{Reads, Unwritten, Along}
use Rattle.trace.specs.Steps.{numbers_of, step_at, tell}
use Rattle.trace.specs.Trace.{after, turn_at, steps_from}
use Rattle.trace.specs.declared.Turn.{Turn}
use Rattle.trace.specs.declared.Turn.TheVariants.{Found}
use Rattle.trace.proofs.Promises as Traces
use Rattle.encode.specs.Bytes.{shortest, bytes_of}
use Rattle.encode.proofs.ByteLaws.{bytes_append}
use Rattle.encode.proofs.Promises as Encode
use Rattle.explain.specs.Promises.{Words, AllWords}
use Rattle.explain.specs.Read.{numbers_in}

-- ---- one number

byte_at : (a g b : List ℕ) (k : ℕ) → k < length g → get_or (a ++ (g ++ b)) (length a + k) 0 ≡ get_or g k 0
byte_at a g b k l = get_or-append-add a (g ++ b) k 0 ∙ get_or-append g b 0 k l

within : (a g b : List ℕ) → length a + length g ≤ length (a ++ (g ++ b))
within a g b = omega (arith, length-append a (g ++ b), length-append g b)

module _ (s : List ℕ) (at : ℕ) where
  one : worth_at s at 1 ≡ get_or s (at + 0) 0 % 128
  one = (Numbers.kept).worth_more s at 0 ∙ omega (arith, (Numbers.kept).worth_none s at)

  two : worth_at s at 2 ≡ get_or s (at + 0) 0 % 128 + get_or s (at + 1) 0 % 128 * 128
  two = (Numbers.kept).worth_more s at 1 ∙ omega (arith, one)

  three : worth_at s at 3 ≡ get_or s (at + 0) 0 % 128 + get_or s (at + 1) 0 % 128 * 128 + get_or s (at + 2) 0 % 128 * 16384
  three = (Numbers.kept).worth_more s at 2 ∙ omega (arith, two)

  four : worth_at s at 4 ≡ get_or s (at + 0) 0 % 128 + get_or s (at + 1) 0 % 128 * 128 + get_or s (at + 2) 0 % 128 * 16384 + get_or s (at + 3) 0 % 128 * 2097152
  four = (Numbers.kept).worth_more s at 3 ∙ omega (arith, three)

  five : worth_at s at 5 ≡ get_or s (at + 0) 0 % 128 + get_or s (at + 1) 0 % 128 * 128 + get_or s (at + 2) 0 % 128 * 16384 + get_or s (at + 3) 0 % 128 * 2097152 + get_or s (at + 4) 0 % 128 * 268435456
  five = (Numbers.kept).worth_more s at 4 ∙ omega (arith, four)

-- a byte with its top bit set, the last byte, and what they make
part : (w v : ℕ) → w ≡ 128 + v % 128 → w % 128 + v / 128 * 128 ≡ v
part w v e = omega arith

last : (w q : ℕ) → w ≡ q → q < 128 → w % 128 ≡ q
last w q e l = omega arith

below : (w q : ℕ) → w ≡ q → q < 128 → w < 128
below w q e l = omega arith

div : (v k : ℕ) → v < 128 * k → v / 128 < k
div v k l = omega arith

sum_four : (v p q r t u w x : ℕ) → p + q * 128 ≡ v → r + t * 128 ≡ q → u + w * 128 ≡ t → x ≡ w → p + r * 128 + u * 16384 + x * 2097152 ≡ v
sum_four v p q r t u w x a b c e = omega arith

sum_five : (v p q r t u w x y z : ℕ) → p + q * 128 ≡ v → r + t * 128 ≡ q → u + w * 128 ≡ t → x + y * 128 ≡ w → z ≡ y
    → p + r * 128 + u * 16384 + x * 2097152 + z * 268435456 ≡ v
sum_five v p q r t u w x y z a b c e f = omega arith

abbrev tells : ℕ → ℕ → Told
tells v p = record { refusal = 0; value = v; place = p }

module _ (a b : List ℕ) (v : ℕ) (h : v < 2 ^ 32) where
  by_form : (g : List ℕ) (n : ℕ) → g ≡ shortest v → length g ≡ n → Form (a ++ (g ++ b)) (length a) n → worth_at (a ++ (g ++ b)) (length a) n ≡ v
      → told_at (a ++ (shortest v ++ b)) (length a) ≡ tells v (length a + length (shortest v))
  by_form g n e l f w =
      subst (λ (x : List ℕ). told_at (a ++ (x ++ b)) (length a) ≡ tells v (length a + length x)) e
      ((Numbers.kept).any_form (a ++ (g ++ b)) (length a) n f (omega (arith, w)) ∙ rw (w, l))

  of_one : v < 128 → told_at (a ++ (shortest v ++ b)) (length a) ≡ tells v (length a + length (shortest v))
  of_one l =
      let g : List ℕ = v ∷ [] in
      let x = byte_at a g b 0 (omega arith) in
      by_form g 1 (sym ((Encode.kept).one_byte v l)) refl ((omega arith, ((λ k m. absurd (omega arith)), omega (arith, x))), (omega arith, within a g b)) (one (a ++ (g ++ b)) (length a) ∙ omega (arith, x))

  of_two : 128 ≤ v → v < 16384 → told_at (a ++ (shortest v ++ b)) (length a) ≡ tells v (length a + length (shortest v))
  of_two m l =
      let g : List ℕ = (128 + v % 128) ∷ (v / 128) ∷ [] in
      let x = byte_at a g b 0 (omega arith) in
      let y = byte_at a g b 1 (omega arith) in
      by_form g 2 (sym ((Encode.kept).two_bytes v m l)) refl
      ((omega arith, ((λ k q. go g x k q), omega (arith, y))), (omega arith, within a g b)) (two (a ++ (g ++ b)) (length a) ∙ omega (arith, x, y))
    where
      go : (g : List ℕ) → get_or (a ++ (g ++ b)) (length a + 0) 0 ≡ 128 + v % 128 → (k : ℕ) → k + 1 < 2 → 128 ≤ get_or (a ++ (g ++ b)) (length a + k) 0
      go g x zero q = omega (arith, x)
      go g x (suc k) q = absurd (omega arith)

  of_three : 16384 ≤ v → v < 2097152 → told_at (a ++ (shortest v ++ b)) (length a) ≡ tells v (length a + length (shortest v))
  of_three m l =
      let g : List ℕ = (128 + v % 128) ∷ (128 + v / 128 % 128) ∷ (v / 128 / 128) ∷ [] in
      let x = byte_at a g b 0 (omega arith) in
      let y = byte_at a g b 1 (omega arith) in
      let z = byte_at a g b 2 (omega arith) in
      by_form g 3 (sym ((Encode.kept).three_bytes v m l)) refl
      ((omega arith, ((λ k q. go g x y k q), omega (arith, z))), (omega arith, within a g b)) (three (a ++ (g ++ b)) (length a) ∙ omega (arith, x, y, z))
    where
      go : (g : List ℕ) → get_or (a ++ (g ++ b)) (length a + 0) 0 ≡ 128 + v % 128 → get_or (a ++ (g ++ b)) (length a + 1) 0 ≡ 128 + v / 128 % 128
          → (k : ℕ) → k + 1 < 3 → 128 ≤ get_or (a ++ (g ++ b)) (length a + k) 0
      go g x y zero q = omega (arith, x)
      go g x y (suc zero) q = omega (arith, y)
      go g x y (suc (suc k)) q = absurd (omega arith)

  of_four : 2097152 ≤ v → v < 268435456 → told_at (a ++ (shortest v ++ b)) (length a) ≡ tells v (length a + length (shortest v))
  of_four m l =
      let g : List ℕ = (128 + v % 128) ∷ (128 + v / 128 % 128) ∷ (128 + v / 128 / 128 % 128) ∷ (v / 128 / 128 / 128) ∷ [] in
      let x = byte_at a g b 0 (omega arith) in
      let y = byte_at a g b 1 (omega arith) in
      let z = byte_at a g b 2 (omega arith) in
      let u = byte_at a g b 3 (omega arith) in
      by_form g 4 (sym ((Encode.kept).four_bytes v m l)) refl
      ((omega arith, ((λ k q. go g x y z k q), below _ _ u (div (v / 128 / 128) 128 (div (v / 128) 16384 (div v 2097152 l))))), (omega arith, within a g b)) (four (a ++ (g ++ b)) (length a) ∙ sum_four v _ _ _ _ _ _ _ (part _ v x) (part _ (v / 128) y) (part _ (v / 128 / 128) z) (last _ (v / 128 / 128 / 128) u (div (v / 128 / 128) 128 (div (v / 128) 16384 (div v 2097152 l)))))
    where
      go : (g : List ℕ) → get_or (a ++ (g ++ b)) (length a + 0) 0 ≡ 128 + v % 128 → get_or (a ++ (g ++ b)) (length a + 1) 0 ≡ 128 + v / 128 % 128
          → get_or (a ++ (g ++ b)) (length a + 2) 0 ≡ 128 + v / 128 / 128 % 128 → (k : ℕ) → k + 1 < 4 → 128 ≤ get_or (a ++ (g ++ b)) (length a + k) 0
      go g x y z zero q = omega (arith, x)
      go g x y z (suc zero) q = omega (arith, y)
      go g x y z (suc (suc zero)) q = omega (arith, z)
      go g x y z (suc (suc (suc k))) q = absurd (omega arith)

  of_five : 268435456 ≤ v → told_at (a ++ (shortest v ++ b)) (length a) ≡ tells v (length a + length (shortest v))
  of_five m =
      let g : List ℕ = (128 + v % 128) ∷ (128 + v / 128 % 128) ∷ (128 + v / 128 / 128 % 128) ∷ (128 + v / 128 / 128 / 128 % 128) ∷ (v / 128 / 128 / 128 / 128) ∷ [] in
      let x = byte_at a g b 0 (omega arith) in
      let y = byte_at a g b 1 (omega arith) in
      let z = byte_at a g b 2 (omega arith) in
      let u = byte_at a g b 3 (omega arith) in
      let w = byte_at a g b 4 (omega arith) in
      by_form g 5 (sym ((Encode.kept).five_bytes v m h)) refl
      ((omega arith, ((λ k q. go g x y z u k q), below _ _ w small)), (omega arith, within a g b)) (five (a ++ (g ++ b)) (length a) ∙ sum_five v _ _ _ _ _ _ _ _ _ (part _ v x) (part _ (v / 128) y) (part _ (v / 128 / 128) z) (part _ (v / 128 / 128 / 128) u) (last _ (v / 128 / 128 / 128 / 128) w small))
    where
      small : v / 128 / 128 / 128 / 128 < 128
      small = div (v / 128 / 128 / 128) 128 (div (v / 128 / 128) 16384 (div (v / 128) 2097152 (div v 268435456 (omega arith))))

      go : (g : List ℕ) → get_or (a ++ (g ++ b)) (length a + 0) 0 ≡ 128 + v % 128 → get_or (a ++ (g ++ b)) (length a + 1) 0 ≡ 128 + v / 128 % 128
          → get_or (a ++ (g ++ b)) (length a + 2) 0 ≡ 128 + v / 128 / 128 % 128 → get_or (a ++ (g ++ b)) (length a + 3) 0 ≡ 128 + v / 128 / 128 / 128 % 128
          → (k : ℕ) → k + 1 < 5 → 128 ≤ get_or (a ++ (g ++ b)) (length a + k) 0
      go g x y z u zero q = omega (arith, x)
      go g x y z u (suc zero) q = omega (arith, y)
      go g x y z u (suc (suc zero)) q = omega (arith, z)
      go g x y z u (suc (suc (suc zero))) q = omega (arith, u)
      go g x y z u (suc (suc (suc (suc k)))) q = absurd (omega arith)

  pub number_back : told_at (a ++ (shortest v ++ b)) (length a) ≡ tells v (length a + length (shortest v))
  number_back = go (dec_lt v 128) (dec_lt v 16384) (dec_lt v 2097152) (dec_lt v 268435456)
    where
      go : Dec (v < 128) → Dec (v < 16384) → Dec (v < 2097152) → Dec (v < 268435456) → told_at (a ++ (shortest v ++ b)) (length a) ≡ tells v (length a + length (shortest v))
      go (yes l) m n o = of_one l
      go (no l) (yes m) n o = of_two (omega arith) m
      go (no l) (no m) (yes n) o = of_three (omega arith) n
      go (no l) (no m) (no n) (yes o) = of_four (omega arith) o
      go (no l) (no m) (no n) (no o) = of_five (omega arith)

-- ---- numbers

module _ (n : ℕ) (ns a b : List ℕ) (h : n < 2 ^ 32) where
  abbrev s : List ℕ
  s = a ++ (shortest n ++ (bytes_of ns ++ b))

  back : told_at s (length a) ≡ record { refusal = 0; value = n; place = length a + length (shortest n) }
  back = number_back a (bytes_of ns ++ b) n h

  reads_more : Reads ((a ++ shortest n) ++ (bytes_of ns ++ b)) (length (a ++ shortest n)) ns (length (a ++ shortest n) + length (bytes_of ns))
      → Reads (a ++ (bytes_of (n ∷ ns) ++ b)) (length a) (n ∷ ns) (length a + length (bytes_of (n ∷ ns)))
  unfolding bytes_of
  reads_more ih =
      let e : length a + length (shortest n) + length (bytes_of ns) ≡ length a + length (shortest n ++ bytes_of ns) = omega (arith, length-append (shortest n) (bytes_of ns)) in
      subst (λ (l : List ℕ). Reads (a ++ l) (length a) (n ∷ ns) (length a + length (shortest n ++ bytes_of ns))) (sym (append_assoc (shortest n) (bytes_of ns) b)) (
        ap (λ (t : Told). t.refusal) back,
        (
          ap (λ (t : Told). t.value) back,
          subst (λ (p : ℕ). Reads s p ns (length a + length (shortest n ++ bytes_of ns))) (sym (ap (λ (t : Told). t.place) back))
              (subst (λ (q : ℕ). Reads s (length a + length (shortest n)) ns q) e
              (subst (λ (l : List ℕ). Reads l (length a + length (shortest n)) ns (length a + length (shortest n) + length (bytes_of ns))) (append_assoc a (shortest n) (bytes_of ns ++ b))
              (subst (λ (k : ℕ). Reads ((a ++ shortest n) ++ (bytes_of ns ++ b)) k ns (k + length (bytes_of ns))) (length-append a (shortest n)) ih))),
        ),
      )

pub reads_back : (ns a b : List ℕ) → Words ns → Reads (a ++ (bytes_of ns ++ b)) (length a) ns (length a + length (bytes_of ns))
reads_back [] a b h = none
  where
    none : length a ≡ length a + length (bytes_of [])
    none = unfold bytes_of in omega arith
reads_back (n ∷ ns) a b h = reads_more n ns a b h.0 (reads_back ns (a ++ shortest n) b h.1)

-- ---- steps

-- privileges that are not written are 1
abbrev pub AllPlain : Bool → List Recorded → Type 0
AllPlain told [] = Unit
AllPlain told (x ∷ xs) = Unwritten x.step told x.privilege × AllPlain told xs

pub along-plain : (told : Bool) (s : List ℕ) (at : ℕ) (xs : List Recorded) (p : ℕ) → Along told s at xs p → AllPlain told xs
along-plain told s at [] p h = tt
along-plain told s at (x ∷ xs) p h = ((((Traces.kept).found told s at h.0 x).0 h.1).0, along-plain told s h.0 xs p h.2)

module _ (told : Bool) (x : Recorded) (xs : List Recorded) (limit : ℕ) (a : List ℕ) (f : Words (numbers_of told x)) (g : Unwritten x.step told x.privilege) where
  abbrev B : List ℕ
  B = bytes_of (numbers_of told x)

  abbrev R : List ℕ
  R = bytes_of (numbers_in told xs)

  abbrev t : List ℕ
  t = a ++ (B ++ R)

  abbrev p : ℕ
  p = length a + length B

  found : step_at told t (length a) ≡ Found x p
  found = ((Traces.kept).found told t (length a) p x).1 (g, reads_back (numbers_of told x) a R f)

  some : length a < length t
  some = let n = (Traces.kept).next told t (length a) (ap (λ (u : Turn). (tell told u).refusal) found) in omega (arith, n.0, n.1)

  turn : turn_at told t (length a) (suc limit) ≡ Found x p
  turn = (Traces.kept).turn_step told t (length a) (suc limit) some (omega arith) ∙ found

  joined : a ++ bytes_of (numbers_in told (x ∷ xs)) ≡ (a ++ B) ++ R
  unfolding numbers_in
  joined = ap (λ (u : List ℕ). a ++ u) (bytes_append (numbers_of told x) (numbers_in told xs)) ∙ sym (append_assoc a B R)

  pub steps-left : length a < length (a ++ bytes_of (numbers_in told (x ∷ xs)))
  steps-left = omega (arith, some, ap length (joined ∙ append_assoc a B R))

  pub steps_onward : steps_from told (suc limit) (a ++ bytes_of (numbers_in told (x ∷ xs))) (length a) ≡ after x (steps_from told limit ((a ++ B) ++ R) (length (a ++ B)))
  steps_onward =
      ap (λ (u : List ℕ). steps_from told (suc limit) u (length a)) (joined ∙ append_assoc a B R)
      ∙ (Traces.kept).onward told limit t (length a) x p turn
      ∙ ap₂ (λ (u : List ℕ) (k : ℕ). after x (steps_from told limit u k)) (sym (append_assoc a B R)) (sym (length-append a B))

  steps-more : steps_from told limit ((a ++ B) ++ R) (length (a ++ B)) ≡ record { steps = xs; refusal = 0; offset = length ((a ++ B) ++ R) }
      → steps_from told (suc limit) (a ++ bytes_of (numbers_in told (x ∷ xs))) (length a)
      ≡ record { steps = x ∷ xs; refusal = 0; offset = length (a ++ bytes_of (numbers_in told (x ∷ xs))) }
  steps-more ih = steps_onward ∙ ap (after x) ih ∙ ap (λ (u : List ℕ). record { steps = x ∷ xs; refusal = 0; offset = length u }) (sym joined)

pub steps_back : (told : Bool) (xs : List Recorded) (limit : ℕ) (a : List ℕ) → AllWords told xs → AllPlain told xs → length xs ≤ limit
    → steps_from told limit (a ++ bytes_of (numbers_in told xs)) (length a) ≡ record { steps = xs; refusal = 0; offset = length (a ++ bytes_of (numbers_in told xs)) }
steps_back told [] limit a f g l = none
  where
    none : steps_from told limit (a ++ bytes_of (numbers_in told [])) (length a) ≡ record { steps = []; refusal = 0; offset = length (a ++ bytes_of (numbers_in told [])) }
    none = unfold numbers_in bytes_of in
        ((Traces.kept).ended told limit (a ++ []) (length a) 0 (length (a ++ [])) ((Traces.kept).turn_end told (a ++ []) (length a) limit (omega (arith, length-append {A = ℕ} a []))))
steps_back told (x ∷ xs) zero a f g l = absurd (omega arith)
steps_back told (x ∷ xs) (suc limit) a f g l =
    steps-more told x xs limit a f.0 g.0 (steps_back told xs limit (a ++ bytes_of (numbers_of told x)) f.1 g.1 (omega arith))
