-- A route put anew: the words that are kept beside the routes each have one bit put anew.
use mathlib.Core.Path.{◌≡◌, refl, sym, ap, ap₂, ◌∙◌}
use mathlib.Core.Bool.{Bool, true, false, ◌&&◌}
use mathlib.Core.List.{List, []}
use Prim.Native.Nat.{ℕ, zero, suc, ◌+◌, ◌*◌, ◌/◌, ◌%◌, ◌≤◌, ◌<◌}
use native.Mathlib.Decide.{ℕ_discrete, dec_lt}
use native.Mathlib.Omega.{arith}
use borrow.Author.Tests.{eq-eqb, ne_eqb, lt-ltb, le-ltb}
use lib.Dec.{eqb, ltb}
use lib.ListN.{length, get_or, set, length-set}
use lib.Seq.{get_or-set_same, get_or-set_other, set-set, set-get_or}
use Rattle.words.specs.Choice.{pick}
use Rattle.words.specs.Counting.{upto}
use Rattle.words.specs.Word.{bit, word_of, with_bit}
use Rattle.words.proofs.ChoiceLaws.{pick_true, pick-false}
use Rattle.words.proofs.TruthLaws.{and_both}
use Rattle.words.proofs.WordLaws.{bit-word_of, word_of-same}
use Rattle.rooms.specs.Parts.{flat, Sized, made}
use Rattle.rooms.proofs.PartLaws.{part_get, part-set, part_sized, made-length, made_get, made-same, made-set}
use Rattle.aintc_record.specs.declared.Aintc.{Aintc}
use Rattle.aintc_record.specs.Record.{with_routes}
use Rattle.aintc_record.specs.Route.{priority_of, route_of}
use Rattle.aintc_registers.specs.Search.{route_word}
use Rattle.aintc_room.specs.Room.{fiq_word, priority_word, bits_word, parts, sizes, laid, Laid, bit_put}
use Rattle.aintc_room.proofs.CellLaws.{sized}

-- ---- a word that says something of each route of word n, where one route is put anew

module _ (f : ℕ → Bool) (xs : List ℕ) (n k v : ℕ) where
  abbrev was : ℕ
  was = word_of 32 (λ i. f (get_or xs (32 * n + i) 0))

  abbrev is : ℕ
  is = word_of 32 (λ i. f (get_or (set xs k v) (32 * n + i) 0))

  word-put : k < length xs → n ≡ k / 32 → with_bit was (k % 32) (f v) ≡ is
  unfolding with_bit
  word-put m e = word_of-same 32 (λ j. pick (eqb j (k % 32)) (f v) (bit was j)) (λ j. f (get_or (set xs k v) (32 * n + j) 0)) (λ j l. go j l (ℕ_discrete j (k % 32)))
    where
      go : (j : ℕ) → j < 32 → Dec (j ≡ k % 32) → pick (eqb j (k % 32)) (f v) (bit was j) ≡ f (get_or (set xs k v) (32 * n + j) 0)
      go j l (yes p) =
          let q : 32 * n + j ≡ k = omega (arith, e, p) in
          sym (pick_true _ (eq-eqb j (k % 32) p)) ∙ sym (ap (λ (x : ℕ). f (get_or (set xs k v) x 0)) q ∙ ap f (get_or-set_same xs k v 0 m))
      go j l (no p) =
          sym (pick-false _ (ne_eqb j (k % 32) p)) ∙ bit-word_of 32 (λ i. f (get_or xs (32 * n + i) 0)) j l
          ∙ sym (ap f (get_or-set_other xs k (32 * n + j) v 0 (λ q. p (omega (arith, e, q)))))

  word_same : (n ≡ k / 32 → ⊥) → was ≡ is
  word_same d =
      word_of-same 32 (λ i. f (get_or xs (32 * n + i) 0)) (λ i. f (get_or (set xs k v) (32 * n + i) 0))
      (λ j l. sym (ap f (get_or-set_other xs k (32 * n + j) v 0 (λ q. d (omega (arith, l, q))))))

-- ---- the seven words of the priorities

-- the first m of them put anew
abbrev later : ℕ → ℕ → ℕ → (ℕ → ℕ) → ℕ → ℕ → ℕ
later n i p g m j = pick (ltb (j / 4) m && eqb (j % 4) n) (with_bit (g j) i (bit p (j / 4))) (g j)

off : (t : Bool) → (t && false) ≡ false
off true = refl
off false = refl

by_order : (x m : ℕ) → (x ≡ m → ⊥) → ltb x (suc m) ≡ ltb x m
by_order x m d = go (dec_lt x m)
  where
    go : Dec (x < m) → ltb x (suc m) ≡ ltb x m
    go (yes l) = lt-ltb x (suc m) (omega (arith, l)) ∙ sym (lt-ltb x m l)
    go (no l) = le-ltb x (suc m) (omega (arith, l, d)) ∙ sym (le-ltb x m (omega (arith, l)))

module _ (n i p : ℕ) (l : n < 4) (g : ℕ → ℕ) where
  -- one more
  later_here : (m : ℕ) → with_bit (later n i p g m (4 * m + n)) i (bit p m) ≡ later n i p g (suc m) (4 * m + n)
  later_here m =
      let q : (4 * m + n) / 4 ≡ m = omega (arith, l) in
      let r : (4 * m + n) % 4 ≡ n = omega (arith, l) in
      ap (λ (x : ℕ). with_bit x i (bit p m)) (sym (pick-false _ (ap (λ (t : Bool). t && eqb ((4 * m + n) % 4) n) (le-ltb ((4 * m + n) / 4) m (omega (arith, q))))))
      ∙ ap (λ (x : ℕ). with_bit (g (4 * m + n)) i (bit p x)) (sym q)
      ∙ pick_true _ (and_both (lt-ltb ((4 * m + n) / 4) (suc m) (omega (arith, q))) (eq-eqb ((4 * m + n) % 4) n r))

  later-other : (m j : ℕ) → (j ≡ 4 * m + n → ⊥) → later n i p g (suc m) j ≡ later n i p g m j
  later-other m j d = ap (λ (t : Bool). pick t (with_bit (g j) i (bit p (j / 4))) (g j)) (go (ℕ_discrete (j % 4) n) (ℕ_discrete (j / 4) m))
    where
      go : Dec (j % 4 ≡ n) → Dec (j / 4 ≡ m) → (ltb (j / 4) (suc m) && eqb (j % 4) n) ≡ (ltb (j / 4) m && eqb (j % 4) n)
      go (yes e) (yes f) = absurd (d (omega (arith, e, f)))
      go (yes e) (no f) = ap (λ (t : Bool). t && eqb (j % 4) n) (by_order (j / 4) m f)
      go (no e) _ = ap (λ (t : Bool). ltb (j / 4) (suc m) && t) (ne_eqb (j % 4) n e) ∙ off (ltb (j / 4) (suc m)) ∙ sym (ap (λ (t : Bool). ltb (j / 4) m && t) (ne_eqb (j % 4) n e) ∙ off (ltb (j / 4) m))

  later-none : (j : ℕ) → g j ≡ later n i p g 0 j
  later-none j = pick-false _ (ap (λ (t : Bool). t && eqb (j % 4) n) (le-ltb (j / 4) 0 (omega arith)))

  -- as the loop stores them
  bits-stored : (ps : List (List ℕ)) → Sized ps sizes → 5 < length ps → get_or ps 5 [] ≡ made 28 g → (m : ℕ) → m ≤ 7
      → upto (bit_put n i p) (flat ps) m ≡ flat (set ps 5 (made 28 (later n i p g m)))
  unfolding upto
  bits-stored ps s b e zero t = ap flat (sym (set-get_or ps 5 [])) ∙ ap (λ (r : List ℕ). flat (set ps 5 r)) (e ∙ made-same 28 g (later n i p g 0) (λ j _. later-none j))
  bits-stored ps s b e (suc m) t =
      let q = made 28 (later n i p g m) in
      let ps' = set ps 5 q in
      let s' : Sized ps' sizes = part_sized ps sizes s 5 q (made-length 28 (later n i p g m)) in
      let d : get_or ps' 5 [] ≡ q = get_or-set_same ps 5 q [] b in
      let k = 4 * m + n in
      let u : k < 28 = omega (arith, l, t) in
      let w = later n i p g (suc m) k in
      ap (λ (r : List ℕ). bit_put n i p r m) (bits-stored ps s b e m (omega (arith, t)))
      ∙ ap (λ (x : ℕ). set (flat ps') (32 + k) x)
      (ap (λ (x : ℕ). with_bit x i (bit p m)) (part_get ps' sizes s' 5 k u ∙ ap (λ (r : List ℕ). get_or r k 0) d ∙ made_get 28 (later n i p g m) k u) ∙ later_here m)
      ∙ part-set ps' sizes s' 5 k w u
      ∙ ap (λ (r : List ℕ). flat (set ps' 5 (set r k w))) d
      ∙ ap flat (set-set ps 5 q (set q k w))
      ∙ ap (λ (r : List ℕ). flat (set ps 5 r)) (made-set 28 (later n i p g m) (later n i p g (suc m)) k u (λ j z. later-other m j z))

-- ---- the room after a route is put

module _ (a : Aintc) (k v : ℕ) (l : k < 128) {room : List ℕ} (h : Laid a room) where
  abbrev routes' : List ℕ
  routes' = set a.routes k v

  long : k < length a.routes
  long = omega (arith, l, h.shaped.3)

  fiq-put : with_bit (fiq_word a.routes (k / 32)) (k % 32) (eqb (v % 2) 1) ≡ fiq_word routes' (k / 32)
  unfolding route_word
  fiq-put = word-put (λ x. eqb (route_of x) 1) a.routes (k / 32) k v long refl

  fiq-same : (n : ℕ) → (n ≡ k / 32 → ⊥) → fiq_word routes' n ≡ fiq_word a.routes n
  unfolding route_word
  fiq-same n d = sym (word_same (λ x. eqb (route_of x) 1) a.routes n k v d)

  -- the seven words are those of the new routes
  bits_put : (j : ℕ) → j < 28 → later (k / 32) (k % 32) (v / 2 % 128) (bits_word a.routes) 7 j ≡ bits_word routes' j
  unfolding priority_word
  bits_put j m = go (ℕ_discrete (j % 4) (k / 32))
    where
      go : Dec (j % 4 ≡ k / 32) → later (k / 32) (k % 32) (v / 2 % 128) (bits_word a.routes) 7 j ≡ bits_word routes' j
      go (yes e) =
          sym (pick_true _ (and_both (lt-ltb (j / 4) 7 (omega (arith, m))) (eq-eqb (j % 4) (k / 32) e)))
          ∙ word-put (λ x. bit (priority_of x) (j / 4)) a.routes (j % 4) k v long e
      go (no d) =
          sym (pick-false _ (ap (λ (t : Bool). ltb (j / 4) 7 && t) (ne_eqb (j % 4) (k / 32) d) ∙ off (ltb (j / 4) 7)))
          ∙ word_same (λ x. bit (priority_of x) (j / 4)) a.routes (j % 4) k v d

  pub put_routes : (last : List ℕ) (w : ℕ) → v < 256 → w ≡ with_bit (get_or (set room (128 + k) v) (28 + k / 32) 0) (k % 32) (eqb (v % 2) 1)
      → last ≡ upto (bit_put (k / 32) (k % 32) (v / 2 % 128)) (set (set room (128 + k) v) (28 + k / 32) w) 7 → Laid (with_routes a routes') last
  unfolding laid
  put_routes last w b ew el =
      let n : k / 32 < 4 = omega (arith, l) in
      let ps₁ = set (parts a) 7 routes' in
      let s₁ : Sized ps₁ sizes = part_sized (parts a) sizes (sized a h.shaped) 7 routes' (length-set a.routes k v ∙ h.shaped.3) in
      let r₁ : set room (128 + k) v ≡ flat ps₁ = ap (λ (x : List ℕ). set x (128 + k) v) h.words ∙ part-set (parts a) sizes (sized a h.shaped) 7 k v l in
      let w₁ : w ≡ fiq_word routes' (k / 32) = ew ∙ ap (λ (x : ℕ). with_bit x (k % 32) (eqb (v % 2) 1))
      (ap (λ (x : List ℕ). get_or x (28 + k / 32) 0) r₁ ∙ part_get ps₁ sizes s₁ 4 (k / 32) n ∙ made_get 4 (fiq_word a.routes) (k / 32) n) ∙ fiq-put in
      let ps₂ = set ps₁ 4 (made 4 (fiq_word routes')) in
      let s₂ : Sized ps₂ sizes = part_sized ps₁ sizes s₁ 4 (made 4 (fiq_word routes')) refl in
      let r₂ : set (set room (128 + k) v) (28 + k / 32) w ≡ flat ps₂ = ap₂ (λ (x : List ℕ) (y : ℕ). set x (28 + k / 32) y) r₁ w₁ ∙ part-set ps₁ sizes s₁ 4 (k / 32) (fiq_word routes' (k / 32)) n
      ∙ ap (λ (x : List ℕ). flat (set ps₁ 4 x)) (made-set 4 (fiq_word a.routes) (fiq_word routes') (k / 32) n fiq-same) in
      record {
        shaped = (h.shaped.0, h.shaped.1, h.shaped.2, length-set a.routes k v ∙ h.shaped.3);
        bytes = record { threshold = h.bytes.threshold; revision = h.bytes.revision; routes = λ j m. byte j m (ℕ_discrete j k) };
        words = el ∙ ap (λ (x : List ℕ). upto (bit_put (k / 32) (k % 32) (v / 2 % 128)) x 7) r₂
            ∙ bits-stored (k / 32) (k % 32) (v / 2 % 128) n (bits_word a.routes) ps₂ s₂ (omega arith) refl 7 (omega arith)
            ∙ ap (λ (x : List ℕ). flat (set ps₂ 5 x)) (made-same 28 (later (k / 32) (k % 32) (v / 2 % 128) (bits_word a.routes) 7) (bits_word routes') bits_put);
      }
    where
      byte : (j : ℕ) → j < 128 → Dec (j ≡ k) → get_or routes' j 0 < 256
      byte j m (yes e) = omega (arith, b, ap (λ (x : ℕ). get_or routes' x 0) e ∙ get_or-set_same a.routes k v 0 long)
      byte j m (no d) = omega (arith, h.bytes.routes j m, get_or-set_other a.routes k j v 0 d)

-- one more below
pub below_more : (f : ℕ → ℕ) (k : ℕ) → ((j : ℕ) → j < k → f j < 256) → f k < 256 → (j : ℕ) → j < k + 1 → f j < 256
below_more f k h e j l = go (ℕ_discrete j k)
  where
    go : Dec (j ≡ k) → f j < 256
    go (yes z) = omega (arith, e, ap f z)
    go (no d) = h j (omega (arith, l, d))
