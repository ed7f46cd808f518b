-- What stands in a part of a room, and what one store to it, or a store to each word of it, makes of the room. Whatever the parts are: a controller's
-- layout is a list of parts and one of their sizes, and these laws are all that it needs to know of lists.
use mathlib.Core.Path.{◌≡◌, refl, sym, ap, ap₂, ◌∙◌}
use mathlib.Core.List.{List, [], ◌∷◌, ◌++◌, append-nil}
use Prim.Native.Nat.{ℕ, zero, suc, ◌+◌, ◌<◌, ◌≤◌}
use native.Mathlib.Nat.{zero-add, suc-add, add_assoc}
use native.Mathlib.Decide.{ℕ_discrete}
use native.Mathlib.Omega.{arith}
use lib.ListN.{length, get_or, set, take, drop, replicate, get_or-append, length-set, length-replicate, drop_of_length-le, length-append, replicate-append-replicate}
use lib.Seq.{set-append_left, get_or-append-add, get_or-set_same, get_or-set_other, ext_get_or, set-set, set-get_or, paste-suc, take_all}
use Rattle.words.specs.Counting.{upto}
use Rattle.rooms.specs.Parts.{flat, Sized, place, made, zeros, stored}

-- ---- past a list

set-add : (xs ys : List ℕ) (k v : ℕ) → set (xs ++ ys) (length xs + k) v ≡ xs ++ set ys k v
set-add [] ys k v = ap (λ (n : ℕ). set ys n v) (zero-add k)
set-add (x ∷ xs) ys k v = ap (λ (n : ℕ). set (x ∷ (xs ++ ys)) n v) (suc-add (length xs) k) ∙ ap (λ (r : List ℕ). x ∷ r) (set-add xs ys k v)

-- a store past the first n is one in what follows them
set_past : (xs ys zs : List ℕ) (n k v : ℕ) → length xs ≡ n → set ys k v ≡ zs → set (xs ++ ys) (n + k) v ≡ xs ++ zs
set_past xs ys zs n k v e f = ap (λ (m : ℕ). set (xs ++ ys) (m + k) v) (sym e) ∙ set-add xs ys k v ∙ ap (λ (r : List ℕ). xs ++ r) f

-- what stands past the first n
get-past : (xs ys : List ℕ) (n k v : ℕ) → length xs ≡ n → get_or ys k 0 ≡ v → get_or (xs ++ ys) (n + k) 0 ≡ v
get-past xs ys n k v e f = ap (λ (m : ℕ). get_or (xs ++ ys) (m + k) 0) (sym e) ∙ get_or-append-add xs ys k 0 ∙ f

-- ---- one word of a part

-- what stands there
pub part_get : (parts : List (List ℕ)) (sizes : List ℕ) → Sized parts sizes → (i k : ℕ) → k < get_or sizes i 0 → get_or (flat parts) (place sizes i + k) 0 ≡ get_or (get_or parts i []) k 0
part_get [] sizes s i k l = refl
part_get (p ∷ ps) [] s i k l = absurd s
part_get (p ∷ ps) (n ∷ ns) s zero k l = ap (λ (m : ℕ). get_or (p ++ flat ps) m 0) (zero-add k) ∙ get_or-append p (flat ps) 0 k (omega (arith, s.0, l))
part_get (p ∷ ps) (n ∷ ns) s (suc i) k l =
    ap (λ (m : ℕ). get_or (p ++ flat ps) m 0) (add_assoc n (place ns i) k) ∙ get-past p (flat ps) n (place ns i + k) _ s.0 (part_get ps ns s.1 i k l)

-- the room after a store to it
pub part-set : (parts : List (List ℕ)) (sizes : List ℕ) → Sized parts sizes → (i k v : ℕ) → k < get_or sizes i 0
    → set (flat parts) (place sizes i + k) v ≡ flat (set parts i (set (get_or parts i []) k v))
part-set [] sizes s i k v l = refl
part-set (p ∷ ps) [] s i k v l = absurd s
part-set (p ∷ ps) (n ∷ ns) s zero k v l = ap (λ (m : ℕ). set (p ++ flat ps) m v) (zero-add k) ∙ set-append_left p (flat ps) k v (omega (arith, s.0, l))
part-set (p ∷ ps) (n ∷ ns) s (suc i) k v l =
    ap (λ (m : ℕ). set (p ++ flat ps) m v) (add_assoc n (place ns i) k) ∙ set_past p (flat ps) _ n (place ns i + k) v s.0 (part-set ps ns s.1 i k v l)

-- ---- all words of a part

-- another part of the same size
pub part_sized : (parts : List (List ℕ)) (sizes : List ℕ) → Sized parts sizes → (i : ℕ) (xs : List ℕ) → length xs ≡ get_or sizes i 0 → Sized (set parts i xs) sizes
part_sized [] sizes s i xs e = s
part_sized (p ∷ ps) [] s i xs e = absurd s
part_sized (p ∷ ps) (n ∷ ns) s zero xs e = (e, s.1)
part_sized (p ∷ ps) (n ∷ ns) s (suc i) xs e = (s.0, part_sized ps ns s.1 i xs e)

-- a part has its size
sized_at : (parts : List (List ℕ)) (sizes : List ℕ) → Sized parts sizes → (i : ℕ) → i < length parts → length (get_or parts i []) ≡ get_or sizes i 0
sized_at [] sizes s i l = absurd (omega (arith, l))
sized_at (p ∷ ps) [] s i l = absurd s
sized_at (p ∷ ps) (n ∷ ns) s zero l = s.0
sized_at (p ∷ ps) (n ∷ ns) s (suc i) l = sized_at ps ns s.1 i (omega (arith, l))

-- how long a room is
pub flat-length : (parts : List (List ℕ)) (sizes : List ℕ) → Sized parts sizes → length (flat parts) ≡ place sizes (length sizes)
flat-length [] sizes s = ap (λ (l : List ℕ). place l (length l)) (sym s)
flat-length (p ∷ ps) [] s = absurd s
flat-length (p ∷ ps) (n ∷ ns) s = length-append p (flat ps) ∙ ap₂ (λ (x y : ℕ). x + y) s.0 (flat-length ps ns s.1)

-- a list after m stores to its first words
abbrev over : (ℕ → ℕ) → List ℕ → ℕ → List ℕ
over f ys m = upto (λ l k. set l k (f k)) ys m

length_over : (f : ℕ → ℕ) (ys : List ℕ) (m : ℕ) → length (over f ys m) ≡ length ys
unfolding upto
length_over f ys zero = refl
length_over f ys (suc m) = length-set (over f ys m) m (f m) ∙ length_over f ys m

-- stores one by one are stores in the part
stored_in : (parts : List (List ℕ)) (sizes : List ℕ) → Sized parts sizes → (i : ℕ) → i < length parts → (f : ℕ → ℕ) (m : ℕ) → m ≤ get_or sizes i 0
    → stored (place sizes i) f (flat parts) m ≡ flat (set parts i (over f (get_or parts i []) m))
unfolding upto
stored_in ps ns s i b f zero l = ap flat (sym (set-get_or ps i []))
stored_in ps ns s i b f (suc m) l =
    let q = over f (get_or ps i []) m in
    let e : length q ≡ get_or ns i 0 = length_over f (get_or ps i []) m ∙ sized_at ps ns s i b in
    ap (λ (r : List ℕ). set r (place ns i + m) (f m)) (stored_in ps ns s i b f m (omega (arith, l)))
    ∙ part-set (set ps i q) ns (part_sized ps ns s i q e) i m (f m) (omega (arith, l))
    ∙ ap (λ (r : List ℕ). flat (set (set ps i q) i (set r m (f m)))) (get_or-set_same ps i q [] b)
    ∙ ap flat (set-set ps i q (set q m (f m)))

-- as many elements of xs as a list has, stored over it
over-all : (xs ys : List ℕ) → length ys ≡ length xs → over (λ k. get_or xs k 0) ys (length xs) ≡ xs
unfolding upto
over-all xs ys e = pasted (length xs) (omega arith) ∙ ap (λ (r : List ℕ). r ++ drop (0 + length xs) ys) (take_all (length xs) xs (omega arith)) ∙ ended
  where
    pasted : (m : ℕ) → m ≤ length xs → over (λ k. get_or xs k 0) ys m ≡ take m xs ++ drop (0 + m) ys
    pasted zero l = refl
    pasted (suc m) l = ap (λ (r : List ℕ). set r m (get_or xs m 0)) (pasted m (omega (arith, l))) ∙ ap (λ (n : ℕ). set (take m xs ++ drop (0 + m) ys) n (get_or xs m 0)) (sym (zero-add m)) ∙ paste-suc ys 0 xs m 0 (omega (arith, l, e)) (omega (arith, l))

    ended : xs ++ drop (0 + length xs) ys ≡ xs
    ended = ap (λ (r : List ℕ). xs ++ r) (drop_of_length-le ys {i = 0 + length xs} (omega (arith, e))) ∙ append-nil xs

-- a list copied into a part
pub part_copied : (parts : List (List ℕ)) (sizes : List ℕ) → Sized parts sizes → (i : ℕ) → i < length parts → (xs : List ℕ) (n : ℕ) → length xs ≡ n → n ≡ get_or sizes i 0
    → stored (place sizes i) (λ k. get_or xs k 0) (flat parts) n ≡ flat (set parts i xs)
part_copied ps ns s i b xs n e d =
    stored_in ps ns s i b (λ k. get_or xs k 0) n (omega (arith, d))
    ∙ ap (λ (m : ℕ). flat (set ps i (over (λ k. get_or xs k 0) (get_or ps i []) m))) (sym e)
    ∙ ap (λ (r : List ℕ). flat (set ps i r)) (over-all xs (get_or ps i []) (sized_at ps ns s i b ∙ sym (e ∙ d)))

-- a table that is made has its length, and word k is f k
pub made-length : (n : ℕ) (f : ℕ → ℕ) → length (made n f) ≡ n
made-length zero f = refl
made-length (suc n) f = ap suc (made-length n (λ k. f (suc k)))

pub made_get : (n : ℕ) (f : ℕ → ℕ) (k : ℕ) → k < n → get_or (made n f) k 0 ≡ f k
made_get zero f k l = absurd (omega (arith, l))
made_get (suc n) f zero l = refl
made_get (suc n) f (suc k) l = made_get n (λ j. f (suc j)) k (omega (arith, l))

-- two are one where they agree word by word
pub made-same : (n : ℕ) (f g : ℕ → ℕ) → ((k : ℕ) → k < n → f k ≡ g k) → made n f ≡ made n g
made-same n f g e =
    ext_get_or 0 (made n f) (made n g) (made-length n f ∙ sym (made-length n g))
    (λ k l. let m : k < n = omega (arith, l, made-length n f) in made_get n f k m ∙ e k m ∙ sym (made_get n g k m))

-- one word of it stored
pub made-set : (n : ℕ) (f g : ℕ → ℕ) (k : ℕ) → k < n → ((j : ℕ) → (j ≡ k → ⊥) → g j ≡ f j) → set (made n f) k (g k) ≡ made n g
made-set n f g k l e =
    ext_get_or 0 (set (made n f) k (g k)) (made n g) (length-set (made n f) k (g k) ∙ made-length n f ∙ sym (made-length n g))
    (λ j m. go j (omega (arith, m, length-set (made n f) k (g k), made-length n f)) (ℕ_discrete j k))
  where
    go : (j : ℕ) → j < n → Dec (j ≡ k) → get_or (set (made n f) k (g k)) j 0 ≡ get_or (made n g) j 0
    go j m (yes z) =
        ap (λ (i : ℕ). get_or (set (made n f) k (g k)) i 0) z ∙ get_or-set_same (made n f) k (g k) 0 (omega (arith, l, made-length n f)) ∙ ap g (sym z) ∙ sym (made_get n g j m)
    go j m (no d) = get_or-set_other (made n f) k j (g k) 0 d ∙ made_get n f j m ∙ sym (e j d) ∙ sym (made_get n g j m)

-- what stands in a list after stores to its first m words
over_get : (f : ℕ → ℕ) (ys : List ℕ) (m k : ℕ) → m ≤ length ys → k < m → get_or (over f ys m) k 0 ≡ f k
unfolding upto
over_get f ys zero k l h = absurd (omega (arith, h))
over_get f ys (suc m) k l h = go (λ d. over_get f ys m k (omega (arith, l)) (omega (arith, h, d))) (ℕ_discrete k m)
  where
    go : ((k ≡ m → ⊥) → get_or (over f ys m) k 0 ≡ f k) → Dec (k ≡ m) → get_or (set (over f ys m) m (f m)) k 0 ≡ f k
    go r (yes z) = ap (λ (i : ℕ). get_or (set (over f ys m) m (f m)) i 0) z ∙ get_or-set_same (over f ys m) m (f m) 0 (omega (arith, l, length_over f ys m)) ∙ ap f (sym z)
    go r (no d) = get_or-set_other (over f ys m) m k (f m) 0 d ∙ r d

over-made : (f : ℕ → ℕ) (ys : List ℕ) (n : ℕ) → length ys ≡ n → over f ys n ≡ made n f
over-made f ys n e =
    ext_get_or 0 (over f ys n) (made n f) (length_over f ys n ∙ e ∙ sym (made-length n f))
    (λ k l. let m : k < n = omega (arith, l, length_over f ys n, e) in over_get f ys n k (omega (arith, e)) m ∙ sym (made_get n f k m))

-- a table made in a part
pub part-made : (parts : List (List ℕ)) (sizes : List ℕ) → Sized parts sizes → (i : ℕ) → i < length parts → (f : ℕ → ℕ) (n : ℕ) → n ≡ get_or sizes i 0
    → stored (place sizes i) f (flat parts) n ≡ flat (set parts i (made n f))
part-made ps ns s i b f n e =
    stored_in ps ns s i b f n (omega (arith, e)) ∙ ap (λ (r : List ℕ). flat (set ps i r)) (over-made f (get_or ps i []) n (sized_at ps ns s i b ∙ sym e))

-- ---- a room of zeros

pub zeros_sized : (sizes : List ℕ) → Sized (zeros sizes) sizes
zeros_sized [] = refl
zeros_sized (n ∷ ns) = (length-replicate n 0, zeros_sized ns)

pub zeros-flat : (sizes : List ℕ) → replicate (place sizes (length sizes)) 0 ≡ flat (zeros sizes)
zeros-flat [] = refl
zeros-flat (n ∷ ns) = sym (replicate-append-replicate n (place ns (length ns)) 0) ∙ ap (λ (r : List ℕ). replicate n 0 ++ r) (zeros-flat ns)
