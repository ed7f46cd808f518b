-- A room as its parts, one after another: single words, then tables, each of a known size.
use Rattle.std.specs.Prelude.{ℕ, zero, suc, ◌+◌, List, [], ◌∷◌, ◌++◌, ◌≡◌, length, set, replicate}
use Rattle.words.specs.Counting.{upto}

-- the parts one after another
abbrev pub flat : List (List ℕ) → List ℕ
flat [] = []
flat (part ∷ parts) = part ++ flat parts

-- each part has the size that is said of it
abbrev pub Sized : List (List ℕ) → List ℕ → Type 0
Sized [] sizes = sizes ≡ []
Sized (part ∷ parts) [] = ⊥
Sized (part ∷ parts) (size ∷ sizes) = (length part ≡ size) × Sized parts sizes

-- where part i begins
abbrev pub place : List ℕ → ℕ → ℕ
place sizes zero = 0
place [] (suc i) = 0
place (size ∷ sizes) (suc i) = size + place sizes i

-- n words, the kth of them f k: a table that something else determines
abbrev pub made : ℕ → (ℕ → ℕ) → List ℕ
made zero f = []
made (suc n) f = f 0 ∷ made n (λ k. f (suc k))

-- parts of which nothing is stored yet
abbrev pub zeros : List ℕ → List (List ℕ)
zeros [] = []
zeros (size ∷ sizes) = replicate size 0 ∷ zeros sizes

-- n words stored one by one from a place on, the kth of them f k
abbrev pub stored : ℕ → (ℕ → ℕ) → List ℕ → ℕ → List ℕ
stored at f room n = upto (λ l k. set l (at + k) (f k)) room n
