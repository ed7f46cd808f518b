-- How a table may be typed: its numbers, with white space and comments between them; and the plain way (docs/STACK.md).
use Rattle.std.specs.Prelude.{ℕ, zero, suc, ◌+◌, ◌≤◌, ◌<◌, ◌≡◌, true, List, [], ◌∷◌, ◌++◌, ◌≢◌, ◌⊎◌, length, get_or, drop}
use Rattle.text.specs.Text.{decimal}
use Rattle.stack.specs.declared.Table.{Table}
use Rattle.tables.specs.Number.{is_number}

-- a space, a tab, a carriage return or a line feed
abbrev pub White : ℕ → Type 0
White b = (b ≡ 32) ⊎ ((b ≡ 9) ⊎ ((b ≡ 13) ⊎ (b ≡ 10)))

-- no byte of s is b
abbrev pub Without : ℕ → List ℕ → Type 0
Without b s = (k : ℕ) → k < length s → get_or s k 0 ≢ b

-- white space and comments with their line feeds, one after the other
pub data Gap : List ℕ → Type 0 where
  nothing : Gap []
  space : (b : ℕ) (g : List ℕ) → White b → Gap g → Gap (b ∷ g)
  comment : (c g : List ℕ) → Without 10 c → Gap g → Gap (35 ∷ (c ++ (10 ∷ g)))

-- the text is at its end, or goes on with white space or a comment
abbrev pub Parted : List ℕ → Type 0
Parted s = (s ≡ []) ⊎ (White (get_or s 0 0) ⊎ (get_or s 0 0 ≡ 35))

-- these numbers one after the other, a gap before each and behind the last, where a comment may be left open
pub data Spread : List (List ℕ) → List ℕ → Type 0 where
  done : (g : List ℕ) → Gap g → Spread [] g
  left_open : (g c : List ℕ) → Gap g → Without 10 c → Spread [] (g ++ (35 ∷ c))
  more : (g w : List ℕ) (ws : List (List ℕ)) (s : List ℕ) → Gap g → is_number w ≡ true → Parted s → Spread ws s → Spread (w ∷ ws) (g ++ (w ++ s))

-- ---- names

-- a byte of a name: printable ASCII without " & < and >
abbrev pub NameByte : ℕ → Type 0
NameByte b = (32 ≤ b) × (b ≤ 126) × (b ≢ 34) × (b ≢ 38) × (b ≢ 60) × (b ≢ 62)

-- at an offset of a text stands a name of n bytes in its quotes, parted from what follows
pub record NameAt (s : List ℕ) (at n : ℕ) : Type 0 where
  pub opened : get_or s at 0 ≡ 34
  pub some : 1 ≤ n
  pub most : n ≤ 24
  pub each : (k : ℕ) → k < n → NameByte (get_or s (at + 1 + k) 0)
  pub closed : get_or s (at + n + 1) 0 ≡ 34
  pub parted : Parted (drop (at + n + 2) s)

-- a name: up to 24 such bytes, and none where a source has no name
pub record Name (w : List ℕ) : Type 0 where
  pub most : length w ≤ 24
  pub each : (k : ℕ) → k < length w → NameByte (get_or w k 0)

-- ---- the plain way

-- a line for each of k sources from the ith on, with its three numbers in decimal and what stands behind them, then a line for each of the last two numbers
unfoldable pub lines_from : Table → (ℕ → List ℕ) → ℕ → ℕ → List ℕ
lines_from t behind zero i = decimal t.forced ++ (10 ∷ (decimal t.mark ++ (10 ∷ [])))
lines_from t behind (suc k) i =
    decimal (get_or t.priority i 0)
    ++ (32 ∷ (decimal (get_or t.kind i 0) ++ (32 ∷ (decimal (get_or t.frame i 0) ++ (behind i ++ (10 ∷ lines_from t behind k (i + 1)))))))

abbrev pub plain : Table → List ℕ
plain t = lines_from t (λ i. []) 32 0

-- a space, and the name in its quotes; nothing where there is no name
unfoldable pub in_quotes : List ℕ → List ℕ
in_quotes [] = []
in_quotes (b ∷ bs) = 32 ∷ 34 ∷ (b ∷ (bs ++ (34 ∷ [])))

-- with a name behind the numbers of each source that has one
abbrev pub plain_named : Table → (ℕ → List ℕ) → List ℕ
plain_named t name = lines_from t (λ i. in_quotes (name i)) 32 0
