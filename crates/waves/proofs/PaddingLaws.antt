-- A table with zeros behind its values writes what the values do.
use Prim.Native.Nat.{ℕ, zero, suc, ◌+◌, ◌-◌}
use mathlib.Core.Path.{◌≡◌, refl, ap}
use mathlib.Core.List.{List, [], ◌∷◌, ◌++◌}
use lib.ListN.{length, get_or, replicate}
use Rattle.text.specs.Phrases.{bytes}
use Rattle.vcd.specs.Dump.{values_from, changes_from, tick, first_tick, next_tick, ticks_from}
use Rattle.waves.specs.Signals.{eleven}

-- two tables that give the same values
abbrev pub Same : List ℕ → List ℕ → Type 0
Same u v = (k : ℕ) → get_or u k 0 ≡ get_or v k 0

pub same : (v : List ℕ) → Same v v
same v k = refl

zeros : (n k : ℕ) → get_or {A = ℕ} (replicate n 0) k 0 ≡ 0
zeros zero k = refl
zeros (suc n) zero = refl
zeros (suc n) (suc k) = zeros n k

behind : (v : List ℕ) (n k : ℕ) → get_or (v ++ replicate n 0) k 0 ≡ get_or v k 0
behind [] n k = zeros n k
behind (x ∷ v) n zero = refl
behind (x ∷ v) n (suc k) = behind v n k

pub padded : (v : List ℕ) → Same (eleven v) v
padded v k = behind v (11 - length v) k

values_same : (k : ℕ) (ws u v : List ℕ) → Same u v → values_from k ws u ≡ values_from k ws v
unfolding values_from
values_same k [] u v h = refl
values_same k (w ∷ ws) u v h = rw (h k, values_same (k + 1) ws u v h)

changes-same : (k : ℕ) (ws a b u v : List ℕ) → Same a b → Same u v → changes_from k ws a u ≡ changes_from k ws b v
unfolding changes_from
changes-same k [] a b u v g h = refl
changes-same k (w ∷ ws) a b u v g h = rw (g k, h k, changes-same (k + 1) ws a b u v g h)

pub first-same : (ws u v : List ℕ) → Same u v → first_tick ws u ≡ first_tick ws v
unfolding first_tick
first-same ws u v h = ap (λ (l : List ℕ). tick 0 ++ bytes "$dumpvars\n" ++ l ++ bytes "$end\n") (values_same 0 ws u v h)

pub next-same : (n : ℕ) (ws a b u v : List ℕ) → Same a b → Same u v → next_tick n ws a u ≡ next_tick n ws b v
unfolding next_tick
next-same n ws a b u v g h = ap (λ (l : List ℕ). tick n ++ l) (changes-same 0 ws a b u v g h)

pub ticks-same : (n : ℕ) (ws a b : List ℕ) (rest : List (List ℕ)) → Same a b → ticks_from n ws a rest ≡ ticks_from n ws b rest
unfolding ticks_from
ticks-same n ws a b [] g = refl
ticks-same n ws a b (v ∷ rest) g = ap (λ (l : List ℕ). l ++ ticks_from (n + 1) ws v rest) (next-same (n + 1) ws a b v v g (same v))
