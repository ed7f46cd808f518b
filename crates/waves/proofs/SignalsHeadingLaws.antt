-- The heading of each kind, as it is read: its names hold no line feed.
use Prim.Native.Nat.{ℕ, ◌+◌, ◌%◌, ◌<◌, ◌≤◌}
use mathlib.Core.Path.{◌≡◌, refl, sym}
use mathlib.Core.Bool.{Bool, true, not, ◌&&◌}
use mathlib.Core.Logic.{⊎_elim}
use mathlib.Core.List.{List, [], ◌∷◌, ◌++◌}
use native.Mathlib.Omega.{arith}
use lib.Dec.{eqb}
use lib.ListN.{length, get_or}
use Rattle.words.proofs.TruthLaws.{and_left, and_right}
use Rattle.words.specs.Choice.{pick}
use Rattle.words.specs.Counting.{all_below}
use Rattle.text.specs.Text.{decimal_of}
use Rattle.text.specs.Phrases.{bytes}
use Rattle.vcd.specs.Dump.{Signal, opening, declared, declaration, declarations, heading}
use Rattle.vcd.specs.Promises.{Named, Quiet}
use Rattle.vcd.specs.Replay.{lines_of, identifiers}
use Rattle.vcd.proofs.LineLaws.{one_tested}
use Rattle.vcd.proofs.Promises.{kept as vcd}
use Rattle.kinds.specs.Kinds.{by_kind, is_kind, name}
use Rattle.kinds.proofs.KindLaws.{KindOf, is_aic, is_core, is_cic, is_aintc, is_indexed, is_none, kind_of, known}
use Rattle.waves.specs.Signals.{own_rows, rows, signals}

-- ---- names without a line feed

abbrev plain : List ℕ → Bool
plain l = all_below (length l) (λ k. not (eqb (get_or l k 0) 10))

unfoldable all_plain : List Signal → Bool
all_plain [] = true
all_plain (d ∷ ds) = plain d.name && all_plain ds

named : (ds : List Signal) → all_plain ds ≡ true → Named ds
unfolding all_plain
named [] e = tt
named (d ∷ ds) e = (one_tested d.name (and_left (plain d.name) (all_plain ds) e), named ds (and_right (plain d.name) (all_plain ds) e))

-- what a kind is called, and that its names are such
record Lined (kind : ℕ) : Type 0 where
  pub called : List ℕ
  pub ends : called ++ (10 ∷ []) ≡ name kind
  pub one : plain called ≡ true
  pub all : all_plain (signals kind) ≡ true

-- the text of each kind
unfoldable texts : Unit {0}
unfolding bytes by_kind name signals rows own_rows pick all_below all_plain
texts = tt

lined_aic : Lined 0
unfolding texts
lined_aic = record { called = bytes "AIC"; ends = refl; one = refl; all = refl }

lined_core : Lined 1
unfolding texts
lined_core = record { called = bytes "COREINTERRUPT"; ends = refl; one = refl; all = refl }

lined-cic : Lined 2
unfolding texts
lined-cic = record { called = bytes "CIC"; ends = refl; one = refl; all = refl }

lined_aintc : Lined 3
unfolding texts
lined_aintc = record { called = bytes "AINTC"; ends = refl; one = refl; all = refl }

lined-indexed : Lined 4
unfolding texts
lined-indexed = record { called = bytes "CIC"; ends = refl; one = refl; all = refl }

lined : (kind : ℕ) → is_kind kind ≡ true → Lined kind
lined kind h = go (kind_of kind)
  where
    go : KindOf kind → Lined kind
    go (is_aic k) = rw k lined_aic
    go (is_core k) = rw k lined_core
    go (is_cic k) = rw k lined-cic
    go (is_aintc k) = rw k lined_aintc
    go (is_indexed k) = rw k lined-indexed
    go (is_none a b c d e) = absurd (⊎_elim a (⊎_elim b (⊎_elim c (⊎_elim d e))) ((known kind).0 h))

-- ---- the heading

module _ (kind : ℕ) (h : is_kind kind ≡ true) where
  of-kind : Lined kind
  of-kind = lined kind h

  pub quiet : Quiet (heading (name kind) (signals kind))
  quiet t bs =
      let l = of-kind in
      rw (sym l.ends) (vcd.quiet l.called (signals kind) (one_tested l.called l.one) (named (signals kind) l.all) t bs)

  pub declares-all : length (identifiers (lines_of (heading (name kind) (signals kind)))) ≡ length (signals kind)
  declares-all =
      let l = of-kind in
      rw (sym l.ends) (vcd.declares_all l.called (signals kind) (one_tested l.called l.one) (named (signals kind) l.all))

  pub declares-nth : (k : ℕ) → k < length (signals kind) → get_or (identifiers (lines_of (heading (name kind) (signals kind)))) k 0 ≡ 33 + k % 94
  declares-nth k m =
      let l = of-kind in
      rw (sym l.ends) (vcd.declares_nth l.called (signals kind) k (one_tested l.called l.one) (named (signals kind) l.all) m)

-- ---- how long it is

unfoldable written : Unit {0}
unfolding texts heading opening declared declaration declarations decimal_of
written = tt

long_aic : length (heading (name 0) (signals 0)) ≡ 454
unfolding written
long_aic = refl

long_core : length (heading (name 1) (signals 1)) ≡ 420
unfolding written
long_core = refl

long-cic : length (heading (name 2) (signals 2)) ≡ 299
unfolding written
long-cic = refl

long_aintc : length (heading (name 3) (signals 3)) ≡ 420
unfolding written
long_aintc = refl

long-indexed : length (heading (name 4) (signals 4)) ≡ 299
unfolding written
long-indexed = refl

pub most : (kind : ℕ) → is_kind kind ≡ true → length (heading (name kind) (signals kind)) ≤ 454
most kind h = go (kind_of kind)
  where
    go : KindOf kind → length (heading (name kind) (signals kind)) ≤ 454
    go (is_aic k) = rw k (omega (arith, long_aic))
    go (is_core k) = rw k (omega (arith, long_core))
    go (is_cic k) = rw k (omega (arith, long-cic))
    go (is_aintc k) = rw k (omega (arith, long_aintc))
    go (is_indexed k) = rw k (omega (arith, long-indexed))
    go (is_none a b c d e) = absurd (⊎_elim a (⊎_elim b (⊎_elim c (⊎_elim d e))) ((known kind).0 h))
