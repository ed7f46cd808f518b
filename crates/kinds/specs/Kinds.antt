-- The kinds of controller: their numbers, how they are configured, their names, and whether their steps tell a privilege (01, "House trace"; 02, 2/12
-- and 6/12).
use Rattle.std.specs.Prelude.{ℕ, Bool, false, ◌||◌, List, [], ◌∷◌, eqb}
use Rattle.words.specs.Choice.{pick}
use Rattle.aic.specs.Model.{within as aic_within}
use Rattle.coreinterrupt.specs.Model.{within as core_within}
use Rattle.cic_record.specs.Sound.{within as cic_within}
use Rattle.cic_held.specs.Held.{within as indexed_within}

abbrev pub aic_kind : ℕ
aic_kind = 0

abbrev pub core_kind : ℕ
core_kind = 1

abbrev pub cic_kind : ℕ
cic_kind = 2

abbrev pub aintc_kind : ℕ
aintc_kind = 3

-- a CIC with prioritised indices (02, 6/12)
abbrev pub indexed_kind : ℕ
indexed_kind = 4

-- something for each kind, and for any other number
pub record Each (A : Type 0) : Type 0 where
  pub aic : A
  pub core : A
  pub cic : A
  pub aintc : A
  pub indexed : A
  pub none : A

-- what there is for this kind
unfoldable pub by_kind : {A : Type 0} → ℕ → Each A → A
by_kind kind e =
    pick (eqb kind aic_kind) e.aic
    (pick (eqb kind core_kind) e.core
    (pick (eqb kind cic_kind) e.cic
    (pick (eqb kind aintc_kind) e.aintc
    (pick (eqb kind indexed_kind) e.indexed
    e.none))))

-- there is a controller of this kind (01, House trace; 02, 2/12 and 6/12)
unfoldable pub is_kind : ℕ → Bool
is_kind kind = eqb kind aic_kind || eqb kind core_kind || eqb kind cic_kind || eqb kind aintc_kind || eqb kind indexed_kind

-- how many numbers configure it: two words; two counts and two levels; three counts and the revision; none; three counts, the revision and the choice
-- (01, AIC, CoreInterrupt, CIC; 02, 2/12 and 6/12)
unfoldable pub wanted : ℕ → ℕ
wanted kind = by_kind kind (record { aic = 2; core = 4; cic = 4; aintc = 0; indexed = 5; none = 0 })

-- the nth of them may have this value, as the model says; an AINTC has none (01, Numbers, 10; 02, 2/12 and 6/12)
unfoldable pub within : ℕ → ℕ → ℕ → Bool
within kind nth value =
    by_kind kind
    (record { aic = aic_within nth value; core = core_within nth value; cic = cic_within nth value; aintc = false; indexed = indexed_within nth value; none = false })

-- a privilege number follows each offset of its steps (02, 2/12)
abbrev pub tells_privilege : ℕ → Bool
tells_privilege kind = eqb kind aintc_kind

-- the first line of its listing: AIC, COREINTERRUPT, CIC or AINTC, and CIC once more (01, House trace; 02, 2/12 and 6/12)
unfoldable pub name : ℕ → List ℕ
name kind =
    by_kind kind
    (record {
      aic = 65 ∷ 73 ∷ 67 ∷ 10 ∷ [];
      core = 67 ∷ 79 ∷ 82 ∷ 69 ∷ 73 ∷ 78 ∷ 84 ∷ 69 ∷ 82 ∷ 82 ∷ 85 ∷ 80 ∷ 84 ∷ 10 ∷ [];
      cic = 67 ∷ 73 ∷ 67 ∷ 10 ∷ [];
      aintc = 65 ∷ 73 ∷ 78 ∷ 84 ∷ 67 ∷ 10 ∷ [];
      indexed = 67 ∷ 73 ∷ 67 ∷ 10 ∷ [];
      none = [];
    })
