-- What is promised of the kinds: which numbers they have, how each is configured, whose steps tell a privilege, and the line with each name.
use Rattle.std.specs.Prelude.{ℕ, ◌+◌, ◌≤◌, ◌≡◌, true, false, List, [], ◌∷◌, ◌↔◌, ◌⊎◌, eqb, length, set}
use Rattle.words.specs.Counting.{one}
use Rattle.kinds.specs.declared.Configuration.{Configuration}
use Rattle.kinds.specs.Kinds.{is_kind, wanted, within, tells_privilege, name}
use Rattle.kinds.specs.Configuration.{no_numbers, with_number, filled}

-- each of these numbers is within its limit, the first being the nth
abbrev pub Within : ℕ → ℕ → List ℕ → Type 0
Within kind nth [] = Unit
Within kind nth (v ∷ vs) = (within kind nth v ≡ true) × Within kind (nth + 1) vs

-- how many of these bytes end a line
unfoldable pub endings : List ℕ → ℕ
endings [] = 0
endings (b ∷ bs) = one (eqb b 10) + endings bs

pub record Promises : Type 0 where
  -- there are five kinds: 0, 1, 2, 3 and 4 (01, House trace; 02, 2/12 and 6/12)
  pub kinds : (kind : ℕ) → (is_kind kind ≡ true) ↔ ((kind ≡ 0) ⊎ ((kind ≡ 1) ⊎ ((kind ≡ 2) ⊎ ((kind ≡ 3) ⊎ (kind ≡ 4)))))
  -- the steps of kind 3, and of no other, tell by which privilege they are made (02, 2/12)
  pub tells : (kind : ℕ) → (tells_privilege kind ≡ true) ↔ (kind ≡ 3)
  -- an AIC has two configuration numbers, each any word (01, AIC, Configuration)
  pub aic_numbers : wanted 0 ≡ 2
  pub aic_limits : (v : ℕ) → (within 0 0 v ≡ true) × (within 0 1 v ≡ true)
  -- a CoreInterrupt has four: up to 8 FIQ sources, up to 32 IRQ sources, and two levels of 0 or 1 (01, CoreInterrupt)
  pub core_numbers : wanted 1 ≡ 4
  pub core_limits : (v : ℕ)
      → ((within 1 0 v ≡ true) ↔ (v ≤ 8)) × ((within 1 1 v ≡ true) ↔ (v ≤ 32)) × ((within 1 2 v ≡ true) ↔ (v ≤ 1)) × ((within 1 3 v ≡ true) ↔ (v ≤ 1))
  -- a CIC has four: 1 to 1,024 systems, 1 to 256 channels, 1 to 256 hosts, and any revision (01, CIC)
  pub cic_numbers : wanted 2 ≡ 4
  pub cic_limits : (v : ℕ)
      → ((within 2 0 v ≡ true) ↔ ((1 ≤ v) × (v ≤ 1024))) × ((within 2 1 v ≡ true) ↔ ((1 ≤ v) × (v ≤ 256)))
      × ((within 2 2 v ≡ true) ↔ ((1 ≤ v) × (v ≤ 256))) × (within 2 3 v ≡ true)
  -- an AINTC has none: no number configures it (02, 2/12)
  pub aintc_numbers : wanted 3 ≡ 0
  pub aintc_limits : (nth v : ℕ) → within 3 nth v ≡ false
  -- a CIC with prioritised indices has five: those of a CIC and the choice, 0 or 1 (02, 6/12; 01, CIC)
  pub indexed_numbers : wanted 4 ≡ 5
  pub indexed_limits : (v : ℕ)
      → ((within 4 0 v ≡ true) ↔ ((1 ≤ v) × (v ≤ 1024))) × ((within 4 1 v ≡ true) ↔ ((1 ≤ v) × (v ≤ 256)))
      × ((within 4 2 v ≡ true) ↔ ((1 ≤ v) × (v ≤ 256))) × (within 4 3 v ≡ true) × ((within 4 4 v ≡ true) ↔ (v ≤ 1))
  -- no number configures any other kind, and no kind has a number past its last one (01, House trace)
  pub none_wanted : (kind : ℕ) → is_kind kind ≡ false → wanted kind ≡ 0
  pub no_number : (kind nth value : ℕ) → wanted kind ≤ nth → within kind nth value ≡ false
  -- the line of a name: AIC, COREINTERRUPT, CIC, AINTC or again CIC and the end of the line, letter by letter; nothing of any other kind
  -- (01, House trace; 02, 2/12 and 6/12)
  pub aic_name : name 0 ≡ 65 ∷ 73 ∷ 67 ∷ 10 ∷ []
  pub core_name : name 1 ≡ 67 ∷ 79 ∷ 82 ∷ 69 ∷ 73 ∷ 78 ∷ 84 ∷ 69 ∷ 82 ∷ 82 ∷ 85 ∷ 80 ∷ 84 ∷ 10 ∷ []
  pub cic_name : name 2 ≡ 67 ∷ 73 ∷ 67 ∷ 10 ∷ []
  pub aintc_name : name 3 ≡ 65 ∷ 73 ∷ 78 ∷ 84 ∷ 67 ∷ 10 ∷ []
  pub indexed_name : name 4 ≡ 67 ∷ 73 ∷ 67 ∷ 10 ∷ []
  pub no_name : (kind : ℕ) → is_kind kind ≡ false → name kind ≡ []
  -- each is one line, of at most 14 bytes (01, House trace)
  pub name_line : (kind : ℕ) → is_kind kind ≡ true → endings (name kind) ≡ 1
  pub name_length : (kind : ℕ) → length (name kind) ≤ 14
  -- a configuration has five numbers, 0 before they are put; each is put at its own (01, House trace)
  pub blank_numbers : no_numbers.numbers ≡ 0 ∷ 0 ∷ 0 ∷ 0 ∷ 0 ∷ []
  pub number_put : (c : Configuration) (nth v : ℕ) → (with_number c nth v).numbers ≡ set c.numbers nth v
  pub two_put : (a b : ℕ) → (filled no_numbers 0 (a ∷ b ∷ [])).numbers ≡ a ∷ b ∷ 0 ∷ 0 ∷ 0 ∷ []
  pub four_put : (a b c d : ℕ) → (filled no_numbers 0 (a ∷ b ∷ c ∷ d ∷ [])).numbers ≡ a ∷ b ∷ c ∷ d ∷ 0 ∷ []
  pub five_put : (a b c d e : ℕ) → (filled no_numbers 0 (a ∷ b ∷ c ∷ d ∷ e ∷ [])).numbers ≡ a ∷ b ∷ c ∷ d ∷ e ∷ []
