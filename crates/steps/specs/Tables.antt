-- When each number is given, as sentences: every model promises these of its own reads, writes and line steps.
use Rattle.std.specs.Prelude.{ℕ, ◌%◌, ◌<◌, ◌≤◌, ◌≡◌, Bool, true, false, ◌↔◌, ◌≢◌, ◌⊎◌}
use Rattle.steps.specs.declared.Access.{Access}
use Rattle.steps.specs.declared.Access.TheVariants.{NoRegister, ReadOnly, WriteOnly, ReadWrite}

-- the register may be read
abbrev pub Readable : Access → Type 0
Readable access = (access ≡ ReadOnly) ⊎ (access ≡ ReadWrite)

-- the register takes writes
abbrev pub Writable : Access → Type 0
Writable access = (access ≡ WriteOnly) ⊎ (access ≡ ReadWrite)

-- n is what a read answers of a record that is sound or not, at an offset whose register allows this access
pub record ReadTable (sound : Bool) (offset : ℕ) (access : Access) (n : ℕ) : Type 0 where
  pub twelve : (n ≡ 12) ↔ (sound ≡ false)
  pub one : (n ≡ 1) ↔ ((sound ≡ true) × (offset % 4 ≢ 0))
  pub two : (n ≡ 2) ↔ ((sound ≡ true) × ((offset % 4 ≡ 0) × (access ≡ NoRegister)))
  pub three : (n ≡ 3) ↔ ((sound ≡ true) × ((offset % 4 ≡ 0) × (access ≡ WriteOnly)))
  pub none : (n ≡ 0) ↔ ((sound ≡ true) × ((offset % 4 ≡ 0) × Readable access))

-- n is what a write answers, of a value that is refused by the number `value`, or not if that is 0
pub record WriteTable (sound : Bool) (offset : ℕ) (access : Access) (value n : ℕ) : Type 0 where
  pub twelve : (n ≡ 12) ↔ (sound ≡ false)
  pub one : (n ≡ 1) ↔ ((sound ≡ true) × (offset % 4 ≢ 0))
  pub two : (n ≡ 2) ↔ ((sound ≡ true) × ((offset % 4 ≡ 0) × (access ≡ NoRegister)))
  pub four : (n ≡ 4) ↔ ((sound ≡ true) × ((offset % 4 ≡ 0) × (access ≡ ReadOnly)))
  pub five : (n ≡ 5) ↔ ((sound ≡ true) × ((offset % 4 ≡ 0) × (Writable access × (value ≡ 5))))
  pub six : (n ≡ 6) ↔ ((sound ≡ true) × ((offset % 4 ≡ 0) × (Writable access × (value ≡ 6))))
  pub none : (n ≡ 0) ↔ ((sound ≡ true) × ((offset % 4 ≡ 0) × (Writable access × (value ≡ 0))))

-- n is what a line step answers
pub record LineTable (sound : Bool) (inputs line level n : ℕ) : Type 0 where
  pub twelve : (n ≡ 12) ↔ (sound ≡ false)
  pub six : (n ≡ 6) ↔ ((sound ≡ true) × ((inputs ≤ line) ⊎ (1 < level)))
  pub none : (n ≡ 0) ↔ ((sound ≡ true) × ((line < inputs) × (level ≤ 1)))
