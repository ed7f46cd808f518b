-- What is promised of the checks: each number is given exactly when the table of 01 says.
use Rattle.std.specs.Prelude.{ℕ, ◌≡◌, Bool, ◌⊎◌}
use Rattle.steps.specs.declared.Access.{Access}
use Rattle.steps.specs.Refusals.{carried_out, misaligned, absent, unreadable, unwritable, protecting, beyond, limit_reached, damaged, unknown}
use Rattle.steps.specs.Refusals.{misconfigured, too_long, unsound, unprivileged, oversized, upward, overfull, unopened, privileged, read_refusal, write_refusal, line_refusal}
use Rattle.steps.specs.Tables.{ReadTable, WriteTable, LineTable}

-- a value is refused by 5, by 6 or not at all
abbrev pub ValueNumber : ℕ → Type 0
ValueNumber value = (value ≡ 0) ⊎ ((value ≡ 5) ⊎ (value ≡ 6))

-- the numbers under their names, in the order of the table; 0 is given where nothing is refused (01, Numbers)
pub record Numbers : Type 0 where
  pub none : carried_out ≡ 0
  pub twelve : unsound ≡ 12
  pub one : misaligned ≡ 1
  pub two : absent ≡ 2
  pub three : unreadable ≡ 3
  pub four : unwritable ≡ 4
  pub five : protecting ≡ 5
  pub six : beyond ≡ 6
  pub seven : limit_reached ≡ 7
  pub eight : damaged ≡ 8
  pub nine : unknown ≡ 9
  pub ten : misconfigured ≡ 10
  pub eleven : too_long ≡ 11
  pub thirteen : unprivileged ≡ 13
  pub fourteen : oversized ≡ 14
  pub fifteen : upward ≡ 15
  pub sixteen : overfull ≡ 16
  pub seventeen : unopened ≡ 17

pub record Promises : Type 0 where
  -- each name is the number that the table gives (01, Numbers)
  pub numbers : Numbers
  -- where a trace tells no privilege, it is 1 (02, 2/12)
  pub plain : privileged ≡ 1
  -- a read is refused by 12, 1, 2 and 3 exactly when the table says (01, Numbers)
  pub reads : (sound : Bool) (offset : ℕ) (access : Access) → ReadTable sound offset access (read_refusal sound offset access)
  -- a write is refused by 12, 1, 2, 4, 5 and 6 exactly when the table says (01, Numbers)
  pub writes : (sound : Bool) (offset : ℕ) (access : Access) (value : ℕ) → ValueNumber value
      → WriteTable sound offset access value (write_refusal sound offset access value)
  -- a line step is refused by 12 and 6 exactly when the table says (01, Numbers)
  pub lines : (sound : Bool) (inputs line level : ℕ) → LineTable sound inputs line level (line_refusal sound inputs line level)
