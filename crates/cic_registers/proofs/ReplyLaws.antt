-- What a read replies, by what the register may be used for.
use mathlib.Core.Path.{◌≡◌, sym, ap, ◌∙◌}
use Prim.Native.Nat.{ℕ}
use lib.Dec.{ltb}
use Rattle.words.specs.Choice.{pick}
use Rattle.words.proofs.ChoiceLaws.{pick-ap}
use Rattle.steps.specs.declared.Access.{Access}
use Rattle.steps.specs.declared.Access.TheVariants.{NoRegister, ReadOnly, WriteOnly, ReadWrite}
use Rattle.steps.specs.Refusals.{absent, unreadable, read_access}
use Rattle.cic_record.specs.Parts.{refused_reply, answered_reply}
use Rattle.cic_registers.specs.Map.{if_any}
use Rattle.cic_registers.specs.Access.{reply_by}

-- ---- a register that allows a

pub absent-read : {a : Access} (v : ℕ) → a ≡ NoRegister → refused_reply absent ≡ reply_by (read_access a) v
unfolding pick
absent-read v e = sym (ap (λ (x : Access). reply_by (read_access x) v) e)

pub unreadable-read : {a : Access} (v : ℕ) → a ≡ WriteOnly → refused_reply unreadable ≡ reply_by (read_access a) v
unfolding pick
unreadable-read v e = sym (ap (λ (x : Access). reply_by (read_access x) v) e)

pub only-read : {a : Access} (v : ℕ) → a ≡ ReadOnly → answered_reply v ≡ reply_by (read_access a) v
unfolding pick
only-read v e = sym (ap (λ (x : Access). reply_by (read_access x) v) e)

pub plain-read : {a : Access} (v : ℕ) → a ≡ ReadWrite → answered_reply v ≡ reply_by (read_access a) v
unfolding pick
plain-read v e = sym (ap (λ (x : Access). reply_by (read_access x) v) e)

-- a register of a group, by the code's test that it is there
pub group-read : (first n : ℕ) {a : Access} (v : ℕ) → a ≡ if_any first n → pick (ltb first n) (answered_reply v) (refused_reply absent) ≡ reply_by (read_access a) v
unfolding pick
group-read first n v e = sym (ap (λ (x : Access). reply_by (read_access x) v) e ∙ pick-ap (λ (x : Access). reply_by (read_access x) v) (ltb first n) ReadWrite NoRegister)
