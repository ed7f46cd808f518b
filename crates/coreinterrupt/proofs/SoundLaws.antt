-- A record that is not sound: every step is refused by 12.
use mathlib.Core.Path.{◌≡◌}
use mathlib.Core.Bool.{false}
use Prim.Native.Nat.{ℕ}
use Rattle.words.specs.Choice.{pick}
use Rattle.steps.specs.declared.Step.{Step}
use Rattle.steps.specs.declared.Step.TheVariants.{Read, Write, Line}
use Rattle.steps.specs.Refusals.{unsound, read_refusal, write_refusal, line_refusal}
use Rattle.coreinterrupt.specs.declared.Core.{Core}
use Rattle.coreinterrupt.specs.Model.{sound, refused, unless_refused, read, write, line, step}

pub read-unsound : (c : Core) (o : ℕ) → sound c ≡ false → refused c unsound ≡ read c o
unfolding read read_refusal unless_refused pick
read-unsound c o h = rw h

pub write-unsound : (c : Core) (o v : ℕ) → sound c ≡ false → refused c unsound ≡ write c o v
unfolding write write_refusal unless_refused pick
write-unsound c o v h = rw h

pub line-unsound : (c : Core) (k l : ℕ) → sound c ≡ false → refused c unsound ≡ line c k l
unfolding line line_refusal unless_refused pick
line-unsound c k l h = rw h

pub step-unsound : (c : Core) (x : Step) → sound c ≡ false → refused c unsound ≡ step c x
step-unsound c (Read o) h = read-unsound c o h
step-unsound c (Write o v) h = write-unsound c o v h
step-unsound c (Line k l) h = line-unsound c k l h
