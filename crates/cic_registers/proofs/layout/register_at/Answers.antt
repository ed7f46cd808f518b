-- That `register_at` of src/layout.rt keeps its contract.
use Rattle.cic_registers.specs.Map.{register_at}
use Rattle.words.specs.Choice.{pick}
use borrow.Author.Tests.{lt-ltb, le-ltb}
use mathlib.Core.Path.{◌∙◌}
use Rattle.cic_registers.proofs.layout.register_at.Goals as goal

pub returns-then-offset-lt512 : goal.returns-then-offset-lt512
unfolding register_at pick
returns-then-offset-lt512 c = c.single_at.ensures ∙ simp (lt-ltb _ _ c.if-offset-lt512.true)

pub returns-then-offset-lt640 : goal.returns-then-offset-lt640
unfolding register_at pick
returns-then-offset-lt640 c = simp (le-ltb _ _ c.if-offset-lt512.false, lt-ltb _ _ c.if-offset-lt640.true)

pub returns-then-offset-lt768 : goal.returns-then-offset-lt768
unfolding register_at pick
returns-then-offset-lt768 c = simp (le-ltb _ _ c.if-offset-lt512.false, le-ltb _ _ c.if-offset-lt640.false, lt-ltb _ _ c.if-offset-lt768.true)

pub returns-then-offset-lt896 : goal.returns-then-offset-lt896
unfolding register_at pick
returns-then-offset-lt896 c = simp (le-ltb _ _ c.if-offset-lt512.false, le-ltb _ _ c.if-offset-lt640.false, le-ltb _ _ c.if-offset-lt768.false, lt-ltb _ _ c.if-offset-lt896.true)

pub returns-then-offset-lt1024 : goal.returns-then-offset-lt1024
unfolding register_at pick
returns-then-offset-lt1024 c = simp (le-ltb _ _ c.if-offset-lt512.false, le-ltb _ _ c.if-offset-lt640.false, le-ltb _ _ c.if-offset-lt768.false, le-ltb _ _ c.if-offset-lt896.false, lt-ltb _ _ c.if-offset-lt1024.true)

pub returns-then-offset-lt2048 : goal.returns-then-offset-lt2048
unfolding register_at pick
returns-then-offset-lt2048 c = simp (le-ltb _ _ c.if-offset-lt512.false, le-ltb _ _ c.if-offset-lt640.false, le-ltb _ _ c.if-offset-lt768.false, le-ltb _ _ c.if-offset-lt896.false, le-ltb _ _ c.if-offset-lt1024.false, lt-ltb _ _ c.if-offset-lt2048.true)

pub returns-then-offset-lt2304 : goal.returns-then-offset-lt2304
unfolding register_at pick
returns-then-offset-lt2304 c = simp (le-ltb _ _ c.if-offset-lt512.false, le-ltb _ _ c.if-offset-lt640.false, le-ltb _ _ c.if-offset-lt768.false, le-ltb _ _ c.if-offset-lt896.false, le-ltb _ _ c.if-offset-lt1024.false, le-ltb _ _ c.if-offset-lt2048.false, lt-ltb _ _ c.if-offset-lt2304.true)

pub returns-then-offset-lt5376 : goal.returns-then-offset-lt5376
unfolding register_at pick
returns-then-offset-lt5376 c = simp (le-ltb _ _ c.if-offset-lt512.false, le-ltb _ _ c.if-offset-lt640.false, le-ltb _ _ c.if-offset-lt768.false, le-ltb _ _ c.if-offset-lt896.false, le-ltb _ _ c.if-offset-lt1024.false, le-ltb _ _ c.if-offset-lt2048.false, le-ltb _ _ c.if-offset-lt2304.false, lt-ltb _ _ c.if-offset-lt5376.true)

pub returns-then-offset-lt5408 : goal.returns-then-offset-lt5408
unfolding register_at pick
returns-then-offset-lt5408 c = simp (le-ltb _ _ c.if-offset-lt512.false, le-ltb _ _ c.if-offset-lt640.false, le-ltb _ _ c.if-offset-lt768.false, le-ltb _ _ c.if-offset-lt896.false, le-ltb _ _ c.if-offset-lt1024.false, le-ltb _ _ c.if-offset-lt2048.false, le-ltb _ _ c.if-offset-lt2304.false, le-ltb _ _ c.if-offset-lt5376.false, lt-ltb _ _ c.if-offset-lt5408.true)

pub returns : goal.returns
unfolding register_at pick
returns c = simp (le-ltb _ _ c.if-offset-lt512.false, le-ltb _ _ c.if-offset-lt640.false, le-ltb _ _ c.if-offset-lt768.false, le-ltb _ _ c.if-offset-lt896.false, le-ltb _ _ c.if-offset-lt1024.false, le-ltb _ _ c.if-offset-lt2048.false, le-ltb _ _ c.if-offset-lt2304.false, le-ltb _ _ c.if-offset-lt5376.false, le-ltb _ _ c.if-offset-lt5408.false)
