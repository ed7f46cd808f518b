-- That `size_of` of src/statements.rt keeps its contract.
use native.Mathlib.Omega.{arith}
use Rattle.encode.proofs.ByteLaws.{size-one, size-more, size_last}
use Rattle.encode.proofs.statements.size_of.Goals as goal

pub returns-then-v-lt128 : goal.returns-then-v-lt128
returns-then-v-lt128 c = size-one 4 _ c.if-v-lt128.true

pub returns-then-v-lt16384 : goal.returns-then-v-lt16384
returns-then-v-lt16384 c =
    let h = c.if-v-lt128.false in
    size-more 4 _ 1 h (size-one 3 _ (omega (arith, c.if-v-lt16384.true)))

pub returns-then-v-lt2097152 : goal.returns-then-v-lt2097152
returns-then-v-lt2097152 c =
    let h = c.if-v-lt128.false in
    let i = c.if-v-lt16384.false in
    size-more 4 _ 2 h (size-more 3 _ 1 (omega (arith, i)) (size-one 2 _ (omega (arith, c.if-v-lt2097152.true))))

pub returns-then-v-lt268435456 : goal.returns-then-v-lt268435456
returns-then-v-lt268435456 c =
    let h = c.if-v-lt128.false in
    let i = c.if-v-lt16384.false in
    let j = c.if-v-lt2097152.false in
    size-more 4 _ 3 h (size-more 3 _ 2 (omega (arith, i)) (size-more 2 _ 1 (omega (arith, j)) (size-one 1 _ (omega (arith, c.if-v-lt268435456.true)))))

pub returns : goal.returns
returns c =
    let h = c.if-v-lt128.false in
    let i = c.if-v-lt16384.false in
    let j = c.if-v-lt2097152.false in
    size-more 4 _ 4 h (size-more 3 _ 3 (omega (arith, i)) (size-more 2 _ 2 (omega (arith, j)) (size-more 1 _ 1 (omega (arith, c.if-v-lt268435456.false)) (size_last _))))
