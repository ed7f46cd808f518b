-- That `numbers_in` of src/statements.rt keeps its contract.
use Prim.Native.Nat.{ℕ, ◌+◌, ◌^◌, ◌<◌}
use mathlib.Core.Path.{◌≡◌, refl, ap, ◌∙◌}
use native.Mathlib.Omega.{arith}
use lib.ListN.{length}
use Rattle.tables.specs.Typed.{nth_start}
use Rattle.tables.proofs.ReadLaws.{next-is}
use Rattle.tables.proofs.SeekLaws.{past-within, started_at}
use Rattle.encode.specs.Bytes.{bytes_of}
use Rattle.encode.specs.Statements.{values_in}
use Rattle.encode.proofs.ByteLaws.{groups-most}
use Rattle.encode.proofs.PlaceLaws.{first-is}
use Rattle.encode.proofs.NumberLaws.{next_short, next_long, values-none, size-values, values-most, fitting-more, fitting-is, numbers_short, numbers_are}
use borrow.Author.Rules.{rules}
use Rattle.encode.proofs.statements.numbers_in.Goals as goal

pub loop-k-init : goal.loop-k-init
loop-k-init c =
    let s = c.args.line.now in
    ((first-is s _ c.read_next-first.ensures).past, ap length (values-none s), λ j l. absurd (search rules))

pub read_next-next-requires : goal.read_next-next-requires
read_next-next-requires c = rw c.loop-k.invariant.0 (past-within _ _)

pub returns-in_default : goal.returns-in_default
returns-in_default c =
    let l = c.loop-k in
    let s = c.args.line.now in
    let x = next-is s l.past (l.k + 1) _ l.invariant.0 c.read_next-next.ensures in
    numbers_short s c.args.n l.k (omega arith) (fitting-is s c.args.n l.k (omega arith) l.invariant.2 (λ m. next_long s (l.k + 1) _ x (search rules)))

pub overflow_add-size : goal.overflow_add-size
overflow_add-size c =
    let a = c.args in
    let h : a.n < 2 ^ 32 = search rules in
    omega (arith, c.loop-k.invariant.1, values-most a.line.now c.loop-k.k, c.size_of-size.ensures, groups-most 5 c.in-Some.value, c.loop-k-test.true)

pub loop-k-preserved : goal.loop-k-preserved
loop-k-preserved c =
    let l = c.loop-k in
    let s = c.args.line.now in
    let x = next-is s l.past (l.k + 1) _ l.invariant.0 c.read_next-next.ensures in
    let f = next_short s (l.k + 1) c.in-Some.value _ x (search rules) in
    (x.past, size-values s l.k l.size _ _ l.invariant.1 c.size_of-size.ensures f.1, fitting-more s l.k l.invariant.2 f.0)

pub returns : goal.returns
returns c =
    let l = c.loop-k in
    let a = c.args in
    let s = a.line.now in
    let e : l.k ≡ a.n = omega arith in
    numbers_are s a.n _ l.size (fitting-is s a.n a.n (omega arith) (rw (← e) l.invariant.2) (λ m. absurd (omega arith)))
    (started_at s _ c.seek.ensures ∙ rw (l.invariant.0, e) (unfold nth_start in refl)) (l.invariant.1 ∙ ap (λ (k : ℕ). length (bytes_of (values_in s k))) e)
