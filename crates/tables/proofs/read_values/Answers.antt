-- That `read_values` of src/lib.rt keeps its contract.
use Prim.Native.Nat.{ℕ}
use mathlib.Core.Path.{◌≡◌, refl, ap, ◌∙◌}
use native.Mathlib.Omega.{arith}
use Rattle.tables.proofs.ReadLaws.{next-is, next_some, next_none, fit-more, fault-is, value_of, values_fault, values_behind, values_whole}
use Rattle.tables.proofs.SeekLaws.{past-within, started_at}
use Rattle.tables.proofs.FillLaws.{room-none, room-more}
use Rattle.tables.specs.Passes.{room}
use Rattle.tables.specs.Typed.{past_nth, nth_start}
use borrow.Author.Rules.{rules}
use Rattle.tables.proofs.read_values.Goals as goal

pub loop-n-init : goal.loop-n-init
loop-n-init c = (unfold past_nth in refl, room-none 98 _, λ k l. absurd (search rules))

pub read_next-next-requires : goal.read_next-next-requires
read_next-next-requires c = rw c.loop-n.invariant.0 (past-within _ _)

pub returns-in_default : goal.returns-in_default
returns-in_default c =
    let l = c.loop-n in
    let s = c.args.text.now in
    let x = next-is s l.past l.n _ l.invariant.0 c.read_next-next.ensures in
    values_fault s l.values l.n _ (omega arith) (fault-is s l.n (omega arith) l.invariant.2 (λ m. next_none s l.n _ x (search rules))) x.start l.invariant.1

pub loop-n-preserved : goal.loop-n-preserved
loop-n-preserved c =
    let l = c.loop-n in
    let s = c.args.text.now in
    let x = next-is s l.past l.n _ l.invariant.0 c.read_next-next.ensures in
    let f = next_some s l.n c.in-Some.value _ x (search rules) in
    (x.past, room-more 98 l.n (value_of s) l.values _ (omega arith) l.invariant.1 f.1, fit-more s l.n l.invariant.2 f.0)

pub returns-then-start-text : goal.returns-then-start-text
returns-then-start-text c =
    let l = c.loop-n in
    let s = c.args.text.now in
    let e : l.n ≡ 98 = omega arith in
    values_behind s l.values _ (fault-is s 98 (omega arith) (rw (← e) l.invariant.2) (λ m. absurd (omega arith)))
    (started_at s _ c.seek-start.ensures ∙ rw (l.invariant.0, e) (unfold nth_start in refl)) c.if-start-text.true (l.invariant.1 ∙ ap (λ (n : ℕ). room 98 n (value_of s)) e)

pub returns : goal.returns
returns c =
    let l = c.loop-n in
    let s = c.args.text.now in
    let e : l.n ≡ 98 = omega arith in
    values_whole s l.values _ (fault-is s 98 (omega arith) (rw (← e) l.invariant.2) (λ m. absurd (omega arith)))
    (started_at s _ c.seek-start.ensures ∙ rw (l.invariant.0, e) (unfold nth_start in refl)) c.if-start-text.false (l.invariant.1 ∙ ap (λ (n : ℕ). room 98 n (value_of s)) e)
