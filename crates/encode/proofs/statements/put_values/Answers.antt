-- That `put_values` of src/statements.rt keeps its contract.
use Prim.Native.Nat.{ℕ, ◌+◌}
use mathlib.Core.Path.{◌≡◌, refl, ap, ◌∙◌}
use native.Mathlib.Omega.{arith}
use Rattle.text.specs.Text.{write}
use Rattle.text.proofs.WriteLaws.{and_then, nothing, same_length as same-length-of}
use Rattle.tables.proofs.ReadLaws.{next-is}
use Rattle.tables.proofs.SeekLaws.{past-within}
use Rattle.encode.specs.Bytes.{bytes_of}
use Rattle.encode.specs.Statements.{values_in}
use Rattle.encode.proofs.PlaceLaws.{first-is}
use Rattle.encode.proofs.NumberLaws.{next-worth, values-none, values-more}
use borrow.Author.Rules.{rules}
use Rattle.encode.proofs.statements.put_values.Goals as goal

pub loop-k-init : goal.loop-k-init
loop-k-init c =
    let s = c.args.line.now in
    (search rules, (first-is s _ c.read_next-first.ensures).past, nothing _ ∙ ap (write _) (values-none s), refl)

pub read_next-next-requires : goal.read_next-next-requires
read_next-next-requires c = rw c.loop-k.invariant.1 (past-within _ _)

pub loop-k-preserved : goal.loop-k-preserved
loop-k-preserved c =
    let l = c.loop-k in
    let s = c.args.line.now in
    let x = next-is s l.past (l.k + 1) _ l.invariant.1 c.read_next-next.ensures in
    let v = next-worth s (l.k + 1) _ _ _ x c.unwrap_or.ensures c.entered_as.ensures in (
      search rules,
      x.past,
      and_then _ _ _ l.invariant.2 c.put_number-place.ensures ∙ ap (write _) (values-more s l.k _ v),
      same-length-of _ _ _ c.put_number-place.ensures ∙ l.invariant.3,
    )

pub returns : goal.returns
returns c =
    let l = c.loop-k in
    let a = c.args in
    let e : l.k ≡ a.n = omega (arith, l.invariant.0, c.loop-k-test.false) in
    l.invariant.2 ∙ ap (write _) (ap (λ (k : ℕ). bytes_of (values_in a.line.now k)) e)
