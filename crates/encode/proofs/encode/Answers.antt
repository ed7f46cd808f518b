-- That `encode` of src/lib.rt keeps its contract.
use Prim.Native.Nat.{ℕ, ◌-◌}
use mathlib.Core.Path.{refl, sym, ap, ◌∙◌}
use native.Mathlib.Omega.{arith}
use lib.ListN.{take, drop}
use Rattle.text.specs.Text.{write}
use Rattle.text.proofs.WriteLaws.{rest_of, nothing, write-laid, same_length as same-length-of}
use Rattle.encode.proofs.PlaceLaws.{place_sought, place-within}
use Rattle.encode.specs.Encode.{Encoding}
use Rattle.encode.proofs.EncodeLaws.{stops-within, size-within, left-first, left-none, left-refused, left-more}
use borrow.Author.Rules.{rules}
use Rattle.encode.proofs.encode.Goals as goal

pub loop-at-init : goal.loop-at-init
loop-at-init c =
    let t = c.args.text.now in (
      ap (λ (e : Encoding). e.refusal) (left-first t),
      ap (write _) (ap (λ (e : Encoding). e.bytes) (left-first t)),
      refl,
      search rules,
      search rules,
      search rules,
    )

pub slice_bounds-line_of-count : goal.slice_bounds-line_of-count
slice_bounds-line_of-count c =
    omega (arith, c.find-end.ensures, (place_sought 10 c.args.text.now c.loop-at.at).from)

pub slice_bounds-line_of-start : goal.slice_bounds-line_of-start
slice_bounds-line_of-start c =
    omega (arith, c.find-end.ensures, (place_sought 10 c.args.text.now c.loop-at.at).from)

pub slice_bounds-line_of-end : goal.slice_bounds-line_of-end
slice_bounds-line_of-end c =
    omega (arith, c.find-end.ensures, place-within 10 c.args.text.now c.loop-at.at c.loop-at-test.true)

pub line_of-s-requires : goal.line_of-s-requires
line_of-s-requires c = c.loop-at.invariant.3

pub overflow_add-r : goal.overflow_add-r
overflow_add-r c =
    let l = c.loop-at in
    omega (arith, l.invariant.4, l.invariant.5)

pub returns-then-s-ne-AS_IT_SHOULD_BE : goal.returns-then-s-ne-AS_IT_SHOULD_BE
returns-then-s-ne-AS_IT_SHOULD_BE c =
    let t = c.args.text.now in
    let q = ap (λ (n : ℕ). take (n - c.loop-at.at) (drop c.loop-at.at t)) c.find-end.ensures in
    let x = left-refused t c.loop-at.lines c.loop-at.at c.loop-at.kind c.loop-at.size c.find-end.result c.loop-at-test.true c.find-end.ensures c.line_of-s.result _ q c.line_of-s.ensures c.if-s-ne-AS_IT_SHOULD_BE.true in (
      sym (ap (λ (e : Encoding). e.refusal) x) ∙ c.loop-at.invariant.0,
      nothing _ ∙ ap (write _) (sym (ap (λ (e : Encoding). e.bytes) x)) ∙ c.loop-at.invariant.1 ∙ write-laid _ _,
    )

pub slice_bounds-put_statement-count : goal.slice_bounds-put_statement-count
slice_bounds-put_statement-count c =
    omega (arith, c.find-end.ensures, (place_sought 10 c.args.text.now c.loop-at.at).from)

pub slice_bounds-put_statement-start : goal.slice_bounds-put_statement-start
slice_bounds-put_statement-start c =
    omega (arith, c.find-end.ensures, (place_sought 10 c.args.text.now c.loop-at.at).from)

pub slice_bounds-put_statement-end : goal.slice_bounds-put_statement-end
slice_bounds-put_statement-end c =
    omega (arith, c.find-end.ensures, place-within 10 c.args.text.now c.loop-at.at c.loop-at-test.true)

pub overflow_add-size : goal.overflow_add-size
overflow_add-size c =
    let l = c.loop-at in
    omega (arith, size-within c.find-end.result l.kind l.size _ c.line_of-s.result c.line_of-s.ensures c.if-s-ne-AS_IT_SHOULD_BE.false)

pub overflow_add-lines : goal.overflow_add-lines
overflow_add-lines c =
    let l = c.loop-at in
    omega (arith, l.invariant.4, l.invariant.5)

pub overflow_add-at : goal.overflow_add-at
overflow_add-at c =
    let l = c.loop-at in
    omega (arith, stops-within c.find-end.result l.kind l.size _ c.line_of-s.result c.line_of-s.ensures c.if-s-ne-AS_IT_SHOULD_BE.false)

pub loop-at-smaller : goal.loop-at-smaller
loop-at-smaller c =
    omega (arith, c.find-end.ensures, (place_sought 10 c.args.text.now c.loop-at.at).from, c.loop-at-test.true)

pub loop-at-preserved : goal.loop-at-preserved
loop-at-preserved c =
    let t = c.args.text.now in
    let q = ap (λ (n : ℕ). take (n - c.loop-at.at) (drop c.loop-at.at t)) c.find-end.ensures in
    let z = c.if-s-ne-AS_IT_SHOULD_BE.false in
    let x = left-more t c.loop-at.lines c.loop-at.at c.loop-at.kind c.loop-at.size c.find-end.result c.loop-at-test.true c.find-end.ensures c.line_of-s.result _ q c.line_of-s.ensures z in (
      sym (ap (λ (e : Encoding). e.refusal) x) ∙ c.loop-at.invariant.0,
      rest_of _ _ _ _ c.put_statement-place.ensures ∙ ap (write _) (sym (ap (λ (e : Encoding). e.bytes) x)) ∙ c.loop-at.invariant.1,
      same-length-of _ _ _ c.put_statement-place.ensures ∙ c.loop-at.invariant.2,
      size-within c.find-end.result c.loop-at.kind c.loop-at.size _ c.line_of-s.result c.line_of-s.ensures z,
      omega (arith, c.loop-at.invariant.4, c.find-end.ensures, (place_sought 10 t c.loop-at.at).from),
      omega (arith, stops-within c.find-end.result c.loop-at.kind c.loop-at.size _ c.line_of-s.result c.line_of-s.ensures z),
    )

pub returns : goal.returns
returns c =
    let t = c.args.text.now in
    let x = left-none t c.loop-at.lines c.loop-at.at c.loop-at.kind c.loop-at.size c.loop-at-test.false in (
      c.ended_by-r.ensures ∙ sym (ap (λ (e : Encoding). e.refusal) x) ∙ c.loop-at.invariant.0,
      nothing _ ∙ ap (write _) (sym (ap (λ (e : Encoding). e.bytes) x)) ∙ c.loop-at.invariant.1 ∙ write-laid _ _,
    )
