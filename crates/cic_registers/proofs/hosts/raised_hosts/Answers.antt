-- That `raised_hosts` of src/hosts.rt keeps its contract.
use Rattle.cic_registers.proofs.ScanLaws.{counts, word_more, all_words}
use Rattle.words.proofs.ArrayLaws.{zeros-bit_at}
use Rattle.words.proofs.CountingLaws.{any-none_yet}
use Rattle.words.specs.Array.{bit_at}
use Rattle.words.specs.Counting.{any_below}
use Rattle.words.specs.Word.{kept, both}
use Rattle.std.proofs.lemmas.List.{length_push}
use Rattle.std.proofs.lemmas.Slice.Zip.{zip_turn, zip_end}
use lib.ListN.{length}
use mathlib.Core.Path.{◌≡◌, refl, sym, ap, ap₂, ◌∙◌}
use native.Mathlib.Omega.{arith}
use Prim.Native.Nat.{ℕ, ◌*◌}
use borrow.Author.Rules.{rules}
use Rattle.cic_registers.proofs.hosts.raised_hosts.Goals as goal

pub loop-status-init : goal.loop-status-init
loop-status-init c = (omega arith, (omega arith, (refl, λ h. zeros-bit_at 8 h ∙ any-none_yet _)))

pub scan-requires : goal.scan-requires
scan-requires c =
    let r = c.args.c in
    let l = c.loop-status in
    let t = zip_turn r.status r.enable l.yielded c.into_iter-status-iterator.result l.status-iterator c.next.new.self c.next.result (cc) (cc) l.yielded_by _ c.in-Some.is c.next.ensures.steps in
    let long : length r.status ≡ 32 = search rules in
    record { base_bound = omega (arith, t.0, long, l.invariant.1.0); out_len = l.invariant.1.1.0 }

pub overflow_add-base : goal.overflow_add-base
overflow_add-base c =
    let r = c.args.c in
    let l = c.loop-status in
    let t = zip_turn r.status r.enable l.yielded c.into_iter-status-iterator.result l.status-iterator c.next.new.self c.next.result (cc) (cc) l.yielded_by _ c.in-Some.is c.next.ensures.steps in
    let long : length r.status ≡ 32 = search rules in
    omega (arith, t.0, long, l.invariant.1.0)

pub loop-status-preserved : goal.loop-status-preserved
loop-status-preserved c =
    let l = c.loop-status in
    let r = c.args.c in
    let t = zip_turn r.status r.enable l.yielded c.into_iter-status-iterator.result l.status-iterator c.next.new.self c.next.result (cc) (cc) l.yielded_by _ c.in-Some.is c.next.ensures.steps in
    let k = length l.yielded in
    let more = length_push l.yielded (c.in-Some.status, c.in-Some.enable) in
    let word = c.keep-w.ensures ∙ ap₂ (λ (n w : ℕ). kept n w) l.invariant.0 (c.meet.ensures ∙ ap₂ (λ (x y : ℕ). both x y) (t.2 0) (t.3 0)) in (
      omega (arith, more, c.after_word-rest.ensures, l.invariant.0),
      (
        omega (arith, more, l.invariant.1.0),
        (
          c.scan.ensures.long,
          λ h.
              word_more r k h l.base c.keep-w.result (bit_at l.out h) _ l.invariant.1.0 word (c.scan.ensures.bits h) (l.invariant.1.1.1 h)
              ∙ ap (λ (n : ℕ). any_below (32 * n) (counts r h)) (sym more),
        ),
      ),
    )

pub returns : goal.returns
returns c =
    let l = c.loop-status in
    let r = c.args.c in
    let long : length r.status ≡ 32 = search rules in
    let long' : length r.enable ≡ 32 = search rules in
    let e = zip_end r.status r.enable l.yielded c.into_iter-status-iterator.result l.status-iterator c.next.new.self c.next.result (cc) (cc) l.yielded_by c.in-None.is c.next.ensures.steps in
    let all : 32 * length l.yielded ≡ 1024 = omega (arith, e, long, long') in
    λ h. l.invariant.1.1.1 h ∙ ap (λ (n : ℕ). any_below n (counts r h)) all ∙ all_words r h long
