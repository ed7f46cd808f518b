-- That `put_outputs` of src/lib.rt keeps its contract.
use Prim.Native.Nat.{◌≤◌, ◌<◌}
use mathlib.Core.List.{[]}
use mathlib.Core.Logic.{◌≢◌}
use mathlib.Core.Path.{◌≡◌, ap, ◌∙◌}
use native.Mathlib.Omega.{arith}
use borrow.Author.Rules.{rules}
use Rattle.text.specs.Text.{write}
use Rattle.text.proofs.WriteLaws.{nothing}
use Rattle.kinds.specs.Kinds.{aintc_kind}
use Rattle.kinds.proofs.KindLaws.{KindOf, is_aic, is_core, is_cic, is_aintc, is_indexed, is_none, kind_of, at_aic, at_core, at-cic, at_aintc, at_indexed, at_none}
use Rattle.machine.specs.declared.record.Machine.{Machine}
use Rattle.deeds.specs.Deeds.{side_words, output_words}
use Rattle.deeds.proofs.put_outputs.Goals.{in-3-1, in_default+then-m-lt2}
use Rattle.deeds.proofs.put_outputs.Goals as goal

-- an AIC and a CoreInterrupt
low_said : (m a : Machine) → m.kind < 2 → side_words m a ≡ output_words m a
unfolding output_words
low_said m a l = go (kind_of m.kind)
  where
    go : KindOf m.kind → side_words m a ≡ output_words m a
    go (is_aic k) = at_aic m.kind _ k
    go (is_core k) = at_core m.kind _ k
    go (is_cic k) = absurd (omega (arith, k, l))
    go (is_aintc k) = absurd (omega (arith, k, l))
    go (is_indexed k) = absurd (omega (arith, k, l))
    go (is_none p q r s t) = absurd (omega (arith, l, p, q))

aintc_said : (m a : Machine) → m.kind ≡ aintc_kind → side_words m a ≡ output_words m a
unfolding output_words
aintc_said m a k = at_aintc m.kind _ k

-- all others
none_said : (m a : Machine) → 2 ≤ m.kind → m.kind ≢ aintc_kind → [] ≡ output_words m a
unfolding output_words
none_said m a l n = go (kind_of m.kind)
  where
    go : KindOf m.kind → [] ≡ output_words m a
    go (is_aic k) = absurd (omega (arith, k, l))
    go (is_core k) = absurd (omega (arith, k, l))
    go (is_cic k) = at-cic m.kind _ k
    go (is_aintc k) = absurd (n k)
    go (is_indexed k) = at_indexed m.kind _ k
    go (is_none p q r s t) = at_none m.kind _ p q r s t

pub returns-in-0 : goal.returns-in-0
returns-in-0 c =
    c.put_sides.ensures
    ∙ ap (write _) (elim c.in-0-1.branch [ in-3-1 w ↦ aintc_said c.args.m c.args.after (search rules) | in_default+then-m-lt2 w ↦ low_said c.args.m c.args.after (search rules) ])

pub returns-in_default : goal.returns-in_default
returns-in_default c = nothing _ ∙ ap (write _) (none_said c.args.m c.args.after (search rules) (search rules))
