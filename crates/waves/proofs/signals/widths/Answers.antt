-- That `widths` of src/signals.rt keeps its contract.
use mathlib.Core.Path.{ap}
use mathlib.Core.List.{List, map}
use native.Mathlib.Omega.{arith}
use Rattle.waves.specs.Signals.{Row, widths}
use Rattle.waves.proofs.SignalLaws.{rows_aic, rows_core, rows-cic, rows_aintc, rows-indexed, rows_none}
use Rattle.waves.proofs.signals.widths.Goals as goal

pub returns-in-0 : goal.returns-in-0
unfolding widths
returns-in-0 c = ap (λ (l : List Row). map (λ (r : Row). r.width) l) (rows_aic _ c.in-0.is)

pub returns-in-1 : goal.returns-in-1
unfolding widths
returns-in-1 c = ap (λ (l : List Row). map (λ (r : Row). r.width) l) (rows_core _ c.in-1.is)

pub returns-in-2 : goal.returns-in-2
unfolding widths
returns-in-2 c = ap (λ (l : List Row). map (λ (r : Row). r.width) l) (rows-cic _ c.in-2.is)

pub returns-in-3 : goal.returns-in-3
unfolding widths
returns-in-3 c = ap (λ (l : List Row). map (λ (r : Row). r.width) l) (rows_aintc _ c.in-3.is)

pub returns-in-4 : goal.returns-in-4
unfolding widths
returns-in-4 c = ap (λ (l : List Row). map (λ (r : Row). r.width) l) (rows-indexed _ c.in-4.is)

pub returns-in_default : goal.returns-in_default
unfolding widths
returns-in_default c =
    ap (λ (l : List Row). map (λ (r : Row). r.width) l)
    (rows_none c.args.kind (λ e. omega arith) (λ e. omega arith) (λ e. omega arith) (λ e. omega arith) (λ e. omega arith))
