-- Lines of a CIC whose choice is off: those of the same CIC of kind 2.
use Prim.Native.Nat.{ℕ, ◌+◌}
use mathlib.Core.Path.{◌≡◌, refl, sym, ap, ◌∙◌}
use mathlib.Core.Bool.{true}
use mathlib.Core.List.{List, [], ◌∷◌, ◌++◌}
use Rattle.steps.specs.declared.Recorded.{Recorded}
use Rattle.trace.specs.Trace.{Trace}
use Rattle.cic_record.specs.declared.Cic.{Cic}
use Rattle.cic_registers.specs.Hosts.{outputs as cic_outputs}
use Rattle.cic_registers.specs.Model.{step as cic_step}
use Rattle.cic_indexed.proofs.Promises.{kept as prioritised}
use Rattle.machine.specs.declared.record.Machine.{Machine}
use Rattle.machine.specs.Machine.{indexed, sound}
use Rattle.machine.specs.Shown.{cic_columns, shown}
use Rattle.machine.proofs.MachineLaws.{sound-indexed}
use Rattle.machine.proofs.ShownLaws.{cic-shows, indexed-seen}
use Rattle.machine.specs.declared.Answer.{Answer}
use Rattle.machine.specs.Steps.{step}
use Rattle.machine.proofs.StepLaws.{cic_steps, indexed_steps, indexed-off}
use Rattle.lines.specs.Listing.{step_line, lines_from, joined, end_of, text_from}
use Rattle.listing.specs.Indexed.{Off}

-- a step leaves them so
off_stays : (m c : Machine) (x : Recorded) → Off m c → Off (step m x).machine (step c x).machine
off_stays m c x o =
    let e = indexed-off m x o.indexed o.sound o.choice in
    let s : sound (step m x).machine ≡ true =
    rw (indexed_steps m x o.indexed) (sym (sound-indexed _ o.indexed) ∙ prioritised.step_sound (indexed m) x.step (sound-indexed m o.indexed ∙ o.sound))
    in
    record {
      indexed = ap (λ (a : Answer). a.machine.kind) e ∙ o.indexed;
      sound = s;
      choice = ap (λ (a : Answer). a.machine.held.choice) e ∙ o.choice;
      plain = ap (λ (a : Answer). a.machine.kind) (cic_steps c x o.plain) ∙ o.plain;
      cic =
          ap (λ (a : Answer). a.machine.cic) e ∙ ap (λ (d : Cic). (cic_step d x.step).cic) o.cic
          ∙ sym (ap (λ (a : Answer). a.machine.cic) (cic_steps c x o.plain));
    }

-- both show the same
off-shows : (m c : Machine) → Off m c → shown m ≡ shown c
off-shows m c o = indexed-seen m o.indexed o.sound ∙ ap (λ (d : Cic). cic_columns (cic_outputs d)) o.cic ∙ sym (cic-shows c o.plain)

-- and answer the same
off_refusal : (m c : Machine) (x : Recorded) → Off m c → (step m x).refusal ≡ (step c x).refusal
off_refusal m c x o =
    ap (λ (a : Answer). a.refusal) (indexed-off m x o.indexed o.sound o.choice) ∙ ap (λ (d : Cic). (cic_step d x.step).refusal) o.cic
    ∙ sym (ap (λ (a : Answer). a.refusal) (cic_steps c x o.plain))

off-value : (m c : Machine) (x : Recorded) → Off m c → (step m x).value ≡ (step c x).value
off-value m c x o =
    ap (λ (a : Answer). a.value) (indexed-off m x o.indexed o.sound o.choice) ∙ ap (λ (d : Cic). (cic_step d x.step).value) o.cic
    ∙ sym (ap (λ (a : Answer). a.value) (cic_steps c x o.plain))

-- so their lines are the same
line_same : (n : ℕ) (x : Recorded) (a b : Answer) → a.refusal ≡ b.refusal → a.value ≡ b.value → shown a.machine ≡ shown b.machine
    → step_line n x.step a ≡ step_line n x.step b
line_same n x a b e f g = rw (e, f, g) refl

pub off_lines : (n : ℕ) (m c : Machine) (xs : List Recorded) → Off m c → lines_from n m xs ≡ lines_from n c xs
unfolding lines_from
off_lines n m c [] o = refl
off_lines n m c (x ∷ xs) o =
    let next = off_stays m c x o in
    ap (λ (l : List ℕ). l ∷ lines_from (n + 1) (step m x).machine xs)
    (line_same (n + 1) x (step m x) (step c x) (off_refusal m c x o) (off-value m c x o) (off-shows _ _ next))
    ∙ ap (λ (ls : List (List ℕ)). step_line (n + 1) x.step (step c x) ∷ ls) (off_lines (n + 1) (step m x).machine (step c x).machine xs next)

pub off_text : (n : ℕ) (m c : Machine) (t : Trace) → Off m c → text_from n m t ≡ text_from n c t
unfolding text_from
off_text n m c t o = ap (λ (ls : List (List ℕ)). joined ls ++ end_of t.refusal t.offset) (off_lines n m c t.steps o)
