-- That `first_of` of src/choice.rt keeps its contract.
use mathlib.Core.Path.{ap, ◌∙◌}
use Rattle.std.specs.Prelude.{unwrap_or}
use Rattle.aintc_registers.specs.declared.choice.Best.{Best}
use Rattle.aintc_registers.proofs.SearchLaws.{searched-first, searched-within}
use Rattle.aintc_registers.proofs.choice.first_of.Goals as goal

pub returns : goal.returns
returns c = record {
  first = ap (λ (x : Best). unwrap_or x.number 128) c.search.ensures ∙ searched-first _ _;
  within = rw c.search.ensures (searched-within _ _);
}
