-- What is promised of how many status words a read of a CIC with prioritised indices looks at (02, 10/12).
use Rattle.std.specs.Prelude.{true, false, ◌≢◌, ◌⊎◌, ◌≡◌, ℕ, ◌+◌, ◌*◌, ◌/◌, ◌<◌, ◌≤◌, eqb, get_or}
use Rattle.words.specs.Counting.{count_below}
use Rattle.cic_record.specs.Kinds.{host_number}
use Rattle.cic_held.specs.Looked.{searched, looked_over}
use Rattle.cic_held.specs.Order.{leads}
use Rattle.cic_held.specs.declared.Prioritised.{Prioritised}
use Rattle.cic_held.specs.Held.{sound}
use Rattle.cic_indexed.specs.Model.{read}
use Rattle.cic_prioritised.specs.Looking.{look_at}

pub record Promises : Type 0 where
  -- refusal and value are those of the read, of any record and any offset (02, 10/12; 6/12)
  pub looks_same : (p : Prioritised) (o : ℕ) → ((look_at p o).refusal ≡ (read p o).refusal) × ((look_at p o).value ≡ (read p o).value)
  -- ---- reads that look at no word (02, 10/12)
  -- a read that is refused, by 12, 1, 2 or 3
  pub refused_none : (p : Prioritised) (o : ℕ) → (read p o).refusal ≢ 0 → (look_at p o).words ≡ 0
  -- a read of a register that is no index; with the choice off there is none
  pub elsewhere_none : (p : Prioritised) (o : ℕ) → o ≢ 0x080 → (o < 0x900) ⊎ (0xD00 ≤ o) → (look_at p o).words ≡ 0
  pub off_none : (p : Prioritised) (o : ℕ) → p.held.choice ≡ 0 → (look_at p o).words ≡ 0
  -- a read of an index that is held
  pub global_held : (p : Prioritised) → p.held.global ≢ 0 → (look_at p 0x080).words ≡ 0
  pub host_held : (p : Prioritised) (h : ℕ) → h < 256 → get_or p.held.host h 0 ≢ 0 → (look_at p (0x900 + 4 * h)).words ≡ 0
  -- ---- indices that are not held: what their searches look at together, over every channel or over those of the host (02, 10/12; 001, 1.3.5)
  pub global_looks : (p : Prioritised) → sound p ≡ true → p.held.choice ≡ 1 → p.held.global ≡ 0
      → (look_at p 0x080).words ≡ looked_over p.cic (leads p.cic true (host_number 0))
  pub host_looks : (p : Prioritised) (h : ℕ) → sound p ≡ true → p.held.choice ≡ 1 → h < p.cic.hosts → get_or p.held.host h 0 ≡ 0
      → (look_at p (0x900 + 4 * h)).words ≡ looked_over p.cic (leads p.cic false (host_number h))
  -- ---- at most the systems divided by 32, rounded up, for each channel searched: for the global index every one that has its turn, for a host's those of
  -- them whose byte of the host map is the host (02, 10/12; 001, 2.2.10 and 2.2.17)
  pub global_most : (p : Prioritised) → (look_at p 0x080).words ≤ searched p.cic (leads p.cic true (host_number 0)) * ((p.cic.systems + 31) / 32)
  pub host_most : (p : Prioritised) (h : ℕ) → h < 256
      → (look_at p (0x900 + 4 * h)).words
      ≤ count_below (searched p.cic (leads p.cic false (host_number h))) (λ k. eqb (get_or p.cic.host k 0) h) * ((p.cic.systems + 31) / 32)
