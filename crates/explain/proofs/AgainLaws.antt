-- A player reads the same controller and the same steps from the bytes of an explanation.
use Prim.Native.Nat.{ℕ, ◌≤◌}
use mathlib.Core.Path.{◌≡◌, sym, ap, ◌∙◌, subst}
use mathlib.Core.Bool.{Bool}
use mathlib.Core.List.{List, [], ◌∷◌, ◌++◌}
use native.Mathlib.Nat.{zero-add}
use native.Mathlib.Omega.{arith}
use lib.ListN.{length, length-append}
use Rattle.trace.specs.Promises.{Reads}
use Rattle.trace.specs.Trace.{Trace, steps_from}
use Rattle.trace.proofs.Promises as Traces
use Rattle.kinds.specs.Kinds.{tells_privilege}
use Rattle.encode.specs.Bytes.{bytes_of}
use Rattle.machine.specs.declared.record.Machine.{Machine}
use Rattle.beginning.specs.Begin.{begin_of}
use Rattle.beginning.proofs.BeginningLaws.{beginning}
use Rattle.beginning.specs.Play.{records_of}
use Rattle.beginning.proofs.PlayLaws.{records-begun, records_limited}
use Rattle.player.proofs.Promises as Player
use Rattle.explain.proofs.SizeLaws.{reads_fit, records_fit}
use Rattle.explain.specs.Read.{numbers_in, played_numbers}
use Rattle.explain.proofs.BackLaws.{AllPlain, along-plain, reads_back, steps_back}
use Rattle.explain.proofs.TextLaws.{Started, starts, bytes-parts, bytes_few}

module _ (s : List ℕ) (limit : ℕ) (z : (begin_of s).refusal ≡ 0) where
  abbrev b : Started s (begin_of s)
  b = starts s (begin_of s) (beginning s) z

  abbrev kind : ℕ
  kind = (begin_of s).machine.kind

  abbrev told : Bool
  told = tells_privilege kind

  abbrev ns : List ℕ
  ns = b.numbers

  abbrev B : List ℕ
  B = bytes_of (kind ∷ ns)

  abbrev R : List ℕ
  R = bytes_of (numbers_in told (records_of s limit).steps)

  pub parts : bytes_of (played_numbers s limit) ≡ B ++ R
  parts = bytes-parts s limit z

  pub reads : Reads (B ++ R) 0 (kind ∷ ns) (length B)
  reads = subst (λ (p : ℕ). Reads (B ++ R) 0 (kind ∷ ns) p) (zero-add (length B)) (reads_back (kind ∷ ns) [] R (reads_fit s 0 (kind ∷ ns) (begin_of s).place b.reads))

  few : length (B ++ R) ≤ 65536
  few = omega (arith, length-append B R, bytes_few s limit z)

  begins : ((begin_of (B ++ R)).refusal ≡ 0) × ((begin_of (B ++ R)).place ≡ length B)
  begins = ((Player.kept).accepted (B ++ R) (length B)).1 (kind, ns, few, reads, b.configures)

  same_machine : (begin_of (B ++ R)).machine ≡ (begin_of s).machine
  same_machine = (Player.kept).started (B ++ R) (length B) kind ns few reads b.configures ∙ sym b.machine

  plain : AllPlain told (records_of s limit).steps
  plain =
      let a = (Traces.kept).trace told limit s (begin_of s).place in
      subst (λ (t : Trace). AllPlain told t.steps) (sym (records-begun limit s (begin_of s) z)) (along-plain told s (begin_of s).place (steps_from told limit s (begin_of s).place).steps a.0 a.1)

  same_steps : records_of (B ++ R) limit ≡ record { steps = (records_of s limit).steps; refusal = 0; offset = length (B ++ R) }
  same_steps =
      records-begun limit (B ++ R) (begin_of (B ++ R)) begins.0
      ∙ ap (λ (m : Machine). steps_from (tells_privilege m.kind) limit (B ++ R) (begin_of (B ++ R)).place) same_machine
      ∙ ap (λ (p : ℕ). steps_from told limit (B ++ R) p) begins.1
      ∙ steps_back told (records_of s limit).steps limit B (records_fit limit s (begin_of s)) plain (records_limited limit s (begin_of s))

  pub read_again : ((begin_of (bytes_of (played_numbers s limit))).refusal ≡ 0)
      × ((begin_of (bytes_of (played_numbers s limit))).machine ≡ (begin_of s).machine)
      × (records_of (bytes_of (played_numbers s limit)) limit
      ≡ record { steps = (records_of s limit).steps; refusal = 0; offset = length (bytes_of (played_numbers s limit)) })
  read_again =
      subst (λ (t : List ℕ). ((begin_of t).refusal ≡ 0) × ((begin_of t).machine ≡ (begin_of s).machine)
      × (records_of t limit ≡ record { steps = (records_of s limit).steps; refusal = 0; offset = length t })) (sym parts)
      (begins.0, same_machine, same_steps)
