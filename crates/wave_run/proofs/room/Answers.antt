-- That `room` of src/main.rt keeps its contract.
use Prim.Native.Nat.{ℕ, ◌≤◌}
use mathlib.Core.List.{List}
use mathlib.Core.Path.{◌≡◌, sym, ◌∙◌}
use native.Mathlib.Omega.{arith}
use lib.ListN.{length}
use Rattle.std.specs.Prelude.{Result, IfOk, vec_len}
use Rattle.std.specs.Global.{Vec}
use Rattle.std.specs.declared.alloc.AllocError.{AllocError}
use Rattle.std.proofs.lemmas.Result.{IfOk-weaker}
use Rattle.waves.specs.Waves.{waves_of}
use Rattle.waves.proofs.ReadLaws.{bounded}
use Rattle.wave_run.proofs.room.Goals as goal

-- waves of 20,000 steps, whose numbers have at most five digits
enough : (s : List ℕ) → length (waves_of s 20000) ≤ 4280737
enough s = bounded s 20000 5 (omega arith) (omega arith)

-- a room of so many bytes; the number stays a number, for to count it out would take long
fits : (k : ℕ) (r : List ℕ) → length r ≡ k → ((s : List ℕ) → length (waves_of s 20000) ≤ k) → (s : List ℕ) → length (waves_of s 20000) ≤ length r
fits k r e h s = omega (arith, h s)

-- what is said of a room that there is
told : (r : Result (Vec ℕ) AllocError) → IfOk r (λ v. vec_len v ≡ 4280737) → IfOk r (λ v. (s : List ℕ) → length (waves_of s 20000) ≤ length v.items)
told r h = IfOk-weaker r (λ v. vec_len v ≡ 4280737) (λ v. (s : List ℕ) → length (waves_of s 20000) ≤ length v.items) (λ v e. fits 4280737 v.items (sym v.ok.0 ∙ e) enough) h

pub returns-clause-any : goal.returns-clause-any
returns-clause-any c = told _ c.vec.ensures.len
