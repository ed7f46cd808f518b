-- That `room` of src/main.rt keeps its contract.
use Prim.Native.Nat.{ℕ, ◌≤◌}
use mathlib.Core.List.{List}
use mathlib.Core.Path.{◌≡◌, sym, ◌∙◌}
use native.Mathlib.Omega.{arith}
use lib.ListN.{length}
use Rattle.std.specs.Prelude.{Result, IfOk, vec_len}
use Rattle.std.specs.Global.{Vec}
use Rattle.std.specs.declared.alloc.AllocError.{AllocError}
use Rattle.std.proofs.lemmas.Result.{IfOk-weaker}
use Rattle.explain.specs.Explain.{explained_of, explained_window}
use Rattle.explain.proofs.Promises.{kept}
use Rattle.explain_run.proofs.room.Goals as goal

-- a room of so many bytes; the number stays a number, for to count it out would take long
fits : (k : ℕ) (r : List ℕ) → length r ≡ k → ((s : List ℕ) → length (explained_of s 20000) ≤ k) → (s : List ℕ) → length (explained_of s 20000) ≤ length r
fits k r e h s = omega (arith, h s)

fits-window : (k : ℕ) (r : List ℕ) → length r ≡ k → ((s : List ℕ) (first steps : ℕ) → length (explained_window s 20000 first steps) ≤ k)
    → (s : List ℕ) (first steps : ℕ) → length (explained_window s 20000 first steps) ≤ length r
fits-window k r e h s first steps = omega (arith, h s first steps)

-- what is said of a room that there is
told : (r : Result (Vec ℕ) AllocError) → IfOk r (λ v. vec_len v ≡ 5242880) → IfOk r (λ v. (s : List ℕ) → length (explained_of s 20000) ≤ length v.items)
told r h =
    IfOk-weaker r (λ v. vec_len v ≡ 5242880) (λ v. (s : List ℕ) → length (explained_of s 20000) ≤ length v.items)
    (λ v e. fits 5242880 v.items (sym v.ok.0 ∙ e) kept.most) h

told-window : (r : Result (Vec ℕ) AllocError) → IfOk r (λ v. vec_len v ≡ 5242880)
    → IfOk r (λ v. (s : List ℕ) (first steps : ℕ) → length (explained_window s 20000 first steps) ≤ length v.items)
told-window r h =
    IfOk-weaker r (λ v. vec_len v ≡ 5242880) (λ v. (s : List ℕ) (first steps : ℕ) → length (explained_window s 20000 first steps) ≤ length v.items)
    (λ v e. fits-window 5242880 v.items (sym v.ok.0 ∙ e) kept.window_most) h

pub returns-clause-any : goal.returns-clause-any
returns-clause-any c = told _ c.vec.ensures.len

pub returns-clause-window : goal.returns-clause-window
returns-clause-window c = told-window _ c.vec.ensures.len
