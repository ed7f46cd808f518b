-- A text over the end of another: what stood there before is gone.
use Prim.Native.Nat.{ℕ, ◌+◌, ◌<◌, ◌≤◌}
use mathlib.Core.Path.{◌≡◌, refl, sym, ap, ◌∙◌}
use mathlib.Core.List.{List, [], ◌∷◌, ◌++◌}
use native.Mathlib.Nat.{add-zero}
use native.Mathlib.Omega.{arith}
use lib.ListN.{length, set, length-set}
use lib.Seq.{set-set, set_comm}
use Rattle.text.specs.Text.{write}
use Rattle.text.proofs.WriteLaws.{room, length-write, write_append}

-- a byte that finds room, and what follows
in-room : (l : List ℕ) (at b : ℕ) (bs : List ℕ) → at < length l → write (l, at) (b ∷ bs) ≡ write (set l at b, at + 1) bs
in-room l at b bs h = write_append (l, at) (b ∷ []) bs ∙ sym (ap (λ (o : List ℕ × ℕ). write o bs) (room l at b h))

-- a byte before the place of a text may be stored before it or after it
set-write : (l : List ℕ) (at i b : ℕ) (bs : List ℕ) → i < at → at + length bs ≤ length l → set (write (l, at) bs).0 i b ≡ (write (set l i b, at) bs).0
unfolding write
set-write l at i b [] h f = refl
set-write l at i b (x ∷ bs) h f =
    ap (λ (o : List ℕ × ℕ). set o.0 i b) (in-room l at x bs (omega arith))
    ∙ set-write (set l at x) (at + 1) i b bs (omega arith) (omega (arith, length-set l at x))
    ∙ ap (λ (m : List ℕ). (write (m, at + 1) bs).0) (set_comm l at i x b (λ e. absurd (omega arith)))
    ∙ sym (ap (λ (o : List ℕ × ℕ). o.0) (in-room (set l i b) at x bs (omega (arith, length-set l i b))))

-- a text over another that is no longer
again : (l : List ℕ) (at : ℕ) (g b : List ℕ) → at + length g ≤ length l → length g ≤ length b → write ((write (l, at) g).0, at) b ≡ write (l, at) b
unfolding write
again l at [] b f h = refl
again l at (y ∷ g) [] f h = absurd (omega arith)
again l at (y ∷ g) (z ∷ b) f h =
    let m = set l at y in
    let k : length m ≡ length l = length-set l at y in
    let n : length (write (m, at + 1) g).0 ≡ length m = length-write (m, at + 1) g in
    ap (λ (o : List ℕ × ℕ). write (o.0, at) (z ∷ b)) (in-room l at y g (omega arith))
    ∙ in-room (write (m, at + 1) g).0 at z b (omega (arith, k, n))
    ∙ ap (λ (q : List ℕ). write (q, at + 1) b) (set-write m (at + 1) at z g (omega arith) (omega (arith, k)))
    ∙ ap (λ (q : List ℕ). write ((write (q, at + 1) g).0, at + 1) b) (set-set l at y z)
    ∙ again (set l at z) (at + 1) g b (omega (arith, length-set l at z)) (omega arith)
    ∙ sym (in-room l at z b (omega arith))

-- a text b over the end g of another
pub over : (l : List ℕ) (at : ℕ) (a g b : List ℕ) → at + length a + length g ≤ length l → length g ≤ length b
    → write ((write (l, at) (a ++ g)).0, at + length a) b ≡ write (l, at) (a ++ b)
over l at [] g b f h = ap (λ (n : ℕ). write ((write (l, at) g).0, n) b) (add-zero at) ∙ again l at g b (omega arith) h
over l at (x ∷ a) g b f h =
    let e : at + length (x ∷ a) ≡ at + 1 + length a = omega arith in
    ap (λ (o : List ℕ × ℕ). write (o.0, at + length (x ∷ a)) b) (in-room l at x (a ++ g) (omega arith))
    ∙ ap (λ (n : ℕ). write ((write (set l at x, at + 1) (a ++ g)).0, n) b) e
    ∙ over (set l at x) (at + 1) a g b (omega (arith, length-set l at x)) h ∙ sym (in-room l at x (a ++ b) (omega arith))
