-- What a step in a room answers, with the record that stands there after it, is what the step by value answers.
use Prim.Native.Nat.{ℕ}
use mathlib.Core.Path.{◌≡◌, ap, ap₂, ◌∙◌}
use Rattle.steps.specs.declared.Step.{Step}
use Rattle.rooms.specs.Reply.{Reply}
use Rattle.aintc_record.specs.declared.Aintc.{Aintc}
use Rattle.aintc_registers.specs.declared.Answer.{Answer}
use Rattle.aintc_registers.specs.Model.{step}
use Rattle.aintc_room.specs.Reply.{reply_of}

pub answer-told : (s : Aintc) (p : ℕ) (x : Step) (n v : ℕ) {q : Reply} (t : Aintc) → q ≡ reply_of (step s p x) → n ≡ q.0 → v ≡ q.1 → t ≡ (step s p x).aintc
    → ◌≡◌ {A = Answer} (record { refusal = n; value = v; aintc = t }) (step s p x)
answer-told s p x n v t e f g i =
    ap (λ (a : Aintc). record { refusal = n; value = v; aintc = a }) i
    ∙ ap₂ (λ (m r : ℕ). record { refusal = m; value = r; aintc = (step s p x).aintc }) (f ∙ ap (λ (r : Reply). r.0) e) (g ∙ ap (λ (r : Reply). r.1) e)
