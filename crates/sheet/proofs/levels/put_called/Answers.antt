-- That `put_called` of src/levels.rt keeps its contract.
use Rattle.text.specs.Phrases.{bytes}
use Rattle.sheet.specs.Levels.{called}
use Rattle.sheet.specs.Names.{escape}
use Rattle.sheet.specs.Texts.{each}
use Rattle.text.proofs.WriteLaws.{and_then, nothing}
use Rattle.text.specs.Text.{write}
use Rattle.words.proofs.ChoiceLaws.{pick-false, pick_true}
use borrow.Author.Tests.{eq-eqb, ne_eqb}
use mathlib.Core.List.{List}
use mathlib.Core.Path.{◌∙◌, ap}
use Prim.Native.Nat.{ℕ}
use Rattle.sheet.proofs.levels.put_called.Goals as goal

pub returns-in_default : goal.returns-in_default
unfolding called bytes
returns-in_default c =
    and_then _ _ _ c.put_counted-a.ensures (nothing _ ∙ ap (write _) (pick_true _ (eq-eqb _ _ c.in_default.ensures.none)))

pub returns : goal.returns
unfolding called bytes
returns c =
    let e = c.in-Some.ensures.some in
    and_then _ _ _ c.put_counted-a.ensures
    (and_then _ _ _ c.put_all-b.ensures (c.put_escaped.ensures ∙ ap (λ (x : List ℕ). write (c.put_all-b.new.out, c.put_all-b.result) (each escape x)) e.1)
    ∙ ap (write _) (pick-false _ (ne_eqb _ _ e.0)))
