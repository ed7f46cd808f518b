-- That `put_name_or` of src/sources.rt keeps its contract.
use Rattle.text.specs.Phrases.{bytes}
use Rattle.sheet.specs.Names.{escape}
use Rattle.sheet.specs.Texts.{each}
use Rattle.text.specs.Text.{write}
use Rattle.words.proofs.ChoiceLaws.{pick-false, pick_true}
use borrow.Author.Tests.{eq-eqb, ne_eqb}
use mathlib.Core.List.{List}
use mathlib.Core.Path.{◌∙◌, ap}
use Prim.Native.Nat.{ℕ}
use Rattle.sheet.proofs.sources.put_name_or.Goals as goal

pub returns-in-Some : goal.returns-in-Some
returns-in-Some c =
    let e = c.in-Some.ensures.some in
    c.put_escaped.ensures ∙ ap (λ (x : List ℕ). write (c.args.out.now, c.args.at) (each escape x)) e.1 ∙ ap (write _) (pick-false _ (ne_eqb _ _ e.0))

pub returns-in-None : goal.returns-in-None
unfolding bytes
returns-in-None c = c.put_all.ensures ∙ ap (write _) (pick_true _ (eq-eqb _ _ c.in-None.ensures.none))
