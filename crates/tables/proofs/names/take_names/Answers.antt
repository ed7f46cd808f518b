-- That `take_names` of src/names.rt keeps its contract.
use native.Mathlib.Omega.{arith}
use mathlib.Core.Path.{refl, ap, ◌∙◌}
use lib.ListN.{length, length-set}
use Rattle.tables.specs.Names.{unnamed_to}
use Rattle.tables.specs.Named.{place_of}
use Rattle.tables.proofs.NameLaws.{length-unnamed, unnamed-more, unnamed-done, place_at, places_more}
use borrow.Author.Rules.{rules}
use Rattle.tables.proofs.names.take_names.Goals as goal

pub loop-i-init : goal.loop-i-init
loop-i-init c = (unfold unnamed_to in refl, refl, λ j l. absurd (omega arith))

pub take_name-requires : goal.take_name-requires
take_name-requires c =
    let l = c.loop-i in
    (omega (arith, c.requires, ap length l.invariant.0, length-unnamed c.args.text.now l.i), search rules)

pub loop-i-preserved : goal.loop-i-preserved
loop-i-preserved c =
    let l = c.loop-i in
    let s = c.args.text.now in
    let p = c.take_name in (
      unnamed-more s _ _ l.i l.invariant.0 p.ensures.0,
      length-set l.places l.i p.result ∙ l.invariant.1,
      places_more (place_of s) l.places l.i p.result (omega (arith, l.invariant.1)) (place_at s _ l.i p.result l.invariant.0 p.ensures.1) l.invariant.2,
    )

pub shape_of-text : goal.shape_of-text
shape_of-text c = ap length c.loop-i.invariant.0 ∙ length-unnamed _ _

pub returns : goal.returns
returns c =
    let l = c.loop-i in
    (unnamed-done _ _ l.i l.invariant.0 (omega arith) (omega arith), λ i m. l.invariant.2 i (omega arith))
