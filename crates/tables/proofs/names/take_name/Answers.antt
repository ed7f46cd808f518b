-- That `take_name` of src/names.rt keeps its contract.
use native.Mathlib.Omega.{arith}
use Rattle.tables.proofs.NameLaws.{named-most, quoted-most, behind-within, place_is, unnamed-is}
use Rattle.tables.proofs.names.take_name.Goals as goal

pub name_at-n-requires : goal.name_at-n-requires
name_at-n-requires c =
    omega (arith, c.requires.0, c.find_behind-at.ensures, behind-within c.args.text.now c.args.i)

pub with_quotes-requires : goal.with_quotes-requires
with_quotes-requires c =
    omega (arith, c.name_at-n.ensures, named-most c.args.text.now c.find_behind-at.result)

pub blank-requires : goal.blank-requires
blank-requires c = (
  omega (arith, c.requires.0, c.find_behind-at.ensures, behind-within c.args.text.now c.args.i),
  omega (arith, c.with_quotes.ensures, quoted-most c.name_at-n.result, c.name_at-n.ensures, named-most c.args.text.now c.find_behind-at.result),
)

pub overflow_add-result : goal.overflow_add-result
overflow_add-result c =
    omega (arith, c.requires.0, c.find_behind-at.ensures, behind-within c.args.text.now c.args.i)

pub overflow_cast-result : goal.overflow_cast-result
overflow_cast-result c =
    omega (arith, c.name_at-n.ensures, named-most c.args.text.now c.find_behind-at.result)

pub returns : goal.returns
returns c =
    let f = c.find_behind-at.ensures in
    let n = c.name_at-n.ensures in
    (unnamed-is _ _ _ _ _ _ f n c.with_quotes.ensures c.blank.ensures, place_is _ _ _ _ f n)
