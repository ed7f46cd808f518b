-- That `read_next` of src/lib.rt keeps its contract.
use Prim.Native.Nat.{◌≤◌}
use native.Mathlib.Omega.{arith}
use lib.ListN.{length}
use Rattle.tables.proofs.SeekLaws.{end_sought, start-within, end-within, started_at, ended_at}
use Rattle.tables.proofs.ReadLaws.{next-read}
use Rattle.tables.proofs.read_next.Goals as goal

pub slice_bounds-read_word-count : goal.slice_bounds-read_word-count
slice_bounds-read_word-count c =
    omega (arith, (end_sought c.args.text.now c.seek-start.result).from, ended_at c.args.text.now c.seek-start.result c.seek-end.ensures)

pub slice_bounds-read_word-start : goal.slice_bounds-read_word-start
slice_bounds-read_word-start c =
    omega (arith, (end_sought c.args.text.now c.seek-start.result).from, ended_at c.args.text.now c.seek-start.result c.seek-end.ensures)

pub slice_bounds-read_word-end : goal.slice_bounds-read_word-end
slice_bounds-read_word-end c =
    let s : c.seek-start.result ≤ length c.args.text.now = omega (arith, start-within c.args.text.now c.args.past c.requires, started_at c.args.text.now c.args.past c.seek-start.ensures) in
    omega (arith, end-within c.args.text.now c.seek-start.result s, ended_at c.args.text.now c.seek-start.result c.seek-end.ensures)

pub returns : goal.returns
returns c =
    let a = c.args in
    next-read a.text.now a.past _ _ _ (started_at a.text.now a.past c.seek-start.ensures) (ended_at a.text.now _ c.seek-end.ensures) c.read_word.ensures
