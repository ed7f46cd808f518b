-- Two tables, worked through.
use Rattle.std.specs.Prelude.{ℕ, ◌∷◌, set, replicate}
use Rattle.stack.specs.declared.Table.{Table}

-- a board with all eight levels in use: sources 1 to 8 have the priorities 0 to 7 and frames of 100 to 170 bytes, sources 9 to 31 priority 7
-- and frames of 90; the frame of a mark is 64, and that of source 0, which counts for nothing, 9999
unfoldable pub board : Table
board =
    record {
      priority = 0 ∷ 0 ∷ 1 ∷ 2 ∷ 3 ∷ 4 ∷ 5 ∷ 6 ∷ replicate 24 7;
      kind = replicate 32 1;
      forced = 0;
      frame = 9999 ∷ 100 ∷ 110 ∷ 120 ∷ 130 ∷ 140 ∷ 150 ∷ 160 ∷ 170 ∷ replicate 23 90;
      mark = 64;
    }

-- sources 5 and 6 have priority 3 and frames of 100 and 200 bytes, source 7 priority 6 and 50 bytes, all others priority 0 and no frame; the
-- frame of source 0 is `nought`, that of a mark 64
unfoldable pub sparse : ℕ → ℕ → Table
sparse forced nought =
    record {
      priority = set (set (set (replicate 32 0) 5 3) 6 3) 7 6;
      kind = replicate 32 1;
      forced = forced;
      frame = set (set (set (set (replicate 32 0) 5 100) 6 200) 7 50) 0 nought;
      mark = 64;
    }
