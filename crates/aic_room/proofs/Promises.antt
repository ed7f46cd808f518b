-- The promises of the layout, kept.
use mathlib.Core.Path.{refl, sym, ◌∙◌}
use lib.ListN.{get_or-replicate}
use Rattle.aic_room.specs.Room.{laid}
use Rattle.aic_room.specs.Promises.{Promises}
use Rattle.aic_room.proofs.CellLaws.{part-is, kind-is, any-is, level_word-is, table_is}
use Rattle.aic_room.proofs.RecordLaws.{room-length, spare-is, one-record}

pub kept : Promises
kept =
    record {
      determined = λ a r s h k. h.words ∙ sym k.words;
      whole = one-record;
      stands = λ a s. (laid a, record { shaped = s; words = refl });
      size = λ a r h. (room-length h, kind-is h);
      levels = λ a r p h l. level_word-is h p l;
      byte = λ a r h. any-is h;
      table = λ a r b h l. table_is h b l;
      spare = λ a r i h l. spare-is h i l;
      before = λ a r i h l. part-is h 5 i l ∙ get_or-replicate 8 i 0 0 l;
      after = λ a r i h l. part-is h 8 i l ∙ get_or-replicate 128 i 0 0 l;
      rest = λ a r i h l. part-is h 10 i l ∙ get_or-replicate 1536 i 0 0 l;
    }
