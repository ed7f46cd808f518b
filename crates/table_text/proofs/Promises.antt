-- The promises of the table as it is typed, kept.
use Prim.Native.Nat.{ℕ, suc, ◌+◌, ◌/◌, ◌%◌, ◌^◌, ◌<◌}
use mathlib.Core.Path.{◌≡◌, refl, sym, ◌∙◌}
use mathlib.Core.List.{List, [], ◌∷◌, ◌++◌}
use mathlib.Core.Logic.{◌≢◌}
use native.Mathlib.Omega.{arith}
use lib.ListN.{length, get_or}
use Rattle.text.specs.Text.{hex, decimal, field}
use Rattle.text.specs.Phrases.{bytes, counted}
use Rattle.aic_record.specs.declared.Aic.{Aic}
use Rattle.tables.proofs.FillLaws.{length-list_of, get_d-list_of}
use Rattle.beginning.specs.Begin.{begin_of}
use Rattle.table_text.specs.Text.{table_in, heading, source_line, source_lines, last_lines, table_text, no_beginning, no_table, text_of}
use Rattle.table_text.specs.Promises.{Promises}
use Rattle.table_text.proofs.ReadLaws.{read_back_lem}
use Rattle.table_text.proofs.SizeLaws.{text-most}
use Rattle.table_text.proofs.TextLaws.{no_beginning_lem, no_table_lem, the-table, is-tabled, tabled-parts}

priorities : (a : Aic) (i : ℕ) → i < 32 → get_or (table_in a).priority i 0 ≡ get_or a.mode i 0 % 8
unfolding table_in
priorities a i l = get_d-list_of 32 _ i l

types : (a : Aic) (i : ℕ) → i < 32 → get_or (table_in a).kind i 0 ≡ get_or a.mode i 0 / 32 % 4
unfolding table_in
types a i l = get_d-list_of 32 _ i l

frames : (a : Aic) (i : ℕ) → i < 32 → get_or (table_in a).frame i 0 ≡ 0
unfolding table_in
frames a i l = get_d-list_of 32 _ i l

lengths : (a : Aic) → (length (table_in a).priority ≡ 32) × (length (table_in a).kind ≡ 32) × (length (table_in a).frame ≡ 32)
unfolding table_in
lengths a = (length-list_of 32 _, length-list_of 32 _, length-list_of 32 _)

forced-is : (a : Aic) → a.forced < 2 ^ 32 → (table_in a).forced ≡ a.forced
unfolding table_in
forced-is a l = omega (arith, l)

mark-is : (a : Aic) → (table_in a).mark ≡ 0
unfolding table_in
mark-is a = refl

text-is : (a : Aic) → table_text a
    ≡ bytes "# priority, type and frame in bytes of each source, 0 first; the frames and that of a mark are 0 and to be filled in\n"
    ++ source_lines a.mode 32 0 ++ (bytes "0x" ++ hex a.forced ++ bytes " # forced sources\n0 # frame of a mark in bytes\n")
unfolding table_text heading last_lines
text-is a = refl

lines_none : (modes : List ℕ) (i : ℕ) → source_lines modes 0 i ≡ []
unfolding source_lines
lines_none modes i = refl

lines_more : (modes : List ℕ) (k i : ℕ) → source_lines modes (suc k) i ≡ source_line (get_or modes i 0) i ++ source_lines modes k (i + 1)
unfolding source_lines
lines_more modes k i = refl

line-is : (mode i : ℕ) → source_line mode i ≡ decimal (mode % 8) ++ (32 ∷ decimal (mode / 32 % 4)) ++ (bytes " 0 # source " ++ decimal i) ++ (10 ∷ [])
unfolding source_line field counted
line-is mode i = refl

not-begun : (s : List ℕ) → (begin_of s).refusal ≢ 0
    → text_of s ≡ bytes "no table: the trace has no beginning, E" ++ field (begin_of s).refusal ++ field (begin_of s).place ++ (10 ∷ [])
not-begun s n = sym (no_beginning_lem s (begin_of s) refl n) ∙ unfold no_beginning in refl

not_aic : (s : List ℕ) → (begin_of s).refusal ≡ 0 → (begin_of s).machine.kind ≢ 0 → text_of s ≡ bytes "no table: the trace is not of an AIC\n"
not_aic s e n = sym (no_table_lem s (begin_of s) refl e n) ∙ unfold no_table in refl

pub kept : Promises
kept =
    record {
      read_back = read_back_lem;
      priorities = priorities;
      types = types;
      frames = frames;
      lengths = lengths;
      forced_is = forced-is;
      mark_is = mark-is;
      text_is = text-is;
      lines_none = lines_none;
      lines_more = lines_more;
      line_is = line-is;
      tabled = λ s. (tabled-parts s, λ h. sym (is-tabled s (begin_of s) refl h.0 h.1));
      text_after = λ s h. let p = tabled-parts s h in sym (the-table s (begin_of s) refl p.0 p.1);
      not_begun = not-begun;
      not_aic = not_aic;
      most = text-most;
    }
