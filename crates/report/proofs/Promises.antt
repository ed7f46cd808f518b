-- The promises of the report, kept.
use Prim.Native.Nat.{ℕ, suc}
use mathlib.Core.Path.{◌≡◌, refl, sym, ◌∙◌}
use mathlib.Core.List.{List, [], ◌∷◌, ◌++◌, append-nil, append_assoc}
use mathlib.Core.Logic.{◌≢◌}
use native.Mathlib.Omega.{arith}
use lib.ListN.{get_or}
use borrow.Author.Tests.{ne_eqb}
use Rattle.words.specs.Choice.{pick}
use Rattle.words.proofs.ChoiceLaws.{pick_true, pick-false}
use Rattle.text.specs.Text.{decimal, decimal_of, field}
use Rattle.text.proofs.Promises.{kept as texts}
use Rattle.text.proofs.WriteLaws.{write-laid}
use Rattle.text.specs.Phrases.{bytes, counted}
use Rattle.totals.specs.declared.Totals.{Totals}
use Rattle.report.specs.Lines.{line_end}
use Rattle.report.specs.Printed.{named, ended_at, trace_line, left_out_line, source_line, source_lines}
use Rattle.report.specs.Promises.{Promises}
use Rattle.report.proofs.LineLaws.{line-over, line-within, end_before, end_at, name-short, name-whole, name-empty, feeds-none, feeds_feed, feeds_else}
use Rattle.report.proofs.SizeLaws.{length_trace, length-left_out, length_sources}
use Rattle.report.proofs.OrderLaws as order
use Rattle.report.proofs.PutLaws.{put-none_yet, put-one-more}

-- ---- the lines, written out

feed : bytes "\n" ≡ 10 ∷ []
unfolding bytes
feed = refl

plain : (offset : ℕ) → ended_at 0 offset ≡ []
unfolding ended_at
plain offset = sym (pick_true _ refl)

ended : (refusal offset : ℕ) → refusal ≢ 0 → ended_at refusal offset ≡ bytes ", E" ++ field refusal ++ field offset
unfolding ended_at
ended refusal offset d = sym (pick-false _ (ne_eqb refusal 0 d))

played-line : (played refused offset : ℕ) (name : List ℕ)
    → trace_line played refused 0 offset name ≡ bytes "steps played " ++ decimal played ++ bytes ", steps refused " ++ decimal refused ++ bytes ": " ++ name ++ bytes "\n"
unfolding trace_line counted named
played-line played refused offset name = simp (plain offset, feed, append_assoc, append-nil)

cut_line : (played refused refusal offset : ℕ) (name : List ℕ) → refusal ≢ 0
    → trace_line played refused refusal offset name
    ≡ bytes "steps played " ++ decimal played ++ bytes ", steps refused " ++ decimal refused ++ bytes ", E" ++ field refusal ++ field offset ++ bytes ": " ++ name ++ bytes "\n"
unfolding trace_line counted named
cut_line played refused refusal offset name d = simp (ended refusal offset d, feed, append_assoc)

left_out-line : (refusal : ℕ) (name : List ℕ) → left_out_line refusal name ≡ bytes "refusal " ++ decimal refusal ++ bytes ": " ++ name ++ bytes "\n"
unfolding left_out_line counted named
left_out-line refusal name = simp (feed, append_assoc)

source-line : (i started waited entries : ℕ)
    → source_line i started waited entries
    ≡ bytes "source " ++ decimal i ++ bytes ": handlers started " ++ decimal started ++ bytes ", most handlers started while it waited " ++ decimal waited
    ++ bytes ", most entries open while it was open " ++ decimal entries ++ bytes "\n"
unfolding source_line counted
source-line i started waited entries = simp (feed, append_assoc)

no_source_lem : (t : Totals) → source_lines 0 t ≡ []
unfolding source_lines
no_source_lem t = refl

next_source : (n : ℕ) (t : Totals)
    → source_lines (suc n) t ≡ source_lines n t ++ source_line n (get_or t.started n 0) (get_or t.waited n 0) (get_or t.entries n 0)
unfolding source_lines
next_source n t = refl

-- ---- worked lines

worked_trace : trace_line 7 1 0 27 (bytes "examples/first.trace") ≡ bytes "steps played 7, steps refused 1: examples/first.trace\n"
unfolding trace_line counted named ended_at bytes decimal_of pick
worked_trace = refl

worked_cut : trace_line 1 0 8 7 (bytes "examples/cut-short.trace") ≡ bytes "steps played 1, steps refused 0, E 8 7: examples/cut-short.trace\n"
unfolding trace_line counted named ended_at field bytes decimal_of pick
worked_cut = refl

worked_missing : left_out_line 17 (bytes "missing.trace") ≡ bytes "refusal 17: missing.trace\n"
unfolding left_out_line counted named bytes decimal_of pick
worked_missing = refl

worked-left_out : left_out_line 16 (bytes "left-out.trace") ≡ bytes "refusal 16: left-out.trace\n"
unfolding left_out_line counted named bytes decimal_of pick
worked-left_out = refl

worked_source : source_line 31 4294967295 12 8
    ≡ bytes "source 31: handlers started 4294967295, most handlers started while it waited 12, most entries open while it was open 8\n"
unfolding source_line counted bytes decimal_of pick
worked_source = refl

pub kept : Promises
kept =
    record {
      put_none = put-none_yet;
      put_more = put-one-more;
      any_order = order.any_order;
      played = played-line;
      cut = cut_line;
      left_out = left_out-line;
      figures = source-line;
      no_source = no_source_lem;
      next_source = next_source;
      worked_trace = worked_trace;
      worked_cut = worked_cut;
      worked_missing = worked_missing;
      worked_left_out = worked-left_out;
      worked_source = worked_source;
      trace_most = length_trace;
      left_out_most = length-left_out;
      sources_most = length_sources;
      nothing_dropped = λ l text h. sym (write-laid l text) ∙ texts.fits l text h;
      end_within = λ s at h. line-within s at (line_end s at) h refl;
      end_before = end_before;
      end_at = end_at;
      end_beyond = λ s at h. sym (line-over s at h);
      name_short = name-short;
      name_whole = λ s at e l c. name-whole s at e c;
      name_empty = λ s at. name-empty s at at (omega arith);
      feeds_none = feeds-none;
      feeds_feed = feeds_feed;
      feeds_else = feeds_else;
    }
