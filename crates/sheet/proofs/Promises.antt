-- The promises of the page, kept.
use Prim.Native.Nat.{ℕ, suc, ◌<◌, ◌≤◌, max}
use mathlib.Core.Path.{◌≡◌, refl, sym, ap, ◌∙◌}
use mathlib.Core.Bool.{Bool, true, false, not, ◌&&◌, ◌||◌}
use mathlib.Core.List.{List, [], ◌∷◌, ◌++◌, append-nil}
use mathlib.Core.Logic.{◌↔◌, ◌≢◌, ◌⊎◌, inl, inr, ⊎_elim}
use native.Mathlib.Nat.{div-le_of_le-mul, le-max_right}
use native.Mathlib.Omega.{arith}
use lib.Dec.{eqb, ltb}
use lib.ListN.{get_or}
use borrow.Author.Tests.{lt-ltb, le-ltb, ltb-true, eq-eqb, ne_eqb, eqb-true, eqb-false, not-true}
use Rattle.words.specs.Choice.{pick}
use Rattle.words.specs.Word.{bit}
use Rattle.words.specs.Counting.{lowest_below}
use Rattle.words.proofs.ChoiceLaws.{pick_true, pick-false}
use Rattle.words.proofs.CountingLaws.{lowest-one, lowest_found}
use Rattle.words.proofs.TruthLaws.{and_left, and_right, and_both, or-either, or_left, or_right, not-holds}
use Rattle.text.specs.Text.{decimal_of, hex_of, hex_digit, field}
use Rattle.text.specs.Phrases.{bytes, counted}
use Rattle.stack.specs.declared.Table.{Table}
use Rattle.stack.specs.Bytes.{normal, is_of, level_bytes}
use Rattle.stack.specs.Promises.{NormalOf}
use Rattle.sheet.specs.Texts.{amount, cell, cell_of, source_cell, empty_cell, each, down}
use Rattle.sheet.specs.Names.{plain, escape, escaped, name_of}
use Rattle.sheet.specs.Rows.{row_head, ended, enabling, remark, ending, trace_row, reason, left_out_row}
use Rattle.sheet.specs.Order.{shown, stands, chosen, by_level, in_order, ahead, ahead_of, hidden}
use Rattle.sheet.specs.Levels.{tallest, width, bar, owns, owner, called, whose, level_row, figure, bars, levels, stack_part}
use Rattle.sheet.specs.Sources.{source_head, typed, tabled, ahead_cell, bounded, bound_of, most, others, waited, first, term, started_cells, source_row, terms, waits_row}
use Rattle.sheet.specs.End.{head_row, out_row, traces_named, sums, head_part, hidden_line, sources_of, sources_part, page_end}
use Rattle.sheet.specs.Worked.{row_worked, sheet_worked, table_worked, source_worked, waits_worked}
use Rattle.sheet.specs.Promises.{Promises, occurs}
use Rattle.sheet.proofs.NameLaws.{printed, numbered, unlike}
use Rattle.sheet.proofs.OrderLaws.{stands_once}
use Rattle.sheet.proofs.PageSizeLaws.{length-head, length_trace, length-left_out, length_end}

-- ---- rows of traces

trace_worked : trace_row 3 row_worked (bytes "a<b\n")
    ≡ bytes "<tr><th>3</th><td>a&lt;b\\x0A</td><td data-figure=\"trace-steps\">7 steps</td><td data-figure=\"trace-steps-refused\">1 steps</td>"
    ++ bytes "<td data-figure=\"trace-marks\">2 marks</td><td data-figure=\"trace-idle-ends\">0 ends</td><td data-figure=\"trace-entries-left-open\">4 entries</td>"
    ++ bytes "<td data-figure=\"trace-ending\">E 8 65535</td></tr>\n"
unfolding trace_row row_head cell amount ending ended remark enabling each escape plain hex_of hex_digit field counted decimal_of bytes pick
trace_worked = refl

left_out_worked : left_out_row 12 18 40 9 (bytes "t")
    ≡ bytes "<tr><th>12</th><td>t</td><td colspan=\"6\" data-figure=\"trace-left-out\">left out by 18: after step 40 source 9 is enabled and not as in the table</td></tr>\n"
unfolding left_out_row row_head reason each escape plain counted decimal_of bytes pick
left_out_worked = refl

ended_by_lem : (refusal offset : ℕ) → refusal ≢ 0 → ended refusal offset ≡ bytes "E " ++ decimal_of 20 refusal ++ (bytes " " ++ decimal_of 20 offset)
unfolding ended field bytes
ended_by_lem refusal offset d = sym (pick-false _ (ne_eqb refusal 0 d))

remark-none : (used : ℕ) → used ≢ 0 → remark true used ≡ []
unfolding remark enabling
remark-none used d = unfold pick in (sym (pick-false _ (ne_eqb used 0 d)))

-- ---- which sources

not-zero : (x : ℕ) → not (eqb x 0) ≡ true → x ≢ 0
not-zero x h = eqb-false x 0 (not-true (eqb x 0) h)

is-not-zero : (x : ℕ) → x ≢ 0 → not (eqb x 0) ≡ true
is-not-zero x d = ap (λ (b : Bool). not b) (ne_eqb x 0 d)

shown-is : (t : Table) (used i : ℕ)
    → (shown t used i ≡ true) ↔ ((bit used i ≡ true) ⊎ ((get_or t.priority i 0 ≢ 0) ⊎ ((get_or t.kind i 0 ≢ 0) ⊎ (get_or t.frame i 0 ≢ 0))))
unfolding shown
shown-is t used i = (forth, back)
  where
    p : ℕ
    p = get_or t.priority i 0

    k : ℕ
    k = get_or t.kind i 0

    f : ℕ
    f = get_or t.frame i 0

    forth : (bit used i || (not (eqb p 0) || (not (eqb k 0) || not (eqb f 0)))) ≡ true → (bit used i ≡ true) ⊎ ((p ≢ 0) ⊎ ((k ≢ 0) ⊎ (f ≢ 0)))
    forth e =
        ⊎_elim (λ (h : bit used i ≡ true). inl h)
        (λ (h : (not (eqb p 0) || (not (eqb k 0) || not (eqb f 0))) ≡ true). ⊎_elim (λ (g : not (eqb p 0) ≡ true). inr (inl (not-zero p g)))
        (λ (g : (not (eqb k 0) || not (eqb f 0)) ≡ true). ⊎_elim (λ (m : not (eqb k 0) ≡ true). inr (inr (inl (not-zero k m))))
        (λ (m : not (eqb f 0) ≡ true). inr (inr (inr (not-zero f m))))
        (or-either (not (eqb k 0)) (not (eqb f 0)) g))
        (or-either (not (eqb p 0)) (not (eqb k 0) || not (eqb f 0)) h))
        (or-either (bit used i) (not (eqb p 0) || (not (eqb k 0) || not (eqb f 0))) e)

    back : (bit used i ≡ true) ⊎ ((p ≢ 0) ⊎ ((k ≢ 0) ⊎ (f ≢ 0))) → (bit used i || (not (eqb p 0) || (not (eqb k 0) || not (eqb f 0)))) ≡ true
    back (inl h) = or_left (not (eqb p 0) || (not (eqb k 0) || not (eqb f 0))) h
    back (inr (inl h)) = or_right (bit used i) (or_left (not (eqb k 0) || not (eqb f 0)) (is-not-zero p h))
    back (inr (inr (inl h))) = or_right (bit used i) (or_right (not (eqb p 0)) (or_left (not (eqb f 0)) (is-not-zero k h)))
    back (inr (inr (inr h))) = or_right (bit used i) (or_right (not (eqb p 0)) (or_right (not (eqb k 0)) (is-not-zero f h)))

chosen-passes : (p : ℕ → Bool) (n : ℕ) → p n ≡ true → chosen p (suc n) ≡ chosen p n ++ (n ∷ [])
unfolding chosen pick
chosen-passes p n e = rw e

chosen_fails : (p : ℕ → Bool) (n : ℕ) → p n ≡ false → chosen p (suc n) ≡ chosen p n
unfolding chosen pick
chosen_fails p n e = rw e (append-nil (chosen p n))

ahead-is : (t : Table) (j i : ℕ)
    → (ahead t j i ≡ true) ↔ ((get_or t.priority i 0 < get_or t.priority j 0) ⊎ ((get_or t.priority j 0 ≡ get_or t.priority i 0) × (j < i)))
unfolding ahead
ahead-is t j i = (forth, back)
  where
    q : ℕ
    q = get_or t.priority i 0

    p : ℕ
    p = get_or t.priority j 0

    forth : (ltb q p || (eqb p q && ltb j i)) ≡ true → (q < p) ⊎ ((p ≡ q) × (j < i))
    forth e =
        ⊎_elim (λ (h : ltb q p ≡ true). inl (ltb-true q p h))
        (λ (h : (eqb p q && ltb j i) ≡ true). inr (eqb-true p q (and_left (eqb p q) (ltb j i) h), ltb-true j i (and_right (eqb p q) (ltb j i) h)))
        (or-either (ltb q p) (eqb p q && ltb j i) e)

    back : (q < p) ⊎ ((p ≡ q) × (j < i)) → (ltb q p || (eqb p q && ltb j i)) ≡ true
    back (inl h) = or_left (eqb p q && ltb j i) (lt-ltb q p h)
    back (inr h) = or_right (ltb q p) (and_both (eq-eqb p q h.0) (lt-ltb j i h.1))

-- ---- whose frame

whose-mark : (t : Table) (names lengths : List ℕ) (l : ℕ) → level_bytes t l ≤ t.mark → whose t names lengths l ≡ bytes "the mark"
unfolding whose
whose-mark t names lengths l h = sym (pick-false _ (le-ltb t.mark (level_bytes t l) h))

owns_it : (t : Table) (l n i : ℕ) → NormalOf t l i → get_or t.frame i 0 ≡ n → owns t l n i ≡ true
unfolding owns is_of normal
owns_it t l n i h e =
    and_both
    (and_both (and_both (is-not-zero i (λ (q : i ≡ 0). omega (arith, h.0))) (ap (λ (b : Bool). not b) h.2)) (eq-eqb (get_or t.priority i 0) l h.3))
    (eq-eqb (get_or t.frame i 0) n e)

owned : (t : Table) (l n i : ℕ) → i < 32 → owns t l n i ≡ true → NormalOf t l i × (get_or t.frame i 0 ≡ n)
unfolding owns is_of normal
owned t l n i h e =
    let a = and_left ((not (eqb i 0) && not (bit t.forced i)) && eqb (get_or t.priority i 0) l) (eqb (get_or t.frame i 0) n) e in
    let b = and_left (not (eqb i 0) && not (bit t.forced i)) (eqb (get_or t.priority i 0) l) a in
    let z = not-zero i (and_left (not (eqb i 0)) (not (bit t.forced i)) b) in
    ((one_up i z, h, not-true (bit t.forced i) (and_right (not (eqb i 0)) (not (bit t.forced i)) b), eqb-true (get_or t.priority i 0) l (and_right (not (eqb i 0) && not (bit t.forced i)) (eqb (get_or t.priority i 0) l) a)), eqb-true (get_or t.frame i 0) n (and_right ((not (eqb i 0) && not (bit t.forced i)) && eqb (get_or t.priority i 0) l) (eqb (get_or t.frame i 0) n) e))
  where
    one_up : (i : ℕ) → i ≢ 0 → 1 ≤ i
    one_up i d = omega (arith, d)

whose_source : (t : Table) (names lengths : List ℕ) (l i : ℕ) → t.mark < level_bytes t l → NormalOf t l i → get_or t.frame i 0 ≡ level_bytes t l
    → ((j : ℕ) → j < i → NormalOf t l j → get_or t.frame j 0 ≢ level_bytes t l) → whose t names lengths l ≡ called names (get_or lengths i 0) i
unfolding whose
whose_source t names lengths l i m h e b =
    sym (pick_true _ (lt-ltb t.mark (level_bytes t l) m)) ∙ ap (λ (k : ℕ). called names (get_or lengths k 0) k) found
  where
    found : owner t l (level_bytes t l) ≡ i
    found =
        unfold owner in
        sym
        (lowest-one (owns t l (level_bytes t l)) 32 i (lowest_below 32 (owns t l (level_bytes t l)))
        (record {
          within = omega (arith, h.1);
          before = λ j q. not-holds (owns t l (level_bytes t l) j) (λ o. let r = owned t l (level_bytes t l) j (omega (arith, h.1)) o in b j q r.0 r.1);
          found = λ q. owns_it t l (level_bytes t l) i h e;
        })
        (lowest_found 32 (owns t l (level_bytes t l))))

called-named : (names : List ℕ) (k i : ℕ) → k ≢ 0 → called names k i ≡ counted (bytes "source ") i ++ (bytes ", " ++ escaped (name_of names k i))
unfolding called
called-named names k i d = ap (λ (x : List ℕ). counted (bytes "source ") i ++ x) (sym (pick-false _ (ne_eqb k 0 d)))

widest : (m b : ℕ) → b ≤ m → width m b ≤ 440
unfolding width
widest m b h = div-le_of_le-mul (max 1 m) (omega (arith, le-max_right 1 m))

bar_worked : bar 1000 250 7
    ≡ bytes "<text x=\"8\" y=\"20\">level 7</text><rect x=\"64\" y=\"8\" width=\"110\" height=\"16\" fill=\"none\" stroke=\"black\"/><text x=\"182\" y=\"20\">250 bytes</text>\n"
unfolding bar width amount counted decimal_of bytes pick
bar_worked = refl

-- ---- the sources

source-whole : source_row table_worked (bytes "tick") (4 ∷ []) sheet_worked 0 ≡ source_worked
unfolding source_row source_head name_of each escape plain tabled typed ahead_cell normal started_cells most others waited source_cell empty_cell cell_of amount counted decimal_of bytes pick
source-whole = refl

waits-whole : waits_row sheet_worked.waits sheet_worked.trace 1 ≡ waits_worked
unfolding waits_row terms term bounded first source_cell empty_cell cell_of amount counted decimal_of bytes pick
waits-whole = refl

source-named : (names : List ℕ) (k i : ℕ) → k ≢ 0
    → source_head names k i ≡ counted (bytes "<tr><th>source ") i ++ bytes "</th><td>" ++ escaped (name_of names k i) ++ bytes "</td>"
unfolding source_head
source-named names k i d = ap (λ (x : List ℕ). counted (bytes "<tr><th>source ") i ++ bytes "</th><td>" ++ x ++ bytes "</td>") (sym (pick-false _ (ne_eqb k 0 d)))

bounded-is : (begun unbounded : ℕ) → (bounded begun unbounded ≡ true) ↔ ((begun ≢ 0) × (unbounded ≢ begun))
unfolding bounded
bounded-is begun unbounded =
    (λ e. (not-zero begun (and_left (not (eqb begun 0)) (not (eqb unbounded begun)) e), eqb-false unbounded begun (not-true (eqb unbounded begun) (and_right (not (eqb begun 0)) (not (eqb unbounded begun)) e))), λ h. and_both (is-not-zero begun h.0) (ap (λ (b : Bool). not b) (ne_eqb unbounded begun h.1)))

most-none : (begun bound : ℕ) → begun ≢ 0 → most begun begun bound ≡ bytes "none"
unfolding most
most-none begun bound d = sym (pick_true _ (eq-eqb begun begun refl) ∙ pick-false _ (ne_eqb begun 0 d))

most_bound : (begun unbounded bound : ℕ) → begun ≢ 0 → unbounded ≢ begun → most begun unbounded bound ≡ amount bound (bytes "handlers")
unfolding most
most_bound begun unbounded bound d u = sym (pick-false _ (ne_eqb unbounded begun u) ∙ pick-false _ (ne_eqb begun 0 d))

first_of_lem : (unbounded step trace : ℕ) → unbounded ≢ 0 → first unbounded step trace ≡ counted (bytes "step ") step ++ counted (bytes " of trace ") trace
unfolding first
first_of_lem unbounded step trace d = sym (pick-false _ (ne_eqb unbounded 0 d))

pub kept : Promises
kept =
    record {
      amount_is = unfold amount in (λ n unit. refl);
      cell_is = unfold cell in (λ figure n unit. refl);
      cell_of_is = unfold cell_of in (λ figure i. refl);
      source_cell_is = unfold source_cell in (λ figure i n unit. refl);
      empty_cell_is = unfold empty_cell in (λ figure i. refl);
      markup = unfold escape bytes pick in (refl, refl, refl, refl, refl);
      printed = printed;
      told = numbered;
      by_byte = unfold each in (λ b name. (refl, refl));
      unlike = unlike;
      name_is = unfold name_of in (λ names k i. refl);
      trace_worked = trace_worked;
      left_out_worked = left_out_worked;
      row_begins = unfold row_head in (λ n name. refl);
      trace_is = unfold trace_row ending in (λ n t name. refl);
      ended_whole = unfold ended pick in (λ offset. refl);
      ended_by = ended_by_lem;
      remark_other = unfold remark pick in (λ used. refl);
      remark_idle = unfold remark enabling pick in refl;
      remark_none = remark-none;
      left_out_is = unfold left_out_row in (λ n refusal step source name. refl);
      by_sixteen = unfold reason pick in (λ step source. refl);
      by_seventeen = unfold reason pick in (λ step source. refl);
      by_eighteen = unfold reason pick in (λ step source. refl);
      shown_is = shown-is;
      once = stands_once;
      occurs_is = unfold occurs in (λ i x xs. (refl, refl));
      order_is = unfold in_order by_level down in (λ t used. refl);
      normal_at = unfold stands pick in (λ t used l i. refl);
      fast_at = unfold stands pick in (λ t used l i. refl);
      chosen_none = unfold chosen in (λ p. refl);
      chosen_passes = chosen-passes;
      chosen_fails = chosen_fails;
      ahead_is = ahead-is;
      ahead_counts = unfold ahead_of in (λ t used i. refl);
      hidden_counts = unfold hidden in (λ t used. refl);
      whose_mark = whose-mark;
      whose_source = whose_source;
      called_bare = unfold called pick in (λ names i. append-nil (counted (bytes "source ") i));
      called_named = called-named;
      level_is = unfold level_row in (λ t names lengths l. refl);
      width_is = unfold width in (λ m b. refl);
      widest = widest;
      tallest_is = unfold tallest in (λ t n. (refl, refl));
      bar_worked = bar_worked;
      source_whole = source-whole;
      waits_whole = waits-whole;
      source_bare = unfold source_head pick in (λ names i. refl);
      source_named = source-named;
      types = unfold typed pick in (refl, refl, refl, refl);
      ahead_normal = λ t used i e. unfold ahead_cell in (sym (pick_true _ e));
      ahead_fast = λ t used i e. unfold ahead_cell in (sym (pick-false _ e));
      most_never = unfold most pick in (λ unbounded bound. refl);
      most_none = most-none;
      most_bound = most_bound;
      bound_is = unfold bound_of in (λ w i. refl);
      first_none = unfold first pick in (λ step trace. refl);
      first_of = first_of_lem;
      others_none = unfold others pick in refl;
      others_some = λ unbounded d. unfold others in (sym (pick-false _ (ne_eqb unbounded 0 d)));
      bounded_is = bounded-is;
      term_told = unfold term pick in (λ figure i n. refl);
      term_empty = unfold term pick in (λ figure i n. refl);
      sections = λ t names lengths s. unfold page_end head_part traces_named sums stack_part figure bars levels sources_part sources_of hidden_line in (record { end = refl; head = refl; traces = refl; added = refl; stack = refl; sources = refl; not_shown = refl });
      source_rows = λ t names lengths s i. unfold source_row tabled started_cells waited in (record { row = refl; tabled_is = λ priority kind frame. refl; started = refl; waited_is = λ begun unbounded. refl });
      wait_rows = λ w trace i. unfold waits_row terms in (record { row = refl; six = λ told. refl });
      head_rows = unfold head_row in (λ words figure n unit. refl);
      out_rows = unfold out_row in (λ words n. refl);
      head_most = length-head;
      trace_most = length_trace;
      left_out_most = length-left_out;
      end_most = length_end;
    }
