-- A dump read back: a tick's values put the table of the tick before right, and so each tick gives its own.
use Prim.Native.Nat.{ℕ, ◌+◌, ◌%◌, ◌^◌, ◌<◌, ◌≤◌}
use mathlib.Core.Path.{◌≡◌, refl, sym, ap, ◌∙◌}
use mathlib.Core.List.{List, [], ◌∷◌, ◌++◌, append_assoc, map}
use native.Mathlib.Omega.{arith}
use lib.Dec.{eqb}
use lib.ListN.{length, get_or, drop, replicate, length-append, length-replicate}
use lib.Seq.{append_snoc, set_at}
use borrow.Author.Tests.{eqb-true}
use Rattle.words.specs.Choice.{pick}
use Rattle.words.specs.Counting.{all_below}
use Rattle.words.proofs.ChoiceLaws.{pick_cases}
use Rattle.text.specs.Text.{decimal, field}
use Rattle.text.specs.Phrases.{bytes}
use Rattle.vcd.specs.Dump.{change, values_from, changes_from, tick, first_tick, next_tick, ticks_from, ending, ticks}
use Rattle.vcd.specs.Promises.{held_from, held, Quiet, OneLine}
use Rattle.vcd.specs.Replay.{lines_of, line_read, tables_from, replay}
use Rattle.vcd.proofs.LineLaws.{one_more, one_append, one_tested, one-decimal, other-line, change-read, tick-read}

-- ---- values

-- places before k are those of p; the kth is put
placed : (p q rest : List ℕ) (x w k v : ℕ) → length p ≡ k → k < 94
    → tables_from (p ++ x ∷ q) (lines_of (change w k v ++ rest)) ≡ tables_from (p ++ (v % 2 ^ w ∷ []) ++ q) (lines_of rest)
placed p q rest x w k v e h =
    change-read (p ++ x ∷ q) rest w k v h
    ∙ ap (λ (t : List ℕ). tables_from t (lines_of rest)) (set_at p x q (v % 2 ^ w) k e ∙ sym (append_snoc p (v % 2 ^ w) q))

longer : (p : List ℕ) (x k : ℕ) → length p ≡ k → length (p ++ (x ∷ [])) ≡ k + 1
longer p x k e = length-append p (x ∷ []) ∙ omega (arith, e)

-- every value put: whatever stood there, the values stand there now
values-read : (ws now p q rest : List ℕ) (k : ℕ) → length p ≡ k → length q ≡ length ws → k + length ws ≤ 94
    → tables_from (p ++ q) (lines_of (values_from k ws now ++ rest)) ≡ tables_from (p ++ held_from k ws now) (lines_of rest)
unfolding values_from held_from
values-read [] now p [] rest k e s h = refl
values-read [] now p (x ∷ q) rest k e s h = absurd (omega arith)
values-read (w ∷ ws) now p [] rest k e s h = absurd (omega arith)
values-read (w ∷ ws) now p (x ∷ q) rest k e s h =
    let v = get_or now k 0 in
    let p' = p ++ (v % 2 ^ w ∷ []) in
    ap (λ (t : List ℕ). tables_from (p ++ x ∷ q) (lines_of t)) (append_assoc (change w k v) (values_from (k + 1) ws now) rest)
    ∙ placed p q (values_from (k + 1) ws now ++ rest) x w k v e (omega arith)
    ∙ values-read ws now p' q rest (k + 1) (longer p (v % 2 ^ w) k e) (omega arith) (omega arith)
    ∙ ap (λ (t : List ℕ). tables_from t (lines_of rest)) (append_snoc p (v % 2 ^ w) (held_from (k + 1) ws now))

-- the changes put: what stood there before is what stands there now, for what did not change is the same
changes-read : (ws before now p rest : List ℕ) (k : ℕ) → length p ≡ k → k + length ws ≤ 94
    → tables_from (p ++ held_from k ws before) (lines_of (changes_from k ws before now ++ rest)) ≡ tables_from (p ++ held_from k ws now) (lines_of rest)
unfolding changes_from held_from
changes-read [] before now p rest k e h = refl
changes-read (w ∷ ws) before now p rest k e h =
    ap (λ (t : List ℕ). tables_from (p ++ u % 2 ^ w ∷ held_from (k + 1) ws before) (lines_of t)) (append_assoc (pick (eqb u v) [] (change w k v)) (changes_from (k + 1) ws before now) rest)
    ∙ here
    ∙ changes-read ws before now (p ++ (v % 2 ^ w ∷ [])) rest (k + 1) (longer p (v % 2 ^ w) k e) (omega arith)
    ∙ ap (λ (t : List ℕ). tables_from t (lines_of rest)) (append_snoc p (v % 2 ^ w) (held_from (k + 1) ws now))
  where
    u : ℕ
    u = get_or before k 0

    v : ℕ
    v = get_or now k 0

    after : List ℕ
    after = changes_from (k + 1) ws before now ++ rest

    here : tables_from (p ++ u % 2 ^ w ∷ held_from (k + 1) ws before) (lines_of (pick (eqb u v) [] (change w k v) ++ after))
        ≡ tables_from (p ++ (v % 2 ^ w ∷ []) ++ held_from (k + 1) ws before) (lines_of after)
    here =
        pick_cases (λ (x : List ℕ). tables_from (p ++ u % 2 ^ w ∷ held_from (k + 1) ws before) (lines_of (x ++ after)) ≡ tables_from (p ++ (v % 2 ^ w ∷ []) ++ held_from (k + 1) ws before) (lines_of after))
        (eqb u v)
        (λ s. ap (λ (t : List ℕ). tables_from t (lines_of after)) (ap (λ (x : ℕ). p ++ x % 2 ^ w ∷ held_from (k + 1) ws before) (eqb-true u v s) ∙ sym (append_snoc p (v % 2 ^ w) (held_from (k + 1) ws before))))
        (λ s. placed p (held_from (k + 1) ws before) after (u % 2 ^ w) w k v e (omega arith))

-- ---- ticks

next-read : (ws before now rest : List ℕ) (n : ℕ) → length ws ≤ 94
    → tables_from (held ws before) (lines_of (next_tick n ws before now ++ rest)) ≡ held ws before ∷ tables_from (held ws now) (lines_of rest)
unfolding next_tick
next-read ws before now rest n h =
    ap (λ (t : List ℕ). tables_from (held ws before) (lines_of t)) (append_assoc (tick n) (changes_from 0 ws before now) rest)
    ∙ tick-read (held ws before) (changes_from 0 ws before now ++ rest) n
    ∙ ap (λ (ts : List (List ℕ)). held ws before ∷ ts) (changes-read ws before now [] rest 0 refl (omega arith))

-- the comment that may end a dump
ending-read : (t : List ℕ) (refusal offset : ℕ) → tables_from t (lines_of (ending refusal offset)) ≡ t ∷ []
unfolding ending
ending-read t refusal offset =
    pick_cases (λ (x : List ℕ). tables_from t (lines_of x) ≡ t ∷ []) (eqb refusal 0) (λ e. none)
    (λ e. ap (λ (x : List ℕ). tables_from t (lines_of x)) split ∙ other-line t comment [] plain ∙ none)
  where
    none : tables_from t (lines_of []) ≡ t ∷ []
    none = unfold tables_from lines_of in refl

    comment : List ℕ
    comment = bytes "comment E" ++ field refusal ++ field offset ++ bytes " $end"

    split : bytes "$comment E" ++ field refusal ++ field offset ++ bytes " $end\n" ≡ (36 ∷ comment) ++ 10 ∷ []
    split = unfold bytes in ap (λ (x : List ℕ). 36 ∷ x) (sym (append_assoc (bytes "comment E" ++ field refusal ++ field offset) (bytes " $end") (10 ∷ [])))

    spaced : (n : ℕ) → OneLine (field n)
    spaced n = unfold field in one_more 32 (decimal n) (λ e. omega arith) (one-decimal n)

    plain : OneLine comment
    plain =
        let front = one_append (bytes "comment E") (field refusal) (one_tested (bytes "comment E") (unfold bytes all_below in refl)) (spaced refusal) in
        one_append (bytes "comment E" ++ field refusal ++ field offset) (bytes " $end")
        (one_append (bytes "comment E" ++ field refusal) (field offset) front (spaced offset))
        (one_tested (bytes " $end") (unfold bytes all_below in refl))

rest_read : (ws before : List ℕ) (rest : List (List ℕ)) (n refusal offset : ℕ) → length ws ≤ 94
    → tables_from (held ws before) (lines_of (ticks_from n ws before rest ++ ending refusal offset)) ≡ map (held ws) (before ∷ rest)
unfolding ticks_from
rest_read ws before [] n refusal offset h = ending-read (held ws before) refusal offset
rest_read ws before (now ∷ rest) n refusal offset h =
    ap (λ (t : List ℕ). tables_from (held ws before) (lines_of t)) (append_assoc (next_tick (n + 1) ws before now) (ticks_from (n + 1) ws now rest) (ending refusal offset))
    ∙ next-read ws before now (ticks_from (n + 1) ws now rest ++ ending refusal offset) (n + 1) h
    ∙ ap (λ (ts : List (List ℕ)). held ws before ∷ ts) (rest_read ws now rest (n + 1) refusal offset h)

-- $dumpvars and $end stand around the first values
around-read : (t rest : List ℕ) → (tables_from t (lines_of (bytes "$dumpvars\n" ++ rest)) ≡ tables_from t (lines_of rest)) × (tables_from t (lines_of (bytes "$end\n" ++ rest)) ≡ tables_from t (lines_of rest))
unfolding bytes lines_of tables_from line_read pick
around-read t rest = (refl, refl)

first_read : (ws now t rest : List ℕ) → length t ≡ length ws → length ws ≤ 94
    → tables_from t (lines_of (first_tick ws now ++ rest)) ≡ t ∷ tables_from (held ws now) (lines_of rest)
unfolding first_tick
first_read ws now t rest s h =
    ap (λ (x : List ℕ). tables_from t (lines_of x))
    (append_assoc (tick 0 ++ bytes "$dumpvars\n" ++ values_from 0 ws now) (bytes "$end\n") rest
    ∙ append_assoc (tick 0 ++ bytes "$dumpvars\n") (values_from 0 ws now) (bytes "$end\n" ++ rest)
    ∙ append_assoc (tick 0) (bytes "$dumpvars\n") (values_from 0 ws now ++ (bytes "$end\n" ++ rest)))
    ∙ tick-read t (bytes "$dumpvars\n" ++ (values_from 0 ws now ++ (bytes "$end\n" ++ rest))) 0
    ∙ ap (λ (ts : List (List ℕ)). t ∷ ts)
    ((around-read t (values_from 0 ws now ++ (bytes "$end\n" ++ rest))).0
    ∙ values-read ws now [] t (bytes "$end\n" ++ rest) 0 refl s (omega arith)
    ∙ (around-read (held ws now) rest).1)

pub reads : (head ws first : List ℕ) (rest : List (List ℕ)) (refusal offset : ℕ) → Quiet head → length ws ≤ 94
    → replay (length ws) (head ++ ticks ws first rest refusal offset) ≡ map (held ws) (first ∷ rest)
unfolding replay ticks
reads head ws first rest refusal offset quiet h =
    ap (drop 1)
    (quiet (replicate (length ws) 0) (first_tick ws first ++ ticks_from 0 ws first rest ++ ending refusal offset)
    ∙ ap (λ (x : List ℕ). tables_from (replicate (length ws) 0) (lines_of x)) (append_assoc (first_tick ws first) (ticks_from 0 ws first rest) (ending refusal offset))
    ∙ first_read ws first (replicate (length ws) 0) (ticks_from 0 ws first rest ++ ending refusal offset) (length-replicate (length ws) 0) h)
    ∙ rest_read ws first rest 0 refusal offset h
