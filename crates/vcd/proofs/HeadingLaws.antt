-- A heading as it is read: it says nothing of values, and declares the identifiers in their order.
use Prim.Native.Nat.{ℕ, zero, suc, ◌+◌, ◌%◌, ◌<◌}
use mathlib.Core.Path.{◌≡◌, refl, sym, ap, subst, ◌∙◌}
use mathlib.Core.List.{List, [], ◌∷◌, ◌++◌, append-nil, append_assoc}
use mathlib.Core.Logic.{◌≢◌}
use native.Mathlib.Omega.{arith}
use lib.ListN.{length, get_or}
use borrow.Author.Tests.{ne_eqb}
use Rattle.words.specs.Choice.{pick}
use Rattle.words.specs.Counting.{all_below}
use Rattle.text.specs.Text.{decimal}
use Rattle.text.proofs.Promises.{kept as texts}
use Rattle.text.specs.Phrases.{bytes}
use Rattle.vcd.specs.Dump.{Signal, declaration, declarations, opening, declared, heading}
use Rattle.vcd.specs.Promises.{Quiet, OneLine, Named}
use Rattle.vcd.specs.Replay.{lines_of, line_read, tables_from, behind_space, identifiers}
use Rattle.vcd.proofs.LineLaws.{one_more, one_append, one_tested, one-decimal, line, other-line}

-- a text of whole lines that says nothing of values and declares these identifiers
abbrev Heads : List ℕ → List ℕ → Type 0
Heads a is = (bs : List ℕ) → ((t : List ℕ) → tables_from t (lines_of (a ++ bs)) ≡ tables_from t (lines_of bs)) × (identifiers (lines_of (a ++ bs)) ≡ is ++ identifiers (lines_of bs))

heads_append : (a b is js : List ℕ) → Heads a is → Heads b js → Heads (a ++ b) (is ++ js)
heads_append a b is js f g bs = (
  λ t. ap (λ (x : List ℕ). tables_from t (lines_of x)) (append_assoc a b bs) ∙ (f (b ++ bs)).0 t ∙ (g bs).0 t,
  ap (λ (x : List ℕ). identifiers (lines_of x)) (append_assoc a b bs) ∙ (f (b ++ bs)).1 ∙ ap (λ (x : List ℕ). is ++ x) (g bs).1
      ∙ sym (append_assoc is js (identifiers (lines_of bs))),
)

heads_line : (l is : List ℕ) → OneLine l → ((ls : List (List ℕ)) → identifiers ((36 ∷ l) ∷ ls) ≡ is ++ identifiers ls) → Heads ((36 ∷ l) ++ (10 ∷ [])) is
heads_line l is h f bs = (
  λ t. ap (λ (x : List ℕ). tables_from t (lines_of x)) (append_assoc (36 ∷ l) (10 ∷ []) bs) ∙ other-line t l bs h,
  ap (λ (x : List ℕ). identifiers (lines_of x)) (append_assoc (36 ∷ l) (10 ∷ []) bs)
      ∙ ap identifiers (line (36 ∷ l) bs (one_more 36 l (λ e. omega arith) h)) ∙ f (lines_of bs),
)

-- ---- the lines that are always the same

opening_heads : Heads opening []
unfolding opening bytes lines_of tables_from line_read identifiers pick
opening_heads bs = (λ t. refl, refl)

end_heads : Heads (bytes "$end\n") []
unfolding bytes lines_of tables_from line_read identifiers pick
end_heads bs = (λ t. refl, refl)

upscope_heads : Heads (bytes "$upscope $end\n") []
unfolding bytes lines_of tables_from line_read identifiers pick
upscope_heads bs = (λ t. refl, refl)

declared_heads : Heads declared []
unfolding declared bytes lines_of tables_from line_read identifiers pick
declared_heads bs = (λ t. refl, refl)

-- ---- the scope

scope_heads : (name : List ℕ) → OneLine name → Heads (bytes "$scope module " ++ (name ++ (10 ∷ []))) []
scope_heads name h =
    subst (λ (x : List ℕ). Heads x []) split
    (heads_line (bytes "scope module " ++ name) [] (one_append (bytes "scope module ") name (one_tested (bytes "scope module ") (unfold bytes all_below in refl)) h) other)
  where
    split : (36 ∷ (bytes "scope module " ++ name)) ++ (10 ∷ []) ≡ bytes "$scope module " ++ (name ++ (10 ∷ []))
    split = unfold bytes in append_assoc (bytes "$scope module ") name (10 ∷ [])

    other : (ls : List (List ℕ)) → identifiers ((36 ∷ (bytes "scope module " ++ name)) ∷ ls) ≡ identifiers ls
    other ls = unfold bytes identifiers pick in refl

-- ---- the signals

behind-space : (l rest : List ℕ) → ((k : ℕ) → k < length l → get_or l k 0 ≢ 32) → behind_space 0 (l ++ 32 ∷ rest) ≡ get_or rest 0 0
unfolding behind_space pick
behind-space [] rest h = refl
behind-space (b ∷ l) rest h = rw (ne_eqb b 32 (h 0 (omega arith))) (behind-space l rest (λ k m. h (suc k) (omega arith)))

module _ (k : ℕ) (d : Signal) where
  -- without its $ and its line feed
  abbrev said : List ℕ
  said = bytes "var wire " ++ decimal d.width ++ (32 ∷ (33 + k % 94) ∷ 32 ∷ []) ++ d.name ++ bytes " $end"

  said-one : OneLine d.name → OneLine said
  said-one h =
      let a = one_append (bytes "var wire ") (decimal d.width) (one_tested (bytes "var wire ") (unfold bytes all_below in refl)) (one-decimal d.width) in
      let i = one_more (33 + k % 94) (32 ∷ []) (λ e. omega arith) (one_tested (32 ∷ []) (unfold all_below in refl)) in
      let b = one_append (bytes "var wire " ++ decimal d.width) (32 ∷ (33 + k % 94) ∷ 32 ∷ []) a (one_more 32 ((33 + k % 94) ∷ 32 ∷ []) (λ e. omega arith) i) in
      let c = one_append (bytes "var wire " ++ decimal d.width ++ (32 ∷ (33 + k % 94) ∷ 32 ∷ [])) d.name b h in
      one_append (bytes "var wire " ++ decimal d.width ++ (32 ∷ (33 + k % 94) ∷ 32 ∷ []) ++ d.name) (bytes " $end") c (one_tested (bytes " $end") (unfold bytes all_below in refl))

  said-behind : behind_space 2 (36 ∷ said) ≡ 33 + k % 94
  said-behind =
      ap (λ (x : List ℕ). behind_space 2 (36 ∷ x))
      (append_assoc (bytes "var wire " ++ decimal d.width ++ (32 ∷ (33 + k % 94) ∷ 32 ∷ [])) d.name (bytes " $end")
      ∙ append_assoc (bytes "var wire " ++ decimal d.width) (32 ∷ (33 + k % 94) ∷ 32 ∷ []) (d.name ++ bytes " $end")
      ∙ append_assoc (bytes "var wire ") (decimal d.width) (32 ∷ (33 + k % 94) ∷ 32 ∷ (d.name ++ bytes " $end")))
      ∙ past
      ∙ behind-space (decimal d.width) ((33 + k % 94) ∷ 32 ∷ (d.name ++ bytes " $end")) (λ j m e. omega (arith, (texts.decimal_bytes d.width j m).0))
    where
      past : behind_space 2 (36 ∷ (bytes "var wire " ++ (decimal d.width ++ (32 ∷ (33 + k % 94) ∷ 32 ∷ (d.name ++ bytes " $end")))))
          ≡ behind_space 0 (decimal d.width ++ 32 ∷ (33 + k % 94) ∷ 32 ∷ (d.name ++ bytes " $end"))
      past = unfold bytes behind_space pick in refl

  declaration_heads : OneLine d.name → Heads (declaration k d) ((33 + k % 94) ∷ [])
  declaration_heads h =
      subst (λ (x : List ℕ). Heads x ((33 + k % 94) ∷ [])) split
      (heads_line said ((33 + k % 94) ∷ []) (said-one h) (λ ls. named ls ∙ ap (λ (i : ℕ). i ∷ identifiers ls) said-behind))
    where
      split : (36 ∷ said) ++ (10 ∷ []) ≡ declaration k d
      split = unfold declaration bytes in append_assoc (bytes "$var wire " ++ decimal d.width ++ (32 ∷ (33 + k % 94) ∷ 32 ∷ []) ++ d.name) (bytes " $end") (10 ∷ [])

      named : (ls : List (List ℕ)) → identifiers ((36 ∷ said) ∷ ls) ≡ behind_space 2 (36 ∷ said) ∷ identifiers ls
      named ls = unfold identifiers bytes pick in refl

-- the identifiers of so many signals, the first of them the kth
unfoldable in_order : ℕ → List Signal → List ℕ
in_order k [] = []
in_order k (d ∷ ds) = (33 + k % 94) ∷ in_order (k + 1) ds

length_order : (k : ℕ) (ds : List Signal) → length (in_order k ds) ≡ length ds
unfolding in_order
length_order k [] = refl
length_order k (d ∷ ds) = ap suc (length_order (k + 1) ds)

order-nth : (ds : List Signal) (k j : ℕ) → j < length ds → get_or (in_order k ds) j 0 ≡ 33 + (k + j) % 94
unfolding in_order
order-nth [] k j h = absurd (omega arith)
order-nth (d ∷ ds) k zero h = ap (λ (x : ℕ). 33 + x % 94) (omega arith)
order-nth (d ∷ ds) k (suc j) h = order-nth ds (k + 1) j (omega arith) ∙ ap (λ (x : ℕ). 33 + x % 94) (omega arith)

declarations_heads : (k : ℕ) (ds : List Signal) → Named ds → Heads (declarations k ds) (in_order k ds)
unfolding declarations in_order
declarations_heads k [] h = λ bs. (λ t. refl, refl)
declarations_heads k (d ∷ ds) h =
    heads_append (declaration k d) (declarations (k + 1) ds) ((33 + k % 94) ∷ []) (in_order (k + 1) ds) (declaration_heads k d h.0) (declarations_heads (k + 1) ds h.1)

-- ---- the whole

heading_heads : (name : List ℕ) (ds : List Signal) → OneLine name → Named ds → Heads (heading (name ++ (10 ∷ [])) ds) (in_order 0 ds ++ [] ++ [])
unfolding heading
heading_heads name ds h hs =
    let a = heads_append opening (bytes "$scope module " ++ (name ++ (10 ∷ []))) [] [] opening_heads (scope_heads name h) in
    let b = subst (λ (x : List ℕ). Heads x []) (sym (append_assoc opening (bytes "$scope module ") (name ++ (10 ∷ [])))) a in
    let c = heads_append (opening ++ bytes "$scope module " ++ (name ++ (10 ∷ []))) (bytes "$end\n") [] [] b end_heads in
    let e = heads_append (opening ++ bytes "$scope module " ++ (name ++ (10 ∷ [])) ++ bytes "$end\n") (declarations 0 ds) [] (in_order 0 ds) c (declarations_heads 0 ds hs) in
    let f = heads_append (opening ++ bytes "$scope module " ++ (name ++ (10 ∷ [])) ++ bytes "$end\n" ++ declarations 0 ds) (bytes "$upscope $end\n") (in_order 0 ds) [] e upscope_heads in
    heads_append (opening ++ bytes "$scope module " ++ (name ++ (10 ∷ [])) ++ bytes "$end\n" ++ declarations 0 ds ++ bytes "$upscope $end\n") declared (in_order 0 ds ++ []) [] f declared_heads

module _ (name : List ℕ) (ds : List Signal) (h : OneLine name) (hs : Named ds) where
  pub quiet : Quiet (heading (name ++ (10 ∷ [])) ds)
  quiet t bs = (heading_heads name ds h hs bs).0 t

  all-declared : identifiers (lines_of (heading (name ++ (10 ∷ [])) ds)) ≡ in_order 0 ds
  all-declared =
      ap (λ (x : List ℕ). identifiers (lines_of x)) (sym (append-nil (heading (name ++ (10 ∷ [])) ds))) ∙ (heading_heads name ds h hs []).1
      ∙ unfold lines_of identifiers in simp append-nil

  pub declares-all : length (identifiers (lines_of (heading (name ++ (10 ∷ [])) ds))) ≡ length ds
  declares-all = ap length all-declared ∙ length_order 0 ds

  pub declares-nth : (k : ℕ) → k < length ds → get_or (identifiers (lines_of (heading (name ++ (10 ∷ [])) ds))) k 0 ≡ 33 + k % 94
  declares-nth k l = ap (λ (x : List ℕ). get_or x k 0) all-declared ∙ order-nth ds 0 k l ∙ ap (λ (x : ℕ). 33 + x % 94) (omega arith)
