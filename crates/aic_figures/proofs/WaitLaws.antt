-- What is told of the book in the end.
use Prim.Native.Nat.{ℕ, ◌+◌, ◌≤◌, ◌<◌}
use mathlib.Core.Path.{◌≡◌, refl, sym, ap, ap₂, ◌∙◌}
use mathlib.Core.Bool.{Bool, true, false, ◌&&◌}
use mathlib.Core.List.{List, [], ◌∷◌}
use native.Mathlib.Omega.{arith}
use native.Mathlib.Decide.{ℕ_discrete}
use lib.Dec.{eqb, ltb}
use lib.ListN.{get_or, set, length}
use lib.Seq.{get_or-set_same, get_or-set_other, ext_get_or}
use Rattle.words.specs.Choice.{pick}
use Rattle.words.specs.Word.{bit}
use Rattle.rooms.specs.Parts.{made}
use Rattle.rooms.proofs.PartLaws.{made-length, made_get, made-same}
use Rattle.steps.specs.declared.Step.{Step}
use Rattle.aic_record.specs.declared.Aic.{Aic}
use Rattle.aic.specs.Model.{step}
use Rattle.aic_bounds.specs.declared.Bound.{Bound}
use Rattle.aic_bounds.specs.Bounds.{bound_of}
use Rattle.aic_bounds.specs.Following.{marks_of}
use Rattle.aic_bounds.specs.Over.{bounds, better, largest_of, waits_begun, waits_unended, waits_unbounded, first_unbounded}
use Rattle.aic_bounds.specs.declared.figures.Figures.{Figures}
use Rattle.aic_bounds.specs.Figures.{figures_over, figures_of, largest_now, unended_now}
use Rattle.aic_bounds.specs.FiguresPromises.{Tells}
use Rattle.aic_bounds.proofs.FiguresPromises as Figures
use Rattle.aic_figures.specs.Waits.{waits_of, followed, waits_now}
use Rattle.aic_figures.specs.Promises.{Source}
use Rattle.aic_figures.specs.WaitsBook.{row_of, figures_in, numbers_of, row_at, word_in, Kept}

-- a table filled row by row
pub filled-rows : (out : List (List ℕ)) (f : ℕ → List ℕ) (j : ℕ) → j < length out → ((k : ℕ) → k < j → get_or out k [] ≡ f k) → (x : List ℕ) → x ≡ f j
    → (k : ℕ) → k < j + 1 → get_or (set out j x) k [] ≡ f k
filled-rows out f j l h x e k m = go (ℕ_discrete k j)
  where
    go : Dec (k ≡ j) → get_or (set out j x) k [] ≡ f k
    go (yes p) = ap (λ (i : ℕ). get_or (set out j x) i []) p ∙ get_or-set_same out j x [] l ∙ e ∙ ap f (sym p)
    go (no p) = get_or-set_other out j k x [] p ∙ h k (omega (arith, m, p))

-- what is told, by the largest
abbrev numbers_with : ℕ → ℕ → ℕ → ℕ → Bound → List ℕ
numbers_with o u l r b = o ∷ u ∷ l ∷ r ∷ b.pending ∷ b.edges ∷ b.commands ∷ b.turns ∷ b.closed ∷ b.remembered ∷ []

-- a row tells what is told of its source
numbers-row : (f : Figures) (waits : Bool) → waits ≡ ltb 1 f.bound.wait → numbers_of (figures_in waits (row_of f)) ≡ numbers_of f
unfolding numbers_of better bounds bound_of pick
numbers-row f true e = rw (sym e) (go (eqb f.bound.broke 0 && ltb (bound_of f.largest) (bound_of f.bound)))
  where
    go : (x : Bool) → numbers_with f.begun 1 f.unbounded f.first (pick x (figures_in true (row_of f)).bound (figures_in true (row_of f)).largest)
        ≡ numbers_with f.begun 1 f.unbounded f.first (pick x f.bound f.largest)
    go true = refl
    go false = refl
numbers-row f false e = rw (sym e)

pub numbers-told : (f : ℕ → Figures) (book : List (List ℕ)) → Kept f book → (k : ℕ) → k < 32 → {waits : Bool} {r : Figures} → waits ≡ bit (word_in book 1) k
    → r ≡ figures_in waits (row_at book k) → numbers_of r ≡ numbers_of (f k)
numbers-told f book h k l e g =
    ap numbers_of (g ∙ ap₂ figures_in (e ∙ h.waits k l) (h.rows k l)) ∙ numbers-row (f k) (ltb 1 (f k).bound.wait) refl

-- a column of the table
pub column-is : (f : ℕ → Figures) (table : List (List ℕ)) (j : ℕ) (g : ℕ → ℕ) {r : List ℕ} → ((k : ℕ) → k < 32 → get_or table k [] ≡ numbers_of (f k))
    → (length r ≡ 32) × ((k : ℕ) → k < 32 → get_or r k 0 ≡ get_or (get_or table k []) j 0) → ((k : ℕ) → get_or (numbers_of (f k)) j 0 ≡ g k) → r ≡ made 32 g
column-is f table j g {r} h p e =
    ext_get_or 0 r (made 32 g) (p.0 ∙ sym (made-length 32 g))
    (λ k l. let q : k < 32 = omega (arith, p.0, l) in p.1 k q ∙ ap (λ (row : List ℕ). get_or row j 0) (h k q) ∙ e k ∙ sym (made_get 32 g k q))

pub waits-told : (f : ℕ → Figures) (table : List (List ℕ)) → ((k : ℕ) → k < 32 → get_or table k [] ≡ numbers_of (f k)) → {o u b r p e c t d m : List ℕ}
    → (length o ≡ 32) × ((k : ℕ) → k < 32 → get_or o k 0 ≡ get_or (get_or table k []) 0 0) → (length u ≡ 32) × ((k : ℕ) → k < 32 → get_or u k 0 ≡ get_or (get_or table k []) 1 0)
    → (length b ≡ 32) × ((k : ℕ) → k < 32 → get_or b k 0 ≡ get_or (get_or table k []) 2 0) → (length r ≡ 32) × ((k : ℕ) → k < 32 → get_or r k 0 ≡ get_or (get_or table k []) 3 0)
    → (length p ≡ 32) × ((k : ℕ) → k < 32 → get_or p k 0 ≡ get_or (get_or table k []) 4 0) → (length e ≡ 32) × ((k : ℕ) → k < 32 → get_or e k 0 ≡ get_or (get_or table k []) 5 0)
    → (length c ≡ 32) × ((k : ℕ) → k < 32 → get_or c k 0 ≡ get_or (get_or table k []) 6 0) → (length t ≡ 32) × ((k : ℕ) → k < 32 → get_or t k 0 ≡ get_or (get_or table k []) 7 0)
    → (length d ≡ 32) × ((k : ℕ) → k < 32 → get_or d k 0 ≡ get_or (get_or table k []) 8 0) → (length m ≡ 32) × ((k : ℕ) → k < 32 → get_or m k 0 ≡ get_or (get_or table k []) 9 0)
    → record { begun = o; unended = u; unbounded = b; first = r; pending = p; edges = e; commands = c; turns = t; closed = d; remembered = m } ≡ waits_now f
unfolding waits_now numbers_of
waits-told f table h {o} {u} {b} {r} {p} {e} {c} {t} {d} {m} po pu pb pr pp pe pc pt pd pm =
    rw (
      column-is f table 0 (λ k. (f k).begun) {r = o} h po (λ k. refl),
      column-is f table 1 (λ k. unended_now (f k)) {r = u} h pu (λ k. refl),
      column-is f table 2 (λ k. (f k).unbounded) {r = b} h pb (λ k. refl),
      column-is f table 3 (λ k. (f k).first) {r = r} h pr (λ k. refl),
      column-is f table 4 (λ k. (largest_now (f k)).pending) {r = p} h pp (λ k. refl),
      column-is f table 5 (λ k. (largest_now (f k)).edges) {r = e} h pe (λ k. refl),
      column-is f table 6 (λ k. (largest_now (f k)).commands) {r = c} h pc (λ k. refl),
      column-is f table 7 (λ k. (largest_now (f k)).turns) {r = t} h pt (λ k. refl),
      column-is f table 8 (λ k. (largest_now (f k)).closed) {r = d} h pd (λ k. refl),
      column-is f table 9 (λ k. (largest_now (f k)).remembered) {r = m} h pm (λ k. refl),
    )

-- ---- the promises

-- tables of what is told alike are equal
pub waits-same : (f g : ℕ → Figures) → ((k : ℕ) → k < 32 → numbers_of (f k) ≡ numbers_of (g k)) → waits_now f ≡ waits_now g
unfolding waits_now numbers_of
waits-same f g e =
    rw (
      made-same 32 (λ k. (f k).begun) (λ k. (g k).begun) (λ k l. at 0 k l),
      made-same 32 (λ k. unended_now (f k)) (λ k. unended_now (g k)) (λ k l. at 1 k l),
      made-same 32 (λ k. (f k).unbounded) (λ k. (g k).unbounded) (λ k l. at 2 k l),
      made-same 32 (λ k. (f k).first) (λ k. (g k).first) (λ k l. at 3 k l),
      made-same 32 (λ k. (largest_now (f k)).pending) (λ k. (largest_now (g k)).pending) (λ k l. at 4 k l),
      made-same 32 (λ k. (largest_now (f k)).edges) (λ k. (largest_now (g k)).edges) (λ k l. at 5 k l),
      made-same 32 (λ k. (largest_now (f k)).commands) (λ k. (largest_now (g k)).commands) (λ k l. at 6 k l),
      made-same 32 (λ k. (largest_now (f k)).turns) (λ k. (largest_now (g k)).turns) (λ k l. at 7 k l),
      made-same 32 (λ k. (largest_now (f k)).closed) (λ k. (largest_now (g k)).closed) (λ k l. at 8 k l),
      made-same 32 (λ k. (largest_now (f k)).remembered) (λ k. (largest_now (g k)).remembered) (λ k l. at 9 k l),
    )
  where
    at : (j k : ℕ) → k < 32 → get_or (numbers_of (f k)) j 0 ≡ get_or (numbers_of (g k)) j 0
    at j k l = ap (λ (row : List ℕ). get_or row j 0) (e k l)

pub one_way : (f g : ℕ → Figures) (book : List (List ℕ)) → Kept f book → Kept g book → waits_now f ≡ waits_now g
one_way f g book p q =
    waits-same f g
    (λ k l. sym (numbers-told f book p k l {waits = bit (word_in book 1) k} {r = figures_in (bit (word_in book 1) k) (row_at book k)} refl refl) ∙ numbers-told g book q k l refl refl)

pub tells_all : (s : Aic) (xs : List Step) → length xs ≤ 134217727 → waits_now (λ k. figures_of k s xs) ≡ waits_of s xs
unfolding waits_now waits_of
tells_all s xs l =
    rw (
      made-same 32 _ (λ k. waits_begun k s xs) (λ k m. (told k).begun),
      made-same 32 _ (λ k. waits_unended k s xs) (λ k m. (told k).unended),
      made-same 32 _ (λ k. waits_unbounded k s xs) (λ k m. (told k).unbounded),
      made-same 32 _ (λ k. first_unbounded k s xs) (λ k m. (told k).first),
      made-same 32 _ (λ k. (largest_of k s xs).pending) (λ k m. ap (λ (b : Bound). b.pending) (told k).largest),
      made-same 32 _ (λ k. (largest_of k s xs).edges) (λ k m. ap (λ (b : Bound). b.edges) (told k).largest),
      made-same 32 _ (λ k. (largest_of k s xs).commands) (λ k m. ap (λ (b : Bound). b.commands) (told k).largest),
      made-same 32 _ (λ k. (largest_of k s xs).turns) (λ k m. ap (λ (b : Bound). b.turns) (told k).largest),
      made-same 32 _ (λ k. (largest_of k s xs).closed) (λ k m. ap (λ (b : Bound). b.closed) (told k).largest),
      made-same 32 _ (λ k. (largest_of k s xs).remembered) (λ k m. ap (λ (b : Bound). b.remembered) (told k).largest),
    )
  where
    told : (k : ℕ) → Tells k s xs (figures_of k s xs)
    told k = (Figures.kept).figures_tell s k xs l

pub source_is : (s : Aic) (xs : List Step) (k : ℕ) → k < 32 → Source (waits_of s xs) k s xs
unfolding waits_of
source_is s xs k l =
    record {
      begun = made_get 32 (λ i. waits_begun i s xs) k l;
      unended = made_get 32 (λ i. waits_unended i s xs) k l;
      unbounded = made_get 32 (λ i. waits_unbounded i s xs) k l;
      first = made_get 32 (λ i. first_unbounded i s xs) k l;
      pending = made_get 32 (λ i. (largest_of i s xs).pending) k l;
      edges = made_get 32 (λ i. (largest_of i s xs).edges) k l;
      commands = made_get 32 (λ i. (largest_of i s xs).commands) k l;
      turns = made_get 32 (λ i. (largest_of i s xs).turns) k l;
      closed = made_get 32 (λ i. (largest_of i s xs).closed) k l;
      remembered = made_get 32 (λ i. (largest_of i s xs).remembered) k l;
    }

pub follows_on : (k n : ℕ) (f : ℕ → Figures) (s : Aic) (x : Step) (xs : List Step)
    → figures_over k n (f k) s (x ∷ xs) ≡ figures_over k (n + 1) (followed (n + 1) (marks_of s x) f s x k) (step s x).aic xs
unfolding figures_over followed
follows_on k n f s x xs = refl
