-- Laws of the chains: one controller more, how long they can be, and which controllers count.
use Prim.Native.Nat.{ℕ, zero, suc, ◌+◌, ◌≤◌, ◌<◌, max}
use mathlib.Core.Path.{◌≡◌, refl, sym, ap, ◌∙◌}
use mathlib.Core.Bool.{Bool, true, false, false≢true}
use mathlib.Core.List.{List}
use mathlib.Core.Logic.{◌↔◌, ◌≢◌, ◌⊎◌, inl, inr}
use native.Mathlib.Omega.{arith}
use native.Mathlib.Decide.{ℕ_discrete, dec_lt}
use native.Mathlib.Numerals.{add-one}
use lib.Dec.{eqb}
use borrow.Author.Tests.{lt-ltb, eq-eqb, ne_eqb, eqb-true}
use Rattle.words.specs.Choice.{pick}
use Rattle.words.proofs.ChoiceLaws.{pick_true}
use Rattle.words.proofs.CountingLaws.{any_some, some_any, any_none, at_end}
use Rattle.words.proofs.TruthLaws.{told}
use Rattle.board_wires.specs.declared.Board.{Board}
use Rattle.board_wires.specs.declared.Wire.{Wire}
use Rattle.board_wires.specs.declared.Wire.TheVariants.{Nothing, Pin, Irq, Fiq}
use Rattle.board_wires.specs.Wires.{wire_in}
use Rattle.board_wires.specs.Chain.{leads_to, feeds_in, feeds, longest, chains, chain, lower_of}
use Rattle.board_wires.specs.Promises.{Wired}
use Rattle.board_wires.proofs.NumberLaws.{no_wire}

-- a controller beyond the eight is wired to none
pub feeds-none : (ws : List ℕ) (c d : ℕ) → 8 ≤ c → feeds_in ws c d ≡ false
unfolding feeds_in leads_to
feeds-none ws c d l = any_none 40 (λ i. leads_to (wire_in ws c i) d) (λ i m. rw (no_wire ws c i l))

-- what is told of the numbers below n is their chain
pub chains-is : (b : Board) (n d : ℕ) → d < n → chains b n d ≡ chain b d
unfolding chains chain pick
chains-is b zero d l = absurd (omega arith)
chains-is b (suc n) d l = go (ℕ_discrete d n) (chains-is b n d)
  where
    go : Dec (d ≡ n) → (d < n → chains b n d ≡ chain b d) → pick (eqb d n) (longest b (chains b n) n n) (chains b n d) ≡ longest b (chains b d) d d
    go (yes e) ih = rw (eq-eqb d n e, e)
    go (no e) ih = rw (ne_eqb d n e) (unfold chain in (ih (omega arith)))

-- ---- the controllers below c, one after the other

module _ (b : Board) (c : ℕ) where
  pub no-chain : 0 ≡ longest b (chains b c) c 0
  unfolding longest pick
  no-chain = refl

  pub one-chain : (most r n m d : ℕ) (x : Bool) → d < c → most ≡ longest b (chains b c) c d → n ≡ chain b d → x ≡ feeds b c d → m ≡ pick x (n + 1) 0 → r ≡ max most m
      → r ≡ longest b (chains b c) c (d + 1)
  unfolding longest pick
  one-chain most r n m d x l e f g h q = rw (add-one, q, h, e, f, g, chains-is b c d l)

  -- beyond the eight there is nothing to count
  far : 8 ≤ c → (n : ℕ) → 0 ≡ longest b (chains b c) c n
  unfolding longest pick
  far l zero = refl
  far l (suc n) = rw (← far l n, feeds-none b.wire c n l)

  pub all-chains : (most d n : ℕ) → d ≤ n → n ≤ d → n ≡ lower_of c → most ≡ longest b (chains b c) c d → most ≡ chain b c
  unfolding chain
  all-chains most d n l g e f = at_end (longest b (chains b c) c) d n l g f ∙ go (dec_lt c 8)
    where
      go : Dec (c < 8) → longest b (chains b c) c n ≡ longest b (chains b c) c c
      go (yes k) = ap (longest b (chains b c) c) (e ∙ sym (pick_true 0 (lt-ltb c 8 k)))
      go (no k) = sym (far (omega arith) n) ∙ far (omega arith) c

-- ---- a chain has no more controllers than there are lower numbers

longest-most : (b : Board) (g : ℕ → ℕ) (c n : ℕ) → ((d : ℕ) → d < n → g d ≤ d) → longest b g c n ≤ n
unfolding longest pick
longest-most b g c zero h = omega arith
longest-most b g c (suc n) h = go (feeds b c n) (longest-most b g c n (λ d l. h d (omega arith)))
  where
    go : (x : Bool) → longest b g c n ≤ n → max (longest b g c n) (pick x (g n + 1) 0) ≤ suc n
    go true e = omega (arith, h n (omega arith))
    go false e = omega arith

chains-most : (b : Board) (n d : ℕ) → chains b n d ≤ d
unfolding chains pick
chains-most b zero d = omega arith
chains-most b (suc n) d = go (ℕ_discrete d n) (chains-most b n)
  where
    go : Dec (d ≡ n) → ((e : ℕ) → chains b n e ≤ e) → pick (eqb d n) (longest b (chains b n) n n) (chains b n d) ≤ d
    go (yes e) ih = rw (eq-eqb d n e, e) (longest-most b (chains b n) n n (λ k l. ih k))
    go (no e) ih = rw (ne_eqb d n e) (ih d)

pub chain-most : (b : Board) (c : ℕ) → chain b c ≤ c
unfolding chain
chain-most b c = longest-most b (chains b c) c c (λ d l. chains-most b c d)

-- ---- which controllers count

leads_to_lem : (w : Wire) (d : ℕ) → leads_to w d ≡ true → (w ≡ Irq d) ⊎ (w ≡ Fiq d)
unfolding leads_to
leads_to_lem Nothing d e = absurd (false≢true e)
leads_to_lem (Pin p) d e = absurd (false≢true e)
leads_to_lem (Irq k) d e = inl (ap Irq (eqb-true k d e))
leads_to_lem (Fiq k) d e = inr (ap Fiq (eqb-true k d e))

to-leads : (w : Wire) (d : ℕ) → (w ≡ Irq d) ⊎ (w ≡ Fiq d) → leads_to w d ≡ true
unfolding leads_to
to-leads w d (inl e) = rw (e, eq-eqb d d refl)
to-leads w d (inr e) = rw (e, eq-eqb d d refl)

feeds-wired : (b : Board) (c d : ℕ) → feeds b c d ≡ true → Wired b c d
unfolding feeds_in
feeds-wired b c d e =
    let r = any_some 40 (λ i. leads_to (wire_in b.wire c i) d) e in
    (r.0, r.1, leads_to_lem (wire_in b.wire c r.0) d r.2)

pub wired-feeds : (b : Board) (c d : ℕ) → Wired b c d → feeds b c d ≡ true
unfolding feeds_in
wired-feeds b c d r = some_any 40 (λ i. leads_to (wire_in b.wire c i) d) r.0 r.1 (to-leads (wire_in b.wire c r.0) d r.2)

-- one that feeds c counts with all below it
longest-over : (b : Board) (g : ℕ → ℕ) (c n d : ℕ) → d < n → feeds b c d ≡ true → g d + 1 ≤ longest b g c n
unfolding longest pick
longest-over b g c zero d l e = absurd (omega arith)
longest-over b g c (suc n) d l e = go (ℕ_discrete d n) (longest-over b g c n d)
  where
    go : Dec (d ≡ n) → (d < n → feeds b c d ≡ true → g d + 1 ≤ longest b g c n) → g d + 1 ≤ max (longest b g c n) (pick (feeds b c n) (g n + 1) 0)
    go (yes q) ih = rw (← q, e) (omega arith)
    go (no q) ih = omega (arith, ih (omega arith) e)

-- and the longest is that of one of them
longest-met : (b : Board) (g : ℕ → ℕ) (c n : ℕ) → longest b g c n ≢ 0 → (d : ℕ) × (d < n) × (feeds b c d ≡ true) × (longest b g c n ≡ g d + 1)
unfolding longest pick
longest-met b g c zero z = absurd (z refl)
longest-met b g c (suc n) z = go (told (feeds b c n)) z (longest-met b g c n)
  where
    L : ℕ
    L = longest b g c n

    Met : ℕ → ℕ → Type 0
    Met m r = (d : ℕ) × (d < m) × (feeds b c d ≡ true) × (r ≡ g d + 1)

    go : (feeds b c n ≡ true) ⊎ (feeds b c n ≡ false) → max L (pick (feeds b c n) (g n + 1) 0) ≢ 0 → (L ≢ 0 → Met n L) → Met (suc n) (max L (pick (feeds b c n) (g n + 1) 0))
    go (inl e) q ih = rw e (here (dec_lt L (g n + 1)))
      where
        here : Dec (L < g n + 1) → Met (suc n) (max L (g n + 1))
        here (yes l) = (n, omega arith, e, omega arith)
        here (no l) = let r = ih (λ h. omega arith) in (r.0, omega (arith, r.1), r.2, omega (arith, r.3))
    go (inr e) q ih = rw e (let r = ih (λ h. q (rw e (omega arith))) in (r.0, omega (arith, r.1), r.2, omega (arith, r.3)))

module _ (b : Board) (c : ℕ) where
  over : (d : ℕ) → d < c → Wired b c d → chains b c d + 1 ≤ chain b c
  unfolding chain
  over d l r = longest-over b (chains b c) c c d l (wired-feeds b c d r)

  met : chain b c ≢ 0 → (d : ℕ) × (d < c) × (feeds b c d ≡ true) × (chain b c ≡ chains b c d + 1)
  unfolding chain
  met z = longest-met b (chains b c) c c z

  pub chain-over : (d : ℕ) → d < c → Wired b c d → chain b d + 1 ≤ chain b c
  chain-over d l r = omega (arith, over d l r, chains-is b c d l)

  pub chain-met : chain b c ≢ 0 → (d : ℕ) × (d < c) × Wired b c d × (chain b c ≡ chain b d + 1)
  chain-met z = let r = met z in (r.0, r.1, feeds-wired b c r.0 r.2, r.3 ∙ ap (λ (n : ℕ). n + 1) (chains-is b c r.0 r.1))

  pub chain-none : (chain b c ≡ 0) ↔ ((d : ℕ) → d < c → Wired b c d → ⊥)
  chain-none = ((λ e d l r. omega (arith, chain-over d l r)), (λ h. go h (ℕ_discrete (chain b c) 0)))
    where
      go : ((d : ℕ) → d < c → Wired b c d → ⊥) → Dec (chain b c ≡ 0) → chain b c ≡ 0
      go h (yes e) = e
      go h (no z) = let r = chain-met z in absurd (h r.0 r.1 r.2)
