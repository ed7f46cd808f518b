-- The promises of the indices are kept.
use mathlib.Core.Path.{◌≡◌, refl, sym, ap, ◌∙◌}
use mathlib.Core.Bool.{Bool, true, false, ◌&&◌}
use mathlib.Core.Logic.{◌↔◌, ◌≢◌, ◌⊎◌, inl, inr, ⊎_elim}
use Prim.Native.Nat.{ℕ, ◌+◌, ◌/◌, ◌%◌, ◌^◌, ◌<◌, ◌≤◌}
use native.Mathlib.Omega.{arith}
use borrow.Author.Tests.{eq-eqb, eqb-true}
use lib.Dec.{eqb}
use lib.ListN.{get_or}
use Rattle.words.specs.Array.{bit_at}
use Rattle.words.specs.Choice.{pick}
use Rattle.words.specs.Counting.{any_below, lowest_below, sum_below}
use Rattle.words.specs.Word.{bit}
use Rattle.words.proofs.CountingLaws.{any_some, some_any}
use Rattle.words.proofs.OrderLaws.{Lower, lower-is, is-lower, lower_through, lower-either}
use Rattle.words.proofs.TruthLaws.{and_left, and_right, and_both, clash, not-holds}
use Rattle.words.proofs.WordLaws.{bit_alone}
use Rattle.cic_record.specs.declared.Channel.{Channel}
use Rattle.cic_record.specs.declared.Cic.{Cic}
use Rattle.cic_record.specs.declared.Host.{Host}
use Rattle.cic_record.specs.declared.System.{System}
use Rattle.cic_record.specs.Kinds.{system, channel_number, host_number, channel_of, host_of}
use Rattle.cic_record.specs.Sound.{sound}
use Rattle.cic_held.specs.Example.{example}
use Rattle.cic_held.specs.Looked.{word_has, looked_in, found_in, searched, looked_over, found_over}
use Rattle.cic_held.specs.Order.{none_word, pending_in, busy, channel_first, first_in, leads, index_of, comes_before}
use Rattle.cic_held.specs.IndicesPromises.{Meets, MeetsFor, Promises}
use Rattle.cic_held.proofs.IndexLaws.{passes, parts_found, looked-most}
use Rattle.cic_held.proofs.LookedLaws.{looked-before, looked_last, looked-some, has-is, looked_found, looked-none, looked-alike, over-most, over_found, over_none}
use Rattle.cic_held.proofs.NamedLaws.{MeetsBy, lowest_channel, none, names, first, not-before}

-- ---- an index over every channel, and over those of a host

-- over every channel no more is asked
by-every : (c : Cic) (h : Host) (s : ℕ) → Meets c s → MeetsBy c (leads c true h) s
by-every c h s m = (m, refl)

by_host : (c : Cic) (h : Host) (s : ℕ) → MeetsFor c h s → MeetsBy c (leads c false h) s
by_host c h s m = (m.0, eq-eqb (host_of c (channel_of c (system s))).0 h.0 m.1)

for_host : (c : Cic) (h : Host) (s : ℕ) → MeetsBy c (leads c false h) s → MeetsFor c h s
for_host c h s m = (m.0, eqb-true (host_of c (channel_of c (system s))).0 h.0 m.1)

module _ (c : Cic) (h : Host) (e : sound c ≡ true) where
  global-none : (index_of c true h ≡ none_word) ↔ ((s : ℕ) → Meets c s → ⊥)
  unfolding index_of
  global-none = let n = none c (leads c true h) e in (λ q s m. n.0 q s (by-every c h s m), λ f. n.1 (λ s m. f s m.0))

  global_names : index_of c true h ≢ none_word → Meets c (index_of c true h)
  unfolding index_of
  global_names d = (names c (leads c true h) e d).0

  global-some : (index_of c true h ≢ none_word) ↔ ((s : ℕ) × Meets c s)
  global-some = (λ d. (index_of c true h, global_names d), λ x q. global-none.0 q x.0 x.1)

  global-first : index_of c true h ≢ none_word → (s : ℕ) → Meets c s → comes_before c (system s) (system (index_of c true h)) ≡ false
  unfolding index_of
  global-first d s m = first c (leads c true h) e d s (by-every c h s m)

  host-none : (index_of c false h ≡ none_word) ↔ ((s : ℕ) → MeetsFor c h s → ⊥)
  unfolding index_of
  host-none = let n = none c (leads c false h) e in (λ q s m. n.0 q s (by_host c h s m), λ f. n.1 (λ s m. f s (for_host c h s m)))

  host_names : index_of c false h ≢ none_word → MeetsFor c h (index_of c false h)
  unfolding index_of
  host_names d = for_host c h _ (names c (leads c false h) e d)

  host-some : (index_of c false h ≢ none_word) ↔ ((s : ℕ) × MeetsFor c h s)
  host-some = (λ d. (index_of c false h, host_names d), λ x q. host-none.0 q x.0 x.1)

  host-first : index_of c false h ≢ none_word → (s : ℕ) → MeetsFor c h s → comes_before c (system s) (system (index_of c false h)) ≡ false
  unfolding index_of
  host-first d s m = first c (leads c false h) e d s (by_host c h s m)

-- ---- the order

-- channel first, then number
before-is : (c : Cic) (a b : System) → (comes_before c a b ≡ true) ↔ Lower (channel_of c a).0 (channel_of c b).0 a.0 b.0
unfolding comes_before
before-is c a b =
    let x : ℕ = (channel_of c a).0 in
    let y : ℕ = (channel_of c b).0 in
    (lower-is x y x y a.0 b.0, is-lower x y x y a.0 b.0)

before-not_self : (c : Cic) (a : System) → comes_before c a a ≡ false
before-not_self c a = not-before c a.0 a.0 (omega arith) (λ _. omega arith)

before_third : (c : Cic) (a b d : System) → comes_before c a b ≡ true → comes_before c b d ≡ true → comes_before c a d ≡ true
before_third c a b d e f = (before-is c a d).1 (lower_through ((before-is c a b).0 e) ((before-is c b d).0 f))

before-either : (c : Cic) (a b : System) → a.0 ≢ b.0 → (comes_before c a b ≡ true) ⊎ (comes_before c b a ≡ true)
before-either c a b d =
    let x : ℕ = (channel_of c a).0 in
    let y : ℕ = (channel_of c b).0 in
    ⊎_elim (λ (l : Lower x y a.0 b.0). inl ((before-is c a b).1 l)) (λ (l : Lower y x b.0 a.0). inr ((before-is c b a).1 l))
    (lower-either x y a.0 b.0 d)

-- ---- words

none_is : (j : ℕ) → (bit none_word j ≡ true) ↔ (j ≡ 31)
none_is j =
    let at : none_word ≡ 2 ^ 31 = refl in
    let is = ap (λ (w : ℕ). bit w j) at ∙ bit_alone 31 j in
    (λ e. eqb-true j 31 (sym is ∙ e), λ e. is ∙ eq-eqb j 31 e)

pending-is : (c : Cic) (k : Channel) (s : System) → (pending_in c k s ≡ true)
    ↔ ((bit (get_or c.status (s.0 / 32) 0) (s.0 % 32) ≡ true) × (bit (get_or c.enable (s.0 / 32) 0) (s.0 % 32) ≡ true) × (get_or c.channel s.0 0 ≡ k.0))
unfolding pending_in bit_at
pending-is c k s =
    let a = bit (get_or c.status (s.0 / 32) 0) (s.0 % 32) in
    let b = bit (get_or c.enable (s.0 / 32) 0) (s.0 % 32) in
    let x = get_or c.channel s.0 0 in (
      λ e. (and_left a (b && eqb x k.0) e, and_left b (eqb x k.0) (and_right a (b && eqb x k.0) e), eqb-true x k.0 (and_right b (eqb x k.0) (and_right a (b && eqb x k.0) e))),
      λ r. and_both r.0 (and_both r.1 (eq-eqb x k.0 r.2)),
    )

-- ---- how many words are looked at

found-is : (c : Cic) (k : Channel) → ((found_in c k).index ≡ first_in c k) × ((found_in c k).words ≡ looked_in c k)
unfolding found_in
found-is c k = (refl, refl)

leads_host : (c : Cic) (h : Host) (k : Channel) → (leads c false h k ≡ true) ↔ (get_or c.host k.0 0 ≡ h.0)
leads_host c h k = (λ e. eqb-true (get_or c.host k.0 0) h.0 e, λ e. eq-eqb (get_or c.host k.0 0) h.0 e)

searched-most : (c : Cic) (t : Channel → Bool) → searched c t ≤ c.channels
unfolding searched
searched-most c t = omega arith

searched-before : (c : Cic) (t : Channel → Bool) (k : ℕ) → k + 1 < searched c t → t (channel_number k) ≡ true → busy c (channel_number k) ≡ false
unfolding searched
searched-before c t k l e =
    not-holds (busy c (channel_number k)) (λ b. clash (and_both e b) ((lowest_channel c t).before k (omega (arith, l))))

searched_last : (c : Cic) (t : Channel → Bool) (k : ℕ) → searched c t ≡ k + 1 → searched c t < c.channels → (t (channel_number k) ≡ true) × (busy c (channel_number k) ≡ true)
unfolding searched
searched_last c t k e l =
    let at : channel_first c t ≡ k = omega (arith, e, l) in
    let pass : passes c t k ≡ true = ap (passes c t) (sym at) ∙ (lowest_channel c t).found (omega (arith, e, l)) in
    (and_left (t (channel_number k)) (busy c (channel_number k)) pass, and_right (t (channel_number k)) (busy c (channel_number k)) pass)

busy-is : (c : Cic) (k : Channel) → (busy c k ≡ true) ↔ ((s : ℕ) × (s < c.systems) × (pending_in c k (system s) ≡ true))
unfolding busy
busy-is c k = (any_some c.systems (λ s. pending_in c k (system s)), λ r. some_any c.systems (λ s. pending_in c k (system s)) r.0 r.1 r.2)

over-is : (c : Cic) (every : Bool) (h : Host) → ((found_over c (leads c every h)).index ≡ index_of c every h) × ((found_over c (leads c every h)).words ≡ looked_over c (leads c every h))
unfolding found_over index_of
over-is c every h = (refl, refl)

-- ---- system interrupt 40 of 96

example_found : looked_in example (channel_number 1) ≡ 2
unfolding example looked_in word_has pending_in lowest_below any_below pick bit_at bit
example_found = refl

example-none : looked_in example (channel_number 0) ≡ 3
unfolding example looked_in word_has pending_in lowest_below any_below pick bit_at bit
example-none = refl

example_global : looked_over example (leads example true (host_number 0)) ≡ 5
unfolding example looked_over searched channel_first busy sum_below looked_in word_has pending_in lowest_below any_below pick bit_at bit
example_global = refl

example_hosts : (looked_over example (leads example false (host_number 0)) ≡ 3) × (looked_over example (leads example false (host_number 1)) ≡ 2)
unfolding example looked_over searched channel_first busy sum_below looked_in word_has pending_in lowest_below any_below pick bit_at bit
example_hosts = (refl, refl)

pub kept : Promises
kept =
    record {
      global_none = global-none;
      global_some = global-some;
      global_names = global_names;
      global_first = global-first;
      host_none = host-none;
      host_some = host-some;
      host_names = host_names;
      host_first = host-first;
      before_is = before-is;
      before_not_self = before-not_self;
      before_third = before_third;
      before_either = before-either;
      none_is = none_is;
      pending_is = pending-is;
      looked_most = looked-most;
      looked_before = looked-before;
      looked_last = looked_last;
      looked_some = looked-some;
      has_is = has-is;
      looked_found = looked_found;
      looked_none = looked-none;
      looked_alike = looked-alike;
      search_is = parts_found;
      found_is = found-is;
      leads_every = λ c h k. refl;
      leads_host = leads_host;
      searched_most = searched-most;
      searched_before = searched-before;
      searched_last = searched_last;
      busy_is = busy-is;
      over_most = over-most;
      over_found = over_found;
      over_none = over_none;
      over_is = over-is;
      example_found = example_found;
      example_none = example-none;
      example_global = example_global;
      example_hosts = example_hosts;
    }
