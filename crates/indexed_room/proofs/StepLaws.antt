-- What the CIC's own steps make of a record with prioritised indices.
use mathlib.Core.Path.{◌≡◌, refl, sym, ap, ap₂, ◌∙◌}
use mathlib.Core.Bool.{Bool, true, false, not, ◌&&◌}
use mathlib.Core.List.{List}
use mathlib.Core.Logic.{◌≢◌, ◌⊎◌, inl, inr}
use Prim.Native.Nat.{ℕ, ◌+◌, ◌-◌, ◌/◌, ◌%◌, ◌<◌}
use native.Mathlib.Decide.{ℕ_discrete, dec_lt}
use native.Mathlib.Omega.{arith}
use borrow.Author.Tests.{eq-eqb, ne_eqb, lt-ltb, le-ltb, ltb-true}
use lib.Dec.{eqb, ltb}
use lib.ListN.{get_or}
use Rattle.words.specs.Array.{bit_at}
use Rattle.words.specs.Choice.{pick}
use Rattle.words.proofs.ChoiceLaws.{pick_true, pick-false, pick_cases}
use Rattle.words.proofs.TruthLaws.{clash}
use Rattle.steps.specs.Refusals.{carried_out, read_refusal, write_refusal, line_refusal}
use Rattle.rooms.specs.Parts.{made}
use Rattle.rooms.specs.Reply.{Reply}
use Rattle.cic_record.specs.declared.Answer.{Answer as CicAnswer}
use Rattle.cic_record.specs.declared.Cic.{Cic}
use Rattle.cic_record.specs.declared.Signals.{Signals}
use Rattle.cic_record.specs.declared.System.{System}
use Rattle.cic_record.specs.Kinds.{system}
use Rattle.cic_record.specs.Record.{refused, answered}
use Rattle.cic_registers.specs.Hosts as hosts
use Rattle.cic_registers.proofs.MapsPromises as maps
use Rattle.cic_registers.specs.declared.layout.Register.{Register}
use Rattle.cic_registers.specs.declared.layout.Register.TheVariants.{Nothing, Revision, GlobalEnable, StatusIndexSet, StatusIndexClear, EnableIndexSet, EnableIndexClear, HostIndexSet, HostIndexClear, RawSet, EnabledClear, EnableSet, EnableClear, ChannelMap, HostMap, HostEnable}
use Rattle.cic_registers.specs.Map.{single_at, register_at, access}
use Rattle.cic_registers.specs.Registers.{written_to}
use Rattle.cic_registers.specs.Model as cic
use Rattle.cic_room.specs.Reply as in_room
use Rattle.cic_held.specs.declared.Held.{Held}
use Rattle.cic_held.specs.declared.Prioritised.{Prioritised}
use Rattle.cic_held.specs.Held.{prioritised, sound}
use Rattle.cic_indexed.specs.declared.Own.{Own}
use Rattle.cic_indexed.specs.declared.Own.TheVariants.{Elsewhere}
use Rattle.cic_indexed.specs.Registers.{own_at, hosts_written, held_after}
use Rattle.cic_indexed.specs.Model.{beside, written_by, read_as, write_as, step_as, read, write, line, outputs}
use Rattle.cic_indexed.proofs.SoundLaws.{sound-cic}
use Rattle.indexed_room.specs.Reply.{Done}
use Rattle.indexed_room.specs.Room.{framed, Laid, with_words}
use Rattle.indexed_room.specs.Words.{words_of, Written}
use Rattle.indexed_room.proofs.FrameLaws.{frame_as}
use Rattle.indexed_room.proofs.HoldLaws.{holds_as}
use Rattle.indexed_room.proofs.ReplyLaws.{done_as}
use Rattle.indexed_room.proofs.WordLaws.{register-bytes}

-- ---- the channel map

-- a register of the channel map
is_map : Register → Bool
is_map Nothing = false
is_map Revision = false
is_map GlobalEnable = false
is_map StatusIndexSet = false
is_map StatusIndexClear = false
is_map EnableIndexSet = false
is_map EnableIndexClear = false
is_map HostIndexSet = false
is_map HostIndexClear = false
is_map (RawSet k) = false
is_map (EnabledClear k) = false
is_map (EnableSet k) = false
is_map (EnableClear k) = false
is_map (ChannelMap k) = true
is_map (HostMap k) = false
is_map (HostEnable k) = false

-- no other changes the channel map, and none the number of hosts
map_stays : (c : Cic) (r : Register) (v : ℕ) → is_map r ≡ false → (written_to c r v).channel ≡ c.channel
unfolding is_map written_to
map_stays c Nothing v e = refl
map_stays c Revision v e = refl
map_stays c GlobalEnable v e = refl
map_stays c StatusIndexSet v e = refl
map_stays c StatusIndexClear v e = refl
map_stays c EnableIndexSet v e = refl
map_stays c EnableIndexClear v e = refl
map_stays c HostIndexSet v e = refl
map_stays c HostIndexClear v e = refl
map_stays c (RawSet k) v e = refl
map_stays c (EnabledClear k) v e = refl
map_stays c (EnableSet k) v e = refl
map_stays c (EnableClear k) v e = refl
map_stays c (ChannelMap k) v e = clash refl e
map_stays c (HostMap k) v e = refl
map_stays c (HostEnable k) v e = refl

hosts_stay : (c : Cic) (r : Register) (v : ℕ) → (written_to c r v).hosts ≡ c.hosts
unfolding written_to
hosts_stay c Nothing v = refl
hosts_stay c Revision v = refl
hosts_stay c GlobalEnable v = refl
hosts_stay c StatusIndexSet v = refl
hosts_stay c StatusIndexClear v = refl
hosts_stay c EnableIndexSet v = refl
hosts_stay c EnableIndexClear v = refl
hosts_stay c HostIndexSet v = refl
hosts_stay c HostIndexClear v = refl
hosts_stay c (RawSet k) v = refl
hosts_stay c (EnabledClear k) v = refl
hosts_stay c (EnableSet k) v = refl
hosts_stay c (EnableClear k) v = refl
hosts_stay c (ChannelMap k) v = refl
hosts_stay c (HostMap k) v = refl
hosts_stay c (HostEnable k) v = refl

abbrev Other : Register → Type 0
Other r = is_map r ≡ false

single-other : (o : ℕ) → Other (single_at o)
unfolding single_at is_map
single-other o =
    pick_cases Other (eqb o 0x000) (λ _. refl)
    (λ _. pick_cases Other (eqb o 0x010) (λ _. refl)
    (λ _. pick_cases Other (eqb o 0x020) (λ _. refl)
    (λ _. pick_cases Other (eqb o 0x024) (λ _. refl)
    (λ _. pick_cases Other (eqb o 0x028) (λ _. refl)
    (λ _. pick_cases Other (eqb o 0x02C) (λ _. refl)
    (λ _. pick_cases Other (eqb o 0x034) (λ _. refl)
    (λ _. pick_cases Other (eqb o 0x038) (λ _. refl) (λ _. refl))))))))

register-other : (o : ℕ) → o / 0x400 ≢ 1 → Other (register_at o)
unfolding register_at is_map
register-other o d =
    pick_cases Other (ltb o 0x200) (λ _. single-other o)
    (λ _. pick_cases Other (ltb o 0x280) (λ _. refl)
    (λ _. pick_cases Other (ltb o 0x300) (λ _. refl)
    (λ _. pick_cases Other (ltb o 0x380) (λ _. refl)
    (λ _. pick_cases Other (ltb o 0x400) (λ _. refl)
    (λ a. pick_cases Other (ltb o 0x800) (λ b. never a b)
    (λ _. pick_cases Other (ltb o 0x900) (λ _. refl)
    (λ _. pick_cases Other (ltb o 0x1500) (λ _. refl)
    (λ _. pick_cases Other (ltb o 0x1520) (λ _. refl) (λ _. refl)))))))))
  where
    never : ltb o 0x400 ≡ false → ltb o 0x800 ≡ true → is_map (ChannelMap ((o - 0x400) / 4)) ≡ false
    never a b = go (dec_lt o 0x400)
      where
        go : Dec (o < 0x400) → is_map (ChannelMap ((o - 0x400) / 4)) ≡ false
        go (yes l) = clash (lt-ltb o 0x400 l) a
        go (no l) = absurd (d (omega (arith, l, ltb-true o 0x800 b)))

register-map : (o : ℕ) → o / 0x400 ≡ 1 → register_at o ≡ ChannelMap (o / 4 % 256)
unfolding register_at
register-map o e =
    sym (pick-false _ (le-ltb o 0x200 (omega (arith, e)))) ∙ sym (pick-false _ (le-ltb o 0x280 (omega (arith, e)))) ∙ sym (pick-false _ (le-ltb o 0x300 (omega (arith, e))))
    ∙ sym (pick-false _ (le-ltb o 0x380 (omega (arith, e)))) ∙ sym (pick-false _ (le-ltb o 0x400 (omega (arith, e)))) ∙ sym (pick_true _ (lt-ltb o 0x800 (omega (arith, e))))
    ∙ ap ChannelMap (let z : (o - 0x400) / 4 ≡ o / 4 % 256 = omega (arith, e) in z)

-- ---- what a write of the CIC's leaves

-- it is carried out, or refused with the same record
write_cases : (c : Cic) (o v : ℕ) → (cic.write_as true c o v ≡ answered (written_to c (register_at o) v) 0) ⊎ (cic.write_as true c o v ≡ refused c (cic.write_as true c o v).refusal)
unfolding cic.write_as
write_cases c o v = go (ℕ_discrete n carried_out)
  where
    n : ℕ
    n = write_refusal true o (access c o) (cic.refusal_at c o v)

    d : CicAnswer
    d = answered (written_to c (register_at o) v) 0

    go : Dec (n ≡ carried_out) → (pick (eqb n carried_out) d (refused c n) ≡ d) ⊎ (pick (eqb n carried_out) d (refused c n) ≡ refused c (pick (eqb n carried_out) d (refused c n)).refusal)
    go (yes e) = inl (sym (pick_true (refused c n) (eq-eqb n carried_out e)))
    go (no e) =
        let z = sym (pick-false d (ne_eqb n carried_out e)) in inr (z ∙ ap (refused c) (sym (ap (λ (a : CicAnswer). a.refusal) z)))

-- a write elsewhere leaves the channel map as it was
write-map_stays : (c : Cic) (o v : ℕ) → o / 0x400 ≢ 1 → (cic.write_as true c o v).cic.channel ≡ c.channel
write-map_stays c o v d = go (write_cases c o v)
  where
    go : (cic.write_as true c o v ≡ answered (written_to c (register_at o) v) 0) ⊎ (cic.write_as true c o v ≡ refused c (cic.write_as true c o v).refusal) → (cic.write_as true c o v).cic.channel ≡ c.channel
    go (inl e) = ap (λ (a : CicAnswer). a.cic.channel) e ∙ map_stays c (register_at o) v (register-other o d)
    go (inr e) = ap (λ (a : CicAnswer). a.cic.channel) e

write_hosts_stay : (c : Cic) (o v : ℕ) → (cic.write_as true c o v).cic.hosts ≡ c.hosts
write_hosts_stay c o v = go (write_cases c o v)
  where
    go : (cic.write_as true c o v ≡ answered (written_to c (register_at o) v) 0) ⊎ (cic.write_as true c o v ≡ refused c (cic.write_as true c o v).refusal) → (cic.write_as true c o v).cic.hosts ≡ c.hosts
    go (inl e) = ap (λ (a : CicAnswer). a.cic.hosts) e ∙ hosts_stay c (register_at o) v
    go (inr e) = ap (λ (a : CicAnswer). a.cic.hosts) e

-- one of the channel map changes at most its own four bytes
write-others : (c : Cic) (o v : ℕ) → o / 0x400 ≡ 1 → (i : ℕ) → (i / 4 ≡ o / 4 % 256 → ⊥) → get_or (cic.write_as true c o v).cic.channel i 0 ≡ get_or c.channel i 0
write-others c o v e i d = go (write_cases c o v)
  where
    go : (cic.write_as true c o v ≡ answered (written_to c (register_at o) v) 0) ⊎ (cic.write_as true c o v ≡ refused c (cic.write_as true c o v).refusal) → get_or (cic.write_as true c o v).cic.channel i 0 ≡ get_or c.channel i 0
    go (inl z) =
        ap (λ (a : CicAnswer). get_or a.cic.channel i 0) z ∙ ap (λ (r : Register). get_or (written_to c r v).channel i 0) (register-map o e)
        ∙ unfold written_to in ((maps.kept).puts_no_other c.systems (o / 4 % 256) v c.channel i d)
    go (inr z) = ap (λ (a : CicAnswer). get_or a.cic.channel i 0) z

-- ---- beside the same holds

-- the frame goes by the channel map alone
frame-map : (p : Prioritised) (c : Cic) → c.channel ≡ p.cic.channel → framed p ≡ framed (prioritised c p.held)
frame-map p c e = ap (λ (m : List ℕ). with_words (framed p) (made 256 (words_of m))) (sym e)

pub beside-done : (p : Prioritised) (a : CicAnswer) {room : List ℕ} {r : Reply} → a.cic.channel ≡ p.cic.channel → in_room.Done (framed p) a room r → Done (beside p.held a) room r
beside-done p a e h = (frame_as (frame-map p a.cic e) h.0, h.1)

pub written-done : (p : Prioritised) (o v : ℕ) {room : List ℕ} {r : Reply} → o / 0x400 ≢ 1 → in_room.Done (framed p) (cic.write_as true p.cic o v) room r
    → Done (beside p.held (cic.write_as true p.cic o v)) room r
written-done p o v d h = beside-done p (cic.write_as true p.cic o v) (write-map_stays p.cic o v d) h

-- a register of the channel map was written
pub map-written : (p : Prioritised) (o v : ℕ) {room : List ℕ} → o / 0x400 ≡ 1 → Laid p room
    → Written p.cic.channel (cic.write_as true p.cic o v).cic.channel (o / 4 % 256) (get_or room (256 + o / 4 % 256) 0)
map-written p o v e h = record { others = write-others p.cic o v e; before = register-bytes (o / 4 % 256) (omega arith) h }

pub read_done : (p : Prioritised) (o : ℕ) {room : List ℕ} {r : Reply} → in_room.Done (framed p) (cic.read_as true p.cic o) room r → Done (read_as true p o Elsewhere) room r
unfolding read_as
read_done p o h = beside-done p (cic.read_as true p.cic o) same h
  where
    same : (cic.read_as true p.cic o).cic.channel ≡ p.cic.channel
    same = unfold cic.read_as in (pick_cases (λ (a : CicAnswer). a.cic.channel ≡ p.cic.channel) (eqb (read_refusal true o (access p.cic o)) carried_out) (λ _. refl) (λ _. refl))

pub line-done : (p : Prioritised) (s l : ℕ) {room : List ℕ} {r : Reply} → sound p ≡ true → in_room.Done (framed p) (cic.line_as true p.cic s l) room r → Done (line p s l) room r
unfolding step_as
line-done p s l ok h = done_as (ap (λ (t : Bool). beside p.held (cic.line_as t p.cic s l)) (sym ok)) (beside-done p (cic.line_as true p.cic s l) same h)
  where
    moves : (c : Cic) (i : System) (t : Bool) → (cic.moved c i t).channel ≡ c.channel
    moves c i t = unfold cic.moved in (pick_cases (λ (d : Cic). d.channel ≡ c.channel) (t && not (bit_at c.lines i.0)) (λ _. refl) (λ _. refl))

    same : (cic.line_as true p.cic s l).cic.channel ≡ p.cic.channel
    same = unfold cic.line_as in (pick_cases (λ (a : CicAnswer). a.cic.channel ≡ p.cic.channel) (eqb (line_refusal true p.cic.systems s l) carried_out) (λ _. moves p.cic (system s) (eqb l 1)) (λ _. refl))

-- ---- a write elsewhere, and what it ends

held-by_hosts : (c d : Cic) (x : Held) (o v : ℕ) → c.hosts ≡ d.hosts → held_after c x o v ≡ held_after d x o v
unfolding held_after hosts_written
held-by_hosts c d x o v e = rw e

module _ (p : Prioritised) (o v : ℕ) where
  abbrev its : CicAnswer
  its = cic.write_as true p.cic o v

  pub elsewhere-refused : {room : List ℕ} {r : Reply} (n : ℕ) → n ≡ r.0 → n ≢ carried_out → Done (beside p.held its) room r → Done (write_as true p o v Elsewhere) room r
  unfolding write_as
  elsewhere-refused {room} {r} n e d h = go (write_cases p.cic o v)
    where
      no : its.refusal ≢ carried_out
      no z = d (e ∙ ap (λ (x : Reply). x.0) h.1 ∙ z)

      go : (its ≡ answered (written_to p.cic (register_at o) v) 0) ⊎ (its ≡ refused p.cic its.refusal) → Done (written_by p o v its) room r
      go (inl z) = absurd (no (ap (λ (a : CicAnswer). a.refusal) z))
      go (inr z) = done_as (ap (λ (a : CicAnswer). beside p.held a) z ∙ pick-false _ (ne_eqb its.refusal carried_out no)) h

  pub elsewhere-plain : {room : List ℕ} {r : Reply} (n x : ℕ) → n ≡ r.0 → n ≡ carried_out → x ≡ p.held.hold → x ≢ 1 → Done (beside p.held its) room r → Done (write_as true p o v Elsewhere) room r
  unfolding write_as
  elsewhere-plain n x e z f d h =
      done_as
      (ap (λ (t : Held). beside t its) (pick-false (held_after p.cic p.held o v) (ne_eqb p.held.hold 1 (λ q. d (f ∙ q))))
      ∙ pick_true _ (eq-eqb its.refusal carried_out (sym (e ∙ ap (λ (x : Reply). x.0) h.1) ∙ z)))
      h

  pub elsewhere-ends : {room : List ℕ} {r : Reply} (n x : ℕ) (before : List ℕ) → n ≡ r.0 → n ≡ carried_out → x ≡ p.held.hold → x ≡ 1 → Done (beside p.held its) before r
      → Laid (prioritised its.cic (held_after its.cic p.held o v)) room → Done (write_as true p o v Elsewhere) room r
  unfolding write_as
  elsewhere-ends n x before e z f d b h =
      done_as
      (ap (λ (t : Held). beside t its) (pick_true p.held (eq-eqb p.held.hold 1 (sym f ∙ d)))
      ∙ pick_true _ (eq-eqb its.refusal carried_out (sym (e ∙ ap (λ (x : Reply). x.0) b.1) ∙ z)))
      (holds_as (prioritised its.cic p.held) (held-by_hosts its.cic p.cic p.held o v (write_hosts_stay p.cic o v)) h, b.1)

-- ---- by the register

pub reads_at : (p : Prioritised) (o : ℕ) {t : Own} {room : List ℕ} {r : Reply} → sound p ≡ true → t ≡ own_at p o → Done (read_as true p o t) room r → Done (read p o) room r
unfolding step_as
reads_at p o ok e h = done_as (ap₂ (λ (b : Bool) (x : Own). read_as b p o x) (sym ok) e) h

pub writes_at : (p : Prioritised) (o v : ℕ) {t : Own} {room : List ℕ} {r : Reply} → sound p ≡ true → t ≡ own_at p o → Done (write_as true p o v t) room r → Done (write p o v) room r
unfolding step_as
writes_at p o v ok e h = done_as (ap₂ (λ (b : Bool) (x : Own). write_as b p o v x) (sym ok) e) h

pub outputs-told : (p : Prioritised) {s : Signals} → sound p ≡ true → s ≡ hosts.outputs p.cic → s ≡ outputs p
unfolding outputs hosts.outputs
outputs-told p ok e = e ∙ sym (pick_true _ (sound-cic p ok)) ∙ pick_true _ ok
