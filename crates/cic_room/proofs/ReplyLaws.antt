-- A step that is carried out, and one that is refused; which register stands at an offset; and what a register of a sound record is read as.
use mathlib.Core.Path.{◌≡◌, refl, sym, ap, ap₂, subst, ◌∙◌}
use mathlib.Core.Bool.{Bool, true, false, ◌&&◌, ◌||◌, and-false}
use mathlib.Core.List.{List}
use mathlib.Core.Logic.{◌⊎◌, inl, inr, ⊎_elim}
use Prim.Native.Nat.{ℕ, ◌+◌, ◌-◌, ◌*◌, ◌/◌, ◌%◌, ◌<◌, ◌≤◌}
use native.Mathlib.Decide.{dec_lt, ℕ_discrete}
use native.Mathlib.Omega.{arith}
use borrow.Author.Tests.{eq-eqb, ne_eqb, lt-ltb, le-ltb, ltb-true, eqb-true, leb-true, leb-false, lt-leb, le-leb, ltb-false}
use lib.Dec.{ltb, leb}
use lib.ListN.{get_or}
use Rattle.words.specs.Choice.{pick}
use Rattle.words.specs.Word.{both, kept, clean}
use Rattle.words.specs.Array.{rest_at, clean_below}
use Rattle.words.proofs.ArrayLaws.{clean_word}
use Rattle.words.proofs.ChoiceLaws.{pick_true, pick-false}
use Rattle.words.proofs.TruthLaws.{or-either, or_neither, and_both}
use Rattle.steps.specs.declared.Access.{Access}
use Rattle.steps.specs.declared.Access.TheVariants.{NoRegister, WriteOnly, ReadWrite}
use Rattle.steps.specs.Refusals.{carried_out, absent, beyond, read_access, write_access, line_refusal}
use Rattle.cic_record.specs.declared.Answer.{Answer}
use Rattle.cic_record.specs.declared.Cic.{Cic}
use Rattle.cic_record.specs.declared.Reply as of-cic
use Rattle.cic_record.specs.declared.Signals.{Signals}
use Rattle.cic_record.specs.declared.Size.{Size}
use Rattle.cic_record.specs.Parts.{size_of, answered_reply, refused_reply, answer_of}
use Rattle.cic_record.specs.Record.{answered, refused}
use Rattle.cic_record.specs.Sound.{sound}
use Rattle.cic_registers.specs.Maps.{byte_read, map_read}
use Rattle.cic_registers.proofs.MapLaws.{read_four}
use Rattle.cic_registers.specs.Bits.{word_read}
use Rattle.cic_registers.specs.declared.layout.Register.{Register}
use Rattle.cic_registers.specs.declared.layout.Register.TheVariants.{Nothing, Revision, GlobalEnable, RawSet, EnabledClear, EnableSet, EnableClear, ChannelMap, HostMap, HostEnable}
use Rattle.cic_registers.specs.Map.{register_at, access_of, if_any}
use Rattle.cic_registers.proofs.LayoutPromises as of-layout
use Rattle.cic_registers.specs.Registers.{unless, value_of}
use Rattle.cic_registers.proofs.ReplyLaws.{absent-read, unreadable-read, only-read, plain-read, group-read}
use Rattle.cic_registers.specs.Access.{reply_by, answer_by, read_in}
use Rattle.cic_registers.specs.Model.{read_as}
use Rattle.cic_registers.proofs.StepLaws.{aligned-read}
use Rattle.rooms.specs.Reply.{Reply, reply}
use Rattle.cic_registers.specs.Hosts.{shown, outputs}
use Rattle.cic_room.specs.Room.{Frame, Laid}
use Rattle.cic_room.proofs.Promises as of-laid
use Rattle.cic_room.proofs.PutLaws.{systems-is, channels-is, hosts-is, revision-is}
use Rattle.cic_room.specs.Reply.{read_reply, Done}

-- ---- answers

pub done_as : {f : Frame} {x y : Answer} {room : List ℕ} {r : Reply} → x ≡ y → Done f x room r → Done f y room r
done_as {f = f} {room = room} {r = r} e d = subst (λ (z : Answer). Done f z room r) e d

pub carried : {f : Frame} (c d : Cic) (n : ℕ) {room : List ℕ} {r : Reply} → n ≡ carried_out → r ≡ reply 0 0 → Laid f d room → Done f (answer_by c n d) room r
carried c d n e g h = done_as {x = answered d 0} {y = answer_by c n d} (pick_true (refused c n) (eq-eqb n carried_out e)) (h, g)

pub stopped : {f : Frame} (c d : Cic) (n m : ℕ) {room : List ℕ} {r : Reply} → m ≡ n → (m ≡ carried_out → ⊥) → r ≡ reply m 0 → Laid f c room → Done f (answer_by c n d) room r
stopped c d n m e o g h = done_as {x = refused c n} {y = answer_by c n d} (pick-false (answered d 0) (ne_eqb n carried_out (λ q. o (e ∙ q)))) (h, g ∙ ap (λ (x : ℕ). reply x 0) e)

-- the number of a value
pub within_limit : {t : Bool} → t ≡ true → unless t ≡ carried_out
within_limit e = sym (pick_true beyond e)

pub past_limit : {t : Bool} → t ≡ false → beyond ≡ unless t
past_limit e = pick-false carried_out e

-- the number of a register that exists, and of one that does not
pub there : (first n v : ℕ) → first < n → write_access (if_any first n) v ≡ v
there first n v l = ap (λ (a : Access). write_access a v) (sym (pick_true NoRegister (lt-ltb first n l)))

pub not_there : (first n v : ℕ) → n ≤ first → absent ≡ write_access (if_any first n) v
not_there first n v l = ap (λ (a : Access). write_access a v) (pick-false ReadWrite (le-ltb first n l))

-- ---- which register stands at an offset

module _ (o : ℕ) (a : o % 4 ≡ 0) where
  pub at_raw : o / 128 ≡ 4 → register_at o ≡ RawSet (o / 4 % 32)
  at_raw e = let q : o ≡ 0x200 + 4 * (o / 4 % 32) = omega (arith, e, a) in ap register_at q ∙ (of-layout.kept).raw_set (o / 4 % 32) (omega arith)

  pub at_enabled : o / 128 ≡ 5 → register_at o ≡ EnabledClear (o / 4 % 32)
  at_enabled e = let q : o ≡ 0x280 + 4 * (o / 4 % 32) = omega (arith, e, a) in ap register_at q ∙ (of-layout.kept).enabled_clear (o / 4 % 32) (omega arith)

  pub at_set : o / 128 ≡ 6 → register_at o ≡ EnableSet (o / 4 % 32)
  at_set e = let q : o ≡ 0x300 + 4 * (o / 4 % 32) = omega (arith, e, a) in ap register_at q ∙ (of-layout.kept).enable_set (o / 4 % 32) (omega arith)

  pub at_clear : o / 128 ≡ 7 → register_at o ≡ EnableClear (o / 4 % 32)
  at_clear e = let q : o ≡ 0x380 + 4 * (o / 4 % 32) = omega (arith, e, a) in ap register_at q ∙ (of-layout.kept).enable_clear (o / 4 % 32) (omega arith)

  pub at_channels : 0x400 ≤ o → o < 0x800 → register_at o ≡ ChannelMap ((o - 0x400) / 4)
  at_channels l m = let q : o ≡ 0x400 + 4 * ((o - 0x400) / 4) = omega (arith, l, a) in ap register_at q ∙ (of-layout.kept).channel_map ((o - 0x400) / 4) (omega (arith, l, m))

  pub at_hosts : 0x800 ≤ o → o < 0x900 → register_at o ≡ HostMap ((o - 0x800) / 4)
  at_hosts l m = let q : o ≡ 0x800 + 4 * ((o - 0x800) / 4) = omega (arith, l, a) in ap register_at q ∙ (of-layout.kept).host_map ((o - 0x800) / 4) (omega (arith, l, m))

  pub at_enables : 0x1500 ≤ o → o < 0x1520 → register_at o ≡ HostEnable ((o - 0x1500) / 4)
  at_enables l m = let q : o ≡ 0x1500 + 4 * ((o - 0x1500) / 4) = omega (arith, l, a) in ap register_at q ∙ (of-layout.kept).host_enable ((o - 0x1500) / 4) (omega (arith, l, m))

pub at_none : (o : ℕ) → 0x900 ≤ o → (ltb o 0x1500 || leb 0x1520 o) ≡ true → register_at o ≡ Nothing
at_none o l e = go (dec_lt o 0x1500)
  where
    go : Dec (o < 0x1500) → register_at o ≡ Nothing
    go (yes m) = (of-layout.kept).no_host_indices o l m
    go (no m) = (of-layout.kept).nothing_after o (leb-true 0x1520 o (right (le-ltb o 0x1500 (omega (arith, m))) e))
      where
        right : {x y : Bool} → x ≡ false → (x || y) ≡ true → y ≡ true
        right {x} {y} p q = sym (ap (λ (t : Bool). t || y) p) ∙ q

-- ---- limits

-- one of two limits is reached, of which the first is the lower; or neither
pub past_first : (n m v : ℕ) → n ≤ m → (leb n v || leb m v) ≡ true → n ≤ v
past_first n m v l e =
    ⊎_elim (λ (q : leb n v ≡ true). leb-true n v q) (λ (q : leb m v ≡ true). let w : m ≤ v = leb-true m v q in omega (arith, w, l)) (or-either (leb n v) (leb m v) e)

pub before-both : (n m v : ℕ) → (leb n v || leb m v) ≡ false → (v < n) × (v < m)
before-both n m v e = let q = or_neither (leb n v) (leb m v) e in (leb-false n v q.0, leb-false m v q.1)

-- the configured numbers
pub size-told : {f : Frame} {c : Cic} {room : List ℕ} → Laid f c room
    → ◌≡◌ {A = Size} (record { systems = get_or room 1 0; channels = get_or room 2 0; hosts = get_or room 3 0; revision = get_or room 4 0 }) (size_of c)
size-told h = rw (systems-is h, channels-is h, hosts-is h, revision-is h)

-- ---- what is read of a sound record

byte_as : (n size : ℕ) (m : List ℕ) (k j : ℕ) → 4 * k + j < size → n ≤ size → ((i : ℕ) → n ≤ i → i < size → get_or m i 0 ≡ 0) → byte_read size m k j ≡ byte_read n m k j
unfolding byte_read
byte_as n size m k j b l z = sym (pick_true 0 (lt-ltb (4 * k + j) size b)) ∙ go (dec_lt (4 * k + j) n)
  where
    go : Dec (4 * k + j < n) → get_or m (4 * k + j) 0 ≡ pick (ltb (4 * k + j) n) (get_or m (4 * k + j) 0) 0
    go (yes q) = pick_true 0 (lt-ltb (4 * k + j) n q)
    go (no q) = z (4 * k + j) (omega (arith, q)) b ∙ pick-false (get_or m (4 * k + j) 0) (le-ltb (4 * k + j) n (omega (arith, q)))

-- a word of bits as it stands
pub word_as : (m n : ℕ) (ws : List ℕ) (k : ℕ) → k < m → clean_below m n ws ≡ true → get_or ws k 0 ≡ word_read n ws k
unfolding word_read clean
word_as m n ws k l e = sym (eqb-true (kept (rest_at n k) (get_or ws k 0)) (get_or ws k 0) (clean_word m n ws k l e))

-- four bytes of a map as they stand
pub map_as : (n size : ℕ) (m : List ℕ) (k : ℕ) → n ≤ size → 4 * k + 3 < size → ((i : ℕ) → n ≤ i → i < size → get_or m i 0 ≡ 0) → map_read size m k ≡ map_read n m k
map_as n size m k l b z =
    sym (read_four size m k (byte_read size m k 0) (byte_read size m k 1) (byte_read size m k 2) (byte_read size m k 3) refl refl refl refl)
    ∙ read_four n m k (byte_read size m k 0) (byte_read size m k 1) (byte_read size m k 2) (byte_read size m k 3) (same 0 (omega arith)) (same 1 (omega arith)) (same 2 (omega arith)) (same 3 (omega arith))
  where
    same : (j : ℕ) → j < 4 → byte_read size m k j ≡ byte_read n m k j
    same j i = byte_as n size m k j (omega (arith, i, b)) l z

-- a read by the register that stands there
pub read_done : {f : Frame} {c : Cic} (o : ℕ) {room : List ℕ} {r : Reply} → o % 4 ≡ 0 → Laid f c room → r ≡ read_reply (read_in c (register_at o)) → Done f (read_as true c o) room r
read_done {c = c} o a h e = done_as {x = answer_of (read_in c (register_at o)) c} (aligned-read c o a refl refl) (h, e)

-- ---- what a read of each register answers

module _ (c : Cic) (o : ℕ) where
  -- a register that stands alone
  pub told_at : {x : Register} {y : of-cic.Reply} → register_at o ≡ x → y ≡ read_in c x → read_reply y ≡ read_reply (read_in c (register_at o))
  told_at e d = ap read_reply d ∙ sym (ap (λ (z : Register). read_reply (read_in c z)) e)

  pub told-revision : register_at o ≡ Revision → reply 0 c.revision ≡ read_reply (read_in c (register_at o))
  unfolding access_of value_of
  told-revision e = told_at {y = answered_reply c.revision} e (only-read c.revision refl)

  pub told_global : register_at o ≡ GlobalEnable → reply 0 c.global ≡ read_reply (read_in c (register_at o))
  unfolding access_of value_of
  told_global e = told_at {y = answered_reply c.global} e (plain-read c.global refl)

  pub told-unreadable : {x : Register} → register_at o ≡ x → access_of c x ≡ WriteOnly → reply 3 0 ≡ read_reply (read_in c (register_at o))
  told-unreadable {x} e d = told_at {y = refused_reply 3} e (unreadable-read (value_of c x) d)

  pub told-nothing : register_at o ≡ Nothing → reply 2 0 ≡ read_reply (read_in c (register_at o))
  unfolding access_of value_of
  told-nothing e = told_at {y = refused_reply 2} e (absent-read 0 refl)

  -- one of a group
  group : {x : Register} (first n n' w v : ℕ) → register_at o ≡ x → n ≡ n' → w ≡ v → reply_by (read_access (if_any first n')) v ≡ read_in c x
      → read_reply (pick (ltb first n) (answered_reply w) (refused_reply absent)) ≡ read_reply (read_in c (register_at o))
  group first n n' w v e p q d = ap₂ (λ (a b : ℕ). read_reply (pick (ltb first a) (answered_reply b) (refused_reply absent))) p q ∙ told_at e (group-read first n' v refl ∙ d)

  module _ (k n w : ℕ) where
    pub told-raw : register_at o ≡ RawSet k → n ≡ c.systems → w ≡ word_read c.systems c.status k
        → read_reply (pick (ltb (32 * k) n) (answered_reply w) (refused_reply absent)) ≡ read_reply (read_in c (register_at o))
    unfolding access_of value_of
    told-raw e p q = group (32 * k) n c.systems w _ e p q refl

    pub told_enabled : register_at o ≡ EnabledClear k → n ≡ c.systems → w ≡ both (word_read c.systems c.status k) (word_read c.systems c.enable k)
        → read_reply (pick (ltb (32 * k) n) (answered_reply w) (refused_reply absent)) ≡ read_reply (read_in c (register_at o))
    unfolding access_of value_of
    told_enabled e p q = group (32 * k) n c.systems w _ e p q refl

    pub told-set : register_at o ≡ EnableSet k → n ≡ c.systems → w ≡ word_read c.systems c.enable k
        → read_reply (pick (ltb (32 * k) n) (answered_reply w) (refused_reply absent)) ≡ read_reply (read_in c (register_at o))
    unfolding access_of value_of
    told-set e p q = group (32 * k) n c.systems w _ e p q refl

    pub told-clear : register_at o ≡ EnableClear k → n ≡ c.systems → w ≡ word_read c.systems c.enable k
        → read_reply (pick (ltb (32 * k) n) (answered_reply w) (refused_reply absent)) ≡ read_reply (read_in c (register_at o))
    unfolding access_of value_of
    told-clear e p q = group (32 * k) n c.systems w _ e p q refl

    -- the enables stand in both groups
    pub told-either : 0x200 ≤ o → o < 0x400 → o % 4 ≡ 0 → (o / 128 ≡ 4 → ⊥) → (o / 128 ≡ 5 → ⊥) → k ≡ o / 4 % 32 → n ≡ c.systems → w ≡ word_read c.systems c.enable k
        → read_reply (pick (ltb (32 * k) n) (answered_reply w) (refused_reply absent)) ≡ read_reply (read_in c (register_at o))
    told-either l m a x y e p q = go (ℕ_discrete (o / 128) 6)
      where
        go : Dec (o / 128 ≡ 6) → read_reply (pick (ltb (32 * k) n) (answered_reply w) (refused_reply absent)) ≡ read_reply (read_in c (register_at o))
        go (yes z) = told-set (at_set o a z ∙ ap EnableSet (sym e)) p q
        go (no z) = told-clear (at_clear o a (omega (arith, l, m, x, y, z)) ∙ ap EnableClear (sym e)) p q

    pub told_channels : register_at o ≡ ChannelMap k → n ≡ c.systems → w ≡ map_read c.systems c.channel k
        → read_reply (pick (ltb (4 * k) n) (answered_reply w) (refused_reply absent)) ≡ read_reply (read_in c (register_at o))
    unfolding access_of value_of
    told_channels e p q = group (4 * k) n c.systems w _ e p q refl

    pub told_hosts : register_at o ≡ HostMap k → n ≡ c.channels → w ≡ map_read c.channels c.host k
        → read_reply (pick (ltb (4 * k) n) (answered_reply w) (refused_reply absent)) ≡ read_reply (read_in c (register_at o))
    unfolding access_of value_of
    told_hosts e p q = group (4 * k) n c.channels w _ e p q refl

    pub told_allow : register_at o ≡ HostEnable k → n ≡ c.hosts → w ≡ word_read c.hosts c.allow k
        → read_reply (pick (ltb (32 * k) n) (answered_reply w) (refused_reply absent)) ≡ read_reply (read_in c (register_at o))
    unfolding access_of value_of
    told_allow e p q = group (32 * k) n c.hosts w _ e p q refl

-- ---- lines

module _ (n s l : ℕ) where
  pub line_stops : n ≤ 1024 → ((leb n s || leb 1024 s) || ltb 1 l) ≡ true → beyond ≡ line_refusal true n s l
  unfolding line_refusal pick
  line_stops m e = ap (λ (t : Bool). pick t carried_out beyond) (sym (not-both (or-either (leb n s || leb 1024 s) (ltb 1 l) e)))
    where
      not-both : ((leb n s || leb 1024 s) ≡ true) ⊎ (ltb 1 l ≡ true) → (ltb s n && leb l 1) ≡ false
      not-both (inl q) = ap (λ (t : Bool). t && leb l 1) (le-ltb s n (past_first n 1024 s m q))
      not-both (inr q) = ap (λ (t : Bool). ltb s n && t) (lt-leb l 1 (ltb-true 1 l q)) ∙ and-false (ltb s n)

  pub line-goes : ((leb n s || leb 1024 s) || ltb 1 l) ≡ false → (carried_out ≡ line_refusal true n s l) × (s < 1024)
  unfolding line_refusal pick
  line-goes e =
      let q = or_neither (leb n s || leb 1024 s) (ltb 1 l) e in
      let b = before-both n 1024 s q.0 in
      (ap (λ (t : Bool). pick t carried_out beyond) (sym (and_both (lt-ltb s n b.0) (le-leb l 1 (ltb-false 1 l q.1)))), b.1)

-- ---- outputs

signals : (c : Cic) {a b : ℕ} → a ≡ (shown c).hosts → b ≡ (shown c).lowest → ◌≡◌ {A = Signals} (record { refusal = 0; hosts = a; lowest = b }) (shown c)
unfolding shown
signals c p q = ap₂ (λ (x y : ℕ). record { refusal = 0; hosts = x; lowest = y }) p q

pub outputs-told : (f : Frame) (c : Cic) {room : List ℕ} → f.kept ≡ true → sound c ≡ true → Laid f c room
    → ◌≡◌ {A = Signals} (record { refusal = 0; hosts = get_or room 7 0; lowest = get_or room 8 0 }) (outputs c)
unfolding outputs
outputs-told f c on ok h = let q = (of-laid.kept).columns f c _ ok h on in signals c q.0 q.1 ∙ pick_true _ ok
