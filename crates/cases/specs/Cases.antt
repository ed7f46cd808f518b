-- The worked cases that 01 marks (Both sides of each rule), in its order: each is a test, computed from the definitions of the three models.
use Rattle.std.specs.Prelude.{ℕ, ◌+◌, ◌*◌, ◌^◌, Bool, true, false, not, ◌&&◌, List, [], ◌∷◌, ◌++◌, eqb}
use Rattle.words.specs.Word.{bit}
use Rattle.steps.specs.declared.Step.{Step}
use Rattle.steps.specs.declared.Step.TheVariants.{Read, Write, Line}
use Rattle.steps.specs.Refusals.{carried_out, absent, unreadable, beyond}
use Rattle.aic_record.specs.declared.Aic.{Aic}
use Rattle.aic_registers.specs.Map.{svr, ivr, fvr, isr, ipr, iccr, eoicr, spu, ffer}
use Rattle.aic.specs.Model.{start, step, outputs}
use Rattle.aic_runs.specs.Runs.{run}
use Rattle.aic_runs.specs.Worked.{ready, tower}
use Rattle.coreinterrupt.specs.Model as CoreInterrupt
use Rattle.cic_record.specs.declared.Cic.{Cic}
use Rattle.cic_record.specs.Start.{start as cic_start}
use Rattle.cic_registers.specs.Model as Cic

-- ---- how an AIC is brought where a case begins

-- from reset: internal sources, lines low, and a spurious vector that no source has
unfoldable pub ran : List Step → Aic
ran xs = run (start 0 0).aic (Write spu 0xEE ∷ xs)

-- the vector that source k is given
abbrev pub vector_for : ℕ → ℕ
vector_for k = 0xA0 + k

-- source k is given a vector, made edge-triggered at priority p and enabled, and its line rises
unfoldable pub raise : ℕ → ℕ → List Step
raise k p = Write (svr + 4 * k) (vector_for k) ∷ (ready k p ++ (Line k 1 ∷ []))

-- ---- what a case looks at

-- a read of the register at an offset is carried out and answers v
unfoldable pub answers : Aic → ℕ → ℕ → Bool
answers s o v = eqb (step s (Read o)).refusal carried_out && eqb (step s (Read o)).value v

-- a read of IVR starts source k: it answers k's vector, one entry more is open, and ISR names k
unfoldable pub starts : Aic → ℕ → Bool
starts s k =
    answers s ivr (vector_for k) && eqb (outputs (step s (Read ivr)).aic).entries ((outputs s).entries + 1)
    && answers (step s (Read ivr)).aic isr k

-- a read of IVR answers SPU and opens a mark: one entry more is open, and ISR answers 0 (02, 3/12)
unfoldable pub marks : Aic → Bool
marks s =
    answers s ivr 0xEE && eqb (outputs (step s (Read ivr)).aic).entries ((outputs s).entries + 1)
    && answers (step s (Read ivr)).aic isr 0

-- a read of IVR answers SPU, and no entry more is open
unfoldable pub starts_none : Aic → Bool
starts_none s = answers s ivr 0xEE && eqb (outputs (step s (Read ivr)).aic).entries (outputs s).entries

-- bit k of IPR
unfoldable pub pending_bit : Aic → ℕ → Bool
pending_bit s k = bit (step s (Read ipr)).value k

-- the two arrays have the same elements
unfoldable pub same_list : List ℕ → List ℕ → Bool
same_list [] [] = true
same_list [] (y ∷ ys) = false
same_list (x ∷ xs) [] = false
same_list (x ∷ xs) (y ∷ ys) = eqb x y && same_list xs ys

-- the two records are the same, field by field
unfoldable pub same : Aic → Aic → Bool
same s t =
    eqb s.external t.external && eqb s.lines t.lines && eqb s.enabled t.enabled && eqb s.memory t.memory
    && eqb s.forced t.forced && eqb s.spurious t.spurious && eqb s.debug t.debug && same_list s.mode t.mode
    && same_list s.vector t.vector && same_list s.source t.source && same_list s.level t.level && eqb s.depth t.depth
    && eqb s.seen.what t.seen.what && eqb s.seen.source t.seen.source && eqb s.seen.level t.seen.level && eqb s.seen.vector t.seen.vector

-- ---- the cases: AIC

-- source 9 at priority 3 and source 12 at priority 5 wait: 12 starts
unfoldable pub higher_priority_starts : Bool
higher_priority_starts = starts (ran (raise 9 3 ++ raise 12 5)) 12

-- sources 6 and 7 wait at priority 4, whichever rose first: 6 starts
unfoldable pub lower_number_starts : Bool
lower_number_starts = starts (ran (raise 6 4 ++ raise 7 4)) 6 && starts (ran (raise 7 4 ++ raise 6 4)) 6

-- a handler is open at level 3 and source 10 waits at priority p
unfoldable pub at_level_three : ℕ → Aic
at_level_three p = ran (raise 9 3 ++ (Read ivr ∷ raise 10 p))

-- there source 10 waits at priority 3, IVR is read, and then these steps are taken
unfoldable pub spurious_then : List Step → Aic
spurious_then xs = run (at_level_three 3) (Read ivr ∷ xs)

-- level 3 is open and priority 3 waits: IRQ is inactive; IVR answers SPU and opens a mark, so that two entries are open, ISR answers 0 and IRQ is
-- inactive; after one close ISR answers 9 and IRQ is inactive still; after the second IRQ is active (02, 3/12)
unfoldable pub equal_priority_waits : Bool
equal_priority_waits =
    not (outputs (at_level_three 3)).irq && marks (at_level_three 3)
    && eqb (outputs (spurious_then [])).entries 2 && not (outputs (spurious_then [])).irq
    && answers (spurious_then (Write eoicr 0 ∷ [])) isr 9 && not (outputs (spurious_then (Write eoicr 0 ∷ []))).irq
    && (outputs (spurious_then (Write eoicr 0 ∷ Write eoicr 0 ∷ []))).irq

-- priority 4 waits instead: IRQ is active, and source 10 starts
unfoldable pub next_priority_nests : Bool
next_priority_nests = (outputs (at_level_three 4)).irq && starts (at_level_three 4) 10

-- a level source is high and is given a clear command: it is still pending
unfoldable pub level_not_cleared : Bool
level_not_cleared = pending_bit (ran (Write (4 * 9) 0x40 ∷ Line 9 1 ∷ Write iccr (2 ^ 9) ∷ [])) 9

-- source 9 is edge-triggered and not enabled, and its line has risen
unfoldable pub disabled_edge : Aic
disabled_edge = ran (Write (4 * 9) 0x63 ∷ Line 9 1 ∷ [])

-- a disabled edge source has an edge: its bit in IPR is set, and IRQ is inactive
unfoldable pub disabled_edge_kept : Bool
disabled_edge_kept = pending_bit disabled_edge 9 && not (outputs disabled_edge).irq

-- source 9 is forced, enabled and pending, and vector 0 is written
unfoldable pub forced_nine : Aic
forced_nine = ran (Write svr (vector_for 0) ∷ Write ffer (2 ^ 9) ∷ raise 9 3)

-- a forced source: FIQ alone is active, FVR answers vector 0, and source 9 stays pending
unfoldable pub forced_is_fast : Bool
forced_is_fast =
    (outputs forced_nine).fiq && not (outputs forced_nine).irq && answers forced_nine fvr (vector_for 0)
    && pending_bit (step forced_nine (Read fvr)).aic 9

-- handlers are open at levels 0 to 7, and source 9 waits at priority 7
unfoldable pub all_levels : Aic
all_levels = ran (tower 8 ++ raise 9 7)

-- all levels open: IVR answers SPU, and eight entries are open
unfoldable pub eight_at_most : Bool
eight_at_most = starts_none all_levels && eqb (outputs all_levels).entries 8

-- EOICR is written with no entry open, while source 9 waits: the record is the same
unfoldable pub none_to_close : Bool
none_to_close = same (step (ran (raise 9 3)) (Write eoicr 0)).aic (ran (raise 9 3))

-- ---- the cases: CoreInterrupt

-- no FIQ sources: a read of 0x04, a clear register, is carried out and answers 0
unfoldable pub clear_of_none_read : Bool
clear_of_none_read =
    eqb (CoreInterrupt.step (CoreInterrupt.start 0 32 1 1).core (Read 0x04)).refusal carried_out
    && eqb (CoreInterrupt.step (CoreInterrupt.start 0 32 1 1).core (Read 0x04)).value 0

-- one FIQ source: the same read is refused by 3
unfoldable pub clear_of_one_refused : Bool
clear_of_one_refused = eqb (CoreInterrupt.step (CoreInterrupt.start 1 32 1 1).core (Read 0x04)).refusal unreadable

-- ---- the cases: CIC

-- 33 system interrupts, two channels and one host
unfoldable pub cic : Cic
cic = (cic_start 33 2 1 0).cic

-- 33 systems: a read of 0x204, the second word of the raw status, is carried out
unfoldable pub second_word_there : Bool
second_word_there = eqb (Cic.step cic (Read 0x204)).refusal carried_out

-- and 0x208, the third word, is refused by 2
unfoldable pub third_word_absent : Bool
third_word_absent = eqb (Cic.step cic (Read 0x208)).refusal absent

-- two channels: a channel map byte of 1 is taken and stands in the map, 2 is refused by 6
unfoldable pub channel_one_not_two : Bool
channel_one_not_two =
    eqb (Cic.step cic (Write 0x400 1)).refusal carried_out && eqb (Cic.step (Cic.step cic (Write 0x400 1)).cic (Read 0x400)).value 1
    && eqb (Cic.step cic (Write 0x400 2)).refusal beyond

-- ---- the list

-- the marked cases, in the paper's order (01, Both sides of each rule)
unfoldable pub starred : List Bool
starred =
    higher_priority_starts
    ∷ lower_number_starts
    ∷ equal_priority_waits
    ∷ next_priority_nests
    ∷ level_not_cleared
    ∷ disabled_edge_kept
    ∷ forced_is_fast
    ∷ eight_at_most
    ∷ none_to_close
    ∷ clear_of_none_read
    ∷ clear_of_one_refused
    ∷ second_word_there
    ∷ third_word_absent
    ∷ channel_one_not_two
    ∷ []

-- every test of a list holds
unfoldable pub holds : List Bool → Bool
holds [] = true
holds (b ∷ bs) = b && holds bs
