-- The machine values of the record, the answer and the reply, as the walks of the lent functions know them.
use mathlib.Core.Path.{◌≡◌, ap}
use mathlib.Core.List.{[], ◌∷◌, List}
use mir.Val.{Val, vunit}
use denote.Laws.{Is}
use denote.Struct.Laws as LL
use Rattle.coreinterrupt.specs.declared.Core.{Core}
use Rattle.coreinterrupt.specs.declared.Answer.{Answer}
use Rattle.coreinterrupt_room.specs.declared.lent.Reply.{Reply}
use Rattle.coreinterrupt_room.specs.Lent.{reply_of}
use Rattle.coreinterrupt.specs.contracts.Core as T
use Rattle.coreinterrupt.proofs.Core.TheLaws as T'
use Rattle.coreinterrupt.specs.contracts.Answer as U
use Rattle.coreinterrupt.proofs.Answer.TheLaws as U'
use Rattle.coreinterrupt_room.specs.contracts.lent.Reply as Q
use Rattle.coreinterrupt_room.proofs.lent.Reply.TheLaws as Q'

abbrev pub val : Core → Val
val = LL.val T.the_type T'.the_laws

abbrev pub vals : Core → List Val
vals = LL.vals T.the_type T'.the_laws

abbrev pub answer-val : Answer → Val
answer-val = LL.val U.the_type U'.the_laws

abbrev pub reply-val : Reply → Val
reply-val = LL.val Q.the_type Q'.the_laws

abbrev first : List Val → Val
first [] = vunit
first (v ∷ vs) = v

-- of an answer that is held: its machine value, and what is known of the record in it and of the reply made of it
pub spelt_as : (r : Answer) (u : Val) → Is U.the_row r (u ∷ []) → u ≡ answer-val r
spelt_as r u is = ap first (LL.tells U.the_type U'.the_laws r (u ∷ []) is)

pub rec-is : (r : Answer) (u : Val) → Is U.the_row r (u ∷ []) → Is T.the_row r.core (vals r.core)
rec-is r u is = (LL.owed U.the_type U'.the_laws r (u ∷ []) is).1.1.0

pub reply-is : (r : Answer) (u : Val) → Is U.the_row r (u ∷ []) → Is Q.the_row (reply_of r) (reply-val (reply_of r) ∷ [])
reply-is r u is =
    LL.owes Q.the_type Q'.the_laws (reply_of r) ((LL.owed U.the_type U'.the_laws r (u ∷ []) is).0, ((LL.owed U.the_type U'.the_laws r (u ∷ []) is).1.0, tt))
