use Rattle.text.proofs.WriteLaws.{and_then}
use Rattle.text.specs.Phrases.{bytes}
use Rattle.explain.specs.Explain.{refused_words}
use Rattle.explain.proofs.put_refused.Goals as goal

-- src/lib.rt:496:1
pub returns : goal.returns
unfolding refused_words bytes
returns c =
    and_then _ _ _ (and_then _ _ _ c.put_counted-a.ensures c.put_all-b.ensures) c.put_reason.ensures
