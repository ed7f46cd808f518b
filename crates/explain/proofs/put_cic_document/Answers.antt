use Rattle.text.specs.Phrases.{bytes}
use Rattle.explain.specs.Explain.{cic_document}
use Rattle.explain.proofs.put_cic_document.Goals as goal

-- src/lib.rt:443:1
pub returns : goal.returns
unfolding cic_document bytes
returns c = c.put_all.ensures
