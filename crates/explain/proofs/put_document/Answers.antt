use mathlib.Core.Path.{ap, ◌∙◌}
use Rattle.text.specs.Text.{write}
use Rattle.text.proofs.WriteLaws.{nothing}
use Rattle.text.specs.Phrases.{bytes}
use Rattle.kinds.proofs.KindLaws.{at_aic, at_core, at-cic, at_aintc, at_indexed, at_none}
use Rattle.explain.specs.Explain.{document_words}
use Rattle.explain.proofs.put_document.Goals as goal

-- src/lib.rt:417:9
pub returns-then-kind-eq-AIC : goal.returns-then-kind-eq-AIC
unfolding document_words bytes
returns-then-kind-eq-AIC c = c.put_all.ensures ∙ ap (write _) (at_aic _ _ c.if-kind-eq-AIC.true)

-- src/lib.rt:424:9
pub returns-then-kind-eq-CORE : goal.returns-then-kind-eq-CORE
unfolding document_words bytes
returns-then-kind-eq-CORE c = c.put_all-then-kind-eq-CORE.ensures ∙ ap (write _) (at_core _ _ c.if-kind-eq-CORE.true)

-- src/lib.rt:427:9
pub returns-then-kind-eq-CIC : goal.returns-then-kind-eq-CIC
unfolding document_words bytes
returns-then-kind-eq-CIC c = c.put_cic_document.ensures ∙ ap (write _) (at-cic _ _ c.if-kind-eq-CIC.true)

-- src/lib.rt:430:9
pub returns-then-kind-eq-AINTC : goal.returns-then-kind-eq-AINTC
unfolding document_words bytes
returns-then-kind-eq-AINTC c = c.put_all-then-kind-eq-AINTC.ensures ∙ ap (write _) (at_aintc _ _ c.if-kind-eq-AINTC.true)

-- src/lib.rt:437:9
pub returns-then-kind-eq-INDEXED : goal.returns-then-kind-eq-INDEXED
unfolding document_words bytes
returns-then-kind-eq-INDEXED c = c.put_cic_document-then-kind-eq-INDEXED.ensures ∙ ap (write _) (at_indexed _ _ c.if-kind-eq-INDEXED.true)

-- src/lib.rt:413:1
pub returns : goal.returns
unfolding document_words bytes
returns c =
    nothing _ ∙ ap (write _) (at_none _ _ c.if-kind-eq-AIC.false c.if-kind-eq-CORE.false c.if-kind-eq-CIC.false c.if-kind-eq-AINTC.false c.if-kind-eq-INDEXED.false)
