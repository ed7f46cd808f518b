-- What each figure of the page counts, with the name of the theorem that says so.
use Rattle.std.specs.Prelude.{ℕ, List, ◌++◌}
use Rattle.text.specs.Phrases.{bytes}

unfoldable pub meaning_first : List ℕ
meaning_first =
    bytes "<section id=\"meaning\">\n<h2>What each figure counts</h2>\n<dl>\n"
    ++ bytes "<dt>stack</dt><dd>bytes of handler and mark frames open at once. Proved of every trace counted, from reset on: neverMoreKept of stack.</dd>\n"
    ++ bytes "<dt>table kept</dt><dd>every source that is enabled has the table's priority, type and forcing, at the start and after every step; "
    ++ bytes "a trace that breaks this is left out by 18: keepsIs of stack.</dd>\n"
    ++ bytes "<dt>started</dt><dd>handlers of the source that were started, added up over the traces: startedOf of aic_waits.</dd>\n"
    ++ bytes "<dt>most seen</dt><dd>handlers of other sources started during one wait of the source, the most of any wait: waitedOf of aic_waits.</dd>\n"

unfoldable pub meaning_last : List ℕ
meaning_last =
    bytes "<dt>at most</dt><dd>handlers of other sources that can be started during one wait, the largest bound of the waits that have one: "
    ++ bytes "the sum of pending, edges, commands, turns, closed while active and remembered. No such wait saw more: everyMoment of aic_bounds.</dd>\n"
    ++ bytes "<dt>waits without a bound</dt><dd>waits during which a mode or a forcing was written; at most speaks of the others.</dd>\n"
    ++ bytes "<dt>closed while active</dt><dd>handlers of level-sensitive sources that ended while their lines were active: "
    ++ bytes "where it is not 0, a handler ends before its device is quiet.</dd>\n"
    ++ bytes "<dt>entries open</dt><dd>handlers and marks open at once while a handler of the source was among them, the most of any moment: entriesOf of aic_waits.</dd>\n"
    ++ bytes "<dt>marks, idle ends, entries left open, steps refused</dt><dd>no errors, and each is often the only sign of one.</dd>\n"
    ++ bytes "</dl>\n</section>\n</body>\n</html>\n"

unfoldable pub meaning : List ℕ
meaning = meaning_first ++ meaning_last
