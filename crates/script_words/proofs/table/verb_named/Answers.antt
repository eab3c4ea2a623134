use Rattle.std.proofs.Common.{sym, arith}
use Rattle.script_words.proofs.ShortWords.{short_is_no_verb}
use Rattle.script_words.proofs.table.verb_named.Goals as goal

pub returns-then-word-lt-SHORTEST_VERB : goal.returns-then-word-lt-SHORTEST_VERB
returns-then-word-lt-SHORTEST_VERB c = sym (short_is_no_verb c.args.word.now (omega (arith, c.if-word-lt-SHORTEST_VERB.true)))
