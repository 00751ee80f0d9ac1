use Rattle.std.proofs.Common.{◌+◌, ℕ, Bor, List, [], sym, subst, take}
use Rattle.qm_commands.specs.QueryWord.{AreQueryWords, no_more}
use Rattle.qm_commands.specs.declared.query.Query.{Query}
use Rattle.qm_words.specs.SeenWords.{bytes_of_words}
use Rattle.qm_words.proofs.QueryAnswers.{more_queries, no_queries}
use Rattle.qm_words.proofs.queries.queries_of.Goals as goal

abbrev nothing : Bor (List ℕ)
nothing = record { ref_ptr = (0, 0); now = [] }

pub loop-word-init : goal.loop-word-init
loop-word-init c = subst (λ (queries : List Query). AreQueryWords [] queries) (sym c.new-queries.ensures.items) no_more

pub returns-in-None-clause-err : goal.returns-in-None-clause-err
returns-in-None-clause-err c = no_queries c.args.words.now c.loop-word.word-index nothing c.loop-word-test.true c.in-None.ensures.none

pub loop-word-preserved : goal.loop-word-preserved
loop-word-preserved c =
    let words = c.args.words.now in
    let i = c.loop-word.word-index in
    let more = more_queries words i nothing c.loop-word.queries.items c.in-Some.query c.loop-word-test.true c.loop-word.invariant c.in-Some.ensures.some in
    subst (λ (queries : List Query). AreQueryWords (bytes_of_words (take (i + 1) words)) queries) (sym c.in_ok-push-in-Some.ensures.items) more
