use Rattle.std.proofs.Common.{◌-◌, ◌∷◌, ℕ, Bor, List, [], ap, get_or, take, drop, length}
use Rattle.qm_words.specs.SeenWords.{bytes_of_words}
use Rattle.qm_words.proofs.WordsAnswers.{first_and_rest, only_answered, order_answered, usage_answered}
use Rattle.qm_words.proofs.words.read.Goals as goal

abbrev nothing : Bor (List ℕ)
nothing = record { ref_ptr = (0, 0); now = [] }

-- the words, and the first of them with those behind it
abbrev front_of : List (Bor (List ℕ)) → List (List ℕ)
front_of words = (get_or words 0 nothing).now ∷ bytes_of_words (take (length words - 1) (drop 1 words))

pub returns-in-len1-up-clause-order : goal.returns-in-len1-up-clause-order
returns-in-len1-up-clause-order c =
    let words = c.args.words.now in
    order_answered (bytes_of_words words) (front_of words) (ap bytes_of_words (first_and_rest words nothing c.in-len1-up.len_at_least)) c.order_behind.result c.order_behind.ensures

pub returns-in-len1-up-clause-only : goal.returns-in-len1-up-clause-only
returns-in-len1-up-clause-only c =
    let words = c.args.words.now in
    only_answered (bytes_of_words words) (front_of words) (ap bytes_of_words (first_and_rest words nothing c.in-len1-up.len_at_least)) c.order_behind.result c.order_behind.ensures

pub returns-in-len1-up-clause-usage : goal.returns-in-len1-up-clause-usage
returns-in-len1-up-clause-usage c =
    let words = c.args.words.now in
    usage_answered (bytes_of_words words) (front_of words) (ap bytes_of_words (first_and_rest words nothing c.in-len1-up.len_at_least)) c.order_behind.result c.order_behind.ensures
