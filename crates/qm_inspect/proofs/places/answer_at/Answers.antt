use Rattle.qm_answers.proofs.Places.{place_answer}
use Rattle.qm_inspect.proofs.places.answer_at.Goals as goal

pub returns : goal.returns
returns c =
    place_answer c.args.tree.now c.args.point.now c.leaf_at-leaf.result c.leaf-found.result c.number_of_leaf.result c.leaf_at-leaf.ensures.value c.leaf-found.ensures c.number_of_leaf.ensures
