use Rattle.std.proofs.lemmas.List.Folds.{flat_map-map}
use Rattle.qm_grammar.specs.Lines.{spaced}
use Rattle.qm_grammar.specs.Printed.{word_symbol}
use Rattle.qm_mapout.proofs.face.put_words.Goals as goal

pub returns : goal.returns
returns c = rw (flat_map-map spaced word_symbol c.args.words.now) c.append_all.ensures.ok
