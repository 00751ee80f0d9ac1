use Rattle.std.proofs.lemmas.Result.{IfOk-weaker}
use Rattle.qm_compiler.proofs.Flooded.{fits_tree}
use Rattle.qm_compiler.proofs.preparing.prepare.Goals as goal

pub flood_map-found-requires : goal.flood_map-found-requires
flood_map-found-requires c = record { valid = c.requires.valid; contacts = c.requires.contacts }

pub prepare_found-requires : goal.prepare_found-requires
prepare_found-requires c = record {
  contacts = c.requires.contacts;
  fits = IfOk-weaker c.flood_map-found.result _ _ (λ found is. fits_tree c.args.map.now c.args.built.tree found is) c.flood_map-found.ensures;
}

pub returns : goal.returns
returns c =
    IfOk-weaker c.prepare_found.result _ _ (λ prepared of_each. of_each c.args.map.now c.requires.built c.flood_map-found.ensures) c.prepare_found.ensures
