use Rattle.qm_shelf.specs.SeenForms.{shelf_state}
use Rattle.qm_make.proofs.ReadMaps.{finished_means, finished_reading}
use Rattle.qm_make.proofs.reading.read_map.Goals as goal

pub returns-clause-means : goal.returns-clause-means
returns-clause-means g c =
    finished_means (shelf_state g.H.Shelf c.args.shelf.now) c.args.name.now c.feed_text-fed.new.reader c.feed_text-fed.result c.feed_text-fed.ensures.enough c.finish.result c.finish.ensures

pub returns-clause-reading : goal.returns-clause-reading
returns-clause-reading g c =
    finished_reading (shelf_state g.H.Shelf c.args.shelf.now) (shelf_state g.H.Shelf c.feed_text-fed.new.shelf) c.args.name.now
    c.feed_text-fed.new.reader c.feed_text-fed.result c.feed_text-fed.ensures.enough c.feed_text-fed.ensures.reading c.finish.result c.finish.ensures
