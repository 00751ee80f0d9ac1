use Rattle.std.proofs.Common.{◌∙◌, ap, sym, subst, Option}
use Rattle.std.specs.Prelude.{IfSome, is_some}
use Rattle.std.proofs.lemmas.Result.{IfOk-weaker}
use Rattle.qm_sections.specs.declared.surface_parts.SurfaceParts.{SurfaceParts}
use Rattle.qm_sections.specs.PartsOfMap.{AreSurfaceParts}
use Rattle.qm_compiler.specs.Answers.{IsCompiled}
use Rattle.qm_compiler.specs.inner.Finished.{IsCounted}
use Rattle.qm_compiler.specs.inner.Prepared.{IsPrepared}
use Rattle.qm_compiler.proofs.KeptParts.{some_parts, parts_are}
use Rattle.qm_compiler.proofs.compiling.compile.Goals as goal

pub build_map-requires-clause-valid : goal.build_map-requires-clause-valid
build_map-requires-clause-valid g c κs within = c.requires.valid

pub touches-requires : goal.touches-requires
touches-requires g c = record { points = c.in_ok-built.ensures.built.have_points }

pub prepare-requires-clause-valid : goal.prepare-requires-clause-valid
prepare-requires-clause-valid g c = c.requires.valid

pub prepare-requires-clause-built : goal.prepare-requires-clause-built
prepare-requires-clause-built g c = c.in_ok-built.ensures.built

pub prepare-requires-clause-contacts : goal.prepare-requires-clause-contacts
prepare-requires-clause-contacts g c = c.in_ok-contacts.ensures

pub sections-made-requires-clause-valid : goal.sections-made-requires-clause-valid
sections-made-requires-clause-valid g c κs within = c.requires.valid

pub sections-made-requires-clause-surface : goal.sections-made-requires-clause-surface
unfolding IsPrepared
sections-made-requires-clause-surface g c κs within = let prepared = rw c.in-Marked.is at c.in_ok-prepared.ensures in prepared.has_surface

pub sections-made-requires-clause-parts : goal.sections-made-requires-clause-parts
unfolding IsPrepared
sections-made-requires-clause-parts g c κs within =
    let prepared = rw c.in-Marked.is at c.in_ok-prepared.ensures in
    subst (λ (parts : Option SurfaceParts). IfSome parts (AreSurfaceParts c.args.map.now c.in-Marked.world.tree)) (sym c.surface_parts-parts.ensures)
    (parts_are c.args.map.now c.in-Marked.world.tree c.in_ok-contacts.contacts prepared.has_contacts c.in_ok-built.kept c.in_ok-built.ensures.kept)

pub sections-made-requires-clause-parts_asked : goal.sections-made-requires-clause-parts_asked
sections-made-requires-clause-parts_asked g c κs within =
    ap (λ (parts : Option SurfaceParts). is_some parts) c.surface_parts-parts.ensures ∙ some_parts c.in_ok-contacts.contacts c.in_ok-built.kept ∙ c.in_ok-built.ensures.as_asked

pub make_asked-asked-requires-clause-some : goal.make_asked-asked-requires-clause-some
make_asked-asked-requires-clause-some g c κs within = c.requires.some

pub make_asked-asked-requires-clause-not_too_many : goal.make_asked-asked-requires-clause-not_too_many
make_asked-asked-requires-clause-not_too_many g c κs within = c.requires.not_too_many

pub returns-in-Leak : goal.returns-in-Leak
unfolding IsPrepared IsCompiled
returns-in-Leak g c = rw c.in-Leak.is at c.in_ok-prepared.ensures

pub returns-in-Marked : goal.returns-in-Marked
unfolding IsPrepared
returns-in-Marked g c =
    let prepared = rw c.in-Marked.is at c.in_ok-prepared.ensures in
    let marked = c.in-Marked in
    IfOk-weaker c.with_asked.result (IsCounted marked.sealed marked.built.brushes marked.built.flat marked.built.tree marked.world c.make_asked-asked.result) (IsCompiled c.args.map.now c.args.options.now)
    (λ compiled made.
    let rows = rw made.made_is at c.make_asked-asked.ensures.rows in
    let same = rw made.made_is at c.make_asked-asked.ensures.sections in
    let sections = rw same at c.sections-made.ensures.asked in
    let can_stand = rw same at c.sections-made.ensures.can_stand in
    prepared.becomes c.args.options.now compiled (record {
      asked = made.asked;
      are_as_asked = record { are_rows = rows; are_sections = sections; can_stand = can_stand };
      summary = made.summary;
      is_done = made.is_done;
      is_count = made.is_count;
    })) c.with_asked.ensures
