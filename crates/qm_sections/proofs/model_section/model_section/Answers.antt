use Rattle.std.proofs.Common.{ap, ◌∙◌}
use Rattle.qm_model_layout.specs.ModelLayout.{models_bytes}
use Rattle.qm_model_sections.proofs.ValidModelsOfMap.{bytes_of_models}
use Rattle.qm_sections.proofs.model_section.model_section.Goals as goal

pub returns : goal.returns
returns c =
    let made = c.section_of_bytes.ensures in
    let map = c.args.map.now in
    let world = c.args.world.now.tree in
    let models = c.in_ok-models.models.items in
    let bytes = c.in_ok-bytes.bytes.items in
    let exactly = c.in_ok-bytes.ensures.exact ∙ ap models_bytes c.deref.ensures.value in
    let own_bytes = bytes_of_models map world c.counts_fit.ensures.entities c.counts_fit.ensures.leaves models bytes c.in_ok-models.ensures exactly in
    record {
      are_models = record { kind_is = made.kind; models = models; are_models = c.in_ok-models.ensures; bytes_are = rw made.bytes own_bytes };
      length_fits = rw made.bytes made.length_fits;
      are_bytes = rw made.bytes made.are_bytes;
    }
