use Rattle.std.proofs.Common.{◌∙◌}
use Rattle.qm_sections.proofs.hull_sections.section_of_file.Goals as goal

pub returns : goal.returns
returns c = λ map hull.
    let made = c.section_of_bytes.ensures in
    record {
      is_hull = record {
        kind_is = made.kind;
        file = c.args.file.now;
        is_hull = hull;
        bytes_are = record { valid = hull.is_valid; exactly = made.bytes ∙ c.in_ok-bytes.ensures };
      };
      length_fits = rw made.bytes made.length_fits;
      are_bytes = rw made.bytes made.are_bytes;
    }
