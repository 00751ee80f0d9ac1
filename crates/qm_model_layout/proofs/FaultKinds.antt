-- What is read of a model as it is kept has no fault but that the bytes end too early.
use Rattle.std.proofs.Common.{length}
use Rattle.std.specs.Int.{w32, w64}
use Rattle.qm_formats.specs.Fields.{unsigned}
use Rattle.qm_formats.specs.FileParts.{short}
use Rattle.qm_formats.proofs.ShortFaults.{IsShortAlone, raw_alone, unsigned_alone, signed_alone, part_alone, last_part_alone, each_alone}
use Rattle.qm_model_layout.specs.ModelLayout.{box_layout, model_leaves_layout, counted_bytes_layout, kept_layout}

box_alone : IsShortAlone box_layout
unfolding box_layout
box_alone =
    part_alone (λ box. box.x.low) _ _ (signed_alone w32) (λ _.
    part_alone (λ box. box.y.low) _ _ (signed_alone w32) (λ _.
    part_alone (λ box. box.z.low) _ _ (signed_alone w32) (λ _.
    part_alone (λ box. box.x.high) _ _ (signed_alone w32) (λ _.
    part_alone (λ box. box.y.high) _ _ (signed_alone w32) (λ _.
    last_part_alone (λ box. box.z.high) _ _ (signed_alone w32))))))

leaves_alone : IsShortAlone model_leaves_layout
unfolding model_leaves_layout
leaves_alone = part_alone (λ leaves. length leaves) _ _ (unsigned_alone w64) (λ count. last_part_alone (λ leaves. leaves) _ _ (each_alone (λ _. unsigned short w64) (λ _. unsigned_alone w64) 0 count))

bytes_alone : IsShortAlone counted_bytes_layout
unfolding counted_bytes_layout
bytes_alone = part_alone (λ bytes. length bytes) _ _ (unsigned_alone w64) (λ count. last_part_alone (λ bytes. bytes) _ _ (raw_alone count))

pub kept_alone : IsShortAlone kept_layout
unfolding kept_layout
kept_alone =
    part_alone (λ kept. kept.entity) _ _ (unsigned_alone w64) (λ _.
    part_alone (λ kept. kept.box) _ _ box_alone (λ _.
    part_alone (λ kept. kept.leaves) _ _ leaves_alone (λ _.
    last_part_alone (λ kept. kept.bytes) _ _ bytes_alone)))

pub count_alone : IsShortAlone (unsigned short w32)
count_alone = unsigned_alone w32
