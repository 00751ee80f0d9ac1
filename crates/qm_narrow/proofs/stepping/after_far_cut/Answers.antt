use Rattle.qm_narrow.proofs.Steps.{blocked_where_gone, part_lies, stepped_whole, stepped_part}
use Rattle.qm_narrow.proofs.stepping.after_far_cut.Goals as goal

pub returns-in-Gone : goal.returns-in-Gone
returns-in-Gone c = blocked_where_gone c.args.state.now c.args.next.now.winding c.args.far c.args.next.now.into c.requires c.source.result.now c.source.ensures.value c.in_ok-clip.field-0 c.in_ok-clip.ensures.clip c.in-Gone.is

pub returns-in-Whole : goal.returns-in-Whole
returns-in-Whole c =
    stepped_whole c.args.state.now c.args.next.now.winding c.args.far c.args.next.now.into c.requires c.source.result.now c.source.ensures.value c.in_ok-clip.field-0 c.in_ok-clip.ensures.clip
    c.narrowed_whole.result c.in-Whole.is c.source.ensures.valid.source_convex c.narrowed_whole.ensures

pub narrowed_part-requires : goal.narrowed_part-requires
narrowed_part-requires c =
    part_lies c.args.state.now c.args.next.now.winding c.args.far c.args.next.now.into c.requires c.source.result.now c.source.ensures.value c.in_ok-clip.field-0 c.in_ok-clip.ensures.clip
    c.in-Cut.near c.in-Cut.is c.source.ensures.valid.source_lies

pub returns-in-Cut : goal.returns-in-Cut
returns-in-Cut c =
    stepped_part c.args.state.now c.args.next.now.winding c.args.far c.args.next.now.into c.requires c.source.result.now c.source.ensures.value c.in_ok-clip.field-0 c.in_ok-clip.ensures.clip
    c.narrowed_part.result c.in-Cut.near c.in-Cut.is c.narrowed_part.ensures
