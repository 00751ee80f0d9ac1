use Rattle.qm_models.proofs.outline.add_body.Goals as goal

pub returns : goal.returns
returns c = λ cell body. record {
  some = body.has_point;
  joined = c.widened-outline.ensures cell body;
  own = c.in_ok-reached.reached.items;
  reached = c.in_ok-reached.ensures cell body;
  added = c.in_ok-append.ensures.items;
}
