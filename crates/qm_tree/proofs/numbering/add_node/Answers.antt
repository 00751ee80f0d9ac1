use Rattle.std.proofs.Common.{List, ◌∷◌, [], ◌++◌, ap, ◌∙◌}
use Rattle.std.specs.Option.{option_to_list}
use Rattle.qm_partition.specs.declared.node.Child.{Child}
use Rattle.qm_tree.proofs.numbering.add_node.Goals as goal

pub returns : goal.returns
returns c =
    let rest = c.pop-2.new.self.items in
    record {
      others = rest;
      front = c.unwrap-front.result;
      back = c.unwrap-back.result;
      taken =
          c.pop.ensures.items
          ∙ ap (λ (top : _). c.pop.new.self.items ++ option_to_list top) c.unwrap-front.ensures
          ∙ ap (λ (below : List Child). below ++ c.unwrap-front.result ∷ []) (c.pop-2.ensures.items ∙ ap (λ (top : _). rest ++ option_to_list top) c.unwrap-back.ensures);
      waits = c.in_ok-push-2.ensures.items;
      gained = c.in_ok-push.ensures.items;
    }
