use Rattle.std.proofs.Common.{◌∙◌, ap, length, sym, false}
use Rattle.std.proofs.lemmas.List.{length-replicate}
use Rattle.qm_sight.specs.InCeiling.{IsInCeiling}
use Rattle.qm_lines.proofs.Traces.{gains_none}
use Rattle.qm_lines.proofs.Drawing.{drawn_on}
use Rattle.qm_lines.proofs.showing.show_by_lines.Goals as goal

pub pane-requires : goal.pane-requires
pane-requires g c = c.requires.portal

pub returns-in_err-anchors : goal.returns-in_err-anchors
returns-in_err-anchors g c = record {
  shown = gains_none c.args.world.now.portals (IsInCeiling (g.S.RowSource.ceilings c.args.source.now)) c.args.portal c.args.row.now;
  on = g.met.S.RowSource.goes_on_itself c.args.source.now;
}

pub returns-in_err-gone : goal.returns-in_err-gone
returns-in_err-gone g c = record {
  shown = gains_none c.args.world.now.portals (IsInCeiling (g.S.RowSource.ceilings c.args.source.now)) c.args.portal c.args.row.now;
  on = g.met.S.RowSource.goes_on_itself c.args.source.now;
}

pub returns-in_err-kept : goal.returns-in_err-kept
returns-in_err-kept g c = record {
  shown = gains_none c.args.world.now.portals (IsInCeiling (g.S.RowSource.ceilings c.args.source.now)) c.args.portal c.args.row.now;
  on = g.met.S.RowSource.goes_on_itself c.args.source.now;
}

pub show_kept-requires : goal.show_kept-requires
show_kept-requires g c = record {
  may_draw = record {
    portal = c.requires.portal;
    own_portals = c.own_portals.ensures;
    same_world = c.requires.same_world;
    wide = c.requires.row;
  };
}

pub returns-in_err-show_kept : goal.returns-in_err-show_kept
returns-in_err-show_kept g c = record { shown = c.show_kept.ensures.shown; on = c.show_kept.ensures.on }

pub flood-requires : goal.flood-requires
flood-requires g c = record {
  may_draw = record {
    portal = c.requires.portal;
    own_portals = c.own_portals.ensures;
    same_world = g.met.S.RowSource.same_world _ _ c.show_kept.ensures.on ∙ c.requires.same_world;
    wide = c.show_kept.ensures.shown.same_length ∙ c.requires.row;
  };
  gone = ap length c.in_ok-gone.ensures ∙ length-replicate c.leaves.result false ∙ c.leaves.ensures ∙ sym c.requires.row ∙ sym c.show_kept.ensures.shown.same_length;
}

pub returns : goal.returns
returns g c =
    let all = drawn_on (g.met.S.RowSource.narrower _ _) (g.met.S.RowSource.goes_on_in_turn _ _ _) c.show_kept.ensures c.flood.ensures in
    record { shown = all.shown; on = all.on }
