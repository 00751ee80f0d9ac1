use Rattle.std.specs.Prelude.{◌≡◌, Bool}
use Rattle.qm_space.specs.Turned.{turned}
use Rattle.qm_wind.specs.declared.pane.Pane.{Pane}

-- the plane into which one goes is the winding's plane, turned to one of its sides
pub record IsPane (pane : Pane) : Type 0 where
  pub side : Bool
  pub into : pane.into ≡ turned side pane.winding.plane
