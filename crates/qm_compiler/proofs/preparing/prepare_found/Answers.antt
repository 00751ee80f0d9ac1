use Rattle.std.proofs.Common.{◌≡◌, Bool, false, List, length, sym, ap, ◌∙◌, subst}
use Rattle.std.specs.Prelude.{None}
use Rattle.std.proofs.lemmas.List.{length-replicate}
use Rattle.std.proofs.lemmas.Result.{IfOk-weaker}
use Rattle.qm_formats.specs.TreeFile.{Section, TreeFile}
use Rattle.qm_compiler.specs.declared.preparing.Prepared.{Prepared}
use Rattle.qm_compiler.specs.declared.preparing.Prepared.TheVariants.{Leak}
use Rattle.qm_compiler.specs.inner.NewFile.{new_file}
use Rattle.qm_compiler.specs.inner.Prepared.{IsPrepared}
use Rattle.qm_compiler.proofs.CompiledMap.{leaking_map, sealed_map, empty_map}
use Rattle.qm_compiler.proofs.preparing.prepare_found.Goals as goal

pub mark-requires : goal.mark-requires
mark-requires c =
    let fits = rw c.in_ok-filled.was at c.requires.fits in
    record { contacts = c.requires.contacts; one_each = rw c.in-Sealed.is at fits }

pub mark-requires-in-NoEntity : goal.mark-requires-in-NoEntity
mark-requires-in-NoEntity c = record {
  contacts = c.requires.contacts;
  one_each =
      IfOk-weaker c.with_len-unfilled.result _ _
      (λ (row : List Bool) is. ap length is ∙ length-replicate c.leaves.result false ∙ c.leaves.ensures) c.with_len-unfilled.ensures;
}

pub returns-in-Sealed : goal.returns-in-Sealed
returns-in-Sealed c =
    let built = c.args.built in
    IfOk-weaker c.mark.result _ _
    (λ prepared is map counted of_found.
    let of_flood = rw c.in_ok-filled.was at of_found in
    let of_map = rw c.in-Sealed.is at of_flood in
    let same : is.row ≡ c.in-Sealed.filled = cc (is.found_is) in
    let marked = rw same at is.is_marked in
    subst (λ (p : Prepared). IsPrepared map c.args.contacts.now p) (sym marked)
    (sealed_map map built.tree built.brushes built.flat counted of_map.origins of_map.are_origins c.in-Sealed.filled c.args.contacts.now of_map.is_flood.0 of_map.is_flood.1 c.requires.contacts)) c.mark.ensures

pub returns-in-NoEntity : goal.returns-in-NoEntity
returns-in-NoEntity c =
    let built = c.args.built in
    IfOk-weaker c.mark-in-NoEntity.result _ _
    (λ prepared is map counted of_found.
    let of_flood = rw c.in_ok-filled.was at of_found in
    let of_map = rw c.in-NoEntity.is at of_flood in
    let row_is = rw is.found_is at c.with_len-unfilled.ensures in
    let unfilled = rw c.leaves.ensures at row_is in
    let marked = rw unfilled at is.is_marked in
    subst (λ (p : Prepared). IsPrepared map c.args.contacts.now p) (sym marked)
    (empty_map map built.tree built.brushes built.flat counted of_map.origins of_map.are_origins c.args.contacts.now of_map.is_flood c.requires.contacts)) c.mark-in-NoEntity.ensures

pub returns-in-Leak : goal.returns-in-Leak
returns-in-Leak c = λ map counted of_found.
    let built = c.args.built in
    let of_flood = rw c.in_ok-filled.was at of_found in
    let of_map = rw c.in-Leak.is at of_flood in
    let file_is = c.new_file.ensures ∙ ap (λ (sections : List Section). new_file built.tree None sections) c.no_sections.ensures in
    subst (λ (file : TreeFile). IsPrepared map c.args.contacts.now (Leak file c.in-Leak.entity c.in-Leak.trail)) (sym file_is)
    (leaking_map map built.tree built.brushes built.flat counted of_map.origins of_map.are_origins c.args.contacts.now c.in-Leak.entity c.in-Leak.trail of_map.is_flood)
