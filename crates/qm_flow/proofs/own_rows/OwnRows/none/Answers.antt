use Rattle.std.proofs.Common.{◌≡◌, None, ℕ, List, length, replicate, ap, ◌∙◌, arith}
use Rattle.std.proofs.lemmas.List.{replicate-append-replicate, length-replicate}
use Rattle.std.proofs.lemmas.List.Elements.{All-replicate, All-same}
use Rattle.qm_flow.specs.declared.own_rows.Place.{Place}
use Rattle.qm_flow.specs.declared.own_rows.Place.TheVariants.{NotYet}
use Rattle.qm_flow.specs.inner.OwnRow.{own_rows, IsAmong}
use Rattle.qm_flow.proofs.LastElements.{pushed_to}
use Rattle.qm_flow.proofs.OwnPlaces.{none_yet}
use Rattle.qm_flow.proofs.own_rows.OwnRows.none.Goals as goal

pub loop-portal-preserved : goal.loop-portal-preserved
loop-portal-preserved c =
    let none : Place = NotYet in
    pushed_to (replicate c.loop-portal._portal none) c.loop-portal.places.items c.push.new.self.items none c.in_ok-push.ensures.items c.loop-portal.invariant
    ∙ replicate-append-replicate c.loop-portal._portal 1 none

pub invariant_of-result : goal.invariant_of-result
invariant_of-result c =
    let count = c.loop-portal._portal in
    let none : Place = NotYet in
    let long = ap length c.loop-portal.invariant ∙ length-replicate count none in
    let past = c.loop-portal-test.false in
    let within = c.loop-portal.auto._portal-end in
    let passed = c.in_ok-passed.ensures.len in
    let items = c.in_ok-passed.passed.ok.0 in (
      All-same (IsAmong c.new.result.items) c.loop-portal.places.items (replicate count none) c.loop-portal.invariant (All-replicate (IsAmong c.new.result.items) count none tt),
      omega (arith, long, past, within, passed, items),
    )

pub returns : goal.returns
returns c =
    let past = c.loop-portal-test.false in
    let within = c.loop-portal.auto._portal-end in
    let all : c.loop-portal._portal ≡ c.args.portals = omega (arith, past, within) in
    ap (λ (places : List Place). own_rows c.new.result.items places) c.loop-portal.invariant
    ∙ none_yet c.new.result.items c.loop-portal._portal
    ∙ ap (λ (n : ℕ). replicate n None) all
