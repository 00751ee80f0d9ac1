use Rattle.std.proofs.Common.{rules, ◌≡◌, ℕ, ◌+◌, ◌-◌, ◌/◌, ◌<◌, [], ◌∷◌, ◌++◌, Vec, Global, sym, ap, subst, arith}
use Rattle.std.specs.Prelude.{IfOk}
use Rattle.std.proofs.lemmas.Result.{IfOk-at_ok, IfOk-weaker}
use Rattle.qm_shared_rows.specs.Findings.{Findings, found_by_both}
use Rattle.qm_board.specs.PassOf.{findings_of, IsPassOf}
use Rattle.qm_board.specs.declared.pass.Pass.{Pass}
use Rattle.qm_crew.specs.declared.team.Team.{Team}
use Rattle.qm_crew.specs.inner.PassOver.{IsPassOver}
use Rattle.qm_crew.specs.inner.TurnsTaken.{LieAlong, AreWorkLists}
use Rattle.qm_crew.proofs.TakenTurns.{along_narrower, split_narrower}
use Rattle.qm_crew.proofs.WorkLists.{lists_of_one, lists_united, ok_of_both}
use Rattle.qm_crew.proofs.team.+halves.Goals as goal

pub work_all-returns-then-count-eq1 : goal.work_all-returns-then-count-eq1
work_all-returns-then-count-eq1 g t c =
    let world = c.args.shared.now.world.now in
    let team = c.team_of.result in
    record {
      pass = subst (IsPassOver world c.args.shared.now.board.now) (sym c.team_of.ensures.pass) c.work.ensures.pass;
      lists =
          subst (λ (p : Pass). AreWorkLists world (findings_of p) c.args.workers.count (team.first.items ∷ team.others.items)) (sym c.team_of.ensures.pass)
          (lists_of_one world (findings_of c.work.result.pass) c.args.workers.count c.work.result.list.items team.first.items team.others.items c.work.ensures.work c.if-count-eq1.true
          (ap (λ (v : Vec ℕ Global). v.items) c.team_of.ensures.first) c.team_of.ensures.others);
    }

pub work_all-both_halves-requires : goal.work_all-both_halves-requires
work_all-both_halves-requires g t c κs within =
    let world = c.args.shared.now.world.now in
    let same_world = c.requires.ready.pass.same_world in
    let pass = c.args.workers.pass in
    let some : 0 < c.args.workers.count = c.requires.ready.some in
    let several = c.if-count-eq1.false in
    let split = c.split-pass.ensures in
    let first = subst (λ (f : Findings). LieAlong world f []) (sym split.first_found) c.requires.ready.along in
    let second = along_narrower world [] (findings_of pass) (findings_of c.split-pass.result.1) c.requires.ready.along (split_narrower world (findings_of pass) (findings_of c.split-pass.result.1) split.second_found) in (
      search rules,
      (
        within.0,
        (
          within.1,
          (
            search rules,
            (
              search rules,
              (
                record { some = omega (arith, some, several); pass = record { same_world = same_world; ours = split.first }; along = first },
                record { some = omega (arith, some, several); pass = record { same_world = same_world; ours = split.second }; along = second },
              ),
            ),
          ),
        ),
      ),
    )

pub work_all-returns : goal.work_all-returns
work_all-returns g t c =
    let low = c.args.workers.count / 2 in
    let whole : low + (c.args.workers.count - low) ≡ c.args.workers.count = omega arith in
    record {
      pass = c.both_halves.ensures.pass;
      lists = subst (λ (n : ℕ). IfOk c.both_halves.result (λ (team : Team). AreWorkLists c.args.shared.now.world.now (findings_of team.pass) n (team.first.items ∷ team.others.items))) whole c.both_halves.ensures.lists;
    }

pub both_halves-returns : goal.both_halves-returns
both_halves-returns g t c =
    let world = c.args.shared.now.world.now in
    let one = c.in_ok-first.field-0 in
    let two = c.in_ok-second.field-0 in
    let Lists = λ (n : ℕ) (team : Team). AreWorkLists world (findings_of team.pass) n (team.first.items ∷ team.others.items) in
    let first = IfOk-at_ok (Lists c.args.one.count) c.in_ok-first.was c.join-first.ensures.first.1 in
    let second = IfOk-at_ok (Lists c.args.two.count) c.in_ok-second.was c.join-first.ensures.second.1 in
    record {
      pass =
          IfOk-weaker c.unite.result (λ (team : Team). IsPassOf c.args.shared.now.board.now team.pass) (λ (team : Team). IsPassOver world c.args.shared.now.board.now team.pass)
          (λ team ours. record { same_world = c.requires.one.pass.same_world; ours = ours }) c.unite.ensures.pass;
      lists =
          ok_of_both (λ (team : Team). findings_of team.pass ≡ found_by_both (findings_of one.pass) (findings_of two.pass))
          (λ (team : Team). (team.first.items ∷ team.others.items) ≡ ((one.first.items ∷ one.others.items) ++ (two.first.items ∷ two.others.items)))
          (Lists (c.args.one.count + c.args.two.count)) c.unite.result
          (λ team found all.
          lists_united world (findings_of one.pass) (findings_of two.pass) (findings_of team.pass) c.args.one.count c.args.two.count (one.first.items ∷ one.others.items) (two.first.items ∷ two.others.items)
          (team.first.items ∷ team.others.items) first second found all)
          c.unite.ensures.found c.unite.ensures.lists;
    }
