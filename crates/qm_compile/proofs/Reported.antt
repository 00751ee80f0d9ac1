use Rattle.std.proofs.Common.{◌≡◌, ◌⊎◌, ℕ, List, ap, sym, ◌∙◌, inl, inr}
use Rattle.std.proofs.lemmas.List.{append-nil}
use Rattle.qm_surroundings.specs.SinkState.{SinkState}
use Rattle.qm_surroundings.specs.Surroundings.{Surroundings}
use Rattle.qm_statement.specs.declared.status.Status.{Status}
use Rattle.qm_statement.specs.declared.status.Status.TheVariants as status
use Rattle.qm_statement.specs.Run.{Answers, Due, EndsPrinted, IsCommandStopped}
use Rattle.qm_statement.specs.Untouched.{IsUntouched}
use Rattle.qm_make.specs.declared.outcome.Outcome.{Outcome}
use Rattle.qm_make.specs.declared.outcome.Outcome.TheVariants as outcomes
use Rattle.qm_make.specs.StatusAndText.{due_status}
use Rattle.qm_compile.specs.declared.report.Report.{Report}
use Rattle.qm_compile.specs.declared.report.Report.TheVariants.{Usage, OfFiles, ReadFault, TreeFault, QueryRefused, Answered, SummedUp}
use Rattle.qm_compile.specs.inner.Printed.{EndsWith, whole, failed, no_room}
use Rattle.qm_compile.specs.inner.Reported.{reported_status, reported_text}

-- The ways in which a run ends.

module _ (words : List (List ℕ)) (before after : Surroundings) where
  map_answers_due : (outcome : Outcome) → EndsPrinted words before after (due_status outcome) → Answers words before after (due_status outcome)
  unfolding Answers
  map_answers_due (outcomes.Done summary) reports = reports
  map_answers_due (outcomes.Leak text) reports = reports
  map_answers_due outcomes.ReadFault reports = reports
  map_answers_due (outcomes.MapFault text) reports = reports
  map_answers_due outcomes.WriteFault reports = inl reports

  answers_due : (report : Report) → EndsPrinted words before after (reported_status report) → Answers words before after (reported_status report)
  unfolding Answers
  answers_due Usage reports = reports
  answers_due (OfFiles outcome) reports = map_answers_due outcome reports
  answers_due ReadFault reports = reports
  answers_due (TreeFault text) reports = reports
  answers_due (QueryRefused text) reports = reports
  answers_due (Answered lines) reports = reports
  answers_due (SummedUp text) reports = reports

  -- a report that was due was printed, to its end or not
  pub answers_printed : (report : Report) → Due words before.shelf after.shelf (reported_status report) (reported_text report) → (answer : Status) → EndsWith before.sink after.sink report answer → Answers words before after answer
  unfolding Answers
  answers_printed report due answer (whole printed) = answers_due report (reported_text report, due, printed)
  answers_printed report due answer (failed fails part) = inr (fails, (reported_status report, reported_text report, due, part))
  answers_printed report due answer (no_room unmet part) = inr (unmet, (reported_status report, reported_text report, due, part))

  -- memory ran out before, and nothing was printed
  pub answers_run_out : IsUntouched before.shelf after.shelf ⊎ IsCommandStopped words before.shelf after.shelf → after.sink ≡ before.sink → Answers words before after status.Memory
  unfolding Answers
  answers_run_out stopped same = inl (stopped, record { printed = λ tells. ap (λ (sink : SinkState). sink.printed) same ∙ sym (append-nil before.sink.printed); faults = ap (λ (sink : SinkState). sink.faults) same })
