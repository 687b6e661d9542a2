use Rattle.oca_device.proofs.Words.{ap, ◌∙◌, map, Table, state_after, groups_of, summary_of, answers_by_events, packets_of}
use Rattle.oca_device.proofs.GroupLaws.{are_groups}
use Rattle.oca_device.proofs.Fitting.{answers_fit}
use Rattle.oca_device.proofs.Standing.{stands, answers_same, written_same, verdict_same, happened, happened_once}
use Rattle.oca_device.proofs.Summaries.{summaries_are}
use Rattle.oca_device.proofs.law.law_by_events.Goals as goal

pub returns-clause-law : goal.returns-clause-law
returns-clause-law c = λ w tree E H d happens represents.
    let exact = c.law_reading.ensures in
    let h = stands exact w tree happens in
    record {
      objects_are = represents.state.tree ∙ h.tree_is;
      clock_is = ap (λ (x : Table). x.moment) represents.state.sessions ∙ h.clock_is;
      sessions_are = ap (λ (x : Table). map summary_of x.sessions) represents.state.sessions ∙ summaries_are w tree (state_after w tree E) H h;
      executions_are = h.executions_are;
      written_is = λ happened. represents.written ∙ written_same exact w tree happened;
      answers_are = λ e H' h'. answers_same exact w tree e h';
      packets_are = λ e H' h'. (
        groups_of (answers_by_events w tree H'),
        are_groups (answers_by_events w tree H') (answers_fit w tree H'),
        ap packets_of (answers_same exact w tree e h'),
      );
      verdict_is = λ p bytes now H' h'. verdict_same exact w tree p bytes now h';
    }

pub returns-clause-happened : goal.returns-clause-happened
returns-clause-happened c = happened c.law_reading.ensures

pub returns-clause-once : goal.returns-clause-once
returns-clause-once c = λ E H K h k. happened_once c.law_one_list_of_messages.ensures h k
