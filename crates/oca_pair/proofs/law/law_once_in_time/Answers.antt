use Rattle.oca_pair.proofs.InTime.{once_in_time, answers_in_time, session_in_time}
use Rattle.oca_pair.proofs.law.law_once_in_time.Goals as goal

pub returns : goal.returns
returns c = record {
  once = once_in_time c.law_written_is_read_back.ensures;
  answers = answers_in_time c.law_written_is_read_back.ensures;
  session = session_in_time c.law_written_is_read_back.ensures;
  renewal = λ s i k first span now origin left n. tt;
  beside = λ s i k now left n. (tt, tt);
}
