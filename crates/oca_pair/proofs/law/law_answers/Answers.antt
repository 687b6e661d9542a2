use Rattle.oca_pair.proofs.ByEvents.{these_happened}
use Rattle.oca_pair.proofs.Lawful.{answers_law}
use Rattle.oca_pair.proofs.law.law_answers.Goals as goal

pub returns : goal.returns
returns c = record {
  answers = answers_law c.law_written_is_read_back.ensures;
  happened = λ E b. these_happened c.law_reading.ensures E b;
}
