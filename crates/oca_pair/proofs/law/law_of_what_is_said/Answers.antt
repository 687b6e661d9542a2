use Rattle.oca_pair.proofs.Saying.{between_law, refused_law, class_law}
use Rattle.oca_pair.proofs.SayingTyped.{ok_law, reads_law, sets_law, met_law}
use Rattle.oca_pair.proofs.law.law_of_what_is_said.Goals as goal

pub returns : goal.returns
returns c =
    let t = c.law_of_typed_requests.ensures in
    record {
      between = between_law c.law_written_is_read_back.ensures;
      refused = refused_law c.law_written_is_read_back.ensures;
      ok = ok_law c.law_of_requests.ensures c.law_of_answers.ensures t.right t.settings;
      reads = reads_law c.law_of_requests.ensures c.law_of_answers.ensures t.right t.settings c.law_written_is_read_back.ensures;
      sets = sets_law c.law_of_requests.ensures c.law_of_answers.ensures t.right t.settings;
      class = class_law;
      met = met_law c.law_of_requests.ensures c.law_of_answers.ensures t.right t.settings;
    }
