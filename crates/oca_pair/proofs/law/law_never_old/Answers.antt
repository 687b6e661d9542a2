use Rattle.oca_pair.proofs.Lawful.{never_old_law, once_law, only_renewals_renew, first_links_are_as_set_up}
use Rattle.oca_pair.proofs.Room.{few_find_room}
use Rattle.oca_pair.proofs.law.law_never_old.Goals as goal

pub returns : goal.returns
returns c = record {
  answered = never_old_law c.law_written_is_read_back.ensures;
  once = once_law c.law_written_is_read_back.ensures;
  room = few_find_room;
  never = only_renewals_renew;
  set_up = first_links_are_as_set_up c.law_written_is_read_back.ensures;
}
