use Rattle.std.proofs.Common.{sym}
use Rattle.oca_tree.proofs.Listing.{member_there, member_absent}
use Rattle.oca_tree.proofs.answer.is_member.Goals as goal

pub returns-in-Some : goal.returns-in-Some
returns-in-Some c = λ d. sym (member_there c.args.objects.now.list c.requires.tree c.args.place c.requires.block c.args.at d c.requires.within c.in-Some.container c.in-Some.ensures)

pub returns-in-None : goal.returns-in-None
returns-in-None c = λ d. sym (member_absent c.args.objects.now.list c.requires.tree c.args.place c.requires.block c.args.at d c.requires.within c.in-None.ensures)
