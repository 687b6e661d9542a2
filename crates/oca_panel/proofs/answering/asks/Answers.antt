use Rattle.oca_panel.proofs.ProbeLemmas.{asked-all}
use Rattle.oca_panel.proofs.answering.asks.Goals as goal

pub returns : goal.returns
returns g c =
    asked-all c.args.device c.args.first.0 c.args.now c.args.link.now c.submit.new.link _ _ _ _ _ c.send_due.result c.in-Some.handle c.asks_rounds.result c.submit.result
    c.requires.present c.requires.new c.submit.ensures.handle c.in-Some.is c.submit.ensures.link c.send_due.ensures.gives c.asks_rounds.ensures
