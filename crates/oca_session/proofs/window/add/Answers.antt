use Rattle.oca_session.proofs.window.add.Goals as goal

pub returns-clause-items : goal.returns-clause-items
returns-clause-items g c = record { cell = c.new.result; holds = c.new.ensures; added = c.push_reserved.ensures.items }
