use Rattle.oca_tree.proofs.Words.{Bool, ap, ◌∙◌, sym, ◌&&◌, All, fields_of, TreeAndReply, IsOfItsTypes, is_ok, calls_a_write}
use Rattle.oca_tree.specs.declared.tree.Done.{Done}
use Rattle.oca_tree.proofs.TypesKept.{command_good, command_good}
use Rattle.oca_tree.proofs.tree.Tree.execute.Goals as goal
use Rattle.oca_tree.proofs.tree.Tree.execute.Goals.{in-Ok, in-Err}

pub returns-clause-wrote : goal.returns-clause-wrote
returns-clause-wrote c =
    let calls = calls_a_write c.args.self.now (fields_of c.args.command.now) in
    elim c.match-carry_out.branch [
      | in-Ok w ↦
          ap (λ (d : Done). d.wrote) w.result-is
          ∙ rw c.self.view_is at w.in-Ok.ensures.writes
          ∙ sym (ap (λ (x : TreeAndReply). is_ok x.status && calls) (rw c.self.view_is at w.in-Ok.ensures.done))
      | in-Err w ↦
          ap (λ (d : Done). d.wrote) w.result-is
          ∙ sym (ap (λ (x : TreeAndReply). is_ok x.status && calls) (rw c.self.view_is at w.in-Err.ensures.done.0) ∙ ap (λ (b : Bool). b && calls) w.in-Err.ensures.done.2)
    ]

pub invariant_of-self : goal.invariant_of-self
invariant_of-self c =
    let good = command_good c.self.inside.objects.list c.args.peer (fields_of c.args.command.now) (record { tree = c.self.invariant.0; typed = c.self.invariant.2 }) in
    let typed : All IsOfItsTypes c.carry_out.new.objects.list = elim c.match-carry_out.branch [
      | in-Ok w ↦ rw (sym (ap (λ (x : TreeAndReply). x.tree) w.in-Ok.ensures.done)) good.typed
      | in-Err w ↦ rw w.in-Err.ensures.done.1 c.self.invariant.2
    ] in
    (c.carry_out.ensures.tree, c.carry_out.ensures.count, typed)
