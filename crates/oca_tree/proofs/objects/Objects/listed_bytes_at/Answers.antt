use Rattle.oca_tree.proofs.Words.{◌<◌, length, ap, ◌∙◌, values, Store}
use Rattle.oca_tree.proofs.Totals.{read_at}
use Rattle.oca_tree.proofs.objects.Objects.listed_bytes_at.Goals as goal

pub returns : goal.returns
returns c = λ d.
    let within : c.args.index < length (values c.self.inside.map) = rw (ap (λ (h : Store). h.list) c.self.view_is) c.requires in
    let read = read_at (values c.self.inside.map) c.as_slice-lengths.result.now (c.as_slice-lengths.ensures.value ∙ c.self.invariant.4) c.args.index within c.args.deep d in
    rw (← c.self.view_is) (c.of.ensures ∙ read)
