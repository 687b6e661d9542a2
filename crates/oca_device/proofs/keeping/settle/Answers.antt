use Rattle.oca_device.proofs.Words.{List, subst, Object, Stores}
use Rattle.oca_device.proofs.keeping.settle.Goals as goal

pub returns : goal.returns
returns g c = record {
  stored = c.store-stored.result;
  stores = subst (λ (tree : List Object). Stores c.store-stored.result tree (g.S.Store.state c.args.store.now) (g.S.Store.state c.store-stored.new.self)) c.tree.ensures.tree c.store-stored.ensures;
  sends = c.send_stored-failed.ensures;
  behind = c.settled.ensures.behind;
  none = c.settled.ensures.none;
}
