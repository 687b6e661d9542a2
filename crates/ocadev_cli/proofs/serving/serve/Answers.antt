use Rattle.ocadev_cli.specs.Storing.{store_of}
use Rattle.ocadev_cli.proofs.serving.serve.Goals as goal

pub returns-in-Some-clause-served : goal.returns-in-Some-clause-served
returns-in-Some-clause-served g c = rw c.in-Some.is (rw (← c.new-store.ensures)
    (record { is_behind = c.serve_keeping.new.keeping.is_behind; store = store_of (g.D.Disk.state c.serve_keeping.new.store.disk.now) }, c.serve_keeping.ensures.served))
