-- What the service becomes by what the program does with its view.
use Rattle.std.specs.Borrow.{Lends, MutBor, Fml}
use Rattle.oca_web.specs.declared.site.Site.{Site}
use Rattle.oca_web.specs.declared.view.View.{View}
use Rattle.oca_web.specs.contracts.site.Site.{the_row}
use Rattle.oca_web.specs.contracts.view.View.{the_row as view_row}

-- the service with this view, and all else as it was
abbrev pub with_view : Site → View → Site
with_view s v = record s { view = v }

-- THE VIEW IS LENT: behind that the service has the view as the program left it, and all else is as it was.
abbrev pub LendsView : MutBor Site → MutBor View → Fml
LendsView s r = Lends the_row view_row s r (with_view s.now)
