use Rattle.std.proofs.Common.{sym, ap, ◌∙◌}
use Rattle.std.specs.List.{slice_get}
use Rattle.std.specs.Option.{option_copied}
use Rattle.oca_panel.proofs.FlightLemmas.{first-seen, none-seen}
use Rattle.oca_panel.proofs.in_flight.InFlight.first.Goals as goal

pub returns-in-Some : goal.returns-in-Some
returns-in-Some g c =
    let it = first-seen (λ b. (b.handle.0, b.item)) c.self.inside.commands.items c.in-Some.command.now
    (sym (ap (λ l. slice_get l 0) c.deref.ensures.0) ∙ sym c.first.ensures.value ∙ ap option_copied c.in-Some.is) in
    (it.0, sym c.self.view_is ∙ it.1)

pub returns-in-None : goal.returns-in-None
returns-in-None g c =
    sym c.self.view_is
    ∙ none-seen (λ b. (b.handle.0, b.item)) c.self.inside.commands.items
    (sym (ap (λ l. slice_get l 0) c.deref.ensures.0) ∙ sym c.first.ensures.value ∙ ap option_copied c.in-None.is)
