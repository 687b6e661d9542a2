-- A device that is asked whether it answers.
use Rattle.std.proofs.Common.{◌≡◌, ◌+◌, ℕ, Bool, Option, Some, None, sym, ap, ◌∙◌, subst}
use Rattle.oca_panel.specs.Words.{DriveReport, EndState, Handle, IsPresent, LinkState, Peer, new_link, submitted}
use Rattle.oca_control.specs.Driving.{SendsDue}
use Rattle.oca_control.specs.Links.{submission}
use Rattle.oca_panel.specs.Probes.{AsksQuestion, AsksRounds, handle_in, question}

abbrev number_or_none : Option Handle → ℕ
number_or_none None = 0
number_or_none (Some h) = h.0

-- the question has the first handle
pub asked-under : (device : Peer) (first now : ℕ) (old : LinkState) (r : Option Handle) (h : Handle)
    → old ≡ new_link device first now 16 → r ≡ handle_in (submission question old) → r ≡ Some h → first ≡ h.0
asked-under device first now old r h new is some =
    sym (ap (λ (l : LinkState). number_or_none (handle_in (submission question l))) new)
    ∙ ap number_or_none (sym is) ∙ ap number_or_none some

pub asked-all : (device : Peer) (first now : ℕ) (old sub l last : LinkState) (d e f : EndState) (report : DriveReport) (h : Handle) (answered : Bool) (r : Option Handle)
    → IsPresent now d → old ≡ new_link device first now 16 → r ≡ handle_in (submission question old) → r ≡ Some h → sub ≡ submitted question now old
    → SendsDue now (sub.span + 1) sub l d e report → AsksRounds device h.0 answered l last e f → AsksQuestion device first answered d f
asked-all device first now old sub l last d e f report h answered r present new is some submits gives rounds =
    let made : sub ≡ submitted question now (new_link device first now 16) = submits ∙ ap (submitted question now) new in
    record {
      now = now;
      present = present;
      link = l;
      last = last;
      between = e;
      report = report;
      gives = subst (λ (s : LinkState). SendsDue now (s.span + 1) s l d e report) made gives;
      rounds = subst (λ (n : ℕ). AsksRounds device n answered l last e f) (sym (asked-under device first now old r h new is some)) rounds;
    }
