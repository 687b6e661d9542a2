use Rattle.std.proofs.Common.{ap, ap₂, refl, sym, ◌∙◌}
use Rattle.std.specs.Option.{option_map}
use Rattle.oca_control.specs.Answers.{answer_fields}
use Rattle.ocactl_replay.specs.Printing.{due_text, submission_text, taken_text}
use Rattle.ocactl_replay.proofs.replay.serve.Goals as goal

pub returns-in-Submit : goal.returns-in-Submit
returns-in-Submit g c =
    let s = c.submit-answer in
    rw c.in-Submit.is (record { text = _; serves = (s.ensures.link, ap submission_text s.ensures.answer); prints = c.print_line.ensures })

pub returns-in-Due : goal.returns-in-Due
returns-in-Due g c =
    let d = c.due-due in
    rw c.in-Due.is (record {
      text = _;
      serves = (d.ensures.link, ap₂ due_text d.ensures.answer (c.as_slice.ensures.value ∙ d.ensures.packet));
      prints = c.print_line-in-Due.ensures;
    })

pub returns-in-Datagram : goal.returns-in-Datagram
returns-in-Datagram g c =
    let r = c.datagram-reception in
    rw c.in-Datagram.is (record { text = _; serves = (r.result, r.ensures.receives, refl); prints = c.print_line-in-Datagram.ensures })

pub returns-in-Some : goal.returns-in-Some
returns-in-Some g c =
    rw c.in-Take.is (record {
      text = _;
      serves = (c.take.ensures.link, ap taken_text (sym (ap (option_map answer_fields) c.in-Some.is) ∙ c.take.ensures.answer));
      prints = c.print_line-in-Some.ensures;
    })

pub returns-in-None : goal.returns-in-None
returns-in-None g c =
    rw c.in-Take.is (record {
      text = _;
      serves = (c.take.ensures.link, ap taken_text (sym (ap (option_map answer_fields) c.in-None.is) ∙ c.take.ensures.answer));
      prints = c.print_line-in-None.ensures;
    })
