use Rattle.oca_device.proofs.Words.{◌≡◌, List, Bool, true, sym, subst, reply_in, Pdu, Commands, Responses, OneKeepAlive, response_with, pdu_encoding, response, is_of_responses, Joins}
use Rattle.std.specs.Prelude.{ℕ}
use Rattle.oca_device.proofs.Grouping.{extended, items_kept}
use Rattle.oca_device.proofs.bounded.join.Goals as goal

pub returns-then-holds_responses : goal.returns-then-holds_responses
returns-then-holds_responses c = λ p e. by p e (c.if-holds_responses.ensures p e)
  where
    old : List ℕ
    old = c.args.packet.now.items

    new : List ℕ
    new = c.extend_response_of.new.packet.items

    by : (p : Pdu) → old ≡ pdu_encoding p → true ≡ is_of_responses p → Joins c.is_ok.result p (response c.args.handle.0 (reply_in c.args.reply)) old new
    by (Responses rs) e is =
        subst (λ (b : Bool). Joins b (Responses rs) (response c.args.handle.0 (reply_in c.args.reply)) old new) (sym c.is_ok.ensures.value)
        (extended rs (response_with c.args.handle (reply_in c.args.reply)) old new c.extend_response_of.result
        (c.extend_response_of.ensures.size rs e) (c.extend_response_of.ensures.ok rs e) (items_kept c.args.packet.now c.extend_response_of.new.packet c.extend_response_of.result c.extend_response_of.ensures.err))
    by _ e is = absurd cc
