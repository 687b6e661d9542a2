use Rattle.oca_pdu.proofs.Words.{arith, sym, ◌∙◌, ap, ◌∷◌, List, Msg, KeepAlive}
use Rattle.std.proofs.lemmas.List.{take_rest}
use Rattle.oca_pdu.proofs.Walking.{pdus_open, Parts, inside_ok, rest_ok, has_content, begins, passes, only_pdus}
use Rattle.oca_pdu.proofs.messages.Messages.begin.Goals as goal

pub slice_bounds-u32_in-end : goal.slice_bounds-u32_in-end
slice_bounds-u32_in-end c =
    let o = pdus_open c.args.self.now.rest.now c.requires.some c.args.self.now.pdus in
    omega (arith, o.least, o.within)

pub split_at-requires : goal.split_at-requires
split_at-requires c =
    let o = pdus_open c.args.self.now.rest.now c.requires.some c.args.self.now.pdus in
    omega (arith, o.within, c.u32_in-size.ensures)

pub bounds-pdu-7 : goal.bounds-pdu-7
bounds-pdu-7 c =
    let o = pdus_open c.args.self.now.rest.now c.requires.some c.args.self.now.pdus in
    omega (arith, o.least, c.u32_in-size.ensures, c.split_at.ensures.front_len)

pub unreachable-requires : goal.unreachable-requires
unreachable-requires c =
    let o = pdus_open c.args.self.now.rest.now c.requires.some c.args.self.now.pdus in
    let p : Parts c.args.self.now.rest.now c.u32_in-size.result c.split_at.result.0.now c.split_at.result.1.now = record { size_is = c.u32_in-size.ensures; pdu_is = c.split_at.ensures.front; rest_is = c.split_at.ensures.back } in
    has_content c.split_at.result.0.now (sym c.content.ensures ∙ c.in_default.is) (inside_ok _ _ _ _ o p)

pub slice_bounds-u16_in-end : goal.slice_bounds-u16_in-end
slice_bounds-u16_in-end c =
    let o = pdus_open c.args.self.now.rest.now c.requires.some c.args.self.now.pdus in
    omega (arith, o.least, c.u32_in-size.ensures, c.split_at.ensures.front_len)

pub invariant_of-self : goal.invariant_of-self
invariant_of-self c =
    let o = pdus_open c.args.self.now.rest.now c.requires.some c.args.self.now.pdus in
    let p : Parts c.args.self.now.rest.now c.u32_in-size.result c.split_at.result.0.now c.split_at.result.1.now = record { size_is = c.u32_in-size.ensures; pdu_is = c.split_at.ensures.front; rest_is = c.split_at.ensures.back } in
    let b = begins _ _ _ _ _ _ _ _ o p (sym c.content.ensures ∙ c.in-Some.is) c.in-Messages.is (take_rest c.split_at.result.0.now 10) c.u16_in-self.ensures in
    record { messages = b.ok; pdus = rest_ok _ _ _ _ o p }

pub invariant_of-self-in-KeepAlive : goal.invariant_of-self-in-KeepAlive
invariant_of-self-in-KeepAlive c =
    let o = pdus_open c.args.self.now.rest.now c.requires.some c.args.self.now.pdus in
    let p : Parts c.args.self.now.rest.now c.u32_in-size.result c.split_at.result.0.now c.split_at.result.1.now = record { size_is = c.u32_in-size.ensures; pdu_is = c.split_at.ensures.front; rest_is = c.split_at.ensures.back } in
    record { messages = c.args.self.now.messages; pdus = rest_ok _ _ _ _ o p }

pub slice_bounds-read_form-count : goal.slice_bounds-read_form-count
slice_bounds-read_form-count c =
    let o = pdus_open c.args.self.now.rest.now c.requires.some c.args.self.now.pdus in
    omega (arith, o.least, c.u32_in-size.ensures, c.split_at.ensures.front_len)

pub slice_bounds-read_form-start : goal.slice_bounds-read_form-start
slice_bounds-read_form-start c =
    let o = pdus_open c.args.self.now.rest.now c.requires.some c.args.self.now.pdus in
    omega (arith, o.least, c.u32_in-size.ensures, c.split_at.ensures.front_len)

pub read_form-requires : goal.read_form-requires
read_form-requires c =
    let o = pdus_open c.args.self.now.rest.now c.requires.some c.args.self.now.pdus in
    let p : Parts c.args.self.now.rest.now c.u32_in-size.result c.split_at.result.0.now c.split_at.result.1.now = record { size_is = c.u32_in-size.ensures; pdu_is = c.split_at.ensures.front; rest_is = c.split_at.ensures.back } in
    let k = passes _ _ _ _ _ _ o p (sym c.content.ensures ∙ c.in-Some.is) c.in-KeepAlive.is (take_rest c.split_at.result.0.now 10) in
    k.ok

pub returns-in-Messages-clause-begun : goal.returns-in-Messages-clause-begun
returns-in-Messages-clause-begun c =
    let o = pdus_open c.args.self.now.rest.now c.requires.some c.args.self.now.pdus in
    let p : Parts c.args.self.now.rest.now c.u32_in-size.result c.split_at.result.0.now c.split_at.result.1.now = record { size_is = c.u32_in-size.ensures; pdu_is = c.split_at.ensures.front; rest_is = c.split_at.ensures.back } in
    let b = begins _ _ _ _ _ _ _ _ o p (sym c.content.ensures ∙ c.in-Some.is) c.in-Messages.is (take_rest c.split_at.result.0.now 10) c.u16_in-self.ensures in
    b.some

pub returns-in-Messages-clause-messages : goal.returns-in-Messages-clause-messages
returns-in-Messages-clause-messages c =
    let o = pdus_open c.args.self.now.rest.now c.requires.some c.args.self.now.pdus in
    let p : Parts c.args.self.now.rest.now c.u32_in-size.result c.split_at.result.0.now c.split_at.result.1.now = record { size_is = c.u32_in-size.ensures; pdu_is = c.split_at.ensures.front; rest_is = c.split_at.ensures.back } in
    let b = begins _ _ _ _ _ _ _ _ o p (sym c.content.ensures ∙ c.in-Some.is) c.in-Messages.is (take_rest c.split_at.result.0.now 10) c.u16_in-self.ensures in
    let none = only_pdus c.args.self.now.kind c.args.self.now.left c.args.self.now.inside.now in
    none c.args.self.now.rest.now c.requires.ended ∙ b.all

pub returns-in-KeepAlive-clause-keep_alive : goal.returns-in-KeepAlive-clause-keep_alive
returns-in-KeepAlive-clause-keep_alive c =
    let o = pdus_open c.args.self.now.rest.now c.requires.some c.args.self.now.pdus in
    let p : Parts c.args.self.now.rest.now c.u32_in-size.result c.split_at.result.0.now c.split_at.result.1.now = record { size_is = c.u32_in-size.ensures; pdu_is = c.split_at.ensures.front; rest_is = c.split_at.ensures.back } in
    let k = passes _ _ _ _ _ _ o p (sym c.content.ensures ∙ c.in-Some.is) c.in-KeepAlive.is (take_rest c.split_at.result.0.now 10) in
    let none = only_pdus c.args.self.now.kind c.args.self.now.left c.args.self.now.inside.now in
    none c.args.self.now.rest.now c.requires.ended ∙ k.all _ c.read_form.ensures ∙ ap (λ (l : List Msg). KeepAlive c.read_form.result ∷ l) (sym (none c.split_at.result.1.now c.requires.ended))
