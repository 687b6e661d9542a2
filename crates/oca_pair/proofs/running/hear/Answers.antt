use Rattle.oca_pair.proofs.Words.{◌≡◌, ◌<◌, ◌≤◌, length, get_or, arith, SentDatagram, device_address, hears_datagram}
use Rattle.oca_pair.proofs.Runs.{unchanged_at, changed_next, changed_all, heard_next, heard_all}
use Rattle.oca_pair.proofs.running.hear.Goals as goal

pub loop-i-preserved : goal.loop-i-preserved
loop-i-preserved c =
    let inv = c.loop-i.invariant in
    let d : SentDatagram = record { peer = c.args.peer; bytes = c.args.bytes.now } in
    let old = c.args.links.now.items in
    let cur = c.loop-i.links.items in
    let x = c.index_mut.result.now in
    let i = c.loop-i.i in
    let within : i < length old = omega (arith, c.args.links.now.ok) in
    let here : x ≡ get_or old i x = unchanged_at (hears_datagram device_address d c.args.now) old cur i x within inv.links c.index_mut.ensures.value in
    record {
      long = inv.long;
      links = changed_next (hears_datagram device_address d c.args.now) old cur i x c.hear-heard.new.self within inv.links c.index_mut.ensures.value c.hear-heard.ensures.link;
      answer = heard_next d old i x c.loop-i.answer c.hear-heard.result c.or-answer.result _ within here c.hear-heard.ensures.answer c.or-answer.ensures inv.answer;
    }

pub returns-clause-links : goal.returns-clause-links
returns-clause-links c =
    let d : SentDatagram = record { peer = c.args.peer; bytes = c.args.bytes.now } in
    let past : length c.args.links.now.items ≤ c.loop-i.i = omega (arith, c.args.links.now.ok) in
    changed_all (hears_datagram device_address d c.args.now) c.args.links.now.items c.loop-i.links.items c.loop-i.i past c.loop-i.invariant.links

pub returns-clause-answer : goal.returns-clause-answer
returns-clause-answer c =
    let d : SentDatagram = record { peer = c.args.peer; bytes = c.args.bytes.now } in
    let past : length c.args.links.now.items ≤ c.loop-i.i = omega (arith, c.args.links.now.ok) in
    heard_all d c.args.links.now.items c.loop-i.i c.loop-i.answer past c.loop-i.invariant.answer
