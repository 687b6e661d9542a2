use Rattle.oca_device.proofs.Words.{◌≡◌, ℕ, ◌+◌, ◌-◌, ◌<◌, List, [], ◌∷◌, ◌++◌, length, arith, ap, ◌∙◌, sym, subst, take, slice_set, ArrayVec, reply_in, bytes_of_packets, response, JoinsLast}
use Rattle.oca_device.proofs.Grouping.{ended, last_bytes, set_bytes, joins_last}
use Rattle.oca_device.proofs.bounded.join_last.Goals as goal

pub join-requires-clause-holds : goal.join-requires-clause-holds
join-requires-clause-holds c =
    let xs = c.args.places.now.items in
    let front = bytes_of_packets (take (c.args.count - 1) xs) in
    let d = c.index_mut.result.now in
    let whole = last_bytes xs c.args.count d c.if-count-eq0.false c.requires.within ∙ ap (λ (p : ArrayVec ℕ). front ++ p.items ∷ []) (sym c.index_mut.ensures.value) in
    let end = ended c.requires.groups.0 front d.items (sym whole ∙ c.requires.groups.1) in
    (end.last, end.last_is)

pub returns-clause-joins : goal.returns-clause-joins
returns-clause-joins c =
    let xs = c.args.places.now.items in
    let n = c.args.count in
    let m = response c.args.handle.0 (reply_in c.args.reply) in
    let front = bytes_of_packets (take (n - 1) xs) in
    let d = c.index_mut.result.now in
    let new = c.join.new.packet in
    let some = c.if-count-eq0.false in
    let le = c.requires.within in
    let whole = last_bytes xs n d some le ∙ ap (λ (p : ArrayVec ℕ). front ++ p.items ∷ []) (sym c.index_mut.ensures.value) in
    let one : n ≡ n - 1 + 1 = omega (arith, some) in
    let inside : n - 1 < length xs = omega (arith, some, le) in
    let set = set_bytes xs (n - 1) n new one inside in
    subst (λ (v : List (List ℕ)). JoinsLast c.join.result m v (bytes_of_packets (take n (slice_set xs (n - 1) new)))) (sym whole)
    (subst (λ (v : List (List ℕ)). JoinsLast c.join.result m (front ++ d.items ∷ []) v) (sym set)
    (joins_last c.join.result m front d.items new.items (c.requires.groups.0, sym whole ∙ c.requires.groups.1) c.join.ensures))
