use Rattle.oca_device.proofs.Words.{◌≡◌, ℕ, ◌+◌, ◌≤◌, List, [], ◌∷◌, ◌++◌, Bool, true, false, length, ap, ◌∙◌, sym, subst, refl, arith, take, slice_set, ArrayVec, reply_in, bytes_of_packets}
use Rattle.oca_device.proofs.Words.{KeptPackets, response, AreGrouped, IsGrouped}
use Rattle.oca_device.proofs.Grouping.{set_bytes, kept, alone_so, joined_so, cut_so, left_out_so, count_is}
use Rattle.oca_device.proofs.bounded.BoundedOutbox.respond.Goals as goal

pub returns-then-self : goal.returns-then-self
returns-then-self c =
    let m = response c.args.handle.0 (reply_in c.args.reply) in
    let r = c.self.inside.room in
    let before = bytes_of_packets (take c.self.inside.count c.self.inside.places.items) in
    let was : kept before r true ≡ c.args.self.now = ap (kept before r) (sym c.if-self.true) ∙ c.self.view_is in
    subst (λ (v : KeptPackets). IsGrouped m v v) was (cut_so m before r (subst AreGrouped (sym was) c.requires.groups))

pub returns-then-join_last : goal.returns-then-join_last
returns-then-join_last c =
    let m = response c.args.handle.0 (reply_in c.args.reply) in
    let n = c.self.inside.count in
    let r = c.self.inside.room in
    let before = bytes_of_packets (take n c.self.inside.places.items) in
    let after = bytes_of_packets (take n c.join_last.new.places.items) in
    let was : kept before r false ≡ c.args.self.now = ap (kept before r) (sym c.if-self.false) ∙ c.self.view_is in
    let fits : length before ≤ r = omega (arith, count_is n c.self.inside.places.items c.self.invariant.0, c.self.invariant.0, c.self.invariant.1) in
    subst (λ (b : Bool). IsGrouped m c.args.self.now (kept after r b)) (sym c.if-self.false)
    (subst (λ (v : KeptPackets). IsGrouped m v (kept after r false)) was
    (joined_so m before after r fits (subst AreGrouped (sym was) c.requires.groups) c.if-join_last.ensures.joins))

pub returns-then-self-2 : goal.returns-then-self-2
returns-then-self-2 c =
    let m = response c.args.handle.0 (reply_in c.args.reply) in
    let n = c.self.inside.count in
    let r = c.self.inside.room in
    let before = bytes_of_packets (take n c.self.inside.places.items) in
    let joins = c.if-join_last.ensures.joins in
    let was : kept before r false ≡ c.args.self.now = ap (kept before r) (sym c.if-self.false) ∙ c.self.view_is in
    let full : length before ≡ r = count_is n c.self.inside.places.items c.self.invariant.0 ∙ c.if-self-2.true in
    subst (λ (ps : List (List ℕ)). IsGrouped m c.args.self.now (kept ps r true)) (sym joins.0)
    (subst (λ (v : KeptPackets). IsGrouped m v (kept before r true)) was
    (left_out_so m before r full (subst AreGrouped (sym was) c.requires.groups) joins.1))

pub returns : goal.returns
returns c =
    let m = response c.args.handle.0 (reply_in c.args.reply) in
    let n = c.self.inside.count in
    let r = c.self.inside.room in
    let before = bytes_of_packets (take n c.self.inside.places.items) in
    let places = c.make_place.new.places.items in
    let p = c.replace_response_of.new.packet in
    let joins = c.if-join_last.ensures.joins in
    let after = bytes_of_packets (take (n + 1) (slice_set places n p)) in
    let was : kept before r false ≡ c.args.self.now = ap (kept before r) (sym c.if-self.false) ∙ c.self.view_is in
    let added = set_bytes places n (n + 1) p refl c.make_place.ensures.there
    ∙ ap (λ (xs : List (ArrayVec ℕ)). bytes_of_packets xs ++ p.items ∷ []) c.make_place.ensures.same
    ∙ ap (λ (v : List (List ℕ)). v ++ p.items ∷ []) joins.0
    ∙ ap (λ (y : List ℕ). before ++ y ∷ []) c.replace_response_of.ensures.bytes in
    subst (λ (b : Bool). IsGrouped m c.args.self.now (kept after r b)) (sym c.if-self.false)
    (subst (λ (v : KeptPackets). IsGrouped m v (kept after r false)) was
    (alone_so m before after r
    (omega (arith, count_is n c.self.inside.places.items c.self.invariant.0, c.self.invariant.0, c.self.invariant.1, c.if-self-2.false))
    (subst AreGrouped (sym was) c.requires.groups) joins.1 added))
