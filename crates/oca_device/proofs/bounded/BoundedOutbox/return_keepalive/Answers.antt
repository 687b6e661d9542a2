use Rattle.oca_device.proofs.Words.{◌≡◌, ℕ, ◌+◌, List, [], ◌∷◌, ◌++◌, Bool, true, false, length, ap, ◌∙◌, sym, subst, refl, arith, take, slice_set, ArrayVec, Msg, KeepAlive, Pdu, pdu_of, with_answer}
use Rattle.oca_device.proofs.Words.{encodings, bytes_of_packets, KeptPackets, AreGrouped, IsGrouped}
use Rattle.oca_device.proofs.Grouping.{set_bytes, kept, alone_so, cut_so, left_out_so, count_is, alive_alone}
use Rattle.oca_device.proofs.bounded.BoundedOutbox.return_keepalive.Goals as goal
use Rattle.oca_device.proofs.bounded.BoundedOutbox.return_keepalive.Goals.{then-self-via-then-self, then-self-via-else-self+then-self-2}

-- where one was left out already, or there is no room
left_out : (m : Msg) (before : List (List ℕ)) (r : ℕ) (b : Bool) → AreGrouped (kept before r b) → length before ≡ r →
    ((groups : List Pdu) → before ≡ encodings groups → with_answer groups m ≡ groups ++ pdu_of m ∷ []) → IsGrouped m (kept before r b) (kept before r true)
left_out m before r true some full h = cut_so m before r some
left_out m before r false some full h = left_out_so m before r full some h

pub returns-then-self : goal.returns-then-self
returns-then-self c =
    let m = KeepAlive c.args.form in
    let n = c.self.inside.count in
    let r = c.self.inside.room in
    let before = bytes_of_packets (take n c.self.inside.places.items) in
    elim c.then-self.branch [
      | then-self-via-then-self w ↦
          let was : kept before r true ≡ c.args.self.now = ap (kept before r) (sym w.if-self.true) ∙ c.self.view_is in
          subst (λ (v : KeptPackets). IsGrouped m v (kept before r true)) was (cut_so m before r (subst AreGrouped (sym was) c.requires.groups))
      | then-self-via-else-self+then-self-2 w ↦
          let full : length before ≡ r = count_is n c.self.inside.places.items c.self.invariant.0 ∙ w.if-self-2.true in
          subst (λ (v : KeptPackets). IsGrouped m v (kept before r true)) c.self.view_is
          (left_out m before r c.self.inside.is_cut (subst AreGrouped (sym c.self.view_is) c.requires.groups) full (λ groups _. alive_alone c.args.form groups))
    ]

pub returns : goal.returns
returns c =
    let m = KeepAlive c.args.form in
    let n = c.self.inside.count in
    let r = c.self.inside.room in
    let before = bytes_of_packets (take n c.self.inside.places.items) in
    let places = c.make_place.new.places.items in
    let p = c.put_keepalive.new.packet in
    let after = bytes_of_packets (take (n + 1) (slice_set places n p)) in
    let was : kept before r false ≡ c.args.self.now = ap (kept before r) (sym c.if-self.false) ∙ c.self.view_is in
    let added = set_bytes places n (n + 1) p refl c.make_place.ensures.there
    ∙ ap (λ (xs : List (ArrayVec ℕ)). bytes_of_packets xs ++ p.items ∷ []) c.make_place.ensures.same
    ∙ ap (λ (y : List ℕ). before ++ y ∷ []) c.put_keepalive.ensures in
    subst (λ (b : Bool). IsGrouped m c.args.self.now (kept after r b)) (sym c.if-self.false)
    (subst (λ (v : KeptPackets). IsGrouped m v (kept after r false)) was
    (alone_so m before after r
    (omega (arith, count_is n c.self.inside.places.items c.self.invariant.0, c.self.invariant.0, c.self.invariant.1, c.if-self-2.false))
    (subst AreGrouped (sym was) c.requires.groups) (λ groups _. alive_alone c.args.form groups) added))
