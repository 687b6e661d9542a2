-- Facts on the fields of a line.
use Rattle.std.proofs.Common.{◌≡◌, arith, ℕ, List, [], ◌∷◌, Option, Some, None, Err, refl, sym, ap, ◌∙◌, Bool, true, false}
use Rattle.std.specs.Prelude.{codes}
use Rattle.std.proofs.lemmas.Slice.Eq.{bytes_eq-Decides}
use Rattle.oca_types.specs.declared.words.Peer.{Peer}
use Rattle.oca_script.specs.Fields.{fields, fields_after, split_at, hex_of, moment_of, peer_of, read_before}
use Rattle.oca_script.proofs.FieldLemmas.{fields-one, fields-more, fields-some}
use Rattle.oca_script.proofs.PartLemmas.{before-value}
use Rattle.oca_script.specs.declared.fault.LineFault.TheVariants.{Form, Hex}
use Rattle.ocadev_replay.specs.Requests.{asked_event, is_quiet, datagram_of}
use Rattle.ocadev_replay.specs.PrivateRequests.{datagram_after}

pub request-of_four : (s a b c : List ℕ) (o1 o2 o3 : Option (List ℕ)) (r1 r2 r3 : List ℕ)
    → fields s ≡ a ∷ fields_after o1 → o1 ≡ Some r1 → fields r1 ≡ b ∷ fields_after o2 → o2 ≡ Some r2
    → fields r2 ≡ c ∷ fields_after o3 → o3 ≡ Some r3 → asked_event (fields s) ≡ Err Form
request-of_four s a b c o1 o2 o3 r1 r2 r3 f1 e1 f2 e2 f3 e3 =
    let g1 : fields s ≡ a ∷ fields r1 = f1 ∙ ap (λ o. a ∷ fields_after o) e1 in
    let g2 : fields r1 ≡ b ∷ fields r2 = f2 ∙ ap (λ o. b ∷ fields_after o) e2 in
    let g3 : fields r2 ≡ c ∷ fields r3 = f3 ∙ ap (λ o. c ∷ fields_after o) e3 in
    let three : fields s ≡ a ∷ b ∷ c ∷ fields r3 = g1 ∙ ap (λ (fs : List (List ℕ)). a ∷ fs) (g2 ∙ ap (λ (fs : List (List ℕ)). b ∷ fs) g3) in
    ap asked_event (three ∙ ap (λ (fs : List (List ℕ)). a ∷ b ∷ c ∷ fs) (fields-some r3).are)

-- ---- a datagram's line

-- what writes a peer is not the word of a clock reading
not_quiet : (text : List ℕ) (peer : Peer) → peer_of text ≡ Some peer → is_quiet text ≡ false
unfolding peer_of
not_quiet text peer e = by_test (is_quiet text) refl
  where
    by_test : (v : Bool) → is_quiet text ≡ v → is_quiet text ≡ false
    by_test false is = is
    by_test true is =
        let same : text ≡ codes "quiet" = grind (arith, bytes_eq-Decides, is) in
        let none : peer_of text ≡ None = ap peer_of same in
        cc (none, e)

two : (m p f : List ℕ) (fs : List (List ℕ)) (now : ℕ) (peer : Peer) → moment_of m ≡ Some now → peer_of p ≡ Some peer
    → asked_event (m ∷ p ∷ f ∷ fs) ≡ datagram_after now peer (f ∷ fs)
unfolding datagram_of
two m p f [] now peer at_m at_p = let no = not_quiet p peer at_p in rw (no, at_m, at_p) refl
two m p f (g ∷ gs) now peer at_m at_p = refl

pub line-datagram : (line rest after : List ℕ) (now : ℕ) (peer : Peer) → Some (now, rest) ≡ read_before moment_of 32 line → Some (peer, after) ≡ read_before peer_of 32 rest
    → asked_event (fields line) ≡ datagram_after now peer (fields after)
line-datagram line rest after now peer h k =
    let m = before-value moment_of 32 line now rest (sym h) in
    let p = before-value peer_of 32 rest peer after (sym k) in
    let first : fields line ≡ m.front ∷ fields rest = fields-more line m.front rest m.parted in
    let second : fields rest ≡ p.front ∷ fields after = fields-more rest p.front after p.parted in
    let third = fields-some after in
    ap asked_event (first ∙ ap (λ (fs : List (List ℕ)). m.front ∷ fs) (second ∙ ap (λ (fs : List (List ℕ)). p.front ∷ fs) third.are))
    ∙ two m.front p.front third.first third.others now peer m.reads p.reads
    ∙ ap (datagram_after now peer) (sym third.are)

-- more than one field is left
pub left-more : (now : ℕ) (peer : Peer) (rest first more : List ℕ) → split_at 32 rest ≡ Some (first, more) → datagram_after now peer (fields rest) ≡ Err Form
left-more now peer rest first more e =
    let some = fields-some more in
    ap (datagram_after now peer) (fields-more rest first more e ∙ ap (λ (fs : List (List ℕ)). first ∷ fs) some.are)

-- one field is left, and it writes no bytes
pub left-one : (now : ℕ) (peer : Peer) (rest : List ℕ) → split_at 32 rest ≡ None → hex_of rest ≡ None → datagram_after now peer (fields rest) ≡ Err Hex
left-one now peer rest e none = ap (datagram_after now peer) (fields-one rest e) ∙ rw none refl

pub ruleset left_rules = (left-more, left-one)
