-- The laws.
use Rattle.oca_pdu.proofs.Words.{◌≡◌, ℕ, zero, suc, true, List, [], ◌∷◌, ◌++◌, Result, Ok, Err, refl, sym, ap, subst, ◌∙◌, inl, inr, arith, is_ok, flat_map, PduFault, Msg, Pdu, messages_of, IsDatagram, read_or_none, append-nil, flat_map-append, IsFirstFault}
use Rattle.oca_pdu.specs.Reading.{read_datagram}
use Rattle.oca_pdu.specs.Laws.{OneListOfMessages, OneFirstFault, NoFaultOfADatagram, DatagramOrFault, ReadingIsExact, WrittenIsReadBack, AreBytes}
use Rattle.oca_pdu.proofs.MessageLoop.{ok_is}
use Rattle.oca_pdu.proofs.Refused.{datagram_refused}
use Rattle.oca_pdu.proofs.Codec.{IsBytes}
use Rattle.oca_pdu.proofs.Decided.{datagram_decided}
use Rattle.oca_pdu.proofs.Encoded.{datagram_again}

-- bytes are the datagram of one list of messages
pub one_list : OneListOfMessages
one_list bytes ps qs p q = ok_is (flat_map messages_of ps) (flat_map messages_of qs) (sym (datagram_again ps bytes p) ∙ datagram_again qs bytes q)

abbrev failed : PduFault → Result (List Msg) PduFault
failed f = Err f

err_is : (f g : PduFault) → failed f ≡ failed g → f ≡ g
err_is f g e = cc

-- bytes have one first fault
pub one_fault : OneFirstFault
one_fault bytes f g p q = err_is f g (sym (datagram_refused bytes f p) ∙ datagram_refused bytes g q)

pub not_both : {P : Type 0} (r : Result (List Msg) PduFault) (ms : List Msg) (f : PduFault) → r ≡ Ok ms → r ≡ Err f → P
not_both r ms f p q =
    let both : (let s : Result (List Msg) PduFault = Ok ms in s ≡ Err f) = sym p ∙ q in
    absurd cc

-- a datagram has no fault
pub no_fault : NoFaultOfADatagram
no_fault bytes ps f p q = not_both (read_datagram bytes) (flat_map messages_of ps) f (datagram_again ps bytes p) (datagram_refused bytes f q)

-- ---- reading, both ways

pub IsBytes-each : (bytes : List ℕ) → AreBytes bytes → IsBytes bytes
IsBytes-each [] all i = omega arith
IsBytes-each (b ∷ bytes) all zero = all.0
IsBytes-each (b ∷ bytes) all (suc i) = IsBytes-each bytes all.1 i

-- bytes that are read are a datagram of what was read
pub is_found : (bytes : List ℕ) (ms : List Msg) → IsBytes bytes → read_datagram bytes ≡ Ok ms → (ps : List Pdu) × IsDatagram ps bytes × (flat_map messages_of ps ≡ ms)
is_found bytes ms fits e = elim (datagram_decided bytes fits) [
  | inl are ↦ (are.0, are.1, ok_is (flat_map messages_of are.0) ms (sym (datagram_again are.0 bytes are.1) ∙ e))
  | inr fail ↦ not_both (read_datagram bytes) ms fail.0 e (datagram_refused bytes fail.0 fail.1)
]

-- bytes that are refused have that first fault
pub is_fault : (bytes : List ℕ) (f : PduFault) → IsBytes bytes → read_datagram bytes ≡ Err f → IsFirstFault bytes f
is_fault bytes f fits e = elim (datagram_decided bytes fits) [
  | inl are ↦ not_both (read_datagram bytes) (flat_map messages_of are.0) f (datagram_again are.0 bytes are.1) e
  | inr fail ↦ subst (IsFirstFault bytes) (err_is fail.0 f (sym (datagram_refused bytes fail.0 fail.1) ∙ e)) fail.1
]

is_messages : (bytes : List ℕ) (ms : List Msg) → (ps : List Pdu) × IsDatagram ps bytes × (flat_map messages_of ps ≡ ms) → read_datagram bytes ≡ Ok ms
is_messages bytes ms (ps, are, same) = datagram_again ps bytes are ∙ ap (λ (l : List Msg). Ok l) same

-- reading is exact
pub exact : ReadingIsExact
exact bytes all =
    let fits = IsBytes-each bytes all in
    record {
      messages = λ ms. (λ e. is_found bytes ms fits e, λ h. is_messages bytes ms h);
      fault = λ f. (λ e. is_fault bytes f fits e, λ h. datagram_refused bytes f h);
    }

-- ---- as `check` states it

ok_or_none : (r : Result (List Msg) PduFault) → is_ok r ≡ true → r ≡ Ok (read_or_none r)
ok_or_none (Ok ms) e = refl
ok_or_none (Err f) e = absurd cc

-- bytes that pass are a datagram of what is read
pub check_found : (bytes : List ℕ) → IsBytes bytes → is_ok (read_datagram bytes) ≡ true → (ps : List Pdu) × IsDatagram ps bytes × (read_or_none (read_datagram bytes) ≡ flat_map messages_of ps)
check_found bytes fits e =
    let h = is_found bytes (read_or_none (read_datagram bytes)) fits (ok_or_none (read_datagram bytes) e) in
    (h.0, h.1, sym h.2)

-- what is read of a datagram is its messages
pub check_only : (ps : List Pdu) (bytes : List ℕ) → IsDatagram ps bytes → read_or_none (read_datagram bytes) ≡ flat_map messages_of ps
check_only ps bytes p = ap read_or_none (datagram_again ps bytes p)

-- a datagram is not refused
pub not_refused : {P : Type 0} (ps : List Pdu) (bytes : List ℕ) (f : PduFault) → IsDatagram ps bytes → read_datagram bytes ≡ Err f → P
not_refused ps bytes f p e = not_both (read_datagram bytes) (flat_map messages_of ps) f (datagram_again ps bytes p) e

-- ---- what is written is read back

-- what is written is read back
pub read_back : WrittenIsReadBack
read_back ps p bytes are =
    datagram_again (ps ++ p ∷ []) bytes are ∙ ap (λ (l : List Msg). Ok l) (flat_map-append messages_of ps (p ∷ []) ∙ ap (λ (l : List Msg). flat_map messages_of ps ++ l) (append-nil (messages_of p)))

-- bytes are a datagram or have a first fault
pub decided : DatagramOrFault
decided bytes fits = datagram_decided bytes (IsBytes-each bytes fits)
