-- What has a first fault is read as that fault.
use Rattle.oca_pdu.proofs.Words.{◌≡◌, ℕ, zero, suc, ◌-◌, ◌+◌, ◌≤◌, ◌<◌, ◌^◌, Bool, true, false, eqb, ltb, List, [], ◌∷◌, ◌++◌, length, map, Result, Ok, Err, refl, sym, ap, ◌∙◌, arith, length-append, inl, inr, ◌⊎◌, ◌||◌, ◌≢◌, Option, Some, None, slice_index, flat_map, AllByRecursion, w16, w32, to_be_bytes, le-ltb, ne_eqb, from_be_bytes-to_be_bytes_2, from_be_bytes-to_be_bytes_4, PduFault, PduFaultKind, Empty, TooLong, Sync, Version, PduSize, PduType, Count, MessageSize, Truncated, Kind, Content, Msg, Command, Response, messages_of, command_encoding, response_encoding, command_type, pdu_encoding, CommandFits, ResponseFits, MessagesFail, MessagesMissing, MessageCutOff, MessageOfWrongSize, BytesLeft, BeginsWithFrame, PduFails, WrongSync, VersionCutOff, WrongVersion, SizeCutOff, SizeTooSmall, PduCutOff, WrongType, NoMessages, WrongKeepAliveCount, WrongKeepAliveSize, InCommands, InResponses, IsFirstFault, NoBytes, TooManyBytes, InPdu, ◌>>=◌, fault, number_at, least_size, content_of}
use Rattle.std.proofs.lemmas.Bool.{lt-ltb}
use Rattle.oca_pdu.specs.declared.message.Kind.TheVariants as kinds
use Rattle.oca_pdu.specs.declared.message.Content.TheVariants as contents
use Rattle.oca_pdu.specs.Faults.{IsFaultAt}
use Rattle.oca_pdu.specs.Reading.{message_at, messages_at, keep_alive_at, content_at, pdu_at, pdus_at, read_datagram}
use Rattle.oca_pdu.proofs.MessageLoop.{with_front}
use Rattle.oca_pdu.proofs.Codec.{Codec, least_command, command_kind, command_codec, response_codec}
use Rattle.oca_pdu.proofs.Encoded.{messages_before, frame_read, messages_content, keep_alive_content, command_content, pdus_before}

is_fault : {A : Type 0} (f : PduFault) (kind : PduFaultKind) (at : ℕ) → IsFaultAt f kind at → fault {A = A} kind at ≡ Err f
is_fault {A = A} f kind at e = ap (λ (k : PduFaultKind). fault {A = A} k at) (sym e.0) ∙ ap (λ (a : ℕ). fault {A = A} f.kind a) (sym e.1)

or_right : (b : Bool) → (b || true) ≡ true
or_right true = refl
or_right false = refl

some_left : (x : List ℕ) → 0 < length x → eqb (length x) 0 ≡ false
some_left x h = ne_eqb _ _ (λ e. omega (arith, e, h))

-- ---- one message

message_cut_off : (kind : Kind) (m : ℕ) (rest : List ℕ) → length rest < 4 → message_at kind m rest ≡ fault MessageSize m
unfolding message_at
message_cut_off kind m rest short =
    let a : ltb (length rest) 4 ≡ true = lt-ltb _ _ short in
    rw a refl

by_size : (kind : Kind) (m size : ℕ) (rest : List ℕ) → 4 ≤ length rest → number_at w32 0 rest ≡ size → (ltb size (least_size kind) || ltb (length rest) size) ≡ true → message_at kind m rest ≡ fault MessageSize m
unfolding message_at
by_size kind m size rest four is bad =
    let a : ltb (length rest) 4 ≡ false = le-ltb _ _ four in
    rw (a, is, bad) refl

wrong_size : (kind : Kind) (m size : ℕ) (rest behind : List ℕ) → rest ≡ to_be_bytes w32 size ++ behind → size < 2 ^ 32 → (size < least_size kind) ⊎ (length rest < size) → message_at kind m rest ≡ fault MessageSize m
wrong_size kind m size rest behind parts fits bad =
    let four : 4 ≤ length rest = omega (arith, ap length parts) in
    let is : number_at w32 0 rest ≡ size = ap (number_at w32 0) parts ∙ from_be_bytes-to_be_bytes_4 size fits in
    by_size kind m size rest four is (elim bad [
      | inl low ↦ (let a : ltb size (least_size kind) ≡ true = lt-ltb _ _ low in rw a refl)
      | inr high ↦ (let b : ltb (length rest) size ≡ true = lt-ltb _ _ high in rw b (or_right (ltb size (least_size kind))))
    ])

-- ---- messages

module _ {X : Type 0} (kind : Kind) (encoding : X → List ℕ) (Fits : X → Type 0) (say : X → Msg) (codec : Codec kind encoding Fits say) where
  fails_behind : (xs : List X) (k n p : ℕ) (body rest : List ℕ) (f : PduFault) → AllByRecursion Fits xs → body ≡ flat_map encoding xs ++ rest → k ≡ length xs + n
      → messages_at kind n p (p + 10 + length (flat_map encoding xs)) rest ≡ Err f → messages_at kind k p (p + 10) body ≡ Err f
  fails_behind xs k n p body rest f fits parts count e =
      ap (messages_at kind k p (p + 10)) parts ∙ messages_before kind encoding Fits say codec xs n k p (p + 10) rest fits count ∙ ap (with_front (map say xs)) e

  missing : (n p m : ℕ) → messages_at kind (suc n) p m [] ≡ fault Count (p + 8)
  unfolding messages_at
  missing n p m = refl

  left_over : (p m : ℕ) (rest : List ℕ) → 0 < length rest → messages_at kind 0 p m rest ≡ fault Count (p + 8)
  unfolding messages_at
  left_over p m rest some = rw (some_left rest some) refl

  first_fails : (n p m : ℕ) (rest : List ℕ) (g : PduFault) → 0 < length rest → message_at kind m rest ≡ Err g → messages_at kind (suc n) p m rest ≡ Err g
  unfolding messages_at
  first_fails n p m rest g some e = rw (some_left rest some, e) refl

  above : (n count : ℕ) → n < count → (k : ℕ) × (count ≡ n + suc k)
  above n count lt = (count - n - 1, omega arith)

  pub messages_refused : (least count p : ℕ) (body : List ℕ) (f : PduFault) → least_size kind ≡ least → MessagesFail encoding Fits least count p body f → messages_at kind count p (p + 10) body ≡ Err f
  messages_refused least count p body f le (MessagesMissing end lt is) =
      let xs = end.before in
      let k = above (length xs) count lt in
      fails_behind xs count (suc k.0) p body [] f end.each end.parts k.1
      (missing k.0 p (p + 10 + length (flat_map encoding xs)) ∙ is_fault f Count (p + 8) is)
  messages_refused least count p body f le (MessageCutOff rest here lt some short is) =
      let xs = here.before in
      let k = above (length xs) count lt in
      let m : ℕ = p + 10 + length (flat_map encoding xs) in
      fails_behind xs count (suc k.0) p body rest f here.each here.parts k.1
      (first_fails k.0 p m rest f some (message_cut_off kind m rest short ∙ is_fault f MessageSize m is))
  messages_refused least count p body f le (MessageOfWrongSize rest here size behind lt front small bad is) =
      let xs = here.before in
      let k = above (length xs) count lt in
      let m : ℕ = p + 10 + length (flat_map encoding xs) in
      let some : 0 < length rest = omega (arith, ap length front) in
      let wrong : (size < least_size kind) ⊎ (length rest < size) = rw le bad in
      fails_behind xs count (suc k.0) p body rest f here.each here.parts k.1
      (first_fails k.0 p m rest f some (wrong_size kind m size rest behind front small wrong ∙ is_fault f MessageSize m is))
  messages_refused least count p body f le (BytesLeft rest here all some is) =
      let xs = here.before in
      let k : count ≡ length xs + 0 = omega (arith, all) in
      fails_behind xs count 0 p body rest f here.each here.parts k
      (left_over p (p + 10 + length (flat_map encoding xs)) rest some ∙ is_fault f Count (p + 8) is)

-- ---- one PDU

wrong_sync : (p first : ℕ) (behind : List ℕ) → first ≢ 0x3B → pdu_at p (first ∷ behind) ≡ fault Sync p
unfolding pdu_at
wrong_sync p first behind wrong =
    let a : eqb first 0x3B ≡ false = ne_eqb _ _ wrong in
    rw a refl

version_cut_off : (p : ℕ) (bytes : List ℕ) → slice_index bytes 0 ≡ 0x3B → length bytes < 3 → pdu_at p bytes ≡ fault Truncated (p + 1)
unfolding pdu_at
version_cut_off p bytes sync short =
    let a : ltb (length bytes) 3 ≡ true = lt-ltb _ _ short in
    rw (sync, a) refl

wrong_version : (p : ℕ) (bytes : List ℕ) → slice_index bytes 0 ≡ 0x3B → 3 ≤ length bytes → number_at w16 1 bytes ≢ 1 → pdu_at p bytes ≡ fault Version (p + 1)
unfolding pdu_at
wrong_version p bytes sync long wrong =
    let a : ltb (length bytes) 3 ≡ false = le-ltb _ _ long in
    let b : eqb (number_at w16 1 bytes) 1 ≡ false = ne_eqb _ _ wrong in
    rw (sync, a, b) refl

size_cut_off : (p : ℕ) (bytes : List ℕ) → slice_index bytes 0 ≡ 0x3B → 3 ≤ length bytes → number_at w16 1 bytes ≡ 1 → length bytes < 7 → pdu_at p bytes ≡ fault Truncated (p + 3)
unfolding pdu_at
size_cut_off p bytes sync long version short =
    let a : ltb (length bytes) 3 ≡ false = le-ltb _ _ long in
    let b : ltb (length bytes) 7 ≡ true = lt-ltb _ _ short in
    rw (sync, a, version, b) refl

size_too_small : (p size : ℕ) (bytes : List ℕ) → slice_index bytes 0 ≡ 0x3B → 7 ≤ length bytes → number_at w16 1 bytes ≡ 1 → number_at w32 3 bytes ≡ size → size < 11 → pdu_at p bytes ≡ fault PduSize (p + 3)
unfolding pdu_at
size_too_small p size bytes sync long version is small =
    let a : ltb (length bytes) 3 ≡ false = le-ltb _ _ (omega (arith, long)) in
    let b : ltb (length bytes) 7 ≡ false = le-ltb _ _ long in
    let c : ltb size 11 ≡ true = lt-ltb _ _ small in
    rw (sync, a, version, b, is, c) refl

pdu_cut_off : (p size : ℕ) (bytes : List ℕ) → slice_index bytes 0 ≡ 0x3B → 7 ≤ length bytes → number_at w16 1 bytes ≡ 1 → number_at w32 3 bytes ≡ size → 11 ≤ size → length bytes < 1 + size → pdu_at p bytes ≡ fault Truncated (p + 3)
unfolding pdu_at
pdu_cut_off p size bytes sync long version is least short =
    let a : ltb (length bytes) 3 ≡ false = le-ltb _ _ (omega (arith, long)) in
    let b : ltb (length bytes) 7 ≡ false = le-ltb _ _ long in
    let c : ltb size 11 ≡ false = le-ltb _ _ least in
    let d : ltb (length bytes) (1 + size) ≡ true = lt-ltb _ _ short in
    rw (sync, a, version, b, is, c, d) refl

-- a PDU whose frame stands and whose content fails
content_fails : (p type count : ℕ) (body behind rest : List ℕ) (f : PduFault) → BeginsWithFrame type count body behind rest → content_at (content_of type) count p body ≡ Err f → pdu_at p rest ≡ Err f
content_fails p type count body behind rest f frame e =
    ap (pdu_at p) frame.parts ∙ frame_read p type count body behind frame.count_fits frame.size_fits frame.least_size ∙ ap (λ (r : Result (List Msg) PduFault). r >>= λ ms. Ok (ms, behind)) e

unknown_type : (type : ℕ) → type ≢ 0 → type ≢ 1 → type ≢ 3 → type ≢ 4 → content_of type ≡ None
unknown_type type a b c d =
    let a' : eqb type 0 ≡ false = ne_eqb _ _ a in
    let b' : eqb type 1 ≡ false = ne_eqb _ _ b in
    let c' : eqb type 3 ≡ false = ne_eqb _ _ c in
    let d' : eqb type 4 ≡ false = ne_eqb _ _ d in
    rw (a', b', c', d') refl

no_content : (count p : ℕ) (body : List ℕ) → content_at None count p body ≡ fault PduType (p + 7)
unfolding content_at
no_content count p body = refl

none_in : (o : Content) (p : ℕ) (body : List ℕ) → content_at (Some o) 0 p body ≡ fault Count (p + 8)
unfolding content_at
none_in (contents.Messages kind) p body = refl
none_in contents.KeepAlive p body = refl

none_of : (type p : ℕ) (body : List ℕ) → (type ≡ 0) ⊎ (type ≡ 1) ⊎ (type ≡ 3) ⊎ (type ≡ 4) → content_at (content_of type) 0 p body ≡ fault Count (p + 8)
none_of type p body (inl e) = ap (λ (t : ℕ). content_at (content_of t) 0 p body) e ∙ none_in (contents.Messages kinds.Command) p body
none_of type p body (inr (inl e)) = ap (λ (t : ℕ). content_at (content_of t) 0 p body) e ∙ none_in (contents.Messages kinds.CommandWithResponse) p body
none_of type p body (inr (inr (inl e))) = ap (λ (t : ℕ). content_at (content_of t) 0 p body) e ∙ none_in (contents.Messages kinds.Response) p body
none_of type p body (inr (inr (inr e))) = ap (λ (t : ℕ). content_at (content_of t) 0 p body) e ∙ none_in contents.KeepAlive p body

many_in : (count p : ℕ) (body : List ℕ) → count ≢ 1 → content_at (Some contents.KeepAlive) count p body ≡ fault Count (p + 8)
unfolding content_at
many_in count p body wrong =
    let a : eqb count 1 ≡ false = ne_eqb _ _ wrong in
    rw a refl

wrong_keep_alive : (p : ℕ) (body : List ℕ) → 9 + length body ≢ 11 → 9 + length body ≢ 13 → keep_alive_at p body ≡ fault MessageSize (p + 10)
unfolding keep_alive_at
wrong_keep_alive p body a b =
    let a' : eqb (length body) 2 ≡ false = ne_eqb _ _ (λ e. a (omega (arith, e))) in
    let b' : eqb (length body) 4 ≡ false = ne_eqb _ _ (λ e. b (omega (arith, e))) in
    rw (a', b') refl

pub pdu_refused : (p : ℕ) (rest : List ℕ) (f : PduFault) → PduFails p rest f → pdu_at p rest ≡ Err f
pdu_refused p rest f (WrongSync first behind parts wrong is) =
    ap (pdu_at p) parts ∙ wrong_sync p first behind wrong ∙ is_fault f Sync p is
pdu_refused p rest f (VersionCutOff behind parts short is) =
    ap (pdu_at p) parts ∙ version_cut_off p (0x3B ∷ behind) refl (omega (arith, short)) ∙ is_fault f Truncated (p + 1) is
pdu_refused p rest f (WrongVersion version behind parts fits wrong is) =
    let number = from_be_bytes-to_be_bytes_2 version fits in
    ap (pdu_at p) parts ∙ wrong_version p (0x3B ∷ to_be_bytes w16 version ++ behind) refl (omega arith) (λ e. wrong (sym number ∙ e)) ∙ is_fault f Version (p + 1) is
pdu_refused p rest f (SizeCutOff behind parts short is) =
    ap (pdu_at p) parts ∙ size_cut_off p (0x3B ∷ to_be_bytes w16 1 ++ behind) refl (omega arith) refl (omega (arith, short)) ∙ is_fault f Truncated (p + 3) is
pdu_refused p rest f (SizeTooSmall size behind parts small is) =
    ap (pdu_at p) parts ∙ size_too_small p size (0x3B ∷ to_be_bytes w16 1 ++ to_be_bytes w32 size ++ behind) refl (omega arith) refl (from_be_bytes-to_be_bytes_4 size (omega (arith, small))) small ∙ is_fault f PduSize (p + 3) is
pdu_refused p rest f (PduCutOff size behind parts fits least short is) =
    ap (pdu_at p) parts ∙ pdu_cut_off p size (0x3B ∷ to_be_bytes w16 1 ++ to_be_bytes w32 size ++ behind) refl (omega arith) refl (from_be_bytes-to_be_bytes_4 size fits) least (omega (arith, ap length parts, short)) ∙ is_fault f Truncated (p + 3) is
pdu_refused p rest f (WrongType type count body behind frame a b c d is) =
    content_fails p type count body behind rest f frame (ap (λ (o : Option Content). content_at o count p body) (unknown_type type a b c d) ∙ no_content count p body ∙ is_fault f PduType (p + 7) is)
pdu_refused p rest f (NoMessages type body behind frame known is) =
    content_fails p type 0 body behind rest f frame (none_of type p body known ∙ is_fault f Count (p + 8) is)
pdu_refused p rest f (WrongKeepAliveCount count body behind frame wrong is) =
    content_fails p 4 count body behind rest f frame (many_in count p body wrong ∙ is_fault f Count (p + 8) is)
pdu_refused p rest f (WrongKeepAliveSize body behind frame a b is) =
    content_fails p 4 1 body behind rest f frame (keep_alive_content p body ∙ wrong_keep_alive p body a b ∙ is_fault f MessageSize (p + 10) is)
pdu_refused p rest f (InCommands respond count body behind frame some fails) =
    content_fails p (command_type respond) count body behind rest f frame
    (ap (λ (o : Option Content). content_at o count p body) (command_content respond) ∙ messages_content (command_kind respond) count p body some
    ∙ messages_refused (command_kind respond) command_encoding CommandFits (λ c. Command respond c) (command_codec respond) 17 count p body f (least_command respond) fails)
pdu_refused p rest f (InResponses count body behind frame some fails) =
    content_fails p 3 count body behind rest f frame
    (messages_content kinds.Response count p body some ∙ messages_refused kinds.Response response_encoding ResponseFits (λ r. Response r) response_codec 10 count p body f refl fails)

-- ---- a datagram

pdu_fails_first : (k p : ℕ) (rest : List ℕ) (f : PduFault) → 0 < length rest → length rest ≤ k → pdu_at p rest ≡ Err f → pdus_at k p rest ≡ Err f
unfolding pdus_at
pdu_fails_first zero p rest f some le e = absurd (omega (arith, some, le))
pdu_fails_first (suc k) p rest f some le e = rw (some_left rest some, e) refl

pub datagram_refused : (bytes : List ℕ) (f : PduFault) → IsFirstFault bytes f → read_datagram bytes ≡ Err f
unfolding read_datagram
datagram_refused bytes f (NoBytes none is) = ap read_datagram none ∙ is_fault f Empty 0 is
datagram_refused bytes f (TooManyBytes many is) =
    let a : eqb (length bytes) 0 ≡ false = ne_eqb _ _ (λ e. omega (arith, e, many)) in
    let b : ltb 1472 (length bytes) ≡ true = lt-ltb _ _ many in
    rw (a, b) (is_fault f TooLong 1472 is)
datagram_refused bytes f (InPdu rest here short some fails) =
    let before = here.before in
    let parts = here.parts in
    let a : eqb (length bytes) 0 ≡ false = ne_eqb _ _ (λ e. omega (arith, e, some, ap length parts, length-append (flat_map pdu_encoding before) rest)) in
    let b : ltb 1472 (length bytes) ≡ false = le-ltb _ _ short in
    let all = pdus_before before (length bytes) 0 rest here.each (omega (arith, ap length parts)) in
    let at : 0 + length (flat_map pdu_encoding before) ≡ length (flat_map pdu_encoding before) = omega arith in
    let there : pdus_at all.0 (0 + length (flat_map pdu_encoding before)) rest ≡ Err f
    = ap (λ (p : ℕ). pdus_at all.0 p rest) at ∙ pdu_fails_first all.0 (length (flat_map pdu_encoding before)) rest f some all.1 (pdu_refused (length (flat_map pdu_encoding before)) rest f fails) in
    rw (a, b) (ap (pdus_at (length bytes) 0) parts ∙ all.2 ∙ ap (with_front (flat_map messages_of before)) there)
