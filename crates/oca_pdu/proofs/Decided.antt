-- Bytes are a datagram or have a first fault.
use Rattle.oca_pdu.proofs.Words.{◌≡◌, ℕ, zero, suc, ◌-◌, ◌+◌, ◌≤◌, ◌<◌, ◌^◌, Bool, true, false, List, [], ◌∷◌, ◌++◌, length, take, drop, refl, sym, ap, subst, ◌∙◌, append_assoc, arith, length-append, inl, inr, ◌⊎◌, drop-cons, ◌≢◌, slice_index, flat_map, AllByRecursion, w16, w32, to_be_bytes, from_be_bytes, cases_lt, append-nil, take-append-le, take-append-drop, length-take, length-drop, drop-drop, flat_map-append, be_bytes_2, be_bytes_4, PduFault, PduFaultKind, Empty, TooLong, Sync, Version, PduSize, PduType, Count, MessageSize, Truncated, Seconds, Millis, Kind, Msg, Command, Response, Pdu, Commands, Responses, OneKeepAlive, command_encoding, response_encoding, pdu_frame, command_type, pdu_encoding, CommandFits, ResponseFits, PduFits, IsDatagram, MessagesFail, MessagesMissing, MessageCutOff, MessageOfWrongSize, BytesLeft, BeginsWithFrame, PduFails, WrongSync, VersionCutOff, WrongVersion, SizeCutOff, SizeTooSmall, PduCutOff, WrongType, NoMessages, WrongKeepAliveCount, WrongKeepAliveSize, InCommands, InResponses, IsFirstFault, NoBytes, TooManyBytes, InPdu, number_at, least_size}
use Rattle.std.proofs.lemmas.List.{nil_from_length}
use Rattle.oca_pdu.specs.declared.message.Kind.TheVariants as kinds
use Rattle.oca_pdu.proofs.Codec.{IsBytes, IsBytes-take, IsBytes-drop, Codec, least_four, least_command, command_kind, command_codec, response_codec, below_w16, below_w32, front_w16, front_w32}
use Rattle.oca_pdu.proofs.Encoded.{pdu_some}

abbrev at_fault : PduFaultKind → ℕ → PduFault
at_fault kind at = record { kind = kind; at = at }

positive : (n : ℕ) → (n ≡ 0 → ⊥) → 0 < n
positive zero h = absurd (h refl)
positive (suc n) h = omega arith

-- a number is another, or not
same_or_not : (m n : ℕ) → (m ≡ n) ⊎ (m ≢ n)
same_or_not m n = elim (cases_lt m n) [
  | inl less ↦ inr (λ e. omega (arith, e, less))
  | inr more ↦ elim (cases_lt n m) [
    | inl less ↦ inr (λ e. omega (arith, e, less))
    | inr le ↦ inl (omega (arith, more, le))
  ]
]

-- what holds of each of two lists holds of each of both
pub each-append : {X : Type 0} (P : X → Type 0) (xs ys : List X) → AllByRecursion P xs → AllByRecursion P ys → AllByRecursion P (xs ++ ys)
each-append P [] ys all more = more
each-append P (x ∷ xs) ys all more = (all.0, each-append P xs ys all.1 more)

-- one more at the end
moved : {X : Type 0} (encoding : X → List ℕ) (xs : List X) (x : X) (all rest behind : List ℕ) → all ≡ flat_map encoding xs ++ rest → rest ≡ encoding x ++ behind → all ≡ flat_map encoding (xs ++ x ∷ []) ++ behind
moved encoding xs x all rest behind parts front =
    let one : flat_map encoding (x ∷ []) ≡ encoding x = append-nil (encoding x) in
    let joined : flat_map encoding (xs ++ x ∷ []) ≡ flat_map encoding xs ++ encoding x = flat_map-append encoding xs (x ∷ []) ∙ ap (λ (l : List ℕ). flat_map encoding xs ++ l) one in
    parts ∙ ap (λ (l : List ℕ). flat_map encoding xs ++ l) front ∙ sym (append_assoc (flat_map encoding xs) (encoding x) behind) ∙ ap (λ (l : List ℕ). l ++ behind) (sym joined)

-- ---- messages

-- how bytes begin that are to begin with a message
data Front {X : Type 0} (encoding : X → List ℕ) (Fits : X → Type 0) (least : ℕ) (rest : List ℕ) : Type 0 where
  IsShort : length rest < 4 → Front encoding Fits least rest
  IsWrong : (size : ℕ) (behind : List ℕ) → rest ≡ to_be_bytes w32 size ++ behind → size < 2 ^ 32 → (size < least) ⊎ (length rest < size) → Front encoding Fits least rest
  IsWhole : (x : X) (behind : List ℕ) → Fits x → rest ≡ encoding x ++ behind → IsBytes behind → Front encoding Fits least rest

module _ {X : Type 0} (kind : Kind) (encoding : X → List ℕ) (Fits : X → Type 0) (say : X → Msg) (codec : Codec kind encoding Fits say) where
  whole : (rest : List ℕ) (size : ℕ) → IsBytes rest → number_at w32 0 rest ≡ size → least_size kind ≤ size → size ≤ length rest → Front encoding Fits (least_size kind) rest
  whole rest size fits is least inside =
      let len : length (take size rest) ≡ size = omega (arith, length-take size rest, inside) in
      let four : 4 ≤ length (take size rest) = omega (arith, len, least, least_four kind) in
      let same : take 4 (take size rest) ≡ take 4 rest = sym (take-append-le 4 (take size rest) (drop size rest) four) ∙ ap (take 4) (take-append-drop size rest) in
      let x = codec.found (take size rest) (IsBytes-take size rest fits) (omega (arith, len, least)) (ap (from_be_bytes w32) same ∙ is ∙ sym len) in
      IsWhole x.0 (drop size rest) x.1 (sym (take-append-drop size rest) ∙ ap (λ (l : List ℕ). l ++ drop size rest) (sym x.2)) (IsBytes-drop size rest fits)

  front : (rest : List ℕ) → IsBytes rest → Front encoding Fits (least_size kind) rest
  front rest fits = elim (cases_lt (length rest) 4) [
    | inl short ↦ IsShort short
    | inr four ↦
        let size : ℕ = number_at w32 0 rest in
        let parts = front_w32 rest fits four in
        let below = below_w32 0 rest fits in
        elim (cases_lt size (least_size kind)) [
          | inl low ↦ IsWrong size (drop 4 rest) parts below (inl low)
          | inr least ↦ elim (cases_lt (length rest) size) [
            | inl high ↦ IsWrong size (drop 4 rest) parts below (inr high)
            | inr inside ↦ whole rest size fits refl least inside
          ]
        ]
  ]

  abbrev AreMessages : ℕ → List ℕ → Type 0
  AreMessages count body = (xs : List X) × AllByRecursion Fits xs × (length xs ≡ count) × (body ≡ flat_map encoding xs)

  go : (n count p : ℕ) (body : List ℕ) (xs : List X) (rest : List ℕ) → AllByRecursion Fits xs → body ≡ flat_map encoding xs ++ rest → length xs + n ≡ count → IsBytes rest
      → AreMessages count body ⊎ ((f : PduFault) × MessagesFail encoding Fits (least_size kind) count p body f)
  go zero count p body xs rest all parts are fits = elim (same_or_not (length rest) 0) [
    | inl none ↦ inl (xs, all, omega (arith, are), parts ∙ ap (λ (l : List ℕ). flat_map encoding xs ++ l) (nil_from_length rest none) ∙ append-nil (flat_map encoding xs))
    | inr some ↦ inr (at_fault Count (p + 8), BytesLeft rest (record { before = xs; each = all; parts = parts }) (omega (arith, are)) (positive _ some) (refl, refl))
  ]
  go (suc n) count p body xs rest all parts are fits = elim (same_or_not (length rest) 0) [
    | inl none ↦ inr (at_fault Count (p + 8), MessagesMissing (record { before = xs; each = all; parts = parts ∙ ap (λ (l : List ℕ). flat_map encoding xs ++ l) (nil_from_length rest none) }) (omega (arith, are)) (refl, refl))
    | inr some ↦
        let m : ℕ = p + 10 + length (flat_map encoding xs) in
        elim (front rest fits) [
          | IsShort short ↦ inr (at_fault MessageSize m, MessageCutOff rest (record { before = xs; each = all; parts = parts }) (omega (arith, are)) (positive _ some) short (refl, refl))
          | IsWrong size behind begins below wrong ↦ inr (at_fault MessageSize m, MessageOfWrongSize rest (record { before = xs; each = all; parts = parts }) size behind (omega (arith, are)) begins below wrong (refl, refl))
          | IsWhole x behind ok begins more ↦
              go n count p body (xs ++ x ∷ []) behind (each-append Fits xs (x ∷ []) all (ok, tt)) (moved encoding xs x body rest behind parts begins) (omega (arith, are, length-append xs (x ∷ []))) more
        ]
  ]

  pub messages_decided : (count p : ℕ) (body : List ℕ) → IsBytes body → AreMessages count body ⊎ ((f : PduFault) × MessagesFail encoding Fits (least_size kind) count p body f)
  messages_decided count p body fits = go count count p body [] body tt refl (omega arith) fits

-- ---- the frame of a PDU

pub record HasFrame (rest : List ℕ) : Type 0 where
  pub type : ℕ
  pub count : ℕ
  pub body : List ℕ
  pub behind : List ℕ
  pub begins : BeginsWithFrame type count body behind rest
  pub body_fits : IsBytes body
  pub behind_fits : IsBytes behind

abbrev FrameOrFault : ℕ → List ℕ → Type 0
FrameOrFault p rest = HasFrame rest ⊎ ((f : PduFault) × PduFails p rest f)

-- the inside of a PDU of this size: PduType, MessageCount, messages
inside_parts : (size : ℕ) (inside : List ℕ) → IsBytes inside → 11 ≤ size → length inside ≡ size - 6
    → inside ≡ slice_index inside 0 ∷ (to_be_bytes w16 (number_at w16 0 (drop 1 inside)) ++ drop 3 inside)
inside_parts size inside fits least len =
    drop-cons inside 0 0 (omega (arith, len, least))
    ∙ ap (λ (l : List ℕ). slice_index inside 0 ∷ l) (front_w16 (drop 1 inside) (IsBytes-drop 1 inside fits) (omega (arith, len, least, length-drop 1 inside)))
    ∙ ap (λ (l : List ℕ). slice_index inside 0 ∷ (to_be_bytes w16 (number_at w16 0 (drop 1 inside)) ++ l)) (drop-drop 2 1 inside)

frame_parts : (type count size : ℕ) (body inside behind more rest : List ℕ) → rest ≡ 0x3B ∷ to_be_bytes w16 1 ++ to_be_bytes w32 size ++ more → more ≡ inside ++ behind → inside ≡ type ∷ (to_be_bytes w16 count ++ body) → size ≡ 9 + length body
    → rest ≡ pdu_frame type count body ++ behind
frame_parts type count size body inside behind more rest e1 e2 e3 e4 =
    e1 ∙ ap (λ (l : List ℕ). 0x3B ∷ to_be_bytes w16 1 ++ to_be_bytes w32 size ++ l) (e2 ∙ ap (λ (l : List ℕ). l ++ behind) e3)
    ∙ ap (λ (n : ℕ). 0x3B ∷ to_be_bytes w16 1 ++ to_be_bytes w32 n ++ ((type ∷ (to_be_bytes w16 count ++ body)) ++ behind)) e4

framed : (size : ℕ) (more rest : List ℕ) → IsBytes more → rest ≡ 0x3B ∷ to_be_bytes w16 1 ++ to_be_bytes w32 size ++ more → size < 2 ^ 32 → 11 ≤ size → size - 6 ≤ length more → HasFrame rest
framed size more rest fits parts below least within =
    let inside : List ℕ = take (size - 6) more in
    let inside_fits : IsBytes inside = IsBytes-take (size - 6) more fits in
    let len : length inside ≡ size - 6 = omega (arith, length-take (size - 6) more, within) in
    let body : List ℕ = drop 3 inside in
    let count : ℕ = number_at w16 0 (drop 1 inside) in
    let is : size ≡ 9 + length body = omega (arith, length-drop 3 inside, len, least) in
    record {
      type = slice_index inside 0;
      count = count;
      body = body;
      behind = drop (size - 6) more;
      begins = record {
        parts = frame_parts (slice_index inside 0) count size body inside (drop (size - 6) more) more rest parts (sym (take-append-drop (size - 6) more)) (inside_parts size inside inside_fits least len) is;
        count_fits = below_w16 0 (drop 1 inside) (IsBytes-drop 1 inside inside_fits);
        size_fits = omega (arith, is, below);
        least_size = omega (arith, is, least);
      };
      body_fits = IsBytes-drop 3 inside inside_fits;
      behind_fits = IsBytes-drop (size - 6) more fits;
    }

by_size : (p : ℕ) (after rest : List ℕ) → IsBytes after → rest ≡ 0x3B ∷ to_be_bytes w16 1 ++ after → FrameOrFault p rest
by_size p after rest fits parts = elim (cases_lt (length after) 4) [
  | inl short ↦ inr (at_fault Truncated (p + 3), SizeCutOff after parts short (refl, refl))
  | inr four ↦
      let size : ℕ = number_at w32 0 after in
      let more : List ℕ = drop 4 after in
      let below = below_w32 0 after fits in
      let begins : rest ≡ 0x3B ∷ to_be_bytes w16 1 ++ to_be_bytes w32 size ++ more = parts ∙ ap (λ (l : List ℕ). 0x3B ∷ to_be_bytes w16 1 ++ l) (front_w32 after fits four) in
      elim (cases_lt size 11) [
        | inl small ↦ inr (at_fault PduSize (p + 3), SizeTooSmall size more begins small (refl, refl))
        | inr least ↦ elim (cases_lt (length rest) (1 + size)) [
          | inl beyond ↦ inr (at_fault Truncated (p + 3), PduCutOff size more begins below least beyond (refl, refl))
          | inr within ↦ inl (framed size more rest (IsBytes-drop 4 after fits) begins below least (omega (arith, ap length begins, within, least)))
        ]
      ]
]

by_version : (p : ℕ) (after rest : List ℕ) → IsBytes after → rest ≡ 0x3B ∷ after → FrameOrFault p rest
by_version p after rest fits parts = elim (cases_lt (length after) 2) [
  | inl short ↦ inr (at_fault Truncated (p + 1), VersionCutOff after parts short (refl, refl))
  | inr two ↦
      let version : ℕ = number_at w16 0 after in
      let begins : rest ≡ 0x3B ∷ to_be_bytes w16 version ++ drop 2 after = parts ∙ ap (λ (l : List ℕ). 0x3B ∷ l) (front_w16 after fits two) in
      elim (same_or_not version 1) [
        | inl one ↦ by_size p (drop 2 after) rest (IsBytes-drop 2 after fits) (begins ∙ ap (λ (v : ℕ). 0x3B ∷ to_be_bytes w16 v ++ drop 2 after) one)
        | inr other ↦ inr (at_fault Version (p + 1), WrongVersion version (drop 2 after) begins (below_w16 0 after fits) other (refl, refl))
      ]
]

frame_decided : (p : ℕ) (rest : List ℕ) → IsBytes rest → 0 < length rest → FrameOrFault p rest
frame_decided p [] fits some = absurd (omega (arith, some))
frame_decided p (first ∷ after) fits some = elim (same_or_not first 0x3B) [
  | inl sync ↦ by_version p after (first ∷ after) (λ i. fits (suc i)) (ap (λ (b : ℕ). b ∷ after) sync)
  | inr other ↦ inr (at_fault Sync p, WrongSync first after refl other (refl, refl))
]

-- ---- one PDU

pub record HasPdu (rest : List ℕ) : Type 0 where
  pub pdu : Pdu
  pub behind : List ℕ
  pub fits : PduFits pdu
  pub parts : rest ≡ pdu_encoding pdu ++ behind
  pub behind_fits : IsBytes behind

abbrev PduOrFault : ℕ → List ℕ → Type 0
PduOrFault p rest = HasPdu rest ⊎ ((f : PduFault) × PduFails p rest f)

commands_decided : (respond : Bool) (p count : ℕ) (body behind rest : List ℕ) → BeginsWithFrame (command_type respond) count body behind rest → IsBytes body → IsBytes behind → count ≢ 0 → PduOrFault p rest
commands_decided respond p count body behind rest frame fits behind_fits some =
    elim (messages_decided (command_kind respond) command_encoding CommandFits (λ c. Command respond c) (command_codec respond) count p body fits) [
      | inl are ↦ inl (record {
        pdu = Commands respond are.0;
        behind = behind;
        fits = (omega (arith, are.2, positive count some), omega (arith, are.2, frame.count_fits), are.1, omega (arith, ap length are.3, frame.size_fits));
        parts = frame.parts ∙ ap (λ (n : ℕ). pdu_frame (command_type respond) n body ++ behind) (sym are.2) ∙ ap (λ (b : List ℕ). pdu_frame (command_type respond) (length are.0) b ++ behind) are.3;
        behind_fits = behind_fits;
      })
      | inr fail ↦ inr (fail.0, InCommands respond count body behind frame some (subst (λ (n : ℕ). MessagesFail command_encoding CommandFits n count p body fail.0) (least_command respond) fail.1))
    ]

responses_decided : (p count : ℕ) (body behind rest : List ℕ) → BeginsWithFrame 3 count body behind rest → IsBytes body → IsBytes behind → count ≢ 0 → PduOrFault p rest
responses_decided p count body behind rest frame fits behind_fits some =
    elim (messages_decided kinds.Response response_encoding ResponseFits (λ r. Response r) response_codec count p body fits) [
      | inl are ↦ inl (record {
        pdu = Responses are.0;
        behind = behind;
        fits = (omega (arith, are.2, positive count some), omega (arith, are.2, frame.count_fits), are.1, omega (arith, ap length are.3, frame.size_fits));
        parts = frame.parts ∙ ap (λ (n : ℕ). pdu_frame 3 n body ++ behind) (sym are.2) ∙ ap (λ (b : List ℕ). pdu_frame 3 (length are.0) b ++ behind) are.3;
        behind_fits = behind_fits;
      })
      | inr fail ↦ inr (fail.0, InResponses count body behind frame some fail.1)
    ]

keep_alive_is : (p : ℕ) (body behind rest : List ℕ) → BeginsWithFrame 4 1 body behind rest → IsBytes body → IsBytes behind → PduOrFault p rest
keep_alive_is p body behind rest frame fits behind_fits =
    elim (same_or_not (length body) 2) [
      | inl two ↦
          let is : body ≡ to_be_bytes w16 (from_be_bytes w16 body) = sym (be_bytes_2 body _ two fits refl) in
          let below : from_be_bytes w16 body < 2 ^ 16 = omega (arith, fits 0, fits 1) in
          inl (record { pdu = OneKeepAlive (Seconds (from_be_bytes w16 body)); behind = behind; fits = below; parts = frame.parts ∙ ap (λ (b : List ℕ). pdu_frame 4 1 b ++ behind) is; behind_fits = behind_fits })
      | inr a ↦ elim (same_or_not (length body) 4) [
        | inl four ↦
            let is : body ≡ to_be_bytes w32 (from_be_bytes w32 body) = sym (be_bytes_4 body _ four fits refl) in
            let below : from_be_bytes w32 body < 2 ^ 32 = omega (arith, fits 0, fits 1, fits 2, fits 3) in
            inl (record { pdu = OneKeepAlive (Millis (from_be_bytes w32 body)); behind = behind; fits = below; parts = frame.parts ∙ ap (λ (b : List ℕ). pdu_frame 4 1 b ++ behind) is; behind_fits = behind_fits })
        | inr b ↦ inr (at_fault MessageSize (p + 10), WrongKeepAliveSize body behind frame (λ e. a (omega (arith, e))) (λ e. b (omega (arith, e))) (refl, refl))
      ]
    ]

keep_alive_decided : (p count : ℕ) (body behind rest : List ℕ) → BeginsWithFrame 4 count body behind rest → IsBytes body → IsBytes behind → PduOrFault p rest
keep_alive_decided p count body behind rest frame fits behind_fits =
    elim (same_or_not count 1) [
      | inl one ↦ keep_alive_is p body behind rest (subst (λ (n : ℕ). BeginsWithFrame 4 n body behind rest) one frame) fits behind_fits
      | inr other ↦ inr (at_fault Count (p + 8), WrongKeepAliveCount count body behind frame other (refl, refl))
    ]

abbrev IsType : ℕ → Type 0
IsType type = (type ≡ 0) ⊎ (type ≡ 1) ⊎ (type ≡ 3) ⊎ (type ≡ 4)

by_type : (p type count : ℕ) (body behind rest : List ℕ) → BeginsWithFrame type count body behind rest → IsBytes body → IsBytes behind → count ≢ 0 → IsType type → PduOrFault p rest
by_type p type count body behind rest frame fits behind_fits some (inl e) = commands_decided false p count body behind rest (subst (λ (t : ℕ). BeginsWithFrame t count body behind rest) e frame) fits behind_fits some
by_type p type count body behind rest frame fits behind_fits some (inr (inl e)) = commands_decided true p count body behind rest (subst (λ (t : ℕ). BeginsWithFrame t count body behind rest) e frame) fits behind_fits some
by_type p type count body behind rest frame fits behind_fits some (inr (inr (inl e))) = responses_decided p count body behind rest (subst (λ (t : ℕ). BeginsWithFrame t count body behind rest) e frame) fits behind_fits some
by_type p type count body behind rest frame fits behind_fits some (inr (inr (inr e))) = keep_alive_decided p count body behind rest (subst (λ (t : ℕ). BeginsWithFrame t count body behind rest) e frame) fits behind_fits

known : (type : ℕ) → IsType type ⊎ ((type ≢ 0) × (type ≢ 1) × (type ≢ 3) × (type ≢ 4))
known type = elim (same_or_not type 0) [
  | inl e ↦ inl (inl e)
  | inr a ↦ elim (same_or_not type 1) [
    | inl e ↦ inl (inr (inl e))
    | inr b ↦ elim (same_or_not type 3) [
      | inl e ↦ inl (inr (inr (inl e)))
      | inr c ↦ elim (same_or_not type 4) [
        | inl e ↦ inl (inr (inr (inr e)))
        | inr d ↦ inr (a, b, c, d)
      ]
    ]
  ]
]

in_frame : (p : ℕ) (rest : List ℕ) → HasFrame rest → PduOrFault p rest
in_frame p rest h = elim (known h.type) [
  | inl type ↦ elim (same_or_not h.count 0) [
    | inl none ↦ inr (at_fault Count (p + 8), NoMessages h.type h.body h.behind (subst (λ (n : ℕ). BeginsWithFrame h.type n h.body h.behind rest) none h.begins) type (refl, refl))
    | inr some ↦ by_type p h.type h.count h.body h.behind rest h.begins h.body_fits h.behind_fits some type
  ]
  | inr other ↦ inr (at_fault PduType (p + 7), WrongType h.type h.count h.body h.behind h.begins other.0 other.1 other.2 other.3 (refl, refl))
]

pdu_decided : (p : ℕ) (rest : List ℕ) → IsBytes rest → 0 < length rest → PduOrFault p rest
pdu_decided p rest fits some = elim (frame_decided p rest fits some) [
  | inl frame ↦ in_frame p rest frame
  | inr fail ↦ inr fail
]

-- ---- a datagram

abbrev DatagramOrFault : List ℕ → Type 0
DatagramOrFault bytes = ((ps : List Pdu) × IsDatagram ps bytes) ⊎ ((f : PduFault) × IsFirstFault bytes f)

some_pdu : (qs : List Pdu) → 0 < length (flat_map pdu_encoding qs) → 0 < length qs
some_pdu [] h = absurd (omega (arith, h))
some_pdu (q ∷ qs) h = omega arith

is_datagram : (bytes : List ℕ) (qs : List Pdu) (rest : List ℕ) → 0 < length bytes → length bytes ≤ 1472 → AllByRecursion PduFits qs → bytes ≡ flat_map pdu_encoding qs ++ rest → length rest ≡ 0 → DatagramOrFault bytes
is_datagram bytes qs rest some short all parts none =
    let whole : bytes ≡ flat_map pdu_encoding qs = parts ∙ ap (λ (l : List ℕ). flat_map pdu_encoding qs ++ l) (nil_from_length rest none) ∙ append-nil (flat_map pdu_encoding qs) in
    inl (qs, record { nonempty = some_pdu qs (omega (arith, ap length whole, some)); well_formed = all; bytes_are = whole; within_limit = short })

go_on : (n : ℕ) (bytes : List ℕ) (qs : List Pdu) (rest : List ℕ) → 0 < length bytes → length bytes ≤ 1472 → AllByRecursion PduFits qs → bytes ≡ flat_map pdu_encoding qs ++ rest → length rest ≤ n → IsBytes rest → DatagramOrFault bytes
go_on zero bytes qs rest some short all parts le fits = is_datagram bytes qs rest some short all parts (omega (arith, le))
go_on (suc n) bytes qs rest some short all parts le fits = elim (same_or_not (length rest) 0) [
  | inl none ↦ is_datagram bytes qs rest some short all parts none
  | inr more ↦
      elim (pdu_decided (length (flat_map pdu_encoding qs)) rest fits (positive _ more)) [
        | inl first ↦
            go_on n bytes (qs ++ first.pdu ∷ []) first.behind some short (each-append PduFits qs (first.pdu ∷ []) all (first.fits, tt)) (moved pdu_encoding qs first.pdu bytes rest first.behind parts first.parts)
            (omega (arith, le, ap length first.parts, length-append (pdu_encoding first.pdu) first.behind, pdu_some first.pdu)) first.behind_fits
        | inr fail ↦ inr (fail.0, InPdu rest (record { before = qs; each = all; parts = parts }) short (positive _ more) fail.1)
      ]
]

-- bytes are a datagram or have a first fault
pub datagram_decided : (bytes : List ℕ) → IsBytes bytes → DatagramOrFault bytes
datagram_decided bytes fits = elim (same_or_not (length bytes) 0) [
  | inl none ↦ inr (at_fault Empty 0, NoBytes (nil_from_length bytes none) (refl, refl))
  | inr some ↦ elim (cases_lt 1472 (length bytes)) [
    | inl many ↦ inr (at_fault TooLong 1472, TooManyBytes many (refl, refl))
    | inr short ↦ go_on (length bytes) bytes [] bytes (positive _ some) short tt refl (omega arith) fits
  ]
]
