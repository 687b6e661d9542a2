-- What is encoded is read.
use Rattle.oca_pdu.proofs.Words.{◌≡◌, ℕ, zero, suc, ◌-◌, ◌+◌, ◌≤◌, ◌<◌, ◌^◌, Bool, true, false, eqb, ltb, List, [], ◌∷◌, ◌++◌, length, take, drop, map, Result, Ok, Err, refl, sym, ap, ◌∙◌, append_assoc, arith, length-append, eq-eqb, Some, slice_index, flat_map, AllByRecursion, w16, w32, le-ltb, ne_eqb, take_at, drop_at, append-nil, flat_map-cons, from_be_bytes-to_be_bytes_2, from_be_bytes-to_be_bytes_4, CommandFields, PduFault, Kind, Form, Seconds, Millis, Msg, Command, Response, KeepAlive, ResponseFields, Pdu, Commands, Responses, OneKeepAlive, messages_of, command_encoding, response_encoding, pdu_frame, command_type, pdu_encoding, CommandFits, ResponseFits, PduFits, IsDatagram, ◌>>=◌, number_at, content_of}
use Rattle.oca_pdu.specs.declared.message.Kind.TheVariants as kinds
use Rattle.oca_pdu.specs.declared.message.Content.TheVariants as contents
use Rattle.oca_pdu.specs.Encoding.{keep_alive_encoding, FormFits}
use Rattle.oca_pdu.specs.Reading.{messages_at, keep_alive_at, content_at, inside_at, pdu_at, pdus_at, read_datagram}
use Rattle.oca_pdu.proofs.MessageLoop.{with_front, no_front}
use Rattle.oca_pdu.proofs.Codec.{Codec, least_four, message_again, command_kind, command_codec, response_codec}

pub longer : (x y : List ℕ) → 0 < length x → eqb (length (x ++ y)) 0 ≡ false
longer x y h = ne_eqb _ _ (λ e. omega (arith, e, length-append x y, h))

-- ---- messages, with a rest behind them that n messages are read of

cons_front : (first : Msg) (front : List Msg) (read : Result (List Msg) PduFault) → (with_front front read >>= λ others. Ok (first ∷ others)) ≡ with_front (first ∷ front) read
cons_front first front (Ok ms) = refl
cons_front first front (Err f) = refl

module _ {X : Type 0} (kind : Kind) (encoding : X → List ℕ) (Fits : X → Type 0) (say : X → Msg) (codec : Codec kind encoding Fits say) where
  some : (x : X) → 0 < length (encoding x)
  some x = omega (arith, codec.long x, least_four kind)

  one_read : (x : X) (k p m : ℕ) (more : List ℕ) → Fits x
      → messages_at kind (suc k) p m (encoding x ++ more) ≡ (messages_at kind k p (m + length (encoding x)) more >>= λ others. Ok (say x ∷ others))
  unfolding messages_at
  one_read x k p m more fits =
      let there : eqb (length (encoding x ++ more)) 0 ≡ false = longer (encoding x) more (some x) in
      let at : length (encoding x ++ more) - length more ≡ length (encoding x) = omega (arith, length-append (encoding x) more) in
      rw (there, message_again kind encoding Fits say codec x m more fits, at) refl

  pub messages_before : (xs : List X) (n k p m : ℕ) (rest : List ℕ) → AllByRecursion Fits xs → k ≡ length xs + n
      → messages_at kind k p m (flat_map encoding xs ++ rest) ≡ with_front (map say xs) (messages_at kind n p (m + length (flat_map encoding xs)) rest)
  messages_before [] n k p m rest fits e =
      let same : k ≡ n = omega (arith, e) in
      let at : m + 0 ≡ m = omega arith in
      rw (same, at) (sym (no_front (messages_at kind n p m rest)))
  messages_before (x ∷ xs) n k p m rest fits e =
      let more : List ℕ = flat_map encoding xs ++ rest in
      let next : k ≡ suc (length xs + n) = omega (arith, e) in
      let bytes : flat_map encoding (x ∷ xs) ++ rest ≡ encoding x ++ more = ap (λ (l : List ℕ). l ++ rest) (flat_map-cons encoding x xs) ∙ append_assoc (encoding x) (flat_map encoding xs) rest in
      let at : m + length (encoding x) + length (flat_map encoding xs) ≡ m + length (flat_map encoding (x ∷ xs)) = omega (arith, ap length (flat_map-cons encoding x xs), length-append (encoding x) (flat_map encoding xs)) in
      let others = messages_before xs n (length xs + n) p (m + length (encoding x)) rest fits.1 refl in
      let step : messages_at kind k p m (flat_map encoding (x ∷ xs) ++ rest) ≡ (messages_at kind (length xs + n) p (m + length (encoding x)) more >>= λ others. Ok (say x ∷ others))
      = ap (λ (j : ℕ). messages_at kind j p m (flat_map encoding (x ∷ xs) ++ rest)) next ∙ ap (messages_at kind (suc (length xs + n)) p m) bytes ∙ one_read x (length xs + n) p m more fits.0 in
      step ∙ ap (λ (r : Result (List Msg) PduFault). r >>= λ others. Ok (say x ∷ others)) others
      ∙ cons_front (say x) (map say xs) (messages_at kind n p (m + length (encoding x) + length (flat_map encoding xs)) rest)
      ∙ ap (λ (a : ℕ). with_front (map say (x ∷ xs)) (messages_at kind n p a rest)) at

  none_read : (p m : ℕ) → messages_at kind 0 p m [] ≡ Ok []
  unfolding messages_at
  none_read p m = refl

  pub messages_again : (xs : List X) (p m : ℕ) → AllByRecursion Fits xs → messages_at kind (length xs) p m (flat_map encoding xs) ≡ Ok (map say xs)
  messages_again xs p m fits =
      let count : length xs ≡ length xs + 0 = omega arith in
      ap (messages_at kind (length xs) p m) (sym (append-nil (flat_map encoding xs)))
      ∙ messages_before xs 0 (length xs) p m [] fits count
      ∙ ap (with_front (map say xs)) (none_read p (m + length (flat_map encoding xs)))
      ∙ ap (λ (ms : List Msg). Ok ms) (append-nil (map say xs))

pub keep_alive_again : (form : Form) (p : ℕ) → FormFits form → keep_alive_at p (keep_alive_encoding form) ≡ Ok (KeepAlive form ∷ [])
unfolding keep_alive_at
keep_alive_again (Seconds n) p fits = ap (λ (k : ℕ). Ok (KeepAlive (Seconds k) ∷ [])) (from_be_bytes-to_be_bytes_2 n fits)
keep_alive_again (Millis n) p fits = ap (λ (k : ℕ). Ok (KeepAlive (Millis k) ∷ [])) (from_be_bytes-to_be_bytes_4 n fits)

-- ---- one PDU

same : (n : ℕ) → eqb n n ≡ true
same n = eq-eqb n n refl

-- a header whose first fields hold
pub opens : (p size : ℕ) (bytes : List ℕ) → slice_index bytes 0 ≡ 0x3B → number_at w16 1 bytes ≡ 1 → number_at w32 3 bytes ≡ size → 11 ≤ size → 1 + size ≤ length bytes
    → pdu_at p bytes ≡ (inside_at p (take (1 + size) bytes) >>= λ ms. Ok (ms, drop (1 + size) bytes))
unfolding pdu_at
opens p size bytes sync version is least inside =
    let a : ltb (length bytes) 3 ≡ false = le-ltb _ _ (omega (arith, least, inside)) in
    let b : ltb (length bytes) 7 ≡ false = le-ltb _ _ (omega (arith, least, inside)) in
    let c : ltb size 11 ≡ false = le-ltb _ _ least in
    let d : ltb (length bytes) (1 + size) ≡ false = le-ltb _ _ inside in
    rw (sync, a, version, b, is, c, d) refl

inside_frame : (p type count : ℕ) (body : List ℕ) → count < 2 ^ 16 → inside_at p (pdu_frame type count body) ≡ content_at (content_of type) count p body
unfolding inside_at
inside_frame p type count body fits = ap (λ (n : ℕ). content_at (content_of type) n p body) (from_be_bytes-to_be_bytes_2 count fits)

-- the frame of a PDU
pub frame_read : (p type count : ℕ) (body behind : List ℕ) → count < 2 ^ 16 → 9 + length body < 2 ^ 32 → 11 ≤ 9 + length body
    → pdu_at p (pdu_frame type count body ++ behind) ≡ (content_at (content_of type) count p body >>= λ ms. Ok (ms, behind))
frame_read p type count body behind count_fits size_fits least =
    let size : ℕ = 9 + length body in
    let len : length (pdu_frame type count body) ≡ 1 + size = omega arith in
    let front : take (1 + size) (pdu_frame type count body ++ behind) ≡ pdu_frame type count body = take_at (pdu_frame type count body) behind (1 + size) len in
    let back : drop (1 + size) (pdu_frame type count body ++ behind) ≡ behind = drop_at (pdu_frame type count body) behind (1 + size) len in
    opens p size (pdu_frame type count body ++ behind) refl refl (from_be_bytes-to_be_bytes_4 size size_fits) least (omega (arith, len, length-append (pdu_frame type count body) behind))
    ∙ ap (λ (b : List ℕ). inside_at p (take (1 + size) (pdu_frame type count body ++ behind)) >>= λ ms. Ok (ms, b)) back
    ∙ ap (λ (b : List ℕ). inside_at p b >>= λ ms. Ok (ms, behind)) front
    ∙ ap (λ (r : Result (List Msg) PduFault). r >>= λ ms. Ok (ms, behind)) (inside_frame p type count body count_fits)

-- the content of a PDU with messages is read as those
pub messages_content : (kind : Kind) (count p : ℕ) (body : List ℕ) → (count ≡ 0 → ⊥) → content_at (Some (contents.Messages kind)) count p body ≡ messages_at kind count p (p + 10) body
unfolding content_at
messages_content kind count p body some =
    let a : eqb count 0 ≡ false = ne_eqb _ _ some in
    rw a refl

-- the content of a keep-alive is read as that
pub keep_alive_content : (p : ℕ) (body : List ℕ) → content_at (Some contents.KeepAlive) 1 p body ≡ keep_alive_at p body
unfolding content_at
keep_alive_content p body = refl

-- a command's PduType has commands as its content
pub command_content : (respond : Bool) → content_of (command_type respond) ≡ Some (contents.Messages (command_kind respond))
command_content false = refl
command_content true = refl

commands_len : (cs : List CommandFields) → 0 < length cs → 2 ≤ length (flat_map command_encoding cs)
commands_len [] h = absurd (omega (arith, h))
commands_len (c ∷ cs) h = omega (arith, ap length (flat_map-cons command_encoding c cs), length-append (command_encoding c) (flat_map command_encoding cs))

responses_len : (rs : List ResponseFields) → 0 < length rs → 2 ≤ length (flat_map response_encoding rs)
responses_len [] h = absurd (omega (arith, h))
responses_len (r ∷ rs) h = omega (arith, ap length (flat_map-cons response_encoding r rs), length-append (response_encoding r) (flat_map response_encoding rs))

keep_alive_len : (form : Form) → (11 ≤ 9 + length (keep_alive_encoding form)) × (9 + length (keep_alive_encoding form) < 2 ^ 32)
keep_alive_len (Seconds n) = (omega arith, omega arith)
keep_alive_len (Millis n) = (omega arith, omega arith)

not_none : (n : ℕ) → 0 < n → n ≡ 0 → ⊥
not_none n lt e = omega (arith, lt, e)

abbrev with_rest : List ℕ → Result (List Msg) PduFault → Result (List Msg × List ℕ) PduFault
with_rest rest read = read >>= λ ms. Ok (ms, rest)

pub pdu_again : (q : Pdu) (p : ℕ) (rest : List ℕ) → PduFits q → pdu_at p (pdu_encoding q ++ rest) ≡ Ok (messages_of q, rest)
pdu_again (Commands respond cs) p rest fits =
    let body : List ℕ = flat_map command_encoding cs in
    frame_read p (command_type respond) (length cs) body rest fits.1 fits.3 (omega (arith, commands_len cs fits.0))
    ∙ ap (λ o. with_rest rest (content_at o (length cs) p body)) (command_content respond)
    ∙ ap (with_rest rest) (messages_content (command_kind respond) (length cs) p body (not_none _ fits.0) ∙ messages_again (command_kind respond) command_encoding CommandFits (λ c. Command respond c) (command_codec respond) cs p (p + 10) fits.2)
pdu_again (Responses rs) p rest fits =
    let body : List ℕ = flat_map response_encoding rs in
    frame_read p 3 (length rs) body rest fits.1 fits.3 (omega (arith, responses_len rs fits.0))
    ∙ ap (with_rest rest) (messages_content kinds.Response (length rs) p body (not_none _ fits.0) ∙ messages_again kinds.Response response_encoding ResponseFits (λ r. Response r) response_codec rs p (p + 10) fits.2)
pdu_again (OneKeepAlive form) p rest fits =
    frame_read p 4 1 (keep_alive_encoding form) rest (omega arith) (keep_alive_len form).1 (keep_alive_len form).0
    ∙ ap (with_rest rest) (keep_alive_content p (keep_alive_encoding form) ∙ keep_alive_again form p fits)

-- a PDU has at least one byte
pub pdu_some : (q : Pdu) → 0 < length (pdu_encoding q)
pdu_some (Commands respond cs) = omega arith
pdu_some (Responses rs) = omega arith
pdu_some (OneKeepAlive form) = omega arith

-- ---- PDUs, with a rest behind them

append_front : (these front : List Msg) (read : Result (List Msg) PduFault) → (with_front front read >>= λ others. Ok (these ++ others)) ≡ with_front (these ++ front) read
append_front these front (Ok ms) = ap (λ (x : List Msg). Ok x) (sym (append_assoc these front ms))
append_front these front (Err f) = refl

one_pdu_read : (q : Pdu) (n p : ℕ) (more : List ℕ) → PduFits q
    → pdus_at (suc n) p (pdu_encoding q ++ more) ≡ (pdus_at n (p + length (pdu_encoding q)) more >>= λ others. Ok (messages_of q ++ others))
unfolding pdus_at
one_pdu_read q n p more fits =
    let there : eqb (length (pdu_encoding q ++ more)) 0 ≡ false = longer (pdu_encoding q) more (pdu_some q) in
    let at : length (pdu_encoding q ++ more) - length more ≡ length (pdu_encoding q) = omega (arith, length-append (pdu_encoding q) more) in
    rw (there, pdu_again q p more fits, at) refl

-- after them, at most k PDUs are read of the rest
pub pdus_before : (qs : List Pdu) (n p : ℕ) (rest : List ℕ) → AllByRecursion PduFits qs → length (flat_map pdu_encoding qs ++ rest) ≤ n
    → (k : ℕ) × (length rest ≤ k) × (pdus_at n p (flat_map pdu_encoding qs ++ rest) ≡ with_front (flat_map messages_of qs) (pdus_at k (p + length (flat_map pdu_encoding qs)) rest))
pdus_before [] n p rest fits le =
    let at : p + 0 ≡ p = omega arith in
    (n, le, rw at (sym (no_front (pdus_at n p rest))))
pdus_before (q ∷ qs) zero p rest fits le = absurd (omega (arith, le, ap length (flat_map-cons pdu_encoding q qs), length-append (pdu_encoding q) (flat_map pdu_encoding qs), length-append (flat_map pdu_encoding (q ∷ qs)) rest, pdu_some q))
pdus_before (q ∷ qs) (suc n) p rest fits le =
    let more : List ℕ = flat_map pdu_encoding qs ++ rest in
    let bytes : flat_map pdu_encoding (q ∷ qs) ++ rest ≡ pdu_encoding q ++ more = ap (λ (l : List ℕ). l ++ rest) (flat_map-cons pdu_encoding q qs) ∙ append_assoc (pdu_encoding q) (flat_map pdu_encoding qs) rest in
    let less : length more ≤ n = omega (arith, le, ap length bytes, length-append (pdu_encoding q) more, pdu_some q) in
    let others = pdus_before qs n (p + length (pdu_encoding q)) rest fits.1 less in
    let at : p + length (pdu_encoding q) + length (flat_map pdu_encoding qs) ≡ p + length (flat_map pdu_encoding (q ∷ qs)) = omega (arith, ap length (flat_map-cons pdu_encoding q qs), length-append (pdu_encoding q) (flat_map pdu_encoding qs)) in (
      others.0,
      others.1,
      ap (pdus_at (suc n) p) bytes ∙ one_pdu_read q n p more fits.0 ∙ ap (λ (r : Result (List Msg) PduFault). r >>= λ others. Ok (messages_of q ++ others)) others.2
          ∙ append_front (messages_of q) (flat_map messages_of qs) (pdus_at others.0 (p + length (pdu_encoding q) + length (flat_map pdu_encoding qs)) rest)
          ∙ ap (λ (a : ℕ). with_front (messages_of q ++ flat_map messages_of qs) (pdus_at others.0 a rest)) at
          ∙ ap (λ (ms : List Msg). with_front ms (pdus_at others.0 (p + length (flat_map pdu_encoding (q ∷ qs))) rest)) (sym (flat_map-cons messages_of q qs)),
    )

no_pdus : (k p : ℕ) → pdus_at k p [] ≡ Ok []
unfolding pdus_at
no_pdus zero p = refl
no_pdus (suc k) p = refl

pub pdus_again : (qs : List Pdu) (n p : ℕ) → AllByRecursion PduFits qs → length (flat_map pdu_encoding qs) ≤ n → pdus_at n p (flat_map pdu_encoding qs) ≡ Ok (flat_map messages_of qs)
pdus_again qs n p fits le =
    let bytes : flat_map pdu_encoding qs ++ [] ≡ flat_map pdu_encoding qs = append-nil (flat_map pdu_encoding qs) in
    let all = pdus_before qs n p [] fits (omega (arith, le, ap length bytes)) in
    ap (pdus_at n p) (sym bytes) ∙ all.2 ∙ ap (with_front (flat_map messages_of qs)) (no_pdus all.0 (p + length (flat_map pdu_encoding qs))) ∙ ap (λ (ms : List Msg). Ok ms) (append-nil (flat_map messages_of qs))

-- ---- a datagram

pdus_some : (qs : List Pdu) → 0 < length qs → 0 < length (flat_map pdu_encoding qs)
pdus_some [] h = absurd (omega (arith, h))
pdus_some (q ∷ qs) h = omega (arith, ap length (flat_map-cons pdu_encoding q qs), length-append (pdu_encoding q) (flat_map pdu_encoding qs), pdu_some q)

-- a datagram is read as its messages
pub datagram_again : (qs : List Pdu) (bytes : List ℕ) → IsDatagram qs bytes → read_datagram bytes ≡ Ok (flat_map messages_of qs)
unfolding read_datagram
datagram_again qs bytes s =
    let len : length bytes ≡ length (flat_map pdu_encoding qs) = ap length s.bytes_are in
    let some : eqb (length bytes) 0 ≡ false = ne_eqb _ _ (λ e. omega (arith, e, len, pdus_some qs s.nonempty)) in
    let short : ltb 1472 (length bytes) ≡ false = le-ltb _ _ s.within_limit in
    let read : pdus_at (length bytes) 0 bytes ≡ Ok (flat_map messages_of qs) = ap (pdus_at (length bytes) 0) s.bytes_are ∙ pdus_again qs (length bytes) 0 s.well_formed (omega (arith, len)) in
    rw (some, short) read
