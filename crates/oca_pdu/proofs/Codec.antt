-- The two kinds of messages with sizes: what is encoded is read, and bytes of the right size are an encoding.
use Rattle.oca_pdu.proofs.Words.{◌≡◌, ℕ, ◌+◌, ◌≤◌, ◌<◌, ◌^◌, Bool, true, false, ltb, List, ◌∷◌, ◌++◌, length, take, drop, Ok, refl, sym, ap, ◌∙◌, append_assoc, arith, length-append, inl, inr, drop-cons, slice_index, w16, w32, to_be_bytes, from_be_bytes, le-ltb, cases_lt, take_at, drop_at, take-append-le, take-append-drop, length-take, length-drop, drop-drop, from_be_bytes-to_be_bytes_2, from_be_bytes-to_be_bytes_4, be_bytes_2, be_bytes_4, CommandFields, Kind, Msg, Command, Response, ResponseFields, command_encoding, response_encoding, CommandFits, ResponseFits, number_at, least_size, message_in}
use Rattle.std.proofs.Common.{get_or}
use Rattle.std.proofs.lemmas.List.{get_or-drop, get_or-take, get_or_past}
use Rattle.oca_pdu.specs.declared.message.Kind.TheVariants as kinds
use Rattle.oca_pdu.specs.Reading.{command_in, message_at}

-- each is a byte
abbrev pub IsBytes : List ℕ → Type 0
IsBytes bytes = (i : ℕ) → get_or bytes i 0 < 256

-- bytes without their front are bytes
pub IsBytes-drop : (n : ℕ) (bytes : List ℕ) → IsBytes bytes → IsBytes (drop n bytes)
IsBytes-drop n bytes h i = rw get_or-drop (h (n + i))

-- the front of bytes is bytes
pub IsBytes-take : (n : ℕ) (bytes : List ℕ) → IsBytes bytes → IsBytes (take n bytes)
IsBytes-take n bytes h i =
    elim (cases_lt i n) [
      | inl lt ↦ rw (get_or-take n bytes i 0 lt) (h i)
      | inr le ↦ rw (get_or_past (take n bytes) i 0 (omega (arith, length-take n bytes))) (omega arith)
    ]

-- How values of X are encoded, which of them are, and as which messages of a kind they are read.
pub record Codec {X : Type 0} (kind : Kind) (encoding : X → List ℕ) (Fits : X → Type 0) (say : X → Msg) : Type 0 where
  pub size : (x : X) → Fits x → number_at w32 0 (encoding x) ≡ length (encoding x)
  pub long : (x : X) → least_size kind ≤ length (encoding x)
  pub says : (x : X) → Fits x → message_in kind (encoding x) ≡ say x
  pub found : (bytes : List ℕ) → IsBytes bytes → least_size kind ≤ length bytes → number_at w32 0 bytes ≡ length bytes → (x : X) × Fits x × (encoding x ≡ bytes)

-- a message has at least four bytes
pub least_four : (kind : Kind) → 4 ≤ least_size kind
least_four kinds.Command = omega arith
least_four kinds.CommandWithResponse = omega arith
least_four kinds.Response = omega arith

message_whole : (kind : Kind) (m : ℕ) (bytes rest : List ℕ) → number_at w32 0 bytes ≡ length bytes → least_size kind ≤ length bytes → message_at kind m (bytes ++ rest) ≡ Ok (message_in kind bytes, rest)
unfolding message_at
message_whole kind m bytes rest size least =
    let four : 4 ≤ length bytes = omega (arith, least_four kind, least) in
    let a : ltb (length (bytes ++ rest)) 4 ≡ false = le-ltb _ _ (omega (arith, length-append bytes rest)) in
    let t : take 4 (bytes ++ rest) ≡ take 4 bytes = take-append-le 4 bytes rest four in
    let b : ltb (length bytes) (least_size kind) ≡ false = le-ltb _ _ least in
    let c : ltb (length (bytes ++ rest)) (length bytes) ≡ false = le-ltb _ _ (omega (arith, length-append bytes rest)) in
    rw (a, t, size, b, c, take_at bytes rest (length bytes) refl, drop_at bytes rest (length bytes) refl) refl

-- what is written of a message is read as the message
pub message_again : {X : Type 0} (kind : Kind) (encoding : X → List ℕ) (Fits : X → Type 0) (say : X → Msg) → Codec kind encoding Fits say → (x : X) (m : ℕ) (rest : List ℕ) → Fits x → message_at kind m (encoding x ++ rest) ≡ Ok (say x, rest)
message_again kind encoding Fits say codec x m rest fits =
    message_whole kind m (encoding x) rest (codec.size x fits) (codec.long x) ∙ ap (λ (f : Msg). Ok (f, rest)) (codec.says x fits)

-- ---- numbers in bytes

quad : (i : ℕ) (b : List ℕ) → IsBytes b → i + 4 ≤ length b → to_be_bytes w32 (number_at w32 i b) ≡ take 4 (drop i b)
quad i b fits le = be_bytes_4 (take 4 (drop i b)) _ (omega (arith, length-take 4 (drop i b), length-drop i b)) (IsBytes-take 4 (drop i b) (IsBytes-drop i b fits)) refl

pair : (i : ℕ) (b : List ℕ) → IsBytes b → i + 2 ≤ length b → to_be_bytes w16 (number_at w16 i b) ≡ take 2 (drop i b)
pair i b fits le = be_bytes_2 (take 2 (drop i b)) _ (omega (arith, length-take 2 (drop i b), length-drop i b)) (IsBytes-take 2 (drop i b) (IsBytes-drop i b fits)) refl

quad_below : (b : List ℕ) → IsBytes b → from_be_bytes w32 b < 2 ^ 32
quad_below b fits = omega (arith, fits 0, fits 1, fits 2, fits 3)

pair_below : (b : List ℕ) → IsBytes b → from_be_bytes w16 b < 2 ^ 16
pair_below b fits = omega (arith, fits 0, fits 1)

-- four bytes are a number of 32 bits
pub below_w32 : (i : ℕ) (b : List ℕ) → IsBytes b → number_at w32 i b < 2 ^ 32
below_w32 i b fits = quad_below (take 4 (drop i b)) (IsBytes-take 4 (drop i b) (IsBytes-drop i b fits))

-- two bytes are a number of 16 bits
pub below_w16 : (i : ℕ) (b : List ℕ) → IsBytes b → number_at w16 i b < 2 ^ 16
below_w16 i b fits = pair_below (take 2 (drop i b)) (IsBytes-take 2 (drop i b) (IsBytes-drop i b fits))

-- a number at the front, and what is behind it
pub front_w32 : (b : List ℕ) → IsBytes b → 4 ≤ length b → b ≡ to_be_bytes w32 (number_at w32 0 b) ++ drop 4 b
front_w32 b fits le = sym (take-append-drop 4 b) ∙ ap (λ (x : List ℕ). x ++ drop 4 b) (sym (quad 0 b fits (omega (arith, le))))

-- the first two bytes are their number's
pub front_w16 : (b : List ℕ) → IsBytes b → 2 ≤ length b → b ≡ to_be_bytes w16 (number_at w16 0 b) ++ drop 2 b
front_w16 b fits le = sym (take-append-drop 2 b) ∙ ap (λ (x : List ℕ). x ++ drop 2 b) (sym (pair 0 b fits (omega (arith, le))))

-- k bytes from i on, and what is behind them
cut : (i k j : ℕ) (b : List ℕ) → j ≡ i + k → drop i b ≡ take k (drop i b) ++ drop j b
cut i k j b e = rw (e, ← drop-drop k i b) (sym (take-append-drop k (drop i b)))

-- ---- commands

-- the kind of a command, by whether a response is required
abbrev pub command_kind : Bool → Kind
command_kind false = kinds.Command
command_kind true = kinds.CommandWithResponse

-- the least size of a command
pub least_command : (respond : Bool) → least_size (command_kind respond) ≡ 17
least_command false = refl
least_command true = refl

same_command : (respond : Bool) (h t l i h' t' l' i' n : ℕ) (params : List ℕ) → h ≡ h' → t ≡ t' → l ≡ l' → i ≡ i'
    → Command respond (record { handle = h; target = t; level = l; index = i; count = n; params = params }) ≡ Command respond (record { handle = h'; target = t'; level = l'; index = i'; count = n; params = params })
same_command respond h t l i h' t' l' i' n params a b c d = rw (a, b, c, d) refl

command_says : (respond : Bool) (c : CommandFields) → CommandFits c → command_in respond (command_encoding c) ≡ Command respond c
command_says respond c fits =
    same_command respond _ _ _ _ _ _ _ _ _ _ (from_be_bytes-to_be_bytes_4 c.handle fits.handle) (from_be_bytes-to_be_bytes_4 c.target fits.target) (from_be_bytes-to_be_bytes_2 c.level fits.level) (from_be_bytes-to_be_bytes_2 c.index fits.index)

assemble6 : (a a' h h' t t' l l' i i' tail b b1 b2 b3 b4 : List ℕ) → a ≡ a' → h ≡ h' → t ≡ t' → l ≡ l' → i ≡ i'
    → b ≡ a' ++ b1 → b1 ≡ h' ++ b2 → b2 ≡ t' ++ b3 → b3 ≡ l' ++ b4 → b4 ≡ i' ++ tail → ((((a ++ h) ++ t) ++ l) ++ i) ++ tail ≡ b
assemble6 a a' h h' t t' l l' i i' tail b b1 b2 b3 b4 ea eh et el ei e0 e1 e2 e3 e4 =
    rw (ea, eh, et, el, ei, e0, e1, e2, e3, e4) (simp append_assoc)

command_found : (b : List ℕ) → IsBytes b → 17 ≤ length b → number_at w32 0 b ≡ length b → (c : CommandFields) × CommandFits c × (command_encoding c ≡ b)
command_found b fits long size =
    let c : CommandFields = record { handle = number_at w32 4 b; target = number_at w32 8 b; level = number_at w16 12 b; index = number_at w16 14 b; count = slice_index b 16; params = drop 17 b } in
    let n : 17 + length (drop 17 b) ≡ number_at w32 0 b = omega (arith, length-drop 17 b, size) in
    let a : to_be_bytes w32 (17 + length (drop 17 b)) ≡ take 4 b = ap (to_be_bytes w32) n ∙ quad 0 b fits (omega (arith, long)) in
    let last : drop 16 b ≡ slice_index b 16 ∷ drop 17 b = drop-cons b 16 0 (omega (arith, long)) in
    let whole : command_encoding c ≡ b = assemble6 _ (take 4 b) _ (take 4 (drop 4 b)) _ (take 4 (drop 8 b)) _ (take 2 (drop 12 b)) _ (take 2 (drop 14 b)) (slice_index b 16 ∷ drop 17 b) b (drop 4 b) (drop 8 b) (drop 12 b) (drop 14 b)
    a (quad 4 b fits (omega (arith, long))) (quad 8 b fits (omega (arith, long))) (pair 12 b fits (omega (arith, long))) (pair 14 b fits (omega (arith, long)))
    (cut 0 4 4 b refl) (cut 4 4 8 b refl) (cut 8 4 12 b refl) (cut 12 2 14 b refl) (cut 14 2 16 b refl ∙ ap (λ (x : List ℕ). take 2 (drop 14 b) ++ x) last) in
    let ok : CommandFits c = record {
      handle = below_w32 4 b fits;
      target = below_w32 8 b fits;
      level = below_w16 12 b fits;
      index = below_w16 14 b fits;
      count = fits 16;
      size = omega (arith, n, below_w32 0 b fits);
    } in
    (c, ok, whole)

command_size : (c : CommandFields) → CommandFits c → number_at w32 0 (command_encoding c) ≡ length (command_encoding c)
command_size c fits =
    let len : length (command_encoding c) ≡ 17 + length c.params = omega arith in
    from_be_bytes-to_be_bytes_4 (17 + length c.params) fits.size ∙ sym len

command_long : (c : CommandFields) → 17 ≤ length (command_encoding c)
command_long c = omega arith

-- commands are written and read
pub command_codec : (respond : Bool) → Codec (command_kind respond) command_encoding CommandFits (λ c. Command respond c)
command_codec false = record { size = command_size; long = command_long; says = command_says false; found = command_found }
command_codec true = record { size = command_size; long = command_long; says = command_says true; found = command_found }

-- ---- responses

assemble2 : (a a' h h' tail b b1 : List ℕ) → a ≡ a' → h ≡ h' → b ≡ a' ++ b1 → b1 ≡ h' ++ tail → (a ++ h) ++ tail ≡ b
assemble2 a a' h h' tail b b1 ea eh e0 e1 = rw (ea, eh, e0, e1) (simp append_assoc)

response_found : (b : List ℕ) → IsBytes b → 10 ≤ length b → number_at w32 0 b ≡ length b → (r : ResponseFields) × ResponseFits r × (response_encoding r ≡ b)
response_found b fits long size =
    let r : ResponseFields = record { handle = number_at w32 4 b; status = slice_index b 8; count = slice_index b 9; params = drop 10 b } in
    let n : 10 + length (drop 10 b) ≡ number_at w32 0 b = omega (arith, length-drop 10 b, size) in
    let a : to_be_bytes w32 (10 + length (drop 10 b)) ≡ take 4 b = ap (to_be_bytes w32) n ∙ quad 0 b fits (omega (arith, long)) in
    let two : drop 8 b ≡ slice_index b 8 ∷ slice_index b 9 ∷ drop 10 b = drop-cons b 8 0 (omega (arith, long)) ∙ ap (λ (x : List ℕ). slice_index b 8 ∷ x) (drop-cons b 9 0 (omega (arith, long))) in
    let whole : response_encoding r ≡ b = assemble2 _ (take 4 b) _ (take 4 (drop 4 b)) (slice_index b 8 ∷ slice_index b 9 ∷ drop 10 b) b (drop 4 b) a (quad 4 b fits (omega (arith, long))) (cut 0 4 4 b refl) (cut 4 4 8 b refl ∙ ap (λ (x : List ℕ). take 4 (drop 4 b) ++ x) two) in
    let ok : ResponseFits r = record {
      handle = below_w32 4 b fits;
      status = fits 8;
      count = fits 9;
      size = omega (arith, n, below_w32 0 b fits);
    } in
    (r, ok, whole)

response_size : (r : ResponseFields) → ResponseFits r → number_at w32 0 (response_encoding r) ≡ length (response_encoding r)
response_size r fits =
    let len : length (response_encoding r) ≡ 10 + length r.params = omega arith in
    from_be_bytes-to_be_bytes_4 (10 + length r.params) fits.size ∙ sym len

response_long : (r : ResponseFields) → 10 ≤ length (response_encoding r)
response_long r = omega arith

response_says : (r : ResponseFields) → ResponseFits r → message_in kinds.Response (response_encoding r) ≡ Response r
response_says r fits =
    ap (λ (h : ℕ). Response (record { handle = h; status = r.status; count = r.count; params = r.params })) (from_be_bytes-to_be_bytes_4 r.handle fits.handle)

-- responses are written and read
pub response_codec : Codec kinds.Response response_encoding ResponseFits (λ r. Response r)
response_codec = record { size = response_size; long = response_long; says = response_says; found = response_found }
