-- The fields of a script's line, and the values that they encode.
use Rattle.std.specs.Prelude.{ℕ, ◌+◌, ◌-◌, ◌*◌, ◌^◌, ◌==◌, ◌&&◌, ◌||◌, nat_le, nat_lt, if◌then◌else◌, List, [], ◌∷◌}
use Rattle.std.specs.Prelude.{length, codes, Option, Some, None}
use Rattle.std.specs.Option.{option_map}
use Rattle.std.specs.Result.{result_ok}
use Rattle.std.specs.Str.{bytes_eq}
use Rattle.hex.specs.Hex.{decode_of, encode_lower}
use Rattle.oca_types.specs.declared.words.Peer.{Peer}

-- ---- fields

-- b in front of the first part
abbrev pub onto_first : ℕ → List (List ℕ) → List (List ℕ)
onto_first b [] = (b ∷ []) ∷ []
onto_first b (p ∷ ps) = (b ∷ p) ∷ ps

-- what stands between separators, empty parts included
abbrev pub split_on : ℕ → List ℕ → List (List ℕ)
split_on separator [] = [] ∷ []
split_on separator (b ∷ bs) =
    if b == separator then [] ∷ split_on separator bs else onto_first b (split_on separator bs)

-- the fields of a line: what stands between single spaces
abbrev pub fields : List ℕ → List (List ℕ)
fields line = split_on 32 line

-- the fields that follow a space, where one was found
abbrev pub fields_after : Option (List ℕ) → List (List ℕ)
fields_after None = []
fields_after (Some text) = fields text

-- what stands before and after the first such byte
abbrev pub split_at : ℕ → List ℕ → Option (List ℕ × List ℕ)
split_at separator [] = None
split_at separator (b ∷ bs) =
    if b == separator then Some ([], bs) else option_map (λ p. (b ∷ p.0, p.1)) (split_at separator bs)

abbrev pub then_in : {A B : Type 0} → Option A → (A → Option B) → Option B
then_in None f = None
then_in (Some x) f = f x

-- what the text before the first separator writes, and what stands after that separator; nothing where there is no
-- separator, or where the text before it writes nothing
abbrev pub read_before : {A : Type 0} → (List ℕ → Option A) → ℕ → List ℕ → Option (A × List ℕ)
read_before written separator text = then_in (split_at separator text) (λ p. option_map (λ x. (x, p.1)) (written p.0))

-- ---- numbers

-- the number that decimal digits write behind those of n; none where a byte is no digit
abbrev pub value_after : ℕ → List ℕ → Option ℕ
value_after n [] = Some n
value_after n (c ∷ cs) = if nat_le 48 c && nat_le c 57 then value_after (n * 10 + (c - 48)) cs else None

-- a number that is at most `largest`
unfoldable pub at_most : ℕ → Option ℕ → Option ℕ
at_most largest None = None
at_most largest (Some n) = if nat_le n largest then Some n else None

-- the number that one to `most` decimal digits write, where it is at most `largest`
unfoldable pub number_of : ℕ → ℕ → List ℕ → Option ℕ
number_of most largest digits =
    if (length digits == 0) || nat_lt most (length digits) then None
    else at_most largest (value_after 0 digits)

-- a moment in milliseconds: one to twenty digits, in 64 bits
abbrev pub moment_of : List ℕ → Option ℕ
moment_of text = number_of 20 (2 ^ 64 - 1) text

-- ---- peers

-- one of an address's four numbers
abbrev pub octet_of : List ℕ → Option ℕ
octet_of text = number_of 3 255 text

-- an address: a.b.c.d, each number in decimal digits
unfoldable pub address_of : List ℕ → Option ℕ
address_of text =
    then_in (read_before octet_of 46 text) (λ a.
    then_in (read_before octet_of 46 a.1) (λ b.
    then_in (read_before octet_of 46 b.1) (λ c.
    then_in (octet_of c.1) (λ d.
    Some (((a.0 * 256 + b.0) * 256 + c.0) * 256 + d)))))

-- a peer: an address, a colon, and a port in decimal digits
unfoldable pub peer_of : List ℕ → Option Peer
peer_of text =
    then_in (read_before address_of 58 text) (λ p.
    then_in (number_of 5 65535 p.1) (λ port.
    Some (record { ip = p.0; port = port })))

-- ---- bytes

-- the bytes of a field: `-` for none, else two or more hexadecimal digits of either case, an even number
unfoldable pub hex_of : List ℕ → Option (List ℕ)
hex_of text =
    if bytes_eq text (codes "-") then Some []
    else if length text == 0 then None
    else result_ok (decode_of text)

-- how bytes are printed: in lower case, `-` for none
abbrev pub hex_text : List ℕ → List ℕ
hex_text [] = codes "-"
hex_text (b ∷ bs) = encode_lower (b ∷ bs)
