-- Classes as they are listed, and members of blocks (AES70-2).
use Rattle.std.specs.Prelude.{◌≡◌, ℕ, ◌<◌, ◌^◌, List, [], ◌++◌, Option, Some, None, find, map}
use Rattle.std.specs.Str.{bytes_eq}
use Rattle.std.specs.Option.{option_map, option_and_then}
use Rattle.std.specs.Int.{w16, w32}
use Rattle.oca_types.specs.declared.class.Class.{Class}
use Rattle.oca_types.specs.Classes.{class_fields_of, class_identification_encoding}
use Rattle.oca_types.specs.Numbers.{unsigned_encoding}
use Rattle.oca_types.specs.Reading.{unsigned_at}
use Rattle.oca_model.specs.declared.member.Descendant.{Descendant}
use Rattle.oca_model.specs.declared.member.Member.{Member}
use Rattle.oca_model.specs.Lists.{list_of_most}
use Rattle.oca_model.specs.Parameters.{whole, pair_at}
use Rattle.oca_model.specs.Values.{classes}

-- the class whose identifier has these fields
unfoldable pub class_with : List ℕ → Option Class
class_with fields = find (λ c. bytes_eq (class_fields_of c) fields) classes

-- OcaClassIdentification: the fields of the identifier, of which there are at most 16, and the version, which may be
-- any
unfoldable pub class_id_at : List ℕ → Option (List ℕ × List ℕ)
class_id_at bytes = option_map (λ x. (x.0.0, x.1)) (pair_at (list_of_most 16 (unsigned_at w16)) (unsigned_at w16) bytes)

-- the fields of the identifier that an answer to GetClassIdentification gives
abbrev pub class_id_in : List ℕ → Option (List ℕ)
class_id_in bytes = whole (class_id_at bytes)

-- the class of an identification, where it is one of this profile
unfoldable pub class_at : List ℕ → Option (Option Class × List ℕ)
class_at bytes = option_map (λ x. (class_with x.0, x.1)) (class_id_at bytes)

-- the class of this profile that is all of the bytes
abbrev pub class_in : List ℕ → Option Class
class_in bytes = option_and_then (λ c. c) (whole (class_at bytes))

-- OcaObjectIdentification: the number of an object, and behind it its class
unfoldable pub member_at : List ℕ → Option (Member × List ℕ)
member_at bytes =
    option_map (λ x. (
      record { ono = record { 0 = x.0.0 }; class = x.0.1 },
      x.1,
    )) (pair_at (unsigned_at w32) class_at bytes)

-- the encoding of a class; of one that is not of this profile nothing is known
abbrev pub class_bytes : Option Class → List ℕ
class_bytes (Some c) = class_identification_encoding c
class_bytes None = []

abbrev pub member_encoding : Member → List ℕ
member_encoding m = unsigned_encoding w32 m.ono.0 ++ class_bytes m.class

-- A member of a class of this profile.
abbrev pub IsMember : Member → Type 0
IsMember m = (c : Class) × (m.class ≡ Some c) × (m.ono.0 < 2 ^ 32)

-- OcaBlockMember: the identification of an object, and behind it the number of the block that contains it
unfoldable pub descendant_at : List ℕ → Option (Descendant × List ℕ)
descendant_at bytes =
    option_map (λ x. (
      record { member = x.0.0; container = record { 0 = x.0.1 } },
      x.1,
    )) (pair_at member_at (unsigned_at w32) bytes)

abbrev pub descendant_encoding : Descendant → List ℕ
descendant_encoding d = member_encoding d.member ++ unsigned_encoding w32 d.container.0

-- A descendant of a class of this profile.
abbrev pub IsDescendant : Descendant → Type 0
IsDescendant d = IsMember d.member × (d.container.0 < 2 ^ 32)

-- the members that an answer to GetMembers gives; no response has room for more than 181
abbrev pub members_at : List ℕ → Option (List Member)
members_at bytes = whole (list_of_most 181 member_at bytes)

-- the numbers of these members
abbrev pub members_in : List ℕ → Option (List ℕ)
members_in bytes = option_map (map (λ m. m.ono.0)) (members_at bytes)
