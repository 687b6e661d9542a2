-- A class and a member that stand at the front are read.
use Rattle.std.proofs.Common.{◌≡◌, ℕ, ◌<◌, ◌≤◌, ◌^◌, List, ◌++◌, length, refl, sym, ap, ◌∙◌, append_assoc, lit<, lit≤}
use Rattle.std.specs.Prelude.{Some}
use Rattle.std.specs.Int.{w16, w32}
use Rattle.oca_types.specs.declared.class.Class.{Class}
use Rattle.oca_types.specs.declared.class.Class.TheVariants as class
use Rattle.oca_types.specs.Classes.{class_fields_of, class_identification_encoding}
use Rattle.oca_types.specs.Numbers.{unsigned_encoding}
use Rattle.oca_types.specs.Reading.{unsigned_at}
use Rattle.oca_model.specs.declared.member.Descendant.{Descendant}
use Rattle.oca_model.specs.declared.member.Member.{Member}
use Rattle.oca_model.specs.Fronts.{u16_front, u32_front}
use Rattle.oca_model.specs.Lists.{Each, list_encoding, list_of_most}
use Rattle.oca_model.specs.Members.{class_with, class_id_at, class_at, member_at, class_bytes, member_encoding}
use Rattle.oca_model.specs.Members.{IsMember, descendant_at, descendant_encoding, IsDescendant}
use Rattle.oca_model.specs.ListsBack.{list_front}

abbrev Small : ℕ → Type 0
Small n = n < 2 ^ 16

-- What is known of a class's fields.
record HasFields (c : Class) : Type 0 where
  few : length (class_fields_of c) ≤ 16
  fits : length (class_fields_of c) < 2 ^ 16
  small : Each Small (class_fields_of c)
  found : class_with (class_fields_of c) ≡ Some c

has_fields : (c : Class) → HasFields c
unfolding class_with
has_fields class.Block =
    record { few = lit≤ tt; fits = lit< tt; small = (lit< tt, (lit< tt, (lit< tt, tt))); found = refl }
has_fields class.Mute =
    record { few = lit≤ tt; fits = lit< tt; small = (lit< tt, (lit< tt, (lit< tt, (lit< tt, tt)))); found = refl }
has_fields class.Polarity =
    record { few = lit≤ tt; fits = lit< tt; small = (lit< tt, (lit< tt, (lit< tt, (lit< tt, tt)))); found = refl }
has_fields class.Switch =
    record { few = lit≤ tt; fits = lit< tt; small = (lit< tt, (lit< tt, (lit< tt, (lit< tt, tt)))); found = refl }
has_fields _ =
    record {
      few = lit≤ tt;
      fits = lit< tt;
      small = (lit< tt, (lit< tt, (lit< tt, (lit< tt, (lit< tt, tt)))));
      found = refl;
    }

pub class_front : (c : Class) (rest : List ℕ) → class_at (class_identification_encoding c ++ rest) ≡ Some (Some c, rest)
unfolding class_id_at class_at
class_front c rest =
    let h = has_fields c in
    let fields = class_fields_of c in
    let apart : class_identification_encoding c ++ rest
    ≡ list_encoding (unsigned_encoding w16) fields ++ (unsigned_encoding w16 2 ++ rest) =
    append_assoc (list_encoding (unsigned_encoding w16) fields) (unsigned_encoding w16 2) rest in
    let list : list_of_most 16 (unsigned_at w16) (class_identification_encoding c ++ rest)
    ≡ Some (fields, unsigned_encoding w16 2 ++ rest)
    = ap (list_of_most 16 (unsigned_at w16)) apart
    ∙ list_front Small (unsigned_encoding w16) (unsigned_at w16) u16_front 16 fields (unsigned_encoding w16 2
    ++ rest) h.few h.fits h.small in
    rw (list, u16_front 2 rest (lit< tt), h.found) refl

pub member_front : (m : Member) (rest : List ℕ) → IsMember m → member_at (member_encoding m ++ rest) ≡ Some (m, rest)
unfolding member_at
member_front m rest is =
    let c = is.0 in
    let number : unsigned_at w32 (member_encoding m ++ rest) ≡ Some (m.ono.0, class_bytes m.class ++ rest)
    = ap (unsigned_at w32) (append_assoc (unsigned_encoding w32 m.ono.0) (class_bytes m.class) rest)
    ∙ u32_front m.ono.0 (class_bytes m.class ++ rest) is.2 in
    let behind : class_at (class_bytes m.class ++ rest) ≡ Some (m.class, rest) =
    ap (λ k. class_at (class_bytes k ++ rest)) is.1 ∙ class_front c rest ∙ ap (λ k. Some (k, rest)) (sym is.1) in
    rw (number, behind) refl

pub descendant_front : (d : Descendant) (rest : List ℕ) → IsDescendant d →
    descendant_at (descendant_encoding d ++ rest) ≡ Some (d, rest)
unfolding descendant_at
descendant_front d rest is =
    let behind = unsigned_encoding w32 d.container.0 in
    let identified : member_at (descendant_encoding d ++ rest) ≡ Some (d.member, behind ++ rest)
    = ap member_at (append_assoc (member_encoding d.member) behind rest)
    ∙ member_front d.member (behind ++ rest) is.0 in
    rw (identified, u32_front d.container.0 rest is.1) refl
