-- What the proofs of this crate name: of std, of the crates below, and of its own definitions.
pub use Rattle.oca_model.specs.Fronts.{whole_of, u32_front, front_of_text, end_of, u16_front}
pub use Rattle.oca_model.specs.Lists.{IsText, Each, list_of_most}
pub use Rattle.oca_model.specs.ListsBack.{lists_back}
pub use Rattle.oca_model.specs.Parameters.{whole, pair_at}
pub use Rattle.oca_model.specs.Readings.{All3}
pub use Rattle.oca_model.specs.Requests.{AskedBy, as_request}
pub use Rattle.oca_model.specs.Values.{or_fault, class_of_value, set_method, get_method}
pub use Rattle.oca_model.specs.declared.answer.Answer.TheVariants.{Reading}
pub use Rattle.oca_model.specs.declared.reading.Ranged.{Ranged}
pub use Rattle.oca_model.specs.declared.request.Request.{Request}
pub use Rattle.oca_model.specs.declared.request.Request.TheVariants.{Get, Set}
pub use Rattle.oca_model.specs.declared.value.Value.{Value}
pub use Rattle.oca_model.specs.declared.value.ValueFault.TheVariants.{Malformed}
pub use Rattle.oca_types.specs.Methods.{access, IsMethodId}
pub use Rattle.oca_types.specs.Numbers.{unsigned_encoding}
pub use Rattle.oca_types.specs.Reading.{bool_at}
pub use Rattle.oca_types.specs.Taking.{bytes_left}
pub use Rattle.oca_types.specs.Texts.{text_encoding}
pub use Rattle.oca_types.specs.declared.class.Class.{Class}
pub use Rattle.oca_types.specs.declared.class.Method.{Method}
pub use Rattle.oca_types.specs.declared.class.MethodKind.TheVariants.{Known}
pub use Rattle.std.proofs.Common.{◌≡◌, [], refl, sym, ap, ◌∙◌, append-nil, arith, subst, ℕ, zero, suc, ◌+◌, ◌<◌, ◌≤◌, ◌^◌, Bool, true, false, List, ◌∷◌, length, drop, ◌++◌, append_assoc, ◌-◌}
pub use Rattle.std.specs.Int.{w32, w16, w8, w64}
pub use Rattle.std.specs.List.{flat_map}
pub use Rattle.std.specs.Option.{option_map, option_and_then}
pub use Rattle.std.specs.Prelude.{Some, None, Option, Ok}
