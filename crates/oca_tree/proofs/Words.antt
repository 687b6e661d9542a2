-- What the proofs of this crate name: of std, of the crates below, and of its own definitions.
pub use Rattle.indexmap.specs.IndexMap.{set_value_at, values}
pub use Rattle.oca_model.proofs.Settled.{makes}
pub use Rattle.oca_model.specs.Answers.{answer_count}
pub use Rattle.oca_model.specs.Lists.{Each, list_encoding, IsText, list_of_most}
pub use Rattle.oca_model.specs.Members.{member_encoding, descendant_encoding}
pub use Rattle.oca_model.specs.Parameters.{pair_at}
pub use Rattle.oca_model.specs.Requests.{as_request, bare, counted}
pub use Rattle.oca_model.specs.Settings.{class_of_reading}
pub use Rattle.oca_model.specs.Values.{class_of_value}
pub use Rattle.oca_model.specs.declared.reading.Reading.{Reading}
pub use Rattle.oca_model.specs.declared.request.Request.{Request}
pub use Rattle.oca_model.specs.declared.request.Request.TheVariants.{Set}
pub use Rattle.oca_model.specs.declared.value.ValueFault.{ValueFault}
pub use Rattle.oca_model.specs.declared.value.ValueFault.TheVariants.{Malformed, Unlisted}
pub use Rattle.oca_tree.specs.Bench.{bench_with}
pub use Rattle.oca_tree.specs.Building.{root, has_bad_name}
pub use Rattle.oca_tree.specs.Copies.{unlocked}
pub use Rattle.oca_tree.specs.Execution.{kind_at, asked_at, is_write, is_failing, status_of, by_status, carried_out, refused, TreeAndReply}
pub use Rattle.oca_tree.specs.LocalChanges.{front_fault_in, changed_where, failing_where, ToLabel, ToEnabled, ToUnlocked, ToFailing}
pub use Rattle.oca_tree.specs.Locks.{without_lock_of, is_held_by, lock_of_one, lock_count}
pub use Rattle.oca_tree.specs.Objects.{Store, object_of, has_number, with_object, members, descendants}
pub use Rattle.oca_tree.specs.Places.{place_of, places, is_block, depth, is_block_value, place_at, Place, reaches}
pub use Rattle.oca_tree.specs.PrivateObjects.{containers}
pub use Rattle.oca_tree.specs.PrivateSteps.{plain_request, MayCall, is_listed, item_encoding, listed_bytes, lengths, nothing_listed}
pub use Rattle.oca_tree.specs.Requests.{cannot_be, fits_positions}
pub use Rattle.oca_tree.specs.SetRequests.{command_for}
pub use Rattle.oca_tree.specs.Settings.{fault_at, set_fault_in, front, set_where}
pub use Rattle.oca_tree.specs.Starts.{flags_of, with_flags}
pub use Rattle.oca_tree.specs.Trees.{IsTree, IsSound, IsBuilt, IsFree, is_position_reading}
pub use Rattle.oca_tree.specs.Typed.{member_of, descendant_of, value_changed_by, held_set_to, with_positions, with_name, enabled_at}
pub use Rattle.oca_tree.specs.TypedLaws.{IsOfItsTypes, CommandDid}
pub use Rattle.oca_tree.specs.Written.{is_ok, calls_a_write}
pub use Rattle.oca_tree.specs.declared.front.FrontFault.{FrontFault}
pub use Rattle.oca_tree.specs.declared.lengths.Lengths.{Lengths}
pub use Rattle.oca_tree.specs.declared.object.Object.{Object}
pub use Rattle.oca_tree.specs.declared.object.Switch.{Switch}
pub use Rattle.oca_tree.specs.declared.object.Value.{Value}
pub use Rattle.oca_tree.specs.declared.setting.SetFault.{SetFault}
pub use Rattle.oca_types.specs.Classes.{class_identification_encoding}
pub use Rattle.oca_types.specs.Methods.{kind_from, row_at, own_methods, is_left_out, access}
pub use Rattle.oca_types.specs.Numbers.{unsigned_encoding}
pub use Rattle.oca_types.specs.Peers.{CommandFields, fields_of}
pub use Rattle.oca_types.specs.Reading.{unsigned_at, bool_at, text_at}
pub use Rattle.oca_types.specs.declared.class.Access.{Access}
pub use Rattle.oca_types.specs.declared.class.Class.{Class}
pub use Rattle.oca_types.specs.declared.class.Method.{Method}
pub use Rattle.oca_types.specs.declared.class.MethodKind.{MethodKind}
pub use Rattle.oca_types.specs.declared.class.MethodKind.TheVariants.{Known, LeftOut, Unknown}
pub use Rattle.oca_types.specs.declared.status.Status.{Status}
pub use Rattle.oca_types.specs.declared.words.MethodId.{MethodId}
pub use Rattle.oca_types.specs.declared.words.Ono.{Ono}
pub use Rattle.oca_types.specs.declared.words.Peer.{Peer}
pub use Rattle.std.proofs.Common.{◌≡◌, ℕ, ◌+◌, ◌<◌, ◌≤◌, true, false, List, [], ◌∷◌, ◌++◌, length, refl, ap, ◌∙◌, arith, length-append, Bool, cond, sym, zero, suc, get_or, take, drop, inl, inr, append_assoc, eqb-true, eq-eqb, one-add, map, subst, set, ◌-◌, ◌*◌, lit<, lit≤}
pub use Rattle.std.proofs.Math.ListN.{get_or-append, length-set}
pub use Rattle.std.proofs.Math.Seq.{get_or-append_seam}
pub use Rattle.std.proofs.lemmas.Bool.{cases_lt}
pub use Rattle.std.proofs.lemmas.Bool.Decides.{nat_tests}
pub use Rattle.std.proofs.lemmas.List.{length-map, get_or-map}
pub use Rattle.std.proofs.lemmas.List.Elements.{All-push}
pub use Rattle.std.proofs.lemmas.List.Folds.{find-append, flat_map-map}
pub use Rattle.std.proofs.lemmas.Option.{get_or_from_slice_get}
pub use Rattle.std.proofs.lemmas.Result.{err_from_is_err_and}
pub use Rattle.std.proofs.lemmas.Str.{IsUtf8-nil, chars-nil}
pub use Rattle.std.specs.Int.{w16, w32}
pub use Rattle.std.specs.List.{position, prefix_len, position_or_len, find, list_any, slice_get, filter, flat_map, All}
pub use Rattle.std.specs.Map.{values_of}
pub use Rattle.std.specs.Option.{option_map, option_map_or, option_or}
pub use Rattle.std.specs.Prelude.{Option, Some, None, is_some, nat_le, nat_lt, ◌==◌, not, ◌||◌, ◌⊎◌, if◌then◌else◌, Result, Ok, Err, ◌&&◌, IfSome}
