-- Why an object with what was stored of it is refused; and its switch.
use Rattle.std.proofs.Common.{◌≡◌, ℕ, Bool, ◌==◌, true, false, cond, map, List, [], ◌∷◌, ◌++◌, Option, Some, None, Err, refl, sym, ap, ◌∙◌}
use Rattle.std.specs.Option.{option_map, option_or, option_copied}
use Rattle.oca_tree.specs.declared.object.Value.{Value}
use Rattle.oca_tree.specs.declared.builder.AddFault.{AddFault}
use Rattle.oca_tree.specs.declared.start.Start.{Start}
use Rattle.oca_tree.specs.declared.start.StartFault.{StartFault}
use Rattle.oca_tree.specs.declared.start.StartFault.TheVariants as starts
use denote.Ref.{Bor}
use Rattle.std.specs.List.{list_any}
use Rattle.oca_tree.specs.declared.object.Object.{Object}
use Rattle.oca_tree.specs.declared.builder.Spec.{Spec}
use Rattle.oca_tree.specs.declared.builder.Kind.TheVariants as given
use Rattle.oca_tree.specs.Building.{is_long, add_fault, value_of, has_bad_name, switch}
use Rattle.oca_tree.specs.Starts.{flags_of, has_other_flags, start_fault, add_with_fault}
use Rattle.oca_script.specs.declared.object_fault.ObjectFault.{ObjectFault}
use Rattle.oca_script.specs.declared.object_fault.ObjectFault.TheVariants as fault
use Rattle.oca_textree.specs.Faults.{object_fault_of, stored_fault_of}
use Rattle.oca_textree.specs.Lines.{Valued, refusal}
use Rattle.oca_textree.specs.Stored.{start_refusal, Ending, Flagged, stored_refusal, stored_object, kept_unless, kept_by, switch_flagged}
use Rattle.oca_textree.specs.PrivateStored.{kind_flagged}
use Rattle.oca_textree.proofs.SplitLemmas.{any-map}

-- ---- why an object is refused

pub start-refused : (v : Value) (start : Start) → option_map stored_fault_of (start_fault v start) ≡ start_refusal v start.label.now (flags_of start)
unfolding start_fault
start-refused v start = by_tests (is_long start.label.now) (has_other_flags (flags_of start) v)
  where
    by_tests : (a b : Bool) → option_map stored_fault_of (cond a (Some starts.BadLabel) (cond b (Some starts.BadFlags) None))
        ≡ cond a (Some fault.Text) (cond b (Some fault.Value) None)
    by_tests true b = refl
    by_tests false true = refl
    by_tests false false = refl

pub refused-by : (a : Option AddFault) (b : Option StartFault) (e : StartFault) (c : Option ObjectFault) → option_map stored_fault_of b ≡ c
    → option_or (option_map starts.Add a) b ≡ Some e → option_or (option_map object_fault_of a) c ≡ Some (stored_fault_of e)
refused-by None b e c is h = sym is ∙ ap (option_map stored_fault_of) h
refused-by (Some f) b e c is h = ap (option_map stored_fault_of) h

same-refusal : (room : ℕ) (tree : List Object) (container ono : ℕ) (spec : Spec) (role : List ℕ) → room ≡ 4096 → spec.role.now ≡ role
    → add_fault room tree container ono spec ≡ refusal tree container ono role (has_bad_name spec.kind) (value_of spec.kind)
unfolding add_fault refusal
same-refusal room tree container ono spec role r e = rw (r, e) refl

-- what the builder refuses is the fault of the line
pub kept-refused : (room : ℕ) (tree : List Object) (container ono : ℕ) (spec : Spec) (start : Start) (ending : Ending) (e : StartFault)
    → room ≡ 4096 → spec.role.now ≡ ending.role → start.label.now ≡ ending.label → add_with_fault room tree container ono spec start ≡ Some e
    → kept_by tree container ono ending (has_bad_name spec.kind) (value_of spec.kind) (flags_of start) ≡ Err (stored_fault_of e)
kept-refused room tree container ono spec start ending e r role label h =
    let v = value_of spec.kind in
    let flags = flags_of start in
    let at : option_or (option_map object_fault_of (add_fault room tree container ono spec)) (start_refusal v ending.label flags) ≡ Some (stored_fault_of e) =
    refused-by (add_fault room tree container ono spec) (start_fault v start) e (start_refusal v ending.label flags)
    (start-refused v start ∙ ap (λ (l : List ℕ). start_refusal v l flags) label) h in
    let refused : stored_refusal tree container ono ending (has_bad_name spec.kind) v flags ≡ Some (stored_fault_of e) =
    ap (λ (a : Option AddFault). option_or (option_map object_fault_of a) (start_refusal v ending.label flags))
    (sym (same-refusal room tree container ono spec ending.role r role)) ∙ at in
    ap (λ (o : Option ObjectFault). kept_unless o tree (stored_object ono container ending v flags)) refused

-- ---- a switch

-- the switch that was read is the one that is added
pub reading-switch : (names : Bor (List (Bor (List ℕ)))) (position : ℕ) (flags : Option (Bor (List Bool))) (rest : Option (Bor (List ℕ))) (texts : List (List ℕ)) (fs : List Bool)
    → map (λ n. n.now) names.now ≡ texts → option_copied flags ≡ Some fs
    → kind_flagged (given.Switch names position) flags rest ≡ switch_flagged (record { flags = fs; names = texts; position = position; rest = option_copied rest })
unfolding value_of
reading-switch names position flags rest texts fs e f =
    ap (λ (b : Bool). let v : Valued = record { bad_name = b; value = switch (map (λ n. n.now) names.now) position; rest = option_copied rest } in
    let s : Flagged = record { valued = v; flags = option_copied flags } in s) (sym (any-map is_long names.now))
    ∙ ap (λ (ts : List (List ℕ)). let v : Valued = record { bad_name = list_any is_long ts; value = switch ts position; rest = option_copied rest } in
    let s : Flagged = record { valued = v; flags = option_copied flags } in s) e
    ∙ ap (λ (o : Option (List Bool)). let v : Valued = record { bad_name = list_any is_long texts; value = switch texts position; rest = option_copied rest } in
    let s : Flagged = record { valued = v; flags = o } in s) f
