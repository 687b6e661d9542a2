-- What a command can set an object to is a value of the object's class.
use Rattle.oca_tree.proofs.Words.{◌≡◌, ℕ, Bool, true, false, cond, List, length, refl, sym, ap, ◌∙◌, Some, Result, Ok, Err, ◌==◌, ◌&&◌, w16, Class, Method, MethodKind, Known, LeftOut, Unknown, unsigned_at, bool_at, text_at, Request, ValueFault, Malformed, list_of_most, pair_at, bare, counted, as_request, class_of_value, kind_at, asked_at}
use Rattle.oca_types.specs.declared.class.Class.TheVariants as class
use Rattle.oca_types.specs.declared.class.Method.TheVariants as methods
use Rattle.oca_model.specs.declared.request.Request.TheVariants as asked
use Rattle.oca_model.specs.declared.value.Value.{Value}
use Rattle.oca_model.specs.Requests.{request_in}
use Rattle.oca_model.specs.Values.{value_in, as_value, all}
use Rattle.oca_tree.specs.Objects.{class_of}
use Rattle.oca_tree.specs.Settings.{EachSettingIsAValue}

-- a value that was read is of the class
made_of : {X : Type 0} (of : Class) (make : X → Value) (read : Result X ValueFault) (v : Value) → as_value make read ≡ Ok v → ((x : X) → class_of_value (make x) ≡ of) → of ≡ class_of_value v
made_of of make (Ok x) v e is = let same : make x ≡ v = cc in sym (is x) ∙ ap class_of_value same
made_of of make (Err fault) v e is = let no : ⊥ = cc in absurd no

read_of : (of : Class) (bytes : List ℕ) (v : Value) → value_in of bytes ≡ Ok v → of ≡ class_of_value v
unfolding value_in
read_of class.Block bytes v e = let no : ⊥ = cc in absurd no
read_of of bytes v e = made_of of _ _ v e (λ x. refl)

-- no other request sets a value
module _ (v : Value) where
  bare_sets : (q : Request) → (q ≡ asked.Set v → ⊥) → (count : ℕ) (params : List ℕ) → bare q count params ≡ Ok (asked.Set v) → ⊥
  bare_sets q other count params e = by ((count == 0) && (length params == 0)) e
    where
      by : (b : Bool) → cond b (Ok q) (Err Malformed) ≡ Ok (asked.Set v) → ⊥
      by true h = let same : q ≡ asked.Set v = cc in other same
      by false h = cc

  other_sets : {X : Type 0} (f : X → Request) → ((x : X) → f x ≡ asked.Set v → ⊥) → (read : Result X ValueFault) → as_request f read ≡ Ok (asked.Set v) → ⊥
  other_sets f other (Ok x) e = let same : f x ≡ asked.Set v = cc in other x same
  other_sets f other (Err fault) e = cc

  set_reads : (of : Class) (count : ℕ) (params : List ℕ) → as_request asked.Set (counted 1 count (value_in of params)) ≡ Ok (asked.Set v) → of ≡ class_of_value v
  set_reads of count params e = by (count == 1) (value_in of params) (λ x h. read_of of params x h) e
    where
      by : (b : Bool) (read : Result Value ValueFault) → ((x : Value) → read ≡ Ok x → of ≡ class_of_value x) → as_request asked.Set (cond b read (Err Malformed)) ≡ Ok (asked.Set v) → of ≡ class_of_value v
      by true (Ok x) is h = let same : x ≡ v = cc in is x refl ∙ ap class_of_value same
      by true (Err fault) is h = let no : ⊥ = cc in absurd no
      by false read is h = let no : ⊥ = cc in absurd no

  sets_by : (of : Class) (m : Method) (count : ℕ) (params : List ℕ) → request_in of m count params ≡ Ok (asked.Set v) → of ≡ class_of_value v
  unfolding request_in
  sets_by of methods.SetState count params e = set_reads of count params e
  sets_by of methods.SetPosition count params e = set_reads of count params e
  sets_by of methods.SetSetting count params e = set_reads of count params e
  sets_by of methods.SetEnabled count params e = absurd (other_sets asked.SetEnabled (λ x h. cc) (counted 1 count (all bool_at params)) e)
  sets_by of methods.SetLabel count params e = absurd (other_sets asked.SetLabel (λ x h. cc) (counted 1 count (all text_at params)) e)
  sets_by of methods.GetPositionName count params e = absurd (other_sets asked.GetPositionName (λ x h. cc) (counted 1 count (all (unsigned_at w16) params)) e)
  sets_by of methods.SetPositionName count params e = absurd (other_sets (λ x. asked.SetPositionName x.0 x.1) (λ x h. cc) (counted 2 count (all (pair_at (unsigned_at w16) text_at) params)) e)
  sets_by of methods.GetPositionEnabled count params e = absurd (other_sets asked.GetPositionEnabled (λ x h. cc) (counted 1 count (all (unsigned_at w16) params)) e)
  sets_by of methods.SetPositionEnabled count params e = absurd (other_sets (λ x. asked.SetPositionEnabled x.0 x.1) (λ x h. cc) (counted 2 count (all (pair_at (unsigned_at w16) bool_at) params)) e)
  sets_by of methods.SetPositionNames count params e = absurd (other_sets (λ xs. asked.SetPositionNames (record { items = xs })) (λ x h. cc) (counted 1 count (all (list_of_most 16 text_at) params)) e)
  sets_by of methods.SetPositionEnableds count params e = absurd (other_sets (λ xs. asked.SetPositionEnableds (record { items = xs })) (λ x h. cc) (counted 1 count (all (list_of_most 16 bool_at) params)) e)
  sets_by of _ count params e = absurd (bare_sets _ (λ h. cc) count params e)

pub each_is_a_value : EachSettingIsAValue
each_is_a_value o c value e = by (kind_at (Some o) c) e
  where
    by : (kind : MethodKind) → asked_at (Some o) kind c ≡ Ok (asked.Set value) → class_of o.value ≡ class_of_value value
    by (Known method reached) h = sets_by value (class_of o.value) method c.count c.params h
    by LeftOut h = let no : ⊥ = cc in absurd no
    by Unknown h = let no : ⊥ = cc in absurd no
