-- What setting an object does, from what each of its steps found.
use Rattle.oca_tree.proofs.Words.{◌≡◌, ℕ, Bool, true, false, cond, List, [], get_or, set, refl, sym, ap, ◌∙◌, Some, None, Ok, not, is_some, position, CommandFields, Method, MethodKind, Known, LeftOut, Unknown, Object, class_of_value, SetFault, object_of, has_number, with_object, is_block_value, Access, Peer, cannot_be, TreeAndReply, kind_at, asked_at, carried_out, refused, makes, fault_at, set_fault_in, front, set_where, IsSound}
use Rattle.oca_types.specs.declared.class.Class.TheVariants as class
use Rattle.oca_types.specs.declared.status.Status.TheVariants as statuses
use Rattle.oca_tree.specs.declared.object.Value.{Value as Held}
use Rattle.oca_tree.specs.declared.object.Value.TheVariants as values
use Rattle.oca_model.specs.declared.value.Value.{Value}
use Rattle.oca_model.specs.declared.value.Value.TheVariants as to_set
use Rattle.oca_tree.specs.declared.setting.SetFault.TheVariants as faults
use Rattle.oca_tree.specs.Objects.{class_of}
use Rattle.oca_tree.specs.Locks.{lock_refuses}
use Rattle.oca_model.specs.declared.request.Request.TheVariants as asks
use Rattle.oca_model.specs.Answers.{answer_encoding}
use Rattle.oca_model.specs.Requests.{request_in}
use Rattle.oca_tree.specs.Requests.{asks_out_of_range, asks_invalid}
use Rattle.oca_tree.specs.Execution.{is_locked, execution}
use Rattle.oca_tree.specs.Typed.{answer_given, changed_by}
use Rattle.oca_tree.specs.Settings.{is_of_its_class, set_fault, after_set, AnyPeerSetsTheSame, status_for, SetsTheSame, FrontSetsAsPeersDo}
use Rattle.oca_tree.proofs.Executing.{found_at, every_at, placed}
use Rattle.oca_tree.proofs.Sound.{changed_ono, changed_sound}

pub any_peer : AnyPeerSetsTheSame
unfolding changed_by
any_peer o peer value = refl

-- what has no fault can be set so
pub in_range : (held : Held) (value : Value) → fault_at held value ≡ None → cannot_be held value ≡ false
in_range held value e = by (is_block_value held) (is_of_its_class held value) (cannot_be held value) e
  where
    by : (a b out : Bool) → cond a (Some faults.NoSetting) (cond (not b) (Some faults.OtherKind) (cond out (Some faults.OutOfRange) None)) ≡ None → out ≡ false
    by a b false h = refl
    by true b true h = cc
    by false true true h = cc
    by false false true h = cc

-- an object that can be set so is sound then
pub set_sound : (o : Object) (value : Value) → IsSound o → fault_at o.value value ≡ None → IsSound (changed_by o front (asks.Set value))
unfolding asks_out_of_range asks_invalid
set_sound o value sound fine = changed_sound o front (asks.Set value) sound (in_range o.value value fine) refl refl

-- a command to the object of this number, for what was found by the number
abbrev to : ℕ → CommandFields
to number = record { handle = 0; target = number; level = 0; index = 0; count = 0; params = [] }

pub fault_none : (tree : List Object) (number : ℕ) (value : Value) → object_of tree number ≡ None → set_fault tree number value ≡ Some faults.NoObject
unfolding set_fault
fault_none tree number value e = ap (λ x. set_fault_in x value) e

pub unset : (tree : List Object) (number : ℕ) (value : Value) (f : SetFault) → set_fault tree number value ≡ Some f → after_set tree number value ≡ tree
unfolding after_set
unset tree number value f e = rw e refl

module _ (tree : List Object) (number i : ℕ) (o : Object) (place : Some i ≡ position (has_number number) tree) (here : o ≡ get_or tree i o) (value : Value) where
  found : object_of tree number ≡ Some o
  found = found_at tree front (to number) i o place here

  pub fault_there : set_fault tree number value ≡ fault_at o.value value
  unfolding set_fault
  fault_there = ap (λ x. set_fault_in x value) found

  module _ (fine : fault_at o.value value ≡ None) where
    pub range_there : (d : Object) → asks_out_of_range (get_or tree i d).value (asks.Set value) ≡ false
    unfolding asks_out_of_range
    range_there d = ap (λ (x : Object). cannot_be x.value value) (every_at tree front (to number) i o place here d) ∙ in_range o.value value fine

    pub set_there : after_set tree number value ≡ set tree i (changed_by o front (asks.Set value))
    unfolding after_set
    set_there =
        ap (λ f. set_where f tree (object_of tree number) value) (fault_there ∙ fine)
        ∙ ap (λ x. set_where None tree x value) found
        ∙ placed tree front (to number) i o place here (changed_by o front (asks.Set value)) (changed_ono o front (asks.Set value))

-- ---- a command that sets a value

module _ (tree : List Object) (peer : Peer) (c : CommandFields) (o : Object) (found : object_of tree c.target ≡ Some o) (method : Method) (reached : Access)
    (kind : kind_at (Some o) c ≡ Known method reached) (free : lock_refuses o.lock peer reached ≡ false) (value : Value)
    (works : o.failing ≡ false) (asked : request_in (class_of o.value) method c.count c.params ≡ Ok (asks.Set value)) where
  refused_set : cannot_be o.value value ≡ true → execution tree peer c ≡ refused tree statuses.ParameterOutOfRange
  unfolding execution asks_out_of_range
  refused_set e = rw (found, kind, free, asked, e) refl

  carried_set : cannot_be o.value value ≡ false → execution tree peer c ≡ carried_out tree peer o (asks.Set value)
  unfolding execution asks_out_of_range asks_invalid answer_given answer_encoding
  carried_set e = rw (found, kind, free, asked, e, works) refl

-- ---- the front sets as a peer's command does

-- a value of the class of what is held is one that can be set; a block has none
of_class : (held : Held) (value : Value) → class_of held ≡ class_of_value value → is_of_its_class held value ≡ true
unfolding class_of
of_class (values.Reads r) value e = ap is_some (makes r value e).made
of_class (values.Switch switch) (to_set.Switch n) e = refl
of_class _ (to_set.Mute s) e = let no : ⊥ = cc in absurd no
of_class _ _ e = let no : ⊥ = cc in absurd no

no_block : (held : Held) (value : Value) → class_of held ≡ class_of_value value → is_block_value held ≡ false
unfolding class_of
no_block values.Block value e = absurd (no_block_value value e)
  where
    no_block_value : (v : Value) → class.Block ≡ class_of_value v → ⊥
    no_block_value (to_set.Mute s) h = cc
    no_block_value _ h = cc
no_block _ value e = refl

-- then the fault is whether the object cannot be it
fault_taken : (held : Held) (value : Value) (out : Bool) → class_of held ≡ class_of_value value →
    cannot_be held value ≡ out → fault_at held value ≡ cond out (Some faults.OutOfRange) None
fault_taken held value out same e =
    let takes : is_of_its_class held value ≡ true = of_class held value same in
    rw (no_block held value same, takes, e) refl

pub as_peers : FrontSetsAsPeersDo
unfolding set_fault after_set
as_peers tree peer c o value found same free works asked = by_kind (kind_at (Some o) c) refl free asked
  where
    fault_is : (out : Bool) → cannot_be o.value value ≡ out → set_fault tree c.target value ≡ cond out (Some faults.OutOfRange) None
    fault_is out e = ap (λ x. set_fault_in x value) found ∙ fault_taken o.value value out same e

    set_here : cannot_be o.value value ≡ false → after_set tree c.target value ≡ set_where None tree (Some o) value
    set_here e = ap (λ f. set_where f tree (object_of tree c.target) value) (fault_is false e) ∙ ap (λ x. set_where None tree x value) found

    by_range : (method : Method) (reached : Access) → kind_at (Some o) c ≡ Known method reached → lock_refuses o.lock peer reached ≡ false →
        request_in (class_of o.value) method c.count c.params ≡ Ok (asks.Set value) → (out : Bool) → cannot_be o.value value ≡ out →
        SetsTheSame tree c.target value (execution tree peer c)
    by_range method reached kind free asked true e =
        let refused = refused_set tree peer c o found method reached kind free value works asked e in
        record {
          tree_is = ap (λ (x : TreeAndReply). x.tree) refused ∙ sym (unset tree c.target value faults.OutOfRange (fault_is true e));
          status_is = ap (λ (x : TreeAndReply). x.status) refused ∙ sym (ap status_for (fault_is true e));
        }
    by_range method reached kind free asked false e =
        let carried = carried_set tree peer c o found method reached kind free value works asked e in
        record {
          tree_is = ap (λ (x : TreeAndReply). x.tree) carried ∙ ap (with_object tree) (any_peer o peer value) ∙ sym (set_here e);
          status_is = ap (λ (x : TreeAndReply). x.status) carried ∙ sym (ap status_for (fault_is false e));
        }

    by_kind : (k : MethodKind) → kind_at (Some o) c ≡ k → is_locked (Some o) k peer ≡ false → asked_at (Some o) k c ≡ Ok (asks.Set value) →
        SetsTheSame tree c.target value (execution tree peer c)
    by_kind (Known method reached) kind free asked = by_range method reached kind free asked (cannot_be o.value value) refl
    by_kind LeftOut kind free asked = let no : ⊥ = cc in absurd no
    by_kind Unknown kind free asked = let no : ⊥ = cc in absurd no
