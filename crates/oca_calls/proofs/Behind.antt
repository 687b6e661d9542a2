-- What a call makes of what is behind a handle holds of the handle.
use Rattle.std.proofs.Common.{◌≡◌, ℕ, List, Option, Some, None, inl, inr, refl, ap, ◌∙◌, IsUtf8}
use Rattle.std.specs.Prelude.{IsSome, IsSomeAnd}
use Rattle.oca_model.specs.declared.request.Request.{Request}
use Rattle.oca_model.specs.declared.request.Request.TheVariants as asked
use Rattle.oca_tree.specs.LocalChanges.{LocalChange, ToLabel}
use Rattle.oca_calls.specs.declared.answer.Answer.TheVariants as answers
use Rattle.oca_tree.specs.Objects.{Store}
use Rattle.oca_calls.specs.declared.answer.Answer.{Answer}
use Rattle.oca_calls.specs.declared.device.DeviceBehind.{DeviceBehind}
use Rattle.oca_types.specs.Sizes.{DeviceSizes}
use Rattle.oca_tree.specs.declared.object.Object.{Object}
use Rattle.oca_device.specs.Events.{Event}
use Rattle.oca_model.specs.declared.value.Value.{Value}
use Rattle.oca_calls.specs.declared.value_words.ValueWords.{ValueWords}
use Rattle.oca_calls.specs.CValues.{AreWordsOf}
use Rattle.oca_calls.specs.FrontCalls.{ChangesFront, HandleChanges, HandleLabels, HandleSetsValue, HandleSetsWords, SetsWords}
use Rattle.oca_calls.specs.Numbers.{answer_number}
use Rattle.oca_calls.specs.LinkRooms.{Rooms}
use Rattle.oca_calls.specs.Calls.{Builds, HandleBuilds, HandleRuns, HandleStarts, RunsBehind, Starts, left_by_start}

-- an addition
pub adds_behind : (old new : Option DeviceBehind) (u u' : DeviceBehind) (number : ℕ) (answer : Answer) (By : Answer → Store → Store → Type 0)
    → old ≡ Some u → new ≡ Some u' → number ≡ answer_number answer
    → ((B : Store) → Builds u B → (B' : Store) × Builds u' B' × By answer B B')
    → (B : Store) → HandleBuilds old B → (B' : Store) × HandleBuilds new B' × (a : Answer) × (number ≡ answer_number a) × By a B B'
adds_behind old new u u' number answer By o n e k B h =
    let r = k B (rw o at h) in (r.0, rw n r.1, answer, e, r.2)

-- a start
pub starts_behind : (old new : Option DeviceBehind) (u u' : DeviceBehind) (number : ℕ) (answer : Answer) (r : Rooms) (window peers packets : ℕ)
    → old ≡ Some u → new ≡ left_by_start answer u' → number ≡ answer_number answer
    → ((B : Store) → Builds u B → Starts answer u u' r window peers packets B.list)
    → (B : Store) → HandleBuilds old B → HandleStarts number old new r window peers packets B.list
starts_behind old new u u' number answer r window peers packets o n e k B h = rw (o, n, e) (here (k B (rw o at h)))
  where
    here : Starts answer u u' r window peers packets B.list → HandleStarts (answer_number answer) (Some u) (left_by_start answer u') r window peers packets B.list
    here (inl (is, w, p, room, runs, none, noted)) = rw is (inl (refl, w, p, room, runs, none, noted))
    here (inr (inl (is, w, p, room, spent))) = rw is (inr (inl (refl, w, p, room, refl)))
    here (inr (inr (is, bad, same))) = rw is (inr (inr (refl, bad, rw same refl)))

-- a change at the front by words
pub sets_behind : (old new : Option DeviceBehind) (u u' : DeviceBehind) (number : ℕ) (answer : Answer) (ono : ℕ) (words : ValueWords)
    → old ≡ Some u → new ≡ Some u' → number ≡ answer_number answer
    → ((r : Rooms) (w : DeviceSizes) (T : List Object) (E : List Event) → RunsBehind r w u T E → (value : Option Value) × AreWordsOf words value × SetsWords r w answer u' T E ono value)
    → HandleSetsWords number old new ono words
sets_behind old new u u' number answer ono words o n e k r w T E h =
    let m = k r w T E (rw o at h) in (m.0, m.1, rw (n, e) (by m.0 m.2))
  where
    by : (value : Option Value) → SetsWords r w answer u' T E ono value → HandleSetsValue r w (answer_number answer) (Some u') T E ono value
    by None (is, runs) = (rw is refl, runs)
    by (Some value) (is, runs) = (rw is refl, runs)

-- a change at the front of a label, of whether an object is enabled, of its lock, or of whether its hardware refuses
pub changes_behind : (old new : Option DeviceBehind) (u u' : DeviceBehind) (number : ℕ) (answer : Answer) (ono : ℕ) (change : LocalChange) (q : Request)
    → old ≡ Some u → new ≡ Some u' → number ≡ answer_number answer
    → ((r : Rooms) (w : DeviceSizes) (T : List Object) (E : List Event) → RunsBehind r w u T E → ChangesFront r w answer u' T E ono change q)
    → HandleChanges number old new ono change q
changes_behind old new u u' number answer ono change q o n e k r w T E h =
    let f = k r w T E (rw o at h) in rw (n, e) (f.1, ap answer_number f.0)

there_is : {X : Type 0} (P : X → Type 0) (x : Option X) → IsSomeAnd x P → IsSome x
there_is P None h = absurd h
there_is P (Some x) h = refl

-- a label, which the bytes are or not
pub labels_behind : (old new : Option DeviceBehind) (u u' : DeviceBehind) (number : ℕ) (answer : Answer) (ono : ℕ) (label : List ℕ)
    → old ≡ Some u → new ≡ Some u' → number ≡ answer_number answer
    → (IsUtf8 label → (r : Rooms) (w : DeviceSizes) (T : List Object) (E : List Event) → RunsBehind r w u T E → ChangesFront r w answer u' T E ono (ToLabel label) (asked.SetLabel label))
    → ((IsUtf8 label → ⊥) → IsSome u.device → (answer ≡ answers.BadText) × (u' ≡ u))
    → HandleLabels number old new ono label
labels_behind old new u u' number answer ono label o n e is other =
    (λ utf8. changes_behind old new u u' number answer ono (ToLabel label) (asked.SetLabel label) o n e (is utf8), refuses)
  where
    refuses : (IsUtf8 label → ⊥) → (r : Rooms) (w : DeviceSizes) (T : List Object) (E : List Event) → HandleRuns r w old T E → (number ≡ 6) × HandleRuns r w new T E
    refuses none r w T E h =
        let runs : RunsBehind r w u T E = rw o at h in
        let f = other none (there_is _ u.device runs.1) in
        (e ∙ ap answer_number f.0, rw (n, f.1) runs)
