-- The reply of any execution fits a response.
use Rattle.oca_pair.proofs.Words.{◌≡◌, ℕ, ◌+◌, ◌^◌, ◌<◌, ◌≤◌, Bool, true, false, cond, List, length, Option, Some, None, refl, arith, lit<, lit≤, nat_lt, Result, Ok, Err, nat_tests, Peer, Reply}
use Rattle.oca_pair.proofs.Words.{Status, status_number, CommandFields, ResponseFields, ResponseFits, Object, Reading, answer_count, answer_encoding, object_of, TreeAndReply, first_that_applies}
use Rattle.oca_pair.proofs.Words.{status_lines, status_of, kind_at, asked_at, refused, by_status, reply_of}
use Rattle.oca_types.specs.declared.status.Status.TheVariants as status
use Rattle.oca_types.specs.declared.class.MethodKind.{MethodKind}
use Rattle.oca_model.specs.declared.answer.Answer.{Answer}
use Rattle.oca_model.specs.declared.answer.Answer.TheVariants as answers
use Rattle.oca_model.specs.declared.reading.Reading.TheVariants as readings
use Rattle.oca_model.specs.declared.request.Request.{Request}
use Rattle.oca_model.specs.declared.value.ValueFault.{ValueFault}
use Rattle.oca_model.specs.Readings.{reading_count}
use Rattle.oca_tree.specs.Execution.{execution}
use Rattle.oca_tree.specs.Typed.{answer_given}

-- the response with a reply, under a handle
abbrev pub response_to : ℕ → Reply → ResponseFields
response_to h reply = record { handle = h; status = status_number reply.status; count = reply.count; params = reply.params.items }

abbrev pub IsSmall : TreeAndReply → Type 0
IsSmall x = (x.count < 256) × (length x.parameters ≤ 1452)

refused_small : (tree : List Object) (s : Status) → IsSmall (refused tree s)
refused_small tree s = (lit< tt, lit≤ tt)

reading_counts : (r : Reading) → reading_count r < 256
reading_counts (readings.Mute state) = lit< tt
reading_counts (readings.Polarity state) = lit< tt
reading_counts (readings.Boolean truth) = lit< tt
reading_counts _ = lit< tt

counts : (a : Answer) → answer_count a < 256
counts (answers.Reading r) = reading_counts r
counts _ = lit< tt

passed : (b : Bool) (s more : Status) → (s ≡ status.Ok → ⊥) → cond b s more ≡ status.Ok → more ≡ status.Ok
passed true s more wrong e = absurd (wrong e)
passed false s more wrong e = e

not_over : (b c : Bool) → cond b status.BufferOverflow (cond c status.ProcessingFailed status.Ok) ≡ status.Ok → b ≡ false
not_over true c e = cc
not_over false c e = refl

within : (n : ℕ) → nat_lt 1452 n ≡ false → n ≤ 1452
within n e = grind (arith, nat_tests)

small : (tree : List Object) (p : Peer) (c : CommandFields) → IsSmall (execution tree p c)
unfolding execution
small tree p c = by_object (object_of tree c.target)
  where
    by_object : (o : Option Object) → IsSmall (by_status tree p o (asked_at o (kind_at o c) c) (status_of tree p o c))
    by_object None = refused_small tree (status_of tree p None c)
    by_object (Some o) = by_request (kind_at (Some o) c) (asked_at (Some o) (kind_at (Some o) c) c)
      where
        by_status_of : (r : Request) (s : Status) → (s ≡ status.Ok → length (answer_encoding (answer_given tree o r)) ≤ 1452) → IsSmall (by_status tree p (Some o) (Ok r) s)
        by_status_of r status.Ok h = (counts (answer_given tree o r), h refl)
        by_status_of r _ h = (lit< tt, lit≤ tt)

        by_request : (kind : MethodKind) (r : Result Request ValueFault) → IsSmall (by_status tree p (Some o) r (first_that_applies (status_lines tree p (Some o) kind r)))
        by_request kind (Err fault) = refused_small tree (first_that_applies (status_lines tree p (Some o) kind (Err fault)))
        by_request kind (Ok r) = by_status_of r (first_that_applies (status_lines tree p (Some o) kind (Ok r)))
            (λ e. within (length (answer_encoding (answer_given tree o r)))
            (not_over _ _ (passed _ status.InvalidRequest _ (λ x. cc) (passed _ status.ParameterOutOfRange _ (λ x. cc) (passed _ status.ParameterError _ (λ x. cc) (passed _ status.Locked _ (λ x. cc)
            (passed _ status.NotImplemented _ (λ x. cc) (passed _ status.BadMethod _ (λ x. cc) e))))))))

status_fits : (s : Status) → status_number s < 256
status_fits status.Ok = lit< tt
status_fits _ = lit< tt

-- so a response with it can be written
pub reply_fits : (tree : List Object) (p : Peer) (c : CommandFields) (h : ℕ) → h < 2 ^ 32 →
    ResponseFits (response_to h (reply_of tree p c)) × (length (reply_of tree p c).params.items ≤ 1452)
reply_fits tree p c h low =
    let x = small tree p c in
    (record { handle = low; status = status_fits (execution tree p c).status; count = x.0; size = room (length (execution tree p c).parameters) x.1 }, x.1)
  where
    room : (n : ℕ) → n ≤ 1452 → 10 + n < 2 ^ 32
    room n h = omega arith
