-- Which answers wait, as a device that keeps its objects in a store has it.
use Rattle.std.proofs.Common.{◌≡◌, Bool, true, cond, ◌∷◌, length, refl, sym, ap, ◌∙◌}
use Rattle.std.specs.Prelude.{◌||◌, ◌&&◌, ◌==◌, not, nat_le}
use Rattle.std.proofs.lemmas.Bool.{le-leb}
use Rattle.oca_net.specs.Ends.{largest_datagram}
use Rattle.oca_device.specs.declared.verdict.Verdict.{Verdict}
use Rattle.oca_device.specs.declared.verdict.Verdict.TheVariants.{Served, Malformed, NoRoom}
use Rattle.oca_device.specs.Answers.{verdict}
use Rattle.oca_device.specs.Events as event
use Rattle.oca_device.specs.Reports.{one_turn, verdict_turn}
use Rattle.oca_device.specs.Written.{written}
use Rattle.oca_calls.specs.WaitingAnswers.{WaitsAsKept, duplicates_of}

kept_are : (v : Verdict) → (verdict_turn v).kept ≡ duplicates_of v
kept_are (Served executed kept old reused) = refl
kept_are (Malformed fault) = refl
kept_are NoRoom = refl

pub waits_as_kept : WaitsAsKept
waits_as_kept before w tree events from bytes now few = (
  sym (ap (λ b. (b && wrote) || (not ((cond b (verdict_turn v) (record one_turn { oversize = 1 })).kept == 0) && before.is_behind)) is_few
      ∙ ap (λ n. wrote || (not (n == 0) && before.is_behind)) (kept_are v)),
  sym (ap (λ b. (b && wrote) || before.is_behind) is_few),
)
  where
    v : Verdict
    v = verdict w tree events from bytes now

    wrote : Bool
    wrote = not (length (written w tree (event.Datagram from bytes now ∷ events)) == 0)

    is_few : nat_le (length bytes) largest_datagram ≡ true
    is_few = le-leb (length bytes) largest_datagram few
