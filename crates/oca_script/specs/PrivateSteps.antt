-- A step of a replay: what was asked of it, what it did, and what is left to ask.
use Rattle.std.specs.Prelude.{◌≡◌, ℕ, List, [], ◌++◌, Bool, true, false, Result, Ok, Err}
use Rattle.oca_script.specs.declared.fault.LineFault.{LineFault}
use Rattle.oca_script.specs.declared.fault.ReplayFault.{ReplayFault}
use Rattle.oca_script.specs.declared.fault.ReplayFault.TheVariants.{Line, Read, Write, TooMuch}
use Rattle.oca_script.specs.Ends.{Input, Output}
use Rattle.oca_script.specs.Printing.{PrintsAll, PrintsPart}
use Rattle.oca_script.specs.Script.{Script, after_requests, script}
use Rattle.oca_script.specs.Replaying.{Runs, BeginsWithRequests, ReadsInput, Ends, known_bytes}

-- the text was printed, or a write failed; no read is done
abbrev pub Printed : Result Unit ReplayFault → Output → Output → List ℕ → Type 0
Printed (Ok u) old new text = PrintsAll old new text
Printed (Err (Line number fault)) old new text = PrintsAll old new text
Printed (Err Read) old new text = ⊥
Printed (Err Write) old new text = PrintsPart old new text
Printed (Err TooMuch) old new text = PrintsAll old new text

-- whatever follows, what was asked is these requests and then the rest, or the fault
abbrev pub AccountsFor : {R X : Type 0} → Result Unit ReplayFault → (X → Script R) → (X → Script R) → List R → Type 0
AccountsFor {R} {X} (Ok u) asks rest requests = (x : X) → asks x ≡ after_requests requests (rest x)
AccountsFor {R} {X} (Err (Line number fault)) asks rest requests =
    (x : X) → asks x ≡ record { requests = requests; ending = Err (Line number fault) }
AccountsFor {R} {X} (Err Read) asks rest requests = (x : X) → BeginsWithRequests requests (asks x)
AccountsFor {R} {X} (Err Write) asks rest requests = (x : X) → BeginsWithRequests requests (asks x)
AccountsFor {R} {X} (Err TooMuch) asks rest requests =
    (x : X) → asks x ≡ record { requests = requests; ending = Err TooMuch }

-- some requests were served and their text printed, and they account for what was asked
pub record ReplayStep {S R X : Type 0} (serves : S → R → S → List ℕ → Type 0) (idles : S → S → List ℕ → Type 0)
    (old new : S) (was is : Output) (result : Result Unit ReplayFault) (asks rest : X → Script R) : Type 0 where
  pub requests : List R
  pub text : List ℕ
  pub runs : Runs serves idles old requests new text
  pub prints : Printed result was is text
  pub accounts : AccountsFor result asks rest requests

-- the text was printed, or a write failed; where a read failed nothing is held
abbrev pub PrintedAtEnd : Result Unit ReplayFault → Output → Output → List ℕ → Type 0
PrintedAtEnd (Ok u) old new text = PrintsAll old new text
PrintedAtEnd (Err (Line number fault)) old new text = PrintsAll old new text
PrintedAtEnd (Err Read) old new text = PrintsAll old new text × (new.held ≡ [])
PrintedAtEnd (Err Write) old new text = PrintsPart old new text
PrintedAtEnd (Err TooMuch) old new text = PrintsAll old new text

-- the script of `given` was replayed as far as the result says, and its text printed
pub record Performs {S R : Type 0} (asked : List (List ℕ) → Result R LineFault) (serves : S → R → S → List ℕ → Type 0)
    (idles : S → S → List ℕ → Type 0) (old new : S) (was is : Output) (result : Result Unit ReplayFault)
    (given : List ℕ) : Type 0 where
  pub requests : List R
  pub text : List ℕ
  pub runs : Runs serves idles old requests new text
  pub prints : PrintedAtEnd result was is text
  pub ends : Ends result (script asked given) requests

-- there are bytes, those that the source gave where it tells them, and the script of these and of what it has left was
-- performed
abbrev pub Performance : {S R : Type 0} → (List (List ℕ) → Result R LineFault) → (S → R → S → List ℕ → Type 0) →
    (S → S → List ℕ → Type 0) → S → S → Output → Output → Input → Input → Result Unit ReplayFault → Type 0
Performance asked serves idles old new was is had has result = (taken : List ℕ) × ReadsInput had has result taken
    × Performs asked serves idles old new was is result (taken ++ known_bytes has.remaining)

-- a read or a write failed
abbrev pub is_end_failure : Result Unit ReplayFault → Bool
is_end_failure (Ok u) = false
is_end_failure (Err (Line number fault)) = false
is_end_failure (Err Read) = true
is_end_failure (Err Write) = true
is_end_failure (Err TooMuch) = false
