-- What a replay does.
use Rattle.std.specs.Prelude.{◌≡◌, ◌⊎◌, ◌≤◌, ℕ, Bool, true, List, [], ◌∷◌, ◌++◌, length, Option, None, Some, Result, Ok}
use Rattle.std.specs.Prelude.{Err, OnOk}
use Rattle.std.specs.Io.KnownBytes.{Consumes, IsAtEnd}
use Rattle.oca_script.specs.declared.fault.LineFault.{LineFault}
use Rattle.oca_script.specs.declared.fault.Stop.{Stop}
use Rattle.oca_script.specs.declared.fault.Stop.TheVariants as stop
use Rattle.oca_script.specs.declared.fault.ReplayFault.{ReplayFault}
use Rattle.oca_script.specs.declared.fault.WriteFailed.{WriteFailed}
use Rattle.oca_script.specs.declared.fault.ReplayFault.TheVariants.{Line, Read, Write, TooMuch}
use Rattle.oca_script.specs.Ends.{Input, Output}
use Rattle.oca_script.specs.Printing.{Prints, PrintsAll, PrintsPart, WritesWhole, WritesFront}
use Rattle.oca_script.specs.Script.{Script, script, after_requests}

-- ---- a line

-- a request was served from old to new, and its text printed as far as the writes went
pub record Served {S R : Type 0} (serves : S → R → S → List ℕ → Type 0) (old : S) (request : R) (new : S)
    (Printed : List ℕ → Type 0) : Type 0 where
  pub text : List ℕ
  pub serves_it : serves old request new text
  pub prints : Printed text

-- What serving a line did: it served the request; or the line has that fault, and nothing was done.
abbrev pub ServesLine : {S R : Type 0} → Result R LineFault → (S → R → S → List ℕ → Type 0) → S → S → Result Unit Stop →
    Output → Output → Type 0
ServesLine (Err fault) serves old new result was is = (result ≡ Err (stop.Line fault)) × (new ≡ old) × (is ≡ was)
ServesLine (Ok request) serves old new (Ok u) was is = Served serves old request new (PrintsAll was is)
ServesLine (Ok request) serves old new (Err stop.Write) was is = Served serves old request new (PrintsPart was is)
ServesLine (Ok request) serves old new (Err (stop.Line fault)) was is = ⊥

-- ---- requests

-- From one state the requests lead to another, one after another, and print the text. Before a request, and behind the
-- last, the state may go on by itself as often as it likes: that is what it does while the next request is awaited.
pub data Runs {S R : Type 0} (serves : S → R → S → List ℕ → Type 0) (idles : S → S → List ℕ → Type 0)
    : (old : S) (requests : List R) (new : S) (text : List ℕ) → Type 0 where
  NoneLeft : {a : S} → Runs serves idles a [] a []
  OneServed : {a b c : S} {requests : List R} {t u : List ℕ} (request : R) →
      serves a request b t → Runs serves idles b requests c u → Runs serves idles a (request ∷ requests) c (t ++ u)
  OneIdled : {a b c : S} {requests : List R} {t u : List ℕ} →
      idles a b t → Runs serves idles b requests c u → Runs serves idles a requests c (t ++ u)

-- nothing goes on by itself
abbrev pub NeverIdles : {S : Type 0} → S → S → List ℕ → Type 0
NeverIdles a b text = ⊥

-- ---- between requests

-- a state stayed as it was, or went on by itself, and printed this
abbrev pub GoesOn : {S : Type 0} → (S → S → List ℕ → Type 0) → S → S → List ℕ → Type 0
GoesOn idles old new text = ((new ≡ old) × (text ≡ [])) ⊎ idles old new text

-- what a language did before a read, and what was printed, as far as the writes went
pub record Awaited {S : Type 0} (idles : S → S → List ℕ → Type 0) (old new : S) (result : Result Unit WriteFailed)
    (was is : Output) : Type 0 where
  pub text : List ℕ
  pub goes_on : GoesOn idles old new text
  pub prints : Prints result was is text

-- ---- a replay

-- all of the text was written, or a front of it where a write failed
abbrev pub Writes : Result Unit ReplayFault → Output → Output → List ℕ → Type 0
Writes (Ok u) was is text = WritesWhole was is text
Writes (Err (Line number fault)) was is text = WritesWhole was is text
Writes (Err Read) was is text = WritesWhole was is text
Writes (Err Write) was is text = WritesFront was is text
Writes (Err TooMuch) was is text = WritesWhole was is text

-- these requests are the first of the script's
abbrev pub BeginsWithRequests : {R : Type 0} → List R → Script R → Type 0
BeginsWithRequests {R} requests s = (more : Script R) × (s ≡ after_requests requests more)

-- how a replay of the script ends: with its last request or at its fault, or earlier where a read or a write failed
abbrev pub Ends : {R : Type 0} → Result Unit ReplayFault → Script R → List R → Type 0
Ends (Ok u) s requests = s ≡ record { requests = requests; ending = Ok tt }
Ends (Err (Line number fault)) s requests = s ≡ record { requests = requests; ending = Err (Line number fault) }
Ends (Err Read) s requests = BeginsWithRequests requests s
Ends (Err Write) s requests = BeginsWithRequests requests s
Ends (Err TooMuch) s requests = s ≡ record { requests = requests; ending = Err TooMuch }

-- From old to new the script was replayed, as far as the result says, and its text was written.
pub record Replays {S R : Type 0} (asked : List (List ℕ) → Result R LineFault) (serves : S → R → S → List ℕ → Type 0)
    (idles : S → S → List ℕ → Type 0) (old new : S) (was is : Output) (result : Result Unit ReplayFault)
    (given : List ℕ) : Type 0 where
  pub requests : List R
  pub text : List ℕ
  pub runs : Runs serves idles old requests new text
  pub writes : Writes result was is text
  pub ends : Ends result (script asked given) requests

-- the known bytes, or none
abbrev pub known_bytes : Option (List ℕ) → List ℕ
known_bytes None = []
known_bytes (Some bytes) = bytes

-- a read failed exactly where the result is Read
abbrev pub ReadFails : Result Unit ReplayFault → Bool → Bool → Type 0
ReadFails (Ok u) before after = after ≡ before
ReadFails (Err (Line number fault)) before after = after ≡ before
ReadFails (Err Read) before after = after ≡ true
ReadFails (Err Write) before after = after ≡ before
ReadFails (Err TooMuch) before after = after ≡ before

-- a source gave `taken` of what it had; at Ok it had no more
pub record ReadsInput (had has : Input) (result : Result Unit ReplayFault) (taken : List ℕ) : Type 0 where
  pub consumes : Consumes had.remaining has.remaining taken
  pub bounded : length taken ≤ 16777217
  pub ended : OnOk result (IsAtEnd has.remaining)
  pub failed : ReadFails result had.failed has.failed

-- There are bytes, those that the source gave where it tells them, and the script of these and of what it has left was
-- replayed.
abbrev pub Outcome : {S R : Type 0} → (List (List ℕ) → Result R LineFault) → (S → R → S → List ℕ → Type 0) →
    (S → S → List ℕ → Type 0) → S → S → Output → Output → Input → Input → Result Unit ReplayFault → Type 0
Outcome asked serves idles old new was is had has result = (taken : List ℕ) × ReadsInput had has result taken
    × Replays asked serves idles old new was is result (taken ++ known_bytes has.remaining)
