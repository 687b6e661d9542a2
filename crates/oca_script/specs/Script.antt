-- What a script asks for, as a function of its bytes.
use Rattle.std.specs.Prelude.{ℕ, ◌+◌, ◌==◌, Bool, true, false, if◌then◌else◌, nat_le, nat_lt, List, [], ◌∷◌, ◌++◌}
use Rattle.std.specs.Prelude.{length, take, Option, Some, None, Result, Ok, Err}
use Rattle.std.specs.List.{list_all}
use Rattle.oca_script.specs.Fields.{split_on, fields}
use Rattle.oca_script.specs.declared.fault.LineFault.{LineFault}
use Rattle.oca_script.specs.declared.fault.LineFault.TheVariants.{TooLong, Form}
use Rattle.oca_script.specs.declared.fault.ReplayFault.{ReplayFault}
use Rattle.oca_script.specs.declared.fault.ReplayFault.TheVariants.{Line, TooMuch}

-- ---- one line

-- a line has at most so many bytes
abbrev pub longest_line : ℕ
longest_line = 4096

-- empty, or a comment
abbrev pub is_skipped : List ℕ → Bool
is_skipped [] = true
is_skipped (b ∷ bs) = b == 35

abbrev pub is_ascii : List ℕ → Bool
is_ascii line = list_all (λ b. nat_lt b 128) line

-- whether a line asks for something; a line that is skipped does not, and some lines have a fault whatever their fields
-- are
unfoldable pub asks : List ℕ → Result Bool LineFault
asks line =
    if nat_lt longest_line (length line) then Err TooLong
    else if is_skipped line then Ok false
    else if is_ascii line then Ok true
    else Err Form

abbrev pub parsed_by : {R : Type 0} → Result Bool LineFault → Result R LineFault → Result (Option R) LineFault
parsed_by (Err fault) r = Err fault
parsed_by (Ok false) r = Ok None
parsed_by (Ok true) (Err fault) = Err fault
parsed_by (Ok true) (Ok request) = Ok (Some request)

-- A line asks for nothing, asks for one thing, or has a fault. `asked` says what fields ask for.
abbrev pub parsed : {R : Type 0} → (List (List ℕ) → Result R LineFault) → List ℕ → Result (Option R) LineFault
parsed asked line = parsed_by (asks line) (asked (fields line))

-- ---- lines

-- the lines of a text: what stands between its line feeds. The last has none, and where it is empty it is skipped like
-- any empty line.
abbrev pub lines : List ℕ → List (List ℕ)
lines text = split_on 10 text

-- The lines that count where more bytes follow: those that a line feed ends, and the last where it is too long already.
abbrev pub counted_lines : List (List ℕ) → List (List ℕ)
counted_lines [] = []
counted_lines (line ∷ []) = if nat_lt longest_line (length line) then line ∷ [] else []
counted_lines (line ∷ next ∷ more) = line ∷ counted_lines (next ∷ more)

-- ---- the whole script

-- the requests of the lines before the first with a fault, and how the script ends
pub record Script (R : Type 0) : Type 0 where
  pub requests : List R
  pub ending : Result Unit ReplayFault

-- a script that begins with these requests
abbrev pub after_requests : {R : Type 0} → List R → Script R → Script R
after_requests requests s = record { requests = requests ++ s.requests; ending = s.ending }

-- no request, and that ending
abbrev pub ends_by : {R : Type 0} → Result Unit ReplayFault → Script R
ends_by ending = record { requests = []; ending = ending }

-- a line of that number, and the script of the lines after it
abbrev pub line_then : {R : Type 0} → ℕ → Result (Option R) LineFault → Script R → Script R
line_then number (Err fault) s = ends_by (Err (Line number fault))
line_then number (Ok None) s = s
line_then number (Ok (Some request)) s = after_requests (request ∷ []) s

-- the script of these lines, numbered from `number`
abbrev pub script_of : {R : Type 0} → (List (List ℕ) → Result R LineFault) → ℕ → List (List ℕ) →
    Result Unit ReplayFault → Script R
script_of asked number [] ending = ends_by ending
script_of asked number (line ∷ lines) ending =
    line_then number (parsed asked line) (script_of asked (number + 1) lines ending)

-- What a script asks for, by its lines, which are numbered from 1. Of more than 16,777,216 bytes only the first
-- 16,777,216 count.
unfoldable pub script : {R : Type 0} → (List (List ℕ) → Result R LineFault) → List ℕ → Script R
script asked bytes =
    if nat_le (length bytes) 16777216 then script_of asked 1 (lines bytes) (Ok tt)
    else script_of asked 1 (counted_lines (lines (take 16777216 bytes))) (Err TooMuch)
