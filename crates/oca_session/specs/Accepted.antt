-- The accepted commands of a session, a list that is never cut, and what a reply window of size w retains of them
-- (*profile*). In each list of commands the latest stands last.
use Rattle.std.specs.Prelude.{◌≡◌, ℕ, ◌-◌, ◌==◌, nat_eq, nat_lt, max, Bool, not, ◌&&◌, if◌then◌else◌, List, [], ◌∷◌}
use Rattle.std.specs.Prelude.{take, drop, length, Option, Some, None}
use Rattle.std.specs.List.{list_any, list_all, find}
use Rattle.std.specs.Cmp.Lexicographic.{pointwise}
use Rattle.oca_types.specs.declared.words.Command.{Command}
use Rattle.oca_types.specs.declared.words.ReplyParts.{ReplyParts}
use Rattle.oca_types.specs.Replies.{Reply, reply_in}
use Rattle.oca_types.specs.Peers.{CommandFields, fields_of}

-- An accepted command, and the reply that executing it gave.
pub record Entry : Type 0 where
  pub command : CommandFields
  pub reply : Reply

-- the accepted command of these arguments, with its reply
abbrev pub entry_of : Command → ReplyParts → Entry
entry_of command reply = record { command = fields_of command; reply = reply_in reply }

-- the reply window: the last w of the accepted commands A, or all where there are fewer
abbrev pub window : {X : Type 0} → ℕ → List X → List X
window w A = drop (length A - w) A

-- the accepted commands outside the window: all before the last w
abbrev pub outside : {X : Type 0} → ℕ → List X → List X
outside w A = take (length A - w) A

-- the command has this handle (AES70-3)
abbrev pub has_handle : ℕ → Entry → Bool
has_handle h e = e.command.handle == h

-- the command's handle is below this one
abbrev pub is_below : ℕ → Entry → Bool
is_below h e = nat_lt e.command.handle h

-- A handle is accepted where no accepted command has it and it is above the handle of each command outside the window.
abbrev pub accepts : ℕ → List Entry → ℕ → Bool
accepts w A h = not (list_any (has_handle h) A) && list_all (is_below h) (outside w A)

-- the earliest command of this handle
abbrev pub entry_under : ℕ → List Entry → Option Entry
entry_under h A = find (has_handle h) A

-- The two commands ask the same: of one object (ONo), one method (DefLevel and MethodIndex), with one ParamCount and
-- the same parameter bytes. Neither their handles nor their types are compared.
abbrev pub asks_the_same : CommandFields → CommandFields → Bool
asks_the_same c d =
    (c.target == d.target) && (c.level == d.level) && (c.index == d.index) && (c.count == d.count)
    && pointwise nat_eq c.params d.params

-- What the accepted commands say of a command: it is fresh; or a duplicate of one in the window, which has that one's
-- reply; or its handle is reused, where the one in the window under its handle asks something else; or it is old.
pub data Judgement : Type 0 where
  Fresh : Judgement
  Duplicate : (reply : Reply) → Judgement
  Reused : Judgement
  Old : Judgement

-- a command under the handle of an accepted one: a duplicate where it asks the same, else its handle is reused
abbrev pub duplicate_or_reused : Entry → CommandFields → Judgement
duplicate_or_reused e c = if asks_the_same e.command c then Duplicate e.reply else Reused

-- a command that is not accepted, by what the window has under its handle: old where that is nothing
abbrev pub judge_unaccepted : Option Entry → CommandFields → Judgement
judge_unaccepted (Some e) c = duplicate_or_reused e c
judge_unaccepted None c = Old

-- What the accepted commands A say of the command c, where the window has size w.
abbrev pub judgement : ℕ → List Entry → CommandFields → Judgement
judgement w A c = if accepts w A c.handle then Fresh else judge_unaccepted (entry_under c.handle (window w A)) c

-- the higher of two floors
abbrev pub higher_of : Option ℕ → Option ℕ → Option ℕ
higher_of None g = g
higher_of (Some f) None = Some f
higher_of (Some f) (Some g) = Some (max f g)

-- the greatest handle, or none where there is no command
abbrev pub greatest : List Entry → Option ℕ
greatest [] = None
greatest (e ∷ es) = higher_of (Some e.command.handle) (greatest es)

-- What a window of a size retains: the commands in it with their replies, and the floor, the greatest handle outside
-- it.
pub record Retained : Type 0 where
  pub size : ℕ
  pub entries : List Entry
  pub floor : Option ℕ

-- what a window of size w retains of the accepted commands A
abbrev pub retained_of : ℕ → List Entry → Retained
retained_of w A = record { size = w; entries = window w A; floor = greatest (outside w A) }

-- what is retained is that of the accepted commands A
abbrev pub AgreesWithAccepted : ℕ → List Entry → Retained → Type 0
AgreesWithAccepted w A k = k ≡ retained_of w A
