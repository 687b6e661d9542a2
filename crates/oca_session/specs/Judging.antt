-- How a command is judged, and one added, where only what the window retains is known. The latest command stands last.
use Rattle.std.specs.Prelude.{ℕ, nat_lt, Bool, true, if◌then◌else◌, [], ◌∷◌, ◌++◌, Option, Some, None}
use Rattle.oca_types.specs.Peers.{CommandFields}
use Rattle.oca_types.specs.Replies.{Reply}
use Rattle.oca_session.specs.declared.window.JudgedOf.{JudgedOf}
use Rattle.oca_session.specs.declared.window.JudgedOf.TheVariants as judged
use Rattle.oca_session.specs.Accepted.{Entry, Judgement, Fresh, Duplicate, Reused, Old, Retained, duplicate_or_reused}
use Rattle.oca_session.specs.Accepted.{entry_under, window, outside, higher_of, greatest}

-- the judgement that the result of `judge` tells
abbrev pub as_judgement : JudgedOf Reply → Judgement
as_judgement judged.Fresh = Fresh
as_judgement (judged.Kept reply) = Duplicate reply.now
as_judgement judged.Reused = Reused
as_judgement judged.Old = Old

-- the handle is above the floor, as each is where there is none
abbrev pub is_above : Option ℕ → ℕ → Bool
is_above None h = true
is_above (Some floor) h = nat_lt floor h

-- a command by the entry under its handle, and where there is none by whether its handle is above the floor
abbrev pub judge_entry : Option Entry → Bool → CommandFields → Judgement
judge_entry (Some e) above c = duplicate_or_reused e c
judge_entry None above c = if above then Fresh else Old

-- A command under a handle that is retained is a duplicate or reuses it; another is fresh where its handle is above the
-- floor, and else old.
abbrev pub judgement_by_window : Retained → CommandFields → Judgement
judgement_by_window k c = judge_entry (entry_under c.handle k.entries) (is_above k.floor c.handle) c

-- What is retained after one more accepted command: what no longer fits into the window may raise the floor.
abbrev pub retained_after : Retained → Entry → Retained
retained_after k e =
    record {
      size = k.size;
      entries = window k.size (k.entries ++ e ∷ []);
      floor = higher_of k.floor (greatest (outside k.size (k.entries ++ e ∷ [])));
    }
