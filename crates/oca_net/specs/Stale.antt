-- An end of a device, over another one, that drops what waited while the device stood still. Moments and times are
-- milliseconds of the clock of the end inside, but for `latest`.
use Rattle.std.specs.Prelude.{◌≡◌, ℕ, ◌+◌, ◌-◌, ◌<◌, ◌≤◌, max, min, nat_le, nat_lt, Bool, true, false, ◌&&◌, ◌||◌}
use Rattle.std.specs.Prelude.{if◌then◌else◌, List, [], Some}
use Rattle.oca_net.specs.declared.end.Heard.{Heard}
use Rattle.oca_net.specs.declared.end.Heard.TheVariants as heard
use Rattle.oca_net.specs.Ends.{is_closed, last_u64}
use Rattle.oca_net.specs.EndStates.{EndState, Receives}

-- The end inside, and the counts of failures and of receives of the end itself. The latest moment that it has said, by
-- its own clock, and by how much that is behind the clock inside. Until when it has listened. Of the last receive: when
-- it was asked, until when it was to wait, and when it was over. Until when it collects what is sent again.
pub record StaleState : Type 0 where
  pub end_state : EndState
  pub failures : ℕ
  pub receives : ℕ
  pub latest : ℕ
  pub behind : ℕ
  pub listened : ℕ
  pub asked : ℕ
  pub until : ℕ
  pub ended : ℕ
  pub collects : ℕ

-- It does not tell what it delivers and takes, and keeps time.
abbrev pub state_of_stale : StaleState → EndState
state_of_stale e =
    record {
      tells = false;
      delivered = [];
      taken = [];
      closed = e.end_state.closed;
      failures = e.failures;
      receives = e.receives;
      sends = e.end_state.sends;
      moment = Some e.latest;
      earliest = e.latest;
      latest = last_u64;
    }

-- an end over this one, which is in this state: it has said nothing, and has listened until its present moment
abbrev pub new_stale : EndState → ℕ → StaleState
new_stale inside now =
    record {
      end_state = inside;
      failures = 0;
      receives = 0;
      latest = 0;
      behind = 0;
      listened = now;
      asked = now;
      until = now;
      ended = now;
      collects = 0;
    }

-- a device that does not listen for longer stood still
abbrev pub standstill : ℕ
standstill = 1000

-- the longest standstill that the end's clock does not count in full
abbrev pub longest_pardoned : ℕ
longest_pardoned = 60000

-- so many receives at most drop what waits
abbrev pub most_dropped : ℕ
most_dropped = 65536

-- The device stood still from the one moment to the other.
abbrev pub is_standstill : (from to : ℕ) → Bool
is_standstill from to = nat_lt (from + standstill) to

-- How much of the time between two moments the end's clock leaves out: of a standstill of at most a minute all but
-- 1,000 ms.
abbrev pub left_out : (from to : ℕ) → ℕ
left_out from to =
    if is_standstill from to && nat_le (to - from) longest_pardoned then (to - from) - standstill else 0

-- by this the end inside said that nothing waits
abbrev pub says_empty : Heard → Bool
says_empty (heard.Quiet now) = true
says_empty heard.Closed = true
says_empty _ = false

-- WHAT WAITED IS DROPPED: the end inside was received from until it said, the last time, that nothing waits, or
-- 65,536 times. Nothing was sent.
pub record DropsAll (last : Heard) (before after : EndState) : Type 0 where
  pub emptied : says_empty last ≡ false → after.receives < last_u64 → after.receives ≡ before.receives + most_dropped
  pub closed : after.closed ≡ (before.closed || is_closed last)
  pub sends : after.sends ≡ before.sends

-- What is dropped before a receive, and whether the end inside was closed then: everything that waited, where the
-- device stood still since it listened last, and else nothing.
abbrev pub DropsFirst : (stood closed : Bool) (before after : EndState) → Type 0
DropsFirst false closed before after = (closed ≡ false) × (after ≡ before)
DropsFirst true closed before after = (last : Heard) × DropsAll last before after × (closed ≡ is_closed last)

-- what came over a standstill is no datagram
abbrev pub without_datagram : ℕ → Heard → Heard
without_datagram latest heard.Failed = heard.Failed
without_datagram latest heard.Closed = heard.Closed
without_datagram latest _ = heard.Quiet latest

-- the same, at this moment
abbrev pub at_moment : ℕ → Heard → Heard
at_moment latest (heard.Datagram from now) = heard.Datagram from latest
at_moment latest (heard.Quiet now) = heard.Quiet latest
at_moment latest (heard.Oversize now) = heard.Oversize latest
at_moment latest brought = brought

-- What the end returns, of what the end inside brought: no datagram where the device stood still within the receive,
-- and Closed where that was closed before.
abbrev pub handed_on : (stood closed : Bool) (latest : ℕ) → Heard → Heard
handed_on stood true latest brought = heard.Closed
handed_on true false latest brought = without_datagram latest brought
handed_on false false latest brought = at_moment latest brought

-- the latest moment that the end has said, after a receive in which the device did not stand still
abbrev pub moment_after : (behind latest : ℕ) → Heard → ℕ
moment_after behind latest (heard.Datagram from now) = max latest (now - behind)
moment_after behind latest (heard.Quiet now) = max latest (now - behind)
moment_after behind latest (heard.Oversize now) = max latest (now - behind)
moment_after behind latest _ = latest

-- THE END'S CLOCK is the clock inside without what it leaves out, and never goes back. What is dropped does not move
-- it.
abbrev pub latest_after : (stood closed : Bool) (behind latest : ℕ) → Heard → ℕ
latest_after stood true behind latest brought = latest
latest_after true false behind latest brought = latest
latest_after false false behind latest brought = moment_after behind latest brought

-- A RECEIVE HANDS ON NOTHING THAT WAITED OVER A STANDSTILL. What waited is dropped first, where the device stood still
-- since it listened last. Then the end inside is received from once. Where the device stood still beyond the moment
-- until which that was to wait, what it brought is dropped too, and the device has listened until that moment alone. It
-- waits at least as long as it collects what is sent again.
pub record HearsFresh (heard : Heard) (old new : StaleState) : Type 0 where
  pub between : EndState
  pub closed : Bool
  pub first : DropsFirst (is_standstill old.listened new.asked) closed old.end_state between
  pub brought : Heard
  pub bytes : List ℕ
  pub received : Receives brought bytes between new.end_state
  pub handed : heard ≡ handed_on (is_standstill new.until new.ended) closed new.latest brought
  pub clock : new.latest ≡ latest_after (is_standstill new.until new.ended) closed new.behind old.latest brought
  pub collected : new.collects ≤ new.until
  pub behind : new.behind ≡ min (old.behind + left_out old.listened new.asked) last_u64
  pub listened : new.listened ≡ (if is_standstill new.until new.ended then new.until else new.ended)
