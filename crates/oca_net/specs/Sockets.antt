-- An end at a UDP socket. It tells neither what it delivered nor what it took, and is never closed.
use Rattle.std.specs.Prelude.{◌≡◌, ◌≢◌, ◌<◌, ◌+◌, ◌==◌, ℕ, zero, suc, max, Bool, true, false, if◌then◌else◌, [], Option}
use Rattle.std.specs.Prelude.{None, Some, Result, Ok, Err, IsSome, IsSomeAnd}
use Rattle.std.specs.IoError.{error_kind}
use Rattle.std.specs.declared.io.ErrorKind.{ErrorKind}
use Rattle.std.specs.declared.io.ErrorKind.TheVariants as kind
use Rattle.std.specs.declared.io.Error.{Error}
use Rattle.oca_types.specs.declared.words.Peer.{Peer}
use Rattle.oca_net.specs.declared.end.Heard.{Heard}
use Rattle.oca_net.specs.declared.end.Heard.TheVariants as heard
use Rattle.oca_net.specs.declared.udp.BindFault.{BindFault}
use Rattle.oca_net.specs.declared.udp.BindFault.TheVariants as fault
use Rattle.oca_net.specs.declared.udp.BindError.{BindError}
use Rattle.oca_net.specs.declared.udp.BindError.TheVariants as error
use Rattle.oca_net.specs.Ends.{last_u64, one_more, is_failed, failures_after, failures_sent}
use Rattle.oca_net.specs.EndStates.{EndState}

-- What the calls of the system were, numbered from 1 in their order: looks at the clock, receives and sends. How many
-- there were; the number of the last look, and what it gave for a moment, in milliseconds (0 where the clock could not
-- be read); the number of the last receive; and how many bytes of the last datagram that was handed over were taken,
-- where it was. The reason that the system gave where the last receive or send failed, or where the time to wait could
-- not be set for the receive; and how many receives and sends a signal interrupted.
pub record CallState : Type 0 where
  pub calls : ℕ
  pub looked : ℕ
  pub reading : ℕ
  pub received : ℕ
  pub taken : Option ℕ
  pub refused : Option Error
  pub signals : ℕ

-- a signal interrupted the call
abbrev pub is_signal : ErrorKind → Bool
is_signal kind.Interrupted = true
is_signal _ = false

abbrev pub is_interrupted : Option Error → Bool
is_interrupted None = false
is_interrupted (Some e) = is_signal (error_kind e)

-- the machine does not have the address at which a socket was to be bound, where that failed for this reason
abbrev pub is_unavailable : ErrorKind → Bool
is_unavailable kind.AddrNotAvailable = true
is_unavailable _ = false

abbrev pub lacks_address : Option Error → Bool
lacks_address None = false
lacks_address (Some e) = is_unavailable (error_kind e)

-- the reason of what failed
abbrev pub reason_of : {X : Type 0} → Result X Error → Option Error
reason_of (Ok x) = None
reason_of (Err e) = Some e

-- how many calls a signal interrupted, after one that failed for this reason
abbrev pub signals_after : Option Error → ℕ → ℕ
signals_after reason n = if is_interrupted reason then one_more n else n

-- By these kinds of error the system says that no datagram has come: the time of the wait is over, or a signal
-- interrupted it.
abbrev pub says_none_came : ErrorKind → Bool
says_none_came kind.WouldBlock = true
says_none_came kind.TimedOut = true
says_none_came kind.Interrupted = true
says_none_came _ = false

abbrev pub says_none : Option Error → Bool
says_none None = false
says_none (Some e) = says_none_came (error_kind e)

-- The reason that is noted of a call that failed: the one that the system gave, or where it gave none, one of this
-- kind.
abbrev pub IsReason : (own_kind : ErrorKind) → (noted given : Option Error) → Type 0
IsReason own_kind noted None = IsSomeAnd noted (λ e. error_kind e ≡ own_kind)
IsReason own_kind noted (Some reason) = noted ≡ Some reason

-- The reason that is noted where no datagram was received. The system gives none where a datagram came whose sender has
-- no address of IPv4.
abbrev pub IsUnheardFor : (noted given : Option Error) → Type 0
IsUnheardFor noted given = IsReason kind.InvalidData noted given

-- The reason that is noted where a datagram was not taken. The system gives none where it took only a part.
abbrev pub IsUntakenFor : (was_taken : Bool) → (noted given : Option Error) → Type 0
IsUntakenFor true noted given = Unit {0}
IsUntakenFor false noted given = IsReason kind.WriteZero noted given

-- Why nothing was heard, by the reason that was noted last, which is the one that the system gave: `Quiet` where it is
-- that no datagram has come, `Failed` where it is another one.
abbrev pub IsWhy : Heard → (noted given : Option Error) → Type 0
IsWhy (heard.Quiet now) noted given = (says_none noted ≡ true) × IsUnheardFor noted given
IsWhy heard.Failed noted given = IsSome noted × (says_none noted ≡ false) × IsUnheardFor noted given
IsWhy _ noted given = Unit {0}

-- how often a send is begun at most
abbrev pub most_tries : ℕ
most_tries = 65536

-- so many more, in a number that stays at its last value
abbrev pub many_more : (n many : ℕ) → ℕ
many_more n zero = n
many_more n (suc k) = one_more (many_more n k)

-- A SEND WAS BEGUN AGAIN so often, and only where a signal interrupted it: each of its calls but the last was
-- interrupted, and so was the last one only where they were as many as may be. The counts of calls and of signals are
-- those before and after, and the last call failed for this reason, where it did.
pub record IsBegunAgain (refused : Option Error) (calls calls_now signals signals_now : ℕ) : Type 0 where
  pub again : ℕ
  pub few : again < most_tries
  pub calls_so : calls_now ≡ one_more (many_more calls again)
  pub signals_so : signals_now ≡ signals_after refused (many_more signals again)
  pub last : is_interrupted refused ≡ true → again + 1 ≡ most_tries

-- Where it is bound, its counts of failures, of receives and of sends, the latest moment that it said, the calls of the
-- system, at which moment the last receive began, by its first look at the clock, and until which it was to wait, why
-- the last receive or send that failed did so, and that of receives and of sends alone.
pub record SocketState : Type 0 where
  pub local : Peer
  pub failures : ℕ
  pub receives : ℕ
  pub sends : ℕ
  pub moment : ℕ
  pub system : CallState
  pub begun : ℕ
  pub until : ℕ
  pub fault : Option Error
  pub receive_fault : Option Error
  pub send_fault : Option Error

-- An end at a socket does not tell, and keeps time. Its present moment is no earlier than the latest that it has said.
abbrev pub state_of_socket : SocketState → EndState
state_of_socket e =
    record {
      tells = false;
      delivered = [];
      taken = [];
      closed = false;
      failures = e.failures;
      receives = e.receives;
      sends = e.sends;
      moment = Some e.moment;
      earliest = e.moment;
      latest = last_u64;
    }

-- an end that is bound here and has done nothing
abbrev pub new_socket : Peer → SocketState
new_socket local =
    record {
      local = local;
      failures = 0;
      receives = 0;
      sends = 0;
      moment = 0;
      system = record { calls = 0; looked = 0; reading = 0; received = 0; taken = None; refused = None; signals = 0 };
      begun = 0;
      until = 0;
      fault = None;
      receive_fault = None;
      send_fault = None;
    }

-- An end that was to be bound at this address and port is bound here: at port 0 the system chooses the port.
pub record IsBoundAt (ip port : ℕ) (local : Peer) : Type 0 where
  pub address : local.ip ≡ ip
  pub same_port : port ≢ 0 → local.port ≡ port

-- An end that was to be bound at one address of the machine, and at this port, is bound here: the address is not 0,
-- which is all of them, so that what the end sends leaves from there or not at all. At port 0 the system chooses the
-- port.
pub record IsBoundAtOne (port : ℕ) (local : Peer) : Type 0 where
  pub one : local.ip ≢ 0
  pub same_port : port ≢ 0 → local.port ≡ port

-- The end after a receive that returned this, and left the calls of the system, its beginning, the moment to wait for
-- and the reason so. Where it did not fail, the moment said is what the last look at the clock gave, or the one before
-- where that is later; where it failed, the reason is kept.
abbrev pub after_heard : Heard → CallState → (begun until : ℕ) → Option Error → SocketState → SocketState
after_heard h system begun until fault e =
    record e {
      failures = failures_after h e.failures;
      receives = one_more e.receives;
      moment = if is_failed h then e.moment else max e.moment system.reading;
      system = system;
      begun = begun;
      until = until;
      fault = fault;
      receive_fault = if is_failed h then fault else e.receive_fault;
    }

-- the last call of the system was a look at the clock
abbrev pub ReadClockLast : CallState → Type 0
ReadClockLast system = system.looked ≡ system.calls

-- Where a datagram was heard, the look at the clock was the call right behind the receive.
abbrev pub ReadsClockAfter : Heard → CallState → Type 0
ReadsClockAfter (heard.Datagram from now) system = ReadClockLast system × (system.looked ≡ one_more system.received)
ReadsClockAfter (heard.Quiet now) system = ReadClockLast system
ReadsClockAfter (heard.Oversize now) system = ReadClockLast system × (system.looked ≡ one_more system.received)
ReadsClockAfter _ system = Unit {0}

-- the moment of what was heard, where it has one
abbrev pub ReturnsMoment : Heard → ℕ → Type 0
ReturnsMoment (heard.Datagram from now) moment = now ≡ moment
ReturnsMoment (heard.Quiet now) moment = now ≡ moment
ReturnsMoment (heard.Oversize now) moment = now ≡ moment
ReturnsMoment _ moment = Unit {0}

-- whether so many bytes were taken
abbrev pub is_taken : ℕ → Option ℕ → Bool
is_taken bytes None = false
is_taken bytes (Some taken) = taken == bytes

-- The end after a send that returned this, and left the calls of the system so and this reason, which is kept where it
-- failed.
abbrev pub after_sent : Bool → CallState → Option Error → SocketState → SocketState
after_sent was_taken system fault e =
    record e {
      failures = failures_sent was_taken e.failures;
      sends = one_more e.sends;
      system = system;
      fault = fault;
      send_fault = if was_taken then e.send_fault else fault;
    }

-- the fault of an error
abbrev pub fault_of : BindError → BindFault
fault_of (error.Io reason) = fault.Io
fault_of error.NoMemory = fault.NoMemory
