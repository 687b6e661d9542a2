-- What the calls of an end do to what it delivered, what it took, whether it is closed and its count of failures; and
-- what many sends do to what it took.
use Rattle.std.specs.Prelude.{◌≡◌, ℕ, ◌+◌, ◌<◌, ◌≤◌, min, Option, Some, None, Bool, true, false, if◌then◌else◌, List}
use Rattle.std.specs.Prelude.{[], ◌∷◌, ◌++◌, length}
use Rattle.oca_types.specs.declared.words.Peer.{Peer}
pub use Rattle.oca_types.specs.Sizes.{largest_datagram}
use Rattle.oca_net.specs.declared.end.Heard.{Heard}
use Rattle.oca_net.specs.declared.end.Heard.TheVariants as heard
use Rattle.oca_net.specs.Deliveries.{Delivery, Datagram, Quiet, Failed, Sent}

-- What an end delivered grows by the entry that a receive returns, `bytes` being what the packet then holds:
-- for an oversize datagram some datagram of more than 1,472 bytes with that moment, for Closed nothing.
abbrev pub Delivers : Heard → List ℕ → List Delivery → List Delivery → Type 0
Delivers (heard.Datagram from now) bytes old new = new ≡ old ++ Datagram from bytes now ∷ []
Delivers (heard.Quiet now) bytes old new = new ≡ old ++ Quiet now ∷ []
Delivers (heard.Oversize now) bytes old new =
    (from : Peer) × (long : List ℕ) × (largest_datagram < length long) × (new ≡ old ++ Datagram from long now ∷ [])
Delivers heard.Failed bytes old new = new ≡ old ++ Failed ∷ []
Delivers heard.Closed bytes old new = new ≡ old

-- the packet of a receive holds bytes at Datagram alone
abbrev pub HoldsOnlyADatagram : Heard → List ℕ → Type 0
HoldsOnlyADatagram (heard.Datagram from now) bytes = Unit {0}
HoldsOnlyADatagram _ bytes = bytes ≡ []

-- the moment of what was heard, where it has one, is no later than this one
abbrev pub IsHeardBy : ℕ → Heard → Type 0
IsHeardBy t (heard.Datagram from now) = now ≤ t
IsHeardBy t (heard.Quiet now) = now ≤ t
IsHeardBy t (heard.Oversize now) = now ≤ t
IsHeardBy t _ = Unit {0}

-- The latest moment that an end has said, over a receive: it is no earlier than before, and than that of what was
-- heard. An end that keeps no time says none.
abbrev pub KeepsTime : Heard → Option ℕ → Option ℕ → Type 0
KeepsTime h None new = new ≡ None
KeepsTime h (Some old) new = (t : ℕ) × (new ≡ Some t) × (old ≤ t) × IsHeardBy t h

-- the receive returned Failed
abbrev pub is_failed : Heard → Bool
is_failed heard.Failed = true
is_failed _ = false

-- the receive returned Closed
abbrev pub is_closed : Heard → Bool
is_closed heard.Closed = true
is_closed _ = false

-- the last value of a 64-bit number
abbrev pub last_u64 : ℕ
last_u64 = 18446744073709551615

-- One more, in a 64-bit number that stays at its last value.
abbrev pub one_more : ℕ → ℕ
one_more n = min (n + 1) last_u64

-- the count of failures after a receive, and after a send that returned whether the datagram was taken
abbrev pub failures_after : Heard → ℕ → ℕ
failures_after h n = if is_failed h then one_more n else n

abbrev pub failures_sent : Bool → ℕ → ℕ
failures_sent was_taken n = if was_taken then n else one_more n

-- what an end took, after a send
abbrev pub taken_after : Bool → Peer → List ℕ → List Sent → List Sent
taken_after was_taken to bytes taken = if was_taken then taken ++ (record { to = to; bytes = bytes }) ∷ [] else taken

-- The first list is the second without k of its members.
pub data Lacks {X : Type 0} : (k : ℕ) (xs ys : List X) → Type 0 where
  none : Lacks 0 [] []
  both : {k : ℕ} {xs ys : List X} (x : X) → Lacks k xs ys → Lacks k (x ∷ xs) (x ∷ ys)
  missing : {k : ℕ} {xs ys : List X} (y : X) → Lacks k xs ys → Lacks (k + 1) xs (y ∷ ys)

-- what an end took grew by these datagrams, but for those whose send failed
pub record TakesAllBut (failed : ℕ) (old new all : List Sent) : Type 0 where
  pub sent : List Sent
  pub grew : new ≡ old ++ sent
  pub part : Lacks failed sent all
