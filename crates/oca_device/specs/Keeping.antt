-- What was answered is stored: which answers wait until the objects are stored, and when they leave.
use Rattle.std.specs.Prelude.{[], ◌&&◌, ◌++◌, ◌+◌, ◌<◌, ◌==◌, ◌||◌, ◌∷◌, ◌≡◌, ◌≤◌, Bool, IsTrue, List, false}
use Rattle.std.specs.Prelude.{if◌then◌else◌, length, nat_le, not}
use Rattle.std.specs.List.{AllByRecursion}
use Rattle.oca_device.specs.Words.{Datagram, Delivery, DeviceSizes, EndState, Failed, Object, Quiet, Sent, TakesAllBut}
use Rattle.oca_device.specs.Words.{largest_datagram, last_u64}
use Rattle.oca_device.specs.declared.report.Report.{Report}
use Rattle.oca_device.specs.Events.{Event}
use Rattle.oca_device.specs.Events as event
use Rattle.oca_device.specs.States.{state_after}
use Rattle.oca_device.specs.Written.{written}
use Rattle.oca_device.specs.Devices.{DeviceState, Represents}
use Rattle.oca_device.specs.Reports.{events_after, events_after_all, turn_report, capped}
use Rattle.oca_device.specs.Replies.{Serves, sent_for}
use Rattle.oca_device.specs.Following.{ElectronicsState, handed}

-- ---- a store

-- objects that a store was handed, and whether it then said that it holds them
pub record Storing : Type 0 where
  pub tree : List Object
  pub stored : Bool

-- Whether a store tells what it was handed, and all that it was handed, the latest last, which says nothing of a store
-- that does not tell.
pub record StoreState : Type 0 where
  pub tells : Bool
  pub storings : List Storing

-- A store was handed these objects, and said whether it holds them.
pub record Stores (stored : Bool) (tree : List Object) (old new : StoreState) : Type 0 where
  pub telling : new.tells ≡ old.tells
  pub storings : IsTrue old.tells → new.storings ≡ old.storings ++ (record { tree = tree; stored = stored }) ∷ []

-- ---- which answers wait

-- What a device keeps between its turns: whether something that a datagram wrote is not stored, and the answers that
-- wait.
pub record KeepingState : Type 0 where
  pub is_behind : Bool
  pub held : List Sent

-- a datagram wrote to an object
abbrev pub is_writing : DeviceSizes → List Object → List Event → Delivery → Bool
is_writing w tree events (Datagram from bytes now) =
    nat_le (length bytes) largest_datagram &&
    not (length (written w tree (event.Datagram from bytes now ∷ events)) == 0)
is_writing w tree events _ = false

-- a datagram holds a duplicate, whose answer is that of an earlier one
abbrev pub is_repeating : DeviceSizes → List Object → List Event → Delivery → Bool
is_repeating w tree events d = not ((turn_report w tree events d).kept == 0)

-- THE ANSWERS TO A DATAGRAM WAIT where it wrote to an object; and, while something written is not stored, where it
-- holds a duplicate.
abbrev pub answers_wait : Bool → DeviceSizes → List Object → List Event → Delivery → Bool
answers_wait behind w tree events d = is_writing w tree events d || (is_repeating w tree events d && behind)

-- whether something written is not stored, behind a delivery
abbrev pub behind_after : Bool → DeviceSizes → List Object → List Event → Delivery → Bool
behind_after behind w tree events d = is_writing w tree events d || behind

-- ---- a group of deliveries

-- the deliveries that were taken before the objects are stored once, and whether they then were
pub record Group : Type 0 where
  pub deliveries : List Delivery
  pub stored : Bool

-- whether something written is not stored, before a group is stored
abbrev pub behind_all : Bool → DeviceSizes → List Object → List Event → List Delivery → Bool
behind_all behind w tree events [] = behind
behind_all behind w tree events (d ∷ deliveries) =
    behind_all (behind_after behind w tree events d) w tree (events_after d events) deliveries

-- the answers that wait, and those that do not, in order
abbrev pub waiting : Bool → DeviceSizes → List Object → List Event → List Delivery → List Sent
waiting behind w tree events [] = []
waiting behind w tree events (d ∷ deliveries) =
    (if answers_wait behind w tree events d then sent_for w tree events d else [])
    ++ waiting (behind_after behind w tree events d) w tree (events_after d events) deliveries

abbrev pub at_once : Bool → DeviceSizes → List Object → List Event → List Delivery → List Sent
at_once behind w tree events [] = []
at_once behind w tree events (d ∷ deliveries) =
    (if answers_wait behind w tree events d then [] else sent_for w tree events d)
    ++ at_once (behind_after behind w tree events d) w tree (events_after d events) deliveries

-- whether the answers to one of them wait
abbrev pub some_wait : Bool → DeviceSizes → List Object → List Event → List Delivery → Bool
some_wait behind w tree events [] = false
some_wait behind w tree events (d ∷ deliveries) =
    answers_wait behind w tree events d
    || some_wait (behind_after behind w tree events d) w tree (events_after d events) deliveries

-- whether something written is not stored, behind a group
abbrev pub behind_group : Bool → DeviceSizes → List Object → List Event → Group → Bool
behind_group behind w tree events g =
    behind_all behind w tree events g.deliveries && not (some_wait behind w tree events g.deliveries && g.stored)

-- what a store is handed at a group: the objects behind it, where answers wait
abbrev pub storings_of : Bool → DeviceSizes → List Object → List Event → Group → List Storing
storings_of behind w tree events g =
    if some_wait behind w tree events g.deliveries then (record {
      tree = (state_after w tree (events_after_all g.deliveries events)).tree;
      stored = g.stored;
    }) ∷ [] else []

-- WHAT IS SENT OF A GROUP: first what does not wait. What waits leaves behind it, once the store has said that it holds
-- the objects; else it never does.
abbrev pub sent_for_group : Bool → DeviceSizes → List Object → List Event → Group → List Sent
sent_for_group behind w tree events g =
    at_once behind w tree events g.deliveries ++ (if g.stored then waiting behind w tree events g.deliveries else [])

-- ---- groups, in order

abbrev pub all_deliveries : List Group → List Delivery
all_deliveries [] = []
all_deliveries (g ∷ groups) = g.deliveries ++ all_deliveries groups

abbrev pub behind_groups : Bool → DeviceSizes → List Object → List Event → List Group → Bool
behind_groups behind w tree events [] = behind
behind_groups behind w tree events (g ∷ groups) =
    behind_groups (behind_group behind w tree events g) w tree (events_after_all g.deliveries events) groups

abbrev pub storings_in_all : Bool → DeviceSizes → List Object → List Event → List Group → List Storing
storings_in_all behind w tree events [] = []
storings_in_all behind w tree events (g ∷ groups) =
    storings_of behind w tree events g
    ++ storings_in_all (behind_group behind w tree events g) w tree (events_after_all g.deliveries events) groups

abbrev pub sent_of_all : Bool → DeviceSizes → List Object → List Event → List Group → List Sent
sent_of_all behind w tree events [] = []
sent_of_all behind w tree events (g ∷ groups) =
    sent_for_group behind w tree events g
    ++ sent_of_all (behind_group behind w tree events g) w tree (events_after_all g.deliveries events) groups

-- A DEVICE SERVED AN END AND KEPT ITS OBJECTS IN A STORE: there are groups of deliveries that it served; behind each
-- with answers that wait the store was handed the objects, and these answers left only where it said that it holds
-- them. A group has at most 64 deliveries. The end was handed just as many datagrams. What was written and is not
-- stored is told before and after. A number of the report that would pass 64 bits stays at its last value.
pub record ServesKeeping (behind is_behind : Bool) (old new : DeviceState) (before after : EndState)
    (idle moved : ElectronicsState) (had has : StoreState) (returned : Report) : Type 0 where
  pub groups : List Group
  pub few : AllByRecursion (λ g. length g.deliveries ≤ 64) groups
  pub report : Report
  pub returns : returned ≡ capped report
  pub serves : Serves (all_deliveries groups) old new report
  pub telling : after.tells ≡ before.tells
  pub delivered : IsTrue before.tells → after.delivered ≡ before.delivered ++ all_deliveries groups
  pub failures : after.failures < last_u64 →
      after.failures ≡ before.failures + (report.failed_receives + report.failed_sends)
  pub sent : IsTrue before.tells → (w : DeviceSizes) (tree : List Object) (events : List Event) →
      Represents w old tree events →
      TakesAllBut report.failed_sends before.taken after.taken (sent_of_all behind w tree events groups)
  pub sends : after.sends < last_u64 → (w : DeviceSizes) (tree : List Object) (events : List Event) →
      Represents w old tree events → after.sends ≡ before.sends + length (sent_of_all behind w tree events groups)
  pub following : moved.tells ≡ idle.tells
  pub followed : IsTrue idle.tells → (w : DeviceSizes) (tree : List Object) (events : List Event) →
      Represents w old tree events →
      moved.followed ≡ idle.followed ++ handed w tree events (all_deliveries groups)
  pub storing : has.tells ≡ had.tells
  pub stored : IsTrue had.tells → (w : DeviceSizes) (tree : List Object) (events : List Event) →
      Represents w old tree events →
      has.storings ≡ had.storings ++ storings_in_all behind w tree events groups
  pub unstored : (w : DeviceSizes) (tree : List Object) (events : List Event) → Represents w old tree events →
      is_behind ≡ behind_groups behind w tree events groups
