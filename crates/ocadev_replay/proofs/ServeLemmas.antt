-- What serving an event, and a run of events, does to a device.
use Rattle.std.proofs.Common.{◌≡◌, ℕ, List, ◌∷◌, ◌++◌, Option, Some, None, Result, Err, refl, sym, ap, ◌∙◌, subst}
use Rattle.std.specs.Prelude.{codes, IfSome}
use Rattle.std.specs.List.{flat_map}
use Rattle.oca_types.specs.declared.words.Peer.{Peer}
use Rattle.oca_types.specs.Sizes.{DeviceSizes}
use Rattle.oca_tree.specs.declared.object.Object.{Object}
use Rattle.oca_device.specs.declared.verdict.Verdict.{Verdict}
use Rattle.oca_device.specs.Devices.{DeviceState, Represents}
use Rattle.oca_device.specs.Events.{Event, Datagram, Tick}
use Rattle.oca_device.specs.Answers.{packets, verdict}
use Rattle.oca_script.specs.declared.fault.ReplayFault.{ReplayFault}
use Rattle.oca_script.specs.declared.fault.ReplayFault.TheVariants.{Read, Write}
use Rattle.oca_script.specs.declared.fault.WriteFailed.{WriteFailed}
use Rattle.oca_script.specs.Ends.{Input, Output}
use Rattle.oca_script.specs.Printing.{Prints, WritesWhole}
use Rattle.oca_script.specs.Script.{Script}
use Rattle.oca_script.specs.Replaying.{Runs, NoneLeft, OneServed, OneIdled, NeverIdles, Writes, BeginsWithRequests, known_bytes, Replays as ReplaysScript, Outcome as ScriptOutcome}
use Rattle.ocadev_replay.specs.declared.request.ScriptEvent.{ScriptEvent}
use Rattle.ocadev_replay.specs.declared.request.ScriptEvent.TheVariants as asks
use Rattle.ocadev_replay.specs.Requests.{asked_event}
use Rattle.ocadev_replay.specs.PrivateRequests.{event_of}
use Rattle.ocadev_replay.specs.Printing.{verdict_text, packet_text, event_text, events_text, events_then}
use Rattle.ocadev_replay.specs.Replaying.{ServesEvent, ServesEventAndPrints, Whole, Part, ReplaysEvents, ReplayOutcome, device_script}

-- ---- an event

pub tick-served : (a b : DeviceState) (now : ℕ) (request : ScriptEvent) (r : Result Unit WriteFailed) (u v : Output) → request ≡ asks.Tick now
    → ((w : DeviceSizes) (tree : List Object) (events : List Event) → Represents w a tree events → Represents w b tree (Tick now ∷ events))
    → Prints r u v (codes "quiet\n") → ServesEventAndPrints a (event_of request) b r u v
unfolding event_text
tick-served a b now request r u v e h prints =
    subst (λ (x : ScriptEvent). ServesEventAndPrints a (event_of x) b r u v) (sym e)
    (record {
      text = codes "quiet\n";
      serves = record { represents = h; prints = λ w tree events at_a. refl };
      prints = prints;
    })

pub datagram-serves : (a b : DeviceState) (from : Peer) (bytes : List ℕ) (now : ℕ) (v : Verdict) (ps : List (List ℕ))
    → ((w : DeviceSizes) (tree : List Object) (events : List Event) → Represents w a tree events → Represents w b tree (Datagram from bytes now ∷ events))
    → ((w : DeviceSizes) (tree : List Object) (events : List Event) → Represents w a tree events → ps ≡ packets w tree events (Datagram from bytes now))
    → ((w : DeviceSizes) (tree : List Object) (events : List Event) → Represents w a tree events → v ≡ verdict w tree events from bytes now)
    → ServesEvent a (Datagram from bytes now) b (verdict_text v ++ flat_map packet_text ps)
unfolding event_text
datagram-serves a b from bytes now v ps h sent said = record {
  represents = h;
  prints = λ w tree events at_a.
      ap (λ x. verdict_text x ++ flat_map packet_text ps) (said w tree events at_a)
      ∙ ap (λ (xs : List (List ℕ)). verdict_text (verdict w tree events from bytes now) ++ flat_map packet_text xs) (sent w tree events at_a);
}

-- ---- a run of events

runs-represent : (w : DeviceSizes) (tree : List Object) (events : List Event) (a c : DeviceState) (more : List Event) (text : List ℕ) → Runs ServesEvent NeverIdles a more c text
    → Represents w a tree events → Represents w c tree (events_then events more)
runs-represent w tree events a c more text NoneLeft at_a = at_a
runs-represent w tree events a c more text (OneServed {b = b} {requests = requests} {u = u} e h runs) at_a =
    runs-represent w tree (e ∷ events) b c requests u runs (h.represents w tree events at_a)
runs-represent w tree events a c more text (OneIdled h runs) at_a = absurd h

runs-print : (w : DeviceSizes) (tree : List Object) (events : List Event) (a c : DeviceState) (more : List Event) (text : List ℕ) → Runs ServesEvent NeverIdles a more c text
    → Represents w a tree events → text ≡ events_text w tree events more
runs-print w tree events a c more text NoneLeft at_a = refl
runs-print w tree events a c more text (OneServed {b = b} {requests = requests} {u = u} e h runs) at_a =
    ap (λ (l : List ℕ). l ++ u) (h.prints w tree events at_a)
    ∙ ap (λ (l : List ℕ). event_text w tree events e ++ l) (runs-print w tree (e ∷ events) b c requests u runs (h.represents w tree events at_a))
runs-print w tree events a c more text (OneIdled h runs) at_a = absurd h

-- ---- the whole

whole : (w : DeviceSizes) (tree : List Object) (events : List Event) (a b : DeviceState) (u v : Output) (r : Result Unit ReplayFault) (given : List ℕ) (requests : List Event) (text : List ℕ)
    → Represents w a tree events → Runs ServesEvent NeverIdles a requests b text → WritesWhole u v text → device_script given ≡ record { requests = requests; ending = r } → Whole w tree events b u v r given
whole w tree events a b u v r given requests text at_a runs appends e =
    let same : (device_script given).requests ≡ requests = ap (λ (s : Script Event). s.requests) e in
    record {
      ending = ap (λ (s : Script Event). s.ending) e;
      writes = subst (λ (t : List ℕ). WritesWhole u v t) (runs-print w tree events a b requests text runs at_a ∙ ap (λ (es : List Event). events_text w tree events es) (sym same)) appends;
      represents = subst (λ (es : List Event). Represents w b tree (events_then events es)) (sym same) (runs-represent w tree events a b requests text runs at_a);
    }

part : (w : DeviceSizes) (tree : List Object) (events : List Event) (a b : DeviceState) (u v : Output) (r : Result Unit ReplayFault) (given : List ℕ) (requests : List Event) (text : List ℕ)
    → Represents w a tree events → Runs ServesEvent NeverIdles a requests b text → Writes r u v text → BeginsWithRequests requests (device_script given) → Part w tree events b u v r given
part w tree events a b u v r given requests text at_a runs writes begins = record {
  first = requests;
  begins = begins;
  writes = subst (λ (t : List ℕ). Writes r u v t) (runs-print w tree events a b requests text runs at_a) writes;
  represents = runs-represent w tree events a b requests text runs at_a;
}

replays : (w : DeviceSizes) (tree : List Object) (events : List Event) (a b : DeviceState) (u v : Output) (r : Result Unit ReplayFault) (given : List ℕ) → Represents w a tree events
    → ReplaysScript asked_event ServesEvent NeverIdles a b u v r given → ReplaysEvents w tree events b u v r given
replays w tree events a b u v (Err Read) given at_a h = part w tree events a b u v (Err Read) given h.requests h.text at_a h.runs h.writes h.ends
replays w tree events a b u v (Err Write) given at_a h = part w tree events a b u v (Err Write) given h.requests h.text at_a h.runs h.writes h.ends
replays w tree events a b u v ended given at_a h = whole w tree events a b u v ended given h.requests h.text at_a h.runs h.writes h.ends

pub outcome-of : (w : DeviceSizes) (tree : List Object) (events : List Event) (a b : DeviceState) (u v : Output) (had has : Input) (r : Result Unit ReplayFault) → Represents w a tree events
    → ScriptOutcome asked_event ServesEvent NeverIdles a b u v had has r → ReplayOutcome w tree events b u v had has r
outcome-of w tree events a b u v had has r at_a h = (h.0, h.1, replays w tree events a b u v r (h.0 ++ known_bytes has.remaining) at_a h.2)

pub known-of : (w : DeviceSizes) (tree : List Object) (events : List Event) (a b : DeviceState) (u v : Output) (had : Option (List ℕ)) (r : Result Unit ReplayFault) → Represents w a tree events
    → IfSome had (λ given. ReplaysScript asked_event ServesEvent NeverIdles a b u v r given) → IfSome had (λ given. ReplaysEvents w tree events b u v r given)
known-of w tree events a b u v None r at_a h = tt
known-of w tree events a b u v (Some given) r at_a h = replays w tree events a b u v r given at_a h
