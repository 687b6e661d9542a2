-- Schedules with loss, repeats and overtaking, of which the laws speak: they meet all that they ask.
use Rattle.oca_pair.proofs.Words.{◌≡◌, ℕ, ◌^◌, ◌<◌, true, false, List, [], ◌∷◌, ◌++◌, Some, None, refl, sym, ap, subst, lit<, lit≤, filter, Result, Ok, Peer, CommandFields, same_peer, DeviceSizes}
use Rattle.oca_pair.proofs.Words.{PduFault, Seconds, Msg, Command, Commands, OneKeepAlive, pdu_encoding, read_datagram, WrittenIsReadBack, Object, Happening, Passes, clock, admitted, has_room}
use Rattle.oca_pair.proofs.Words.{Untaken, Request, new_link, command_under, Start, Network, PeerLink, SentDatagram, Renewal, Setup, device_address, run_setup, opening, Step, Submit, Due, ToDevice}
use Rattle.oca_pair.proofs.Words.{Other, Take, Renew, Beside, after_step, after_steps, sayings, RequestFits, Fit, KeepsItsSession, CarriesUntaken, IsAnswered, HoldsUntaken, HoldsItsAnswer, meanwhile}
use Rattle.oca_pair.proofs.Words.{come_back, RenewsNothing, ComesBack}
use Rattle.std.specs.Prelude.{length}
use Rattle.oca_pair.proofs.Wire.{read_command, read_keep_alive}
use Rattle.oca_pair.proofs.Arrivals.{HasOneSession}
use Rattle.oca_pair.proofs.Renewing.{renew_nothing}
use Rattle.oca_pair.proofs.Lawful.{never_old_law}
use Rattle.oca_pair.proofs.RoundTrip.{round_trip_law}

abbrev controller : Peer
controller = record { ip = 0x7F000001; port = 9001 }

abbrev the_starts : List Start
the_starts = (record { peer = controller; first_handle = record { 0 = 1 } }) ∷ []

-- GetState of object 4097
abbrev get_state : Request
get_state = record { target = 4097; level = 4; index = 1; count = 0; params = [] }

-- Three commands are sent. The third comes first and then again, the first comes later, and the second is lost.
abbrev the_steps : List Step
the_steps =
    Submit 0 get_state 0 ∷ Submit 0 get_state 0 ∷ Submit 0 get_state 0 ∷ Due 0 0 ∷ Due 0 0 ∷ Due 0 0
    ∷ ToDevice 2 100 ∷ ToDevice 2 200 ∷ ToDevice 0 300 ∷ []

-- a window of 5 is as large as a span of 3 asks, and there is room for one peer
abbrev the_sizes : DeviceSizes
the_sizes = record { window = 5; peers = 1 }

abbrev the_setup : Setup
the_setup = run_setup 3

abbrev the_network : List Object → Network
the_network tree = after_steps the_steps (opening the_sizes the_setup tree the_starts)

abbrev third : CommandFields
third = command_under 3 get_state

abbrev sent_third : SentDatagram
sent_third = record { peer = controller; bytes = pdu_encoding (Commands true (third ∷ [])) }

abbrev held : ℕ → Untaken
held h = record { command = command_under h get_state; submitted = 0; times = 1; last = 0; answer = None }

abbrev the_link : PeerLink
the_link =
    record {
      peer = controller;
      link = record { device = device_address; moment = 0; next = Some 4; sent = 0; heard = 0; lost = false; span = 3; untaken = held 1 ∷ held 2 ∷ held 3 ∷ [] };
    }

fits : RequestFits get_state
fits = record { target = lit< tt; level = lit< tt; index = lit< tt; count = lit< tt }

meets : Fit the_starts the_steps
meets = ((lit< tt, tt), (fits, (fits, (fits, (tt, (tt, (tt, (tt, (tt, (tt, tt))))))))))

carries_third : CarriesUntaken sent_third the_link third
carries_third = record { peer = refl; untaken = held 3; held = (2, lit< tt, refl); command = refl; bytes = refl }

-- what the controller sends for a command, and what is read of it
abbrev bytes_of : ℕ → List ℕ
bytes_of h = pdu_encoding (Commands true (command_under h get_state ∷ []))

abbrev command_read : ℕ → Result (List Msg) PduFault
command_read h = Ok (Command true (command_under h get_state) ∷ [])

read_of : WrittenIsReadBack → (h : ℕ) → h < 2 ^ 32 → read_datagram (bytes_of h) ≡ command_read h
read_of law h low =
    read_command law (command_under h get_state)
    (record { fits = record { handle = low; target = fits.target; level = fits.level; index = fits.index; count = fits.count; size = lit< tt }; short = lit≤ tt })

-- the controller keeps its session, where this is read of its first and of its third command
abbrev KeepsWhere : Result (List Msg) PduFault → Result (List Msg) PduFault → Type 0
KeepsWhere first third =
    let H : List Happening =
    sayings controller third ++ Passes 400 ∷ (sayings controller first ++ Passes 300 ∷ (sayings controller third ++ Passes 200 ∷ (sayings controller third ++ Passes 100 ∷ []))) in
    HasOneSession controller (admitted the_sizes H)

keeps : WrittenIsReadBack → KeepsWhere (read_datagram (bytes_of 1)) (read_datagram (bytes_of 3))
keeps law =
    subst (λ (r : Result (List Msg) PduFault). KeepsWhere r (read_datagram (bytes_of 3))) (sym (read_of law 1 (lit< tt)))
    (subst (λ (r : Result (List Msg) PduFault). KeepsWhere (command_read 1) r) (sym (read_of law 3 (lit< tt))) refl)

-- and there is room for it at 400, when it has come before
abbrev RoomWhere : Result (List Msg) PduFault → Result (List Msg) PduFault → Type 0
RoomWhere first third =
    let H : List Happening =
    Passes 400 ∷ (sayings controller first ++ Passes 300 ∷ (sayings controller third ++ Passes 200 ∷ (sayings controller third ++ Passes 100 ∷ []))) in
    has_room the_sizes (clock H) controller (admitted the_sizes H) ≡ true

finds_room : WrittenIsReadBack → RoomWhere (read_datagram (bytes_of 1)) (read_datagram (bytes_of 3))
finds_room law =
    subst (λ (r : Result (List Msg) PduFault). RoomWhere r (read_datagram (bytes_of 3))) (sym (read_of law 1 (lit< tt)))
    (subst (λ (r : Result (List Msg) PduFault). RoomWhere (command_read 1) r) (sym (read_of law 3 (lit< tt))) refl)

-- so the third command, delivered once more, is answered
pub repeated_is_answered : WrittenIsReadBack → (tree : List Object) → IsAnswered 2 400 (the_network tree) sent_third third
repeated_is_answered law tree =
    never_old_law law the_sizes the_setup tree the_starts the_steps 0 the_link refl (record { some = lit< tt; wide = lit≤ tt }) refl meets 2 400 sent_third third
    refl carries_third (finds_room law) (keeps law)

-- Before the device's datagram, the fourth that it sent, comes to the link, the first command is sent again, the third is asked
-- for in vain, a keep-alive is sent beside the link, and the second command comes to the device at last.
abbrev between : List Step
between = Due 0 410 ∷ Take 0 3 ∷ Beside 0 415 ∷ ToDevice 1 420 ∷ []

pub repeated_comes_back : WrittenIsReadBack → (tree : List Object) → ComesBack 2 400 between 500 0 third controller (the_network tree)
repeated_comes_back law tree =
    round_trip_law law the_sizes the_setup tree the_starts the_steps 0 the_link refl (record { some = lit< tt; wide = lit≤ tt }) refl meets 2 400 sent_third third between 500
    refl carries_third (finds_room law) (keeps law) (tt, (tt, (tt, (tt, tt)))) refl

abbrev again : Untaken
again = record { command = command_under 1 get_state; submitted = 0; times = 2; last = 410; answer = None }

still_untaken : (tree : List Object) → HoldsUntaken 0 third (meanwhile 2 400 between (the_network tree))
still_untaken tree = record {
  link = record {
    peer = controller;
    link = record { device = device_address; moment = 410; next = Some 4; sent = 410; heard = 0; lost = false; span = 3; untaken = again ∷ held 2 ∷ held 3 ∷ [] };
  };
  there = refl;
  untaken = held 3;
  held = (2, lit< tt, refl);
  command = refl;
}

-- so the link holds the third command's answer then
pub repeated_is_held : WrittenIsReadBack → (tree : List Object) → HoldsItsAnswer 0 third controller (come_back 2 400 between 500 (the_network tree))
repeated_is_held law tree = (repeated_comes_back law tree).held (still_untaken tree)

-- Another peer is known when the controller's datagram comes first, at 0, and there is room for one alone: it finds no room. It comes again
-- at 200,000, when the other is forgotten, and is executed. The controller keeps its session, since its first datagram was not admitted.
abbrev other : Peer
other = record { ip = 0x7F000001; port = 9100 }

abbrev alive : List ℕ
alive = pdu_encoding (OneKeepAlive (Seconds 5))

abbrev crowded : List Step
crowded = Other other alive 0 ∷ Submit 0 get_state 0 ∷ Due 0 0 ∷ ToDevice 0 0 ∷ ToDevice 0 200000 ∷ []

abbrev KeepsInTheCrowd : Result (List Msg) PduFault → Result (List Msg) PduFault → Type 0
KeepsInTheCrowd command beat =
    let H : List Happening =
    sayings controller command ++ Passes 200000 ∷ (sayings controller command ++ Passes 0 ∷ (sayings other beat ++ Passes 0 ∷ [])) in
    HasOneSession controller (admitted the_sizes H)

pub crowded_keeps : WrittenIsReadBack → (tree : List Object) → KeepsItsSession controller (after_steps crowded (opening the_sizes the_setup tree the_starts))
crowded_keeps law tree =
    subst (λ (r : Result (List Msg) PduFault). KeepsInTheCrowd r (read_datagram alive)) (sym (read_of law 1 (lit< tt)))
    (subst (λ (r : Result (List Msg) PduFault). KeepsInTheCrowd (command_read 1) r) (sym (read_keep_alive law)) refl)

-- And that command is answered then, although more peers came since the device was made than there is room for.
abbrev before_room : List Step
before_room = Other other alive 0 ∷ Submit 0 get_state 0 ∷ Due 0 0 ∷ ToDevice 0 0 ∷ []

abbrev first : CommandFields
first = command_under 1 get_state

abbrev sent_first : SentDatagram
sent_first = record { peer = controller; bytes = pdu_encoding (Commands true (first ∷ [])) }

abbrev the_only_link : PeerLink
the_only_link =
    record {
      peer = controller;
      link = record { device = device_address; moment = 0; next = Some 2; sent = 0; heard = 0; lost = false; span = 3; untaken = held 1 ∷ [] };
    }

abbrev RoomInTheCrowd : Result (List Msg) PduFault → Result (List Msg) PduFault → Type 0
RoomInTheCrowd command beat =
    let H : List Happening = Passes 200000 ∷ (sayings controller command ++ Passes 0 ∷ (sayings other beat ++ Passes 0 ∷ [])) in
    has_room the_sizes (clock H) controller (admitted the_sizes H) ≡ true

room_in_the_crowd : WrittenIsReadBack → RoomInTheCrowd (read_datagram (bytes_of 1)) (read_datagram alive)
room_in_the_crowd law =
    subst (λ (r : Result (List Msg) PduFault). RoomInTheCrowd r (read_datagram alive)) (sym (read_of law 1 (lit< tt)))
    (subst (λ (r : Result (List Msg) PduFault). RoomInTheCrowd (command_read 1) r) (sym (read_keep_alive law)) refl)

pub crowded_is_answered : WrittenIsReadBack → (tree : List Object) → IsAnswered 0 200000 (after_steps before_room (opening the_sizes the_setup tree the_starts)) sent_first first
crowded_is_answered law tree =
    never_old_law law the_sizes the_setup tree the_starts before_room 0 the_only_link refl (record { some = lit< tt; wide = lit≤ tt }) refl ((lit< tt, tt), (tt, (fits, (tt, (tt, tt)))))
    0 200000 sent_first first refl
    (record { peer = refl; untaken = held 1; held = (0, lit< tt, refl); command = refl; bytes = refl })
    (room_in_the_crowd law) (crowded_keeps law tree)

-- The link gave the handles 1, 2 and 3. It is renewed with the first handle 9, or with 4, which its next command would get,
-- and the span 2: it holds nothing then, and its next command is under that handle. With 3, which it gave, nothing is done.
renewed_goes_on : (tree : List Object) →
    (after_step (Renew 0 9 2 16000 0) (the_network tree)).links ≡ (record { peer = controller; link = new_link device_address 9 16000 2 }) ∷ []
renewed_goes_on tree = refl

renewed_goes_on_with_the_next : (tree : List Object) →
    (after_step (Renew 0 4 2 16000 0) (the_network tree)).links ≡ (record { peer = controller; link = new_link device_address 4 16000 2 }) ∷ []
renewed_goes_on_with_the_next tree = refl

renewed_below_does_nothing : (tree : List Object) → after_step (Renew 0 3 2 16000 0) (the_network tree) ≡ the_network tree
renewed_below_does_nothing tree = refl

-- It left three commands behind. Renewed with the first handle 4 and the span 1 it fits the window of 5, since 2 * 1 + 3 is at
-- most 5 + 1: its first command is answered, whatever becomes of those three.
abbrev renewing : List Step
renewing = the_steps ++ Renew 0 4 1 500 0 ∷ Submit 0 get_state 500 ∷ Due 0 500 ∷ []

abbrev the_renewed : PeerLink
the_renewed =
    record {
      peer = controller;
      link = record {
        device = device_address;
        moment = 500;
        next = Some 5;
        sent = 500;
        heard = 500;
        lost = false;
        span = 1;
        untaken = (record { command = command_under 4 get_state; submitted = 500; times = 1; last = 500; answer = None }) ∷ [];
      };
    }

abbrev sent_fourth : SentDatagram
sent_fourth = record { peer = controller; bytes = bytes_of 4 }

abbrev after_it : Result (List Msg) PduFault → Result (List Msg) PduFault → List Happening
after_it first third =
    Passes 600 ∷ (sayings controller first ++ Passes 300 ∷ (sayings controller third ++ Passes 200 ∷ (sayings controller third ++ Passes 100 ∷ [])))

abbrev KeepsThrough : Result (List Msg) PduFault → Result (List Msg) PduFault → Result (List Msg) PduFault → Type 0
KeepsThrough first third fourth = HasOneSession controller (admitted the_sizes (sayings controller fourth ++ after_it first third))

abbrev RoomThrough : Result (List Msg) PduFault → Result (List Msg) PduFault → Type 0
RoomThrough first third = has_room the_sizes (clock (after_it first third)) controller (admitted the_sizes (after_it first third)) ≡ true

keeps_through : WrittenIsReadBack → KeepsThrough (read_datagram (bytes_of 1)) (read_datagram (bytes_of 3)) (read_datagram (bytes_of 4))
keeps_through law =
    subst (λ (r : Result (List Msg) PduFault). KeepsThrough r (read_datagram (bytes_of 3)) (read_datagram (bytes_of 4))) (sym (read_of law 1 (lit< tt)))
    (subst (λ (r : Result (List Msg) PduFault). KeepsThrough (command_read 1) r (read_datagram (bytes_of 4))) (sym (read_of law 3 (lit< tt)))
    (subst (λ (r : Result (List Msg) PduFault). KeepsThrough (command_read 1) (command_read 3) r) (sym (read_of law 4 (lit< tt))) refl))

room_through : WrittenIsReadBack → RoomThrough (read_datagram (bytes_of 1)) (read_datagram (bytes_of 3))
room_through law =
    subst (λ (r : Result (List Msg) PduFault). RoomThrough r (read_datagram (bytes_of 3))) (sym (read_of law 1 (lit< tt)))
    (subst (λ (r : Result (List Msg) PduFault). RoomThrough (command_read 1) r) (sym (read_of law 3 (lit< tt))) refl)

renewing_meets : Fit the_starts renewing
renewing_meets = ((lit< tt, tt), (fits, (fits, (fits, (tt, (tt, (tt, (tt, (tt, (tt, (lit< tt, (fits, (tt, tt)))))))))))))

carries_fourth : CarriesUntaken sent_fourth the_renewed (command_under 4 get_state)
carries_fourth = record {
  peer = refl;
  untaken = record { command = command_under 4 get_state; submitted = 500; times = 1; last = 500; answer = None };
  held = (0, lit< tt, refl);
  command = refl;
  bytes = refl;
}

pub renewed_is_answered : WrittenIsReadBack → (tree : List Object) →
    IsAnswered 3 600 (after_steps renewing (opening the_sizes the_setup tree the_starts)) sent_fourth (command_under 4 get_state)
renewed_is_answered law tree =
    never_old_law law the_sizes the_setup tree the_starts renewing 0 the_renewed refl (record { some = lit< tt; wide = lit≤ tt }) refl renewing_meets
    3 600 sent_fourth (command_under 4 get_state) refl carries_fourth (room_through law) (keeps_through law)

renews_nothing_meanwhile : (n : Network) → RenewsNothing controller n (meanwhile 3 600 (Beside 0 610 ∷ ToDevice 1 620 ∷ []) n)
renews_nothing_meanwhile n =
    ap (λ (rs : List Renewal). length (filter (λ (x : Renewal). same_peer x.peer controller) rs)) (renew_nothing (ToDevice 3 600 ∷ Beside 0 610 ∷ ToDevice 1 620 ∷ []) n (tt, (tt, (tt, tt))))

-- And its answer comes back, though a keep-alive is sent beside the link and the second command, which the old link left
-- behind, comes to the device meanwhile.
pub renewed_comes_back : WrittenIsReadBack → (tree : List Object) →
    ComesBack 3 600 (Beside 0 610 ∷ ToDevice 1 620 ∷ []) 700 0 (command_under 4 get_state) controller (after_steps renewing (opening the_sizes the_setup tree the_starts))
renewed_comes_back law tree =
    round_trip_law law the_sizes the_setup tree the_starts renewing 0 the_renewed refl (record { some = lit< tt; wide = lit≤ tt }) refl renewing_meets
    3 600 sent_fourth (command_under 4 get_state) (Beside 0 610 ∷ ToDevice 1 620 ∷ []) 700 refl carries_fourth (room_through law) (keeps_through law) (tt, (tt, tt))
    (renews_nothing_meanwhile (after_steps renewing (opening the_sizes the_setup tree the_starts)))
