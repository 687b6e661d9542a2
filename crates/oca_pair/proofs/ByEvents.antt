-- What happened to the device says of it what its notes say.
use Rattle.oca_pair.proofs.Words.{◌≡◌, List, [], ◌∷◌, ◌++◌, refl, sym, ◌∙◌, subst, max, Result, Ok, Err, flat_map, DeviceSizes, PduFault, Msg, messages_of, read_datagram, ReadingIsExact, Object}
use Rattle.oca_pair.proofs.Words.{Event, Datagram, Tick, Local, State, moved_to, after_reading, state_after, Happening, Passes, Says, Happened, nothing, tick, local, malformed, datagram}
use Rattle.oca_pair.proofs.Words.{EventsAreBytes, clock, admitted, changes, sayings, happenings}
use Rattle.oca_device.proofs.Sessions.{none_bridged}
use Rattle.oca_device.proofs.Standing.{Stands, passing, setting, saying, read_messages}

-- ---- these happened

pub these_happened : ReadingIsExact → (E : List Event) → EventsAreBytes E → Happened E (happenings E)
these_happened exact [] b = nothing
these_happened exact (Tick now ∷ E) b = tick now (these_happened exact E b)
these_happened exact (Local ono change ∷ E) b = local ono change (these_happened exact E b)
these_happened exact (Datagram p bytes now ∷ E) b = by_read (these_happened exact E b.1) (read_datagram bytes) refl
  where
    not_both : (f : PduFault) (ms : List Msg) → Err f ≡ Ok ms → ⊥
    not_both f ms q = cc

    by_read : Happened E (happenings E) → (r : Result (List Msg) PduFault) → read_datagram bytes ≡ r →
        Happened (Datagram p bytes now ∷ E) (sayings p r ++ Passes now ∷ happenings E)
    by_read h (Ok ms) e =
        let found = ((exact bytes b.0).messages ms).0 e in
        subst (λ (x : List Msg). Happened (Datagram p bytes now ∷ E) (Says p x ∷ Passes now ∷ happenings E)) found.2 (datagram p bytes now b.0 found.0 found.1 h)
    by_read h (Err f) e = malformed p bytes now b.0 (λ ps is. not_both f (flat_map messages_of ps) (sym e ∙ read_messages exact bytes ps b.0 is)) h

-- ---- the state after events stands by them

pub stands_by : (w : DeviceSizes) (tree : List Object) (E : List Event) → Stands w tree (state_after w tree E) (happenings E)
stands_by w tree [] = record { clock_is = refl; bridged = record { each = λ q. none_bridged w; opened_is = refl }; tree_is = refl; replied = λ q h e f. absurd cc; executions_are = refl }
stands_by w tree (Tick now ∷ E) = passing w tree now (state_after w tree E) (happenings E) (stands_by w tree E)
stands_by w tree (Local ono change ∷ E) = setting w tree ono change (state_after w tree E) (happenings E) (stands_by w tree E)
stands_by w tree (Datagram p bytes now ∷ E) = by_read (stands_by w tree E) (read_datagram bytes)
  where
    s1 : State
    s1 = moved_to (max (state_after w tree E).moment now) (state_after w tree E)

    H1 : List Happening
    H1 = Passes now ∷ happenings E

    by_read : Stands w tree (state_after w tree E) (happenings E) → (r : Result (List Msg) PduFault) → Stands w tree (after_reading w p r s1) (sayings p r ++ H1)
    by_read h (Err f) = passing w tree now (state_after w tree E) (happenings E) h
    by_read h (Ok ms) =
        (saying w tree p ms s1 (clock H1) (admitted w H1) (changes w H1) (passing w tree now (state_after w tree E) (happenings E) h)).stands_so
