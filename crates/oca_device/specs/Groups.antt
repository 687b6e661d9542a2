-- How the answers to a datagram are grouped: neighbouring responses leave in one PDU, and a keep-alive in one of its
-- own. Each group is the one PDU of a datagram (*profile*). In each list the first one stands first.
use Rattle.std.specs.Prelude.{[], ⊤, ◌++◌, ◌<◌, ◌∷◌, ◌≡◌, ◌≤◌, List, if◌then◌else◌, length, map, nat_le, ℕ}
use Rattle.std.specs.List.{AllByRecursion, flat_map}
use Rattle.oca_device.specs.Words.{Command, Commands, KeepAlive, Msg, OneKeepAlive, Pdu, Response, ResponseFields}
use Rattle.oca_device.specs.Words.{Responses, largest_datagram, messages_of, most_parameter_bytes, pdu_encoding}

-- ---- what is promised of the groups

-- A group is one keep-alive, or one or more responses whose PDU has at most 1,472 bytes.
abbrev pub IsGroup : Pdu → Type 0
IsGroup (OneKeepAlive form) = ⊤
IsGroup (Responses rs) = (0 < length rs) × (length (pdu_encoding (Responses rs)) ≤ largest_datagram)
IsGroup (Commands respond cs) = ⊥

-- The PDU of these responses has no room for the first response of the next group.
abbrev pub HasNoRoom : List ResponseFields → Pdu → Type 0
HasNoRoom rs (Responses []) = ⊤
HasNoRoom rs (Responses (r ∷ more)) = largest_datagram < length (pdu_encoding (Responses (rs ++ r ∷ [])))
HasNoRoom rs _ = ⊤

-- A group of responses ends only at a keep-alive, or where the next response would make its PDU too long.
abbrev pub IsFullBefore : Pdu → Pdu → Type 0
IsFullBefore (Responses rs) next = HasNoRoom rs next
IsFullBefore _ next = ⊤

-- THE GROUPS of answers hold the answers in order, and of two neighbours the first is full before the second.
pub record AreGroups (answers : List Msg) (groups : List Pdu) : Type 0 where
  pub in_order : flat_map messages_of groups ≡ answers
  pub each : AllByRecursion IsGroup groups
  pub full : (before after : List Pdu) (p q : Pdu) → groups ≡ before ++ p ∷ q ∷ after → IsFullBefore p q

-- An answer: a keep-alive, or a response with at most 1,452 bytes of parameters, so that it fits into a datagram.
abbrev pub IsAnswerMessage : Msg → Type 0
IsAnswerMessage (KeepAlive form) = ⊤
IsAnswerMessage (Response r) = length r.params ≤ most_parameter_bytes
IsAnswerMessage (Command respond c) = ⊥

-- ---- the groups, one answer after the other

-- the PDU of one message
abbrev pub pdu_of : Msg → Pdu
pdu_of (Command respond c) = Commands respond (c ∷ [])
pdu_of (Response r) = Responses (r ∷ [])
pdu_of (KeepAlive form) = OneKeepAlive form

-- The responses with one more: in one PDU where that has at most 1,472 bytes, and else in a PDU of its own.
abbrev pub with_response : List ResponseFields → ResponseFields → List Pdu
with_response rs r =
    if nat_le (length (pdu_encoding (Responses (rs ++ r ∷ [])))) largest_datagram then Responses (rs ++ r ∷ []) ∷ []
    else Responses rs ∷ Responses (r ∷ []) ∷ []

-- The last group with one more answer: a response may join responses, and any other answer begins a group.
abbrev pub last_with : Pdu → Msg → List Pdu
last_with (Responses rs) (Response r) = with_response rs r
last_with (Responses rs) (KeepAlive form) = Responses rs ∷ OneKeepAlive form ∷ []
last_with (Responses rs) (Command respond c) = Responses rs ∷ pdu_of (Command respond c) ∷ []
last_with (OneKeepAlive form) m = OneKeepAlive form ∷ pdu_of m ∷ []
last_with (Commands respond cs) m = Commands respond cs ∷ pdu_of m ∷ []

-- one or more groups with one more answer
abbrev pub from_with : Pdu → List Pdu → Msg → List Pdu
from_with p [] m = last_with p m
from_with p (q ∷ groups) m = p ∷ from_with q groups m

-- the groups with one more answer
abbrev pub with_answer : List Pdu → Msg → List Pdu
with_answer [] m = pdu_of m ∷ []
with_answer (p ∷ groups) m = from_with p groups m

-- the groups with these answers after theirs
abbrev pub with_answers : List Pdu → List Msg → List Pdu
with_answers groups [] = groups
with_answers groups (m ∷ answers) = with_answers (with_answer groups m) answers

-- the groups of answers
abbrev pub groups_of : List Msg → List Pdu
groups_of answers = with_answers [] answers

-- the datagrams of groups
abbrev pub encodings : List Pdu → List (List ℕ)
encodings groups = map pdu_encoding groups

-- THE LAW OF THE GROUPS: `groups_of` gives the one and only groups of answers.
abbrev pub AnswersHaveOneGrouping : Type 0
AnswersHaveOneGrouping = (answers : List Msg) → AllByRecursion IsAnswerMessage answers →
    AreGroups answers (groups_of answers)
    × ((groups : List Pdu) → AreGroups answers groups → groups ≡ groups_of answers)
