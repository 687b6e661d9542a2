-- What is true of a link after a history: its state by the calls alone.
use Rattle.oca_control.proofs.Words.{◌≡◌, ℕ, ◌+◌, ◌<◌, ◌≤◌, Bool, true, false, cond, List, [], ◌∷◌, ◌++◌, length, Option, Some, None, refl, arith, nat_eq, AllByRecursion, nat_tests, eqb-true, Peer}
use Rattle.oca_control.proofs.Words.{CommandFields, AnswerFields, Untaken, holds, LinkState, new_link, handle_after, command_accepted, Sending, first_of, RiseFrom, IsCopy, AreSendingsApart, on_bool}

-- ---- numbers, tests and lists

-- The test finds a number equal to itself.
pub equal_self : (a : ℕ) → nat_eq a a ≡ true
equal_self a = grind (arith, nat_tests)

-- The test finds a number unequal to a greater one.
pub unequal : (a b : ℕ) → a < b → nat_eq a b ≡ false
unequal a b h = grind (arith, nat_tests)

-- What follows from what holds of each member holds of each.
pub each_map : {X : Type 0} {P Q : X → Type 0} → ((x : X) → P x → Q x) → (xs : List X) → AllByRecursion P xs → AllByRecursion Q xs
each_map f [] e = tt
each_map f (x ∷ xs) e = (f x e.0, each_map f xs e.1)

-- What follows from two facts that hold of each member holds of each.
pub each_both : {X : Type 0} {P Q R : X → Type 0} → ((x : X) → P x → Q x → R x) → (xs : List X) → AllByRecursion P xs → AllByRecursion Q xs → AllByRecursion R xs
each_both f [] p q = tt
each_both f (x ∷ xs) p q = (f x p.0 q.0, each_both f xs p.1 q.1)

-- What holds of each member of two lists holds of each of the two joined.
pub each_append : {X : Type 0} (P : X → Type 0) (xs ys : List X) → AllByRecursion P xs → AllByRecursion P ys → AllByRecursion P (xs ++ ys)
each_append P [] ys p q = q
each_append P (x ∷ xs) ys p q = (p.0, each_append P xs ys p.1 q)

-- ---- what is true of a link

-- the handle after the last one that was given
abbrev pub end_of : Option ℕ → ℕ
end_of None = 4294967296
end_of (Some n) = n

-- The next handle after h is h + 1, or none is left after 4294967295, which counts as 4294967296.
pub end_after : (h : ℕ) → end_of (handle_after h) ≡ h + 1
end_after h = on_bool (nat_eq h 4294967295) (λ b. nat_eq h 4294967295 ≡ b → end_of (cond b None (Some (h + 1))) ≡ h + 1)
    (λ q. let e : h ≡ 4294967295 = eqb-true h 4294967295 q in omega arith) (λ q. refl) refl

-- The latest sending, where there is one, was at this moment.
abbrev pub IsLast : ℕ → List Sending → Type 0
IsLast t [] = Unit {0}
IsLast t (x ∷ before) = x.at ≡ t

-- of an untaken command, but its answer
pub record IsSent (s n : ℕ) (accepted : List CommandFields) (sent : ℕ → List Sending) (c : CommandFields) (times last : ℕ) : Type 0 where
  pub command : command_accepted c.handle accepted ≡ Some c
  pub count : times ≡ length (sent c.handle)
  pub last_is : IsLast last (sent c.handle)
  pub below : c.handle < n
  pub near : n ≤ c.handle + s

-- What a link holds of each untaken command, but its answer, agrees with the accepted commands and its sendings.
abbrev pub AreSent : ℕ → ℕ → List CommandFields → (ℕ → List Sending) → List Untaken → Type 0
AreSent s n accepted sent us = AllByRecursion (λ u. IsSent s n accepted sent u.command u.times u.last) us

-- The answer that each untaken command has is the first one that came to its handle.
abbrev pub AreAnswered : (ℕ → List AnswerFields) → List Untaken → Type 0
AreAnswered came us = AllByRecursion (λ u. u.answer ≡ first_of (came u.command.handle)) us

-- A link FOLLOWS ITS HISTORY: it holds what these accepted commands, sendings, answers that came and untaken handles
-- say, and they are lawful.
pub record Follows (device : Peer) (first s t : ℕ) (accepted : List CommandFields) (sent : ℕ → List Sending) (came : ℕ → List AnswerFields) (open_at : ℕ → Bool) (l : LinkState) : Type 0 where
  pub device_is : l.device ≡ device
  pub moment_is : l.moment ≡ t
  pub span_is : l.span ≡ s
  pub next_is : end_of l.next ≡ first + length accepted
  pub held : (h : ℕ) → holds h l.untaken ≡ open_at h
  pub are_sent : AreSent s (first + length accepted) accepted sent l.untaken
  pub are_answered : AreAnswered came l.untaken
  pub fresh : (h : ℕ) → first + length accepted ≤ h → sent h ≡ []
  pub handles : RiseFrom first accepted
  pub copies : (h : ℕ) → AllByRecursion (λ x. IsCopy h accepted x.bytes) (sent h)
  pub at_most_20 : (h : ℕ) → length (sent h) ≤ 20
  pub apart : (h : ℕ) → AreSendingsApart (sent h)

-- ---- a new link

-- A new link follows the empty history.
pub opens : (device : Peer) (first opened s : ℕ) → Follows device first s opened [] (λ h. []) (λ h. []) (λ h. false) (new_link device first opened s)
opens device first opened s = record {
  device_is = refl;
  moment_is = refl;
  span_is = refl;
  next_is = omega arith;
  held = λ h. refl;
  are_sent = tt;
  are_answered = tt;
  fresh = λ h q. refl;
  handles = tt;
  copies = λ h. tt;
  at_most_20 = λ h. omega arith;
  apart = λ h. tt;
}
