-- Going through bytes that were checked: what was read of them does not depend on where they stand, and how reading begins.
use Rattle.oca_pdu.proofs.Words.{◌≡◌, ℕ, zero, suc, ◌-◌, ◌+◌, ◌≤◌, ◌<◌, Bool, true, false, cond, eqb, ltb, List, [], ◌∷◌, ◌++◌, length, take, drop, Result, Ok, Err, refl, sym, ap, ◌∙◌, arith, ◌||◌, not, is_ok, Option, Some, None, slice_index, w16, w32, from_be_bytes, eqb-true, ne_eqb, length-drop, PduFault, PduFaultKind, Sync, Version, PduSize, PduType, Count, MessageSize, Truncated, Kind, Content, Seconds, Millis, Msg, KeepAlive, ◌>>=◌, fault, number_at, least_size, message_in, content_of, read_or_none}
use Rattle.std.specs.Result.{result_ok}
use Rattle.std.proofs.lemmas.Bool.{ltb-false, eqb-false, eq-eqb}
use Rattle.std.proofs.lemmas.List.{take_all}
use Rattle.oca_pdu.specs.declared.message.Content.TheVariants as contents
use Rattle.oca_pdu.specs.Reading.{message_at, messages_at, keep_alive_at, content_at, inside_at, pdu_at, pdus_at}
use Rattle.oca_pdu.proofs.MessageLoop.{ok_is}

-- ---- what was read, whatever the fault

same_or_none : (r s : Result (List Msg) PduFault) → result_ok r ≡ result_ok s → read_or_none r ≡ read_or_none s
same_or_none (Ok x) (Ok y) e =
    let same : x ≡ y = cc in same
same_or_none (Ok x) (Err g) e = absurd cc
same_or_none (Err f) (Ok y) e = absurd cc
same_or_none (Err f) (Err g) e = refl

same_is_ok : {A : Type 0} (r s : Result A PduFault) → result_ok r ≡ result_ok s → is_ok r ≡ is_ok s
same_is_ok (Ok x) (Ok y) e = refl
same_is_ok (Ok x) (Err g) e = absurd cc
same_is_ok (Err f) (Ok y) e = absurd cc
same_is_ok (Err f) (Err g) e = refl

same_bind : {A B : Type 0} (r s : Result A PduFault) (f g : A → Result B PduFault) → result_ok r ≡ result_ok s → ((x : A) → r ≡ Ok x → result_ok (f x) ≡ result_ok (g x)) → result_ok (r >>= f) ≡ result_ok (s >>= g)
same_bind (Ok x) (Ok y) f g e h =
    let same : x ≡ y = cc in
    h x refl ∙ ap (λ z. result_ok (g z)) same
same_bind (Ok x) (Err d) f g e h = absurd cc
same_bind (Err c) (Ok y) f g e h = absurd cc
same_bind (Err c) (Err d) f g e h = refl

same_guard : {A : Type 0} (b : Bool) (c d : PduFault) (r s : Result A PduFault) → result_ok r ≡ result_ok s → result_ok (cond b (Err c) r) ≡ result_ok (cond b (Err d) s)
same_guard true c d r s e = refl
same_guard false c d r s e = e

same_else : {A : Type 0} (b : Bool) (c d : PduFault) (r s : Result A PduFault) → result_ok r ≡ result_ok s → result_ok (cond b r (Err c)) ≡ result_ok (cond b s (Err d))
same_else true c d r s e = e
same_else false c d r s e = refl

same_choice : {A : Type 0} (b : Bool) (x : Result A PduFault) (r s : Result A PduFault) → result_ok r ≡ result_ok s → result_ok (cond b x r) ≡ result_ok (cond b x s)
same_choice true x r s e = refl
same_choice false x r s e = e

abbrev at_fault : PduFaultKind → ℕ → PduFault
at_fault kind at = record { kind = kind; at = at }

message_same : (kind : Kind) (m m' : ℕ) (bytes : List ℕ) → result_ok (message_at kind m bytes) ≡ result_ok (message_at kind m' bytes)
unfolding message_at
message_same kind m m' bytes =
    same_guard (ltb (length bytes) 4) (at_fault MessageSize m) (at_fault MessageSize m') _ _
    (same_guard (ltb (number_at w32 0 bytes) (least_size kind) || ltb (length bytes) (number_at w32 0 bytes)) (at_fault MessageSize m) (at_fault MessageSize m') _ _ refl)

messages_same : (kind : Kind) (n p m p' m' : ℕ) (bytes : List ℕ) → result_ok (messages_at kind n p m bytes) ≡ result_ok (messages_at kind n p' m' bytes)
unfolding messages_at
messages_same kind zero p m p' m' bytes = same_else (eqb (length bytes) 0) (at_fault Count (p + 8)) (at_fault Count (p' + 8)) (Ok []) (Ok []) refl
messages_same kind (suc n) p m p' m' bytes =
    same_guard (eqb (length bytes) 0) (at_fault Count (p + 8)) (at_fault Count (p' + 8)) _ _
    (same_bind (message_at kind m bytes) (message_at kind m' bytes) _ _ (message_same kind m m' bytes) (λ first e.
    same_bind (messages_at kind n p (m + (length bytes - length first.1)) first.1) (messages_at kind n p' (m' + (length bytes - length first.1)) first.1) _ _
    (messages_same kind n p (m + (length bytes - length first.1)) p' (m' + (length bytes - length first.1)) first.1) (λ others e. refl)))

keep_alive_same : (p p' : ℕ) (bytes : List ℕ) → result_ok (keep_alive_at p bytes) ≡ result_ok (keep_alive_at p' bytes)
unfolding keep_alive_at
keep_alive_same p p' bytes =
    same_choice (eqb (length bytes) 2) _ _ _ (same_else (eqb (length bytes) 4) (at_fault MessageSize (p + 10)) (at_fault MessageSize (p' + 10)) _ _ refl)

content_same : (o : Option Content) (count p p' : ℕ) (body : List ℕ) → result_ok (content_at o count p body) ≡ result_ok (content_at o count p' body)
unfolding content_at
content_same None count p p' body = refl
content_same (Some (contents.Messages kind)) count p p' body = same_guard (eqb count 0) (at_fault Count (p + 8)) (at_fault Count (p' + 8)) _ _ (messages_same kind count p (p + 10) p' (p' + 10) body)
content_same (Some contents.KeepAlive) count p p' body = same_guard (not (eqb count 1)) (at_fault Count (p + 8)) (at_fault Count (p' + 8)) _ _ (keep_alive_same p p' body)

inside_same : (p p' : ℕ) (bytes : List ℕ) → result_ok (inside_at p bytes) ≡ result_ok (inside_at p' bytes)
unfolding inside_at
inside_same p p' bytes = content_same (content_of (slice_index bytes 7)) (number_at w16 8 bytes) p p' (drop 10 bytes)

pdu_same : (p p' : ℕ) (bytes : List ℕ) → result_ok (pdu_at p bytes) ≡ result_ok (pdu_at p' bytes)
unfolding pdu_at
pdu_same p p' bytes =
    same_guard (not (eqb (slice_index bytes 0) 0x3B)) (at_fault Sync p) (at_fault Sync p') _ _
    (same_guard (ltb (length bytes) 3) (at_fault Truncated (p + 1)) (at_fault Truncated (p' + 1)) _ _
    (same_guard (not (eqb (number_at w16 1 bytes) 1)) (at_fault Version (p + 1)) (at_fault Version (p' + 1)) _ _
    (same_guard (ltb (length bytes) 7) (at_fault Truncated (p + 3)) (at_fault Truncated (p' + 3)) _ _
    (same_guard (ltb (number_at w32 3 bytes) 11) (at_fault PduSize (p + 3)) (at_fault PduSize (p' + 3)) _ _
    (same_guard (ltb (length bytes) (1 + number_at w32 3 bytes)) (at_fault Truncated (p + 3)) (at_fault Truncated (p' + 3)) _ _
    (same_bind (inside_at p (take (1 + number_at w32 3 bytes) bytes)) (inside_at p' (take (1 + number_at w32 3 bytes) bytes)) _ _ (inside_same p p' (take (1 + number_at w32 3 bytes) bytes)) (λ ms e. refl)))))))

-- ---- how reading begins

guard_ok : {A : Type 0} (b : Bool) (d : PduFault) (r : Result A PduFault) (y : A) → cond b (Err d) r ≡ Ok y → (b ≡ false) × (r ≡ Ok y)
guard_ok true d r y e = absurd cc
guard_ok false d r y e = (refl, e)

guard_else : {A : Type 0} (b : Bool) (d : PduFault) (r : Result A PduFault) (y : A) → cond b r (Err d) ≡ Ok y → (b ≡ true) × (r ≡ Ok y)
guard_else true d r y e = (refl, e)
guard_else false d r y e = absurd cc

bind_ok : {A B : Type 0} (r : Result A PduFault) (f : A → Result B PduFault) (y : B) → (r >>= f) ≡ Ok y → (x : A) × (r ≡ Ok x) × (f x ≡ Ok y)
bind_ok (Ok x) f y e = (x, refl, e)
bind_ok (Err d) f y e = absurd cc

or_false : (a b : Bool) → (a || b) ≡ false → (a ≡ false) × (b ≡ false)
or_false true b e = absurd cc
or_false false b e = (refl, e)

pub record MessageOpens (kind : Kind) (bytes : List ℕ) (y : Msg × List ℕ) : Type 0 where
  pub four : 4 ≤ length bytes
  pub least : least_size kind ≤ number_at w32 0 bytes
  pub within : number_at w32 0 bytes ≤ length bytes
  pub is : (message_in kind (take (number_at w32 0 bytes) bytes), drop (number_at w32 0 bytes) bytes) ≡ y

message_opens : (kind : Kind) (m : ℕ) (bytes : List ℕ) (y : Msg × List ℕ) → message_at kind m bytes ≡ Ok y → MessageOpens kind bytes y
unfolding message_at
message_opens kind m bytes y e =
    let size : ℕ = number_at w32 0 bytes in
    let made : Msg × List ℕ = (message_in kind (take size bytes), drop size bytes) in
    let a = guard_ok (ltb (length bytes) 4) (at_fault MessageSize m) _ y e in
    let b = guard_ok (ltb size (least_size kind) || ltb (length bytes) size) (at_fault MessageSize m) (Ok made) y a.1 in
    let tests = or_false (ltb size (least_size kind)) (ltb (length bytes) size) b.0 in
    record { four = ltb-false _ _ a.0; least = ltb-false _ _ tests.0; within = ltb-false _ _ tests.1; is = ok_is made y b.1 }

-- what a result gives
given : {A : Type 0} (r : Result A PduFault) → is_ok r ≡ true → (x : A) × (r ≡ Ok x)
given (Ok x) e = (x, refl)
given (Err f) e = absurd cc

pub record MessagesOpen (kind : Kind) (n : ℕ) (bytes : List ℕ) : Type 0 where
  pub four : 4 ≤ length bytes
  pub least : least_size kind ≤ number_at w32 0 bytes
  pub within : number_at w32 0 bytes ≤ length bytes
  pub others : is_ok (messages_at kind (n - 1) 0 0 (drop (number_at w32 0 bytes) bytes)) ≡ true
  pub all : read_or_none (messages_at kind n 0 0 bytes) ≡ message_in kind (take (number_at w32 0 bytes) bytes) ∷ read_or_none (messages_at kind (n - 1) 0 0 (drop (number_at w32 0 bytes) bytes))

messages_open_by : (kind : Kind) (n : ℕ) (bytes : List ℕ) (ms : List Msg) → messages_at kind (suc n) 0 0 bytes ≡ Ok ms → MessagesOpen kind (suc n) bytes
unfolding messages_at
messages_open_by kind n bytes ms e =
    let size : ℕ = number_at w32 0 bytes in
    let g = guard_ok (eqb (length bytes) 0) (at_fault Count (0 + 8)) _ ms e in
    let a = bind_ok (message_at kind 0 bytes) (λ first. messages_at kind n 0 (0 + (length bytes - length first.1)) first.1 >>= λ others. Ok (first.0 ∷ others)) ms g.1 in
    let b = bind_ok (messages_at kind n 0 (0 + (length bytes - length a.0.1)) a.0.1) (λ others. Ok (a.0.0 ∷ others)) ms a.2 in
    let o = message_opens kind 0 bytes a.0 a.1 in
    let behind : drop size bytes ≡ a.0.1 = ap (λ (y : Msg × List ℕ). y.1) o.is in
    let first : message_in kind (take size bytes) ≡ a.0.0 = ap (λ (y : Msg × List ℕ). y.0) o.is in
    let k : suc n - 1 ≡ n = omega arith in
    let same : result_ok (messages_at kind (suc n - 1) 0 0 (drop size bytes)) ≡ result_ok (messages_at kind n 0 (0 + (length bytes - length a.0.1)) a.0.1)
    = rw k (ap (λ (l : List ℕ). result_ok (messages_at kind n 0 0 l)) behind ∙ messages_same kind n 0 0 0 (0 + (length bytes - length a.0.1)) a.0.1) in
    let others : read_or_none (messages_at kind (suc n - 1) 0 0 (drop size bytes)) ≡ b.0 = same_or_none _ _ same ∙ ap read_or_none b.1 in
    record {
      four = o.four;
      least = o.least;
      within = o.within;
      others = same_is_ok _ _ same ∙ ap is_ok b.1;
      all = ap read_or_none e ∙ sym (ok_is _ ms b.2) ∙ ap (λ (m : Msg). m ∷ b.0) (sym first) ∙ ap (λ (l : List Msg). message_in kind (take size bytes) ∷ l) (sym others);
    }

pub messages_open : (kind : Kind) (n : ℕ) (bytes : List ℕ) → 0 < n → is_ok (messages_at kind n 0 0 bytes) ≡ true → MessagesOpen kind n bytes
messages_open kind zero bytes some ok = absurd (omega (arith, some))
messages_open kind (suc n) bytes some ok =
    let g = given (messages_at kind (suc n) 0 0 bytes) ok in
    messages_open_by kind n bytes g.0 g.1

pub record PduOpens (bytes : List ℕ) (y : List Msg × List ℕ) : Type 0 where
  pub least : 11 ≤ number_at w32 3 bytes
  pub within : 1 + number_at w32 3 bytes ≤ length bytes
  pub inside : (p : ℕ) × (inside_at p (take (1 + number_at w32 3 bytes) bytes) ≡ Ok y.0)
  pub behind : drop (1 + number_at w32 3 bytes) bytes ≡ y.1

pdu_opens : (p : ℕ) (bytes : List ℕ) (y : List Msg × List ℕ) → pdu_at p bytes ≡ Ok y → PduOpens bytes y
unfolding pdu_at
pdu_opens p bytes y e =
    let size : ℕ = number_at w32 3 bytes in
    let a = guard_ok (not (eqb (slice_index bytes 0) 0x3B)) (at_fault Sync p) _ y e in
    let b = guard_ok (ltb (length bytes) 3) (at_fault Truncated (p + 1)) _ y a.1 in
    let c = guard_ok (not (eqb (number_at w16 1 bytes) 1)) (at_fault Version (p + 1)) _ y b.1 in
    let d = guard_ok (ltb (length bytes) 7) (at_fault Truncated (p + 3)) _ y c.1 in
    let f = guard_ok (ltb size 11) (at_fault PduSize (p + 3)) _ y d.1 in
    let g = guard_ok (ltb (length bytes) (1 + size)) (at_fault Truncated (p + 3)) _ y f.1 in
    let i = bind_ok (inside_at p (take (1 + size) bytes)) (λ ms. Ok (ms, drop (1 + size) bytes)) y g.1 in
    let made : List Msg × List ℕ = (i.0, drop (1 + size) bytes) in
    let is : made ≡ y = ok_is made y i.2 in
    record {
      least = ltb-false _ _ f.0;
      within = ltb-false _ _ g.0;
      inside = (p, i.1 ∙ ap (λ (z : List Msg × List ℕ). Ok z.0) is);
      behind = ap (λ (z : List Msg × List ℕ). z.1) is;
    }

pdus_same : (n n' p p' : ℕ) (bytes : List ℕ) → length bytes ≤ n → length bytes ≤ n' → result_ok (pdus_at n p bytes) ≡ result_ok (pdus_at n' p' bytes)
unfolding pdus_at
pdus_same zero zero p p' bytes le le' = refl
pdus_same zero (suc n') p p' bytes le le' =
    let none : eqb (length bytes) 0 ≡ true = eq-eqb _ _ (omega (arith, le)) in
    rw none refl
pdus_same (suc n) zero p p' bytes le le' =
    let none : eqb (length bytes) 0 ≡ true = eq-eqb _ _ (omega (arith, le')) in
    rw none refl
pdus_same (suc n) (suc n') p p' bytes le le' =
    same_choice (eqb (length bytes) 0) _ _ _
    (same_bind (pdu_at p bytes) (pdu_at p' bytes) _ _ (pdu_same p p' bytes) (λ first e.
    let o = pdu_opens p bytes first e in
    let less : length first.1 ≤ n = omega (arith, le, ap length o.behind, length-drop (1 + number_at w32 3 bytes) bytes, o.within) in
    let less' : length first.1 ≤ n' = omega (arith, le', ap length o.behind, length-drop (1 + number_at w32 3 bytes) bytes, o.within) in
    same_bind (pdus_at n (p + (length bytes - length first.1)) first.1) (pdus_at n' (p' + (length bytes - length first.1)) first.1) _ _
    (pdus_same n n' (p + (length bytes - length first.1)) (p' + (length bytes - length first.1)) first.1 less less') (λ others e. refl)))

-- the first PDU, and the others
pub record PdusOpen (bytes : List ℕ) : Type 0 where
  pub least : 11 ≤ number_at w32 3 bytes
  pub within : 1 + number_at w32 3 bytes ≤ length bytes
  pub inside : is_ok (inside_at 0 (take (1 + number_at w32 3 bytes) bytes)) ≡ true
  pub others : is_ok (pdus_at (length (drop (1 + number_at w32 3 bytes) bytes)) 0 (drop (1 + number_at w32 3 bytes) bytes)) ≡ true
  pub all : read_or_none (pdus_at (length bytes) 0 bytes) ≡ read_or_none (inside_at 0 (take (1 + number_at w32 3 bytes) bytes)) ++ read_or_none (pdus_at (length (drop (1 + number_at w32 3 bytes) bytes)) 0 (drop (1 + number_at w32 3 bytes) bytes))

choice_ok : {A : Type 0} (b : Bool) (x r : Result A PduFault) → b ≡ false → cond b x r ≡ r
choice_ok true x r e = absurd cc
choice_ok false x r e = refl

pdus_open_by : (n : ℕ) (bytes : List ℕ) (ms : List Msg) → length bytes ≡ suc n → pdus_at (suc n) 0 bytes ≡ Ok ms → PdusOpen bytes
unfolding pdus_at
pdus_open_by n bytes ms len e =
    let size : ℕ = number_at w32 3 bytes in
    let rest : List ℕ = drop (1 + size) bytes in
    let there : eqb (length bytes) 0 ≡ false = ne_eqb _ _ (λ z. omega (arith, z, len)) in
    let g = sym (choice_ok (eqb (length bytes) 0) (Ok []) _ there) ∙ e in
    let a = bind_ok (pdu_at 0 bytes) (λ first. pdus_at n (0 + (length bytes - length first.1)) first.1 >>= λ others. Ok (first.0 ++ others)) ms g in
    let b = bind_ok (pdus_at n (0 + (length bytes - length a.0.1)) a.0.1) (λ others. Ok (a.0.0 ++ others)) ms a.2 in
    let o = pdu_opens 0 bytes a.0 a.1 in
    let at : ℕ = 0 + (length bytes - length a.0.1) in
    let less : length rest ≤ n = omega (arith, len, length-drop (1 + size) bytes, o.within) in
    let same : result_ok (pdus_at (length rest) 0 rest) ≡ result_ok (pdus_at n at a.0.1) = pdus_same (length rest) n 0 at rest (omega arith) less ∙ ap (λ (l : List ℕ). result_ok (pdus_at n at l)) o.behind in
    let others : read_or_none (pdus_at (length rest) 0 rest) ≡ b.0 = same_or_none _ _ same ∙ ap read_or_none b.1 in
    let inside : result_ok (inside_at 0 (take (1 + size) bytes)) ≡ result_ok (inside_at o.inside.0 (take (1 + size) bytes)) = inside_same 0 o.inside.0 (take (1 + size) bytes) in
    let these : read_or_none (inside_at 0 (take (1 + size) bytes)) ≡ a.0.0 = same_or_none _ _ inside ∙ ap read_or_none o.inside.1 in
    let whole : pdus_at (length bytes) 0 bytes ≡ Ok ms = ap (λ (k : ℕ). pdus_at k 0 bytes) len ∙ e in
    record {
      least = o.least;
      within = o.within;
      inside = same_is_ok _ _ inside ∙ ap is_ok o.inside.1;
      others = same_is_ok _ _ same ∙ ap is_ok b.1;
      all = ap read_or_none whole ∙ sym (ok_is _ ms b.2) ∙ ap (λ (l : List Msg). l ++ b.0) (sym these) ∙ ap (λ (l : List Msg). read_or_none (inside_at 0 (take (1 + size) bytes)) ++ l) (sym others);
    }

pub pdus_open : (bytes : List ℕ) → 0 < length bytes → is_ok (pdus_at (length bytes) 0 bytes) ≡ true → PdusOpen bytes
pdus_open [] some ok = absurd (omega (arith, some))
pdus_open (b ∷ bytes) some ok =
    let g = given (pdus_at (length (b ∷ bytes)) 0 (b ∷ bytes)) ok in
    pdus_open_by (length bytes) (b ∷ bytes) g.0 refl g.1

-- the inside of a PDU, by its content
pub record InsideIs (bytes : List ℕ) (content : Content) : Type 0 where
  pub ok : is_ok (content_at (Some content) (number_at w16 8 bytes) 0 (drop 10 bytes)) ≡ true
  pub all : read_or_none (inside_at 0 bytes) ≡ read_or_none (content_at (Some content) (number_at w16 8 bytes) 0 (drop 10 bytes))

pub inside_is : (bytes : List ℕ) (content : Content) → content_of (slice_index bytes 7) ≡ Some content → is_ok (inside_at 0 bytes) ≡ true → InsideIs bytes content
unfolding inside_at
inside_is bytes content is ok =
    let same : inside_at 0 bytes ≡ content_at (Some content) (number_at w16 8 bytes) 0 (drop 10 bytes) = ap (λ (o : Option Content). content_at o (number_at w16 8 bytes) 0 (drop 10 bytes)) is in
    record { ok = sym (ap is_ok same) ∙ ok; all = ap read_or_none same }

pub has_content : {P : Type 0} (bytes : List ℕ) → content_of (slice_index bytes 7) ≡ None → is_ok (inside_at 0 bytes) ≡ true → P
unfolding inside_at content_at
has_content bytes is ok =
    let same : inside_at 0 bytes ≡ fault PduType (0 + 7) = ap (λ (o : Option Content). content_at o (number_at w16 8 bytes) 0 (drop 10 bytes)) is in
    let no : false ≡ true = sym (ap is_ok same) ∙ ok in
    absurd cc

-- the messages that are the content of a PDU
pub record ContentIs (kind : Kind) (count : ℕ) (body : List ℕ) : Type 0 where
  pub some : 0 < count
  pub ok : is_ok (messages_at kind count 0 0 body) ≡ true
  pub all : read_or_none (content_at (Some (contents.Messages kind)) count 0 body) ≡ read_or_none (messages_at kind count 0 0 body)

positive : (n : ℕ) → (n ≡ 0 → ⊥) → 0 < n
positive zero h = absurd (h refl)
positive (suc n) h = omega arith

pub content_is : (kind : Kind) (count : ℕ) (body : List ℕ) → is_ok (content_at (Some (contents.Messages kind)) count 0 body) ≡ true → ContentIs kind count body
unfolding content_at
content_is kind count body ok =
    let g = given (content_at (Some (contents.Messages kind)) count 0 body) ok in
    let h = guard_ok (eqb count 0) (at_fault Count (0 + 8)) (messages_at kind count 0 10 body) g.0 g.1 in
    let same = messages_same kind count 0 10 0 0 body in
    record {
      some = positive count (eqb-false _ _ h.0);
      ok = sym (same_is_ok _ _ same) ∙ ap is_ok h.1;
      all = ap read_or_none (g.1 ∙ sym h.1) ∙ same_or_none _ _ same;
    }

-- the keep-alive that is the content of a PDU
pub record KeepAliveIs (count : ℕ) (body : List ℕ) : Type 0 where
  pub ok : is_ok (keep_alive_at 0 body) ≡ true
  pub all : content_at (Some contents.KeepAlive) count 0 body ≡ keep_alive_at 0 body

pub keep_alive_is : (count : ℕ) (body : List ℕ) → is_ok (content_at (Some contents.KeepAlive) count 0 body) ≡ true → KeepAliveIs count body
unfolding content_at
keep_alive_is count body ok =
    let g = given (content_at (Some contents.KeepAlive) count 0 body) ok in
    let h = guard_ok (not (eqb count 1)) (at_fault Count (0 + 8)) (keep_alive_at 0 body) g.0 g.1 in
    record { ok = ap is_ok h.1; all = g.1 ∙ sym h.1 }

-- ---- as the steps take it

pub step_inside : (kind : Kind) (n size : ℕ) (inside front back : List ℕ) (others : List Msg) (m : Msg) → MessagesOpen kind n inside → size ≡ number_at w32 0 inside → front ≡ take size inside → back ≡ drop size inside → m ≡ message_in kind front
    → read_or_none (messages_at kind n 0 0 inside) ++ others ≡ m ∷ (read_or_none (messages_at kind (n - 1) 0 0 back) ++ others)
step_inside kind n size inside front back others m o e1 e2 e3 e4 =
    ap (λ (l : List Msg). l ++ others) o.all ∙ rw (e4, e2, e3, e1) refl

pub left_inside : (kind : Kind) (n size : ℕ) (inside back : List ℕ) → MessagesOpen kind n inside → size ≡ number_at w32 0 inside → back ≡ drop size inside → is_ok (messages_at kind (n - 1) 0 0 back) ≡ true
left_inside kind n size inside back o e1 e2 = rw (e2, e1) o.others

pub none_left : (kind : Kind) → messages_at kind 0 0 0 [] ≡ Ok []
unfolding messages_at
none_left kind = refl

pub seconds_of : (bytes : List ℕ) (n : ℕ) → length bytes ≡ 2 → n ≡ from_be_bytes w16 bytes → keep_alive_at 0 bytes ≡ Ok (KeepAlive (Seconds n) ∷ [])
unfolding keep_alive_at
seconds_of bytes n two is =
    let a : eqb (length bytes) 2 ≡ true = eq-eqb _ _ two in
    let all : take 2 bytes ≡ bytes = take_all 2 bytes (omega (arith, two)) in
    rw (a, all, is) refl

pub is_four : (bytes : List ℕ) → (length bytes ≡ 2 → ⊥) → is_ok (keep_alive_at 0 bytes) ≡ true → length bytes ≡ 4
unfolding keep_alive_at
is_four bytes other ok =
    let g = given (keep_alive_at 0 bytes) ok in
    let a : eqb (length bytes) 2 ≡ false = ne_eqb _ _ other in
    let h = sym (choice_ok (eqb (length bytes) 2) _ _ a) ∙ g.1 in
    let k = guard_else (eqb (length bytes) 4) (at_fault MessageSize (0 + 10)) _ g.0 h in
    eqb-true _ _ k.0

pub millis_of : (bytes : List ℕ) (n : ℕ) → length bytes ≡ 4 → n ≡ from_be_bytes w32 bytes → keep_alive_at 0 bytes ≡ Ok (KeepAlive (Millis n) ∷ [])
unfolding keep_alive_at
millis_of bytes n four is =
    let a : eqb (length bytes) 2 ≡ false = ne_eqb _ _ (λ e. omega (arith, e, four)) in
    let b : eqb (length bytes) 4 ≡ true = eq-eqb _ _ four in
    let all : take 4 bytes ≡ bytes = take_all 4 bytes (omega (arith, four)) in
    rw (a, b, all, is) refl

-- how a PDU at the front is parted
pub record Parts (bytes : List ℕ) (size : ℕ) (pdu rest : List ℕ) : Type 0 where
  pub size_is : size ≡ number_at w32 3 bytes
  pub pdu_is : pdu ≡ take (1 + size) bytes
  pub rest_is : rest ≡ drop (1 + size) bytes

pub inside_ok : (bytes : List ℕ) (size : ℕ) (pdu rest : List ℕ) → PdusOpen bytes → Parts bytes size pdu rest → is_ok (inside_at 0 pdu) ≡ true
inside_ok bytes size pdu rest o p = rw (p.pdu_is, p.size_is) o.inside

pub rest_ok : (bytes : List ℕ) (size : ℕ) (pdu rest : List ℕ) → PdusOpen bytes → Parts bytes size pdu rest → is_ok (pdus_at (length rest) 0 rest) ≡ true
rest_ok bytes size pdu rest o p = rw (p.rest_is, p.size_is) o.others

all_of : (bytes : List ℕ) (size : ℕ) (pdu rest : List ℕ) → PdusOpen bytes → Parts bytes size pdu rest → read_or_none (pdus_at (length bytes) 0 bytes) ≡ read_or_none (inside_at 0 pdu) ++ read_or_none (pdus_at (length rest) 0 rest)
all_of bytes size pdu rest o p = rw (p.rest_is, p.pdu_is, p.size_is) o.all

body_is : (pdu body : List ℕ) (count : ℕ) (content : Content) → body ≡ drop 10 pdu → count ≡ number_at w16 8 pdu
    → content_at (Some content) count 0 body ≡ content_at (Some content) (number_at w16 8 pdu) 0 (drop 10 pdu)
body_is pdu body count content e1 e2 = rw (e1, e2) refl

pub content_ok : (bytes : List ℕ) (size : ℕ) (pdu rest body : List ℕ) (count : ℕ) (content : Content) → PdusOpen bytes → Parts bytes size pdu rest → content_of (slice_index pdu 7) ≡ Some content → body ≡ drop 10 pdu → count ≡ number_at w16 8 pdu
    → is_ok (content_at (Some content) count 0 body) ≡ true
content_ok bytes size pdu rest body count content o p is e1 e2 =
    let i = inside_is pdu content is (inside_ok bytes size pdu rest o p) in
    ap is_ok (body_is pdu body count content e1 e2) ∙ i.ok

pub step_behind : (bytes : List ℕ) (size : ℕ) (pdu rest body : List ℕ) (count : ℕ) (content : Content) (all : List Msg) → PdusOpen bytes → Parts bytes size pdu rest → content_of (slice_index pdu 7) ≡ Some content → body ≡ drop 10 pdu → count ≡ number_at w16 8 pdu
    → read_or_none (content_at (Some content) count 0 body) ++ read_or_none (pdus_at (length rest) 0 rest) ≡ all → read_or_none (pdus_at (length bytes) 0 bytes) ≡ all
step_behind bytes size pdu rest body count content all o p is e1 e2 e =
    let i = inside_is pdu content is (inside_ok bytes size pdu rest o p) in
    let these : read_or_none (inside_at 0 pdu) ≡ read_or_none (content_at (Some content) count 0 body) = i.all ∙ ap read_or_none (sym (body_is pdu body count content e1 e2)) in
    all_of bytes size pdu rest o p ∙ ap (λ (l : List Msg). l ++ read_or_none (pdus_at (length rest) 0 rest)) these ∙ e

-- a PDU of messages at the front, of which none is taken yet
pub record Begins (bytes : List ℕ) (kind : Kind) (count : ℕ) (body rest : List ℕ) : Type 0 where
  pub some : 0 < count
  pub ok : is_ok (messages_at kind count 0 0 body) ≡ true
  pub all : read_or_none (pdus_at (length bytes) 0 bytes) ≡ read_or_none (messages_at kind count 0 0 body) ++ read_or_none (pdus_at (length rest) 0 rest)

pub begins : (bytes : List ℕ) (size : ℕ) (pdu rest body : List ℕ) (count : ℕ) (content : Content) (kind : Kind) → PdusOpen bytes → Parts bytes size pdu rest → content_of (slice_index pdu 7) ≡ Some content → content ≡ contents.Messages kind
    → body ≡ drop 10 pdu → count ≡ number_at w16 8 pdu → Begins bytes kind count body rest
begins bytes size pdu rest body count content kind o p is kind_is e1 e2 =
    let is_messages = is ∙ ap (λ (c : Content). Some c) kind_is in
    let i = content_is kind count body (content_ok bytes size pdu rest body count (contents.Messages kind) o p is_messages e1 e2) in
    let others : List Msg = read_or_none (pdus_at (length rest) 0 rest) in
    record {
      some = i.some;
      ok = i.ok;
      all = step_behind bytes size pdu rest body count (contents.Messages kind) _ o p is_messages e1 e2 (ap (λ (l : List Msg). l ++ others) i.all);
    }

-- a keep-alive at the front
pub record Passes (bytes body rest : List ℕ) : Type 0 where
  pub ok : is_ok (keep_alive_at 0 body) ≡ true
  pub all : (ms : List Msg) → keep_alive_at 0 body ≡ Ok ms → read_or_none (pdus_at (length bytes) 0 bytes) ≡ ms ++ read_or_none (pdus_at (length rest) 0 rest)

pub passes : (bytes : List ℕ) (size : ℕ) (pdu rest body : List ℕ) (content : Content) → PdusOpen bytes → Parts bytes size pdu rest → content_of (slice_index pdu 7) ≡ Some content → content ≡ contents.KeepAlive → body ≡ drop 10 pdu → Passes bytes body rest
passes bytes size pdu rest body content o p is kind_is e1 =
    let is_keep_alive = is ∙ ap (λ (c : Content). Some c) kind_is in
    let count : ℕ = number_at w16 8 pdu in
    let i = keep_alive_is count body (content_ok bytes size pdu rest body count contents.KeepAlive o p is_keep_alive e1 refl) in
    let others : List Msg = read_or_none (pdus_at (length rest) 0 rest) in
    record {
      ok = i.ok;
      all = λ ms e. step_behind bytes size pdu rest body count contents.KeepAlive _ o p is_keep_alive e1 refl (ap (λ (r : Result (List Msg) PduFault). read_or_none r ++ others) (i.all ∙ e));
    }

none_begun : (kind : Kind) (bytes : List ℕ) → read_or_none (messages_at kind 0 0 0 bytes) ≡ []
unfolding messages_at
none_begun kind bytes = elim (eqb (length bytes) 0) as (λ b. read_or_none (cond b (Ok []) (fault Count (0 + 8))) ≡ []) [ true ↦ refl | false ↦ refl ]

no_pdus : (bytes : List ℕ) → length bytes ≡ 0 → read_or_none (pdus_at (length bytes) 0 bytes) ≡ []
unfolding pdus_at
no_pdus [] e = refl
no_pdus (b ∷ bytes) e = absurd (omega (arith, e))

-- nothing is left of the PDU that was begun
pub only_pdus : (kind : Kind) (left : ℕ) (inside rest : List ℕ) → left ≡ 0 → read_or_none (messages_at kind left 0 0 inside) ++ read_or_none (pdus_at (length rest) 0 rest) ≡ read_or_none (pdus_at (length rest) 0 rest)
only_pdus kind left inside rest none = rw (none, none_begun kind inside) refl

pub nothing_left : (kind : Kind) (left : ℕ) (inside rest : List ℕ) → left ≡ 0 → length rest ≡ 0 → read_or_none (messages_at kind left 0 0 inside) ++ read_or_none (pdus_at (length rest) 0 rest) ≡ []
nothing_left kind left inside rest none end = only_pdus kind left inside rest none ∙ no_pdus rest end
